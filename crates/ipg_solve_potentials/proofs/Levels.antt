-- Levels stay small, and there is less room below them after each is lowered.
use Rattle.std.proofs.Common.{◌≡◌, ℕ, ◌+◌, ◌*◌, ◌^◌, ◌<◌, ◌≤◌, eqb, eqb-true, inl, inr, true, false, ◌||◌}
use Rattle.std.proofs.Common.{ℤ, pos, ◌+ℤ◌, List, [], ◌∷◌, length, set, refl, sym, ap, subst, arith}
use Rattle.std.specs.Prelude.{◌≤ℤ◌, ◌<ℤ◌}
use Rattle.std.specs.Int.RustNames.{unsigned_abs}
use Rattle.std.specs.List.{AllByRecursion, list_any}
use Rattle.std.proofs.lemmas.Int.{ints}
use Rattle.std.proofs.lemmas.Bool.{cases_eq, cases_lt}
use Rattle.std.proofs.lemmas.List.{length-map, length-set, get_or-set_same, get_or-set_other, get_or_past}
use Rattle.std.proofs.lemmas.List.Sums.{sum_by-set}
use Rattle.std.proofs.lemmas.Map.Steps.{length-le_from_distinct_below}
use Rattle.ipg_solve_potentials.specs.declared.difference.Difference.{Difference}
use Rattle.ipg_solve_potentials.specs.declared.trail.Stop.{Stop}
use Rattle.ipg_solve_potentials.specs.Falls.{level_at, edge_at, AreEdges}
use Rattle.ipg_solve_potentials.specs.Trails.{AreSmall, IsAbove, LeadsTo, State, nodes_of, trail_at, room}

node_below : (levels : List ℤ) (trail : List Stop) → AllByRecursion (IsAbove levels) trail → (q : ℕ) → list_any (eqb q) (nodes_of trail) ≡ true
    → q < length levels
node_below levels [] above q is = absurd (cc)
node_below levels (stop ∷ trail) above q is =
    elim (eqb q stop.node) as (λ b. eqb q stop.node ≡ b → (b || list_any (eqb q) (nodes_of trail)) ≡ true → q < length levels) [
      | true ↦ λ e _. subst (λ k. k < length levels) (sym (eqb-true q stop.node e)) above.0.0
      | false ↦ λ _ rest. node_below levels trail above.1 q rest
    ] refl is

-- a trail that passes no node twice has no more stops than there are nodes
pub trail_short : (edges : List Difference) (levels : List ℤ) (node : ℕ) (trail : List Stop) → LeadsTo edges levels node trail → length trail ≤ length levels
trail_short edges levels node trail leads =
    omega (
      arith,
      length-map trail (λ (s : Stop). s.node),
      length-le_from_distinct_below (nodes_of trail) (length levels) leads.apart
          (node_below levels trail leads.above),
    )

pub small_level : (edges : List Difference) (levels : List ℤ) (node : ℕ) (trail : List Stop) → LeadsTo edges levels node trail
    → unsigned_abs (level_at levels node) ≤ length levels * 2 ^ 64
small_level edges levels node trail leads = omega (arith, leads.size, trail_short edges levels node trail leads)

pub levels_small : (edges : List Difference) (levels : List ℤ) (trails : List (List Stop)) → State edges levels trails → AreSmall levels
levels_small edges levels trails state node =
    elim (cases_lt node (length levels)) [
      | inl within ↦ small_level edges levels node (trail_at trails node) (state.lead node within)
      | inr past ↦ subst (λ z. unsigned_abs z ≤ length levels * 2 ^ 64) (sym (get_or_past levels node (pos 0) past)) (omega arith)
    ]

-- a level and a fall are far from the end of 128 bits
pub edge_fits : (edges : List Difference) (levels lent : List ℤ) (trails : List (List Stop)) (n : ℕ) → AreEdges (length levels) edges → length levels ≤ 2 ^ 22
    → State edges levels trails → n < length edges → lent ≡ levels
    → unsigned_abs (level_at lent (edge_at edges n).from) + unsigned_abs (edge_at edges n).fall < 2 ^ 127
edge_fits edges levels lent trails n joined few state within same =
    omega (
      arith,
      (joined n within).2,
      levels_small edges levels trails state (edge_at edges n).from,
      ap (λ ls. unsigned_abs (level_at ls (edge_at edges n).from)) same,
    )

-- no level rises where one is lowered
pub set_below : (levels : List ℤ) (to : ℕ) (level : ℤ) → to < length levels → level ≤ℤ level_at levels to → (x : ℕ)
    → level_at (set levels to level) x ≤ℤ level_at levels x
set_below levels to level within low x =
    elim (cases_eq x to) [
      | inl same ↦ subst (λ k. level_at (set levels to level) k ≤ℤ level_at levels k) (sym same)
          (subst (λ z. z ≤ℤ level_at levels to) (sym (get_or-set_same levels to level (pos 0) within)) low)
      | inr other ↦ subst (λ z. z ≤ℤ level_at levels x) (sym (get_or-set_other levels to x level (pos 0) other)) (omega (arith, ints))
    ]

pub above_stays : (levels : List ℤ) (to : ℕ) (level : ℤ) → to < length levels → level ≤ℤ level_at levels to → (trail : List Stop)
    → AllByRecursion (IsAbove levels) trail → AllByRecursion (IsAbove (set levels to level)) trail
above_stays levels to level within low [] above = above
above_stays levels to level within low (stop ∷ trail) above = (
  (omega (arith, length-set levels to level, above.0.0), omega (arith, ints, above.0.1, set_below levels to level within low stop.node)),
  above_stays levels to level within low trail above.1,
)

less_room : (most : ℕ) (low high : ℤ) → low <ℤ high → unsigned_abs low ≤ most → unsigned_abs (low +ℤ pos most) < unsigned_abs (high +ℤ pos most)
less_room most low high h small = omega (arith, ints)

pub room_falls : (most : ℕ) (levels : List ℤ) (to : ℕ) (level : ℤ) → to < length levels → level <ℤ level_at levels to → unsigned_abs level ≤ most
    → room most (set levels to level) < room most levels
room_falls most levels to level within low small =
    omega (arith, sum_by-set (λ (z : ℤ). unsigned_abs (z +ℤ pos most)) levels to level (pos 0) within, less_room most level (level_at levels to) low small)
