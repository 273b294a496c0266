-- The state after a level is lowered.
use Rattle.std.proofs.Common.{◌≡◌, ℕ, ◌+◌, ◌*◌, ◌^◌, ◌<◌, ◌≤◌, inl, inr, nat_eq, ℤ, pos, ◌-ℤ◌, List, []}
use Rattle.std.proofs.Common.{◌∷◌, length, set, replicate, refl, sym, ◌∙◌, ap, subst, arith, rules}
use Rattle.std.specs.Prelude.{None, ◌≤ℤ◌, ◌<ℤ◌}
use Rattle.std.specs.Int.RustNames.{unsigned_abs}
use Rattle.std.proofs.lemmas.Int.{ints}
use Rattle.std.proofs.lemmas.Bool.{cases_eq}
use Rattle.std.proofs.lemmas.List.{length-set, length-replicate, get_or-set_same, get_or-set_other, get_or-replicate}
use Rattle.std.proofs.lemmas.Map.Keys.{IsDistinct-cons, IsDistinct-from_apart}
use borrow.Author.Differences.{same_in}
use Rattle.ipg_solve_potentials.specs.declared.difference.Difference.{Difference}
use Rattle.ipg_solve_potentials.specs.declared.trail.Stop.{Stop}
use Rattle.ipg_solve_potentials.specs.Falls.{level_at, edge_at, IsEdge, AreEdges}
use Rattle.ipg_solve_potentials.specs.Trails.{IsTrail, IsWrong, PassesBy, LeadsTo, State, Lowers, AreStarts, stop_at, trail_at, nodes_of}
use Rattle.ipg_solve_potentials.proofs.Circles.{wrong_is}
use Rattle.ipg_solve_potentials.proofs.Levels.{small_level, above_stays, room_falls}

-- the level to which the edge's end is lowered
abbrev pub reached : List ℤ → Difference → ℤ
reached levels edge = level_at levels edge.from -ℤ edge.fall

-- the stop at which the edge ends
abbrev pub end_stop : List ℤ → List Difference → ℕ → Stop
end_stop levels edges n = record { node = (edge_at edges n).to; level = reached levels (edge_at edges n); edge = n }

is_lower : (levels : List ℤ) (edges : List Difference) (n : ℕ) → IsWrong levels edges n
    → reached levels (edge_at edges n) <ℤ level_at levels (edge_at edges n).to
is_lower levels edges n wrong = omega (arith, ints, wrong_is levels (edge_at edges n) wrong.1)

longer_trail : (edges : List Difference) (levels : List ℤ) (n : ℕ) (trail : List Stop) → n < length edges → IsTrail edges trail → 0 < length trail
    → (stop_at trail 0).node ≡ (edge_at edges n).from → (stop_at trail 0).level ≡ level_at levels (edge_at edges n).from
    → IsTrail edges (end_stop levels edges n ∷ trail)
longer_trail edges levels n [] within is some ends level = absurd (omega arith)
longer_trail edges levels n (tip ∷ trail) within is some ends level = (within, refl, sym ends, same_in _ _ (omega (arith, ints, level)), is)

grown : (from fall : ℤ) (k n : ℕ) → n ≡ k + 1 → unsigned_abs from ≤ k * 2 ^ 64 → unsigned_abs fall ≤ 2 ^ 64 → unsigned_abs (from -ℤ fall) ≤ n * 2 ^ 64
grown from fall k n e a b = omega (arith, ints)

new_trail : (edges : List Difference) (levels : List ℤ) (n : ℕ) (trail : List Stop) → IsEdge (length levels) (edge_at edges n) → IsWrong levels edges n
    → LeadsTo edges levels (edge_at edges n).from trail → PassesBy (edge_at edges n).to trail
    → LeadsTo edges (set levels (edge_at edges n).to (reached levels (edge_at edges n))) (edge_at edges n).to (end_stop levels edges n ∷ trail)
new_trail edges levels n trail joins wrong leads by =
    let edge = edge_at edges n in
    let level = reached levels edge in
    let low = is_lower levels edges n wrong in
    let here : level_at (set levels edge.to level) edge.to ≡ level = get_or-set_same levels edge.to level (pos 0) joins.1 in
    record {
      some = omega arith;
      is_trail = longer_trail edges levels n trail wrong.0 leads.is_trail leads.some leads.ends leads.level;
      ends = refl;
      level = sym here;
      apart = IsDistinct-cons nat_eq edge.to (nodes_of trail) by leads.apart;
      above = (
        (omega (arith, length-set levels edge.to level, joins.1), omega (arith, ints, here)),
        above_stays levels edge.to level joins.1 (omega (arith, ints, low)) trail leads.above,
      );
      size = subst (λ z. unsigned_abs z ≤ length (end_stop levels edges n ∷ trail) * 2 ^ 64) (sym here)
          (grown (level_at levels edge.from) edge.fall (length trail) _ (omega arith) leads.size joins.2);
    }

old_trail : (edges : List Difference) (levels : List ℤ) (to : ℕ) (level : ℤ) (node : ℕ) (trail : List Stop) → to < length levels → level ≤ℤ level_at levels to
    → LeadsTo edges levels node trail → level_at (set levels to level) node ≡ level_at levels node
    → LeadsTo edges (set levels to level) node trail
old_trail edges levels to level node trail within low leads same =
    record {
      some = leads.some;
      is_trail = leads.is_trail;
      ends = leads.ends;
      level = leads.level ∙ sym same;
      apart = leads.apart;
      above = above_stays levels to level within low trail leads.above;
      size = subst (λ z. unsigned_abs z ≤ length trail * 2 ^ 64) (sym same) leads.size;
    }

pub lowered : (edges : List Difference) (levels : List ℤ) (trails : List (List Stop)) (n : ℕ) → AreEdges (length levels) edges → State edges levels trails
    → IsWrong levels edges n → PassesBy (edge_at edges n).to (trail_at trails (edge_at edges n).from)
    → Lowers edges levels (set levels (edge_at edges n).to (reached levels (edge_at edges n)))
    (set trails (edge_at edges n).to (end_stop levels edges n ∷ trail_at trails (edge_at edges n).from)) None
lowered edges levels trails n joined state wrong by =
    let edge = edge_at edges n in
    let level = reached levels edge in
    let joins : IsEdge (length levels) edge = joined n wrong.0 in
    let trail : List Stop = end_stop levels edges n ∷ trail_at trails edge.from in
    let low = is_lower levels edges n wrong in
    let new : LeadsTo edges (set levels edge.to level) edge.to trail =
    new_trail edges levels n (trail_at trails edge.from) joins wrong (state.lead edge.from joins.0) by in
    let same : length (set levels edge.to level) ≡ length levels = length-set levels edge.to level in
    let here : level_at (set levels edge.to level) edge.to ≡ level = get_or-set_same levels edge.to level (pos 0) joins.1 in
    let small : unsigned_abs level ≤ length levels * 2 ^ 64 =
    subst (λ k. unsigned_abs level ≤ k * 2 ^ 64) same
    (subst (λ z. unsigned_abs z ≤ length (set levels edge.to level) * 2 ^ 64) here (small_level edges (set levels edge.to level) edge.to trail new)) in (
      same,
      record {
        each = length-set trails edge.to trail ∙ state.each ∙ sym same;
        lead = λ node within.
            elim (cases_eq node edge.to) [
              | inl is ↦ subst (λ k. LeadsTo edges (set levels edge.to level) k (trail_at (set trails edge.to trail) k)) (sym is)
                  (subst (LeadsTo edges (set levels edge.to level) edge.to) (sym (get_or-set_same trails edge.to trail [] (omega (arith, state.each, joins.1))))
                  new)
              | inr other ↦ subst (LeadsTo edges (set levels edge.to level) node) (sym (get_or-set_other trails edge.to node trail [] other))
                  (old_trail edges levels edge.to level node (trail_at trails node) joins.1 (omega (arith, ints, low))
                  (state.lead node (omega (arith, same, within))) (get_or-set_other levels edge.to node level (pos 0) other))
            ];
      },
      room_falls (length levels * 2 ^ 64) levels edge.to level joins.1 low small,
    )

pub lowered_to : (edges : List Difference) (levels lent new : List ℤ) (trails : List (List Stop)) (n : ℕ) (seen trail : List Stop) (level : ℤ)
    (longer : List Stop)
    → AreEdges (length levels) edges → State edges levels trails → IsWrong levels edges n → lent ≡ levels
    → seen ≡ trail_at trails (edge_at edges n).from → trail ≡ trail_at trails (edge_at edges n).from → PassesBy (edge_at edges n).to seen
    → level ≡ reached lent (edge_at edges n) → longer ≡ record { node = (edge_at edges n).to; level = level; edge = n } ∷ trail
    → new ≡ set levels (edge_at edges n).to level → Lowers edges levels new (set trails (edge_at edges n).to longer) None
lowered_to edges levels lent new trails n seen trail level longer joined state wrong lent_is seen_is trail_is by level_is longer_is new_is =
    let edge = edge_at edges n in
    let is : level ≡ reached levels edge = level_is ∙ ap (λ ls. reached ls edge) lent_is in
    let made : longer ≡ end_stop levels edges n ∷ trail_at trails edge.from =
    longer_is ∙ ap (λ z. record { node = edge.to; level = z; edge = n } ∷ trail) is ∙ ap (λ ss. end_stop levels edges n ∷ ss) trail_is in
    subst (λ ls. Lowers edges levels ls (set trails edge.to longer) None) (sym (new_is ∙ ap (set levels edge.to) is))
    (subst (λ ss. Lowers edges levels (set levels edge.to (reached levels edge)) (set trails edge.to ss) None) (sym made)
    (lowered edges levels trails n joined state wrong (subst (PassesBy edge.to) seen_is by)))

start_leads : (edges : List Difference) (levels : List ℤ) (node : ℕ) → node < length levels → level_at levels node ≡ pos 0
    → LeadsTo edges levels node (record { node = node; level = pos 0; edge = 0 } ∷ [])
start_leads edges levels node within is =
    record {
      some = omega arith;
      is_trail = search rules;
      ends = refl;
      level = sym is;
      apart = IsDistinct-from_apart nat_eq (node ∷ []) (λ i j d h k. absurd (omega arith));
      above = ((within, omega (arith, ints, is)), search rules);
      size = subst (λ z. unsigned_abs z ≤ 1 * 2 ^ 64) (sym is) (omega arith);
    }

pub start_state : (edges : List Difference) (nodes : ℕ) (levels : List ℤ) (trails : List (List Stop)) → levels ≡ replicate nodes (pos 0)
    → AreStarts nodes trails
    → State edges levels trails
start_state edges nodes levels trails is starts =
    let count : length levels ≡ nodes = ap length is ∙ length-replicate nodes (pos 0) in
    record {
      each = starts.0 ∙ sym count;
      lead = λ node within.
          let below : node < nodes = omega (arith, count) in
          subst (LeadsTo edges levels node) (sym (starts.1 node below))
          (start_leads edges levels node within (ap (λ ls. level_at ls node) is ∙ get_or-replicate nodes node (pos 0) (pos 0) below));
    }
