-- A trail that comes to a node that it has passed.
use Rattle.std.proofs.Common.{◌≡◌, ℕ, zero, suc, ◌<◌, ◌≤◌, true, ℤ, pos, ◌+ℤ◌, List, [], ◌∷◌, length, take, length-take, refl, sym, ◌∙◌, ap, subst, arith}
use Rattle.std.specs.Prelude.{◌≤ℤ◌, ◌<ℤ◌}
use Rattle.std.specs.List.{AllByRecursion}
use Rattle.std.proofs.lemmas.Int.{ints}
use Rattle.std.proofs.lemmas.List.{length-map}
use borrow.Author.Differences.{same_in}
use Rattle.ipg_solve_potentials.specs.declared.difference.Difference.{Difference}
use Rattle.ipg_solve_potentials.specs.declared.trail.Stop.{Stop}
use Rattle.ipg_solve_potentials.specs.declared.settling.Potentials.{Potentials}
use Rattle.ipg_solve_potentials.specs.declared.settling.Potentials.TheVariants.{Levels, Circle}
use Rattle.ipg_solve_potentials.specs.Falls.{level_at, edge_at, AreEdges, LeadBack, AllFall, fall_of, IsCircle, IsExact, Settles}
use Rattle.ipg_solve_potentials.specs.Trails.{IsTrail, IsAbove, IsWrong, LeadsTo, State, stop_at, trail_at, edges_of, is_wrong}
use Rattle.ipg_solve_potentials.proofs.Levels.{trail_short}

-- the edges since a stop lead back to it
leads_back : (edges : List Difference) (stop : Stop) (trail : List Stop) (place : ℕ) → IsTrail edges (stop ∷ trail) → place < length (stop ∷ trail)
    → LeadBack edges stop.node (edges_of (take place (stop ∷ trail))) (stop_at (stop ∷ trail) place).node
leads_back edges stop trail zero is within = refl
leads_back edges stop [] (suc place) is within = absurd (omega arith)
leads_back edges stop (before ∷ trail) (suc place) is within = (
  is.0,
  is.1,
  subst (λ node. LeadBack edges node (edges_of (take place (before ∷ trail))) (stop_at (before ∷ trail) place).node) (sym is.2)
      (leads_back edges before trail place is.4 (omega arith)),
)

-- and they fall by the difference of the levels
falls_back : (edges : List Difference) (stop : Stop) (trail : List Stop) (place : ℕ) → IsTrail edges (stop ∷ trail) → place < length (stop ∷ trail)
    → fall_of edges (edges_of (take place (stop ∷ trail))) +ℤ stop.level ≡ (stop_at (stop ∷ trail) place).level
falls_back edges stop trail zero is within = same_in _ _ (omega (arith, ints))
falls_back edges stop [] (suc place) is within = absurd (omega arith)
falls_back edges stop (before ∷ trail) (suc place) is within = same_in _ _ (omega (arith, ints, is.3, falls_back edges before trail place is.4 (omega arith)))

above_at : (levels : List ℤ) (trail : List Stop) (place : ℕ) → AllByRecursion (IsAbove levels) trail → place < length trail
    → IsAbove levels (stop_at trail place)
above_at levels [] place above within = absurd (omega arith)
above_at levels (stop ∷ trail) zero above within = above.0
above_at levels (stop ∷ trail) (suc place) above within = above_at levels trail place above.1 (omega arith)

pub wrong_is : (levels : List ℤ) (edge : Difference) → is_wrong levels edge ≡ true → level_at levels edge.from <ℤ (level_at levels edge.to +ℤ edge.fall)
wrong_is levels edge h = omega (arith, ints)

rises : (from to fall rest tip start : ℤ) → from <ℤ (to +ℤ fall) → tip ≡ from → to ≤ℤ start → rest +ℤ tip ≡ start → pos 0 <ℤ (fall +ℤ rest)
rises from to fall rest tip start wrong is above back = omega (arith, ints)

-- an edge that the levels break closes a circle that falls where the trail has passed its end
pub closes : (edges : List Difference) (levels : List ℤ) (n : ℕ) (trail : List Stop) (place : ℕ) → IsWrong levels edges n
    → LeadsTo edges levels (edge_at edges n).from trail → place < length trail → (stop_at trail place).node ≡ (edge_at edges n).to
    → IsCircle edges (n ∷ edges_of (take place trail))
closes edges levels n [] place wrong leads within is = absurd (omega arith)
closes edges levels n (tip ∷ trail) place wrong leads within is =
    let edge = edge_at edges n in
    let start = stop_at (tip ∷ trail) place in
    let since : List ℕ = edges_of (take place (tip ∷ trail)) in
    let above : level_at levels edge.to ≤ℤ start.level = subst (λ node. level_at levels node ≤ℤ start.level) is
    (above_at levels (tip ∷ trail) place leads.above within).1 in
    let back : LeadBack edges tip.node since edge.to = subst (LeadBack edges tip.node since) is (leads_back edges tip trail place leads.is_trail within) in (
      edge.to,
      (wrong.0, refl, subst (λ node. LeadBack edges node since edge.to) leads.ends back),
      rises (level_at levels edge.from) (level_at levels edge.to) edge.fall (fall_of edges since) tip.level start.level
          (wrong_is levels edge wrong.1) leads.level above (falls_back edges tip trail place leads.is_trail within),
    )

pub circle_found : (edges : List Difference) (levels : List ℤ) (trails : List (List Stop)) (n : ℕ) (seen lent : List Stop) (place : ℕ) (circle : List ℕ)
    → State edges levels trails → AreEdges (length levels) edges → IsWrong levels edges n
    → seen ≡ trail_at trails (edge_at edges n).from → lent ≡ trail_at trails (edge_at edges n).from
    → (place < length seen) × ((stop_at seen place).node ≡ (edge_at edges n).to) → circle ≡ n ∷ edges_of (take place lent)
    → IsCircle edges circle × (length circle ≤ length levels)
circle_found edges levels trails n seen lent place circle state joined wrong same again passes is =
    let trail = trail_at trails (edge_at edges n).from in
    let leads : LeadsTo edges levels (edge_at edges n).from trail = state.lead (edge_at edges n).from (joined n wrong.0).0 in
    let here : (place < length trail) × ((stop_at trail place).node ≡ (edge_at edges n).to) =
    subst (λ ss. (place < length ss) × ((stop_at ss place).node ≡ (edge_at edges n).to)) same passes in
    let made : circle ≡ n ∷ edges_of (take place trail) = is ∙ ap (λ ss. n ∷ edges_of (take place ss)) again in (
      subst (IsCircle edges) (sym made) (closes edges levels n trail place wrong leads here.0 here.1),
      omega (
        arith,
        ap length made,
        length-map (take place trail) (λ (s : Stop). s.edge),
        length-take place trail,
        trail_short edges levels (edge_at edges n).from trail leads,
        here.0,
      ),
    )

-- levels that fall along each edge fall as far as a way back does
back_falls : (edges : List Difference) (levels : List ℤ) → AllFall levels edges → (node : ℕ) (ns : List ℕ) (start : ℕ) → LeadBack edges node ns start
    → (level_at levels node +ℤ fall_of edges ns) ≤ℤ level_at levels start
back_falls edges levels falls node [] start back = omega (arith, ints, ap (level_at levels) back)
back_falls edges levels falls node (n ∷ ns) start back =
    omega (arith, ints, falls n back.0, ap (level_at levels) back.1, back_falls edges levels falls (edge_at edges n).from ns start back.2)

pub is_exact : (nodes : ℕ) (edges : List Difference) (settled : Potentials) → Settles nodes edges settled → IsExact edges settled
is_exact nodes edges (Levels levels) settles = (λ _. (levels, settles.1), λ _. refl)
is_exact nodes edges (Circle circle) settles =
    (λ h. absurd (cc), λ fall. absurd (omega (arith, ints, settles.0.2, back_falls edges fall.0 fall.1 settles.0.0 circle settles.0.0 settles.0.1)))
