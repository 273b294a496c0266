use Rattle.std.proofs.Common.{◌≡◌, ◌<◌, ◌≤◌, ℕ, arith, ap, ◌∙◌, get_or, min, max, true, not, ◌&&◌}
use Rattle.std.proofs.lemmas.Bool.Decides.{nat_tests}
use Rattle.ipg_tree_view.specs.Bare.{is_among}
use Rattle.ipg_tree_view.proofs.bare.strike.Goals as goal

among_same : (from to place p len end : ℕ) → p < len → end ≡ min to len → from ≤ place → place ≤ max from end → end ≤ place
    → is_among from place p ≡ is_among from to p
among_same from to place p len end short least begun ends all = grind (arith, nat_tests)

pub returns-clause-struck : goal.returns-clause-struck
returns-clause-struck c p short =
    let h = c.loop-place.invariant in
    h.struck p short ∙ ap (λ b. get_or c.args.bare.now p true && not b)
    (among_same c.args.from c.args.to c.loop-place.place p _ _ short h.end h.from h.ends c.loop-place-test.false)
