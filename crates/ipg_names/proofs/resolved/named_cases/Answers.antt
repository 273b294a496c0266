use Rattle.std.proofs.Common.{◌∙◌, refl, map}
use Rattle.ipg_names.specs.Resolved.{case_in}
use Rattle.ipg_names_scope.specs.Site.{spot_scope}
use Rattle.ipg_names.proofs.Turns.{made_turn, made_done}
use Rattle.ipg_names.proofs.resolved.named_cases.Goals as goal

pub loop-case-init : goal.loop-case-init
loop-case-init c = rw c.in_ok-made.ensures.items refl

pub loop-case-preserved : goal.loop-case-preserved
loop-case-preserved c =
    let case = case_in (spot_scope c.args.spot.now) in
    rw (c.in_ok-push.ensures.items, c.in_ok-named_case.ensures)
    (made_turn (λ n xs. map case xs) (λ n x. case x) (λ n x xs. refl) (λ n. refl) _ _ _ _ _ _ c.case-item.is c.loop-case-test.true refl c.loop-case.invariant)

pub returns : goal.returns
returns c =
    let case = case_in (spot_scope c.args.spot.now) in
    c.from_vec.ensures
    ∙ made_done (λ n xs. map case xs) (λ n x. case x) (λ n x xs. refl) (λ n. refl) _ _ _ _ c.loop-case-test.false c.loop-case.invariant
