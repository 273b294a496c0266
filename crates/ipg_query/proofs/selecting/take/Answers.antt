use Rattle.std.proofs.Common.{◌≡◌, [], ◌∷◌, reverse, subst}
use Rattle.std.proofs.lemmas.Result.{on_ok_weaker}
use Rattle.ipg_query.specs.Spots.{IsSpot, Comes, left_at, seen}
use Rattle.ipg_query.proofs.Coming.{step_taken}
use Rattle.ipg_query.proofs.Going.{nothing}
use Rattle.ipg_query.proofs.selecting.take.Goals as goal

pub returns-in_ok-push_taken-in-Some : goal.returns-in_ok-push_taken-in-Some
returns-in_ok-push_taken-in-Some g c src grammar xs stand some comes =
    let st = c.args.p.now.parse.store in
    let spot = c.args.next.spot in
    let step = c.in-Some.step.now in
    let rest = c.in-Some.rest.now in
    let pile = seen c.args.pile.now.items in
    let split : c.args.next.steps.now ≡ step ∷ rest = c.in-Some.ensures.cases.0 in
    on_ok_weaker c.pile_up.result
    (λ put. step_taken src st grammar spot step rest pile (seen c.pile_deeper.new.pile.items) (seen c.pile_up.new.pile.items) c.deref.result.now
    (λ x ys is below. c.in_ok-pile_deeper-in-Some.ensures src grammar rest x ys split is below)
    (λ x is. rw c.deref.ensures.value
    (c.in_ok-push_taken-in-Some.ensures src grammar x [] stand is (nothing (IsSpot src st) c.clear.new.self.items c.clear.ensures.items)))
    put xs
    (subst (λ ss. Comes src st grammar (left_at ss spot ∷ reverse pile) xs) split comes))
    c.pile_up.ensures
