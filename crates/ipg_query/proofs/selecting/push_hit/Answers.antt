use Rattle.ipg_query.proofs.Going.{hit_put, no_hit}
use Rattle.ipg_query.proofs.selecting.push_hit.Goals as goal

pub returns-in_ok-push-in-Some : goal.returns-in_ok-push-in-Some
returns-in_ok-push-in-Some g c src grammar x before shares is made =
    hit_put _ _ before _ c.in-Some.hit (c.in-Some.ensures src grammar x shares is) made c.in_ok-push-in-Some.ensures.items

pub returns-in-None : goal.returns-in-None
returns-in-None g c src grammar x before shares is made = no_hit _ before _ (c.in-None.ensures src grammar x shares is) made
