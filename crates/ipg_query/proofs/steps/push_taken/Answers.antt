use Rattle.std.proofs.Common.{◌++◌, subst}
use Rattle.std.proofs.lemmas.Result.{on_ok_weaker}
use Rattle.ipg_query.specs.Picked.{below}
use Rattle.ipg_query.specs.Spots.{AreSpots}
use Rattle.ipg_query.proofs.Naming.{any_kept}
use Rattle.ipg_query.proofs.steps.push_taken.Goals as goal

pub returns-in-Children : goal.returns-in-Children
returns-in-Children g c src grammar x before stand is made =
    on_ok_weaker c.push_below-in-Children.result
    (λ h. rw c.in-Children.is (subst (λ xs. AreSpots src c.args.p.now.parse.store c.push_below-in-Children.new.spots.items (before ++ xs))
    (any_kept grammar (below x)) h))
    (c.push_below-in-Children.ensures src grammar x before stand is made)
