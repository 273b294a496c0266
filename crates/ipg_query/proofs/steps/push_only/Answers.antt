use Rattle.std.proofs.Common.{sym}
use Rattle.std.proofs.lemmas.Result.{on_ok_weaker}
use Rattle.ipg_query.proofs.Chosen.{chosen, none_chosen}
use Rattle.ipg_query.proofs.steps.push_only.Goals as goal

pub returns-in-Some : goal.returns-in-Some
returns-in-Some c src st xs before from made =
    on_ok_weaker c.push.result
    (λ put. rw put (chosen src st c.args.from.now c.args.spots.now.items xs before c.args.nth _ (sym c.in-Some.ensures) from made))
    c.push.ensures

pub returns-in-None : goal.returns-in-None
returns-in-None c src st xs before from made =
    none_chosen src st c.args.from.now c.args.spots.now.items xs before c.args.nth (sym c.in-None.ensures) from made
