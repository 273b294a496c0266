use Rattle.std.proofs.Common.{[]}
use Rattle.ipg_query.specs.Spots.{IsSpot}
use Rattle.ipg_query.proofs.Going.{nothing}
use Rattle.ipg_query.proofs.steps.named.Goals as goal

pub returns : goal.returns
returns g c src grammar x stand is =
    let st = c.args.p.now.parse.store in
    c.in_ok-push_below.ensures src grammar x [] stand is (nothing (IsSpot src st) c.new-spots.result.items c.new-spots.ensures.items)
