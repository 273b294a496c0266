use Rattle.std.proofs.Common.{refl, arith}
use Rattle.ipg_query.specs.Inside.{lot_of}
use Rattle.ipg_query.proofs.Walking.{entered_none}
use Rattle.ipg_query.proofs.inside.enter.Goals as goal

pub returns-else-level-gt0-clause-entered : goal.returns-else-level-gt0-clause-entered
returns-else-level-gt0-clause-entered g c src =
    let walk = c.args.walk.now in
    let spot = c.args.spot in
    entered_none src c.args.p.now.parse.store walk.room walk.levels spot.at spot.kid c.args.size (lot_of c.level_in-level.result) walk.room walk.levels
    (c.level_in-level.ensures src) refl (omega (arith, c.if-level-gt0.false)) refl
