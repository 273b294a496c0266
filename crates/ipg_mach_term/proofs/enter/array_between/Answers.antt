use Rattle.std.proofs.Common.{w64}
use Rattle.std.proofs.lemmas.Int.{to_z-of_z}
use Rattle.ipg_mach_term.proofs.Entering as entering
use Rattle.ipg_mach_term.proofs.enter.array_between.Goals as goal

pub returns-then-left-eq0 : goal.returns-then-left-eq0
returns-then-left-eq0 c src st at n u state name is =
    let first = to_z-of_z w64 c.args.first c.ranges.first in
    let last = to_z-of_z w64 c.args.last c.ranges.last in
    entering.none src st at n u state c.args.sym name is c.args.first c.args.last c.count-left.result
    (entering.counted _ _ _ _ _ first last c.count-left.ensures) c.if-left-eq0.true

pub returns-else-left-eq0 : goal.returns-else-left-eq0
returns-else-left-eq0 c src st at n u state name is =
    let first = to_z-of_z w64 c.args.first c.ranges.first in
    let last = to_z-of_z w64 c.args.last c.ranges.last in
    entering.some src st at n u state c.args.sym name is c.args.first c.args.last c.count-left.result _
    (entering.counted _ _ _ _ _ first last c.count-left.ensures) c.if-left-eq0.false first c.ranges.first c.ranges.last
