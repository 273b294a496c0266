use Rattle.std.proofs.Common.{w64}
use Rattle.std.proofs.lemmas.Int.{to_z-of_z}
use Rattle.ipg_mach_term.proofs.Entering as entering
use Rattle.ipg_mach_term.proofs.enter.many_between.Goals as goal

pub returns-in-Some : goal.returns-in-Some
returns-in-Some c src st at u f state size =
    let same = entering.same_ends _ _ c.args.from _ c.args.to _ _ size (to_z-of_z w64 c.args.from c.ranges.from)
    (to_z-of_z w64 c.args.to c.ranges.to) c.in-Some.ensures.valid in
    entering.turns src st at c.args.size u state _ (c.in-Some.at, c.in-Some.to) same c.in-Some.ensures.inside.0 c.in-Some.ensures.inside.1

pub returns-in-None : goal.returns-in-None
returns-in-None c src st at u f state size =
    entering.no_turns src st at c.args.size u state _
    (entering.same_ends _ _ c.args.from _ c.args.to _ _ size (to_z-of_z w64 c.args.from c.ranges.from) (to_z-of_z w64 c.args.to c.ranges.to)
    c.in-None.ensures.valid)
