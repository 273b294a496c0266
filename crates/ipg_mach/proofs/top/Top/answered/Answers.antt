use Rattle.std.proofs.Common.{sym, ap, ◌∙◌}
use Rattle.std.specs.Option.{option_copied}
use Rattle.ipg_core.specs.Run.{stop}
use Rattle.ipg_mach_moves.specs.Moves.{first_left, always}
use Rattle.ipg_table.specs.Rows.{HoldsInstr}
use Rattle.ipg_mach.proofs.Answered as answered
use Rattle.ipg_mach.proofs.Rows as rows
use Rattle.ipg_mach.proofs.top.Top.answered.Goals as goal

pub returns-in-Some : goal.returns-in-Some
returns-in-Some g c src frames lower call ask answer work asks ends valid inside sub =
    let t = c.args.tables.now in
    let top = c.args.self.now in
    let one = rows.some_left (HoldsInstr t call.terms) top.frame.left.now call.left _ work.at_work.is_open.left
    (sym c.first.ensures.value ∙ ap option_copied c.in-Some.is) in
    answered.answers src top.store top.frame call ask answer c.args.kid c.taken.result c.answered_is_taken.ensures one.0 _ one.1.term one.2 one.1.is_term asks
    (λ given parsed. c.taken.ensures src top.frame.from _ one.0 call.state _ call.entry one.1.term given work.at_work.is_open.call.syms one.1.holds work.entry
    parsed)
    (answered.is_parsed src top.store top.frame ask answer c.sub_ends_by.ensures valid inside ends c.args.kid sub)

pub returns-in-None : goal.returns-in-None
unfolding stop
returns-in-None g c src frames lower call ask answer work asks ends valid inside sub =
    let left = work.at_work.is_open.left in
    let none = rows.none_left (HoldsInstr c.args.tables.now call.terms) c.args.self.now.frame.left.now call.left left
    (sym c.first.ensures.value ∙ ap option_copied c.in-None.is) in
    ap (λ l. (first_left (always answer) call l).answer) none
