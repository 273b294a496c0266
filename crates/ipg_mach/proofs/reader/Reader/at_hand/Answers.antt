use Rattle.std.proofs.Common.{sym, ap, ◌∙◌, subst}
use Rattle.std.specs.Option.{option_copied}
use Rattle.ipg_core.specs.Run.{stop}
use Rattle.ipg_mach_moves.specs.Moves.{first_left, silent, at_hand}
use Rattle.ipg_table.specs.Rows.{HoldsInstr}
use Rattle.ipg_mach_term.specs.Advance.{IsAtHand}
use Rattle.ipg_mach.specs.Calls.{size_of, items_in, term_at_hand}
use Rattle.ipg_mach.proofs.Rows as rows
use Rattle.ipg_mach.proofs.reader.Reader.at_hand.Goals as goal

pub returns-in-Some-clause-found : goal.returns-in-Some-clause-found
returns-in-Some-clause-found g c src frames lower call input work =
    let top = c.args.top.now in
    let left = work.at_work.is_open.left in
    let one = rows.some_left (HoldsInstr c.args.self.now.tables.now call.terms) top.frame.left.now call.left _ left
    (sym c.first.ensures.value ∙ ap option_copied c.in-Some.is) in
    subst (λ u. IsAtHand src top.store top.frame.from (size_of top.frame) u call.state (items_in call.entry) call.frame top.frame.entry c.at_instr.result
    (at_hand silent call)) (sym (ap term_at_hand one.2))
    (c.at_instr.ensures.found src frames lower call one.0 _ input work one.2 one.1)

pub returns-in-None-clause-found : goal.returns-in-None-clause-found
unfolding stop
returns-in-None-clause-found g c src frames lower call input work =
    let left = work.at_work.is_open.left in
    let none = rows.none_left (HoldsInstr c.args.self.now.tables.now call.terms) c.args.top.now.frame.left.now call.left left
    (sym c.first.ensures.value ∙ ap option_copied c.in-None.is) in
    (ap (λ l. (first_left silent call l).asked) none, ap (λ l. (first_left silent call l).answer) none)
