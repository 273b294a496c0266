use Rattle.std.proofs.Common.{sym, ap, ◌∙◌, subst, length, Option, Some}
use Rattle.ipg_core.specs.declared.grammar.CoreTerm.{CoreTerm}
use Rattle.ipg_core.specs.Part.{part}
use Rattle.ipg_mach_moves.specs.Moves as moves
use Rattle.ipg_mach_slot.specs.Found.{LiesAt}
use Rattle.ipg_mach_term.specs.Advance.{IsAtHand, IsEntry}
use Rattle.ipg_mach.specs.Piled.{below}
use Rattle.ipg_mach.specs.Calls.{size_of, items_in}
use Rattle.ipg_mach.proofs.Reading as reading
use Rattle.ipg_mach.proofs.Working as working
use Rattle.ipg_mach.proofs.reader.Reader.at_instr.Goals as goal

pub returns-clause-found : goal.returns-clause-found
returns-clause-found g c src frames lower call u rest input work is_left holds =
    let t = c.args.self.now.tables.now in
    let top = c.args.top.now in
    let frame = top.frame in
    let is_open = work.at_work.is_open in
    let items = items_in call.entry in
    let bytes = c.part-bytes.result.now in
    let here = c.part-bytes.ensures.part ∙ ap (λ s. part s frame.from frame.to) (sym input) in
    let whole = working.part_size t src frame (below top.piles frame.base) call.frame call.from is_open.call in
    let size = ap length (here ∙ sym is_open.call.bytes) ∙ whole in
    let stands = reading.view_stands _ src items call is_open whole size c.part-bytes.ensures.small u holds.term holds.is_term holds.number
    work.entry holds.holds in
    let found = c.at_hand.ensures.found src frame.from u call.frame call.state items call.entry holds.term stands holds.holds holds.number
    (subst (λ n. IsEntry n frame.entry items call.entry) (sym size) work.entry) (record {
      syms = is_open.call.syms;
      part = is_open.call.bytes ∙ sym here;
      lies = subst (LiesAt src.input frame.from) (sym here) (reading.lies src.input frame.from frame.to);
    }) in
    let runs = ap (λ l. moves.first_left moves.silent call l) is_left
    ∙ ap (λ (o : Option CoreTerm). moves.advance moves.silent call.frame call.state u call.entry o) holds.is_term in
    subst (λ run. IsAtHand src top.store frame.from (size_of frame) u call.state items call.frame frame.entry c.at_hand.result run) (sym runs)
    (subst (λ n. IsAtHand src top.store frame.from n u call.state items call.frame frame.entry c.at_hand.result
    (moves.advance moves.silent call.frame call.state u call.entry (Some holds.term))) size found)
