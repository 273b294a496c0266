use Rattle.std.proofs.Common.{ap, ◌++◌, ◌∙◌}
use Rattle.std.proofs.lemmas.Option.{slice_get-get_or}
use Rattle.ipg_app_values.specs.Notes.{IsLine}
use Rattle.ipg_app_values.proofs.Turns.{next}
use Rattle.ipg_app_values.proofs.noted.lines.Goals as goal

pub loop-number-preserved : goal.loop-number-preserved
loop-number-preserved c =
    let there = slice_get-get_or _ _ 0 c.loop-number-test.true in
    let longer = c.in_ok-extend_from_slice.ensures.items ∙ ap (λ own. c.loop-number.text.items ++ own) c.deref.ensures.value in
    next (IsLine c.args.ground.written.now c.args.ground.calls.grammar.now c.args.ground.calls.marks.now c.args.ground.eoi) c.loop-number.number-index
    c.args.cycle.now _ c.loop-number.text.items c.in_ok-line.line.items c.extend_from_slice.new.self.items there c.loop-number.invariant
    c.in_ok-line.ensures longer
