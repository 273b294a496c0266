use Rattle.std.proofs.Common.{sym, ap, ◌∙◌}
use Rattle.std.specs.Option.{option_copied}
use Rattle.ipg_table.specs.Rows.{HoldsInstr}
use Rattle.ipg_mach.proofs.Rows as rows
use Rattle.ipg_mach.proofs.reader.Reader.scene.Goals as goal

pub returns-in-Some : goal.returns-in-Some
returns-in-Some g c src frames lower call input work =
    let top = c.args.top.now in
    let one = rows.some_left (HoldsInstr c.args.self.now.tables.now call.terms) top.frame.left.now call.left _ work.at_work.is_open.left
    (sym c.first.ensures.value ∙ ap option_copied c.in-Some.is) in
    c.scene_at.ensures src frames lower call one.0 _ input work one.2 one.1

pub returns-in-None : goal.returns-in-None
returns-in-None g c src frames lower call input work =
    rows.none_left (HoldsInstr c.args.self.now.tables.now call.terms) c.args.top.now.frame.left.now call.left work.at_work.is_open.left
    (sym c.first.ensures.value ∙ ap option_copied c.in-None.is)
