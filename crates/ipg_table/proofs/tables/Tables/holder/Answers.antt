use Rattle.std.proofs.Common.{sym, ap, ◌∙◌, slice_get}
use Rattle.ipg_table.specs.Rows.{Rows}
use Rattle.ipg_table.proofs.Found.{holder_there, holder_past}
use Rattle.ipg_table.proofs.tables.Tables.holder.Goals as goal

pub returns-in-Some : goal.returns-in-Some
returns-in-Some c = λ g s.
    let n = c.args.rule in
    holder_there c.args.self.now g s n c.in-Some.row.now
    (ap (λ (t : Rows). slice_get t.rules n) (sym c.self.view_is) ∙ ap (λ l. slice_get l n) (sym c.as_slice.ensures.value) ∙ sym c.in-Some.ensures)

pub returns-in-None : goal.returns-in-None
returns-in-None c = λ g s.
    let n = c.args.rule in
    holder_past c.args.self.now g s n
    (ap (λ (t : Rows). slice_get t.rules n) (sym c.self.view_is) ∙ ap (λ l. slice_get l n) (sym c.as_slice.ensures.value) ∙ sym c.in-None.ensures)
