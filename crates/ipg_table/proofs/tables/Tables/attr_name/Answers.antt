use Rattle.std.proofs.Common.{sym, ap, ◌∙◌, slice_get}
use Rattle.ipg_table.specs.Rows.{Rows, rows_at}
use Rattle.ipg_table.proofs.Found.{attr_there, attr_past}
use Rattle.ipg_table.proofs.tables.Tables.attr_name.Goals as goal

pub returns-in-Some : goal.returns-in-Some
returns-in-Some c = λ g s.
    let n = c.args.name in
    let at = c.in-Some.at.now in
    attr_there c.args.self.now g s n at c.rows_in.result.now
    (ap (λ (t : Rows). slice_get t.names n) (sym c.self.view_is) ∙ ap (λ l. slice_get l n) (sym c.as_slice.ensures.value) ∙ sym c.in-Some.ensures)
    (c.rows_in.ensures ∙ ap (λ l. rows_at l at) c.as_slice-in-Some.ensures.value ∙ ap (λ (t : Rows). rows_at t.bytes at) c.self.view_is)

pub returns-in-None : goal.returns-in-None
returns-in-None c = λ g s.
    let n = c.args.name in
    attr_past c.args.self.now g s n
    (ap (λ (t : Rows). slice_get t.names n) (sym c.self.view_is) ∙ ap (λ l. slice_get l n) (sym c.as_slice.ensures.value) ∙ sym c.in-None.ensures)
