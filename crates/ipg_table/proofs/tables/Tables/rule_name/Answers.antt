use Rattle.std.proofs.Common.{◌<◌, length, refl, sym, ap, subst, ◌∙◌, slice_get}
use Rattle.std.proofs.lemmas.Option.{slice_get_read}
use Rattle.ipg_table.specs.Rows.{Rows, rows_at}
use Rattle.ipg_table.proofs.Found.{name_there}
use Rattle.ipg_table.proofs.tables.Tables.rule_name.Goals as goal

pub returns : goal.returns
returns c = λ g s.
    let n = c.args.rule in
    let row = c.index.result.now in
    let within = subst (λ (t : Rows). n < length t.rules) (sym c.self.view_is) c.requires in
    name_there c.args.self.now g s n row c.rows_in.result.now
    (ap (λ (t : Rows). slice_get t.rules n) (sym c.self.view_is) ∙ slice_get_read c.self.inside.rules.items _ n row refl within c.index.ensures)
    (c.rows_in.ensures ∙ ap (λ l. rows_at l row.name) c.as_slice.ensures.value ∙ ap (λ (t : Rows). rows_at t.bytes row.name) c.self.view_is)
