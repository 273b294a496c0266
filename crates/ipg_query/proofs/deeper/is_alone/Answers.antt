use Rattle.std.proofs.Common.{length, sym, ◌∙◌}
use Rattle.std.proofs.lemmas.Bool.{eqb-true}
use Rattle.std.proofs.lemmas.List.{nil_from_length}
use Rattle.ipg_query.proofs.Spreading.{alone}
use Rattle.ipg_query.proofs.deeper.is_alone.Goals as goal

pub returns : goal.returns
returns g c src at place one stands empty =
    let rows = c.rows_in.result.now in
    alone src c.args.p.now.parse.store at place rows one (sym (c.has_items.ensures src c.args.p.now.parse.store at one stands) ∙ c.if-has_items.false)
    (c.rows_in.ensures src at one stands) (nil_from_length rows (eqb-true (length rows) 0 (sym c.is_empty.ensures ∙ empty)))
