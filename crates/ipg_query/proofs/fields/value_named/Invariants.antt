use Rattle.std.proofs.Common.{◌≡◌, drop}
use Rattle.ipg_core.specs.Grammar.{Grammar}
use Rattle.ipg_table.specs.Rows.{StandFor}
use Rattle.ipg_query.specs.Picked as picked
use Rattle.ipg_query.proofs.fields.value_named.Given as goal

abbrev pub invariant-loop-attr : goal.invariant-loop-attr
invariant-loop-attr l =
    (g : Grammar) → StandFor l.tables g → picked.value_named g.names l.name (drop l.attr-index l.attrs) ≡ picked.value_named g.names l.name l.attrs
