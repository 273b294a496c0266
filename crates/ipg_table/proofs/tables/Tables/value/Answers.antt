use Rattle.std.proofs.Common.{[], length, ap, ◌∙◌, le_trans}
use Rattle.ipg_table.specs.Running.{run}
use Rattle.ipg_table.proofs.Runs.{value_is}
use Rattle.ipg_table.proofs.tables.Tables.value.Goals as goal

pub returns-clause-value : goal.returns-clause-value
returns-clause-value g c = λ env e stands h.
    let room = length c.args.area.now in
    c.evaluate.ensures.value env stands ∙ ap (λ l. run env room 0 l []) (c.ops.ensures ∙ h.rows.is) ∙ value_is env room e (le_trans h.depth c.requires)
