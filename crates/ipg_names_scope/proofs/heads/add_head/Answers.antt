use Rattle.std.proofs.Common.{◌∙◌, sym}
use Rattle.ipg_names_scope.specs.Marks.{look}
use Rattle.ipg_names_scope.proofs.HeadTable.{added, is_none}
use Rattle.ipg_names_scope.proofs.heads.add_head.Goals as goal

pub returns-in_ok-insert : goal.returns-in_ok-insert
returns-in_ok-insert c = λ x.
    c.in_ok-insert.ensures.updates.0 (record { ref_ptr = c.args.name.ref_ptr; now = x })
    ∙ added (look c.args.numbers.now) c.args.name.now x c.args.rule (is_none _ (sym c.contains_key.ensures ∙ c.if-not-contains_key.true))
