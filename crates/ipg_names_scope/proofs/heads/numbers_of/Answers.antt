use Rattle.std.proofs.Common.{◌∙◌, ap, sym, cond, Some, None, bytes_eq}
use Rattle.ipg_names_scope.specs.Nearest.{or_else}
use Rattle.ipg_names_scope.specs.Marks.{look}
use Rattle.ipg_names_scope.specs.View.{entry_name}
use Rattle.ipg_names_scope.proofs.HeadTable.{numbers_turn}
use Rattle.ipg_names_scope.proofs.heads.numbers_of.Goals as goal

pub loop-r-preserved : goal.loop-r-preserved
loop-r-preserved c = λ x.
    let r = c.loop-r.r in
    let e = c.index-roster-r.result in
    c.in_ok-add_head.ensures x
    ∙ ap (λ n. or_else (look c.loop-r.numbers x) (cond (bytes_eq n x) (Some r) None)) c.as_slice.ensures
    ∙ ap (λ o. or_else o (cond (bytes_eq (entry_name e) x) (Some r) None)) (c.loop-r.invariant x)
    ∙ sym (numbers_turn c.args.roster.now r e x c.index-roster-r.is c.loop-r-test.true)
