use Rattle.std.proofs.Common.{ap, ◌∙◌}
use Rattle.ipg_names_scope.specs.declared.marks.Family.TheVariants.{Sets}
use Rattle.ipg_names_scope.specs.Terms.{has}
use Rattle.ipg_names_scope.specs.Scope.{alt_sets}
use Rattle.ipg_names_scope.specs.Marks.{spots_of}
use Rattle.ipg_names_scope.proofs.Lists.{map_turn}
use Rattle.ipg_names_scope.proofs.FieldTable.{row_more}
use Rattle.ipg_names_scope.proofs.fields.row.Goals as goal

pub loop-alt-preserved : goal.loop-alt-preserved
loop-alt-preserved c = λ f.
    map_turn (alt_sets f) _ _ _ _ _ _ c.alt-item.is c.loop-alt-test.true
    (row_more c.loop-alt.row.items _ c.in_ok-places.field-0 c.alt-item.result f c.in_ok-push.ensures.items (λ x. c.in_ok-places.ensures x
    ∙ ap (λ ts. spots_of (has Sets x) ts 0) c.as_slice.ensures))
    (c.loop-alt.invariant f)
