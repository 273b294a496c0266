use Rattle.std.proofs.Common.{List, map, ap, sym, subst, ◌∙◌}
use Rattle.std.specs.List.{AllByRecursion}
use Rattle.ipg_ast.specs.declared.grammar.Alt.{Alt}
use Rattle.ipg_names_scope.specs.Scope.{alt_sets}
use Rattle.ipg_names_scope.specs.View.{entry_view, HasShortTerms, IsFit}
use Rattle.ipg_names_scope.proofs.Lists.{all_map_at}
use Rattle.ipg_names_scope.proofs.FieldTable.{rows_more, rows_turn}
use Rattle.ipg_names_scope.proofs.fields.fields_of.Goals as goal

pub row-requires : goal.row-requires
row-requires c =
    let fit = all_map_at IsFit entry_view _ _ _ c.requires c.entry-item.is c.loop-entry-test.true in
    let P : List Alt → Type 0 = AllByRecursion HasShortTerms in
    subst P (sym c.as_slice.ensures) fit.short

pub loop-entry-preserved : goal.loop-entry-preserved
loop-entry-preserved c = λ f.
    rows_turn _ _ _ f _ _ _ c.entry-item.is c.loop-entry-test.true
    (rows_more c.loop-entry.rows.items _ c.in_ok-row.field-0 f _ c.in_ok-push.ensures.items (c.in_ok-row.ensures f ∙ ap (map (alt_sets f)) c.as_slice.ensures))
    (c.loop-entry.invariant f)
