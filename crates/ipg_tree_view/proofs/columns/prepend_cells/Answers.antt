use Rattle.std.proofs.Common.{arith}
use Rattle.std.proofs.lemmas.Grind.{common_steps}
use Rattle.ipg_tree_view.proofs.Cuts.{last_cells}
use Rattle.ipg_tree_view.proofs.columns.prepend_cells.Goals as goal

pub loop-last-preserved : goal.loop-last-preserved
loop-last-preserved c = record {
  text =
      last_cells _ _ _ _ _ _ _ c.in-Some.ensures.cases.0 c.prepend.ensures.text c.prepend_hex.ensures.text c.loop-last.invariant.text;
  long = grind (arith, common_steps);
}
