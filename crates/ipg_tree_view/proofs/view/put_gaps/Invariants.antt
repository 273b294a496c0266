use Rattle.std.proofs.Common.{◌≡◌, ◌≤◌, ℕ, drop, flat_map, Some, None}
use Rattle.ipg_tree_view.specs.Bare.{runs}
use Rattle.ipg_tree_view.specs.View.{gap_view}
use Rattle.ipg_tree.specs.Putting.{Progress}
use Rattle.ipg_tree_view.proofs.view.put_gaps.Given as goal

abbrev pub invariant-loop-is_bare : goal.invariant-loop-is_bare
invariant-loop-is_bare g l = record {
  at : l.run.at ≡ l.is_bare-index;
  begun : (from : ℕ) → l.run.begun ≡ Some from → from ≤ l.run.at;
  so_far :
      Progress (flat_map (gap_view l.p.parse.input) (runs 0 None l.bare))
      (flat_map (gap_view l.p.parse.input) (runs l.run.at l.run.begun (drop l.is_bare-index l.bare)))
      (g.S.Sink.output l.initial.out) (g.S.Sink.faults l.initial.out) (g.S.Sink.output l.out) (g.S.Sink.faults l.out);
}
