use Rattle.std.proofs.Common.{◌≡◌, List}
use Rattle.ipg_core.specs.Grammar.{Grammar}
use Rattle.ipg_core.specs.Lines.{lines}
use Rattle.ipg_core.specs.Tree.{Tree}
use Rattle.ipg_mach_nodes.specs.Stored.{Source}
use Rattle.ipg_tree_walk.specs.Visits.{Seen}
use Rattle.ipg_tree_walk.specs.Parse.{Left, steps_left}
use Rattle.ipg_tree.specs.Line.{lines_of}
use Rattle.ipg_tree.specs.Shares.{IsTree}
use Rattle.ipg_tree.specs.Putting.{Progress}
use Rattle.ipg_tree.proofs.printing.put_lines.Given as goal

abbrev pub invariant-loop-visit : goal.invariant-loop-visit
invariant-loop-visit g l = record {
  parse : l.p.parse ≡ l.fn.p.parse;
  so_far :
      (src : Source) (grammar : Grammar) (one : Tree) → IsTree l.fn.p.parse src grammar one
      → (left : List Seen) × Left src l.p left
      × Progress (lines grammar one 0) (lines_of grammar left)
      (g.S.Sink.output l.fn.out) (g.S.Sink.faults l.fn.out) (g.S.Sink.output l.out) (g.S.Sink.faults l.out);
}

abbrev pub decreases-loop-visit : goal.decreases-loop-visit
decreases-loop-visit g l = steps_left l.p
