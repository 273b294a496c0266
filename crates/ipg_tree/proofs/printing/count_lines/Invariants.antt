use Rattle.std.proofs.Common.{◌≡◌, ℕ, ◌+◌, ◌-◌, ◌^◌, List, length, min}
use Rattle.ipg_core.specs.Grammar.{Grammar}
use Rattle.ipg_core.specs.Tree.{Tree}
use Rattle.ipg_mach_nodes.specs.Stored.{Source}
use Rattle.ipg_tree_walk.specs.Visits.{Seen, visits}
use Rattle.ipg_tree_walk.specs.Parse.{Left, steps_left}
use Rattle.ipg_tree.specs.Shares.{IsTree}
use Rattle.ipg_tree.proofs.printing.count_lines.Given as goal

abbrev pub invariant-loop-count : goal.invariant-loop-count
invariant-loop-count g l = record {
  parse : l.p.parse ≡ l.fn.p.parse;
  so_far :
      (src : Source) (grammar : Grammar) (one : Tree) → IsTree l.fn.p.parse src grammar one
      → (left : List Seen) × (n : ℕ) × Left src l.p left × (l.count ≡ min n (2 ^ 64 - 1)) × (n + length left ≡ length (visits one));
}

abbrev pub decreases-loop-count : goal.decreases-loop-count
decreases-loop-count g l = steps_left l.p
