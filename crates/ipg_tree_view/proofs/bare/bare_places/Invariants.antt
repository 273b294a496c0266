use Rattle.std.proofs.Common.{◌≡◌, ◌<◌, ℕ, List, length, get_or, true, ◌&&◌}
use Rattle.ipg_core.specs.Grammar.{Grammar}
use Rattle.ipg_core.specs.Tree.{Tree}
use Rattle.ipg_mach_nodes.specs.Stored.{Source}
use Rattle.ipg_tree_walk.specs.Visits.{Seen, visits}
use Rattle.ipg_tree_walk.specs.Parse.{Left, steps_left}
use Rattle.ipg_tree_view.specs.Bare.{none_has}
use Rattle.ipg_tree.specs.Shares.{IsTree}
use Rattle.ipg_tree_view.proofs.bare.bare_places.Given as goal

abbrev pub invariant-loop-visit : goal.invariant-loop-visit
invariant-loop-visit g l = record {
  parse : l.p.parse ≡ l.fn.p.parse;
  long : length l.bare.items ≡ length l.input;
  so_far :
      (src : Source) (grammar : Grammar) (one : Tree) → IsTree l.fn.p.parse src grammar one
      → (left : List Seen) × Left src l.p left
      × ((place : ℕ) → place < length l.input → get_or l.bare.items place true && none_has place left ≡ none_has place (visits one));
}

abbrev pub decreases-loop-visit : goal.decreases-loop-visit
decreases-loop-visit g l = steps_left l.p
