use Rattle.std.proofs.Common.{◌≡◌, true, length}
use Rattle.ipg_core.specs.MustTouch.{is_marked}
use Rattle.ipg_facts_edges.specs.Edges.{edges_of}
use Rattle.ipg_cover.specs.Pass.{AreSound, unset}
use Rattle.ipg_cover.proofs.reach.reached.Given as goal

abbrev pub invariant-loop : goal.invariant-loop
invariant-loop l = record {
  size : length l.flags.items ≡ length l.g.rules;
  sound : AreSound (edges_of l.g) l.flags.items;
  here : is_marked l.flags.items 0 ≡ true;
}

-- each pass but the last marks a rule
abbrev pub decreases-loop : goal.decreases-loop
decreases-loop l = unset l.flags.items
