use Rattle.std.proofs.Common.{◌≡◌, ◌≤◌, List, flat_map}
use Rattle.ipg_core.specs.Grammar.{Grammar}
use Rattle.ipg_mach_nodes.specs.Stored.{Source, kid_levels}
use Rattle.ipg_tree_walk.specs.Visits.{Seen}
use Rattle.ipg_query.specs.Hits.{Shares}
use Rattle.ipg_query.specs.Inside.{Leave, steps}
use Rattle.ipg_query.specs.Picked.{Found}
use Rattle.ipg_query.specs.Spots.{IsSpot}
use Rattle.ipg_tree_view.specs.Picked.{member_view}
use Rattle.ipg_tree_view.specs.View.{seen_view}
use Rattle.ipg_tree.specs.Putting.{Progress}
use Rattle.ipg_tree_view.proofs.picked.put_member.Given as goal

abbrev pub invariant-loop-deep : goal.invariant-loop-deep
invariant-loop-deep g l = record {
  room : l.walk.room ≡ l.fn.walk.room;
  so_far :
      (src : Source) (grammar : Grammar) (x : Found) → Shares l.p.parse src grammar → IsSpot src l.p.parse.store l.fn.spot x
      → kid_levels x.child ≤ l.fn.walk.room
      → (left : List Seen) × Leave src l.p.parse.store l.walk.room l.walk.levels left
      × Progress (member_view grammar l.p.parse.input x) (flat_map (seen_view grammar l.p.parse.input) left)
      (g.S.Sink.output l.fn.out) (g.S.Sink.faults l.fn.out) (g.S.Sink.output l.out) (g.S.Sink.faults l.out);
}

abbrev pub decreases-loop-deep : goal.decreases-loop-deep
decreases-loop-deep g l = steps l.walk.room l.walk.levels
