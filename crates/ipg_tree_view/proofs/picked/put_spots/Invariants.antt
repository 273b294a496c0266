use Rattle.std.proofs.Common.{◌≡◌, List, drop, flat_map}
use Rattle.ipg_core.specs.Grammar.{Grammar}
use Rattle.ipg_mach_nodes.specs.Stored.{Source}
use Rattle.ipg_query.specs.Hits.{Shares}
use Rattle.ipg_query.specs.Laws.{AreShallow}
use Rattle.ipg_query.specs.Picked.{Found}
use Rattle.ipg_query.specs.Spots.{AreSpots}
use Rattle.ipg_tree_view.specs.Picked.{shown_view}
use Rattle.ipg_tree_view.proofs.Members.{SpotsLeft}
use Rattle.ipg_tree_view.proofs.picked.put_spots.Given as goal

abbrev pub invariant-loop-spot : goal.invariant-loop-spot
invariant-loop-spot g l = record {
  room : l.walk.room ≡ l.initial.walk.room;
  so_far :
      (src : Source) (grammar : Grammar) (xs : List Found) → Shares l.p.parse src grammar → AreSpots src l.p.parse.store l.spots xs
      → AreShallow l.initial.walk.room xs
      → SpotsLeft src l.p.parse.store l.initial.walk.room (shown_view grammar l.p.parse.input l.field) (drop l.spot-index l.spots)
      (flat_map (shown_view grammar l.p.parse.input l.field) xs)
      (g.S.Sink.output l.initial.out) (g.S.Sink.faults l.initial.out) (g.S.Sink.output l.out) (g.S.Sink.faults l.out);
}
