use Rattle.std.proofs.Common.{◌≡◌, ◌≤◌}
use Rattle.ipg_graph.specs.Search.{IsReady, place, left_of}
use Rattle.ipg_graph.specs.Place.{IsSame}
use Rattle.ipg_graph.proofs.search.Search.find.Given as goal

abbrev pub invariant-loop-self : goal.invariant-loop-self
invariant-loop-self l = record {
  links : l.self.links ≡ l.initial.self.links;
  ready : IsReady l.self;
  same : IsSame l.initial.self.links (place l.initial.self) (place l.self);
  less : left_of l.self ≤ left_of l.initial.self;
}

abbrev pub decreases-loop-self : goal.decreases-loop-self
decreases-loop-self l = left_of l.self
