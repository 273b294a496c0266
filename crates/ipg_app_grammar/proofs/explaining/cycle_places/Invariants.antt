use Rattle.std.proofs.Common.{◌≡◌, take, slice_get, flat_map}
use Rattle.ipg_facts_edges.specs.Edges.{edges_of}
use Rattle.ipg_app_grammar.specs.Judged.{edge_places}
use Rattle.ipg_app_grammar.proofs.explaining.cycle_places.Given as goal

-- the edges gone over have their places
abbrev pub invariant-loop-number : goal.invariant-loop-number
invariant-loop-number l = l.places.items ≡ flat_map (λ e. edge_places l.g (slice_get (edges_of l.core) e)) (take l.number-index l.cycle)
