use Rattle.std.proofs.Common.{arith}
use Rattle.ipg_graph.proofs.WalkLemmas.{barren-is, barren-lost}
use Rattle.ipg_graph.proofs.SearchLemmas.{dead-lost}
use Rattle.ipg_graph.proofs.search.Search.try_edge.Goals as goal

pub skip-requires-clause-barren : goal.skip-requires-clause-barren
skip-requires-clause-barren c =
    let s = c.args.self.now in
    barren-is s.links _ _ (dead-lost s.links s.path.items s.start s.tip s.seen.items s.cursor
    (λ some. c.requires.ready.choice.at_tip some c.requires.within) c.requires.ready.walk.tip (omega arith))
    (barren-lost s.links)
