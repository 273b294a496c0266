use Rattle.std.proofs.Common.{◌≤◌, ◌∷◌, ◌++◌, [], subst, length, arith, refl}
use Rattle.ipg_graph.specs.Graph.{Graph}
use Rattle.ipg_graph.specs.Cycle.{StandsUpTo}
use Rattle.ipg_graph.proofs.SearchLemmas.{none-past, past-end}
use Rattle.ipg_graph.proofs.search.Search.find.Goals as goal

pub returns-clause-none : goal.returns-clause-none
returns-clause-none c = λ _.
    let s = c.loop-self.self in
    let g = c.args.self.now.links in
    let ended = c.has_more.ensures.ended c.loop-self-test.false in
    let past : length g.callers ≤ s.cursor = subst (λ (l : Graph). length l.callers ≤ s.cursor) c.loop-self.invariant.links ended.0 in
    record {
      links = c.loop-self.invariant.links;
      state = refl;
      none = λ d closes from.
          let at : StandsUpTo (s.path.items ++ s.cursor ∷ []) d = c.loop-self.invariant.same.on d closes from in
          none-past g s.cursor (λ i after. past-end g i (omega arith)) d closes (subst (λ p. StandsUpTo (p ++ s.cursor ∷ []) d) ended.1 at);
    }
