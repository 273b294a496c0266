use Rattle.std.proofs.Common.{◌≡◌, [], length, sym, ap, subst, ◌∙◌, arith}
use Rattle.std.proofs.lemmas.List.{length_push}
use Rattle.ipg_graph.specs.declared.edge.Edge.{Edge}
use Rattle.ipg_graph.specs.Graph.{graph_of}
use Rattle.ipg_graph_parts.specs.Parts.{AreFlags, IsParted}
use Rattle.ipg_graph_parts.proofs.GraphLemmas.{length-ends}
use Rattle.ipg_graph_parts.proofs.CircleLemmas.{flag-next, every, only}
use Rattle.ipg_graph_parts.proofs.cyclic.edges_on_cycles.Goals as goal

pub loop-edge-preserved : goal.loop-edge-preserved
loop-edge-preserved c =
    let edges = c.args.edges.now in
    let names = c.in_ok-parts.parts.items in
    let flags = c.loop-edge.flags.items in
    let none : Edge = record { caller = 0; alt = 0; term = 0; branch = 0; callee = 0 } in
    record {
      len = omega (arith, ap length c.in_ok-push.ensures.items, length_push flags c.is_inside.result, c.loop-edge.invariant.len);
      same = subst (AreFlags (graph_of c.args.rules edges []) names) (sym c.in_ok-push.ensures.items)
          (flag-next c.args.rules edges names c.as_slice.result.now flags c.is_inside.result c.loop-edge.edge-index none c.loop-edge-test.true
          c.loop-edge.invariant.len c.as_slice.ensures.value c.is_inside.ensures.same c.is_inside.ensures.apart c.loop-edge.invariant.same);
    }

pub returns : goal.returns
returns c =
    let edges = c.args.edges.now in
    let g = graph_of c.args.rules edges [] in
    let names = c.in_ok-parts.parts.items in
    let flags = c.loop-edge.flags.items in
    let parted : IsParted g names = subst (λ graph. IsParted graph names) c.in_ok-links.ensures c.in_ok-parts.ensures in
    let len : length flags ≡ length edges = omega (arith, c.loop-edge.invariant.len, c.loop-edge-test.false, c.loop-edge.auto.edge-index-end) in
    record {
      one_each = len;
      every = every g names flags parted c.loop-edge.invariant.same (len ∙ sym (length-ends c.args.rules (λ e. e.caller) edges));
      only = only c.args.rules edges names flags c.requires.inside parted c.loop-edge.invariant.same len;
    }
