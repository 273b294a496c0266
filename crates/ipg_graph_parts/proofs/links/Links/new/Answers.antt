use Rattle.std.proofs.Common.{◌≡◌, ◌<◌, ap, sym, subst, ◌∙◌, arith, [], length}
use Rattle.std.specs.List.{All}
use Rattle.std.proofs.lemmas.List.Elements.{All-weaker}
use Rattle.ipg_graph.specs.Graph.{ends, IsInside}
use Rattle.ipg_graph_parts.proofs.GraphLemmas.{ends-done, all-ends, length-ends, whole}
use Rattle.ipg_graph_parts.proofs.links.Links.new.Goals as goal

pub new-requires-clause-few : goal.new-requires-clause-few
new-requires-clause-few c =
    let done = ends-done c.args.rules (λ e. e.caller) c.args.edges.now c.loop-edge.callers.items c.loop-edge.edge-index (omega arith)
    c.loop-edge.invariant.callers in
    omega (arith, c.requires.few, ap length done, length-ends c.args.rules (λ e. e.caller) c.args.edges.now, c.loop-edge.callers.ok)

pub new-requires-clause-inside : goal.new-requires-clause-inside
new-requires-clause-inside c =
    let inside = All-weaker (IsInside c.args.rules) (λ e. e.caller < c.args.rules) (λ e is. is.0) c.args.edges.now c.requires.inside in
    let done = ends-done c.args.rules (λ e. e.caller) c.args.edges.now c.loop-edge.callers.items c.loop-edge.edge-index (omega arith)
    c.loop-edge.invariant.callers in
    subst (All (λ v. v < c.args.rules)) (sym done) (all-ends c.args.rules (λ e. e.caller) c.args.edges.now inside)

pub new-requires-2 : goal.new-requires-2
new-requires-2 c =
    let inside = All-weaker (IsInside c.args.rules) (λ e. e.callee < c.args.rules) (λ e is. is.1) c.args.edges.now c.requires.inside in
    let done = ends-done c.args.rules (λ e. e.callee) c.args.edges.now c.loop-edge.callees.items c.loop-edge.edge-index (omega arith)
    c.loop-edge.invariant.callees in
    record {
      few = omega (arith, c.requires.few, ap length done, length-ends c.args.rules (λ e. e.callee) c.args.edges.now, c.loop-edge.callees.ok);
      inside = subst (All (λ v. v < c.args.rules)) (sym done) (all-ends c.args.rules (λ e. e.callee) c.args.edges.now inside);
    }

pub invariant_of-result : goal.invariant_of-result
invariant_of-result c =
    let callers : c.in_ok-new.field-0.keys ≡ ends c.args.rules (λ e. e.caller) c.args.edges.now [] =
    ap (λ k. k.keys) c.in_ok-new.ensures ∙ ends-done c.args.rules (λ e. e.caller) c.args.edges.now _ c.loop-edge.edge-index (omega arith)
    c.loop-edge.invariant.callers in
    let callees : c.in_ok-new-2.field-0.keys ≡ ends c.args.rules (λ e. e.callee) c.args.edges.now [] =
    ap (λ k. k.keys) c.in_ok-new-2.ensures ∙ ends-done c.args.rules (λ e. e.callee) c.args.edges.now _ c.loop-edge.edge-index (omega arith)
    c.loop-edge.invariant.callees in
    let limit = ap (λ k. k.limit) c.in_ok-new.ensures in (
      rw (callers, callees, limit) (whole c.args.rules c.args.edges.now c.requires.few c.requires.inside),
      ap (λ k. k.limit) c.in_ok-new-2.ensures ∙ sym limit,
    )
