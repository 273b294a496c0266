use Rattle.std.proofs.Common.{◌≡◌, ap, ◌∙◌, arith}
use Rattle.ipg_graph.specs.Graph.{ends}
use Rattle.ipg_graph.proofs.GraphLemmas.{whole-graph_of, ends-all}
use Rattle.ipg_graph.proofs.links.Links.new.Goals as goal

pub invariant_of-result : goal.invariant_of-result
invariant_of-result c =
    let callers : c.in_ok-new.field-0.keys ≡ ends c.args.rules (λ e. e.caller) c.args.edges.now c.args.dead.now =
    ap (λ k. k.keys) c.in_ok-new.ensures ∙ ends-all _ _ _ _ _ c.loop-at.at (omega arith) c.loop-at.invariant.callers in
    let callees : c.in_ok-new-2.field-0.keys ≡ ends c.args.rules (λ e. e.callee) c.args.edges.now c.args.dead.now =
    ap (λ k. k.keys) c.in_ok-new-2.ensures ∙ ends-all _ _ _ _ _ c.loop-at.at (omega arith) c.loop-at.invariant.callees in (
      rw (callers, callees) (whole-graph_of _ _ _ c.requires.few c.requires.inside),
      (ap (λ k. k.limit) c.in_ok-new.ensures, ap (λ k. k.limit) c.in_ok-new-2.ensures),
    )
