use Rattle.std.proofs.Common.{◌≡◌, ◌<◌, arith, sym, ◌∙◌, length, ◌+◌}
use Rattle.ipg_graph.specs.Graph.{callee, IsWhole, IsLive}
use Rattle.ipg_graph.specs.Chain.{IsFirst, callees_of}
use Rattle.ipg_graph.specs.Marks.{IsUnseen}
use Rattle.ipg_graph.proofs.ReachLemmas.{spreads-refl, scanned-none, marking-next, marking-mark, sized-mark, unseen-room, is-new, is-old}
use Rattle.ipg_graph.proofs.reach.Reach.mark_callers.Goals as goal
use Rattle.ipg_graph.proofs.reach.Reach.mark_callers.Goals.{then-is_new, else-is_new}

pub loop-edge-init : goal.loop-edge-init
loop-edge-init c = record {
  sized = c.requires.sized;
  marking = record {
    within = omega (arith, c.first_in-edge.ensures.within, c.len-edges.ensures.whole.same);
    here = λ lt. c.first_in-edge.ensures.here (omega (arith, c.len-edges.ensures.whole.same));
    spreads = spreads-refl _ _ _ c.requires.inside;
    scanned = scanned-none _ _ _ _ _ _ c.first_in-edge.ensures c.requires.rule;
  };
}

pub mark-requires-clause-room : goal.mark-requires-clause-room
mark-requires-clause-room c =
    let marks = c.loop-edge.self.marks.items in
    let u = c.caller-caller.result in
    let new : (c.args.start < u) × (IsUnseen c.args.seen.now u × IsUnseen marks u) =
    is-new c.args.start c.args.seen.now marks u (omega arith) (sym c.is_new.ensures ∙ c.if-is_new.true) in
    omega (
      arith,
      unseen-room marks u new.1.1,
      c.loop-edge.invariant.marking.spreads.balance,
      c.requires.bound,
      c.loop-edge.invariant.sized.flags,
      c.loop-edge.invariant.sized.room,
      c.loop-edge.self.stack.ok.0,
    )

pub loop-edge-preserved : goal.loop-edge-preserved
loop-edge-preserved c =
    let in' : c.loop-edge.edge < length c.args.links.now.callers = omega (arith, c.len-edges.ensures.value) in
    let at : callee c.args.links.now c.loop-edge.edge ≡ c.args.rule = c.loop-edge.invariant.marking.here in' in
    let whole : IsWhole c.args.links.now = c.len-edges.ensures.whole in
    let live : IsLive c.args.links.now c.loop-edge.edge = whole.both _ (rw at c.requires.rule) in
    let first : IsFirst (callees_of c.args.links.now) c.args.rule (c.loop-edge.edge + 1) c.next_in-edge.result =
    rw at at c.next_in-edge.ensures in
    let marks = c.loop-edge.self.marks.items in
    let u = c.caller-caller.result in
    let u_in : u < length marks = omega (arith, c.caller-caller.ensures, live, c.loop-edge.invariant.sized.flags) in
    elim c.if-is_new.branch [
      | then-is_new w ↦
          let new : (c.args.start < u) × (IsUnseen c.args.seen.now u × IsUnseen marks u) =
          is-new c.args.start c.args.seen.now marks u u_in (sym c.is_new.ensures ∙ w.if-is_new.true) in
          rw w.self-is record {
            sized = sized-mark _ c.loop-edge.self _ u w.mark.ensures.marks w.mark.ensures.room c.loop-edge.invariant.sized;
            marking = marking-mark _ _ _ _ marks _ _ _ _ _ c.loop-edge.edge _ u whole in' c.caller-caller.ensures
                (omega (arith, c.caller-caller.ensures, live)) first new.1.1 w.mark.ensures.marks w.mark.ensures.stack c.loop-edge.invariant.marking;
          }
      | else-is_new w ↦
          rw w.self-is record {
            sized = c.loop-edge.invariant.sized;
            marking = marking-next _ _ _ _ marks _ _ _ c.loop-edge.edge _ whole in' at first
                (is-old _ _ _ marks c.loop-edge.edge (rw c.caller-caller.ensures at (sym c.is_new.ensures ∙ w.if-is_new.false)))
                c.loop-edge.invariant.marking.spreads c.loop-edge.invariant.marking.scanned;
          }
    ]
