use Rattle.std.proofs.Common.{◌+◌, ◌<◌, length, refl, sym, ap, subst, arith}
use Rattle.std.specs.List.{All}
use Rattle.std.proofs.lemmas.List.{length_push}
use Rattle.std.proofs.lemmas.List.Elements.{All-push}
use Rattle.ipg_graph_parts.specs.Chain.{IsPlace, callers_of}
use Rattle.ipg_graph_parts.specs.Finished.{rule_of}
use Rattle.ipg_graph_parts.specs.declared.finished.Move.TheVariants.{Enter}
use Rattle.ipg_graph_parts.proofs.ChainLemmas.{place-weaker, place-after, left-less, left-bound}
use Rattle.ipg_graph_parts.proofs.finished.Walk.enter_next.Goals as goal

pub loop-next-init : goal.loop-next-init
loop-next-init c = record {
  walk = c.requires.walk;
  seen = refl;
  place = subst (λ k. IsPlace k c.args.rule 0 c.first-next.result) c.callers.ensures c.first-next.ensures.here;
  few = omega (arith, left-bound (callers_of c.args.links.now) c.args.rule c.first-next.result);
}

pub loop-next-preserved : goal.loop-next-preserved
loop-next-preserved c =
    let k = callers_of c.args.links.now in
    let rules = c.args.links.now.rules in
    let held = c.loop-next.invariant in
    let inside : c.key.result < rules = subst (λ l. c.key.result < l.limit) c.callees.ensures c.key.ensures.inside in
    let after = place-after k c.callers-in-Some.result.now c.args.rule c.in-Some.edge c.loop-next.next c.next-next.result c.callers-in-Some.ensures c.in-Some.is
    held.place c.next-next.ensures in
    record {
      walk = record {
        seen = held.walk.seen;
        moves = subst (All (λ move. rule_of move < rules)) (sym c.in_ok-push.ensures.items)
            (All-push (λ move. rule_of move < rules) c.loop-next.self.moves.items (Enter c.key.result) held.walk.moves inside);
        left = held.walk.left;
      };
      seen = held.seen;
      place = place-weaker k c.args.rule (c.in-Some.edge + 1) c.next-next.result after;
      few = omega (
        arith,
        held.few,
        left-less k c.args.rule c.in-Some.edge c.loop-next.next c.next-next.result c.in-Some.is held.place after,
        ap length c.in_ok-push.ensures.items,
        length_push c.loop-next.self.moves.items (Enter c.key.result),
      );
    }

pub loop-next-smaller : goal.loop-next-smaller
loop-next-smaller c =
    let k = callers_of c.args.links.now in
    left-less k c.args.rule c.in-Some.edge c.loop-next.next c.next-next.result c.in-Some.is c.loop-next.invariant.place
    (place-after k c.callers-in-Some.result.now c.args.rule c.in-Some.edge c.loop-next.next c.next-next.result c.callers-in-Some.ensures c.in-Some.is
    c.loop-next.invariant.place c.next-next.ensures)

pub returns : goal.returns
returns c = record {
  walk = c.loop-next.invariant.walk;
  seen = c.loop-next.invariant.seen;
  few = omega (arith, c.loop-next.invariant.few);
}
