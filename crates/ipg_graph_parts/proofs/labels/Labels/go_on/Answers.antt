use Rattle.std.proofs.Common.{◌+◌, refl, arith}
use Rattle.ipg_graph_parts.specs.Labels.{field_of}
use Rattle.ipg_graph_parts.proofs.ChainLemmas.{place-weaker, place-after, left-less}
use Rattle.ipg_graph_parts.proofs.LabelLemmas.{at_first, keeps-refl, keeps-put, keeps-over, work-put, to-inside, step-new, step-old}
use Rattle.ipg_graph_parts.proofs.labels.Labels.go_on.Goals as goal
use Rattle.ipg_graph_parts.proofs.labels.Labels.go_on.Goals.{then-is_new+in_ok-put, else-is_new}

pub loop-next-init : goal.loop-next-init
loop-next-init c = record {
  spreading = at_first (field_of c.args.search) c.args.self.now.of.items c.args.self.now.waiting.items c.args.rule c.first-next.result c.first-next.ensures
      c.requires.rule;
  place = c.first-next.ensures.here;
  kept = keeps-refl c.args.search.root c.args.self.now.of.items;
  less = omega arith;
}

pub is_new-requires : goal.is_new-requires
is_new-requires c =
    let inside = to-inside c.args.search c.loop-next.self.of.items c.loop-next.self.waiting.items c.args.rule c.in-Some.edge c.key-to.result c.loop-next.next
    c.requires.search c.key-to.ensures.value c.in-Some.is c.loop-next.invariant.place c.loop-next.invariant.spreading in
    record { fence = inside.0; label = inside.1 }

pub put-requires : goal.put-requires
put-requires c =
    (to-inside c.args.search c.loop-next.self.of.items c.loop-next.self.waiting.items c.args.rule c.in-Some.edge c.key-to.result c.loop-next.next
    c.requires.search c.key-to.ensures.value c.in-Some.is c.loop-next.invariant.place c.loop-next.invariant.spreading).1

pub loop-next-preserved : goal.loop-next-preserved
loop-next-preserved c =
    let s = c.args.search in
    let labels = c.loop-next.self.of.items in
    let waiting = c.loop-next.self.waiting.items in
    let edge = c.in-Some.edge in
    let u = c.key-to.result in
    let held = c.loop-next.invariant in
    let place = place-weaker s.from.now c.args.rule (edge + 1) c.next-next.result
    (place-after s.from.now s.from.now c.args.rule edge c.loop-next.next c.next-next.result refl c.in-Some.is held.place c.next-next.ensures) in
    elim c.if-is_new.branch [
      | then-is_new+in_ok-put w ↦
          let new = c.is_new.ensures.new w.if-is_new.true in
          let below = (to-inside s labels waiting c.args.rule edge u c.loop-next.next c.requires.search c.key-to.ensures.value c.in-Some.is held.place
          held.spreading).1 in
          rw (w.self-is, w.in_ok-put.ensures.label, w.in_ok-put.ensures.waits) record {
            spreading = step-new s labels waiting c.args.rule edge u c.loop-next.next c.next-next.result c.requires.search c.key-to.ensures.value c.in-Some.is
                held.place c.next-next.ensures new.0 held.spreading;
            place = place;
            kept = keeps-over s.root c.args.self.now.of.items labels _ held.kept (keeps-put s.root u labels below);
            less = omega (arith, work-put s.root u labels waiting new.1 below, held.less);
          }
      | else-is_new w ↦
          rw w.self-is record {
            spreading = step-old s labels waiting c.args.rule edge u c.loop-next.next c.next-next.result c.requires.search c.key-to.ensures.value c.in-Some.is
                held.place c.next-next.ensures (c.is_new.ensures.old w.if-is_new.false) held.spreading;
            place = place;
            kept = held.kept;
            less = held.less;
          }
    ]

pub loop-next-smaller : goal.loop-next-smaller
loop-next-smaller c =
    let s = c.args.search in
    left-less s.from.now c.args.rule c.in-Some.edge c.loop-next.next c.next-next.result c.in-Some.is c.loop-next.invariant.place
    (place-after s.from.now s.from.now c.args.rule c.in-Some.edge c.loop-next.next c.next-next.result refl c.in-Some.is c.loop-next.invariant.place
    c.next-next.ensures)
