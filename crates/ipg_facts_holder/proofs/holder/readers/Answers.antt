use Rattle.std.proofs.Common.{◌≡◌, ap, sym, ◌∙◌, ◌≤◌, length, map, arith, List, Bool}
use Rattle.ipg_facts_holder.specs.Holder.{readers, reads_next}
use Rattle.ipg_facts_holder.proofs.Rounds.{round_more, settled, same_marks}
use Rattle.ipg_facts_holder.proofs.holder.readers.Goals as goal

pub loop-round-init : goal.loop-round-init
unfolding readers
loop-round-init c = c.in_ok-marks.ensures

pub returns-then-eq : goal.returns-then-eq
returns-then-eq c =
    let rules = c.args.g.now.rules in
    let below : c.loop-round._round ≤ length rules = omega (arith, ap length c.rules-round-end.ensures.rules) in
    let same = same_marks _ _ c.eq.result c.eq.ensures c.if-eq.true in
    settled c.args.g.now c.args.attr c.loop-round._round (length rules) c.loop-round.marks.items c.in_ok-next.next.items below c.loop-round.invariant
    (c.in_ok-next.ensures ∙ ap (λ (ms : List Bool). map (reads_next c.args.g.now c.args.attr ms) rules) c.as_slice.ensures.value)
    (sym c.as_slice-in-loop-round.ensures.value ∙ same ∙ c.as_slice-in-loop-round-2.ensures.value)

pub loop-round-preserved : goal.loop-round-preserved
loop-round-preserved c =
    round_more c.args.g.now c.args.attr c.loop-round._round c.loop-round.marks.items c.in_ok-next.next.items c.loop-round.invariant
    (c.in_ok-next.ensures ∙ ap (λ (ms : List Bool). map (reads_next c.args.g.now c.args.attr ms) c.args.g.now.rules) c.as_slice.ensures.value)

pub returns : goal.returns
returns c =
    let all : c.loop-round._round ≡ length c.args.g.now.rules = omega (arith, ap length c.rules-round-end.ensures.rules) in
    c.loop-round.invariant ∙ ap (readers c.args.g.now c.args.attr) all
