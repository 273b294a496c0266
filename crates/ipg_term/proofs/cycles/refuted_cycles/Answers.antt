use Rattle.std.proofs.Common.{◌<◌, length, map, sym, subst, ◌∙◌}
use Rattle.ipg_graph.specs.Cycle.{IsSimpleCycle}
use Rattle.ipg_graph.specs.Lending.{AnswersWith}
use Rattle.ipg_proof.specs.Calls.{keeps, live_graph}
use Rattle.ipg_proof.specs.Seen.{seen}
use Rattle.ipg_term.specs.Refuted.{AreRefuted, IsReasonIn}
use Rattle.ipg_graph.specs.Answers.{End}
use Rattle.ipg_term.proofs.Listing.{next_of, handed_on, advanced, ended, looped}
use Rattle.ipg_term.proofs.Whole.{cycles_have_conditions}
use Rattle.ipg_term.proofs.cycles.refuted_cycles.Goals as goal

pub refuted_cycle-requires : goal.refuted_cycle-requires
refuted_cycle-requires c =
    let calls = c.args.calls in
    let dead = map (λ entry. entry.0) c.args.dead.now in
    let old = c.loop-refuted.cycles in
    let answer = subst (AnswersWith old c.next_cycle.new.cycles) c.in-Some.is c.in_ok-cycle.ensures in
    let simple = subst (λ graph. IsSimpleCycle graph c.in-Some.cycle) c.loop-refuted.invariant.graph
    (next_of old c.next_cycle.new.cycles c.in-Some.cycle answer).cycle in
    subst (λ edges. 0 < length (keeps (record { grammar = calls.grammar.now; marks = calls.marks.now; edges = edges }) c.in-Some.cycle)) (sym c.requires)
    (cycles_have_conditions calls.grammar.now calls.marks.now dead c.in-Some.cycle simple)

pub returns-in_err-entry : goal.returns-in_err-entry
returns-in_err-entry c =
    let calls = seen c.args.calls in
    let graph = live_graph c.args.calls.grammar.now (map (λ entry. entry.0) c.args.dead.now) in
    let old = c.loop-refuted.cycles in
    let new = c.next_cycle.new.cycles in
    let answer = subst (AnswersWith old new) c.in-Some.is c.in_ok-cycle.ensures in
    let why = c.in_err-entry.field-0.0 in
    handed_on (AreRefuted graph calls End) (IsReasonIn graph calls) why c.from_residual-in_err-entry.result c.from_residual-in_err-entry.ensures.1
    (looped old new graph calls c.loop-refuted.refuted c.in-Some.cycle why c.loop-refuted.invariant.graph c.loop-refuted.invariant.refuted answer
    c.in_err-entry.ensures)

pub loop-refuted-preserved : goal.loop-refuted-preserved
loop-refuted-preserved c =
    let calls = seen c.args.calls in
    let old = c.loop-refuted.cycles in
    let new = c.next_cycle.new.cycles in
    let answer = subst (AnswersWith old new) c.in-Some.is c.in_ok-cycle.ensures in
    record {
      graph = answer.0 ∙ c.loop-refuted.invariant.graph;
      refuted = subst (AreRefuted new.graph calls new.at) (sym c.in_ok-push.ensures.ok)
          (advanced c.checks_refute.ensures old new calls c.loop-refuted.refuted c.in-Some.cycle c.in_ok-entry.entry c.loop-refuted.invariant.refuted answer
          c.in_ok-entry.ensures.0 c.in_ok-entry.ensures.1);
    }

pub returns : goal.returns
returns c =
    let graph = live_graph c.args.calls.grammar.now (map (λ entry. entry.0) c.args.dead.now) in
    ended c.loop-refuted.cycles c.next_cycle.new.cycles graph (seen c.args.calls) c.loop-refuted.refuted c.in_ok-cycle.field-0 c.loop-refuted.invariant.graph
    c.loop-refuted.invariant.refuted c.in_ok-cycle.ensures c.in_default.not-Some
