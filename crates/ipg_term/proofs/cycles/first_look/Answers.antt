use Rattle.std.proofs.Common.{◌<◌, length, map, sym, subst}
use Rattle.ipg_graph.specs.Cycle.{IsSimpleCycle}
use Rattle.ipg_graph.specs.Lending.{AnswersWith}
use Rattle.ipg_proof.specs.Calls.{keeps, live_graph}
use Rattle.ipg_proof.specs.Seen.{seen}
use Rattle.ipg_term.proofs.Listing.{next_of, first_looked}
use Rattle.ipg_term.proofs.Whole.{cycles_have_conditions}
use Rattle.ipg_term.proofs.cycles.first_look.Goals as goal

pub look_at-requires : goal.look_at-requires
look_at-requires c =
    let calls = c.args.calls in
    let dead = map (λ entry. entry.0) c.args.dead.now in
    let old = c.in_ok-listing.listing in
    let answer = subst (AnswersWith old c.next_cycle.new.cycles) c.in-Some.is c.in_ok-first.ensures in
    let simple = subst (λ graph. IsSimpleCycle graph c.in-Some.cycle) c.in_ok-listing.ensures.graph
    (next_of old c.next_cycle.new.cycles c.in-Some.cycle answer).cycle in
    subst (λ edges. 0 < length (keeps (record { grammar = calls.grammar.now; marks = calls.marks.now; edges = edges }) c.in-Some.cycle)) (sym c.requires)
    (cycles_have_conditions calls.grammar.now calls.marks.now dead c.in-Some.cycle simple)

pub returns : goal.returns
returns c =
    let calls = seen c.args.calls in
    let graph = live_graph c.args.calls.grammar.now (map (λ entry. entry.0) c.args.dead.now) in
    let old = c.in_ok-listing.listing in
    let new = c.next_cycle.new.cycles in
    let answer = subst (AnswersWith old new) c.in-Some.is c.in_ok-first.ensures in
    first_looked (λ _. Unit) old new graph calls c.in-Some.cycle c.in_ok-listing.ensures.graph c.in_ok-listing.ensures.start answer c.look_at.result
    c.look_at.ensures
