use Rattle.std.proofs.Common.{subst, [], ◌∙◌}
use Rattle.ipg_mach.specs.Outcome.{IsOutcome}
use Rattle.ipg_mach.specs.Stage.{source}
use Rattle.ipg_app_tree.proofs.Meant.{showable, given_of, fault_of}
use Rattle.ipg_app_tree.proofs.answering.answer.Goals as goal

pub returns-in-Tree-clause-given : goal.returns-in-Tree-clause-given
returns-in-Tree-clause-given g c =
    let grammar = c.args.grammar.now in
    let input = c.args.input.now in
    let t = c.in_ok-tables.tables in
    let meant = c.has_answer.ensures in
    let all = c.in_ok-parsed.ensures grammar meant.0 c.in_ok-tables.ensures meant.1 in
    let is = subst (λ w. IsOutcome t input w meant.0 all.0) c.in-Tree.is all.2 in
    let tree = showable t grammar input c.in-Tree.parsed is.0 c.in_ok-tables.ensures c.requires is.2 in
    let holds = c.holds_its_bytes.ensures grammar meant.1.height 0 input [] is.0 (meant.1.is ∙ is.1) in
    given_of c.args.show.now grammar input meant.0 meant.1 is.0 is.1 _ _ _ _ c.put.result
    (c.put.ensures (source t input) grammar is.0 tree is.2.bytes holds)

pub returns-in-Tree-clause-fault : goal.returns-in-Tree-clause-fault
returns-in-Tree-clause-fault g c =
    let grammar = c.args.grammar.now in
    let input = c.args.input.now in
    let t = c.in_ok-tables.tables in
    let meant = c.has_answer.ensures in
    let all = c.in_ok-parsed.ensures grammar meant.0 c.in_ok-tables.ensures meant.1 in
    let is = subst (λ w. IsOutcome t input w meant.0 all.0) c.in-Tree.is all.2 in
    let tree = showable t grammar input c.in-Tree.parsed is.0 c.in_ok-tables.ensures c.requires is.2 in
    let holds = c.holds_its_bytes.ensures grammar meant.1.height 0 input [] is.0 (meant.1.is ∙ is.1) in
    fault_of c.args.show.now grammar input meant.0 meant.1 is.0 is.1 _ _ _ _ c.put.result
    (c.put.ensures (source t input) grammar is.0 tree is.2.bytes holds)
