use Rattle.std.proofs.Common.{subst}
use Rattle.ipg_mach.specs.Outcome.{IsOutcome}
use Rattle.ipg_mach.specs.Stage.{source}
use Rattle.ipg_app_tree.proofs.Meant.{printable, showable, size_is}
use Rattle.ipg_app_tree.proofs.measuring.measure.Goals as goal

pub returns-in-Tree : goal.returns-in-Tree
returns-in-Tree c =
    let grammar = c.args.grammar.now in
    let input = c.args.input.now in
    let t = c.in_ok-tables.tables in
    let meant = c.has_answer.ensures in
    let all = c.in_ok-parsed.ensures grammar meant.0 c.in_ok-tables.ensures meant.1 in
    let is = subst (λ w. IsOutcome t input w meant.0 all.0) c.in-Tree.is all.2 in
    let showable = showable t grammar input c.in-Tree.parsed is.0 c.in_ok-tables.ensures c.requires is.2 in
    let tree = printable c.in-Tree.parsed.parse (source t input) grammar is.0 showable in
    let lines = c.size_of.ensures.lines (source t input) grammar is.0 tree in
    let size = size_is c.counts_with_memo.ensures grammar input meant.0 meant.1 is.0 all.0 c.in-Tree.parsed.parse.counts c.size_of.result is.1 all.1 is.3
    lines c.size_of.ensures.bodies in
    record { answer = meant.0; means = meant.1; is = (is.0, is.1, size) }
