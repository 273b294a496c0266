use Rattle.std.proofs.Common.{subst}
use Rattle.ipg_core.specs.Meaning.{Means}
use Rattle.ipg_mach.specs.Outcome.{IsOutcome}
use Rattle.ipg_mach.specs.Stage.{source}
use Rattle.ipg_c_trees.proofs.Coming.{tree_of, if_ok, a_tree, no_tree, range}
use Rattle.ipg_c_trees.proofs.format.Format.found.Goals as goal

pub returns-in-Tree : goal.returns-in-Tree
returns-in-Tree c =
    let g = c.args.self.now in
    let input = c.args.input.now in
    let t = c.tables.result.now in
    let meant = c.has_answer.ensures in
    let means = subst (λ g. Means g input meant.0) c.grammar.ensures meant.1 in
    let all = c.in_ok-parsed.ensures g meant.0 c.tables.ensures means in
    let is = subst (λ w. IsOutcome t input w meant.0 all.0) c.in-Tree.is all.2 in
    if_ok c.rows_in.result (λ found are. a_tree g input meant.0 is.0 means is.1 are.0 are.1)
    (c.rows_in.ensures (source t input) is.0 (tree_of t input c.in-Tree.parsed is.0 is.2))

pub returns-in-NoTree : goal.returns-in-NoTree
returns-in-NoTree c =
    let g = c.args.self.now in
    let input = c.args.input.now in
    let t = c.tables.result.now in
    let meant = c.has_answer.ensures in
    let means = subst (λ g. Means g input meant.0) c.grammar.ensures meant.1 in
    let all = c.in_ok-parsed.ensures g meant.0 c.tables.ensures means in
    let is = subst (λ w. IsOutcome t input w meant.0 all.0) c.in-NoTree.is all.2 in
    no_tree g input meant.0 means is.0 c.without_rows.ensures.status c.without_rows.ensures.rows

pub returns : goal.returns
returns c =
    let g = c.args.self.now in
    let input = c.args.input.now in
    let t = c.tables.result.now in
    let meant = c.has_answer.ensures in
    let means = subst (λ g. Means g input meant.0) c.grammar.ensures meant.1 in
    let all = c.in_ok-parsed.ensures g meant.0 c.tables.ensures means in
    let is = subst (λ w. IsOutcome t input w meant.0 all.0) c.in-Range.is all.2 in
    range g input meant.0 means is.0 c.without_rows-in-Range.ensures.status c.without_rows-in-Range.ensures.rows
