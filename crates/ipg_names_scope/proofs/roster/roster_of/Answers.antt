use Rattle.std.proofs.Common.{arith}
use Rattle.std.proofs.lemmas.List.{length-map}
use Rattle.ipg_names_scope.specs.View.{entry_view, entries_view}
use Rattle.ipg_names_scope.proofs.Rosters.{few_so_far}
use Rattle.ipg_names_scope.proofs.roster.roster_of.Goals as goal

pub add_rule-requires-clause-count : goal.add_rule-requires-clause-count
add_rule-requires-clause-count c =
    let items = c.loop-rule.roster.items in
    omega (arith, length-map items entry_view, few_so_far c.args.rules.now (entries_view items) _ c.loop-rule.invariant c.requires.count)
