use Rattle.std.proofs.Common.{◌≡◌, ◌++◌, take}
use Rattle.ipg_c_trees.specs.Names.{rule_lines}
use Rattle.ipg_c_trees.proofs.listing.add_rules.Given as goal

-- the rules gone over have their lines
abbrev pub invariant-loop-rule : goal.invariant-loop-rule
invariant-loop-rule l = l.text.items ≡ l.fn.text.items ++ rule_lines (take l.rule-index l.rules)
