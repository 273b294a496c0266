use Rattle.std.proofs.Common.{◌≡◌, ◌++◌, length, take, drop}
use Rattle.std.specs.List.{flat_map, AllByRecursion}
use Rattle.ipg_reader.specs.Laws.{long_text}
use Rattle.ipg_store_body.specs.Format.{rule_text}
use Rattle.ipg_store_body.specs.Fits.{RuleFits}
use Rattle.ipg_store_body.proofs.writing.put_rules.Given as goal

abbrev pub invariant-loop-rule : goal.invariant-loop-rule
invariant-loop-rule l =
    (l.out.items ≡ l.fn.out.items ++ (long_text (length l.rules) ++ flat_map rule_text (take l.rule-index l.rules)))
    × (AllByRecursion RuleFits (drop l.rule-index l.rules) → AllByRecursion RuleFits l.rules)
