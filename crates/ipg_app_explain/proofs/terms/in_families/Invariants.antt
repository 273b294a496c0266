use Rattle.std.proofs.Common.{◌≡◌, ◌+◌, length, flat_map, take}
use Rattle.ipg_app_explain.specs.Terms.{family}
use Rattle.ipg_app_explain.proofs.terms.in_families.Given as goal

-- the rules gone over are counted off
abbrev pub invariant-loop-rule : goal.invariant-loop-rule
invariant-loop-rule l = l.number ≡ length (flat_map family (take l.rule-index l.rules)) + l.rest
