use Rattle.std.proofs.Common.{◌≡◌, ◌++◌, drop}
use Rattle.std.specs.Prelude.{flat_map}
use Rattle.ipg_order.specs.Callees as spec
use Rattle.ipg_order.proofs.callees.add_cases.Given as goal

-- those so far and those of what is left are all
abbrev pub invariant-loop-case : goal.invariant-loop-case
invariant-loop-case l = l.out.items ++ flat_map spec.sym_callees (flat_map spec.case_syms (drop l.case-index l.cases)) ≡
    l.fn.out.items ++ flat_map spec.sym_callees (flat_map spec.case_syms l.cases)
