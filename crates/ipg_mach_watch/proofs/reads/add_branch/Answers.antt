use Rattle.std.proofs.Common.{sym, ap, ◌∙◌, subst, Option}
use Rattle.std.specs.Prelude.{flat_map}
use Rattle.std.specs.Option.{option_copied}
use Rattle.ipg_core.specs.declared.grammar.CoreExpr.{CoreExpr}
use Rattle.ipg_core.specs.declared.grammar.CoreSlot.{CoreSlot}
use Rattle.ipg_mach_failures.specs.Values.{reads, in_slot, in_branch, with_values}
use Rattle.ipg_mach_watch.specs.Agreeing.{HoldsBranch}
use Rattle.ipg_mach_watch.proofs.Reading as reading
use Rattle.ipg_mach_watch.proofs.Branching as branching
use Rattle.ipg_mach_watch.proofs.reads.add_branch.Goals as goal

pub returns-in-Some : goal.returns-in-Some
returns-in-Some g c env branch last stands holds other =
    let t = c.args.tables.now in
    let old = c.args.values.now in
    let it = branching.is_branch t c.in-Some.case.now branch (subst (λ row. HoldsBranch t row branch) (ap option_copied c.in-Some.is) holds) in
    c.add_slot.ensures env it.one.1 stands it.holds.slot
    ∙ ap (λ v. with_values v (flat_map (reads env) (in_slot it.one.1))) (c.add_expr.ensures env it.one.0 stands it.holds.cond)
    ∙ sym (reading.with_first old (reads env) it.one.0 (in_slot it.one.1))
    ∙ ap (λ (one : Option (CoreExpr × CoreSlot)). with_values old (flat_map (reads env) (in_branch one last))) (sym it.is)
