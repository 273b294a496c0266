use Rattle.std.proofs.Common.{sym, ap, ◌∙◌, subst}
use Rattle.std.specs.Prelude.{flat_map, slice_get}
use Rattle.ipg_core.specs.declared.grammar.CoreTerm.{CoreTerm}
use Rattle.ipg_table.specs.Rows.{Each, HoldsCase, HoldsTerm}
use Rattle.ipg_mach_failures.specs.Values.{reads, in_term, with_values}
use Rattle.ipg_mach_watch.specs.Agreeing.{HoldsBranch}
use Rattle.ipg_mach_watch.proofs.Branching as branching
use Rattle.ipg_mach_watch.proofs.reads.add_term.Goals as goal

pub returns-in-Pick : goal.returns-in-Pick
returns-in-Pick g c env n items e term stands entry holds =
    let t = c.args.tables.now in
    let at = c.args.branch in
    let h = subst (λ a. HoldsTerm t a term) c.in-Pick.is holds in
    let each = subst (λ rows. Each (HoldsCase t) rows h.0) (sym c.cases.ensures) h.3.each in
    let here = branching.branch_at t c.cases.result.now h.0 at each in
    c.add_branch.ensures env (slice_get h.0 at) h.1 stands (subst (λ row. HoldsBranch t row (slice_get h.0 at)) (sym c.item_at-case.ensures) here) h.4
    ∙ ap (λ (x : CoreTerm). with_values c.args.values.now (flat_map (reads env) (in_term e at x))) (sym h.2)
