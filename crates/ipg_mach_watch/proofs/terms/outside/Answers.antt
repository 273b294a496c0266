use Rattle.std.proofs.Common.{sym, ap, ◌∙◌, subst}
use Rattle.ipg_core.specs.declared.grammar.CoreTerm.{CoreTerm}
use Rattle.ipg_mach_moves.specs.Moves as moves
use Rattle.ipg_table.specs.Rows.{Each, HoldsCase, HoldsTerm}
use Rattle.ipg_mach_failures.specs.Failing as spec
use Rattle.ipg_mach_watch.proofs.terms.outside.Goals as goal

pub returns-in-Slot-clause-fails : goal.returns-in-Slot-clause-fails
returns-in-Slot-clause-fails g c f state u term stands holds is_part =
    let h = subst (λ a. HoldsTerm c.args.site.now.tables.now a term) c.in-Slot.is holds in
    c.slot.ensures.fails f state _ h.0 stands h.2 is_part ∙ ap (λ (t : CoreTerm). spec.term_fails f state u moves.Outside t) (sym h.1)

pub returns-in-Pick-clause-fails : goal.returns-in-Pick-clause-fails
returns-in-Pick-clause-fails g c f state u term stands holds is_part =
    let t = c.args.site.now.tables.now in
    let h = subst (λ a. HoldsTerm t a term) c.in-Pick.is holds in
    let each = subst (λ rows. Each (HoldsCase t) rows h.0) (sym c.cases.ensures) h.3.each in
    c.pick.ensures.fails f state h.0 h.1 stands each h.4 is_part ∙ ap (λ (t : CoreTerm). spec.term_fails f state u moves.Outside t) (sym h.2)

pub returns-in-Set-clause-fails : goal.returns-in-Set-clause-fails
returns-in-Set-clause-fails g c f state u term stands holds is_part =
    let h = subst (λ a. HoldsTerm c.args.site.now.tables.now a term) c.in-Set.is holds in
    c.valued.ensures.fails f state h.0 stands h.2 ∙ ap (λ (t : CoreTerm). spec.term_fails f state u moves.Outside t) (sym h.1)

pub returns-in-Test-clause-fails : goal.returns-in-Test-clause-fails
returns-in-Test-clause-fails g c f state u term stands holds is_part =
    let h = subst (λ a. HoldsTerm c.args.site.now.tables.now a term) c.in-Test.is holds in
    c.test.ensures.fails f state h.0 stands h.2 ∙ ap (λ (t : CoreTerm). spec.term_fails f state u moves.Outside t) (sym h.1)

pub returns-in-Repeat-clause-fails : goal.returns-in-Repeat-clause-fails
returns-in-Repeat-clause-fails g c f state u term stands holds is_part =
    let h = subst (λ a. HoldsTerm c.args.site.now.tables.now a term) c.in-Repeat.is holds in
    c.bounds.ensures.fails f state h.0 h.1 stands h.4 h.5 ∙ ap (λ (t : CoreTerm). spec.term_fails f state u moves.Outside t) (sym h.3)

pub returns-in-Many-clause-fails : goal.returns-in-Many-clause-fails
returns-in-Many-clause-fails g c f state u term stands holds is_part =
    let h = subst (λ a. HoldsTerm c.args.site.now.tables.now a term) c.in-Many.is holds in
    c.ends.ensures.fails f state h.0 stands h.2 is_part ∙ ap (λ (t : CoreTerm). spec.term_fails f state u moves.Outside t) (sym h.1)
