use Rattle.std.proofs.Common.{refl, sym, ap, subst, ◌∙◌, length, Some, None, [], ◌≡◌, rules}
use Rattle.std.specs.Prelude.{slice_get}
use Rattle.ipg_mach_moves.specs.Moves as moves
use Rattle.ipg_mach_moves.specs.Moves.{silent}
use Rattle.ipg_table.specs.Rows.{Each, HoldsCase, HoldsTerm}
use Rattle.ipg_mach_term.specs.declared.entry.TermEntry.TheVariants as entry
use Rattle.ipg_mach_term.specs.Advance.{IsMade, IsAtHand}
use Rattle.ipg_mach_term.proofs.Ending as ending
use Rattle.ipg_mach_term.proofs.Shapes as shapes
use Rattle.ipg_mach_term.proofs.hand.outside.Goals as goal

pub returns-in-Slot-clause-found : goal.returns-in-Slot-clause-found
returns-in-Slot-clause-found g c src at u f state term stands holds shares =
    let counted : length c.args.site.now.bytes.now ≡ c.args.site.now.size = search rules in
    let site = c.args.site.now in
    let st = c.args.store.now in
    let h = subst (λ a. HoldsTerm site.tables.now a term) c.in-Slot.is holds in
    shapes.at_term
    (λ term. IsAtHand src st at site.size u state [] f entry.Outside c.made.result (moves.advance silent f state u moves.Outside (Some term)))
    term _ h.1
    (c.made.ensures src at site.size u f state [] moves.Outside _ _ shares.syms (ap length shares.part ∙ counted) (h.0, refl, h.2) (refl, refl)
    (c.slot-found.ensures.found src st at f _ state None h.0 stands h.2 shares) (ending.outside_ends _ _) refl)

pub returns-in-Pick-clause-found : goal.returns-in-Pick-clause-found
returns-in-Pick-clause-found g c src at u f state term stands holds shares =
    let counted : length c.args.site.now.bytes.now ≡ c.args.site.now.size = search rules in
    let site = c.args.site.now in
    let st = c.args.store.now in
    let h = subst (λ a. HoldsTerm site.tables.now a term) c.in-Pick.is holds in
    let each = subst (λ rows. Each (HoldsCase site.tables.now) rows h.0) (sym c.cases.ensures) h.3.each in
    shapes.at_term
    (λ term. IsAtHand src st at site.size u state [] f entry.Outside c.made-in-Pick.result (moves.advance silent f state u moves.Outside (Some term)))
    term _ h.2
    (c.made-in-Pick.ensures src at site.size u f state [] moves.Outside _ _ shares.syms (ap length shares.part ∙ counted) (h.0, h.1, refl, h.3, h.4)
    (refl, refl) (c.pick-found.ensures.found src st at f _ state h.0 h.1 stands each h.4 shares) (ending.outside_ends _ _) refl)

pub returns-in-Set-clause-found : goal.returns-in-Set-clause-found
returns-in-Set-clause-found g c src at u f state term stands holds shares =
    let site = c.args.site.now in
    let st = c.args.store.now in
    let h = subst (λ a. HoldsTerm site.tables.now a term) c.in-Set.is holds in
    shapes.at_term (λ term. IsMade src st at site.size u state [] c.set.result (moves.advance silent f state u moves.Outside (Some term)))
    term _ h.1
    (c.set.ensures.made src st at site.size u f state h.0 stands h.2)

pub returns-in-Test-clause-found : goal.returns-in-Test-clause-found
returns-in-Test-clause-found g c src at u f state term stands holds shares =
    let site = c.args.site.now in
    let st = c.args.store.now in
    let h = subst (λ a. HoldsTerm site.tables.now a term) c.in-Test.is holds in
    shapes.at_term (λ term. IsMade src st at site.size u state [] c.test.result (moves.advance silent f state u moves.Outside (Some term)))
    term _ h.1
    (c.test.ensures.made src st at site.size u f state h.0 stands h.2)

pub returns-in-Repeat-clause-found : goal.returns-in-Repeat-clause-found
returns-in-Repeat-clause-found g c src at u f state term stands holds shares =
    let site = c.args.site.now in
    let st = c.args.store.now in
    let h = subst (λ a. HoldsTerm site.tables.now a term) c.in-Repeat.is holds in
    shapes.at_term (λ term. IsMade src st at site.size u state [] c.array.result (moves.advance silent f state u moves.Outside (Some term)))
    term _ h.3
    (c.array.ensures.made src st at site.size u f state h.0 h.1 h.2 stands h.4 h.5
    (ap (λ syms. slice_get syms c.in-Repeat.item.sym) shares.syms ∙ h.6.sym))

pub returns-in-Many-clause-found : goal.returns-in-Many-clause-found
returns-in-Many-clause-found g c src at u f state term stands holds shares =
    let counted : length c.args.site.now.bytes.now ≡ c.args.site.now.size = search rules in
    let site = c.args.site.now in
    let st = c.args.store.now in
    let h = subst (λ a. HoldsTerm site.tables.now a term) c.in-Many.is holds in
    shapes.at_term (λ term. IsMade src st at site.size u state [] c.many.result (moves.advance silent f state u moves.Outside (Some term)))
    term _ h.1
    (c.many.ensures.made src st at u f state h.0 stands h.2 (ap length shares.part ∙ counted))
