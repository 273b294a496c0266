use Rattle.std.proofs.Common.{refl, ap, subst, ◌∙◌, length, Some, ◌≡◌, rules}
use Rattle.ipg_core.specs.Meaning.{Place}
use Rattle.ipg_mach_moves.specs.Moves as moves
use Rattle.ipg_mach_moves.specs.Moves.{silent}
use Rattle.ipg_table.specs.Rows.{HoldsTerm}
use Rattle.ipg_mach_term.specs.declared.entry.TermEntry.TheVariants as entry
use Rattle.ipg_mach_term.specs.Advance.{IsEntry, IsAtHand}
use Rattle.ipg_mach_term.proofs.Ending as ending
use Rattle.ipg_mach_term.proofs.Shapes as shapes
use Rattle.ipg_mach_term.proofs.hand.next_turn.Goals as goal

pub returns-in-Many : goal.returns-in-Many
returns-in-Many g c src begin u f state items e term holds is shares =
    let counted : length c.args.site.now.bytes.now ≡ c.args.site.now.size = search rules in
    let site = c.args.site.now in
    let place : Place = record { term = u; branch = 0 } in
    let size = ap length shares.part ∙ counted in
    let h = subst (λ a. HoldsTerm site.tables.now a term) c.in-Many.is holds in
    let found = c.turn_within-found.ensures src c.args.store.now begin f place state.own h.0.sym is.1 is.2 h.2.sym shares in
    let ends = ending.turn_ends f place state.own c.args.at c.args.to h.0.sym src c.args.store.now begin _ found in
    shapes.at_both
    (λ e term. IsEntry site.size (entry.Turns c.args.at c.args.to) items e → IsAtHand src c.args.store.now begin site.size u state items f
    (entry.Turns c.args.at c.args.to) c.made.result (moves.advance silent f state u e (Some term)))
    e _ term _ is.0 h.1
    (λ is. c.made.ensures src begin site.size u f state items _ _ _ shares.syms size (h.0, refl, h.2) is found ends refl)
    is

pub returns-in_default : goal.returns-in_default
returns-in_default g c src begin u f state items e term holds is shares =
    shapes.no_repetition c.args.site.now.tables.now f state u c.args.site.now.size items e term c.args.action c.args.at c.args.to c.in_default.not-Many
    holds is
