use Rattle.std.proofs.Common.{refl, ap, subst, ◌∙◌, length, Some, ◌≡◌, rules}
use Rattle.ipg_core.specs.Meaning.{with_kid}
use Rattle.ipg_mach_moves.specs.Moves as moves
use Rattle.ipg_mach_moves.specs.Moves.{silent}
use Rattle.ipg_table.specs.Rows.{HoldsTerm}
use Rattle.ipg_mach_term.specs.Advance.{IsEntry, IsAtHand, environment_at}
use Rattle.ipg_mach_term.proofs.Ending as ending
use Rattle.ipg_mach_term.proofs.Shapes as shapes
use Rattle.ipg_mach_term.proofs.hand.item.Goals as goal

pub returns-in-Repeat-clause-found : goal.returns-in-Repeat-clause-found
unfolding with_kid
returns-in-Repeat-clause-found g c src at u left z f state items e term entered stands holds is shares =
    let counted : length c.args.site.now.bytes.now ≡ c.args.site.now.size = search rules in
    let site = c.args.site.now in
    let h = subst (λ a. HoldsTerm site.tables.now a term) c.in-Repeat.is holds in
    let i = subst (λ x. IsEntry site.size x items e) entered is in
    shapes.at_both
    (λ e term. g.R.Results.stands c.args.results.now (environment_at f state u e term) → IsEntry site.size c.args.entry items e
    → IsAtHand src c.args.store.now at site.size u state items f c.args.entry c.made.result (moves.advance silent f state u e (Some term)))
    e _ term _ i.2 h.3
    (λ stands is. c.made.ensures src at site.size u f state items _ _ _ shares.syms (ap length shares.part ∙ counted)
    (h.0, h.1, h.2, refl, h.4, h.5, h.6) is
    (c.slot-found.ensures.found src c.args.store.now at f _ _ (Some z) h.2 stands h.6 shares) (ending.inside_ends c.args.entry left z _ _ entered) refl)
    stands is

pub returns-in_default : goal.returns-in_default
returns-in_default g c = record {
  found = λ src at u left z f state items e term entered stands holds is shares.
      shapes.no_array c.args.site.now.tables.now f state u c.args.site.now.size items e term c.args.action left z c.in_default.not-Repeat holds
      (subst (λ x. IsEntry c.args.site.now.size x items e) entered is);
  area = refl;
}
