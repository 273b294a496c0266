use Rattle.std.proofs.Common.{sym, ap, ◌∙◌, subst}
use Rattle.ipg_mach_moves.specs.Moves as moves
use Rattle.ipg_mach_term.specs.Advance.{IsEntry, environment_at}
use Rattle.ipg_mach_failures.specs.Failing as spec
use Rattle.ipg_mach_watch.proofs.terms.term.Goals as goal

pub returns-in-Outside-clause-fails : goal.returns-in-Outside-clause-fails
returns-in-Outside-clause-fails g c f state u items e term stands holds entry is_part =
    let h = subst (λ x. IsEntry c.args.site.now.size x items e) c.in-Outside.is entry in
    c.outside.ensures.fails f state u term (subst (λ x. g.R.Results.stands c.args.results.now (environment_at f state u x term)) h.1 stands) holds is_part
    ∙ ap (λ (x : moves.Entry). spec.term_fails f state u x term) (sym h.1)

pub returns-in-Turns-clause-fails : goal.returns-in-Turns-clause-fails
returns-in-Turns-clause-fails g c f state u items e term stands holds entry is_part =
    let h = subst (λ x. IsEntry c.args.site.now.size x items e) c.in-Turns.is entry in
    c.next_turn.ensures f state u items term holds h.1 h.2 is_part ∙ ap (λ (x : moves.Entry). spec.term_fails f state u x term) (sym h.0)
