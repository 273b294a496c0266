use Rattle.std.proofs.Common.{ap, ◌∙◌, refl}
use Rattle.ipg_names.specs.Fault.{first_of}
use Rattle.ipg_names.specs.Resolved.{term_in, terms_from}
use Rattle.ipg_names.specs.Faults.{term_faults, terms_faults}
use Rattle.ipg_names_scope.specs.Site.{scopes_at}
use Rattle.ipg_names.proofs.Firsts.{First}
use Rattle.ipg_names.proofs.Turns.{made_turn, made_done, fault_turn, fault_done}
use Rattle.ipg_names.proofs.rules.judged_terms.Goals as goal

pub loop-u-init : goal.loop-u-init
loop-u-init c = record { marks = c.in_ok-marks.ensures; made = rw c.in_ok-made.ensures.items refl; fault = refl }

pub loop-u-preserved : goal.loop-u-preserved
loop-u-preserved c =
    let u = c.loop-u.u in
    let terms = c.args.terms.now in
    let term = c.index-terms-u.result in
    let scopes = scopes_at c.args.tables.now c.args.entry.now c.args.at terms in
    let marks = c.loop-u.invariant.marks in
    let here = c.tables_tell.ensures c.args.tables.now c.args.entry.now c.args.at terms _ refl c.home_of.ensures c.requires.tables marks c.requires.outer in
    let first : First c.in_ok-judged.judged.fault (term_faults (scopes u) term) = record {
      is = c.in_ok-judged.ensures.fault
          ∙ ap (λ s. first_of (term_faults s term)) here;
    } in
    record {
      marks = c.in_ok-pass.ensures;
      made = rw (c.in_ok-push.ensures.items, c.in_ok-judged.ensures.made, here)
          (made_turn (terms_from scopes) (λ n x. term_in (scopes n) x) (λ n x xs. refl)
          (λ n. refl) _ _ _ _ _ _ c.index-terms-u.is c.loop-u-test.true refl c.loop-u.invariant.made);
      fault = fault_turn (terms_faults scopes) (λ n x. term_faults (scopes n) x) (λ n x xs. refl) (λ n. refl)
          _ _ _ _ _ _ c.index-terms-u.is c.loop-u-test.true first c.earlier-fault.ensures c.loop-u.invariant.fault;
    }

pub returns-clause-made : goal.returns-clause-made
returns-clause-made c =
    let scopes = scopes_at c.args.tables.now c.args.entry.now c.args.at c.args.terms.now in
    c.from_vec.ensures ∙ made_done (terms_from scopes) (λ n x. term_in (scopes n) x) (λ n x xs. refl)
    (λ n. refl) _ _ _ _ c.loop-u-test.false c.loop-u.invariant.made

pub returns-clause-fault : goal.returns-clause-fault
returns-clause-fault c =
    let scopes = scopes_at c.args.tables.now c.args.entry.now c.args.at c.args.terms.now in
    fault_done (terms_faults scopes) (λ n x. term_faults (scopes n) x) (λ n x xs. refl) (λ n. refl) _ _ _ _ c.loop-u-test.false c.loop-u.invariant.fault
