use Rattle.std.proofs.Common.{ap, ◌∙◌, refl}
use Rattle.ipg_names.specs.Fault.{first_of}
use Rattle.ipg_names.specs.Faults.{alt_faults, alts_faults}
use Rattle.ipg_names.specs.Resolved.{alt_in, alts_from}
use Rattle.ipg_names_scope.specs.View.{entry_view, entries_view}
use Rattle.ipg_names_scope.specs.Lookup.{shown}
use Rattle.ipg_names.proofs.Firsts.{First}
use Rattle.ipg_names.proofs.Turns.{made_turn, fault_turn, fault_done}
use Rattle.ipg_names.proofs.rules.judged_alts.Goals as goal

pub loop-a-preserved : goal.loop-a-preserved
loop-a-preserved c =
    let roster = entries_view c.args.tables.now.roster.now in
    let names = shown c.args.tables.now.attrs.now.names in
    let entry = entry_view c.args.entry.now in
    let r = c.args.rule in
    let a = c.loop-a.a in
    let alt = c.index-alts-a.result in
    let first : First c.in_ok-judged.judged.fault (alt_faults roster names entry (r, a) alt) = record { is = c.in_ok-judged.ensures.fault } in
    record {
      made = rw (c.in_ok-push.ensures.items, c.in_ok-judged.ensures.made)
          (made_turn (alts_from roster names entry r) (λ n x. alt_in roster names entry (r, n) x) (λ n x xs. refl)
          (λ n. refl) _ _ _ _ _ _ c.index-alts-a.is c.loop-a-test.true refl c.loop-a.invariant.made);
      fault = fault_turn (alts_faults roster names entry r) (λ n x. alt_faults roster names entry (r, n) x) (λ n x xs. refl) (λ n. refl)
          _ _ _ _ _ _ c.index-alts-a.is c.loop-a-test.true first c.earlier-fault.ensures c.loop-a.invariant.fault;
    }

pub returns-clause-fault : goal.returns-clause-fault
returns-clause-fault c =
    let roster = entries_view c.args.tables.now.roster.now in
    let names = shown c.args.tables.now.attrs.now.names in
    let entry = entry_view c.args.entry.now in
    let r = c.args.rule in
    fault_done (alts_faults roster names entry r) (λ n x. alt_faults roster names entry (r, n) x) (λ n x xs. refl)
    (λ n. refl) _ _ _ _ c.loop-a-test.false c.loop-a.invariant.fault
    ∙ ap (λ alts. first_of (alts_faults roster names entry r 0 alts)) c.as_slice-alts.ensures
