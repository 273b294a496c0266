use Rattle.std.proofs.Common.{refl}
use Rattle.ipg_names_scope.specs.declared.roster.ListedRule as code
use Rattle.ipg_names_scope.specs.Roster.{alts_of}
use Rattle.ipg_names.specs.Faults.{alts_faults, rules_faults}
use Rattle.ipg_names.specs.Resolved.{rule_in, rules_from}
use Rattle.ipg_names_scope.specs.View.{entry_view, entries_view, IsFit}
use Rattle.ipg_names_scope.specs.Lookup.{shown}
use Rattle.ipg_names.proofs.Lists.{all_map_at}
use Rattle.ipg_names.proofs.Firsts.{First}
use Rattle.ipg_names.proofs.Turns.{made_turn, fault_turn}
use Rattle.ipg_names.proofs.rules.judged_rules.Goals as goal

pub judged_rule-requires-clause-fit : goal.judged_rule-requires-clause-fit
judged_rule-requires-clause-fit c = all_map_at IsFit entry_view _ _ _ c.requires.fit c.index-roster-r.is c.loop-r-test.true

pub loop-r-preserved : goal.loop-r-preserved
loop-r-preserved c =
    let roster = entries_view c.args.tables.now.roster.now in
    let names = shown c.args.tables.now.attrs.now.names in
    let r = c.loop-r.r in
    let entry = entry_view c.index-roster-r.result in
    let first : First c.in_ok-judged.judged.fault (alts_faults roster names entry r 0 (alts_of entry)) = record { is = c.in_ok-judged.ensures.fault } in
    record {
      made = rw (c.in_ok-push.ensures.items, c.in_ok-judged.ensures.made)
          (made_turn (λ n es. rules_from roster names n (entries_view es)) (λ n (e : code.ListedRule). rule_in roster names n (entry_view e)) (λ n x xs. refl)
          (λ n. refl)
          _ _ _ _ _ _ c.index-roster-r.is c.loop-r-test.true refl c.loop-r.invariant.made);
      fault = fault_turn (λ n es. rules_faults roster names n (entries_view es)) (λ n (e : code.ListedRule). alts_faults roster names (entry_view e) n 0
          (alts_of (entry_view e)))
          (λ n x xs. refl) (λ n. refl) _ _ _ _ _ _ c.index-roster-r.is c.loop-r-test.true first c.earlier-fault.ensures c.loop-r.invariant.fault;
    }
