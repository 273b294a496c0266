use Rattle.std.proofs.Common.{refl, sym, ap, ◌∙◌}
use Rattle.ipg_names_scope.specs.declared.roster.ListedRule as code
use Rattle.ipg_names_scope.specs.View.{entry_view, entries_view, entry_name, entry_at}
use Rattle.ipg_names.specs.declared.fault.NameFault.TheVariants.{DuplicateRule}
use Rattle.ipg_names.specs.Fault.{first_of}
use Rattle.ipg_names.specs.Heads.{is_rule, head_told}
use Rattle.ipg_names.proofs.HeadTable.{head_which, heads_from, heads_are}
use Rattle.ipg_names.proofs.Firsts.{First, first_when}
use Rattle.ipg_names.proofs.Turns.{fault_turn, fault_done}
use Rattle.ipg_names.proofs.heads.heads_fault.Goals as goal

pub loop-r-preserved : goal.loop-r-preserved
loop-r-preserved c =
    let all = entries_view c.args.roster.now in
    let r = c.loop-r.r in
    let e = c.index-roster-r.result in
    let first : First c.head_fault.result (head_which all r (entry_view e)) = record {
      is = c.head_fault.ensures ∙ ap (λ o. head_told (is_rule o r) (entry_name e) (entry_at e)) (c.requires.numbers (entry_name e))
          ∙ sym (first_when _ (DuplicateRule (entry_at e)));
    } in
    fault_turn (λ n es. heads_from all n (entries_view es)) (λ n (x : code.ListedRule). head_which all n (entry_view x)) (λ n x xs. refl) (λ n. refl)
    _ _ _ _ _ _ c.index-roster-r.is c.loop-r-test.true first c.earlier-fault.ensures c.loop-r.invariant

pub returns : goal.returns
returns c =
    let all = entries_view c.args.roster.now in
    fault_done (λ n es. heads_from all n (entries_view es)) (λ n (x : code.ListedRule). head_which all n (entry_view x)) (λ n x xs. refl) (λ n. refl)
    _ _ _ _ c.loop-r-test.false c.loop-r.invariant
    ∙ ap first_of (heads_are all)
