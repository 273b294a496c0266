use Rattle.std.proofs.Common.{sym, ap, ◌∙◌, []}
use Rattle.ipg_names.specs.Fault.{earlier, first_of}
use Rattle.ipg_names.specs.Faults.{head_faults, rules_faults}
use Rattle.ipg_names_scope.specs.View.{entries_view}
use Rattle.ipg_names_scope.specs.Lookup.{shown}
use Rattle.ipg_names.proofs.Firsts.{first_append}
use Rattle.ipg_names.proofs.resolving.judged_roster.Goals as goal

pub returns-clause-fault : goal.returns-clause-fault
returns-clause-fault c =
    let roster = entries_view c.args.roster.now in
    let names = shown c.args.attrs.now.names in
    c.earlier.ensures ∙ ap (λ a. earlier a c.in_ok-rules.rules.fault) c.heads_fault.ensures
    ∙ ap (earlier (first_of (head_faults [] roster))) c.in_ok-rules.ensures.fault
    ∙ sym (first_append (head_faults [] roster) (rules_faults roster names 0 roster))
