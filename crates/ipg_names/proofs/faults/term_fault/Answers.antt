use Rattle.std.proofs.Common.{ap, ◌∙◌, sym}
use Rattle.ipg_names.specs.Fault.{first_of}
use Rattle.ipg_names.specs.Faults.{term_faults, ends_faults, rule_fault, var_fault}
use Rattle.ipg_names_scope.specs.Scope.{Scope, inside}
use Rattle.ipg_names_scope.specs.Site.{spot_scope}
use Rattle.ipg_names.proofs.Firsts.{First, join}
use Rattle.ipg_names.proofs.faults.term_fault.Goals as goal

pub returns-in-Repeat : goal.returns-in-Repeat
returns-in-Repeat c =
    let scope : Scope = spot_scope c.args.spot.now in
    let own : Scope = inside scope c.in-Repeat.var.name c.in-Repeat.item.name in
    let var : First c.var_fault.result (var_fault scope c.in-Repeat.var) = record { is = c.var_fault.ensures } in
    let bounds : First c.ends_fault-bounds.result (ends_faults scope c.in-Repeat.first c.in-Repeat.last) = record { is = c.ends_fault-bounds.ensures } in
    let rule : First c.rule_fault-rule.result (rule_fault scope c.in-Repeat.item.name c.in-Repeat.item.span.from) = record {
      is = c.rule_fault-rule.ensures ∙ ap (λ n. first_of (rule_fault scope n c.in-Repeat.item.span.from)) c.as_slice.ensures;
    } in
    let ends : First c.ends_fault-ends.result (ends_faults own c.in-Repeat.from c.in-Repeat.to) = record {
      is = c.ends_fault-ends.ensures ∙ ap (λ s. first_of (ends_faults s c.in-Repeat.from c.in-Repeat.to)) c.item_spot-inside.ensures;
    } in
    let later = join c.earlier-in-Repeat-2.result bounds
    (join c.earlier-in-Repeat.result rule ends c.earlier-in-Repeat.ensures) c.earlier-in-Repeat-2.ensures in
    let whole = join c.earlier-in-Repeat-3.result var later c.earlier-in-Repeat-3.ensures in
    whole.is ∙ ap (λ t. first_of (term_faults scope t)) (sym c.in-Repeat.is)
