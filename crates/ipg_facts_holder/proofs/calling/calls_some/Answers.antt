use Rattle.std.proofs.Common.{ap, sym, ◌∙◌, ◌||◌, List}
use Rattle.std.specs.List.{list_any}
use Rattle.ipg_core.specs.declared.grammar.CoreExpr.{CoreExpr}
use Rattle.ipg_core.specs.declared.grammar.CoreSlot.{CoreSlot}
use Rattle.std.proofs.Common.{Option, Bool}
use Rattle.std.specs.Option.{option_copied}
use Rattle.ipg_facts_holder.specs.Calling.{calls_by, calls_some_by}
use Rattle.ipg_facts_holder.proofs.Marking.{calls_pick}
use Rattle.ipg_facts_holder.proofs.calling.calls_some.Goals as goal

pub returns-then-cases_call : goal.returns-then-cases_call
returns-then-cases_call c =
    let g = c.args.g.now in
    let at = c.args.at in
    let marks : Option (List Bool) = option_copied c.args.marks in
    let found = c.cases_call.ensures ∙ ap (λ (cs : List (CoreExpr × CoreSlot)). list_any (λ (k : CoreExpr × CoreSlot). calls_by g at marks k.1.sym) cs)
    c.as_slice.ensures in
    c.if-cases_call.true ∙ sym (ap (λ b. b || calls_by g at marks c.in-Pick.other.sym) c.if-cases_call.true)
    ∙ calls_pick g at marks c.in-Pick.cases c.in-Pick.other c.cases_call.result found ∙ sym (ap (calls_some_by g at marks) c.in-Pick.is)

pub returns-else-cases_call : goal.returns-else-cases_call
returns-else-cases_call c =
    let g = c.args.g.now in
    let at = c.args.at in
    let marks : Option (List Bool) = option_copied c.args.marks in
    let found = c.cases_call.ensures ∙ ap (λ (cs : List (CoreExpr × CoreSlot)). list_any (λ (k : CoreExpr × CoreSlot). calls_by g at marks k.1.sym) cs)
    c.as_slice.ensures in
    c.calls-else-cases_call.ensures ∙ sym (ap (λ b. b || calls_by g at marks c.in-Pick.other.sym) c.if-cases_call.false)
    ∙ calls_pick g at marks c.in-Pick.cases c.in-Pick.other c.cases_call.result found ∙ sym (ap (calls_some_by g at marks) c.in-Pick.is)
