use Rattle.std.proofs.Common.{ap, ◌∙◌}
use Rattle.ipg_facts.specs.Keep.{before}
use Rattle.ipg_facts.specs.View.{scope_of}
use Rattle.ipg_facts_forms.specs.Pieces.{on_ok}
use Rattle.ipg_facts.proofs.Branches.{caller_made}
use Rattle.ipg_facts.proofs.keeping.put_caller_facts.Goals as goal

pub returns : goal.returns
returns c =
    on_ok c.put_own_members.result _ _
    (λ e. caller_made c.args.ground.grammar.now c.args.ground.marks.now c.args.edition c.args.edge c.args.caller.now (scope_of c.in_ok-scope.scope)
    (scope_of c.put_terms_members.new.scope) c.as_slice-2.result.now
    c.args.out.now.items c.put_terms_members.new.out.items c.put_own_members.new.out.items
    c.in_ok-scope.ensures (c.as_slice-2.ensures.value ∙ c.in_ok-order.ensures ∙ ap (before c.args.edge.term) c.as_slice.ensures)
    c.in_ok-put_terms_members.ensures.0 c.in_ok-put_terms_members.ensures.1 e)
    c.put_own_members.ensures
