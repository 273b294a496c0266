use Rattle.std.proofs.Common.{ap, ◌∙◌, ◌++◌}
use Rattle.ipg_facts.specs.View.{scope_of}
use Rattle.ipg_facts_forms.specs.Pieces.{on_ok}
use Rattle.ipg_facts.proofs.Aims.{terms_keep}
use Rattle.ipg_facts.proofs.members.put_terms_members.Goals as goal

pub returns : goal.returns
returns c =
    on_ok c.put_terms.result _ _
    (λ e. (e.0 ∙ ap (λ made. c.args.out.now.items ++ made) (terms_keep (scope_of c.args.scope.now) c.args.order.now), e.1))
    c.put_terms.ensures
