use Rattle.std.proofs.Common.{ap, ◌∙◌, ◌++◌}
use Rattle.ipg_facts.specs.View.{scope_of}
use Rattle.ipg_facts_forms.specs.Pieces.{on_ok}
use Rattle.ipg_facts.proofs.Aims.{terms_gap}
use Rattle.ipg_facts.proofs.members.put_gap_terms.Goals as goal

pub returns : goal.returns
returns c =
    on_ok c.put_terms.result _ _
    (λ e. e.0 ∙ ap (λ made. c.args.out.now.items ++ made) (terms_gap (scope_of c.args.scope.now) c.args.order.now))
    c.put_terms.ensures
