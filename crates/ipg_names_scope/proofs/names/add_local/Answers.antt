use Rattle.std.proofs.Common.{ap, ◌∙◌}
use Rattle.ipg_names_scope.specs.Names.{local_alt_names, terms_names, once}
use Rattle.ipg_names_scope.specs.Lookup.{shown}
use Rattle.ipg_names_scope.proofs.Once.{Put, turn}
use Rattle.ipg_names_scope.proofs.names.add_local.Goals as goal

pub loop-alt-preserved : goal.loop-alt-preserved
loop-alt-preserved c =
    let more : Put (shown c.loop-alt.names) (local_alt_names c.alt-item.result) (shown c.add_terms.new.names) = record {
      is = c.in_ok-add_terms.ensures ∙ ap (λ terms. once (shown c.loop-alt.names) (terms_names terms)) c.as_slice.ensures;
    } in
    turn local_alt_names _ _ _ _ _ c.alt-item.is c.loop-alt-test.true more c.loop-alt.invariant
