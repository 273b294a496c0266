use Rattle.ipg_names_scope.specs.Names.{alt_names}
use Rattle.ipg_names_scope.specs.Lookup.{shown}
use Rattle.ipg_names_scope.proofs.Once.{Put, turn}
use Rattle.ipg_names_scope.proofs.names.add_rule.Goals as goal

pub loop-alt-preserved : goal.loop-alt-preserved
loop-alt-preserved c =
    let more : Put (shown c.loop-alt.names) (alt_names c.alt-item.result) (shown c.add_alt.new.names) = record { is = c.in_ok-add_alt.ensures } in
    turn alt_names _ _ _ _ _ c.alt-item.is c.loop-alt-test.true more c.loop-alt.invariant
