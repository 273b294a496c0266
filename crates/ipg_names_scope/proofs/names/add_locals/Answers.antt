use Rattle.ipg_names_scope.specs.Names.{local_names}
use Rattle.ipg_names_scope.specs.Lookup.{shown}
use Rattle.ipg_names_scope.proofs.Once.{Put, turn}
use Rattle.ipg_names_scope.proofs.names.add_locals.Goals as goal

pub loop-rule-preserved : goal.loop-rule-preserved
loop-rule-preserved c =
    let more : Put (shown c.loop-rule.names) (local_names c.rule-item.result) (shown c.add_local.new.names) = record { is = c.in_ok-add_local.ensures } in
    turn local_names _ _ _ _ _ c.rule-item.is c.loop-rule-test.true more c.loop-rule.invariant
