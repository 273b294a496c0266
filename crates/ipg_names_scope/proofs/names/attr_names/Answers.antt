use Rattle.ipg_names_scope.specs.Names.{rule_names}
use Rattle.ipg_names_scope.specs.Lookup.{shown}
use Rattle.ipg_names_scope.proofs.Once.{Put, turn}
use Rattle.ipg_names_scope.proofs.names.attr_names.Goals as goal

pub loop-rule-preserved : goal.loop-rule-preserved
loop-rule-preserved c =
    let more : Put (shown c.loop-rule.names) (rule_names c.rule-item.result) (shown c.add_rule.new.names) = record { is = c.in_ok-add_rule.ensures } in
    turn rule_names _ _ _ _ _ c.rule-item.is c.loop-rule-test.true more c.loop-rule.invariant
