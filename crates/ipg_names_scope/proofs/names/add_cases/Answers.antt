use Rattle.ipg_names_scope.specs.Names.{case_names, expr_names, place_names}
use Rattle.ipg_names_scope.specs.Lookup.{shown}
use Rattle.ipg_names_scope.proofs.Once.{Put, then, turn}
use Rattle.ipg_names_scope.proofs.names.add_cases.Goals as goal

pub loop-case-preserved : goal.loop-case-preserved
loop-case-preserved c =
    let first : Put (shown c.loop-case.names) (expr_names c.case-item.result.cond) (shown c.add_expr.new.names) = record { is = c.in_ok-add_expr.ensures } in
    let next : Put (shown c.add_expr.new.names) (place_names c.case-item.result.slot.place) (shown c.add_place.new.names) = record {
      is =
          c.in_ok-add_place.ensures;
    } in
    turn case_names _ _ _ _ _ c.case-item.is c.loop-case-test.true (then first next) c.loop-case.invariant
