use Rattle.ipg_names_scope.specs.Names.{term_names}
use Rattle.ipg_names_scope.specs.Lookup.{shown}
use Rattle.ipg_names_scope.proofs.Once.{Put, turn}
use Rattle.ipg_names_scope.proofs.names.add_terms.Goals as goal

pub loop-term-preserved : goal.loop-term-preserved
loop-term-preserved c =
    let more : Put (shown c.loop-term.names) (term_names c.term-item.result) (shown c.add_term.new.names) = record { is = c.in_ok-add_term.ensures } in
    turn term_names _ _ _ _ _ c.term-item.is c.loop-term-test.true more c.loop-term.invariant
