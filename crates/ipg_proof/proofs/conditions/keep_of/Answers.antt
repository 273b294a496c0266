use Rattle.std.specs.Prelude.{slice_get}
use Rattle.ipg_proof.proofs.Parts.{keep_is_part}
use Rattle.ipg_proof.proofs.conditions.keep_of.Goals as goal

pub returns-clause-part : goal.returns-clause-part
returns-clause-part c =
    let calls = c.args.calls in
    keep_is_part c.conditions_are_parts.ensures calls.grammar.now calls.marks.now (slice_get calls.edges.now c.args.edge) c.in_ok-part.part c.in_ok-part.ensures
