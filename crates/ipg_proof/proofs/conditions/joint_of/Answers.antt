use Rattle.std.proofs.Common.{ap, sym, ◌∙◌, subst}
use Rattle.ipg_facts_forms.specs.Joint.{joint}
use Rattle.ipg_facts_laws.specs.Laws.{IsPart}
use Rattle.ipg_proof.specs.Seen.{seen}
use Rattle.ipg_proof.proofs.Parts.{joint_is_part}
use Rattle.ipg_proof.proofs.conditions.joint_of.Goals as goal

pub returns-clause-part : goal.returns-clause-part
returns-clause-part c = λ some.
    let is = c.in_ok-made.ensures ∙ ap joint (c.as_slice.ensures.value ∙ c.in_ok-parts.ensures) in
    subst IsPart (sym is)
    (joint_is_part c.conditions_are_parts.ensures c.joint_is_part.ensures (seen c.args.calls) c.args.cycle.now some)
