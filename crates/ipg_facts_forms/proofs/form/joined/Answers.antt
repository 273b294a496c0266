use Rattle.std.proofs.Common.{ap, ◌∙◌, drop, arith, ◌+◌}
use Rattle.ipg_facts_forms.specs.Form.{add_parts}
use Rattle.ipg_facts_forms.proofs.Parts.{parts_more, parts_all}
use Rattle.ipg_facts_forms.proofs.form.joined.Goals as goal

pub loop-part-preserved : goal.loop-part-preserved
loop-part-preserved c = ap (λ ps. add_parts ps (drop (c.loop-part.part-index + 1) c.args.b.now)) c.in_ok-add_part.ensures
    ∙ parts_more c.loop-part.parts.items c.args.b.now c.loop-part.part-index c.part-item.result _ c.loop-part-test.true c.part-item.is c.loop-part.invariant

pub returns : goal.returns
returns c = c.from_vec.ensures ∙ parts_all c.loop-part.parts.items c.args.b.now c.loop-part.part-index _ (omega arith) c.loop-part.invariant
