use Rattle.ipg_tree.specs.Json.{member}
use Rattle.ipg_tree.specs.Putting.{next, exits}
use Rattle.ipg_tree.proofs.Objects.{next_led}
use Rattle.ipg_tree.proofs.json.put_more_members.Goals as goal

pub returns-in_err-put_next_member : goal.returns-in_err-put_next_member
returns-in_err-put_next_member g c grammar stand =
    exits _ c.from_residual.result c.from_residual.ensures.1 _ (next_led (member grammar) c.args.attrs.now c.loop-attr.attr-index _ c.loop-attr-test.true)
    (c.loop-attr.invariant grammar stand) (c.in_err-put_next_member.ensures grammar stand)

pub loop-attr-preserved : goal.loop-attr-preserved
loop-attr-preserved g c grammar stand =
    next (next_led (member grammar) c.args.attrs.now c.loop-attr.attr-index _ c.loop-attr-test.true) (c.loop-attr.invariant grammar stand)
    (c.in_ok-put_next_member.ensures grammar stand)
