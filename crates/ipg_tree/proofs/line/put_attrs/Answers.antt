use Rattle.ipg_core.specs.Lines.{attr_word}
use Rattle.ipg_tree.specs.Putting.{next, exits}
use Rattle.ipg_tree.specs.Behind.{next_spaced}
use Rattle.ipg_tree.proofs.line.put_attrs.Goals as goal

pub returns-in_err-put_next_attr : goal.returns-in_err-put_next_attr
returns-in_err-put_next_attr g c grammar stand =
    exits _ c.from_residual.result c.from_residual.ensures.1 _ (next_spaced (attr_word grammar) c.args.attrs.now c.loop-attr.attr-index _ c.loop-attr-test.true)
    (c.loop-attr.invariant grammar stand) (c.in_err-put_next_attr.ensures grammar stand)

pub loop-attr-preserved : goal.loop-attr-preserved
loop-attr-preserved g c grammar stand =
    next (next_spaced (attr_word grammar) c.args.attrs.now c.loop-attr.attr-index _ c.loop-attr-test.true) (c.loop-attr.invariant grammar stand)
    (c.in_ok-put_next_attr.ensures grammar stand)
