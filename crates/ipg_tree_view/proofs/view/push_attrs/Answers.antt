use Rattle.std.proofs.Common.{ap, map}
use Rattle.std.proofs.lemmas.List.{drop_all}
use Rattle.ipg_core.specs.Lines.{attr_word}
use Rattle.ipg_tree.specs.Words.{spaced}
use Rattle.ipg_tree_view.proofs.Cuts.{lacks_as}
use Rattle.ipg_tree.specs.Behind.{next_spaced}
use Rattle.ipg_tree_view.proofs.view.push_attrs.Goals as goal

pub loop-attr-preserved : goal.loop-attr-preserved
loop-attr-preserved c grammar all stand h =
    c.push_attr.ensures grammar all _ stand
    (lacks_as _ all _ _ (next_spaced (attr_word grammar) c.args.attrs.now c.loop-attr.attr-index _ c.loop-attr-test.true)
    (c.loop-attr.invariant grammar all stand h))

pub returns : goal.returns
returns c grammar all stand h =
    lacks_as _ all _ _ (ap (λ attrs. spaced (map (attr_word grammar) attrs)) (drop_all c.loop-attr.attr-index c.args.attrs.now c.loop-attr-test.false))
    (c.loop-attr.invariant grammar all stand h)
