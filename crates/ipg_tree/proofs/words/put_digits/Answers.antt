use Rattle.std.proofs.Common.{◌≡◌, [], ap, arith, ◌∙◌}
use Rattle.std.proofs.lemmas.Grind.{common_steps}
use Rattle.hex.specs.Hex.{encode_lower}
use Rattle.ipg_tree.specs.Putting.{next, exits, all_put}
use Rattle.ipg_tree.specs.Behind.{digits_append, no_digits}
use Rattle.ipg_tree.proofs.words.put_digits.Goals as goal

pub returns-in_err-put_some : goal.returns-in_err-put_some
returns-in_err-put_some g c =
    exits _ c.from_residual.result c.from_residual.ensures.1 _ (ap encode_lower c.split_at.ensures.by_index.0 ∙ digits_append _ _)
    c.loop-left.invariant c.in_err-put_some.ensures

pub loop-left-preserved : goal.loop-left-preserved
loop-left-preserved g c =
    next (ap encode_lower c.split_at.ensures.by_index.0 ∙ digits_append _ _) c.loop-left.invariant c.in_ok-put_some.ensures

pub returns : goal.returns
returns g c =
    let none : c.loop-left.left.now ≡ [] = grind (arith, common_steps) in
    all_put (ap encode_lower none ∙ no_digits) c.loop-left.invariant
