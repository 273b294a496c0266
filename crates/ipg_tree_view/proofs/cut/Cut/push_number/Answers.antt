use Rattle.std.proofs.Common.{◌∙◌}
use Rattle.ipg_tree_view.proofs.Cuts.{lacks_made}
use Rattle.ipg_tree_view.proofs.cut.Cut.push_number.Goals as goal

pub returns : goal.returns
returns c all end h =
    c.push.ensures all end (lacks_made _ all _ _ _ end (c.as_slice.ensures ∙ c.prepend_number.ensures.text) c.new-digits.ensures h)
