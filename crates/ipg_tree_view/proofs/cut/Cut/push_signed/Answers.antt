use Rattle.std.proofs.Common.{◌++◌, ◌∙◌, ap, w64}
use Rattle.std.proofs.lemmas.Int.{to_z-of_z}
use Rattle.std.specs.Fmt.{signed_decimal}
use Rattle.ipg_tree_view.proofs.Cuts.{lacks_made}
use Rattle.ipg_tree_view.proofs.cut.Cut.push_signed.Goals as goal

pub returns : goal.returns
returns c all end h =
    let made = c.as_slice.ensures ∙ c.prepend_signed.ensures.text ∙ ap (λ z. signed_decimal z ++ c.new-digits.result) (to_z-of_z w64 c.args.n c.ranges.n) in
    c.push.ensures all end (lacks_made c.args.self.now all (signed_decimal c.args.n) c.new-digits.result c.as_slice.result.now end made c.new-digits.ensures h)
