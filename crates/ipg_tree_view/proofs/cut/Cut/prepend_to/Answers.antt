use Rattle.std.proofs.Common.{◌≡◌, ◌++◌, arith, ap, sym, ◌∙◌, append_assoc, length, min, take, true, false}
use Rattle.std.specs.Prelude.{codes}
use Rattle.std.proofs.lemmas.List.{length-take}
use Rattle.ipg_tree_view.specs.Cutting.{Begun}
use Rattle.ipg_tree_view.proofs.Cuts.{cut_longer, cut_whole}
use Rattle.ipg_tree_view.proofs.cut.Cut.prepend_to.Goals as goal

pub prepend-requires-then-self : goal.prepend-requires-then-self
prepend-requires-then-self c =
    let few : length c.first.result.now ≡ min 52 (length c.as_slice.result.now) = ap length c.first.ensures ∙ length-take 52 c.as_slice.result.now in
    omega (arith, few, c.prepend.ensures.long, c.requires)

pub returns-then-self-clause-text : goal.returns-then-self-clause-text
returns-then-self-clause-text c text is =
    let first = c.first.result.now in
    let old = c.args.line.now in
    let yes : c.args.self.now.is_longer ≡ true = ap (λ (b : Begun). b.is_longer) (sym c.self.view_is) ∙ c.if-self.true in
    c.prepend-then-self.ensures.text ∙ ap (λ t. first ++ t) c.prepend.ensures.text ∙ sym (append_assoc first (codes "..") old)
    ∙ ap (λ t. t ++ old) (ap (λ t. t ++ codes "..") (c.first.ensures ∙ ap (take 52) c.as_slice.ensures) ∙ cut_longer c.args.self.now text yes is)

pub returns-then-self-clause-long : goal.returns-then-self-clause-long
returns-then-self-clause-long c =
    let few : length c.first.result.now ≡ min 52 (length c.as_slice.result.now) = ap length c.first.ensures ∙ length-take 52 c.as_slice.result.now in
    omega (arith, few, c.prepend.ensures.long, c.prepend-then-self.ensures.long)

pub returns-else-self-clause-text : goal.returns-else-self-clause-text
returns-else-self-clause-text c text is =
    let no : c.args.self.now.is_longer ≡ false = ap (λ (b : Begun). b.is_longer) (sym c.self.view_is) ∙ c.if-self.false in
    c.prepend-else-self.ensures.text ∙ ap (λ t. t ++ c.args.line.now) (c.as_slice-else-self.ensures ∙ cut_whole c.args.self.now text no is)
