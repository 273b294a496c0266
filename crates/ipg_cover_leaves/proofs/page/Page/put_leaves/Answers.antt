use Rattle.std.proofs.Common.{◌∙◌, ap, sym, subst, drop, add-one, ap₂, [], ◌∷◌, ◌+◌, ℕ}
use Rattle.std.proofs.Math.Seq.{drop-cons}
use Rattle.std.proofs.lemmas.List.Elements.{All-get_or}
use Rattle.ipg_cover_leaves.specs.Back.{HasBytes, IsInside}
use Rattle.ipg_cover_leaves.specs.Bytes.{puts, puts_of}
use Rattle.ipg_cover_leaves.proofs.Places.{Put, go_on}
use Rattle.ipg_cover_leaves.proofs.page.Page.put_leaves.Goals as goal

pub put_leaf-requires-clause-bytes : goal.put_leaf-requires-clause-bytes
put_leaf-requires-clause-bytes c =
    subst HasBytes (sym c.leaf-item.is) (All-get_or HasBytes _ _ _ c.loop-leaf-test.true c.requires.bytes)

pub put_leaf-requires-clause-inside : goal.put_leaf-requires-clause-inside
put_leaf-requires-clause-inside c =
    subst (λ (n : ℕ). IsInside n c.leaf-item.result) (sym c.loop-leaf.invariant.0)
    (subst (IsInside _) (sym c.leaf-item.is) (All-get_or (IsInside _) _ _ _ c.loop-leaf-test.true c.requires.inside))

pub loop-leaf-preserved : goal.loop-leaf-preserved
loop-leaf-preserved c =
    let l = c.loop-leaf in let leaves = c.args.leaves.now in (
      c.put_leaf.ensures.long ∙ l.invariant.0,
      λ holds.
          go_on _ _ [] _ _ (puts_of c.leaf-item.result) (puts (drop (l.leaf-index + 1) leaves)) _
          (subst (λ left. Put l.self.cells.items l.self.clash [] left (puts leaves))
          (ap puts (drop-cons leaves l.leaf-index c.leaf-item.result c.loop-leaf-test.true
          ∙ ap₂ (λ x k. x ∷ drop k leaves) (sym c.leaf-item.is) (sym (add-one l.leaf-index))))
          (l.invariant.1 holds))
          c.put_leaf.ensures.put,
    )
