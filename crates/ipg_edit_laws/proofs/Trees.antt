-- A tree stands over each input that has its bytes.
use Rattle.std.proofs.Common.{◌≡◌, ℕ, ◌+◌, ◌-◌, ◌≤◌, List, [], ◌∷◌, length, Some, refl, ap, ◌∙◌, sym, subst, arith}
use Rattle.std.specs.Prelude.{slice_get}
use Rattle.ipg_core.specs.declared.grammar.Sym.{Sym}
use Rattle.ipg_core.specs.Part.{part}
use Rattle.ipg_core.specs.Tree as tree
use Rattle.ipg_core.specs.Tree.{Tree, Kids, no_kids, kid}
use Rattle.ipg_core.specs.Within.{TreeWithin, KidWithin, KidsWithin}
use Rattle.ipg_region.specs.declared.region.RunId.{RunId}
use Rattle.ipg_mach_nodes.specs.declared.kid.Kid.{Kid}
use Rattle.ipg_mach_nodes.specs.Stored.{Stored, Source, StandsTree, StandsKid, StandKids}
use Rattle.ipg_edit_laws.specs.Edited.{edited, moved}
use Rattle.ipg_edit_laws.specs.Laws.{HaveSameBytes, SameBytesSameTree, SameBytesSameKid, EarlierTreesStay, LaterTreesMove}
use Rattle.ipg_edit_laws.proofs.Bytes.{part_in, earlier_bytes_stay, later_bytes_move}

module _ (one other : Source) (st : Stored) where
  same_sym : (at there n k : ℕ) (s : Sym) → HaveSameBytes one other at there n → slice_get one.syms k ≡ Some s → slice_get other.syms k ≡ Some s
  same_sym at there n k s same e = subst (λ syms. slice_get syms k ≡ Some s) same.syms e

  -- a part of the bytes that are the same
  same_part : (at there n l r : ℕ) → HaveSameBytes one other at there n → l ≤ r → r ≤ n
      → part one.input (at + l) (at + r) ≡ part other.input (there + l) (there + r)
  same_part at there n l r same valid inside =
      sym (part_in one.input at n l r valid inside) ∙ ap (λ bs. part bs l r) same.bytes ∙ part_in other.input there n l r valid inside

  same_inside : (at there n l r : ℕ) → HaveSameBytes one other at there n → l ≤ r → r ≤ n → HaveSameBytes one other (at + l) (there + l) (r - l)
  same_inside at there n l r same valid inside =
      let end : at + r ≡ at + l + (r - l) = omega (arith, valid) in
      let end_there : there + r ≡ there + l + (r - l) = omega (arith, valid) in
      record {
        syms = same.syms;
        bytes = ap (λ k. part one.input (at + l) k) (sym end) ∙ same_part at there n l r same valid inside
            ∙ ap (λ k. part other.input (there + l) k) end_there;
      }

  mutual
    tree_over : (at there n : ℕ) (id : RunId) (sub : Tree) → HaveSameBytes one other at there n → TreeWithin n sub
        → StandsTree one st at id sub → StandsTree other st there id sub
    tree_over at there n id (tree.Node rule size attrs start end kids) same within h = (h.0, h.1, kids_over at there n h.0 kids same within.2 h.2)

    kids_over : (at there n : ℕ) (list : List Kid) (ones : Kids) → HaveSameBytes one other at there n → KidsWithin n ones
        → StandKids one st at list ones → StandKids other st there list ones
    kids_over at there n [] no_kids same within h = tt
    kids_over at there n (r ∷ rows) (kid k ks) same within h =
        (kid_over at there n r k same within.0 h.0, kids_over at there n rows ks same within.1 h.1)
    kids_over at there n [] (kid k ks) same within h = absurd h
    kids_over at there n (r ∷ rows) no_kids same within h = absurd h

    kid_over : (at there n : ℕ) (r : Kid) (k : tree.Kid) → HaveSameBytes one other at there n → KidWithin n k
        → StandsKid one st at r k → StandsKid other st there r k
    kid_over at there n r (tree.Sub from to sub) same within h = (
      h.0,
      h.1,
      tree_over (at + from) (there + from) (to - from) h.0 sub (same_inside at there n from to same within.0.valid within.0.inside) within.1 h.2,
    )
    kid_over at there n r (tree.Token from to bytes) same within h = (h.0, h.1, same_sym at there n h.0 _ same h.2)
    kid_over at there n r (tree.Number from to prim high low) same within h = h
    kid_over at there n r (tree.Raw from to bytes) same within h =
        (h.0, sym (same_part at there n from to same within.0.valid within.0.inside) ∙ h.1)
    kid_over at there n r (tree.Array s items) same within h =
        (h.0, h.1, h.2, h.3, same_sym at there n h.0 s same h.4, h.5, kids_over at there n h.2 items same within h.6)
    kid_over at there n r (tree.Many s items) same within h =
        (h.0, h.1, h.2, h.3, same_sym at there n h.0 s same h.4, h.5, kids_over at there n h.2 items same within h.6)

pub same_bytes_same_tree : SameBytesSameTree
same_bytes_same_tree one other st at there n id sub same within h = tree_over one other st at there n id sub same within h

pub same_bytes_same_kid : SameBytesSameKid
same_bytes_same_kid one other st at there n r k same within h = kid_over one other st at there n r k same within h

pub earlier_trees_stay : EarlierTreesStay
earlier_trees_stay src st from to a b with id sub is valid before within h =
    let end : a + (b - a) ≤ from = omega (arith, valid, before) in
    tree_over src (record { syms = src.syms; input = edited src.input from to with }) st a a (b - a) id sub
    (record { syms = refl; bytes = sym (earlier_bytes_stay src.input with from to a (a + (b - a)) is end) })
    within h

pub later_trees_move : LaterTreesMove
later_trees_move src st from to a b with id sub is behind valid within h =
    let end : moved from to (length with) (a + (b - a)) ≡ moved from to (length with) a + (b - a) = omega (arith, behind, is.valid) in
    tree_over src (record { syms = src.syms; input = edited src.input from to with }) st a (moved from to (length with) a) (b - a) id sub
    (record {
      syms = refl;
      bytes = sym (later_bytes_move src.input with from to a (a + (b - a)) is behind)
          ∙ ap (λ k. part (edited src.input from to with) (moved from to (length with) a) k) end;
    })
    within h
