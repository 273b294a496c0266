use Rattle.std.proofs.Common.{◌≡◌, ℕ, List, refl, sym, ap, ◌∙◌, subst, length, Option, Bool}
use Rattle.ipg_core.specs.Grammar.{Grammar}
use Rattle.ipg_core.specs.Tree.{Tree}
use Rattle.ipg_outside.specs.Sink.{Output}
use Rattle.ipg_tree_walk.specs.Parse.{Parse}
use Rattle.ipg_tree_walk.specs.Visits.{visits}
use Rattle.ipg_tree.specs.Puts.{Whole, Part}
use Rattle.ipg_tree.specs.Shares as printed
use Rattle.ipg_tree_view.specs.Bare.{bare_of}
use Rattle.ipg_tree_view.specs.View.{view, view_by}
use Rattle.ipg_app_tree.proofs.Meant.{printable}
use Rattle.ipg_app_tree.proofs.answering.put_view.Goals as goal

whole_as : (xs ys : List ℕ) (a : Option Output) (m : ℕ) (b : Option Output) (n : ℕ) → xs ≡ ys → Whole xs a m b n → Whole ys a m b n
whole_as xs ys a m b n e h = subst (λ text. Whole text a m b n) e h

part_as : (xs ys : List ℕ) (a : Option Output) (m : ℕ) (b : Option Output) (n : ℕ) → xs ≡ ys → Part xs a m b n → Part ys a m b n
part_as xs ys a m b n e h = subst (λ text. Part text a m b n) e h

-- the text by the places that were struck out is that of the tree and the input
view_is : (g : Grammar) (input : List ℕ) (one : Tree) (now before : Parse) (bare made : List Bool) → now ≡ before → before.input ≡ input → bare ≡ made
    → made ≡ bare_of (length input) (visits one) → view_by g now.input one bare ≡ view g input one
view_is g input one now before bare made same is_input is_made struck =
    ap (λ (p : Parse). view_by g p.input one bare) same ∙ ap (λ bytes. view_by g bytes one bare) is_input ∙ ap (view_by g input one) (is_made ∙ struck)

pub returns-in-Ok : goal.returns-in-Ok
returns-in-Ok g c src grammar one h same =
    let tree = printable c.args.parsed.now.parse src grammar one h in
    let here = subst (λ q. printed.IsTree q src grammar one) (sym c.in_ok-bare.ensures.parse) tree in
    let is = view_is grammar c.args.input.now one _ _ _ _ c.in_ok-bare.ensures.parse same c.deref.ensures.value
    (c.in_ok-bare.ensures.bare src grammar one tree) in
    (refl, whole_as _ _ _ _ _ _ is (c.in-Ok.ensures.view src grammar one here))

pub returns : goal.returns
returns g c src grammar one h same =
    let tree = printable c.args.parsed.now.parse src grammar one h in
    let here = subst (λ q. printed.IsTree q src grammar one) (sym c.in_ok-bare.ensures.parse) tree in
    let is = view_is grammar c.args.input.now one _ _ _ _ c.in_ok-bare.ensures.parse same c.deref.ensures.value
    (c.in_ok-bare.ensures.bare src grammar one tree) in
    part_as _ _ _ _ _ _ is (c.in-Err.ensures.view src grammar one here)
