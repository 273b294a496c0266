use mir.Val.{to_z, of_z}
use mir.Syntax.{w64}
use Rattle.std.proofs.lemmas.Int.{ints}
use Rattle.std.proofs.Common.{◌≡◌, ◌+◌, ◌++◌, [], sym, ap, ap₂, ◌∙◌, arith, Some}
use Rattle.std.specs.Prelude.{codes}
use Rattle.std.specs.Fmt.{signed_decimal}
use Rattle.ipg_query.specs.Picked.{found, field_named}
use Rattle.ipg_tree_view.specs.Picked.{value_view}
use Rattle.ipg_tree_view.specs.View.{line}
use Rattle.ipg_tree.specs.Putting.{as_text}
use Rattle.ipg_tree_view.proofs.picked.put_value.Goals as goal

pub returns-in-Some : goal.returns-in-Some
returns-in-Some g c src grammar x shares is =
    let name = c.args.name.now in
    let store = c.args.p.now.parse.store in
    let value = c.in-Some.value in
    let kept : to_z w64 (of_z w64 value) ≡ value = omega (arith, ints) in
    let has : field_named grammar name x ≡ Some value =
    ap (λ a. field_named grammar name (found a x.child)) (sym is.at) ∙ sym (c.field_named.ensures src grammar x.child shares is.stands is.near)
    ∙ c.in-Some.is in
    let from = (c.interval_of.ensures src store c.args.spot.at x.child is.stands).0 in
    let place = ap₂ (λ a b. a + b) (c.from.ensures ∙ is.at) (c.from-in-Some.ensures ∙ from) in
    let text = ap (λ z. name ++ (codes "=" ++ signed_decimal z)) kept in
    as_text c.put_line.result _ _ _ _ _ _ (ap₂ (λ a t. line a [] t) place text ∙ ap (value_view name x) (sym has))
    (c.put_line.ensures _ c.value_text-text.ensures)
