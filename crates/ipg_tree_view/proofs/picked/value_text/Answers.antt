use mir.Val.{to_z, of_z}
use mir.Syntax.{w64}
use Rattle.std.proofs.lemmas.Int.{ints}
use Rattle.std.proofs.Common.{◌≡◌, [], ◌++◌, arith, ap, refl, sym, ◌∙◌, append-nil}
use Rattle.std.specs.Prelude.{codes}
use Rattle.std.specs.Fmt.{signed_decimal}
use Rattle.ipg_tree_view.proofs.Cuts.{lacks_as, lacks_none}
use Rattle.ipg_tree_view.proofs.picked.value_text.Goals as goal

pub returns : goal.returns
returns c =
    let value = signed_decimal c.args.value in
    let rest = codes "=" ++ value in
    let all = c.args.name.now ++ rest in
    let kept : to_z w64 (of_z w64 c.args.value) ≡ c.args.value = omega (arith, ints) in
    lacks_none _ all (c.push_signed.ensures all []
    (lacks_as _ all _ _ (sym (append-nil value) ∙ ap (λ z. signed_decimal z ++ []) (sym kept))
    (c.push-2.ensures all value (c.push.ensures all rest ([], refl, c.new-text.ensures)))))
