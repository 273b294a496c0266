use mir.Val.{to_z, of_z}
use mir.Syntax.{w64}
use Rattle.std.proofs.lemmas.Int.{ints}
use Rattle.std.proofs.Common.{◌≡◌, arith, ◌++◌, ◌∷◌, ap, sym, ◌∙◌, append_assoc}
use Rattle.std.specs.Prelude.{codes}
use Rattle.std.specs.Fmt.{signed_decimal}
use Rattle.ipg_core.specs.Grammar.{name_at}
use Rattle.ipg_tree_view.proofs.Cuts.{lacks_as}
use Rattle.ipg_tree_view.proofs.view.push_attr.Goals as goal

pub returns : goal.returns
returns c grammar all end stand h =
    let name = name_at grammar.names c.args.attr.0 in
    let value = signed_decimal c.args.attr.1 in
    let rest = codes "=" ++ (value ++ end) in
    let is = ap (λ t. 32 ∷ t) (append_assoc (name ++ codes "=") value end ∙ append_assoc name (codes "=") (value ++ end)
    ∙ ap (λ n. n ++ rest) (sym (c.attr_name.ensures grammar stand))) in
    let kept : to_z w64 (of_z w64 c.args.attr.1) ≡ c.args.attr.1 = omega (arith, ints) in
    c.push_signed.ensures all end (lacks_as _ all _ _ (ap (λ z. signed_decimal z ++ end) (sym kept))
    (c.push-3.ensures all (value ++ end) (c.push-2.ensures all rest
    (c.push.ensures all (c.attr_name.result.now ++ rest) (lacks_as _ all _ _ is h)))))
