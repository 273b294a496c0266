use Rattle.std.proofs.Common.{◌≡◌, ◌≤◌, ℕ, zero, suc, ◌+◌, List, [], ◌∷◌, length, drop, refl, sym, ap, ◌∙◌, arith}
use Rattle.std.proofs.lemmas.List.{drop_all}
use Rattle.ipg_label.specs.Naming as spec
use Rattle.ipg_label.proofs.naming.alike.Goals as goal

-- nothing is alike behind the end of the other
none_alike : (xs : List ℕ) → spec.alike xs [] ≡ 0
none_alike [] = refl
none_alike (x ∷ xs) = refl

pub returns-else-long-b-clause-value : goal.returns-else-long-b-clause-value
returns-else-long-b-clause-value c =
    let long = c.loop-long.long in
    let end = ap (spec.alike (drop long c.args.a.now)) (drop_all long c.args.b.now c.if-long-b.false) ∙ none_alike (drop long c.args.a.now) in
    let so_far = c.loop-long.invariant.so_far in
    let both : long + spec.alike (drop long c.args.a.now) (drop long c.args.b.now) ≡ long + 0 = ap (λ n. long + n) end in
    omega (arith, so_far, both)
