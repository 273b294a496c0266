-- The marks of the rules that must touch are one list.
use Rattle.std.proofs.Common.{◌≡◌, ℕ, zero, suc, Bool, true, false, [], ◌∷◌, length, refl, sym, ap, ◌∙◌, true≢false}
use Rattle.ipg_core.specs.MustTouch.{Marks, is_marked}
use Rattle.ipg_touch.specs.Laws.{OneLimit}

same_bool : (x y : Bool) → (x ≡ true → y ≡ true) → (y ≡ true → x ≡ true) → x ≡ y
same_bool true y to from = sym (to refl)
same_bool false true to from = absurd (true≢false (sym (from refl)))
same_bool false false to from = refl

same_marks : (xs ys : Marks) → length xs ≡ length ys → ((r : ℕ) → is_marked xs r ≡ true → is_marked ys r ≡ true)
    → ((r : ℕ) → is_marked ys r ≡ true → is_marked xs r ≡ true) → xs ≡ ys
same_marks [] [] e to from = refl
same_marks [] (y ∷ ys) e to from = absurd (cc)
same_marks (x ∷ xs) [] e to from = absurd (cc)
same_marks (x ∷ xs) (y ∷ ys) e to from =
    let rest : length xs ≡ length ys = cc in
    ap (λ b. b ∷ xs) (same_bool x y (to zero) (from zero)) ∙ ap (λ bs. y ∷ bs) (same_marks xs ys rest (λ r. to (suc r)) (λ r. from (suc r)))

pub limits_agree : OneLimit
limits_agree g one other h k =
    same_marks one other (h.size ∙ sym k.size) (λ r m. (k.exact r).1 ((h.exact r).0 m)) (λ r m. (h.exact r).1 ((k.exact r).0 m))
