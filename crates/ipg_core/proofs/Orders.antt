-- The next term is one, so the order is.
use Rattle.std.proofs.Common.{◌≡◌, ℕ, ◌<◌, refl, sym, ap, ◌∙◌, subst, arith, List, [], ◌∷◌, true≢false}
use Rattle.ipg_core.specs.Order.{IsNext, InOrder}
use Rattle.ipg_core.specs.Laws.{OneOrder}

same_next : (provides : ℕ → ℕ → Type 0) (n : ℕ) (taken : List ℕ) (u v : ℕ) → IsNext provides n taken u → IsNext provides n taken v → u ≡ v
same_next provides n taken u v a b =
    let before : u < v → ⊥ = λ lt. b.least u lt a.fresh a.provided in
    let behind : v < u → ⊥ = λ lt. a.least v lt b.fresh b.provided in
    omega arith

same_order : (provides : ℕ → ℕ → Type 0) (n : ℕ) (taken one other : List ℕ) → InOrder provides n taken one → InOrder provides n taken other → one ≡ other
same_order provides n taken [] [] a b = refl
same_order provides n taken [] (v ∷ other) a b = absurd (true≢false (sym (a v b.0.below) ∙ b.0.fresh))
same_order provides n taken (u ∷ one) [] a b = absurd (true≢false (sym (b u a.0.below) ∙ a.0.fresh))
same_order provides n taken (u ∷ one) (v ∷ other) a b =
    let same = same_next provides n taken u v a.0 b.0 in
    let rest = same_order provides n (u ∷ taken) one other a.1 (subst (λ w. InOrder provides n (w ∷ taken) other) (sym same) b.1) in
    ap (λ w. w ∷ one) same ∙ ap (λ order. v ∷ order) rest

pub one_order : OneOrder
one_order g at terms one other a b = same_order _ _ [] one other a b
