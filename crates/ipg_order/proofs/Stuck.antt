-- Where an order gets stuck there is none.
use Rattle.std.proofs.Common.{◌≡◌, ℕ, ◌<◌, sym, ◌∙◌, subst, arith, List, [], ◌∷◌, true≢false}
use Rattle.ipg_core.specs.Order.{IsNext, InOrder}
use Rattle.ipg_order.specs.Stuck.{EndsAt}
use Rattle.ipg_order.specs.Laws.{StuckHasNone}

pub same_next : (provides : ℕ → ℕ → Type 0) (n : ℕ) (taken : List ℕ) (u v : ℕ) → IsNext provides n taken u → IsNext provides n taken v → u ≡ v
same_next provides n taken u v a b =
    let before : u < v → ⊥ = λ lt. b.least u lt a.fresh a.provided in
    let behind : v < u → ⊥ = λ lt. a.least v lt b.fresh b.provided in
    omega arith

pub no_order : (provides : ℕ → ℕ → Type 0) (n : ℕ) (taken order other : List ℕ) (u : ℕ) → EndsAt provides n taken order u → InOrder provides n taken other → ⊥
no_order provides n taken [] [] u a b = absurd (true≢false (sym (b u a.below) ∙ a.fresh))
no_order provides n taken [] (v ∷ other) u a b = a.none_next v b.0
no_order provides n taken (w ∷ order) [] u a b = absurd (true≢false (sym (b w a.0.below) ∙ a.0.fresh))
no_order provides n taken (w ∷ order) (v ∷ other) u a b =
    let same = same_next provides n taken w v a.0 b.0 in
    no_order provides n (w ∷ taken) order other u a.1 (subst (λ x. InOrder provides n (x ∷ taken) other) (sym same) b.1)

pub stuck_has_none : StuckHasNone
stuck_has_none g at terms u a b = no_order _ _ [] a.order b.0 u a.ends b.1
