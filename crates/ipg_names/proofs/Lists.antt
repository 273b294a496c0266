-- Lists item by item.
use Rattle.std.proofs.Common.{◌≡◌, ℕ, zero, suc, ◌+◌, ◌<◌, List, [], ◌∷◌, ◌++◌, length, drop, get_or, map, refl, sym}
use Rattle.std.proofs.Common.{ap, subst, ◌∙◌, append_assoc, arith, Bool, ◌||◌}
use Rattle.std.specs.List.{AllByRecursion, list_any}
use Rattle.std.proofs.Math.Seq.{drop-cons}

-- the item at an index and the items after it
pub at_item : {A : Type 0} (xs : List A) (i : ℕ) (x : A) → x ≡ get_or xs i x → i < length xs → drop i xs ≡ x ∷ drop (i + 1) xs
at_item xs i x is within =
    let next : suc i ≡ i + 1 = omega arith in
    drop-cons xs i x within ∙ ap (λ y. y ∷ drop (suc i) xs) (sym is) ∙ ap (λ j. x ∷ drop j xs) next

-- pieces put after one another: what stands and what is left give the whole
pub pieces : {A : Type 0} (old piece new rest whole all : List A) → new ≡ old ++ piece → whole ≡ piece ++ rest → old ++ whole ≡ all → new ++ rest ≡ all
pieces old piece new rest whole all put splits so_far =
    ap (λ n. n ++ rest) put ∙ append_assoc old piece rest ∙ ap (λ t. old ++ t) (sym splits) ∙ so_far

pub all_map_at : {A B : Type 0} (P : B → Type 0) (f : A → B) (xs : List A) (i : ℕ) (x : A) → AllByRecursion P (map f xs) → x ≡ get_or xs i x
    → i < length xs → P (f x)
all_map_at P f [] i x h is within = absurd (omega arith)
all_map_at P f (y ∷ xs) zero x h is within = subst (λ z. P (f z)) (sym is) h.0
all_map_at P f (y ∷ xs) (suc i) x h is within = all_map_at P f xs i x h.1 is (omega arith)

pub any_map : {A B : Type 0} (p : B → Bool) (f : A → B) (xs : List A) → list_any p (map f xs) ≡ list_any (λ x. p (f x)) xs
any_map p f [] = refl
any_map p f (x ∷ xs) = ap (λ b. p (f x) || b) (any_map p f xs)
