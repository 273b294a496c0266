-- Lists that grow by pieces, one after another.
use Rattle.std.proofs.Common.{◌≡◌, ℕ, ◌+◌, ◌<◌, List, ◌∷◌, ◌++◌, length, get_or, drop, suc, sym, ap, ◌∙◌, append_assoc, add-one}
use Rattle.std.specs.Prelude.{Result, Ok, Err, OnOk}
use Rattle.std.proofs.Math.Seq.{drop-cons}

-- two pieces put one after the other
pub then : {A : Type 0} (old one two xs ys : List A) → one ≡ old ++ xs → two ≡ one ++ ys → two ≡ old ++ (xs ++ ys)
then old one two xs ys e f = f ∙ ap (λ zs. zs ++ ys) e ∙ append_assoc old xs ys

-- the last of them by a call whose answer is handed on
pub then_last : {A E : Type 0} (r : Result A E) {B : Type 0} (old one two xs ys : List B) → one ≡ old ++ xs → OnOk r (two ≡ one ++ ys)
    → OnOk r (two ≡ old ++ (xs ++ ys))
then_last (Ok a) old one two xs ys e f = then old one two xs ys e f
then_last (Err a) old one two xs ys e f = tt

-- the last by a call that ensures one fact more
pub then_first : {A E : Type 0} (r : Result A E) {B : Type 0} (C : Type 0) (old one two xs ys : List B) → one ≡ old ++ xs → OnOk r ((two ≡ one ++ ys) × C)
    → OnOk r (two ≡ old ++ (xs ++ ys))
then_first (Ok a) C old one two xs ys e f = then old one two xs ys e f.0
then_first (Err a) C old one two xs ys e f = tt

-- what follows where a call's answer is handed on
pub on_ok : {A E : Type 0} (r : Result A E) (P Q : Type 0) → (P → Q) → OnOk r P → OnOk r Q
on_ok (Ok a) P Q f h = f h
on_ok (Err e) P Q f h = tt

-- what is left of a list is its next item and what is left behind it
pub at_item : {A : Type 0} (xs : List A) (i : ℕ) (x : A) → x ≡ get_or xs i x → i < length xs → drop i xs ≡ x ∷ drop (i + 1) xs
at_item xs i x is within =
    drop-cons xs i x within ∙ ap (λ y. y ∷ drop (suc i) xs) (sym is) ∙ ap (λ j. x ∷ drop j xs) (sym (add-one i))
