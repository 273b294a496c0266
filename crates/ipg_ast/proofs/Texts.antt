-- The text of tokens in a row is their texts in a row.
use Rattle.std.proofs.Common.{◌≡◌, ◌∷◌, ◌++◌, [], ℕ, suc, ◌+◌, ◌<◌, List, length, get_or, drop, Result, OnOk, arith, ap, refl, ◌∙◌, sym}
use Rattle.std.proofs.lemmas.List.{append_assoc}
use Rattle.std.proofs.Math.Seq.{drop-cons}
use Rattle.std.proofs.lemmas.Result.{on_ok_weaker}
use Rattle.ipg_ast.specs.Canonical.{tokens_text, kind_text, gap}
use Rattle.ipg_ast.specs.declared.token.TokenKind.{TokenKind}

pub text_append : (xs ys : List TokenKind) → tokens_text (xs ++ ys) ≡ tokens_text xs ++ tokens_text ys
text_append [] ys = refl
text_append (x ∷ xs) ys =
    ap (λ r. kind_text x ++ (gap x ∷ r)) (text_append xs ys)
    ∙ sym (append_assoc (kind_text x) (gap x ∷ tokens_text xs) (tokens_text ys))

-- a piece was written after what stood there
pub record Wrote (old piece new : List ℕ) : Type 0 where
  pub is : new ≡ old ++ piece

pub then : {old mid new a b : List ℕ} → Wrote old a mid → Wrote mid b new → Wrote old (a ++ b) new
then {old = old} {a = a} {b = b} first next = record { is = next.is ∙ ap (λ m. m ++ b) first.is ∙ append_assoc old a b }

-- the same where the last piece may be refused
pub finally : {T E : Type 0} {old mid front : List ℕ} (r : Result T E) (new back all : List ℕ) → Wrote old front mid → front ++ back ≡ all
    → OnOk r (new ≡ mid ++ back) → OnOk r (new ≡ old ++ all)
finally {old = old} {front = front} r new back all first whole next =
    on_ok_weaker r (λ e. e ∙ ap (λ m. m ++ back) first.is ∙ append_assoc old front back ∙ ap (λ t. old ++ t) whole) next

-- the same piece, told otherwise
pub told_as : {T E : Type 0} (r : Result T E) (old new piece all : List ℕ) → piece ≡ all → OnOk r (new ≡ old ++ piece) → OnOk r (new ≡ old ++ all)
told_as r old new piece all same wrote = on_ok_weaker r (λ e. e ∙ ap (λ t. old ++ t) same) wrote

-- one turn of a loop: what stands and what is left give the whole
pub turn : {old piece new : List ℕ} (rest whole all : List ℕ) → Wrote old piece new → whole ≡ piece ++ rest → old ++ whole ≡ all → new ++ rest ≡ all
turn {old = old} {piece = piece} rest whole all wrote splits so_far =
    ap (λ n. n ++ rest) wrote.is ∙ append_assoc old piece rest ∙ ap (λ t. old ++ t) (sym splits) ∙ so_far

-- the item at an index and the items after it
pub at_item : {A : Type 0} (xs : List A) (i : ℕ) (x : A) → x ≡ get_or xs i x → i < length xs → drop i xs ≡ x ∷ drop (i + 1) xs
at_item xs i x is within =
    let next : suc i ≡ i + 1 = omega arith in
    drop-cons xs i x within ∙ ap (λ y. y ∷ drop (suc i) xs) (sym is) ∙ ap (λ j. x ∷ drop j xs) next
