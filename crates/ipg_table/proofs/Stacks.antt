-- Taking from the stack, and putting on it.
use Rattle.std.proofs.Common.{◌≡◌, ◌≢◌, ℕ, zero, suc, ◌+◌, ◌-◌, ◌<◌, ◌≤◌, List, [], ◌∷◌, length, refl, sym, ap, subst, ◌∙◌, arith, get_or, set, ℤ}
use Rattle.std.proofs.Common.{pos, nat_lt, true, false}
use Rattle.std.proofs.lemmas.List.{get_or-set_same, get_or-set_other, length-set}
use Rattle.std.proofs.lemmas.Bool.{lt-ltb, le-ltb}
use Rattle.ipg_table.specs.Stack.{stacked}

pub length_stacked : (area : List ℤ) (n : ℕ) → length (stacked area n) ≡ n
length_stacked area zero = refl
length_stacked area (suc n) = ap suc (length_stacked area n)

read_any : (xs : List ℤ) (i : ℕ) (d e : ℤ) → i < length xs → get_or xs i d ≡ get_or xs i e
read_any [] i d e h = absurd (omega arith)
read_any (x ∷ xs) zero d e h = refl
read_any (x ∷ xs) (suc i) d e h = read_any xs i d e (omega arith)

taken_at : (area : List ℤ) (top n : ℕ) (value : ℤ) → top ≡ suc n → top ≤ length area → value ≡ get_or area n value → stacked area top ≡ value ∷ stacked area n
taken_at area top n value is h e =
    let within : n < length area = omega arith in
    ap (stacked area) is ∙ ap (λ x. x ∷ stacked area n) (read_any area n (pos 0) value within ∙ sym e)

pub taken : (area : List ℤ) (top : ℕ) (value : ℤ) → (top ≡ 0 → ⊥) → top ≤ length area → value ≡ get_or area (top - 1) value
    → stacked area top ≡ value ∷ stacked area (top - 1)
taken area zero value n h e = absurd (n refl)
taken area (suc k) value n h e = let is : suc k ≡ suc (suc k - 1) = omega arith in taken_at area (suc k) (suc k - 1) value is h e

below : (area : List ℤ) (top n : ℕ) (value : ℤ) → n ≤ top → stacked (set area top value) n ≡ stacked area n
below area top zero value h = refl
below area top (suc n) value h =
    let other : n ≢ top = (λ e. absurd (omega arith)) in
    let less : n ≤ top = omega arith in
    ap (λ x. x ∷ stacked (set area top value) n) (get_or-set_other area top n value (pos 0) other) ∙ ap (λ s. get_or area n (pos 0) ∷ s)
    (below area top n value less)

pub placed : (area : List ℤ) (top : ℕ) (value : ℤ) → top < length area → stacked (set area top value) (top + 1) ≡ value ∷ stacked area top
placed area top value h =
    let one : top + 1 ≡ suc top = omega arith in
    let less : top ≤ top = omega arith in
    ap (stacked (set area top value)) one
    ∙ ap (λ x. x ∷ stacked (set area top value) top) (get_or-set_same area top value (pos 0) h)
    ∙ ap (λ s. value ∷ s) (below area top top value less)

pub room_left : (area : List ℤ) (top : ℕ) → top < length area → nat_lt (length (stacked area top)) (length area) ≡ true
room_left area top h = lt-ltb (length (stacked area top)) (length area) (subst (λ n. n < length area) (sym (length_stacked area top)) h)

pub no_room : (area : List ℤ) (top : ℕ) → length area ≤ top → nat_lt (length (stacked area top)) (length area) ≡ false
no_room area top h = le-ltb (length (stacked area top)) (length area) (subst (λ n. length area ≤ n) (sym (length_stacked area top)) h)

pub higher : (area : List ℤ) (top : ℕ) (value : ℤ) → top < length area → top + 1 ≤ length (set area top value)
higher area top value h = subst (λ n. top + 1 ≤ n) (sym (length-set area top value)) (let e : top + 1 ≤ length area = omega arith in e)
