-- More digits make no smaller value.
use Rattle.std.proofs.Common.{◌≡◌, ℕ, zero, suc, ◌+◌, ◌*◌, ◌^◌, ◌≤◌, ◌<◌, List, [], ◌∷◌, None, arith, ap, ◌∙◌, sym, cond, length, get_or, drop}
use Rattle.std.proofs.Math.Seq.{drop-cons}
use Rattle.std.proofs.Math.Nat.{mul-suc}
use Rattle.std.proofs.lemmas.Bool.{le-ltb}
use Rattle.std.specs.Prelude.{pos, Some}
use Rattle.ipg_read_tokens.specs.Lexical.{value, below_limit, digit_value}

times_more : (sum base : ℕ) → 1 ≤ base → sum ≤ sum * base
times_more sum zero some = omega arith
times_more sum (suc k) some = omega (arith, mul-suc sum k)

pub value_grows : (base sum : ℕ) (ds : List ℕ) → 1 ≤ base → sum ≤ value base sum ds
value_grows base sum [] some = omega arith
value_grows base sum (d ∷ ds) some = omega (arith, times_more sum base some, value_grows base (sum * base + digit_value d) ds some)

pub no_number : (n : ℕ) → 2 ^ 63 ≤ n → None ≡ below_limit n
no_number n large = sym (ap (λ b. cond b (Some (pos n)) None) (le-ltb n (2 ^ 63) large))

pub too_large : (base next : ℕ) (ds : List ℕ) → 1 ≤ base → 2 ^ 63 ≤ next → None ≡ below_limit (value base next ds)
too_large base next ds some large = no_number (value base next ds) (omega (arith, value_grows base next ds some))

-- the item at an index and the items after it
pub next_item : {A : Type 0} (xs : List A) (i : ℕ) (d : A) → i < length xs → drop i xs ≡ get_or xs i d ∷ drop (i + 1) xs
next_item xs i d within =
    let next : suc i ≡ i + 1 = omega arith in
    drop-cons xs i d within ∙ ap (λ j. get_or xs i d ∷ drop j xs) next
