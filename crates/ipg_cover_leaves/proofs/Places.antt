-- The places of bytes from a place on.
use Rattle.std.proofs.Common.{◌≡◌, ℕ, ◌+◌, ◌-◌, ◌<◌, ◌≤◌, List, [], ◌∷◌, ◌++◌, length, inl, inr, Option, drop, get_or}
use Rattle.std.proofs.Common.{arith, refl, ap, sym, ◌∙◌, subst, append_assoc, append-nil, add-one}
use Rattle.std.proofs.Math.Seq.{drop-cons}
use Rattle.std.proofs.lemmas.List.{drop_all}
use Rattle.std.specs.Int.{w8, to_le_bytes}
use Rattle.std.specs.List.{Contains}
use Rattle.ipg_cover_leaves.specs.Bytes.{from_on}
use Rattle.ipg_cover_leaves.specs.Page.{Holds}
use Rattle.ipg_cover_leaves.proofs.Among.{in_none, in_first, in_rest, in_cases}

pub record Lies (at count place : ℕ) : Type 0 where
  pub from : at ≤ place
  pub to : place < at + count

pub lies : (at : ℕ) (bytes : List ℕ) (put : ℕ × ℕ) → Contains (from_on at bytes) put → Lies at (length bytes) put.0
lies at [] put h = absurd (in_none put h)
lies at (b ∷ bytes) put h = elim (in_cases (at, b) (from_on (at + 1) bytes) put h) [
  | inl e ↦ record { from = omega (arith, ap (λ p. p.0) e); to = omega (arith, ap (λ p. p.0) e) }
  | inr more ↦ record { from = omega (arith, (lies (at + 1) bytes put more).from); to = omega (arith, (lies (at + 1) bytes put more).to) }
]

-- some byte is put at the last place
pub record PutAt (all : List (ℕ × ℕ)) (place : ℕ) : Type 0 where
  pub byte : ℕ
  pub there : Contains all (place, byte)

pub last : (at : ℕ) (bytes : List ℕ) → 1 ≤ length bytes → PutAt (from_on at bytes) (at + length bytes - 1)
last at [] some = absurd (omega arith)
last at (b ∷ []) some = record { byte = b; there = subst (λ (n : ℕ). Contains {X = ℕ × ℕ} ((at, b) ∷ []) (n, b)) (omega arith) (in_first (at, b) []) }
last at (b ∷ c ∷ bytes) some =
    let rest = last (at + 1) (c ∷ bytes) (omega arith) in
    subst (PutAt ((at, b) ∷ from_on (at + 1) (c ∷ bytes))) (omega arith) (record {
      byte = rest.byte;
      there = in_rest (at, b) (from_on (at + 1) (c ∷ bytes)) _ rest.there;
    })

pub from_on_append : (at : ℕ) (xs ys : List ℕ) → from_on at (xs ++ ys) ≡ from_on at xs ++ from_on (at + length xs) ys
from_on_append at [] ys = ap (λ n. from_on n ys) (omega arith)
from_on_append at (x ∷ xs) ys =
    ap (λ rest. (at, x) ∷ rest) (from_on_append (at + 1) xs ys ∙ ap (λ n. from_on (at + 1) xs ++ from_on n ys) (omega arith))

-- some of what is put behind `all` is put, and this is what is left
pub record Put (cells : List (Option ℕ)) (clash : Option ℕ) (all left whole : List (ℕ × ℕ)) : Type 0 where
  pub done : List (ℕ × ℕ)
  pub holds : Holds cells clash (all ++ done)
  pub is : done ++ left ≡ whole

module _ (cells : List (Option ℕ)) (clash : Option ℕ) (all : List (ℕ × ℕ)) where
  pub begin : (whole : List (ℕ × ℕ)) → Holds cells clash all → Put cells clash all whole whole
  begin whole holds = record { done = []; holds = subst (Holds cells clash) (sym (append-nil all)) holds; is = refl }

  pub go_on : (to : List (Option ℕ)) (next : Option ℕ) (these left whole : List (ℕ × ℕ)) → Put cells clash all (these ++ left) whole
      → ((before : List (ℕ × ℕ)) → Holds cells clash before → Holds to next (before ++ these)) → Put to next all left whole
  go_on to next these left whole put go = record {
    done = put.done ++ these;
    holds = subst (Holds to next) (append_assoc all put.done these) (go (all ++ put.done) put.holds);
    is = append_assoc put.done these left ∙ put.is;
  }

  pub at_end : (whole : List (ℕ × ℕ)) → Put cells clash all [] whole → Holds cells clash (all ++ whole)
  at_end whole put = subst (λ these. Holds cells clash (all ++ these)) (sym (append-nil put.done) ∙ put.is) put.holds

-- the next byte, and those behind it
pub next_byte : (bytes : List ℕ) (from at i d : ℕ) → i < length bytes → at ≡ from + i
    → from_on at (drop i bytes) ≡ (at, get_or bytes i d) ∷ from_on (at + 1) (drop (i + 1) bytes)
next_byte bytes from at i d less is = ap (from_on at) (drop-cons bytes i d less ∙ ap (λ k. get_or bytes i d ∷ drop k bytes) (sym (add-one i)))

pub no_byte : (bytes : List ℕ) (at i : ℕ) → length bytes ≤ i → from_on at (drop i bytes) ≡ []
no_byte bytes at i past = ap (from_on at) (drop_all i bytes past)

pub one_byte : (n : ℕ) → n < 256 → n ∷ [] ≡ to_le_bytes w8 n
one_byte n less = ap (λ k. k ∷ []) (grind arith)
