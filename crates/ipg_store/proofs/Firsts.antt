-- The first byte at fault is one.
use Rattle.std.proofs.Common.{◌≡◌, ℕ, ◌+◌, ◌<◌, ◌≤◌, List, ◌++◌, take, drop, length, sym, ap, subst, ◌∙◌, append_assoc, arith, inl, inr}
use Rattle.std.proofs.lemmas.Bool.{cases_order}
use Rattle.std.proofs.lemmas.List.{take-take, take-append-drop}
use Rattle.ipg_reader.specs.Faults.{Continues, IsFirstFault}
use Rattle.ipg_proof.specs.Texts.{GoesOn, IsTextFault}

-- what goes on with more bytes goes on with fewer
abbrev Shrinks : (List ℕ → Type 0) → Type 0
Shrinks Goes = (xs ys : List ℕ) → Goes (xs ++ ys) → Goes xs

record Stops (Goes : List ℕ → Type 0) (text : List ℕ) (at : ℕ) : Type 0 where
  within : at ≤ length text
  before : Goes (take at text)
  there : at < length text → ¬ Goes (take (at + 1) text)

-- one byte more, and those up to the later place
cut : (text : List ℕ) (a b : ℕ) → a < b → take b text ≡ take (a + 1) text ++ drop (a + 1) (take b text)
cut text a b less =
    let le : a + 1 ≤ b = omega arith in
    sym (take-append-drop (a + 1) (take b text)) ∙ ap (λ t. t ++ drop (a + 1) (take b text)) (take-take (a + 1) b text le)

module _ (Goes : List ℕ → Type 0) (shrinks : Shrinks Goes) (text : List ℕ) where
  no_later : (a b : ℕ) → Stops Goes text a → Stops Goes text b → a < b → ⊥
  no_later a b one other less =
      let within = other.within in
      one.there (omega arith) (shrinks (take (a + 1) text) (drop (a + 1) (take b text)) (subst Goes (cut text a b less) other.before))

  one_stop : (a b : ℕ) → Stops Goes text a → Stops Goes text b → a ≡ b
  one_stop a b one other = elim (cases_order a b) as (λ _. a ≡ b) [
    | inl same ↦ same
    | inr differ ↦ elim differ as (λ _. a ≡ b) [
      | inl less ↦ absurd (no_later a b one other less)
      | inr more ↦ absurd (no_later b a other one more)
    ]
  ]

-- ---- of spellings, and of certificates' texts

continues_shrinks : {A : Type 0} (Is : A → Type 0) (spell : A → List ℕ) → Shrinks (Continues Is spell)
continues_shrinks Is spell xs ys more = (more.0, ys ++ more.1, more.2, more.3 ∙ append_assoc xs ys more.1)

pub one_fault : {A : Type 0} (Is : A → Type 0) (spell : A → List ℕ) (text : List ℕ) (a b : ℕ) → IsFirstFault Is spell text a
    → IsFirstFault Is spell text b → a ≡ b
one_fault Is spell text a b one other =
    one_stop (Continues Is spell) (continues_shrinks Is spell) text a b
    (record { within = one.within; before = one.before; there = one.there })
    (record { within = other.within; before = other.before; there = other.there })

text_shrinks : Shrinks GoesOn
text_shrinks xs ys more = (more.0, ys ++ more.1, (more.2.0, sym (append_assoc xs ys more.1) ∙ more.2.1))

pub one_text_fault : (text : List ℕ) (a b : ℕ) → IsTextFault text a → IsTextFault text b → a ≡ b
one_text_fault text a b one other =
    one_stop GoesOn text_shrinks text a b
    (record { within = one.within; before = one.before; there = one.there })
    (record { within = other.within; before = other.before; there = other.there })
