-- How many bytes agree, byte by byte.
use Rattle.std.proofs.Common.{◌≡◌, ℕ, suc, ◌+◌, ◌-◌, refl, sym, ap, ◌∙◌, arith, List, [], ◌∷◌, take, drop, Bool, true, false, length}
use Rattle.std.proofs.lemmas.List.{take_all, length-drop}
use Rattle.std.specs.Prelude.{nat_eq}
use Rattle.ipg_mach_failures.specs.Failing.{agreed}
use Rattle.ipg_mach_watch.specs.Agreeing.{begins}

-- so many agree, and what is left agrees as far as all does
pub record Agrees (wanted bytes left rest : List ℕ) (count : ℕ) : Type 0 where
  pub same : agreed wanted bytes ≡ count + agreed left rest
  pub size : count + length left ≡ length wanted

one_by : (w : ℕ) (left rest : List ℕ) (b : Bool) → begins rest w ≡ b → b ≡ true → agreed (w ∷ left) rest ≡ suc (agreed left (drop 1 rest))
one_by w left [] b e t = absurd (cc)
one_by w left (x ∷ rest) b e t = let same : nat_eq w x ≡ true = e ∙ t in rw same refl

none_by : (w : ℕ) (left rest : List ℕ) (b : Bool) → begins rest w ≡ b → b ≡ false → agreed (w ∷ left) rest ≡ 0
none_by w left [] b e t = refl
none_by w left (x ∷ rest) b e t = let same : nat_eq w x ≡ false = e ∙ t in rw same refl

pub goes_on : (wanted bytes all left rest : List ℕ) (count want : ℕ) → Agrees wanted bytes all rest count → all ≡ want ∷ left
    → begins rest want ≡ true → Agrees wanted bytes left (drop 1 rest) (count + 1)
goes_on wanted bytes all left rest count want a e t =
    let one = ap (λ l. agreed l rest) e ∙ one_by want left rest _ refl t in
    let less = ap length e in
    let same = a.same in let size = a.size in
    record { same = omega (arith, same, one); size = omega (arith, size, less) }

pub ends : (wanted bytes all left rest : List ℕ) (count want : ℕ) → Agrees wanted bytes all rest count → all ≡ want ∷ left
    → begins rest want ≡ false → agreed wanted bytes ≡ count
ends wanted bytes all left rest count want a e t =
    let none = ap (λ l. agreed l rest) e ∙ none_by want left rest _ refl t in
    let same = a.same in omega (arith, same, none)

pub all : (wanted bytes left rest : List ℕ) (count : ℕ) → Agrees wanted bytes left rest count → length left ≡ 0 → agreed wanted bytes ≡ count
all wanted bytes [] rest count a e = let same = a.same in let none : agreed [] rest ≡ 0 = refl in omega (arith, same, none)
all wanted bytes (w ∷ left) rest count a e = absurd (omega arith)

-- the bytes behind the first, as a range of all
pub behind_first : (rest : List ℕ) → drop 1 rest ≡ take (length rest - 1) (drop 1 rest)
behind_first rest = let n = length-drop 1 rest in sym (take_all (length rest - 1) (drop 1 rest) (omega arith))

pub begun : (wanted bytes : List ℕ) → Agrees wanted bytes wanted bytes 0
begun wanted bytes = record { same = omega arith; size = omega arith }
