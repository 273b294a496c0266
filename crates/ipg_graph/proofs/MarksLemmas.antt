-- Flags, set one at a time.
use Rattle.std.proofs.Common.{◌≡◌, ℕ, zero, suc, ◌+◌, ◌<◌, ◌≤◌, List, [], ◌∷◌, Bool, true, false, length, get_or, set}
use Rattle.std.proofs.Common.{replicate, refl, sym, ap, ◌∙◌, subst, inl, inr, arith, get_or-set_other, set-set}
use Rattle.std.proofs.lemmas.Bool.{cases_eq, true≢false}
use Rattle.std.proofs.lemmas.List.{set-get_or}
use Rattle.ipg_graph.specs.Marks.{marked, IsUnseen, Grows}

pub marked-le : (flags : List Bool) → marked flags ≤ length flags
marked-le [] = omega arith
marked-le (true ∷ flags) = omega (arith, marked-le flags)
marked-le (false ∷ flags) = omega (arith, marked-le flags)

pub marked-replicate : (n : ℕ) → marked (replicate n false) ≡ 0
marked-replicate zero = refl
marked-replicate (suc n) = marked-replicate n

pub marked-set : (flags : List Bool) (v : ℕ) → get_or flags v true ≡ false → marked (set flags v true) ≡ marked flags + 1
marked-set [] v h = absurd (true≢false h)
marked-set (true ∷ flags) zero h = absurd (true≢false h)
marked-set (false ∷ flags) zero h = omega arith
marked-set (true ∷ flags) (suc v) h = omega (arith, marked-set flags v h)
marked-set (false ∷ flags) (suc v) h = marked-set flags v h

-- what is not seen is a flag
pub unseen-in : (seen : List Bool) (v : ℕ) → IsUnseen seen v → v < length seen
unseen-in [] v h = absurd (true≢false h)
unseen-in (b ∷ seen) zero h = omega arith
unseen-in (b ∷ seen) (suc v) h = omega (arith, unseen-in seen v h)

pub grows-set : (seen : List Bool) (v : ℕ) → Grows seen (set seen v true)
grows-set seen v = record {
  kept = λ u h. elim (cases_eq u v) [
    | inl e ↦ absurd (let h' : IsUnseen (set seen v true) v = subst (IsUnseen (set seen v true)) e h in set-seen seen v h')
    | inr ne ↦ rw (← get_or-set_other seen v u true true ne) h
  ];
}
  where
    set-seen : (seen : List Bool) (v : ℕ) → IsUnseen (set seen v true) v → ⊥
    set-seen [] v h = true≢false h
    set-seen (b ∷ seen) zero h = true≢false h
    set-seen (b ∷ seen) (suc v) h = set-seen seen v h

pub grows-refl : (seen : List Bool) → Grows seen seen
grows-refl seen = record { kept = λ v h. h }

pub grows-trans : (a b c : List Bool) → Grows a b → Grows b c → Grows a c
grows-trans a b c f g = record { kept = λ v h. f.kept v (g.kept v h) }

-- a flag that was not set, set and put back
pub set-back : (seen : List Bool) (v : ℕ) → IsUnseen seen v → set (set seen v true) v false ≡ seen
set-back seen v h = set-set seen v true false ∙ (ap (set seen v) (sym h) ∙ set-get_or seen v true)
