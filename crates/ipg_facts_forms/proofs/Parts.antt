-- A part that is added among others.
use Rattle.std.proofs.Common.{◌≡◌, ℕ, zero, suc, ◌+◌, ◌<◌, ◌≤◌, List, [], ◌∷◌, ◌++◌, length, get_or, drop, refl, sym, ap, ◌∙◌, arith, true, false, Some, ◌+ℤ◌}
use Rattle.std.specs.Prelude.{slice_get, slice_set}
use Rattle.std.proofs.lemmas.List.{drop_all}
use Rattle.ipg_facts_forms.specs.declared.fact.Part.{Part}
use Rattle.ipg_facts_variables.specs.Variable.{same_variable}
use Rattle.ipg_facts_forms.specs.Form.{add_part, add_parts}
use Rattle.ipg_facts_forms.specs.Pieces.{at_item}

-- the first i parts are of other variables
abbrev pub Differ : ℕ → List Part → Part → Type 0
Differ zero xs p = Unit {0}
Differ (suc i) [] p = Unit {0}
Differ (suc i) (x ∷ xs) p = (same_variable x.variable p.variable ≡ false) × Differ i xs p

pub found : (i : ℕ) (xs : List Part) (x p : Part) → Differ i xs p → slice_get xs i ≡ Some x → same_variable x.variable p.variable ≡ true
    → slice_set xs i (record x { factor = x.factor +ℤ p.factor }) ≡ add_part xs p
unfolding add_part
found zero [] x p d e same = cc
found (suc i) [] x p d e same = cc
found zero (y ∷ xs) x p d e same = let f : y ≡ x = cc in rw (f, same) refl
found (suc i) (y ∷ xs) x p d e same = rw d.0 (ap (λ zs. y ∷ zs) (found i xs x p d.1 e same))

pub other : (i : ℕ) (xs : List Part) (x p : Part) → Differ i xs p → slice_get xs i ≡ Some x → same_variable x.variable p.variable ≡ false → Differ (suc i) xs p
other zero [] x p d e differs = tt
other (suc i) [] x p d e differs = tt
other zero (y ∷ xs) x p d e differs = let f : y ≡ x = cc in (ap (λ (z : Part). same_variable z.variable p.variable) f ∙ differs, tt)
other (suc i) (y ∷ xs) x p d e differs = (d.0, other i xs x p d.1 e differs)

pub nowhere : (i : ℕ) (xs : List Part) (p : Part) → Differ i xs p → length xs ≤ i → xs ++ p ∷ [] ≡ add_part xs p
unfolding add_part
nowhere i [] p d h = refl
nowhere zero (x ∷ xs) p d h = absurd (omega arith)
nowhere (suc i) (x ∷ xs) p d h = rw d.0 (ap (λ zs. x ∷ zs) (nowhere i xs p d.1 (omega arith)))

pub parts_more : (ps qs : List Part) (i : ℕ) (q : Part) (all : List Part) → i < length qs → q ≡ get_or qs i q → add_parts ps (drop i qs) ≡ all
    → add_parts (add_part ps q) (drop (i + 1) qs) ≡ all
unfolding add_parts
parts_more ps qs i q all within is h = sym (ap (add_parts ps) (at_item qs i q is within)) ∙ h

pub parts_all : (ps qs : List Part) (i : ℕ) (all : List Part) → length qs ≤ i → add_parts ps (drop i qs) ≡ all → ps ≡ all
unfolding add_parts
parts_all ps qs i all past h = sym (ap (add_parts ps) (drop_all i qs past)) ∙ h

pub parts_none : (ps qs : List Part) → add_parts ps (drop 0 qs) ≡ add_parts ps qs
parts_none ps qs = refl
