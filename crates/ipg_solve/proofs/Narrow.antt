-- The facts of formulas of differences are differences, and where they hold the formula does.
use Rattle.std.proofs.Common.{◌≡◌, ℕ, ◌+◌, ◌≤◌, Bool, true, false, ◌&&◌, ℤ, List, [], ◌∷◌, ◌++◌, map, length, refl, sym, ◌∙◌, ap, subst, arith}
use Rattle.std.specs.List.{flat_map, AllByRecursion}
use Rattle.std.proofs.lemmas.Bool.{and_parts}
use Rattle.ipg_lin.specs.Form.{Form, Assignment, terms_width}
use Rattle.ipg_lin.specs.Formula.{holds_at, holds_step, every, greatest, width, width_step}
use Rattle.ipg_lin.specs.declared.formula.Formula.{Formula}
use Rattle.ipg_lin.specs.declared.formula.Formula.TheVariants as formula
use Rattle.ipg_lin.specs.Members.{by_members, folds-Atom, folds-All, folds-Any}
use Rattle.ipg_cert.specs.Facts.{Fact, AtMost, Choice, facts_of, bound_facts, holds_fact, all_hold}
use Rattle.ipg_cert.specs.Told.{facts_of-Atom, facts_of-All}
use Rattle.ipg_solve.specs.Differences.{is_difference, are_differences, differences_step}

-- the fact is a difference of so many variables
abbrev pub IsNarrow : ℕ → Fact → Type 0
IsNarrow vars (AtMost form) = (is_difference form.terms ≡ true) × (terms_width form.terms ≤ vars)
IsNarrow vars (Choice members) = ⊥

pub all_append : (P : Fact → Type 0) (xs ys : List Fact) → AllByRecursion P xs → AllByRecursion P ys → AllByRecursion P (xs ++ ys)
all_append P [] ys h k = k
all_append P (x ∷ xs) ys h k = (h.0, all_append P xs ys h.1 k)

pub all_hold-split : (v : Assignment) (xs ys : List Fact) → all_hold v (xs ++ ys) ≡ true → (all_hold v xs ≡ true) × (all_hold v ys ≡ true)
all_hold-split v [] ys h = (refl, h)
all_hold-split v (x ∷ xs) ys h =
    let b = and_parts (holds_fact v x) (all_hold v (xs ++ ys)) h in
    let rest = all_hold-split v xs ys b.1 in
    (ap (λ a. a && all_hold v xs) b.0 ∙ rest.0, rest.1)

pub bounds_narrow : (vars x : ℕ) (bounds : List (ℤ × ℤ)) → x + length bounds ≤ vars → AllByRecursion (IsNarrow vars) (bound_facts x bounds)
bounds_narrow vars x [] h = tt
bounds_narrow vars x (b ∷ bounds) h = ((refl, omega arith), ((refl, omega arith), bounds_narrow vars (x + 1) bounds (omega arith)))

abbrev IsSure : Formula → Type 0
IsSure f =
    are_differences f ≡ true → ((vars : ℕ) → width f ≤ vars → AllByRecursion (IsNarrow vars) (facts_of f)) × ((v : Assignment)
    → all_hold v (facts_of f) ≡ true → holds_at v f ≡ true)

narrow_each : (fs : List Formula) → AllByRecursion IsSure fs → every (map are_differences fs) ≡ true → (vars : ℕ) → greatest (map width fs) ≤ vars
    → AllByRecursion (IsNarrow vars) (flat_map facts_of fs)
narrow_each [] each h vars w = tt
narrow_each (f ∷ fs) each h vars w =
    let b = and_parts (are_differences f) (every (map are_differences fs)) h in
    all_append (IsNarrow vars) (facts_of f) (flat_map facts_of fs) ((each.0 b.0).0 vars (omega arith)) (narrow_each fs each.1 b.1 vars (omega arith))

hold_each : (fs : List Formula) → AllByRecursion IsSure fs → every (map are_differences fs) ≡ true → (v : Assignment)
    → all_hold v (flat_map facts_of fs) ≡ true → every (map (holds_at v) fs) ≡ true
hold_each [] each h v k = refl
hold_each (f ∷ fs) each h v k =
    let b = and_parts (are_differences f) (every (map are_differences fs)) h in
    let parts = all_hold-split v (facts_of f) (flat_map facts_of fs) k in
    ap (λ a. a && every (map (holds_at v) fs)) ((each.0 b.0).1 v parts.0) ∙ hold_each fs each.1 b.1 v parts.1

on_atom : (form : Form) → IsSure (formula.Atom form)
on_atom form h =
    let is : facts_of (formula.Atom form) ≡ AtMost form ∷ [] = facts_of-Atom form in
    let d : is_difference form.terms ≡ true = sym (folds-Atom Bool differences_step form) ∙ h in (
      λ vars w. subst (AllByRecursion (IsNarrow vars)) (sym is) ((d, subst (λ n. n ≤ vars) (folds-Atom ℕ width_step form) w), tt),
      λ v k. folds-Atom Bool (holds_step v) form ∙ (and_parts (holds_fact v (AtMost form)) true (sym (ap (all_hold v) is) ∙ k)).0,
    )

on_all : (fs : List Formula) → AllByRecursion IsSure fs → IsSure (formula.All fs)
on_all fs each h =
    let is : facts_of (formula.All fs) ≡ flat_map facts_of fs = facts_of-All fs in
    let d : every (map are_differences fs) ≡ true = sym (folds-All Bool differences_step fs) ∙ h in (
      λ vars w. subst (AllByRecursion (IsNarrow vars)) (sym is) (narrow_each fs each d vars (subst (λ n. n ≤ vars) (folds-All ℕ width_step fs) w)),
      λ v k. folds-All Bool (holds_step v) fs ∙ hold_each fs each d v (sym (ap (all_hold v) is) ∙ k),
    )

on_any : (fs : List Formula) → AllByRecursion IsSure fs → IsSure (formula.Any fs)
on_any fs each h = let no : false ≡ true = sym (folds-Any Bool differences_step fs) ∙ h in absurd (cc)

pub sure : (f : Formula) → IsSure f
sure = by_members IsSure on_atom on_all on_any
