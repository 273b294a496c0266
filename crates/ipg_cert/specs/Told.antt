-- The facts of a formula, by what it is, and that they hold where it does: proofs for crates above.
use Rattle.std.proofs.Common.{◌≡◌, Bool, true, ◌&&◌, List, [], ◌∷◌, ◌++◌, map, refl, sym, ◌∙◌, ap}
use Rattle.std.specs.List.{flat_map, AllByRecursion}
use Rattle.std.proofs.lemmas.Bool.{and_parts}
use Rattle.ipg_lin.specs.Form.{Form, Assignment}
use Rattle.ipg_lin.specs.Formula.{holds_at, holds_step, every, some}
use Rattle.ipg_lin.specs.declared.formula.Formula.{Formula}
use Rattle.ipg_lin.specs.declared.formula.Formula.TheVariants as formula
use Rattle.ipg_lin.specs.declared.formula.Formula.TheOpen.Formula-F.{Atom, All, Any}
use Rattle.ipg_lin.specs.declared.formula.Formula.TheFolds.{fold-Formula}
use Rattle.ipg_lin.specs.Members.{by_members, folds-Atom, folds-All, folds-Any}
use Rattle.ipg_cert.specs.Facts.{Fact, AtMost, Choice, all_hold, Told, told_step, facts_of}

abbrev pub told : Formula → Told
told = fold-Formula Told told_step

pub all_hold-append : (v : Assignment) (xs ys : List Fact) → all_hold v xs ≡ true → all_hold v ys ≡ true → all_hold v (xs ++ ys) ≡ true
all_hold-append v [] ys h k = k
all_hold-append v (x ∷ xs) ys h k = ap (λ b. b && all_hold v (xs ++ ys)) (and_parts _ _ h).0 ∙ all_hold-append v xs ys (and_parts _ _ h).1 k

-- the formula told is the formula, and its facts hold where it does
abbrev IsTold : Formula → Type 0
IsTold f = ((told f).whole ≡ f) × ((v : Assignment) → holds_at v f ≡ true → all_hold v (facts_of f) ≡ true)

wholes : (fs : List Formula) → AllByRecursion IsTold fs → map (λ (t : Told). t.whole) (map told fs) ≡ fs
wholes [] each = refl
wholes (f ∷ fs) each = ap (λ g. g ∷ map (λ (t : Told). t.whole) (map told fs)) each.0.0 ∙ ap (λ gs. f ∷ gs) (wholes fs each.1)

every_told : (v : Assignment) (fs : List Formula) → AllByRecursion IsTold fs → every (map (holds_at v) fs) ≡ true
    → all_hold v (flat_map (λ (t : Told). t.facts) (map told fs)) ≡ true
every_told v [] each h = refl
every_told v (f ∷ fs) each h = all_hold-append v (facts_of f) _ (each.0.1 v (and_parts _ _ h).0) (every_told v fs each.1 (and_parts _ _ h).1)

on_atom : (form : Form) → IsTold (formula.Atom form)
on_atom form =
    let e : told (formula.Atom form) ≡ told_step (Atom form) = folds-Atom Told told_step form in (
      ap (λ t. t.whole) e,
      λ v h. ap (λ t. all_hold v t.facts) e ∙ ap (λ b. b && true) (sym (folds-Atom Bool (holds_step v) form) ∙ h),
    )

on_all : (fs : List Formula) → AllByRecursion IsTold fs → IsTold (formula.All fs)
on_all fs each =
    let e : told (formula.All fs) ≡ told_step (All (map told fs)) = folds-All Told told_step fs in (
      ap (λ t. t.whole) e ∙ ap formula.All (wholes fs each),
      λ v h. ap (λ t. all_hold v t.facts) e ∙ every_told v fs each (sym (folds-All Bool (holds_step v) fs) ∙ h),
    )

on_any : (fs : List Formula) → AllByRecursion IsTold fs → IsTold (formula.Any fs)
on_any fs each =
    let e : told (formula.Any fs) ≡ told_step (Any (map told fs)) = folds-Any Told told_step fs in (
      ap (λ t. t.whole) e ∙ ap formula.Any (wholes fs each),
      λ v h. ap (λ t. all_hold v t.facts) e ∙ ap (λ gs. some (map (holds_at v) gs) && true) (wholes fs each)
          ∙ ap (λ b. b && true) (sym (folds-Any Bool (holds_step v) fs) ∙ h),
    )

pub is_told : (f : Formula) → IsTold f
is_told = by_members IsTold on_atom on_all on_any

-- the facts of a formula, by what it is
wholes_told : (fs : List Formula) → map (λ (t : Told). t.whole) (map told fs) ≡ fs
wholes_told [] = refl
wholes_told (f ∷ fs) = ap (λ g. g ∷ map (λ (t : Told). t.whole) (map told fs)) (is_told f).0 ∙ ap (λ gs. f ∷ gs) (wholes_told fs)

facts_told : (fs : List Formula) → flat_map (λ (t : Told). t.facts) (map told fs) ≡ flat_map facts_of fs
facts_told [] = refl
facts_told (f ∷ fs) = ap (λ rest. facts_of f ++ rest) (facts_told fs)

pub facts_of-Atom : (form : Form) → facts_of (formula.Atom form) ≡ AtMost form ∷ []
facts_of-Atom form = ap (λ t. t.facts) (folds-Atom Told told_step form)

pub facts_of-All : (fs : List Formula) → facts_of (formula.All fs) ≡ flat_map facts_of fs
facts_of-All fs = ap (λ t. t.facts) (folds-All Told told_step fs) ∙ facts_told fs

pub facts_of-Any : (fs : List Formula) → facts_of (formula.Any fs) ≡ Choice fs ∷ []
facts_of-Any fs = ap (λ t. t.facts) (folds-Any Told told_step fs) ∙ ap (λ gs. Choice gs ∷ []) (wholes_told fs)
