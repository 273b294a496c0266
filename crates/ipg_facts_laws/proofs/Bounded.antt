-- The joint of conditions has bounds for each of its variables.
use Rattle.std.proofs.Common.{◌≡◌, ℕ, zero, suc, ◌+◌, ◌-◌, ◌<◌, ◌≤◌, List, [], ◌∷◌, ◌++◌, map, length, refl, sym, ap, ◌∙◌, arith, ℤ, Some, drop, take}
use Rattle.std.specs.Prelude.{slice_get, flat_map}
use Rattle.std.specs.List.{AllByRecursion}
use Rattle.std.proofs.lemmas.List.{length-append, length-drop}
use Rattle.ipg_lin.specs.Form.{Form, terms_width}
use Rattle.ipg_lin.specs.Formula.{width, width_step, greatest}
use Rattle.ipg_lin.specs.Members.{by_members, folds-Atom, folds-All, folds-Any}
use Rattle.ipg_lin.specs.declared.formula.Formula.{Formula}
use Rattle.ipg_lin.specs.declared.formula.Formula.TheVariants as formula
use Rattle.ipg_lin.specs.declared.formula.Boxed.{Boxed}
use Rattle.ipg_facts_forms.specs.Joint.{moved, moved_term, apart, apart_step, parts_apart, own_variables, joint}
use Rattle.ipg_facts_laws.specs.Laws.{ArePartsWith}
use Rattle.ipg_facts_laws.specs.Bounded.{JointIsPart}

at_most : (m n k : ℕ) → m ≡ n → n ≤ k → m ≤ k
at_most m n k e h = omega arith

moved_below : (n m x : ℕ) → x < suc m → moved n x < suc (n + m)
moved_below n m zero h = omega arith
moved_below n m (suc x) h = omega arith

terms_apart : (n m : ℕ) (terms : List (ℕ × ℤ)) → terms_width terms ≤ suc m → terms_width (map (moved_term n) terms) ≤ suc (n + m)
terms_apart n m [] h = omega arith
terms_apart n m (t ∷ terms) h =
    let first : moved n t.0 < suc (n + m) = moved_below n m t.0 (omega arith) in
    let rest : terms_width (map (moved_term n) terms) ≤ suc (n + m) = terms_apart n m terms (omega arith) in
    omega arith

-- a formula apart has as many variables more as stand before its own
abbrev StaysWithin : Formula → Type 0
StaysWithin f = (n m : ℕ) → width f ≤ suc m → width (apart n f) ≤ suc (n + m)

members_apart : (n m : ℕ) (fs : List Formula) → AllByRecursion StaysWithin fs → greatest (map width fs) ≤ suc m
    → greatest (map width (map (apart n) fs)) ≤ suc (n + m)
members_apart n m [] each h = omega arith
members_apart n m (f ∷ fs) each h =
    let first : width (apart n f) ≤ suc (n + m) = each.0 n m (omega arith) in
    let rest : greatest (map width (map (apart n) fs)) ≤ suc (n + m) = members_apart n m fs each.1 (omega arith) in
    omega arith

apart_atom : (form : Form) → StaysWithin (formula.Atom form)
unfolding apart
apart_atom form n m h =
    at_most _ _ _ (ap width (folds-Atom Formula (apart_step n) form) ∙ folds-Atom ℕ width_step _)
    (terms_apart n m form.terms (at_most _ _ _ (sym (folds-Atom ℕ width_step form)) h))

apart_all : (fs : List Formula) → AllByRecursion StaysWithin fs → StaysWithin (formula.All fs)
unfolding apart
apart_all fs each n m h =
    at_most _ _ _ (ap width (folds-All Formula (apart_step n) fs) ∙ folds-All ℕ width_step _)
    (members_apart n m fs each (at_most _ _ _ (sym (folds-All ℕ width_step fs)) h))

apart_any : (fs : List Formula) → AllByRecursion StaysWithin fs → StaysWithin (formula.Any fs)
unfolding apart
apart_any fs each n m h =
    at_most _ _ _ (ap width (folds-Any Formula (apart_step n) fs) ∙ folds-Any ℕ width_step _)
    (members_apart n m fs each (at_most _ _ _ (sym (folds-Any ℕ width_step fs)) h))

stays_within : (f : Formula) → StaysWithin f
stays_within = by_members StaysWithin apart_atom apart_all apart_any

abbrev bounds_behind : List (Formula × Boxed) → List (ℤ × ℤ)
bounds_behind parts = flat_map (λ part. drop 1 part.1.bounds) parts

own_below : (w k : ℕ) → w ≤ k → 0 < k → w ≤ suc (k - 1)
own_below w k h some = omega arith

parts_width : (b : ℤ × ℤ) (n : ℕ) (parts : List (Formula × Boxed)) → ArePartsWith b parts
    → greatest (map width (parts_apart n parts)) ≤ suc (n + length (bounds_behind parts))
parts_width b n [] are = omega arith
parts_width b n (part ∷ parts) are =
    let k : ℕ = own_variables part in
    let size : length (drop 1 part.1.bounds) ≡ k = length-drop 1 part.1.bounds in
    let both : length (bounds_behind (part ∷ parts)) ≡ length (drop 1 part.1.bounds) + length (bounds_behind parts) =
    length-append (drop 1 part.1.bounds) (bounds_behind parts) in
    let first : width (apart n part.0) ≤ suc (n + k) =
    stays_within part.0 n k (own_below (width part.0) (length part.1.bounds) are.0.0.bounded are.0.0.first) in
    let rest : greatest (map width (parts_apart (n + k) parts)) ≤ suc (n + k + length (bounds_behind parts)) = parts_width b (n + k) parts are.1 in
    omega arith

first_bound : (b : ℤ × ℤ) (bounds rest : List (ℤ × ℤ)) → slice_get bounds 0 ≡ Some b
    → (slice_get (take 1 bounds ++ rest) 0 ≡ Some b) × (length (take 1 bounds ++ rest) ≡ suc (length rest))
first_bound b [] rest e = absurd (cc)
first_bound b (c ∷ bounds) rest e = (e, refl)

pub joint_is_part : JointIsPart
unfolding joint
joint_is_part b part parts are =
    let all : List (Formula × Boxed) = part ∷ parts in
    let first = first_bound b part.1.bounds (bounds_behind all) are.0.1 in
    let size : length (take 1 part.1.bounds ++ bounds_behind all) ≡ suc (length (bounds_behind all)) = first.1 in
    let is : width (formula.All (parts_apart 0 all)) ≡ greatest (map width (parts_apart 0 all)) = folds-All ℕ width_step (parts_apart 0 all) in
    let fit : greatest (map width (parts_apart 0 all)) ≤ suc (0 + length (bounds_behind all)) = parts_width b 0 all are in
    ((record { bounded = omega (arith, is, fit, size); first = omega (arith, size) }, first.0), tt)
