-- Solutions of parts and of their joint.
use Rattle.std.proofs.Common.{◌≡◌, ℕ, zero, suc, ◌+◌, ◌-◌, ◌<◌, ◌≤◌, Bool, true, false, ◌&&◌, List, [], ◌∷◌, ◌++◌, map, length, refl, sym, ap, subst}
use Rattle.std.proofs.Common.{◌∙◌, arith, ℤ, pos, ◌+ℤ◌, ◌*ℤ◌, Some, if◌then◌else◌, nat_lt, drop, take}
use Rattle.std.specs.Prelude.{IsTrue, int_le, slice_get, flat_map, ◌≤ℤ◌}
use Rattle.std.proofs.lemmas.Bool.Decides.{nat_tests}
use Rattle.std.proofs.lemmas.List.{length-drop}
use Rattle.ipg_lin.specs.Form.{Form, Assignment, sum_at, value_at, terms_width}
use Rattle.ipg_lin.specs.Formula.{holds_at, holds_step, every, some, width, width_step, greatest}
use Rattle.ipg_lin.specs.declared.formula.Formula.{Formula, roll-Formula, map-Formula}
use Rattle.ipg_lin.specs.declared.formula.Formula.TheVariants as formula
use Rattle.ipg_lin.specs.declared.formula.Formula.TheOpen.{Formula-F}
use Rattle.ipg_lin.specs.declared.formula.Formula.TheOpen.Formula-F.{Atom, All, Any}
use Rattle.ipg_lin.specs.declared.formula.Formula.TheFolds.{fold-roll-Formula, ind-Formula}
use Rattle.ipg_lin.specs.declared.formula.Boxed.{Boxed}
use Rattle.ipg_facts_forms.specs.Joint.{moved, moved_term, apart, apart_step, parts_apart, own_variables, shared_bounds, joint}
use Rattle.ipg_facts_laws.specs.Laws.{AllSolved, PartsSolveJoint}

-- a formula apart holds where the formula does at the moved variables, and where they have the values of its own
pub record Apart (f : Formula) : Type 0 where
  pub apart_holds : (n : ℕ) (v : Assignment) → holds_at v (apart n f) ≡ holds_at (λ x. v (moved n x)) f
  pub agrees : (v w : Assignment) → ((x : ℕ) → x < width f → v x ≡ w x) → holds_at v f ≡ holds_at w f

abbrev bare : List ((f : Formula) × Apart f) → List Formula
bare ms = map (λ (e : (f : Formula) × Apart f). e.0) ms

sum_moved : (n : ℕ) (v : Assignment) (terms : List (ℕ × ℤ)) → sum_at v (map (moved_term n) terms) ≡ sum_at (λ x. v (moved n x)) terms
sum_moved n v [] = refl
sum_moved n v (t ∷ terms) = ap (λ z. (t.1 *ℤ v (moved n t.0)) +ℤ z) (sum_moved n v terms)

sum_agrees : (v w : Assignment) (terms : List (ℕ × ℤ)) → ((x : ℕ) → x < terms_width terms → v x ≡ w x) → sum_at v terms ≡ sum_at w terms
sum_agrees v w [] h = refl
sum_agrees v w (t ∷ terms) h =
    rw (h t.0 (omega arith)) (ap (λ z. (t.1 *ℤ w t.0) +ℤ z) (sum_agrees v w terms (λ x l. h x (omega arith))))

holds_atom : (v : Assignment) (form : Form) → holds_at v (roll-Formula (Atom form)) ≡ int_le (value_at v form) (pos 0)
holds_atom v form = fold-roll-Formula Bool (holds_step v) (Atom form)

pub holds_all : (v : Assignment) (fs : List Formula) → holds_at v (roll-Formula (All fs)) ≡ every (map (holds_at v) fs)
holds_all v fs = fold-roll-Formula Bool (holds_step v) (All fs)

holds_any : (v : Assignment) (fs : List Formula) → holds_at v (roll-Formula (Any fs)) ≡ some (map (holds_at v) fs)
holds_any v fs = fold-roll-Formula Bool (holds_step v) (Any fs)

apart_atom : (n : ℕ) (form : Form) → apart n (roll-Formula (Atom form)) ≡ roll-Formula (Atom (record form { terms = map (moved_term n) form.terms }))
unfolding apart
apart_atom n form = fold-roll-Formula Formula (apart_step n) (Atom form) ∙ sym (formula.rolls-Atom _)

apart_all : (n : ℕ) (fs : List Formula) → apart n (roll-Formula (All fs)) ≡ roll-Formula (All (map (apart n) fs))
unfolding apart
apart_all n fs = fold-roll-Formula Formula (apart_step n) (All fs) ∙ sym (formula.rolls-All _)

apart_any : (n : ℕ) (fs : List Formula) → apart n (roll-Formula (Any fs)) ≡ roll-Formula (Any (map (apart n) fs))
unfolding apart
apart_any n fs = fold-roll-Formula Formula (apart_step n) (Any fs) ∙ sym (formula.rolls-Any _)

members_apart : (n : ℕ) (v : Assignment) (ms : List ((f : Formula) × Apart f))
    → map (holds_at v) (map (apart n) (bare ms)) ≡ map (holds_at (λ x. v (moved n x))) (bare ms)
members_apart n v [] = refl
members_apart n v (m ∷ ms) = rw (m.1.apart_holds n v) (ap (λ bs. holds_at (λ x. v (moved n x)) m.0 ∷ bs) (members_apart n v ms))

members_agree : (v w : Assignment) (ms : List ((f : Formula) × Apart f)) → ((x : ℕ) → x < greatest (map width (bare ms)) → v x ≡ w x)
    → map (holds_at v) (bare ms) ≡ map (holds_at w) (bare ms)
members_agree v w [] h = refl
members_agree v w (m ∷ ms) h =
    rw (m.1.agrees v w (λ x l. h x (omega arith))) (ap (λ bs. holds_at w m.0 ∷ bs) (members_agree v w ms (λ x l. h x (omega arith))))

width_atom : (form : Form) → width (roll-Formula (Atom form)) ≡ terms_width form.terms
width_atom form = fold-roll-Formula ℕ width_step (Atom form)

width_all : (fs : List Formula) → width (roll-Formula (All fs)) ≡ greatest (map width fs)
width_all fs = fold-roll-Formula ℕ width_step (All fs)

width_any : (fs : List Formula) → width (roll-Formula (Any fs)) ≡ greatest (map width fs)
width_any fs = fold-roll-Formula ℕ width_step (Any fs)

below : (m n x : ℕ) → m ≡ n → x < n → x < m
below m n x e h = omega arith

on_atom : (form : Form) → Apart (roll-Formula (Atom form))
on_atom form = record {
  apart_holds = λ n v. ap (holds_at v) (apart_atom n form) ∙ holds_atom v _ ∙ ap (λ z. int_le (z +ℤ form.constant) (pos 0)) (sum_moved n v form.terms)
      ∙ sym (holds_atom _ form);
  agrees = λ v w h. holds_atom v form ∙ ap (λ z. int_le (z +ℤ form.constant) (pos 0)) (sum_agrees v w form.terms (λ x l. h x (below _ _ x (width_atom form) l)))
      ∙ sym (holds_atom w form);
}

on_all : (ms : List ((f : Formula) × Apart f)) → Apart (roll-Formula (All (bare ms)))
on_all ms = record {
  apart_holds = λ n v. ap (holds_at v) (apart_all n (bare ms)) ∙ holds_all v _ ∙ ap every (members_apart n v ms) ∙ sym (holds_all _ (bare ms));
  agrees = λ v w h. holds_all v (bare ms) ∙ ap every (members_agree v w ms (λ x l. h x (below _ _ x (width_all (bare ms)) l))) ∙ sym (holds_all w (bare ms));
}

on_any : (ms : List ((f : Formula) × Apart f)) → Apart (roll-Formula (Any (bare ms)))
on_any ms = record {
  apart_holds = λ n v. ap (holds_at v) (apart_any n (bare ms)) ∙ holds_any v _ ∙ ap some (members_apart n v ms) ∙ sym (holds_any _ (bare ms));
  agrees = λ v w h. holds_any v (bare ms) ∙ ap some (members_agree v w ms (λ x l. h x (below _ _ x (width_any (bare ms)) l))) ∙ sym (holds_any w (bare ms));
}

on_layer : (y : Formula-F ((f : Formula) × Apart f)) (x : Formula-F Formula) → map-Formula ((f : Formula) × Apart f) Formula (λ e. e.0) y ≡ x
    → Apart (roll-Formula x)
on_layer (Atom form) x is = subst (λ z. Apart (roll-Formula z)) is (on_atom form)
on_layer (All ms) x is = subst (λ z. Apart (roll-Formula z)) is (on_all ms)
on_layer (Any ms) x is = subst (λ z. Apart (roll-Formula z)) is (on_any ms)

pub is_apart : (f : Formula) → Apart f
is_apart = ind-Formula Apart (λ x y is. on_layer y x is)

-- the variables of parts, one part behind another: the y-th of them
abbrev pick : (parts : List (Formula × Boxed)) (eoi : ℤ) → AllSolved eoi parts → ℕ → ℤ
pick [] eoi h y = pos 0
pick (part ∷ parts) eoi h y = if nat_lt y (own_variables part) then h.0.1.0 (suc y) else pick parts eoi h.1 (y - own_variables part)

abbrev spread : (parts : List (Formula × Boxed)) (eoi : ℤ) → AllSolved eoi parts → Assignment
spread parts eoi h zero = eoi
spread parts eoi h (suc y) = pick parts eoi h y

less : (m n : ℕ) → m < n → nat_lt m n ≡ true
less m n h = grind (arith, nat_tests)

not_less : (m n : ℕ) → n ≤ m → nat_lt m n ≡ false
not_less m n h = grind (arith, nat_tests)

both : (a b : Bool) → a ≡ true → b ≡ true → a && b ≡ true
both a b e f = rw (e, f) refl

pub is_true : (b : Bool) → IsTrue b → b ≡ true
is_true b h = h

pub truly : (b : Bool) → b ≡ true → IsTrue b
truly b e = e

own_below : (n k : ℕ) → suc n < k → n < k - 1
own_below n k h = omega arith

-- every part holds where the values are those of its solution, its own variables behind n others
module _ (values : Assignment) (eoi : ℤ) (zero_is : values 0 ≡ eoi) where
  agree_at : (n : ℕ) (part : Formula × Boxed) (parts : List (Formula × Boxed)) (h : AllSolved eoi (part ∷ parts))
      → ((y : ℕ) → values (suc y + n) ≡ pick (part ∷ parts) eoi h y) → (x : ℕ) → x < width part.0 → values (moved n x) ≡ h.0.1.0 x
  agree_at n part parts h at zero l = zero_is ∙ sym h.0.1.2
  agree_at n part parts h at (suc y) l =
      let within : suc y < length part.1.bounds = let b : width part.0 ≤ length part.1.bounds = h.0.0.bounded in omega arith in
      at y ∙ ap (λ b. if b then h.0.1.0 (suc y) else pick parts eoi h.1 (y - own_variables part))
      (less y (own_variables part) (own_below y (length part.1.bounds) within))

  tail_at : (n : ℕ) (part : Formula × Boxed) (parts : List (Formula × Boxed)) (h : AllSolved eoi (part ∷ parts))
      → ((y : ℕ) → values (suc y + n) ≡ pick (part ∷ parts) eoi h y) → (y : ℕ) → values (suc y + (n + own_variables part)) ≡ pick parts eoi h.1 y
  tail_at n part parts h at y =
      let k : ℕ = own_variables part in
      ap values (let e : suc y + (n + k) ≡ suc (y + k) + n = omega arith in e) ∙ at (y + k)
      ∙ ap (λ b. if b then h.0.1.0 (suc (y + k)) else pick parts eoi h.1 (y + k - k)) (not_less (y + k) k (omega arith))
      ∙ ap (pick parts eoi h.1) (let e : y + k - k ≡ y = omega arith in e)

  parts_hold : (n : ℕ) (parts : List (Formula × Boxed)) (h : AllSolved eoi parts) → ((y : ℕ) → values (suc y + n) ≡ pick parts eoi h y)
      → every (map (holds_at values) (parts_apart n parts)) ≡ true
  parts_hold n [] h at = refl
  parts_hold n (part ∷ parts) h at =
      both _ _
      ((is_apart part.0).apart_holds n values
      ∙ (is_apart part.0).agrees (λ x. values (moved n x)) h.0.1.0 (agree_at n part parts h at)
      ∙ is_true (holds_at h.0.1.0 part.0) h.0.1.1.1)
      (parts_hold (n + own_variables part) parts h.1 (tail_at n part parts h at))

-- the bounds of a part's own variables
pub own_bound : (bounds : List (ℤ × ℤ)) (y : ℕ) → slice_get (drop 1 bounds) y ≡ slice_get bounds (suc y)
own_bound [] y = refl
own_bound (b ∷ bounds) y = refl

abbrev IsWithin : ℤ → ℤ × ℤ → Type 0
IsWithin z b = (b.0 ≤ℤ z) × (z ≤ℤ b.1)

same_test : (y k : ℕ) → nat_lt y k ≡ nat_lt (suc y) (suc k)
same_test y k = grind (arith, nat_tests)

test_suc : (y k : ℕ) (a : ℤ) (w : ℕ → ℤ) → (if nat_lt y k then a else w (y - k)) ≡ (if nat_lt (suc y) (suc k) then a else w (suc y - suc k))
test_suc y k a w =
    ap (λ t. if t then a else w (y - k)) (same_test y k)
    ∙ ap (λ n. if nat_lt (suc y) (suc k) then a else w n) (let e : y - k ≡ suc y - suc k = omega arith in e)

-- what holds of each bound of the first list, and of each of the second by its own places, holds of each of both
own_within : (v : ℕ → ℤ) (w : ℕ → ℤ) (xs ys : List (ℤ × ℤ))
    → ((y : ℕ) (b : ℤ × ℤ) → slice_get xs y ≡ Some b → IsWithin (v y) b) → ((y : ℕ) (b : ℤ × ℤ) → slice_get ys y ≡ Some b → IsWithin (w y) b)
    → (y : ℕ) (b : ℤ × ℤ) → slice_get (xs ++ ys) y ≡ Some b → IsWithin (if nat_lt y (length xs) then v y else w (y - length xs)) b
own_within v w [] ys f g y b e =
    subst (λ z. IsWithin z b) (ap w (let h : y ≡ y - 0 = omega arith in h) ∙ sym (ap (λ t. if t then v y else w (y - 0)) (not_less y 0 (omega arith))))
    (g y b e)
own_within v w (x ∷ xs) ys f g zero b e =
    subst (λ z. IsWithin z b) (sym (ap (λ t. if t then v 0 else w (0 - length (x ∷ xs))) (less 0 (length (x ∷ xs)) (omega arith)))) (f zero b e)
own_within v w (x ∷ xs) ys f g (suc y) b e =
    subst (λ z. IsWithin z b) (test_suc y (length xs) (v (suc y)) w)
    (own_within (λ i. v (suc i)) w xs ys (λ i b e. f (suc i) b e) g y b e)

lies_own : (parts : List (Formula × Boxed)) (eoi : ℤ) (h : AllSolved eoi parts) (y : ℕ) (b : ℤ × ℤ)
    → slice_get (flat_map (λ part. drop 1 part.1.bounds) parts) y ≡ Some b → IsWithin (pick parts eoi h y) b
lies_own [] eoi h y b e = cc
lies_own (part ∷ parts) eoi h y b e =
    subst (λ k. IsWithin (if nat_lt y k then h.0.1.0 (suc y) else pick parts eoi h.1 (y - k)) b) (length-drop 1 part.1.bounds)
    (own_within (λ y. h.0.1.0 (suc y)) (pick parts eoi h.1) (drop 1 part.1.bounds) (flat_map (λ part. drop 1 part.1.bounds) parts)
    (λ y b e. h.0.1.1.0 (suc y) b.0 b.1 (sym (own_bound part.1.bounds y) ∙ e)) (lies_own parts eoi h.1) y b e)

lies_first : (bounds rest : List (ℤ × ℤ)) (v : ℕ → ℤ) (eoi : ℤ) → 0 < length bounds → ((b : ℤ × ℤ) → slice_get bounds 0 ≡ Some b → IsWithin eoi b)
    → ((y : ℕ) (b : ℤ × ℤ) → slice_get rest y ≡ Some b → IsWithin (v (suc y)) b) → v 0 ≡ eoi
    → (x : ℕ) (b : ℤ × ℤ) → slice_get (take 1 bounds ++ rest) x ≡ Some b → IsWithin (v x) b
lies_first [] rest v eoi some f g z x b e = absurd (omega arith)
lies_first (c ∷ bounds) rest v eoi some f g z zero b e = subst (λ n. IsWithin n b) (sym z) (f b e)
lies_first (c ∷ bounds) rest v eoi some f g z (suc y) b e = g y b e

lies : (parts : List (Formula × Boxed)) (eoi : ℤ) (h : AllSolved eoi parts) (x : ℕ) (low high : ℤ)
    → slice_get (shared_bounds parts ++ flat_map (λ part. drop 1 part.1.bounds) parts) x ≡ Some (low, high)
    → (low ≤ℤ spread parts eoi h x) × (spread parts eoi h x ≤ℤ high)
lies [] eoi h x low high e = cc
lies (part ∷ parts) eoi h x low high e =
    lies_first part.1.bounds (flat_map (λ part. drop 1 part.1.bounds) (part ∷ parts)) (spread (part ∷ parts) eoi h) eoi h.0.0.first
    (λ b f. subst (λ n. IsWithin n b) h.0.1.2 (h.0.1.1.0 0 b.0 b.1 f))
    (λ y b f. lies_own (part ∷ parts) eoi h y b f) refl x (low, high) e

pub parts_solve_joint : PartsSolveJoint
unfolding joint
parts_solve_joint parts eoi h =
    let v : Assignment = spread parts eoi h in
    let holds : holds_at v (formula.All (parts_apart 0 parts)) ≡ true =
    ap (holds_at v) (sym (formula.rolls-All (parts_apart 0 parts))) ∙ holds_all v (parts_apart 0 parts)
    ∙ parts_hold v eoi refl 0 parts h (λ y. ap (spread parts eoi h) (let e : suc y + 0 ≡ suc y = omega arith in e)) in
    (v, (lies parts eoi h, truly _ holds), refl)
