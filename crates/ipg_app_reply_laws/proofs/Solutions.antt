-- A formula that can be solved in a box of bounds has a solution, as a list, with the least value of variable 0.
use Rattle.std.proofs.Common.{◌≡◌, ℕ, zero, suc, ◌<◌, ◌≤◌, ◌⊎◌, ◌&&◌, ◌||◌, inl, inr, refl, sym, ap, ◌∙◌, subst, arith, List, [], ◌∷◌, length, map}
use Rattle.std.proofs.Common.{Some, Bool}
use Rattle.std.specs.Prelude.{IsTrue, slice_get, ℤ, pos, negsuc, ◌≤ℤ◌, ◌+ℤ◌, ◌*ℤ◌, int_le}
use Rattle.std.proofs.lemmas.Int.{ints}
use Rattle.std.proofs.lemmas.Option.{slice_get_within}
use Rattle.std.specs.List.{AllByRecursion}
use Rattle.ipg_lin.specs.Form.{Form, Assignment, sum_at, terms_width}
use Rattle.ipg_lin.specs.Formula.{holds_at, holds_step, every, some as any, greatest, width, width_step, assigned, LiesIn, Solvable}
use Rattle.ipg_lin.specs.declared.formula.Formula.{Formula}
use Rattle.ipg_lin.specs.declared.formula.Formula.TheVariants as formula
use Rattle.ipg_lin.specs.declared.formula.Boxed.{Boxed}
use Rattle.ipg_lin.specs.Members.{by_members, folds-Atom, folds-All, folds-Any}
use Rattle.ipg_app_reply_laws.proofs.Classical.{Somehow, some, ◌>>=◌, by, first_of}

-- ---- a formula asks only for the variables below its width

abbrev Agree : ℕ → Assignment → Assignment → Type 0
Agree n v w = (x : ℕ) → x < n → v x ≡ w x

sums_agree : (n : ℕ) (v w : Assignment) (terms : List (ℕ × ℤ)) → terms_width terms ≤ n → Agree n v w → sum_at v terms ≡ sum_at w terms
sums_agree n v w [] within same = refl
sums_agree n v w (term ∷ terms) within same =
    let rest = sums_agree n v w terms (omega (arith, within)) same in
    let here = same term.0 (omega (arith, within)) in
    ap (λ z. (term.1 *ℤ z) +ℤ sum_at v terms) here ∙ ap (λ z. (term.1 *ℤ w term.0) +ℤ z) rest

abbrev IsSame : Formula → Type 0
IsSame f = (n : ℕ) (v w : Assignment) → width f ≤ n → Agree n v w → holds_at v f ≡ holds_at w f

every_same : (fs : List Formula) → AllByRecursion IsSame fs → (n : ℕ) (v w : Assignment) → greatest (map width fs) ≤ n → Agree n v w
    → every (map (holds_at v) fs) ≡ every (map (holds_at w) fs)
every_same [] each n v w within same = refl
every_same (f ∷ fs) each n v w within same =
    let one = each.0 n v w (omega (arith, within)) same in
    let rest = every_same fs each.1 n v w (omega (arith, within)) same in
    ap (λ b. b && every (map (holds_at v) fs)) one ∙ ap (λ b. holds_at w f && b) rest

any_same : (fs : List Formula) → AllByRecursion IsSame fs → (n : ℕ) (v w : Assignment) → greatest (map width fs) ≤ n → Agree n v w
    → any (map (holds_at v) fs) ≡ any (map (holds_at w) fs)
any_same [] each n v w within same = refl
any_same (f ∷ fs) each n v w within same =
    let one = each.0 n v w (omega (arith, within)) same in
    let rest = any_same fs each.1 n v w (omega (arith, within)) same in
    ap (λ b. b || any (map (holds_at v) fs)) one ∙ ap (λ b. holds_at w f || b) rest

atom_same : (form : Form) → IsSame (formula.Atom form)
atom_same form n v w within same =
    let wide = subst (λ m. m ≤ n) (folds-Atom ℕ width_step form) within in
    folds-Atom Bool (holds_step v) form ∙ ap (λ z. int_le (z +ℤ form.constant) (pos 0)) (sums_agree n v w form.terms wide same)
    ∙ sym (folds-Atom Bool (holds_step w) form)

all_same : (fs : List Formula) → AllByRecursion IsSame fs → IsSame (formula.All fs)
all_same fs each n v w within same =
    let wide = subst (λ m. m ≤ n) (folds-All ℕ width_step fs) within in
    folds-All Bool (holds_step v) fs ∙ every_same fs each n v w wide same ∙ sym (folds-All Bool (holds_step w) fs)

some_same : (fs : List Formula) → AllByRecursion IsSame fs → IsSame (formula.Any fs)
some_same fs each n v w within same =
    let wide = subst (λ m. m ≤ n) (folds-Any ℕ width_step fs) within in
    folds-Any Bool (holds_step v) fs ∙ any_same fs each n v w wide same ∙ sym (folds-Any Bool (holds_step w) fs)

pub same_below : (f : Formula) → IsSame f
same_below = by_members IsSame atom_same all_same some_same

-- ---- an assignment as a list

abbrev listed : Assignment → ℕ → List ℤ
listed v zero = []
listed v (suc n) = v zero ∷ listed (λ x. v (suc x)) n

listed_length : (v : Assignment) (n : ℕ) → length (listed v n) ≡ n
listed_length v zero = refl
listed_length v (suc n) = ap suc (listed_length (λ x. v (suc x)) n)

listed_at : (v : Assignment) (n x : ℕ) → x < n → assigned (listed v n) x ≡ v x
listed_at v zero x lt = absurd (omega (arith, lt))
listed_at v (suc n) zero lt = refl
listed_at v (suc n) (suc x) lt = listed_at (λ x. v (suc x)) n x (omega (arith, lt))

-- ---- the least solution

-- values that solve the formula, of which variable 0 has this one
pub record SolvesAt (f : Formula) (box : Boxed) (n : ℕ) : Type 0 where
  pub values : Assignment
  pub inside : LiesIn values box
  pub holds : IsTrue (holds_at values f)
  pub first : values 0 ≡ pos n

pub record LeastSolution (f : Formula) (box : Boxed) : Type 0 where
  pub values : List ℤ
  pub length_is : length values ≡ length box.bounds
  pub inside : LiesIn (assigned values) box
  pub holds : IsTrue (holds_at (assigned values) f)
  pub least : (other : Assignment) → LiesIn other box → IsTrue (holds_at other f) → assigned values 0 ≤ℤ other 0

natural : (z : ℤ) → pos 0 ≤ℤ z → (n : ℕ) × (z ≡ pos n)
natural (pos n) h = (n, refl)
natural (negsuc n) h = absurd (omega (arith, ints, h))

at_most : (a b : ℤ) (n m : ℕ) → a ≡ pos n → b ≡ pos m → n ≤ m → a ≤ℤ b
at_most a b n m p q le = omega (arith, ints, p, q, le)

order : (a b : ℕ) → (a < b) ⊎ (b ≤ a)
order zero zero = inr (omega arith)
order zero (suc b) = inl (omega arith)
order (suc a) zero = inr (omega arith)
order (suc a) (suc b) = by (order a b) (λ lt. inl (omega (arith, lt))) (λ le. inr (omega (arith, le)))

module _ (f : Formula) (box : Boxed) (high : ℤ) (bounded : width f ≤ length box.bounds) (there : slice_get box.bounds 0 ≡ Some (pos 0, high)) where
  at_least : (v : Assignment) → LiesIn v box → pos 0 ≤ℤ v 0
  at_least v inside = (inside 0 (pos 0) high there).0

  made : (n : ℕ) → SolvesAt f box n → ((m : ℕ) → m < n → SolvesAt f box m → ⊥) → LeastSolution f box
  made n s before = record {
    values = listed s.values (length box.bounds);
    length_is = listed_length s.values (length box.bounds);
    inside = λ x low top e.
        subst (λ z. (low ≤ℤ z) × (z ≤ℤ top)) (sym (listed_at s.values (length box.bounds) x (slice_get_within box.bounds x (low, top) e)))
        (s.inside x low top e);
    holds = subst IsTrue (same_below f (length box.bounds) s.values (assigned (listed s.values (length box.bounds))) bounded
        (λ x lt. sym (listed_at s.values (length box.bounds) x lt))) s.holds;
    least = λ other in_box so.
        let p = natural (other 0) (at_least other in_box) in
        let le = by (order p.0 n) (λ less. absurd (before p.0 less (record { values = other; inside = in_box; holds = so; first = p.1 }))) (λ more. more) in
        at_most (assigned (listed s.values (length box.bounds)) 0) (other 0) n p.0
        (listed_at s.values (length box.bounds) 0 (slice_get_within box.bounds 0 (pos 0, high) there) ∙ s.first) p.1 le;
  }

pub least_solution : (f : Formula) (box : Boxed) (high : ℤ) → width f ≤ length box.bounds → slice_get box.bounds 0 ≡ Some (pos 0, high) → Solvable f box
    → Somehow (LeastSolution f box)
least_solution f box high bounded there s = do
  n ← some (natural (s.0 0) (at_least f box high bounded there s.0 s.1))
  least ← first_of (SolvesAt f box) n.0 (record { values = s.0; inside = s.1; holds = s.2; first = n.1 })
  some (made f box high bounded there least.at least.holds least.before)
