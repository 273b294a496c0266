-- A formula within the limits that has no solution has a refutation: each variable is split down to each of its values, at which some
-- atom is ruled out.
use Rattle.std.proofs.Common.{◌≡◌, ℕ, zero, suc, ◌+◌, ◌-◌, ◌<◌, ◌≤◌, ◌&&◌, ◌||◌, ◌⊎◌, inl, inr, refl, sym, ap, ◌∙◌, subst, arith, append_assoc}
use Rattle.std.proofs.Common.{ℤ, pos, negsuc, ◌+ℤ◌, ◌*ℤ◌, List, [], ◌∷◌, ◌++◌, length, map, Some, Bool, true, false, nat_le, nat_lt}
use Rattle.std.specs.Prelude.{IsTrue, slice_get, ◌≤ℤ◌, int_le, int_lt}
use Rattle.std.specs.List.{flat_map, AllByRecursion}
use Rattle.std.proofs.lemmas.Bool.{eq-eqb}
use Rattle.std.proofs.lemmas.Bool.Decides.{nat_tests}
use Rattle.std.proofs.lemmas.Int.{ints}
use Rattle.std.proofs.lemmas.Option.{slice_get_cases, slice_get_within}
use Rattle.ipg_lin.specs.Form.{Form, Assignment, sum_at, value_at, terms_width, are_coefficients}
use Rattle.ipg_lin.specs.Formula.{holds_at, holds_step, every, some, greatest, width, width_step, LiesIn, Solvable}
use Rattle.ipg_lin.specs.declared.formula.Formula.{Formula}
use Rattle.ipg_lin.specs.declared.formula.Formula.TheVariants as formula
use Rattle.ipg_lin.specs.declared.formula.Formula.TheFolds.{fold-Formula}
use Rattle.ipg_lin.specs.declared.formula.Boxed.{Boxed}
use Rattle.ipg_lin.specs.Members.{by_members, folds-Atom, folds-All, folds-Any}
use Rattle.ipg_cert.specs.declared.refutation.Step.{Step}
use Rattle.ipg_cert.specs.declared.refutation.Step.TheVariants.{Combine, Split, Either}
use Rattle.ipg_cert.specs.declared.refutation.Refutation.{Refutation}
use Rattle.ipg_cert.specs.Facts.{Fact, AtMost, Choice, Told, told_step, facts_of, at_least, at_most, bound_facts}
use Rattle.ipg_cert.specs.Checks.{combines, is_choice, members_in, cases_of, refutes, root_facts, checks}
use Rattle.ipg_solve.specs.declared.domain.Domain.{Domain}
use Rattle.ipg_solve.specs.Domains.{domain_at, end_of, least}
use Rattle.ipg_solve.specs.Closes.{entry_of, AreDomains}
use Rattle.ipg_facts_laws.specs.Light.{is_light, light_step, AreOrdered}
use Rattle.ipg_solve.specs.Laws.{EndsCombine}

by : {A B C : Type 0} → A ⊎ B → (A → C) → (B → C) → C
by (inl a) f g = f a
by (inr b) f g = g b

both_true : (a b : Bool) → (a && b) ≡ true → (a ≡ true) × (b ≡ true)
both_true true b h = (refl, h)
both_true false b h = absurd (cc)

append_nil : {X : Type 0} (xs : List X) → xs ++ [] ≡ xs
append_nil [] = refl
append_nil (x ∷ xs) = ap (λ ys. x ∷ ys) (append_nil xs)

-- ---- steps that refute a list of facts, whatever is left behind

module _ (vars : ℕ) where
  pub record Refutable (facts : List Fact) : Type 0 where
    pub steps : List Step
    pub closes : (more : List Step) (goals : List (List Fact)) → refutes vars (steps ++ more) (facts ∷ goals) ≡ refutes vars more goals

  combining : (facts : List Fact) (entries : List (ℕ × ℕ)) → combines entries facts ≡ true → Refutable facts
  combining facts entries e = record { steps = Combine entries ∷ []; closes = λ more goals. ap (λ b. b && refutes vars more goals) e }

  is_below : (x : ℕ) → x < vars → nat_lt x vars ≡ true
  is_below x lt = grind (arith, nat_tests)

  splitting : (facts : List Fact) (x : ℕ) (at : ℤ) → x < vars → Refutable (facts ++ at_most x at ∷ [])
      → Refutable (facts ++ at_least x (at +ℤ pos 1) ∷ []) → Refutable facts
  splitting facts x at lt a b = record {
    steps = Split x at ∷ (a.steps ++ b.steps);
    closes = λ more goals.
        ap (λ s. refutes vars (Split x at ∷ s) (facts ∷ goals)) (append_assoc a.steps b.steps more)
        ∙ ap (λ t. t && refutes vars (a.steps ++ (b.steps ++ more)) ((facts ++ at_most x at ∷ []) ∷ (facts ++ at_least x (at +ℤ pos 1) ∷ []) ∷ goals))
        (is_below x lt)
        ∙ a.closes (b.steps ++ more) ((facts ++ at_least x (at +ℤ pos 1) ∷ []) ∷ goals) ∙ b.closes more goals;
  }

  pub record Cases (facts : List Fact) (members : List Formula) : Type 0 where
    pub steps : List Step
    pub closes : (more : List Step) (goals : List (List Fact)) → refutes vars (steps ++ more) (cases_of facts members ++ goals) ≡ refutes vars more goals

  all_cases : (facts : List Fact) (members : List Formula) → AllByRecursion (λ m. Refutable (facts ++ facts_of m)) members → Cases facts members
  all_cases facts [] each = record { steps = []; closes = λ more goals. refl }
  all_cases facts (m ∷ members) each =
      let rest = all_cases facts members each.1 in
      record {
        steps = each.0.steps ++ rest.steps;
        closes = λ more goals.
            ap (λ s. refutes vars s (cases_of facts (m ∷ members) ++ goals)) (append_assoc each.0.steps rest.steps more)
            ∙ each.0.closes (rest.steps ++ more) (cases_of facts members ++ goals) ∙ rest.closes more goals;
      }

  choosing : (facts : List Fact) (at : ℕ) (members : List Formula) → slice_get facts at ≡ Some (Choice members)
      → AllByRecursion (λ m. Refutable (facts ++ facts_of m)) members → Refutable facts
  choosing facts at members is each =
      let all = all_cases facts members each in
      record {
        steps = Either at (length members) ∷ all.steps;
        closes = λ more goals.
            ap (λ o. is_choice (length members) o && refutes vars (all.steps ++ more) (cases_of facts (members_in o) ++ goals)) is
            ∙ ap (λ b. b && refutes vars (all.steps ++ more) (cases_of facts members ++ goals)) (eq-eqb (length members) (length members) refl)
            ∙ all.closes more goals;
      }

-- ---- facts among others

abbrev Has : List Fact → Fact → Type 0
Has facts fact = (at : ℕ) × (slice_get facts at ≡ Some fact)

abbrev Have : (facts these : List Fact) → Type 0
Have facts these = (fact : Fact) → Has these fact → Has facts fact

-- each fact is where it was
abbrev Keeps : (facts these : List Fact) → Type 0
Keeps facts these = (at : ℕ) (fact : Fact) → slice_get these at ≡ Some fact → slice_get facts at ≡ Some fact

in_front : (xs ys : List Fact) (at : ℕ) (fact : Fact) → slice_get xs at ≡ Some fact → slice_get (xs ++ ys) at ≡ Some fact
in_front [] ys at fact e = absurd (cc)
in_front (x ∷ xs) ys zero fact e = e
in_front (x ∷ xs) ys (suc at) fact e = in_front xs ys at fact e

front : (xs ys : List Fact) (fact : Fact) → Has xs fact → Has (xs ++ ys) fact
front xs ys fact h = (h.0, in_front xs ys h.0 fact h.1)

behind : (xs ys : List Fact) (fact : Fact) → Has ys fact → Has (xs ++ ys) fact
behind [] ys fact h = h
behind (x ∷ xs) ys fact h = let rest = behind xs ys fact h in (suc rest.0, rest.1)

-- ---- the facts of a formula

abbrev told : Formula → Told
told = fold-Formula Told told_step

wholes : (fs : List Formula) → AllByRecursion (λ f. (told f).whole ≡ f) fs → map (λ (t : Told). t.whole) (map told fs) ≡ fs
wholes [] each = refl
wholes (f ∷ fs) each = ap (λ g. g ∷ map (λ (t : Told). t.whole) (map told fs)) each.0 ∙ ap (λ gs. f ∷ gs) (wholes fs each.1)

whole_is : (f : Formula) → (told f).whole ≡ f
whole_is = by_members (λ f. (told f).whole ≡ f) (λ form. ap (λ (t : Told). t.whole) (folds-Atom Told told_step form))
    (λ fs each. ap (λ (t : Told). t.whole) (folds-All Told told_step fs) ∙ ap formula.All (wholes fs each))
    (λ fs each. ap (λ (t : Told). t.whole) (folds-Any Told told_step fs) ∙ ap formula.Any (wholes fs each))

all_whole : (fs : List Formula) → AllByRecursion (λ f. (told f).whole ≡ f) fs
all_whole [] = tt
all_whole (f ∷ fs) = (whole_is f, all_whole fs)

facts_told : (fs : List Formula) → flat_map (λ (t : Told). t.facts) (map told fs) ≡ flat_map facts_of fs
facts_told [] = refl
facts_told (f ∷ fs) = ap (λ rest. facts_of f ++ rest) (facts_told fs)

of_atom : (form : Form) → facts_of (formula.Atom form) ≡ AtMost form ∷ []
of_atom form = ap (λ (t : Told). t.facts) (folds-Atom Told told_step form)

of_all : (fs : List Formula) → facts_of (formula.All fs) ≡ flat_map facts_of fs
of_all fs = ap (λ (t : Told). t.facts) (folds-All Told told_step fs) ∙ facts_told fs

of_any : (fs : List Formula) → facts_of (formula.Any fs) ≡ Choice fs ∷ []
of_any fs = ap (λ (t : Told). t.facts) (folds-Any Told told_step fs) ∙ ap (λ gs. Choice gs ∷ []) (wholes fs (all_whole fs))

-- ---- where each variable has one value, some atom is ruled out

abbrev at_pins : List Domain → Assignment
at_pins pins x = (domain_at pins x).low

abbrev AreExact : List Domain → Type 0
AreExact pins = (x : ℕ) → x < length pins → (domain_at pins x).high ≡ (domain_at pins x).low

end_is : (domain : Domain) (c : ℤ) → domain.high ≡ domain.low → end_of domain c ≡ domain.low
end_is domain (pos c) e = refl
end_is domain (negsuc c) e = e

least_is : (pins : List Domain) → AreExact pins → (terms : List (ℕ × ℤ)) → terms_width terms ≤ length pins → least pins terms ≡ sum_at (at_pins pins) terms
least_is pins exact [] within = refl
least_is pins exact (term ∷ terms) within =
    let e = end_is (domain_at pins term.0) term.1 (exact term.0 (omega (arith, within))) in
    ap (λ z. (term.1 *ℤ z) +ℤ least pins terms) e
    ∙ ap (λ z. (term.1 *ℤ at_pins pins term.0) +ℤ z) (least_is pins exact terms (omega (arith, within)))

above : (z : ℤ) → int_le z (pos 0) ≡ false → int_lt (pos 0) z ≡ true
above z e = grind (arith, ints)

or_false : (a b : Bool) → a || b ≡ false → (a ≡ false) × (b ≡ false)
or_false true b e = absurd (cc)
or_false false b e = (refl, e)

module _ (ends : EndsCombine) (vars : ℕ) (pins : List Domain) (exact : AreExact pins) where
  abbrev IsClosed : Formula → Type 0
  IsClosed f = (facts : List Fact) → AreDomains facts pins → is_light f ≡ true → width f ≤ length pins → holds_at (at_pins pins) f ≡ false
      → Have facts (facts_of f) → Refutable vars facts

  close_atom : (form : Form) → IsClosed (formula.Atom form)
  close_atom form facts are light within fails have =
      let limits = both_true (nat_le (length form.terms) 64) (are_coefficients form.terms) (sym (folds-Atom Bool light_step form) ∙ light) in
      let wide : terms_width form.terms ≤ length pins = subst (λ n. n ≤ length pins) (folds-Atom ℕ width_step form) within in
      let few : length form.terms ≤ 64 = is_few (length form.terms) limits.0 in
      let own = have (AtMost form) (0, ap (λ fs. slice_get fs 0) (of_atom form)) in
      let value = ap (λ z. z +ℤ form.constant) (least_is pins exact form.terms wide) in
      let over = ap (int_lt (pos 0)) value ∙ above (value_at (at_pins pins) form) (sym (folds-Atom Bool (holds_step (at_pins pins)) form) ∙ fails) in
      combining vars facts ((1, own.0) ∷ map (entry_of pins) form.terms) (ends facts pins own.0 form are wide few limits.1 own.1 over)
    where
      is_few : (n : ℕ) → nat_le n 64 ≡ true → n ≤ 64
      is_few n e = grind (arith, nat_tests)

  close_one : (fs : List Formula) → AllByRecursion IsClosed fs → (facts : List Fact) → AreDomains facts pins → every (map is_light fs) ≡ true
      → greatest (map width fs) ≤ length pins → every (map (holds_at (at_pins pins)) fs) ≡ false → Have facts (flat_map facts_of fs) → Refutable vars facts
  close_one [] each facts are light within fails have = absurd (cc)
  close_one (f ∷ fs) each facts are light within fails have =
      let limits = both_true (is_light f) (every (map is_light fs)) light in
      by (holds_at (at_pins pins) f) refl
      (λ e. each.0 facts are limits.0 (omega (arith, within)) e (λ fact h. have fact (front (facts_of f) (flat_map facts_of fs) fact h)))
      (λ e. close_one fs each.1 facts are limits.1 (omega (arith, within)) (sym (ap (λ b. b && every (map (holds_at (at_pins pins)) fs)) e) ∙ fails)
      (λ fact h. have fact (behind (facts_of f) (flat_map facts_of fs) fact h)))
    where
      by : (b : Bool) → holds_at (at_pins pins) f ≡ b → (holds_at (at_pins pins) f ≡ false → Refutable vars facts)
          → (holds_at (at_pins pins) f ≡ true → Refutable vars facts) → Refutable vars facts
      by false e one rest = one e
      by true e one rest = rest e

  close_all : (fs : List Formula) → AllByRecursion IsClosed fs → IsClosed (formula.All fs)
  close_all fs each facts are light within fails have =
      close_one fs each facts are (sym (folds-All Bool light_step fs) ∙ light) (subst (λ n. n ≤ length pins) (folds-All ℕ width_step fs) within)
      (sym (folds-All Bool (holds_step (at_pins pins)) fs) ∙ fails) (subst (Have facts) (of_all fs) have)

  still : (facts more : List Fact) → AreDomains facts pins → AreDomains (facts ++ more) pins
  still facts more are x within = (in_front facts more _ _ (are x within).0, in_front facts more _ _ (are x within).1)

  close_each : (fs : List Formula) → AllByRecursion IsClosed fs → (facts : List Fact) → AreDomains facts pins → every (map is_light fs) ≡ true
      → greatest (map width fs) ≤ length pins → some (map (holds_at (at_pins pins)) fs) ≡ false
      → AllByRecursion (λ m. Refutable vars (facts ++ facts_of m)) fs
  close_each [] each facts are light within fails = tt
  close_each (f ∷ fs) each facts are light within fails =
      let limits = both_true (is_light f) (every (map is_light fs)) light in
      let none = or_false (holds_at (at_pins pins) f) (some (map (holds_at (at_pins pins)) fs)) fails in (
        each.0 (facts ++ facts_of f) (still facts (facts_of f) are) limits.0 (omega (arith, within)) none.0 (λ fact h. behind facts (facts_of f) fact h),
        close_each fs each.1 facts are limits.1 (omega (arith, within)) none.1,
      )

  close_any : (fs : List Formula) → AllByRecursion IsClosed fs → IsClosed (formula.Any fs)
  close_any fs each facts are light within fails have =
      let own = have (Choice fs) (0, ap (λ these. slice_get these 0) (of_any fs)) in
      choosing vars facts own.0 fs own.1
      (close_each fs each facts are (sym (folds-Any Bool light_step fs) ∙ light) (subst (λ n. n ≤ length pins) (folds-Any ℕ width_step fs) within)
      (sym (folds-Any Bool (holds_step (at_pins pins)) fs) ∙ fails))

  close : (f : Formula) → IsClosed f
  close = by_members IsClosed close_atom close_all close_any

-- ---- each variable has a value

apart : (low high : ℤ) → low ≤ℤ high → (n : ℕ) × (low +ℤ pos n ≡ high)
apart (pos a) (pos b) le = (b - a, omega (arith, ints, le))
apart (pos a) (negsuc b) le = absurd (omega (arith, ints, le))
apart (negsuc a) (pos b) le = (suc a + b, omega (arith, ints, le))
apart (negsuc a) (negsuc b) le = (a - b, omega (arith, ints, le))

module _ (vars x : ℕ) (below : x < vars) (first : List Fact) (low high : ℤ) where
  -- the variable has a value among those facts, and all that was there is there
  abbrev Leaf : Type 0
  Leaf = (facts : List Fact) → Keeps facts first → (z : ℤ) → low ≤ℤ z → z ≤ℤ high → Has facts (at_least x z) → Has facts (at_most x z) → Refutable vars facts

  peel : Leaf → (n : ℕ) (facts : List Fact) → Keeps facts first → (z : ℤ) → low ≤ℤ z → z +ℤ pos n ≡ high → Has facts (at_least x z)
      → Has facts (at_most x high) → Refutable vars facts
  peel leaf zero facts have z le e l h =
      let same : z ≡ high = omega (arith, ints, e) in
      leaf facts have z le (omega (arith, ints, e)) l (subst (λ y. Has facts (at_most x y)) (sym same) h)
  peel leaf (suc n) facts have z le e l h =
      let left = at_most x z ∷ [] in
      let right = at_least x (z +ℤ pos 1) ∷ [] in
      splitting vars facts x z below
      (leaf (facts ++ left) (λ at fact k. in_front facts left at fact (have at fact k)) z le (omega (arith, ints, e)) (front facts left (at_least x z) l)
      (behind facts left (at_most x z) (0, refl)))
      (peel leaf n (facts ++ right) (λ at fact k. in_front facts right at fact (have at fact k)) (z +ℤ pos 1) (omega (arith, ints, le))
      (omega (arith, ints, e))
      (behind facts right (at_least x (z +ℤ pos 1)) (0, refl)) (front facts right (at_most x high) h))

-- ---- one variable after another, the last one first

module _ (ends : EndsCombine) (f : Formula) (box : Boxed) (ordered : AreOrdered box.bounds) (light : is_light f ≡ true) (within : width f ≤ length box.bounds)
    (unsolved : ¬ Solvable f box) where
  abbrev vars : ℕ
  vars = length box.bounds

  abbrev root : List Fact
  root = root_facts f box

  -- the variables from k on have values within their bounds
  record ArePinned (k : ℕ) (facts : List Fact) (pins : List Domain) : Type 0 where
    pub count : k + length pins ≡ vars
    pub stand : (x : ℕ) → x < length pins → (slice_get facts (domain_at pins x).low_at ≡ Some (at_least (k + x) (domain_at pins x).low))
        × (slice_get facts (domain_at pins x).high_at ≡ Some (at_most (k + x) (domain_at pins x).high))
    pub exact : AreExact pins
    pub inside : (x : ℕ) → x < length pins → (low high : ℤ) → slice_get box.bounds (k + x) ≡ Some (low, high)
        → (low ≤ℤ (domain_at pins x).low) × ((domain_at pins x).low ≤ℤ high)

  bounded : (n x : ℕ) (bounds : List (ℤ × ℤ)) (low high : ℤ) → slice_get bounds x ≡ Some (low, high)
      → Has (bound_facts n bounds) (at_least (n + x) low) × Has (bound_facts n bounds) (at_most (n + x) high)
  bounded n x [] low high e = absurd (cc)
  bounded n zero (b ∷ bounds) low high e =
      let same : b ≡ (low, high) = cc in
      let at : n ≡ n + 0 = omega arith in (
        (0, ap (λ (c : ℤ × ℤ). Some (at_least n c.0)) same ∙ ap (λ m. Some (at_least m low)) at),
        (1, ap (λ (c : ℤ × ℤ). Some (at_most n c.1)) same ∙ ap (λ m. Some (at_most m high)) at),
      )
  bounded n (suc x) (b ∷ bounds) low high e =
      let rest = bounded (n + 1) x bounds low high e in
      let at : (n + 1) + x ≡ n + suc x = omega arith in (
        (suc (suc rest.0.0), rest.0.1 ∙ ap (λ m. Some (at_least m low)) at),
        (suc (suc rest.1.0), rest.1.1 ∙ ap (λ m. Some (at_most m high)) at),
      )

  in_root : (x : ℕ) (low high : ℤ) → slice_get box.bounds x ≡ Some (low, high) → Has root (at_least x low) × Has root (at_most x high)
  in_root x low high e =
      let b = bounded 0 x box.bounds low high e in
      let at : 0 + x ≡ x = omega arith in (
        front (bound_facts 0 box.bounds) (facts_of f) (at_least x low) (subst (λ m. Has (bound_facts 0 box.bounds) (at_least m low)) at b.0),
        front (bound_facts 0 box.bounds) (facts_of f) (at_most x high) (subst (λ m. Has (bound_facts 0 box.bounds) (at_most m high)) at b.1),
      )

  -- all have one: some atom is ruled out
  all_pinned : (facts : List Fact) (pins : List Domain) → Keeps facts root → ArePinned 0 facts pins → Refutable vars facts
  all_pinned facts pins keeps are =
      let size : length pins ≡ vars = (let c = are.count in omega (arith, c)) in
      close ends vars pins are.exact f facts
      (λ x lt. let s = are.stand x lt in let at : 0 + x ≡ x = omega arith in
      (s.0 ∙ ap (λ m. Some (at_least m (domain_at pins x).low)) at, s.1 ∙ ap (λ m. Some (at_most m (domain_at pins x).high)) at))
      light (let w = within in omega (arith, w, size)) (fails (holds_at (at_pins pins) f) refl)
      (λ fact h. let k = behind (bound_facts 0 box.bounds) (facts_of f) fact h in (k.0, keeps k.0 fact k.1))
    where
      lies : LiesIn (at_pins pins) box
      lies x low high e =
          let at : 0 + x ≡ x = omega arith in
          are.inside x (let lt = slice_get_within box.bounds x (low, high) e in let c = are.count in omega (arith, lt, c)) low high
          (ap (slice_get box.bounds) at ∙ e)

      fails : (b : Bool) → holds_at (at_pins pins) f ≡ b → holds_at (at_pins pins) f ≡ false
      fails true e = absurd (unsolved (at_pins pins, lies, e))
      fails false e = e

  -- one more has one
  module _ (k : ℕ) (facts more : List Fact) (pins : List Domain) (keeps : Keeps more facts) (are : ArePinned (suc k) facts pins) (domain : Domain)
      (same : domain.high ≡ domain.low) (l : slice_get more domain.low_at ≡ Some (at_least k domain.low))
      (h : slice_get more domain.high_at ≡ Some (at_most k domain.high))
      (inside : (low high : ℤ) → slice_get box.bounds k ≡ Some (low, high) → (low ≤ℤ domain.low) × (domain.low ≤ℤ high)) where
    stand_more : (x : ℕ) → x < length (domain ∷ pins)
        → (slice_get more (domain_at (domain ∷ pins) x).low_at ≡ Some (at_least (k + x) (domain_at (domain ∷ pins) x).low))
        × (slice_get more (domain_at (domain ∷ pins) x).high_at ≡ Some (at_most (k + x) (domain_at (domain ∷ pins) x).high))
    stand_more zero lt =
        let at : k ≡ k + 0 = omega arith in
        (l ∙ ap (λ m. Some (at_least m domain.low)) at, h ∙ ap (λ m. Some (at_most m domain.high)) at)
    stand_more (suc x) lt =
        let s = are.stand x (omega (arith, lt)) in
        let at : suc k + x ≡ k + suc x = omega arith in
        (keeps _ _ s.0 ∙ ap (λ m. Some (at_least m (domain_at pins x).low)) at, keeps _ _ s.1 ∙ ap (λ m. Some (at_most m (domain_at pins x).high)) at)

    exact_more : AreExact (domain ∷ pins)
    exact_more zero lt = same
    exact_more (suc x) lt = are.exact x (omega (arith, lt))

    inside_more : (x : ℕ) → x < length (domain ∷ pins) → (low high : ℤ) → slice_get box.bounds (k + x) ≡ Some (low, high)
        → (low ≤ℤ (domain_at (domain ∷ pins) x).low) × ((domain_at (domain ∷ pins) x).low ≤ℤ high)
    inside_more zero lt low high e = inside low high (ap (slice_get box.bounds) (let at : k ≡ k + 0 = omega arith in at) ∙ e)
    inside_more (suc x) lt low high e =
        are.inside x (omega (arith, lt)) low high (ap (slice_get box.bounds) (let at : suc k + x ≡ k + suc x = omega arith in at) ∙ e)

    one_pinned : ArePinned k more (domain ∷ pins)
    one_pinned = record {
      count = let c = are.count in omega (arith, c);
      stand = stand_more;
      exact = exact_more;
      inside = inside_more;
    }

  abbrev Pins : ℕ → Type 0
  Pins k = (facts : List Fact) (pins : List Domain) → Keeps facts root → ArePinned k facts pins → Refutable vars facts

  pin_one : (k : ℕ) → Pins k → (facts : List Fact) (pins : List Domain) → Keeps facts root → ArePinned (suc k) facts pins → (low high : ℤ)
      → slice_get box.bounds k ≡ Some (low, high) → Refutable vars facts
  pin_one k next facts pins keeps are low high e =
      let own = in_root k low high e in
      let gap = apart low high (ordered k low high e) in
      peel vars k (slice_get_within box.bounds k (low, high) e) facts low high
      (λ more kept z above below l h.
      next more (record { low = z; low_at = l.0; high = z; high_at = h.0 } ∷ pins) (λ at fact s. kept at fact (keeps at fact s))
      (one_pinned k facts more pins kept are (record { low = z; low_at = l.0; high = z; high_at = h.0 }) refl l.1 h.1
      (λ a b s. let same : (low, high) ≡ (a, b) = some_same (low, high) (a, b) (sym e ∙ s) in
      (subst (λ y. y ≤ℤ z) (ap (λ (c : ℤ × ℤ). c.0) same) above, subst (λ y. z ≤ℤ y) (ap (λ (c : ℤ × ℤ). c.1) same) below))))
      gap.0 facts (λ at fact s. s) low (omega (arith, ints)) gap.1 (own.0.0, keeps own.0.0 _ own.0.1) (own.1.0, keeps own.1.0 _ own.1.1)
    where
      some_same : (a b : ℤ × ℤ) → Some a ≡ Some b → a ≡ b
      some_same a b same = cc

  pin_next : (k : ℕ) → Pins k → Pins (suc k)
  pin_next k next facts pins keeps are = by (slice_get_cases box.bounds k).1 (λ c. pin_one k next facts pins keeps are c.0.0 c.0.1 c.2)
      (λ past. absurd (let few = past.0 in let c = are.count in omega (arith, few, c)))

  pin : (k : ℕ) → Pins k
  pin zero = all_pinned
  pin (suc k) = pin_next k (pin k)

  pub refutation : (r : Refutation) × IsTrue (checks f box r)
  refutation =
      let all = pin vars root [] (λ at fact e. e) (record {
        count = omega arith;
        stand = λ x lt. absurd (omega (arith, lt));
        exact = λ x lt. absurd (omega (arith, lt));
        inside = λ x lt. absurd (omega (arith, lt));
      }) in
      (record { steps = all.steps }, ap (λ steps. refutes vars steps (root ∷ [])) (sym (append_nil all.steps)) ∙ all.closes [] [])
