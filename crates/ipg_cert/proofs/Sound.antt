-- A refutation that checks leaves no assignment: under each, some fact of each list fails.
use Rattle.std.proofs.Common.{◌≡◌, ℕ, zero, suc, ◌+◌, ◌^◌, ◌≤◌, true, false, cond, ◌&&◌, ◌||◌, nat_lt, nat_le, ℤ, pos}
use Rattle.std.proofs.Common.{negsuc, ◌+ℤ◌, ◌*ℤ◌, neg_ℤ, List, [], ◌∷◌, ◌++◌, map, refl, sym, ◌∙◌, ap, subst, arith}
use Rattle.std.specs.Prelude.{Option, None, Some, slice_get, option_and_then, int_le, int_lt}
use Rattle.std.proofs.Math.Nat.{mul-le-mul_left}
use Rattle.std.proofs.lemmas.Int.{ints}
use borrow.Author.Differences.{up, down, product_is}
use Rattle.ipg_lin.specs.Form.{Form, Assignment, sum_at, value_at}
use Rattle.ipg_lin.specs.Formula.{holds_at, some}
use Rattle.ipg_lin.specs.declared.formula.Formula.{Formula}
use Rattle.ipg_cert.specs.Facts.{all_hold, Fact, AtMost, Choice, holds_fact, facts_of, at_least, at_most}
use Rattle.ipg_cert.specs.Checks.{atom_in, members_in, is_choice, plus_times, form_of_entry, zero_form}
use Rattle.ipg_cert.specs.Checks.{sum_from, weighted_sum, is_absurd, combines, cases_of, refutes}
use Rattle.ipg_cert.specs.declared.refutation.Step.{Step}
use Rattle.ipg_cert.specs.declared.refutation.Step.TheVariants.{Combine, Split, Either}
use Rattle.std.proofs.lemmas.Bool.{and_parts}
use Rattle.ipg_cert.proofs.Sums.{zero_sum, value_at-plus_times}
use Rattle.ipg_cert.specs.Told.{all_hold-append, is_told}

pub le_test : (a b : ℤ) → up a + down b ≤ up b + down a → int_le a b ≡ true
le_test a b h = elim (int_le a b) as (λ r. int_le a b ≡ r → r ≡ true) [ true ↦ λ e. refl | false ↦ λ e. absurd (omega (arith, ints)) ] refl

fact_holds : (v : Assignment) (facts : List Fact) (k : ℕ) (fact : Fact) → all_hold v facts ≡ true → slice_get facts k ≡ Some fact → holds_fact v fact ≡ true
fact_holds v [] k fact h at = absurd (cc)
fact_holds v (f ∷ facts) zero fact h at = let e : f ≡ fact = cc in sym (ap (holds_fact v) e) ∙ (and_parts _ _ h).0
fact_holds v (f ∷ facts) (suc k) fact h at = fact_holds v facts k fact (and_parts _ _ h).1 at

-- the form is at most 0
abbrev AtMostZero : Assignment → Form → Type 0
AtMostZero v form = int_le (value_at v form) (pos 0) ≡ true

atom_holds : (v : Assignment) (o : Option Fact) (form : Form) → ((fact : Fact) → o ≡ Some fact → holds_fact v fact ≡ true) → atom_in o ≡ Some form
    → AtMostZero v form
atom_holds v None form h e = absurd (cc)
atom_holds v (Some (Choice members)) form h e = absurd (cc)
atom_holds v (Some (AtMost g)) form h e = let same : g ≡ form = cc in subst (AtMostZero v) same (h (AtMost g) refl)

plus_holds : (v : Assignment) (w : ℕ) (f g : Form) → AtMostZero v f → AtMostZero v g → AtMostZero v (plus_times w f g)
plus_holds v w f g p q =
    let low : up (value_at v f) ≤ down (value_at v f) = omega (arith, ints) in
    let e = value_at-plus_times v w f g in
    le_test (value_at v (plus_times w f g)) (pos 0) (omega (arith, ints, e, product_is (pos w) (value_at v f), mul-le-mul_left w low))

entry_holds : (v : Assignment) (facts : List Fact) (entry : ℕ × ℕ) (form : Form) → all_hold v facts ≡ true → form_of_entry facts entry ≡ Some form
    → AtMostZero v form
entry_holds v facts entry form h =
    elim (nat_lt 0 entry.0 && nat_le entry.0 (2 ^ 40)) as (λ b. cond b (atom_in (slice_get facts entry.1)) None ≡ Some form → AtMostZero v form) [
      | true ↦ λ e. atom_holds v (slice_get facts entry.1) form (λ fact is. fact_holds v facts entry.1 fact h is) e
      | false ↦ λ e. absurd (cc)
    ]

next_holds : (v : Assignment) (o : Option Form) (next : Form → Option Form) (form : Form) → ((f g : Form) → o ≡ Some f → next f ≡ Some g → AtMostZero v g)
    → option_and_then next o ≡ Some form → AtMostZero v form
next_holds v None next form h e = absurd (cc)
next_holds v (Some f) next form h e = h f form refl e

sum_holds : (v : Assignment) (facts : List Fact) → all_hold v facts ≡ true → (sum : Form) (entries : List (ℕ × ℕ)) (form : Form) → AtMostZero v sum
    → sum_from facts sum entries ≡ Some form → AtMostZero v form
sum_holds v facts h sum [] form low e = let same : sum ≡ form = cc in subst (AtMostZero v) same low
sum_holds v facts h sum (entry ∷ entries) form low e =
    next_holds v (form_of_entry facts entry) (λ f. sum_from facts (plus_times entry.0 f sum) entries) form
    (λ f g at rest. sum_holds v facts h (plus_times entry.0 f sum) entries g (plus_holds v entry.0 f sum (entry_holds v facts entry f h at) low) rest) e

absurd_fails : (v : Assignment) (form : Form) → is_absurd (Some form) ≡ true → AtMostZero v form → ⊥
absurd_fails v form h low =
    let none : sum_at v form.terms ≡ pos 0 = zero_sum v form.terms (and_parts _ _ h).0 in
    let above : int_lt (pos 0) form.constant ≡ true = (and_parts _ _ h).1 in
    omega (arith, ints)

none_is_not_absurd : (v : Assignment) (o : Option Form) → is_absurd o ≡ true → ((f : Form) → o ≡ Some f → AtMostZero v f) → ⊥
none_is_not_absurd v None h p = absurd (cc)
none_is_not_absurd v (Some form) h p = absurd_fails v form h (p form refl)

combine_fails : (v : Assignment) (facts : List Fact) (entries : List (ℕ × ℕ)) → combines entries facts ≡ true → all_hold v facts ≡ true → ⊥
combine_fails v facts entries h hold = none_is_not_absurd v (weighted_sum facts entries) (and_parts _ _ (and_parts _ _ h).1).1
    (λ form. sum_holds v facts hold zero_form entries form refl)

below_holds : (v : Assignment) (x : ℕ) (at : ℤ) → int_le (v x) at ≡ true → all_hold v (at_most x at ∷ []) ≡ true
below_holds v x at h = ap (λ b. b && true) (le_test (((pos 1 *ℤ v x) +ℤ pos 0) +ℤ neg_ℤ at) (pos 0) (omega (arith, ints, product_is (pos 1) (v x))))

above_holds : (v : Assignment) (x : ℕ) (at : ℤ) → int_le (v x) at ≡ false → all_hold v (at_least x (at +ℤ pos 1) ∷ []) ≡ true
above_holds v x at h = ap (λ b. b && true) (le_test (((negsuc 0 *ℤ v x) +ℤ pos 0) +ℤ (at +ℤ pos 1)) (pos 0) (omega (arith, ints, product_is (negsuc 0) (v x))))

-- of each list some fact fails
abbrev pub AllFail : Assignment → List (List Fact) → Type 0
AllFail v [] = Unit {0}
AllFail v (facts ∷ goals) = (all_hold v facts ≡ true → ⊥) × AllFail v goals

all_fail_split : (v : Assignment) (xs ys : List (List Fact)) → AllFail v (xs ++ ys) → AllFail v xs × AllFail v ys
all_fail_split v [] ys h = (tt, h)
all_fail_split v (x ∷ xs) ys h = let rest = all_fail_split v xs ys h.1 in ((h.0, rest.0), rest.1)

split_fails : (v : Assignment) (x : ℕ) (at : ℤ) (facts : List Fact) → (all_hold v (facts ++ at_most x at ∷ []) ≡ true → ⊥)
    → (all_hold v (facts ++ at_least x (at +ℤ pos 1) ∷ []) ≡ true → ⊥) → all_hold v facts ≡ true → ⊥
split_fails v x at facts below above hold =
    elim (int_le (v x) at) as (λ b. int_le (v x) at ≡ b → ⊥) [
      | true ↦ λ e. below (all_hold-append v facts _ hold (below_holds v x at e))
      | false ↦ λ e. above (all_hold-append v facts _ hold (above_holds v x at e))
    ] refl

cases_fail : (v : Assignment) (facts : List Fact) (members : List Formula) → AllFail v (cases_of facts members) → all_hold v facts ≡ true
    → some (map (holds_at v) members) ≡ true → ⊥
cases_fail v facts [] each hold h = absurd (cc)
cases_fail v facts (m ∷ members) each hold h =
    elim (holds_at v m) as (λ b. holds_at v m ≡ b → (b || some (map (holds_at v) members)) ≡ true → ⊥) [
      | true ↦ λ e _. each.0 (all_hold-append v facts (facts_of m) hold ((is_told m).1 v e))
      | false ↦ λ e rest. cases_fail v facts members each.1 hold rest
    ] refl h

choice_holds : (v : Assignment) (parts : ℕ) (o : Option Fact) → ((fact : Fact) → o ≡ Some fact → holds_fact v fact ≡ true) → is_choice parts o ≡ true
    → some (map (holds_at v) (members_in o)) ≡ true
choice_holds v parts None h is = absurd (cc)
choice_holds v parts (Some (AtMost form)) h is = absurd (cc)
choice_holds v parts (Some (Choice members)) h is = h (Choice members) refl

pub refutes_sound : (vars : ℕ) (steps : List Step) (goals : List (List Fact)) (v : Assignment) → refutes vars steps goals ≡ true → AllFail v goals
refutes_sound vars [] [] v h = tt
refutes_sound vars [] (facts ∷ goals) v h = absurd (cc)
refutes_sound vars (step ∷ steps) [] v h = tt
refutes_sound vars (Combine entries ∷ steps) (facts ∷ goals) v h =
    (combine_fails v facts entries (and_parts _ _ h).0, refutes_sound vars steps goals v (and_parts _ _ h).1)
refutes_sound vars (Split x at ∷ steps) (facts ∷ goals) v h =
    let each = refutes_sound vars steps ((facts ++ at_most x at ∷ []) ∷ (facts ++ at_least x (at +ℤ pos 1) ∷ []) ∷ goals) v (and_parts _ _ h).1 in
    (split_fails v x at facts each.0 each.1.0, each.1.1)
refutes_sound vars (Either fact parts ∷ steps) (facts ∷ goals) v h =
    let members = members_in (slice_get facts fact) in
    let each = all_fail_split v (cases_of facts members) goals (refutes_sound vars steps (cases_of facts members ++ goals) v (and_parts _ _ h).1) in (
      λ hold. cases_fail v facts members each.0 hold
          (choice_holds v parts (slice_get facts fact) (λ f is. fact_holds v facts fact f hold is) (and_parts _ _ h).0),
      each.1,
    )
