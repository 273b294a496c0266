-- Forms that were added, from what the parts of the code ensure.
use Rattle.std.proofs.Common.{◌≡◌, ℕ, ◌+◌, ◌*◌, ◌^◌, ◌<◌, ◌≤◌, true, false, cond, ◌&&◌, nat_eq, nat_le, ℤ, pos, ◌+ℤ◌, ◌*ℤ◌}
use Rattle.std.proofs.Common.{List, [], ◌∷◌, ◌++◌, map, length, get_or, drop, subst, refl, sym, ◌∙◌, ap, arith}
use Rattle.std.specs.Prelude.{Option, None, Some, option_and_then}
use Rattle.std.specs.Int.RustNames.{unsigned_abs}
use Rattle.std.proofs.lemmas.List.{drop_more}
use Rattle.std.proofs.lemmas.Int.{ints}
use borrow.Author.Tests.{leb-true}
use borrow.Author.Differences.{same_in, product_is}
use Rattle.ipg_lin.specs.Form.{Form, are_coefficients, rises, in_rule}
use Rattle.ipg_cert.specs.Facts.{Fact}
use Rattle.ipg_cert.specs.Checks.{coefficient, plus_times, zero_form, form_of_entry, sum_from}
use Rattle.ipg_cert.specs.Laws.{SumTakes}
use Rattle.ipg_cert.specs.Totals.{AddsTerms}
use Rattle.ipg_cert.specs.Seen.{Added, Weighs, AreZero, StandFor, Progress}
use Rattle.std.proofs.lemmas.Bool.{and_parts}
use Rattle.ipg_cert.proofs.Sums.{plus_times_right}
use Rattle.ipg_cert.proofs.TotalsLemmas.{grown, abs_add}

pub added : (w : ℕ) (old new : List ℤ) (constant product : ℤ) (form : Form) → w ≤ 2 ^ 40 → length form.terms ≤ 64 → are_coefficients form.terms ≡ true
    → AddsTerms old new w form.terms
    → constant ≡ product → product ≡ pos w *ℤ form.constant → unsigned_abs product ≤ 2 ^ 103 → Added w old new constant form
added w old new constant product form light few small terms same is size =
    record {
      terms = terms;
      constant_is = same ∙ is;
      size = omega (arith, ap unsigned_abs same);
      grows = λ most. grown old new w form.terms most light few small terms;
    }

pub rule_few : (terms : List (ℕ × ℤ)) → in_rule terms ≡ true → length terms ≤ 64
rule_few terms h = leb-true (length terms) 64 (and_parts (nat_le (length terms) 64) (rises 0 terms && are_coefficients terms) h).0

pub rule_small : (terms : List (ℕ × ℤ)) → in_rule terms ≡ true → are_coefficients terms ≡ true
rule_small terms h = (and_parts (rises 0 terms) (are_coefficients terms) (and_parts (nat_le (length terms) 64) (rises 0 terms && are_coefficients terms) h).1).1

coefficient-append : (x : ℕ) (xs ys : List (ℕ × ℤ)) → coefficient x (xs ++ ys) ≡ coefficient x xs +ℤ coefficient x ys
coefficient-append x [] ys = same_in _ _ (omega (arith, ints))
coefficient-append x (t ∷ xs) ys = ap (λ z. cond (nat_eq t.0 x) t.1 (pos 0) +ℤ z) (coefficient-append x xs ys) ∙ same_in _ _ (omega (arith, ints))

coefficient-scaled : (x w : ℕ) (xs : List (ℕ × ℤ)) → coefficient x (map (λ (t : ℕ × ℤ). (t.0, pos w *ℤ t.1)) xs) ≡ pos w *ℤ coefficient x xs
coefficient-scaled x w [] = same_in _ _ (omega (arith, product_is (pos w) (pos 0)))
coefficient-scaled x w (t ∷ xs) =
    ap (λ z. cond (nat_eq t.0 x) (pos w *ℤ t.1) (pos 0) +ℤ z) (coefficient-scaled x w xs)
    ∙ elim (nat_eq t.0 x) as (λ b. cond b (pos w *ℤ t.1) (pos 0) +ℤ (pos w *ℤ coefficient x xs) ≡ pos w *ℤ (cond b t.1 (pos 0) +ℤ coefficient x xs)) [
      | true ↦ sym (plus_times_right (pos w) t.1 (coefficient x xs))
      | false ↦ same_in _ _ (omega (arith, ints, plus_times_right (pos w) (pos 0) (coefficient x xs), product_is (pos w) (pos 0)))
    ]

pub sum_takes : SumTakes
sum_takes x w form rest =
    coefficient-append x (map (λ (t : ℕ × ℤ). (t.0, pos w *ℤ t.1)) form.terms) rest.terms
    ∙ ap (λ z. z +ℤ coefficient x rest.terms) (coefficient-scaled x w form.terms)

-- a form more in the sum
stands_more : (w : ℕ) (old new : List ℤ) (form sum : Form) → AddsTerms old new w form.terms → StandFor old sum → StandFor new (plus_times w form sum)
stands_more w old new form sum adds stands x =
    adds x ∙ ap (λ z. (pos w *ℤ coefficient x form.terms) +ℤ z) (stands x)
    ∙ sym (sum_takes x w form sum)

pub started : (facts : List Fact) (entries : List (ℕ × ℕ)) (totals : List ℤ) → AreZero totals → Progress facts entries entries 0 totals (pos 0)
started facts entries totals zero =
    record { sum = zero_form; leads = refl; stands = zero; constant_is = refl; within = λ x. omega (arith, ap unsigned_abs (zero x)); size = omega arith }

one_more : (facts : List Fact) (entry : ℕ × ℕ) (left entries : List (ℕ × ℕ)) (count : ℕ) (old new : List ℤ) (constant more next : ℤ) (o : Option Form)
    → form_of_entry facts entry ≡ o → Progress facts (entry ∷ left) entries count old constant
    → Weighs entry.0 old new (Some more) o → next ≡ more +ℤ constant → Progress facts left entries (count + 1) new next
one_more facts entry left entries count old new constant more next None is p weighs e = absurd weighs
one_more facts entry left entries count old new constant more next (Some form) is p weighs e = record {
  sum = plus_times entry.0 form p.sum;
  leads = sym (ap (option_and_then (λ f. sum_from facts (plus_times entry.0 f p.sum) left)) is) ∙ p.leads;
  stands = stands_more entry.0 old new form p.sum weighs.terms p.stands;
  constant_is = e ∙ ap (λ z. z +ℤ constant) weighs.constant_is ∙ ap (λ z. (pos entry.0 *ℤ form.constant) +ℤ z) p.constant_is;
  within = λ x. omega (arith, weighs.grows (count * 2 ^ 86) p.within x);
  size = omega (arith, ap unsigned_abs e, abs_add more constant, weighs.size, p.size);
}

pub weighs_size : (w : ℕ) (old new : List ℤ) (more : ℤ) (o : Option Form) → Weighs w old new (Some more) o → unsigned_abs more ≤ 2 ^ 103
weighs_size w old new more None weighs = absurd weighs
weighs_size w old new more (Some form) weighs = weighs.size

-- the next entry was weighed
pub weighed : (facts : List Fact) (entries : List (ℕ × ℕ)) (i : ℕ) (old new : List ℤ) (constant more next : ℤ) (d : ℕ × ℕ) → i < length entries
    → Progress facts (drop i entries) entries i old constant
    → Weighs (get_or entries i d).0 old new (Some more) (form_of_entry facts (get_or entries i d)) → next ≡ more +ℤ constant
    → Progress facts (drop (i + 1) entries) entries (i + 1) new next
weighed facts entries i old new constant more next d within p weighs e =
    one_more facts (get_or entries i d) (drop (i + 1) entries) entries i old new constant more next (form_of_entry facts (get_or entries i d)) refl
    (subst (λ es. Progress facts es entries i old constant) (drop_more entries i d within) p) weighs e
