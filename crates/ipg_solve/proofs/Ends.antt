-- An atom that the domains rule out, and the ends at which it is least, sum up to a constant above 0.
use Rattle.std.proofs.Common.{◌≡◌, ℕ, suc, ◌*◌, ◌^◌, ◌<◌, ◌≤◌, true, false, cond, ◌&&◌, nat_eq, nat_le, ℤ, pos, negsuc, ◌+ℤ◌, ◌*ℤ◌, neg_ℤ, List, []}
use Rattle.std.proofs.Common.{◌∷◌, map, length, refl, ◌∙◌, ap, arith}
use Rattle.std.specs.Prelude.{None, Some, slice_get, option_and_then, int_lt}
use Rattle.std.specs.Int.RustNames.{unsigned_abs}
use Rattle.std.proofs.lemmas.Int.{ints}
use Rattle.std.proofs.lemmas.Bool.{and_parts}
use Rattle.std.proofs.lemmas.List.{length-map}
use borrow.Author.Tests.{le-leb, leb-true}
use borrow.Author.Differences.{same_in, product_is, neg_is}
use Rattle.ipg_lin.specs.Form.{Form, are_coefficients, is_coefficient, in_rule, rises, terms_width}
use Rattle.ipg_cert.specs.Facts.{Fact, AtMost}
use Rattle.ipg_cert.specs.Checks.{atom_in, coefficient, plus_times, zero_form, form_of_entry, sum_from, weighted_sum, is_absurd, combines}
use Rattle.ipg_cert.specs.Laws.{SumTakes, CancelledIsAbsurd}
use Rattle.ipg_solve.specs.declared.domain.Domain.{Domain}
use Rattle.ipg_solve.specs.Domains.{domain_at, end_of, least, least_of}
use Rattle.ipg_solve.specs.Closes.{entry_of, AreDomains}
use Rattle.ipg_solve.specs.Laws.{EndsCombine}

-- the form of the fact at which the term is least
abbrev end_form : List Domain → ℕ × ℤ → Form
end_form domains (x, pos c) = record { terms = (x, negsuc 0) ∷ []; constant = (domain_at domains x).low }
end_form domains (x, negsuc c) = record { terms = (x, pos 1) ∷ []; constant = neg_ℤ (domain_at domains x).high }

entry_is : (facts : List Fact) (domains : List Domain) (t : ℕ × ℤ) → AreDomains facts domains → t.0 < length domains → is_coefficient t.1 ≡ true
    → form_of_entry facts (entry_of domains t) ≡ Some (end_form domains t)
entry_is facts domains (x, pos c) are within h =
    ap (λ b. cond b (atom_in (slice_get facts (domain_at domains x).low_at)) None) h ∙ ap atom_in (are x within).0
entry_is facts domains (x, negsuc c) are within h =
    ap (λ b. cond b (atom_in (slice_get facts (domain_at domains x).high_at)) None) h ∙ ap atom_in (are x within).1

abbrev ends_sum : List Domain → Form → List (ℕ × ℤ) → Form
ends_sum domains sum [] = sum
ends_sum domains sum (t ∷ ts) = ends_sum domains (plus_times (unsigned_abs t.1) (end_form domains t) sum) ts

sum_is : (facts : List Fact) (domains : List Domain) (sum : Form) (ts : List (ℕ × ℤ)) → AreDomains facts domains → terms_width ts ≤ length domains
    → are_coefficients ts ≡ true → sum_from facts sum (map (entry_of domains) ts) ≡ Some (ends_sum domains sum ts)
sum_is facts domains sum [] are within h = refl
sum_is facts domains sum (t ∷ ts) are within h =
    ap (option_and_then (λ form. sum_from facts (plus_times (unsigned_abs t.1) form sum) (map (entry_of domains) ts)))
    (entry_is facts domains t are (omega arith) (and_parts _ _ h).0)
    ∙ sum_is facts domains (plus_times (unsigned_abs t.1) (end_form domains t) sum) ts are (omega arith) (and_parts _ _ h).1

-- the end takes the term's variable away
end_cancels : (y : ℕ) (domains : List Domain) (t : ℕ × ℤ) (sum : Form)
    → coefficient y (plus_times (unsigned_abs t.1) (end_form domains t) sum).terms +ℤ (cond (nat_eq t.0 y) t.1 (pos 0)) ≡ coefficient y sum.terms
end_cancels y domains (x, pos c) sum =
    elim (nat_eq x y) as (λ b. (cond b (pos c *ℤ negsuc 0) (pos 0) +ℤ coefficient y sum.terms) +ℤ cond b (pos c) (pos 0) ≡ coefficient y sum.terms) [
      | true ↦ same_in _ _ (omega (arith, ints, product_is (pos c) (negsuc 0)))
      | false ↦ same_in _ _ (omega (arith, ints))
    ]
end_cancels y domains (x, negsuc c) sum =
    elim (nat_eq x y) as (λ b. (cond b (pos (suc c) *ℤ pos 1) (pos 0) +ℤ coefficient y sum.terms) +ℤ cond b (negsuc c) (pos 0) ≡ coefficient y sum.terms) [
      | true ↦ same_in _ _ (omega (arith, ints, product_is (pos (suc c)) (pos 1)))
      | false ↦ same_in _ _ (omega (arith, ints))
    ]

ends_cancel : (y : ℕ) (domains : List Domain) (sum : Form) (ts : List (ℕ × ℤ))
    → coefficient y (ends_sum domains sum ts).terms +ℤ coefficient y ts ≡ coefficient y sum.terms
ends_cancel y domains sum [] = same_in _ _ (omega (arith, ints))
ends_cancel y domains sum (t ∷ ts) =
    let next = plus_times (unsigned_abs t.1) (end_form domains t) sum in
    same_in _ _ (omega (arith, ints, ends_cancel y domains next ts, end_cancels y domains t sum))

negated_product : (c : ℕ) (h : ℤ) → pos (suc c) *ℤ neg_ℤ h ≡ negsuc c *ℤ h
negated_product c h =
    same_in _ _ (omega (
      arith,
      ints,
      product_is (pos (suc c)) (neg_ℤ h),
      product_is (negsuc c) h,
      ap (λ n. suc c * n) (neg_is h).0,
      ap (λ n. suc c * n) (neg_is h).1,
    ))

end_constant : (domains : List Domain) (t : ℕ × ℤ) → pos (unsigned_abs t.1) *ℤ (end_form domains t).constant ≡ t.1 *ℤ end_of (domain_at domains t.0) t.1
end_constant domains (x, pos c) = refl
end_constant domains (x, negsuc c) = negated_product c (domain_at domains x).high

ends_constant : (domains : List Domain) (sum : Form) (ts : List (ℕ × ℤ)) → (ends_sum domains sum ts).constant ≡ sum.constant +ℤ least domains ts
ends_constant domains sum [] = same_in _ _ (omega (arith, ints))
ends_constant domains sum (t ∷ ts) =
    let next = plus_times (unsigned_abs t.1) (end_form domains t) sum in
    same_in _ _ (omega (arith, ints, ends_constant domains next ts, end_constant domains t))

-- the atom's own fact with the weight 1, and then the ends
abbrev atom_sum : List Domain → Form → Form
atom_sum domains form = ends_sum domains (plus_times 1 form zero_form) form.terms

atom_sum_is : (facts : List Fact) (domains : List Domain) (number : ℕ) (form : Form) → AreDomains facts domains → terms_width form.terms ≤ length domains
    → are_coefficients form.terms ≡ true → slice_get facts number ≡ Some (AtMost form)
    → weighted_sum facts ((1, number) ∷ map (entry_of domains) form.terms) ≡ Some (atom_sum domains form)
atom_sum_is facts domains number form are within h at =
    ap (option_and_then (λ f. sum_from facts (plus_times 1 f zero_form) (map (entry_of domains) form.terms))) (ap atom_in at)
    ∙ sum_is facts domains (plus_times 1 form zero_form) form.terms are within h

none_left : SumTakes → (domains : List Domain) (form : Form) (y : ℕ) → coefficient y (atom_sum domains form).terms ≡ pos 0
none_left takes domains form y =
    same_in _ _ (omega (
      arith,
      ints,
      ends_cancel y domains (plus_times 1 form zero_form) form.terms,
      takes y 1 form zero_form,
      product_is (pos 1) (coefficient y form.terms),
    ))

is_above : (domains : List Domain) (form : Form) → (atom_sum domains form).constant ≡ least_of domains form
is_above domains form = same_in _ _ (omega (arith, ints, ends_constant domains (plus_times 1 form zero_form) form.terms, product_is (pos 1) form.constant))

pub ends_combine : SumTakes → CancelledIsAbsurd → EndsCombine
ends_combine takes cancelled facts domains number form are within few light at above =
    let entries : List (ℕ × ℕ) = (1, number) ∷ map (entry_of domains) form.terms in
    let sum = atom_sum domains form in
    ap (λ b. b && (nat_le (length entries) (2 ^ 21) && is_absurd (weighted_sum facts entries))) (le-leb 1 (length entries) (omega arith))
    ∙ ap (λ b. b && is_absurd (weighted_sum facts entries))
    (le-leb (length entries) (2 ^ 21) (omega (arith, length-map form.terms (entry_of domains), few)))
    ∙ ap is_absurd (atom_sum_is facts domains number form are within light at)
    ∙ cancelled sum (none_left takes domains form) (ap (int_lt (pos 0)) (is_above domains form) ∙ above)

-- the same of a form's terms by their rule
pub atom_combines : EndsCombine → (facts : List Fact) (domains : List Domain) (number : ℕ) (form : Form)
    → AreDomains facts domains → terms_width form.terms ≤ length domains → in_rule form.terms ≡ true → slice_get facts number ≡ Some (AtMost form)
    → int_lt (pos 0) (least_of domains form) ≡ true → combines ((1, number) ∷ map (entry_of domains) form.terms) facts ≡ true
atom_combines law facts domains number form are within rule =
    let few = and_parts (nat_le (length form.terms) 64) (rises 0 form.terms && are_coefficients form.terms) rule in
    law facts domains number form are within (leb-true (length form.terms) 64 few.0) (and_parts (rises 0 form.terms) (are_coefficients form.terms) few.1).1
