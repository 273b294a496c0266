-- The forms of a gap are within the limits of linear forms, and its bounds are in order.
use Rattle.std.proofs.Common.{◌≡◌, ℕ, zero, suc, Bool, true, false, ◌&&◌, List, [], ◌∷◌, map, length, refl, sym, ap, subst, ◌∙◌, ℤ, pos, negsuc}
use Rattle.std.proofs.Common.{Some, if◌then◌else◌, arith}
use Rattle.std.specs.Prelude.{nat_le, nat_lt, not, ◌≤ℤ◌, ◌||◌}
use Rattle.std.specs.Int.RustNames.{unsigned_abs}
use Rattle.std.proofs.lemmas.Bool.Decides.{nat_tests}
use Rattle.std.proofs.lemmas.Int.{ints}
use Rattle.std.proofs.lemmas.List.{length-map}
use Rattle.std.specs.List.{AllByRecursion, filter, list_all}
use Rattle.ipg_core.specs.Grammar.{rule_at}
use Rattle.ipg_facts_forms.specs.declared.fact.Part.{Part}
use Rattle.ipg_facts_forms.specs.declared.fact.Form.{Form}
use Rattle.ipg_facts_forms.specs.declared.fact.Fact.{Fact, roll-Fact, map-Fact, fold-Fact, fold-roll-Fact, ind-Fact}
use Rattle.ipg_facts_forms.specs.declared.fact.Fact.TheVariants as facts
use Rattle.ipg_facts_forms.specs.declared.fact.Fact.TheOpen.{Fact-F}
use Rattle.ipg_facts_forms.specs.declared.fact.Draft.{Draft}
use Rattle.ipg_facts_variables.specs.declared.variable.Variable.{Variable}
use Rattle.ipg_facts_variables.specs.Variable.{whole, caller_side, holder_side, same_variable}
use Rattle.ipg_facts_forms.specs.Form.{is_zero, counts}
use Rattle.ipg_facts_forms.specs.Form.{is_number, is_light as in_size, in_limits}
use Rattle.ipg_facts_forms.specs.Form.{mentioned}
use Rattle.ipg_facts.specs.Members.{members}
use Rattle.ipg_facts.specs.Keep.{alt_at}
use Rattle.ipg_facts_forms.specs.Numbers.{variables_of, place, insert, numbered, formula_of, formula_step, bounds_of}
use Rattle.ipg_lin.specs.Form.{is_coefficient, are_coefficients}
use Rattle.ipg_lin.specs.Formula.{every}
use Rattle.ipg_lin.specs.Members.{folds-Atom, folds-All, folds-Any}
use Rattle.ipg_lin.specs.declared.formula.Formula.{Formula}
use Rattle.ipg_facts.specs.Gap.{rule_gap, gap}
use Rattle.ipg_facts_laws.proofs.Stated.{drafted, IsSure, of_rule_gap}
use Rattle.ipg_facts_laws.specs.Light.{is_light, light_step, AreOrdered, GapsAreLight, GapsAreOrdered}

abbrev are_factors : List (Variable × ℤ) → Bool
are_factors terms = list_all (λ t. is_coefficient t.1) terms

abbrev light_fact_step : Fact-F Bool → Bool
light_fact_step (Fact-F.Atom draft) = nat_le (length draft.terms) 64 && are_factors draft.terms
light_fact_step (Fact-F.All members) = every members
light_fact_step (Fact-F.Any members) = every members

-- each atom has 64 terms at most, with factors of 2^40 in size at most, and none is 0
abbrev light_fact : Fact → Bool
light_fact = fold-Fact Bool light_fact_step

abbrev AreLight : List Fact → Type 0
AreLight fs = AllByRecursion (λ f. light_fact f ≡ true) fs

both_true : (a b : Bool) → (a && b) ≡ true → (a ≡ true) × (b ≡ true)
both_true true b h = (refl, h)
both_true false b h = absurd (cc)

both : (a b : Bool) → a ≡ true → b ≡ true → a && b ≡ true
both true b e f = f
both false b e f = cc

every_light : (fs : List Fact) → AreLight fs → every (map light_fact fs) ≡ true
every_light [] h = refl
every_light (f ∷ fs) h = both _ _ h.0 (every_light fs h.1)

light_atom : (draft : Draft) → nat_le (length draft.terms) 64 && are_factors draft.terms ≡ true → light_fact (facts.Atom draft) ≡ true
light_atom draft light = ap light_fact (sym (facts.rolls-Atom draft)) ∙ fold-roll-Fact Bool light_fact_step (Fact-F.Atom draft) ∙ light

light_all : (fs : List Fact) → AreLight fs → light_fact (facts.All fs) ≡ true
light_all fs h = ap light_fact (sym (facts.rolls-All fs)) ∙ fold-roll-Fact Bool light_fact_step (Fact-F.All fs) ∙ every_light fs h

light_any : (fs : List Fact) → AreLight fs → light_fact (facts.Any fs) ≡ true
light_any fs h = ap light_fact (sym (facts.rolls-Any fs)) ∙ fold-roll-Fact Bool light_fact_step (Fact-F.Any fs) ∙ every_light fs h

above_zero : (z : ℤ) → not (is_zero z) ≡ true → nat_lt 0 (unsigned_abs z) ≡ true
above_zero (pos n) e = some_more n e
  where
    some_more : (n : ℕ) → not (nat_le n 0) ≡ true → nat_lt 0 n ≡ true
    some_more zero e = absurd (cc)
    some_more (suc n) e = grind (arith, nat_tests)
above_zero (negsuc n) e = grind (arith, nat_tests)

factors_of : (ps : List Part) → list_all in_size (filter counts ps) ≡ true → are_factors (map (λ p. (p.variable, p.factor)) (filter counts ps)) ≡ true
factors_of [] h = refl
factors_of (p ∷ ps) h = by (counts p) refl (factors_of ps)
  where
    by : (b : Bool) → counts p ≡ b → (list_all in_size (filter counts ps) ≡ true → are_factors (map (λ p. (p.variable, p.factor)) (filter counts ps)) ≡ true)
        → are_factors (map (λ p. (p.variable, p.factor)) (filter counts (p ∷ ps))) ≡ true
    by true e rest =
        let all : list_all in_size (p ∷ filter counts ps) ≡ true =
        sym (ap (λ b. list_all in_size (if b then p ∷ filter counts ps else filter counts ps)) e) ∙ h in
        let parts = both_true (in_size p) (list_all in_size (filter counts ps)) all in
        ap (λ b. are_factors (map (λ p. (p.variable, p.factor)) (if b then p ∷ filter counts ps else filter counts ps))) e
        ∙ both _ _ (both _ _ (above_zero p.factor e) parts.0) (rest parts.1)
    by false e rest =
        let all : list_all in_size (filter counts ps) ≡ true = sym (ap (λ b. list_all in_size (if b then p ∷ filter counts ps else filter counts ps)) e) ∙ h in
        ap (λ b. are_factors (map (λ p. (p.variable, p.factor)) (if b then p ∷ filter counts ps else filter counts ps))) e ∙ rest all

-- the factor of a variable
abbrev entry : Part → Variable × ℤ
entry p = (p.variable, p.factor)

limited_draft : (a : Form) → in_limits a ≡ true
    → nat_le (length (map entry (filter counts a.parts))) 64 && are_factors (map entry (filter counts a.parts)) ≡ true
unfolding in_limits mentioned
limited_draft a h =
    let few = both_true (nat_le (length (filter counts a.parts)) 64) (list_all in_size (filter counts a.parts) && is_number a.constant) h in
    let small = both_true (list_all in_size (filter counts a.parts)) (is_number a.constant) few.1 in
    both _ _ (ap (λ n. nat_le n 64) (length-map (filter counts a.parts) entry) ∙ few.0) (factors_of a.parts small.0)

light_form : (a : Form) → in_limits a ≡ true → light_fact (facts.Atom (drafted a)) ≡ true
unfolding mentioned
light_form a h = light_atom (drafted a) (limited_draft a h)

is_sure : IsSure (λ f. light_fact f ≡ true)
is_sure = record { atom = light_form; all = light_all; any = λ f fs. light_any (f ∷ fs) }

-- ---- numbers in place of variables

module _ (variables : List Variable) where
  inserted : (term : ℕ × ℤ) (terms : List (ℕ × ℤ)) → is_coefficient term.1 ≡ true → are_coefficients terms ≡ true → are_coefficients (insert term terms) ≡ true
  unfolding insert
  inserted term [] one all = both _ _ one all
  inserted term (next ∷ terms) one all =
      let parts = both_true (is_coefficient next.1) (are_coefficients terms) all in
      by (nat_lt next.0 term.0) (both _ _ parts.0 (inserted term terms one parts.1)) (both _ _ one all)
    where
      by : (b : Bool) → are_coefficients (next ∷ insert term terms) ≡ true → are_coefficients (term ∷ (next ∷ terms)) ≡ true
          → are_coefficients (if b then next ∷ insert term terms else term ∷ (next ∷ terms)) ≡ true
      by true h k = h
      by false h k = k

  factors_stay : (terms : List (Variable × ℤ)) → are_factors terms ≡ true → are_coefficients (numbered variables terms) ≡ true
  unfolding numbered
  factors_stay [] h = refl
  factors_stay (t ∷ terms) h =
      let parts = both_true (is_coefficient t.1) (are_factors terms) h in
      inserted (place variables t.0, t.1) (numbered variables terms) parts.0 (factors_stay terms parts.1)

  one_longer : (term : ℕ × ℤ) (terms : List (ℕ × ℤ)) → length (insert term terms) ≡ suc (length terms)
  unfolding insert
  one_longer term [] = refl
  one_longer term (next ∷ terms) = by (nat_lt next.0 term.0) (ap suc (one_longer term terms))
    where
      by : (b : Bool) → length (next ∷ insert term terms) ≡ suc (suc (length terms))
          → length (if b then next ∷ insert term terms else term ∷ (next ∷ terms)) ≡ suc (suc (length terms))
      by true h = h
      by false h = refl

  as_many : (terms : List (Variable × ℤ)) → length (numbered variables terms) ≡ length terms
  unfolding numbered
  as_many [] = refl
  as_many (t ∷ terms) = one_longer (place variables t.0, t.1) (numbered variables terms) ∙ ap suc (as_many terms)

  abbrev Keeps : Fact → Type 0
  Keeps f = light_fact f ≡ true → is_light (formula_of variables f) ≡ true

  abbrev facts_in : List ((f : Fact) × Keeps f) → List Fact
  facts_in ms = map (λ (m : (f : Fact) × Keeps f). m.0) ms

  members_keep : (ms : List ((f : Fact) × Keeps f)) → every (map light_fact (facts_in ms)) ≡ true
      → every (map is_light (map (formula_of variables) (facts_in ms))) ≡ true
  members_keep [] h = refl
  members_keep (m ∷ ms) h =
      let parts = both_true (light_fact m.0) (every (map light_fact (facts_in ms))) h in
      both _ _ (m.1 parts.0) (members_keep ms parts.1)

  on_atom : (draft : Draft) → Keeps (roll-Fact (Fact-F.Atom draft))
  unfolding formula_of
  on_atom draft h =
      let light = sym (fold-roll-Fact Bool light_fact_step (Fact-F.Atom draft)) ∙ h in
      let parts = both_true (nat_le (length draft.terms) 64) (are_factors draft.terms) light in
      ap is_light (fold-roll-Fact Formula (formula_step variables) (Fact-F.Atom draft)) ∙ folds-Atom Bool light_step _
      ∙ both _ _ (ap (λ n. nat_le n 64) (as_many draft.terms) ∙ parts.0) (factors_stay draft.terms parts.1)

  on_all : (ms : List ((f : Fact) × Keeps f)) → Keeps (roll-Fact (Fact-F.All (facts_in ms)))
  unfolding formula_of
  on_all ms h =
      ap is_light (fold-roll-Fact Formula (formula_step variables) (Fact-F.All (facts_in ms))) ∙ folds-All Bool light_step _
      ∙ members_keep ms (sym (fold-roll-Fact Bool light_fact_step (Fact-F.All (facts_in ms))) ∙ h)

  on_any : (ms : List ((f : Fact) × Keeps f)) → Keeps (roll-Fact (Fact-F.Any (facts_in ms)))
  unfolding formula_of
  on_any ms h =
      ap is_light (fold-roll-Fact Formula (formula_step variables) (Fact-F.Any (facts_in ms))) ∙ folds-Any Bool light_step _
      ∙ members_keep ms (sym (fold-roll-Fact Bool light_fact_step (Fact-F.Any (facts_in ms))) ∙ h)

  on_layer : (y : Fact-F ((f : Fact) × Keeps f)) (x : Fact-F Fact) → map-Fact ((f : Fact) × Keeps f) Fact (λ m. m.0) y ≡ x → Keeps (roll-Fact x)
  on_layer (Fact-F.Atom draft) x is = subst (λ z. Keeps (roll-Fact z)) is (on_atom draft)
  on_layer (Fact-F.All ms) x is = subst (λ z. Keeps (roll-Fact z)) is (on_all ms)
  on_layer (Fact-F.Any ms) x is = subst (λ z. Keeps (roll-Fact z)) is (on_any ms)

  keeps : (f : Fact) → Keeps f
  keeps = ind-Fact Keeps (λ x y is. on_layer y x is)

  formulas_light : (fs : List Fact) → AreLight fs → every (map is_light (map (formula_of variables) fs)) ≡ true
  formulas_light [] h = refl
  formulas_light (f ∷ fs) h = both _ _ (keeps f h.0) (formulas_light fs h.1)

pub gaps_are_light : GapsAreLight
unfolding gap
gaps_are_light g marks rule alt =
    let fs : List Fact = rule_gap g marks (rule_at g rule) (alt_at g (rule, alt)) in
    let light = of_rule_gap (λ f. light_fact f ≡ true) is_sure g marks (rule_at g rule) (alt_at g (rule, alt)) in
    folds-All Bool light_step (map (formula_of (variables_of fs)) fs) ∙ formulas_light (variables_of fs) fs light

-- ---- bounds

abbrev limits : Bool → ℤ × ℤ
limits b = if b then (pos 0, pos 1073741824) else (negsuc 9223372036854775807, pos 9223372036854775807)

first_is : (a b : ℤ × ℤ) → Some a ≡ Some b → a ≡ b
first_is a b e = cc

bounds_ordered : (variables : List Variable) → AreOrdered (map bounds_of variables)
bounds_ordered [] x low high e = absurd (cc)
bounds_ordered (variable ∷ variables) zero low high e =
    by (same_variable variable (whole caller_side) || same_variable variable (whole holder_side)) (low, high) (first_is (bounds_of variable) (low, high) e)
  where
    by : (b : Bool) → (bounds : ℤ × ℤ) → limits b ≡ bounds → bounds.0 ≤ℤ bounds.1
    by true bounds is = let l = ap (λ (c : ℤ × ℤ). c.0) is in let h = ap (λ (c : ℤ × ℤ). c.1) is in omega (arith, ints, l, h)
    by false bounds is = let l = ap (λ (c : ℤ × ℤ). c.0) is in let h = ap (λ (c : ℤ × ℤ). c.1) is in omega (arith, ints, l, h)
bounds_ordered (variable ∷ variables) (suc x) low high e = bounds_ordered variables x low high e

pub gaps_are_ordered : GapsAreOrdered
unfolding gap
gaps_are_ordered g marks rule alt = bounds_ordered (variables_of (rule_gap g marks (rule_at g rule) (alt_at g (rule, alt))))
