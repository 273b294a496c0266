-- Conditions have bounds for each of their variables.
use Rattle.std.proofs.Common.{◌≡◌, ℕ, suc, ◌+◌, ◌<◌, ◌≤◌, Bool, true, false, not, cond, ◌||◌, List, [], ◌∷◌, ◌++◌, map, length, refl, sym, ap, subst}
use Rattle.std.proofs.Common.{◌∙◌, arith, ℤ, pos, Some, if◌then◌else◌, nat_lt}
use Rattle.std.specs.Prelude.{slice_get, flat_map}
use Rattle.std.specs.List.{list_any}
use Rattle.std.proofs.lemmas.List.{length-map}
use Rattle.ipg_lin.specs.Form.{terms_width}
use Rattle.ipg_lin.specs.Formula.{width, width_step, greatest}
use Rattle.ipg_lin.specs.declared.formula.Formula.{Formula}
use Rattle.ipg_lin.specs.declared.formula.Formula.TheVariants as formula
use Rattle.ipg_lin.specs.declared.formula.Formula.TheOpen.{Formula-F}
use Rattle.ipg_lin.specs.declared.formula.Formula.TheFolds.{fold-roll-Formula}
use Rattle.ipg_facts_forms.specs.declared.fact.Draft.{Draft}
use Rattle.ipg_facts_forms.specs.declared.fact.Fact.{Fact, roll-Fact, map-Fact, fold-roll-Fact, ind-Fact}
use Rattle.ipg_facts_forms.specs.declared.fact.Fact.TheOpen.{Fact-F}
use Rattle.ipg_facts_variables.specs.declared.variable.Variable.{Variable}
use Rattle.ipg_facts_variables.specs.Variable.{whole, caller_side, same_variable}
use Rattle.ipg_facts_variables.specs.Equality.{same_variables_are_equal}
use Rattle.ipg_facts.specs.declared.edition.Edition.TheVariants.{Later}
use Rattle.ipg_facts.specs.Keep.{edge_facts}
use Rattle.ipg_facts_forms.specs.Numbers.{variables_in, variables_step, with_variables, variables_of, place, insert, numbered, formula_of, formula_step}
use Rattle.ipg_facts_forms.specs.Numbers.{bounds_of, all_of}
use Rattle.ipg_facts.specs.Keep.{keep}
use Rattle.ipg_facts_laws.specs.Laws.{IsPart, ConditionsAreParts}
use Rattle.ipg_facts_laws.proofs.Numbering.{Has, or_left, or_right, any_left, any_right, variables_have, variables_of_terms, variables_joined}

place_by : (k variable : Variable) (variables : List Variable) (b : Bool) → same_variable variable k ≡ b
    → b || list_any (same_variable variable) variables ≡ true
    → (list_any (same_variable variable) variables ≡ true → place variables variable < length variables)
    → cond (not b) (1 + place variables variable) 0 < suc (length variables)
place_by k variable variables true e h f = omega arith
place_by k variable variables false e h f = let lt = f h in omega arith

place_below : (variables : List Variable) (variable : Variable) → list_any (same_variable variable) variables ≡ true
    → place variables variable < length variables
place_below [] variable e = absurd (cc)
place_below (k ∷ variables) variable e = place_by k variable variables (same_variable variable k) refl e (place_below variables variable)

inserted_width : (n : ℕ) (b : Bool) (t next : ℕ × ℤ) (terms more : List (ℕ × ℤ)) → t.0 < n → next.0 < n → terms_width terms ≤ n → terms_width more ≤ n
    → terms_width (if b then next ∷ more else t ∷ (next ∷ terms)) ≤ n
inserted_width n true t next terms more h k l m = omega arith
inserted_width n false t next terms more h k l m = omega arith

insert_width : (n : ℕ) (t : ℕ × ℤ) (terms : List (ℕ × ℤ)) → t.0 < n → terms_width terms ≤ n → terms_width (insert t terms) ≤ n
unfolding insert
insert_width n t [] h k = omega arith
insert_width n t (next ∷ terms) h k =
    let rest : terms_width terms ≤ n = omega arith in
    inserted_width n (nat_lt next.0 t.0) t next terms (insert t terms) h (omega arith) rest (insert_width n t terms h rest)

module _ (variables : List Variable) where
  numbered_width : (terms : List (Variable × ℤ)) → Has variables (variables_of_terms terms) → terms_width (numbered variables terms) ≤ length variables
  unfolding numbered
  numbered_width [] h = omega arith
  numbered_width (t ∷ terms) h =
      insert_width (length variables) (place variables t.0, t.1) (numbered variables terms)
      (place_below variables t.0 (h t.0 (or_left _ _ ((same_variables_are_equal t.0 t.0).1 refl))))
      (numbered_width terms (λ variable e. h variable (or_right _ _ e)))

  -- the formula of a fact mentions variables of the table
  abbrev Fits : Fact → Type 0
  Fits fact = Has variables (variables_in fact) → width (formula_of variables fact) ≤ length variables

  abbrev facts_in : List ((fact : Fact) × Fits fact) → List Fact
  facts_in ms = map (λ (m : (fact : Fact) × Fits fact). m.0) ms

  members_fit : (ms : List ((fact : Fact) × Fits fact)) → Has variables (flat_map variables_in (facts_in ms))
      → greatest (map width (map (formula_of variables) (facts_in ms))) ≤ length variables
  members_fit [] h = omega arith
  members_fit (m ∷ ms) h =
      let first = m.1 (λ variable e. h variable (any_left variable (variables_in m.0) _ e)) in
      let rest = members_fit ms (λ variable e. h variable (any_right variable (variables_in m.0) _ e)) in omega arith

  at_most : (m n k : ℕ) → m ≡ n → n ≤ k → m ≤ k
  at_most m n k e h = omega arith

  on_atom : (draft : Draft) → Fits (roll-Fact (Fact-F.Atom draft))
  unfolding formula_of variables_in
  on_atom draft h =
      at_most _ _ (length variables)
      (ap width (fold-roll-Fact Formula (formula_step variables) (Fact-F.Atom draft))
      ∙ ap width (sym (formula.rolls-Atom _)) ∙ fold-roll-Formula ℕ width_step (Formula-F.Atom _))
      (numbered_width draft.terms (λ variable e. h variable
      (ap (list_any (same_variable variable)) (fold-roll-Fact (List Variable) variables_step (Fact-F.Atom draft)) ∙ e)))

  on_all : (ms : List ((fact : Fact) × Fits fact)) → Fits (roll-Fact (Fact-F.All (facts_in ms)))
  unfolding formula_of variables_in
  on_all ms h =
      at_most _ _ (length variables)
      (ap width (fold-roll-Fact Formula (formula_step variables) (Fact-F.All (facts_in ms)))
      ∙ ap width (sym (formula.rolls-All _)) ∙ fold-roll-Formula ℕ width_step (Formula-F.All _))
      (members_fit ms (λ variable e. h variable
      (ap (list_any (same_variable variable)) (fold-roll-Fact (List Variable) variables_step (Fact-F.All (facts_in ms)) ∙ variables_joined (facts_in ms))
      ∙ e)))

  on_any : (ms : List ((fact : Fact) × Fits fact)) → Fits (roll-Fact (Fact-F.Any (facts_in ms)))
  unfolding formula_of variables_in
  on_any ms h =
      at_most _ _ (length variables)
      (ap width (fold-roll-Fact Formula (formula_step variables) (Fact-F.Any (facts_in ms)))
      ∙ ap width (sym (formula.rolls-Any _)) ∙ fold-roll-Formula ℕ width_step (Formula-F.Any _))
      (members_fit ms (λ variable e. h variable
      (ap (list_any (same_variable variable)) (fold-roll-Fact (List Variable) variables_step (Fact-F.Any (facts_in ms)) ∙ variables_joined (facts_in ms))
      ∙ e)))

  on_layer : (y : Fact-F ((fact : Fact) × Fits fact)) (x : Fact-F Fact) → map-Fact ((fact : Fact) × Fits fact) Fact (λ m. m.0) y ≡ x → Fits (roll-Fact x)
  on_layer (Fact-F.Atom draft) x is = subst (λ z. Fits (roll-Fact z)) is (on_atom draft)
  on_layer (Fact-F.All ms) x is = subst (λ z. Fits (roll-Fact z)) is (on_all ms)
  on_layer (Fact-F.Any ms) x is = subst (λ z. Fits (roll-Fact z)) is (on_any ms)

  fits : (fact : Fact) → Fits fact
  fits = ind-Fact Fits (λ x y is. on_layer y x is)

  all_fit : (facts : List Fact) → Has variables (flat_map variables_in facts) → greatest (map width (map (formula_of variables) facts)) ≤ length variables
  all_fit [] h = omega arith
  all_fit (f ∷ facts) h =
      let first = fits f (λ variable e. h variable (any_left variable (variables_in f) _ e)) in
      let rest = all_fit facts (λ variable e. h variable (any_right variable (variables_in f) _ e)) in omega arith

-- the first variable of a table stays the first
first_by : (b : Bool) (variables more : List Variable) (m k : Variable)
    → ((variables : List Variable) → slice_get (with_variables (k ∷ variables) more) 0 ≡ Some k)
    → slice_get (with_variables (if b then k ∷ variables else (k ∷ variables) ++ m ∷ []) more) 0 ≡ Some k
first_by true variables more m k f = f variables
first_by false variables more m k f = f (variables ++ m ∷ [])

pub first_stays : (more variables : List Variable) (k : Variable) → slice_get (with_variables (k ∷ variables) more) 0 ≡ Some k
first_stays [] variables k = refl
first_stays (m ∷ more) variables k = first_by (list_any (same_variable m) (k ∷ variables)) variables more m k (λ variables. first_stays more variables k)

first_bounds : (variables : List Variable) (k : Variable) → slice_get variables 0 ≡ Some k → slice_get (map bounds_of variables) 0 ≡ Some (bounds_of k)
first_bounds [] k e = absurd (cc)
first_bounds (x ∷ variables) k e = let same : x ≡ k = cc in ap (λ y. Some (bounds_of y)) same

some_first : (variables : List Variable) (k : Variable) → slice_get variables 0 ≡ Some k → 0 < length variables
some_first [] k e = absurd (cc)
some_first (x ∷ variables) k e = omega arith

pub facts_are_part : (facts : List Fact) → IsPart (all_of facts) × (slice_get (all_of facts).1.bounds 0 ≡ Some (pos 0, pos 1073741824))
unfolding variables_of same_variable
facts_are_part facts =
    let variables : List Variable = variables_of facts in
    let first : slice_get variables 0 ≡ Some (whole caller_side) = first_stays (flat_map variables_in facts) [] (whole caller_side) in
    let size : length (map bounds_of variables) ≡ length variables = length-map variables bounds_of in
    let fit = all_fit variables facts (variables_have (whole caller_side ∷ []) (flat_map variables_in facts)) in
    let is : width (formula.All (map (formula_of variables) facts)) ≡ greatest (map width (map (formula_of variables) facts)) =
    ap width (sym (formula.rolls-All _)) ∙ fold-roll-Formula ℕ width_step (Formula-F.All _) in
    let some = some_first variables (whole caller_side) first in
    (record { bounded = omega (arith, size, fit, is); first = omega (arith, size, some) }, first_bounds variables (whole caller_side) first)

pub conditions_are_parts : ConditionsAreParts
unfolding keep
conditions_are_parts g marks [] = tt
conditions_are_parts g marks (e ∷ edges) = (facts_are_part (edge_facts g marks Later e), conditions_are_parts g marks edges)
