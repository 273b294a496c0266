-- Facts over variables and their formula over numbers hold together.
use Rattle.std.proofs.Common.{◌≡◌, ℕ, zero, suc, ◌+◌, Bool, true, false, not, cond, ◌||◌, List, [], ◌∷◌, ◌++◌, map, refl, sym, ap, subst, ◌∙◌, arith}
use Rattle.std.proofs.Common.{ℤ, pos, negsuc, ◌+ℤ◌, ◌*ℤ◌, Some, if◌then◌else◌, nat_lt}
use Rattle.std.specs.Prelude.{int_le, slice_get, flat_map, ◌≤ℤ◌, unwrap_or}
use Rattle.std.specs.List.{list_any}
use Rattle.std.proofs.lemmas.List.Folds.{list_any-append}
use Rattle.std.proofs.lemmas.Int.{ints}
use Rattle.ipg_lin.specs.Form.{Assignment, sum_at}
use Rattle.ipg_lin.specs.Formula.{holds_at, holds_step, every, some}
use Rattle.ipg_lin.specs.declared.formula.Formula.{Formula}
use Rattle.ipg_lin.specs.declared.formula.Formula.TheVariants as formula
use Rattle.ipg_lin.specs.declared.formula.Formula.TheOpen.{Formula-F}
use Rattle.ipg_lin.specs.declared.formula.Formula.TheFolds.{fold-roll-Formula}
use Rattle.ipg_facts_forms.specs.declared.fact.Draft.{Draft}
use Rattle.ipg_facts_forms.specs.declared.fact.Fact.{Fact, roll-Fact, map-Fact, fold-roll-Fact, ind-Fact}
use Rattle.ipg_facts_forms.specs.declared.fact.Fact.TheOpen.{Fact-F}
use Rattle.ipg_facts_variables.specs.declared.variable.Variable.{Variable}
use Rattle.ipg_facts_variables.specs.Variable.{whole, caller_side, holder_side, same_variable}
use Rattle.ipg_facts_variables.specs.Equality.{same_variables_are_equal}
use Rattle.ipg_facts_forms.specs.Numbers.{variables_in, variables_step, with_variable, with_variables, variables_of, place, insert, numbered, formula_of}
use Rattle.ipg_facts_forms.specs.Numbers.{formula_step, bounds_of, all_of}
use Rattle.ipg_facts_laws.specs.Valued.{Valuation, sum_of, so_step, is_so, are_so}
use Rattle.ipg_facts_laws.specs.Laws.{IsInRange, Solves, FactsSolve}

-- the variable of a number
abbrev pub variable_at : List Variable → ℕ → Variable
variable_at variables x = unwrap_or (slice_get variables x) (whole caller_side)

-- a variable's number leads back to it
abbrev IsNumbered : List Variable → Variable → Type 0
IsNumbered variables variable = variable_at variables (place variables variable) ≡ variable

pub variables_equal : (a b : Variable) → same_variable a b ≡ true → a ≡ b
variables_equal a b e = (same_variables_are_equal a b).0 e

or_true : (a b : Bool) → a ≡ false → a || b ≡ true → b ≡ true
or_true true b e f = cc
or_true false b e f = f

-- a variable in a table is numbered
head_or_tail : (b : Bool) (k variable : Variable) (variables : List Variable) → same_variable variable k ≡ b
    → b || list_any (same_variable variable) variables ≡ true
    → (list_any (same_variable variable) variables ≡ true → IsNumbered variables variable)
    → variable_at (k ∷ variables) (cond (not b) (1 + place variables variable) 0) ≡ variable
head_or_tail true k variable variables e f g = sym (variables_equal variable k e)
head_or_tail false k variable variables e f g = ap (variable_at (k ∷ variables))
    (let h : 1 + place variables variable ≡ suc (place variables variable) = omega arith in h) ∙ g f

is_numbered : (variables : List Variable) (variable : Variable) → list_any (same_variable variable) variables ≡ true → IsNumbered variables variable
is_numbered [] variable e = cc
is_numbered (k ∷ variables) variable e = head_or_tail (same_variable variable k) k variable variables refl e (is_numbered variables variable)

-- variables of one list are in another
abbrev pub Has : List Variable → List Variable → Type 0
Has variables ks = (variable : Variable) → list_any (same_variable variable) ks ≡ true → list_any (same_variable variable) variables ≡ true

pub or_left : (a b : Bool) → a ≡ true → a || b ≡ true
or_left a b e = ap (λ c. c || b) e

pub or_right : (a b : Bool) → b ≡ true → a || b ≡ true
or_right true b e = refl
or_right false b e = e

pub any_left : (variable : Variable) (xs ys : List Variable) → list_any (same_variable variable) xs ≡ true → list_any (same_variable variable) (xs ++ ys) ≡ true
any_left variable xs ys e = list_any-append (same_variable variable) xs ys ∙ or_left _ _ e

pub any_right : (variable : Variable) (xs ys : List Variable) → list_any (same_variable variable) ys ≡ true
    → list_any (same_variable variable) (xs ++ ys) ≡ true
any_right variable xs ys e = list_any-append (same_variable variable) xs ys ∙ or_right _ _ e

-- variables stay in a table, and a variable that is put is in it
kept_or_put : (b : Bool) (variables : List Variable) (k variable : Variable) → list_any (same_variable variable) variables ≡ true
    → list_any (same_variable variable) (if b then variables else variables ++ k ∷ []) ≡ true
kept_or_put true variables k variable e = e
kept_or_put false variables k variable e = any_left variable variables (k ∷ []) e

has_put : (b : Bool) (variables : List Variable) (variable : Variable) → list_any (same_variable variable) variables ≡ b
    → list_any (same_variable variable) (if b then variables else variables ++ variable ∷ []) ≡ true
has_put true variables variable e = e
has_put false variables variable e = any_right variable variables (variable ∷ []) (or_left _ _ ((same_variables_are_equal variable variable).1 refl))

variables_keep : (variables more : List Variable) (variable : Variable) → list_any (same_variable variable) variables ≡ true
    → list_any (same_variable variable) (with_variables variables more) ≡ true
variables_keep variables [] variable e = e
variables_keep variables (m ∷ more) variable e =
    variables_keep (with_variable variables m) more variable (kept_or_put (list_any (same_variable m) variables) variables m variable e)

here_or_later : (b : Bool) (variables more : List Variable) (m variable : Variable) → same_variable variable m ≡ b
    → b || list_any (same_variable variable) more ≡ true
    → (list_any (same_variable variable) more ≡ true → list_any (same_variable variable) (with_variables (with_variable variables m) more) ≡ true)
    → list_any (same_variable variable) (with_variables (with_variable variables m) more) ≡ true
here_or_later true variables more m variable e f g =
    subst (λ k. list_any (same_variable k) (with_variables (with_variable variables m) more) ≡ true) (sym (variables_equal variable m e))
    (variables_keep (with_variable variables m) more m (has_put (list_any (same_variable m) variables) variables m refl))
here_or_later false variables more m variable e f g = g f

pub variables_have : (variables more : List Variable) → Has (with_variables variables more) more
variables_have variables [] variable e = cc
variables_have variables (m ∷ more) variable e =
    here_or_later (same_variable variable m) variables more m variable refl e (variables_have (with_variable variables m) more variable)

-- a sum does not depend on the order of its terms
swapped : (a b c : ℤ) → a +ℤ (b +ℤ c) ≡ b +ℤ (a +ℤ c)
swapped a b c = omega (arith, ints)

inserted : (b : Bool) (values : Assignment) (t next : ℕ × ℤ) (terms more : List (ℕ × ℤ)) → sum_at values more ≡ (t.1 *ℤ values t.0) +ℤ sum_at values terms
    → sum_at values (if b then next ∷ more else t ∷ (next ∷ terms)) ≡ (t.1 *ℤ values t.0) +ℤ ((next.1 *ℤ values next.0) +ℤ sum_at values terms)
inserted true values t next terms more e =
    ap (λ z. (next.1 *ℤ values next.0) +ℤ z) e ∙ swapped (next.1 *ℤ values next.0) (t.1 *ℤ values t.0) (sum_at values terms)
inserted false values t next terms more e = refl

sum_insert : (values : Assignment) (t : ℕ × ℤ) (terms : List (ℕ × ℤ)) → sum_at values (insert t terms) ≡ (t.1 *ℤ values t.0) +ℤ sum_at values terms
unfolding insert
sum_insert values t [] = refl
sum_insert values t (next ∷ terms) = inserted (nat_lt next.0 t.0) values t next terms (insert t terms) (sum_insert values t terms)

abbrev pub variables_of_terms : List (Variable × ℤ) → List Variable
variables_of_terms terms = map (λ term. term.0) terms

pub variables_joined : (fs : List Fact) → flat_map (λ ks. ks) (map variables_in fs) ≡ flat_map variables_in fs
variables_joined [] = refl
variables_joined (f ∷ fs) = ap (λ ks. variables_in f ++ ks) (variables_joined fs)

-- values by number and by variable, the same for each variable of a table
module _ (v : Valuation) (values : Assignment) (variables : List Variable)
    (agree : (variable : Variable) → list_any (same_variable variable) variables ≡ true → values (place variables variable) ≡ v variable) where
  sum_numbered : (terms : List (Variable × ℤ)) → Has variables (variables_of_terms terms) → sum_at values (numbered variables terms) ≡ sum_of v terms
  unfolding numbered
  sum_numbered [] h = refl
  sum_numbered (t ∷ terms) h =
      sum_insert values (place variables t.0, t.1) (numbered variables terms)
      ∙ ap (λ z. z +ℤ sum_at values (numbered variables terms))
      (ap (λ z. t.1 *ℤ z) (agree t.0 (h t.0 (or_left _ _ ((same_variables_are_equal t.0 t.0).1 refl)))))
      ∙ ap (λ z. (t.1 *ℤ v t.0) +ℤ z) (sum_numbered terms (λ variable e. h variable (or_right _ _ e)))

  -- the formula of a fact holds where the fact does
  abbrev Agrees : Fact → Type 0
  Agrees fact = Has variables (variables_in fact) → holds_at values (formula_of variables fact) ≡ is_so v fact

  abbrev facts_in : List ((fact : Fact) × Agrees fact) → List Fact
  facts_in ms = map (λ (m : (fact : Fact) × Agrees fact). m.0) ms

  members_agree : (ms : List ((fact : Fact) × Agrees fact)) → Has variables (flat_map variables_in (facts_in ms))
      → map (holds_at values) (map (formula_of variables) (facts_in ms)) ≡ map (is_so v) (facts_in ms)
  members_agree [] h = refl
  members_agree (m ∷ ms) h =
      rw (m.1 (λ variable e. h variable (any_left variable (variables_in m.0) _ e)))
      (ap (λ bs. is_so v m.0 ∷ bs) (members_agree ms (λ variable e. h variable (any_right variable (variables_in m.0) _ e))))

  on_atom : (draft : Draft) → Agrees (roll-Fact (Fact-F.Atom draft))
  unfolding formula_of variables_in
  on_atom draft h =
      ap (holds_at values) (fold-roll-Fact Formula (formula_step variables) (Fact-F.Atom draft))
      ∙ ap (holds_at values) (sym (formula.rolls-Atom _)) ∙ fold-roll-Formula Bool (holds_step values) (Formula-F.Atom _)
      ∙ ap (λ z. int_le (z +ℤ draft.constant) (pos 0))
      (sum_numbered draft.terms (λ variable e. h variable
      (ap (list_any (same_variable variable)) (fold-roll-Fact (List Variable) variables_step (Fact-F.Atom draft)) ∙ e)))
      ∙ sym (fold-roll-Fact Bool (so_step v) (Fact-F.Atom draft))

  on_all : (ms : List ((fact : Fact) × Agrees fact)) → Agrees (roll-Fact (Fact-F.All (facts_in ms)))
  unfolding formula_of variables_in
  on_all ms h =
      ap (holds_at values) (fold-roll-Fact Formula (formula_step variables) (Fact-F.All (facts_in ms)))
      ∙ ap (holds_at values) (sym (formula.rolls-All _)) ∙ fold-roll-Formula Bool (holds_step values) (Formula-F.All _)
      ∙ ap every (members_agree ms (λ variable e. h variable
      (ap (list_any (same_variable variable)) (fold-roll-Fact (List Variable) variables_step (Fact-F.All (facts_in ms)) ∙ variables_joined (facts_in ms)) ∙ e)))
      ∙ sym (fold-roll-Fact Bool (so_step v) (Fact-F.All (facts_in ms)))

  on_any : (ms : List ((fact : Fact) × Agrees fact)) → Agrees (roll-Fact (Fact-F.Any (facts_in ms)))
  unfolding formula_of variables_in
  on_any ms h =
      ap (holds_at values) (fold-roll-Fact Formula (formula_step variables) (Fact-F.Any (facts_in ms)))
      ∙ ap (holds_at values) (sym (formula.rolls-Any _)) ∙ fold-roll-Formula Bool (holds_step values) (Formula-F.Any _)
      ∙ ap some (members_agree ms (λ variable e. h variable
      (ap (list_any (same_variable variable)) (fold-roll-Fact (List Variable) variables_step (Fact-F.Any (facts_in ms)) ∙ variables_joined (facts_in ms)) ∙ e)))
      ∙ sym (fold-roll-Fact Bool (so_step v) (Fact-F.Any (facts_in ms)))

  on_layer : (y : Fact-F ((fact : Fact) × Agrees fact)) (x : Fact-F Fact) → map-Fact ((fact : Fact) × Agrees fact) Fact (λ m. m.0) y ≡ x → Agrees (roll-Fact x)
  on_layer (Fact-F.Atom draft) x is = subst (λ z. Agrees (roll-Fact z)) is (on_atom draft)
  on_layer (Fact-F.All ms) x is = subst (λ z. Agrees (roll-Fact z)) is (on_all ms)
  on_layer (Fact-F.Any ms) x is = subst (λ z. Agrees (roll-Fact z)) is (on_any ms)

  agrees : (fact : Fact) → Agrees fact
  agrees = ind-Fact Agrees (λ x y is. on_layer y x is)

  pub all_agree : (fs : List Fact) → Has variables (flat_map variables_in fs) → map (holds_at values) (map (formula_of variables) fs) ≡ map (is_so v) fs
  all_agree [] h = refl
  all_agree (f ∷ fs) h =
      rw (agrees f (λ variable e. h variable (any_left variable (variables_in f) _ e)))
      (ap (λ bs. is_so v f ∷ bs) (all_agree fs (λ variable e. h variable (any_right variable (variables_in f) _ e))))

-- each variable lies in its bounds
abbrev IsWithin : ℤ → ℤ × ℤ → Type 0
IsWithin z b = (b.0 ≤ℤ z) × (z ≤ℤ b.1)

bound_at : (v : Valuation) → IsInRange v → (variable : Variable) (a b : Bool) → same_variable variable (whole caller_side) ≡ a
    → same_variable variable (whole holder_side) ≡ b
    → IsWithin (v variable) (if a || b then (pos 0, pos 1073741824) else (negsuc 9223372036854775807, pos 9223372036854775807))
bound_at v r variable true b e f = subst (λ k. IsWithin (v k) (pos 0, pos 1073741824)) (sym (variables_equal variable (whole caller_side) e)) r.caller
bound_at v r variable false true e f = subst (λ k. IsWithin (v k) (pos 0, pos 1073741824)) (sym (variables_equal variable (whole holder_side) f)) r.holder
bound_at v r variable false false e f = r.number variable

lies : (v : Valuation) → IsInRange v → (variables : List Variable) (x : ℕ) (low high : ℤ) → slice_get (map bounds_of variables) x ≡ Some (low, high)
    → (low ≤ℤ v (variable_at variables x)) × (v (variable_at variables x) ≤ℤ high)
lies v r [] x low high e = cc
lies v r (variable ∷ variables) zero low high e =
    let b : bounds_of variable ≡ (low, high) = cc in
    subst (IsWithin (v variable)) b (bound_at v r variable _ _ refl refl)
lies v r (variable ∷ variables) (suc x) low high e = lies v r variables x low high e

-- the first variable of a table stays the first
first_of : (b : Bool) (variables more : List Variable) (m k : Variable)
    → ((variables : List Variable) → variable_at (with_variables (k ∷ variables) more) 0 ≡ k)
    → variable_at (with_variables (if b then k ∷ variables else (k ∷ variables) ++ m ∷ []) more) 0 ≡ k
first_of true variables more m k f = f variables
first_of false variables more m k f = f (variables ++ m ∷ [])

pub first_stays : (more variables : List Variable) (k : Variable) → variable_at (with_variables (k ∷ variables) more) 0 ≡ k
first_stays [] variables k = refl
first_stays (m ∷ more) variables k = first_of (list_any (same_variable m) (k ∷ variables)) variables more m k (λ variables. first_stays more variables k)

-- the values by number solve the formula
pub solved_by : (v : Valuation) (facts : List Fact) → IsInRange v → are_so v facts ≡ true → Solves (λ x. v (variable_at (variables_of facts) x)) (all_of facts)
unfolding variables_of
solved_by v facts r so =
    let variables : List Variable = variables_of facts in
    let values : Assignment = λ x. v (variable_at variables x) in
    let holds : holds_at values (formula.All (map (formula_of variables) facts)) ≡ true =
    ap (holds_at values) (sym (formula.rolls-All _)) ∙ fold-roll-Formula Bool (holds_step values) (Formula-F.All _)
    ∙ ap every (all_agree v values variables (λ variable e. ap v (is_numbered variables variable e)) facts
    (variables_have (whole caller_side ∷ []) (flat_map variables_in facts)))
    ∙ so in
    (lies v r variables, holds)

pub facts_solve : FactsSolve
unfolding variables_of
facts_solve v facts r so =
    (λ x. v (variable_at (variables_of facts) x), solved_by v facts r so, ap v (first_stays (flat_map variables_in facts) [] (whole caller_side)))
