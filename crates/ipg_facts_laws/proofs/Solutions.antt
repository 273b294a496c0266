-- A solution of a formula over numbers, as values of variables.
use Rattle.std.proofs.Common.{◌≡◌, suc, ◌+◌, Bool, true, false, not, cond, ◌||◌, List, [], ◌∷◌, map, refl, sym, ap, ◌∙◌, arith}
use Rattle.std.proofs.Common.{ℤ, pos, negsuc, Some, if◌then◌else◌}
use Rattle.std.specs.Prelude.{slice_get, flat_map, ◌≤ℤ◌}
use Rattle.std.specs.List.{list_any}
use Rattle.std.proofs.lemmas.Int.{ints}
use Rattle.ipg_lin.specs.Form.{Assignment}
use Rattle.ipg_lin.specs.Formula.{holds_at, holds_step, every}
use Rattle.ipg_lin.specs.declared.formula.Formula.TheVariants as formula
use Rattle.ipg_lin.specs.declared.formula.Formula.TheOpen.{Formula-F}
use Rattle.ipg_lin.specs.declared.formula.Formula.TheFolds.{fold-roll-Formula}
use Rattle.ipg_core.specs.Grammar.{Grammar}
use Rattle.ipg_core.specs.MustTouch.{Marks}
use Rattle.ipg_graph.specs.declared.edge.Edge.{Edge}
use Rattle.ipg_facts.specs.declared.edition.Edition.TheVariants.{Earlier, Later}
use Rattle.ipg_facts_forms.specs.declared.fact.Fact.{Fact}
use Rattle.ipg_facts_variables.specs.declared.variable.Variable.{Variable}
use Rattle.ipg_facts_variables.specs.Variable.{whole, caller_side, holder_side, same_variable}
use Rattle.ipg_facts_variables.specs.Equality.{same_variables_are_equal}
use Rattle.ipg_facts.specs.Keep.{edge_facts}
use Rattle.ipg_facts_forms.specs.Numbers.{variables_in, variables_of, place, bounds_of, all_of}
use Rattle.ipg_facts.specs.Keep.{keep, keep_before}
use Rattle.ipg_facts_laws.specs.Valued.{Valuation, is_so}
use Rattle.ipg_facts_laws.specs.Laws.{IsInRange, Solves, AllSolved}
use Rattle.ipg_facts_laws.specs.Before.{IsValued, SolutionsHold, KeepsSolveBefore, JointsSolveBefore}
use Rattle.ipg_facts_laws.proofs.Numbering.{variables_equal, variables_have, all_agree, facts_solve}
use Rattle.ipg_facts_laws.proofs.Sooner.{edges_give}
use Rattle.ipg_facts_laws.proofs.Widths.{first_stays, facts_are_part, conditions_are_parts}
use Rattle.ipg_facts_laws.proofs.Joints.{parts_solve_joint}
use Rattle.ipg_facts_laws.proofs.Parted.{joint_solves_parts}

abbrev IsWithin : ℤ → ℤ × ℤ → Type 0
IsWithin z b = (b.0 ≤ℤ z) × (z ≤ℤ b.1)

-- a variable that is in no table has the value 0
abbrev by_variable : List Variable → Assignment → Valuation
by_variable variables values variable = if list_any (same_variable variable) variables then values (place variables variable) else pos 0

-- the bounds of a variable's number are the variable's
bounds_by : (k variable : Variable) (variables : List Variable) (b : Bool) → same_variable variable k ≡ b
    → b || list_any (same_variable variable) variables ≡ true
    → (list_any (same_variable variable) variables ≡ true → slice_get (map bounds_of variables) (place variables variable) ≡ Some (bounds_of variable))
    → slice_get (map bounds_of (k ∷ variables)) (cond (not b) (1 + place variables variable) 0) ≡ Some (bounds_of variable)
bounds_by k variable variables true e h f = ap (λ x. Some (bounds_of x)) (sym (variables_equal variable k e))
bounds_by k variable variables false e h f =
    ap (slice_get (map bounds_of (k ∷ variables))) (let n : 1 + place variables variable ≡ suc (place variables variable) = omega arith in n) ∙ f h

bounds_at : (variables : List Variable) (variable : Variable) → list_any (same_variable variable) variables ≡ true
    → slice_get (map bounds_of variables) (place variables variable) ≡ Some (bounds_of variable)
bounds_at [] variable e = absurd (cc)
bounds_at (k ∷ variables) variable e = bounds_by k variable variables (same_variable variable k) refl e (bounds_at variables variable)

-- the first variable has the number 0
first_by : (k : Variable) (variables : List Variable) (b : Bool) → b ≡ true → cond (not b) (1 + place variables k) 0 ≡ 0
first_by k variables true e = refl
first_by k variables false e = absurd (cc)

first_here : (variables : List Variable) (k : Variable) → slice_get variables 0 ≡ Some k
    → (list_any (same_variable k) variables ≡ true) × (place variables k ≡ 0)
first_here [] k e = absurd (cc)
first_here (x ∷ variables) k e =
    let is : x ≡ k = cc in
    let same : same_variable k x ≡ true = (same_variables_are_equal k x).1 (sym is) in
    (ap (λ b. b || list_any (same_variable k) variables) same, first_by k variables (same_variable k x) same)

-- all bounds are numbers of 64 bits
in_bounds : (b : Bool) (z : ℤ) → IsWithin z (if b then (pos 0, pos 1073741824) else (negsuc 9223372036854775807, pos 9223372036854775807))
    → (negsuc 9223372036854775807 ≤ℤ z) × (z ≤ℤ pos 9223372036854775807)
in_bounds true z h = let l : pos 0 ≤ℤ z = h.0 in let r : z ≤ℤ pos 1073741824 = h.1 in (omega (arith, ints), omega (arith, ints))
in_bounds false z h = h

module _ (facts : List Fact) (values : Assignment) (solves : Solves values (all_of facts)) where
  abbrev variables : List Variable
  variables = variables_of facts

  abbrev v : Valuation
  v = by_variable variables values

  agree : (variable : Variable) → list_any (same_variable variable) variables ≡ true → values (place variables variable) ≡ v variable
  agree variable e = sym (ap (λ b. if b then values (place variables variable) else pos 0) e)

  chosen : (b : Bool) (variable : Variable) → list_any (same_variable variable) variables ≡ b → IsWithin (pos 0) (bounds_of variable)
      → IsWithin (if b then values (place variables variable) else pos 0) (bounds_of variable)
  chosen true variable e h = solves.0 (place variables variable) (bounds_of variable).0 (bounds_of variable).1 (bounds_at variables variable e)
  chosen false variable e h = h

  none_within : (b : Bool) → IsWithin (pos 0) (if b then (pos 0, pos 1073741824) else (negsuc 9223372036854775807, pos 9223372036854775807))
  none_within true = (omega (arith, ints), omega (arith, ints))
  none_within false = (omega (arith, ints), omega (arith, ints))

  within : (variable : Variable) → IsWithin (v variable) (bounds_of variable)
  within variable = chosen (list_any (same_variable variable) variables) variable refl
      (none_within (same_variable variable (whole caller_side) || same_variable variable (whole holder_side)))

  ranged : IsInRange v
  unfolding same_variable
  ranged = record {
    caller = within (whole caller_side);
    holder = within (whole holder_side);
    number = λ variable. in_bounds (same_variable variable (whole caller_side) || same_variable variable (whole holder_side)) (v variable) (within variable);
  }

  so : every (map (is_so v) facts) ≡ true
  unfolding variables_of
  so =
      ap every (sym (all_agree v values variables agree facts (variables_have (whole caller_side ∷ []) (flat_map variables_in facts))))
      ∙ sym (ap (holds_at values) (sym (formula.rolls-All _)) ∙ fold-roll-Formula Bool (holds_step values) (Formula-F.All _)) ∙ solves.1

  first : v (whole caller_side) ≡ values 0
  unfolding variables_of
  first =
      let at = first_here variables (whole caller_side) (first_stays (flat_map variables_in facts) [] (whole caller_side)) in
      sym (agree (whole caller_side) at.0) ∙ ap values at.1

pub solutions_hold : SolutionsHold
solutions_hold facts values solves = record {
  values_by = v facts values solves;
  ranged = ranged facts values solves;
  so = so facts values solves;
  first = first facts values solves;
}

pub keeps_solve_before : KeepsSolveBefore
unfolding keep keep_before
keeps_solve_before g marks e values solves =
    let valued : IsValued (edge_facts g marks Later e) values = solutions_hold (edge_facts g marks Later e) values solves in
    let is = facts_solve valued.values_by (edge_facts g marks Earlier e) valued.ranged (edges_give valued.values_by g marks e valued.so) in
    (is.0, is.1, is.2 ∙ valued.first)

all_before : (g : Grammar) (marks : Marks) (edges : List Edge) (eoi : ℤ) → AllSolved eoi (map (keep g marks) edges)
    → AllSolved eoi (map (keep_before g marks) edges)
unfolding keep_before
all_before g marks [] eoi h = tt
all_before g marks (e ∷ edges) eoi h =
    let is = keeps_solve_before g marks e h.0.1.0 h.0.1.1 in
    (((facts_are_part (edge_facts g marks Earlier e)).0, (is.0, is.1, is.2 ∙ h.0.1.2)), all_before g marks edges eoi h.1)

pub joints_solve_before : JointsSolveBefore
joints_solve_before g marks edges values solves =
    parts_solve_joint (map (keep_before g marks) edges) (values 0)
    (all_before g marks edges (values 0)
    (joint_solves_parts (map (keep g marks) edges) (pos 0, pos 1073741824) (conditions_are_parts g marks edges) values solves))
