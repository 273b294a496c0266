-- The second variable of a gap's formula is the place.
use Rattle.std.proofs.Common.{◌≡◌, ℕ, ◌<◌, Bool, true, false, List, [], ◌∷◌, ◌++◌, map, length, refl, sym, ap}
use Rattle.std.proofs.Common.{◌∙◌, arith, pos, negsuc, Option, Some, None, if◌then◌else◌}
use Rattle.std.specs.Prelude.{slice_get, flat_map}
use Rattle.std.specs.List.{list_any}
use Rattle.std.proofs.lemmas.List.{length-map}
use Rattle.ipg_core.specs.declared.grammar.CoreAlt.{CoreAlt}
use Rattle.ipg_core.specs.declared.grammar.CoreRule.{CoreRule}
use Rattle.ipg_core.specs.Grammar.{Grammar, rule_at}
use Rattle.ipg_core.specs.MustTouch.{Marks}
use Rattle.ipg_facts_forms.specs.declared.fact.Draft.{Draft}
use Rattle.ipg_facts_forms.specs.declared.fact.Fact.{Fact, fold-roll-Fact}
use Rattle.ipg_facts_forms.specs.declared.fact.Fact.TheOpen.{Fact-F}
use Rattle.ipg_facts_forms.specs.declared.fact.Fact.TheVariants as facts
use Rattle.ipg_facts.specs.declared.edition.Edition.TheVariants.{Later}
use Rattle.ipg_facts_variables.specs.declared.variable.Variable.{Variable}
use Rattle.ipg_facts_variables.specs.Variable.{whole, caller_side, same_variable}
use Rattle.ipg_facts_forms.specs.Form.{leq, less, at_most_zero, minus, plus, scaled, add_part, add_parts, facts_of, mentioned, bare, in_limits}
use Rattle.ipg_facts.specs.Reading.{Scope, nought, length_of}
use Rattle.ipg_facts.specs.Keep.{opening, holder_facts, alt_of, alt_at}
use Rattle.ipg_facts_forms.specs.Numbers.{variables_in, variables_step, with_variables, variables_of, bounds_of}
use Rattle.ipg_facts.specs.Gap.{gap, gap_facts, rule_gap, gap_terms, is_place, point, point_side}
use Rattle.ipg_facts_laws.specs.Gapped.{GapsAreBounded}
use Rattle.ipg_facts_laws.proofs.Widths.{facts_are_part}

abbrev at_least_nought : Draft
at_least_nought = record { terms = (whole point_side, negsuc 0) ∷ []; constant = pos 0 }

-- the first fact says that the place is at least 0
begins : leq nought point ≡ facts.Atom at_least_nought ∷ []
unfolding leq at_most_zero minus plus scaled add_part add_parts facts_of mentioned bare in_limits same_variable
begins = refl

second_by : (b : Bool) (variables more : List Variable) (m j k : Variable)
    → ((variables : List Variable) → slice_get (with_variables (j ∷ (k ∷ variables)) more) 1 ≡ Some k)
    → slice_get (with_variables (if b then j ∷ (k ∷ variables) else (j ∷ (k ∷ variables)) ++ m ∷ []) more) 1 ≡ Some k
second_by true variables more m j k f = f variables
second_by false variables more m j k f = f (variables ++ m ∷ [])

second_stays : (more variables : List Variable) (j k : Variable) → slice_get (with_variables (j ∷ (k ∷ variables)) more) 1 ≡ Some k
second_stays [] variables j k = refl
second_stays (m ∷ more) variables j k =
    second_by (list_any (same_variable m) (j ∷ (k ∷ variables))) variables more m j k (λ variables. second_stays more variables j k)

first_variables : variables_in (facts.Atom at_least_nought) ≡ whole point_side ∷ []
unfolding variables_in
first_variables = ap variables_in (sym (facts.rolls-Atom at_least_nought)) ∙ fold-roll-Fact (List Variable) variables_step (Fact-F.Atom at_least_nought)

second_variable : (rest : List Fact) → slice_get (variables_of (facts.Atom at_least_nought ∷ rest)) 1 ≡ Some (whole point_side)
unfolding variables_of same_variable
second_variable rest =
    ap (λ variables. slice_get (with_variables (whole caller_side ∷ []) (variables ++ flat_map variables_in rest)) 1) first_variables
    ∙ second_stays (flat_map variables_in rest) [] (whole caller_side) (whole point_side)

pub facts_second : (g : Grammar) (marks : Marks) (holder : Option (ℕ × ℕ)) (alt : CoreAlt)
    → slice_get (variables_of (gap_facts g marks holder alt)) 1 ≡ Some (whole point_side)
unfolding gap_facts is_place
facts_second g marks holder alt =
    let scope : Scope = opening g marks Later caller_side alt in
    let rest : List Fact = holder_facts g marks holder alt ++ gap_terms scope alt.order in
    ap (λ first. slice_get (variables_of ((first ++ less point (length_of scope)) ++ rest)) 1) begins
    ∙ second_variable (less point (length_of scope) ++ rest)

rule_second : (g : Grammar) (marks : Marks) (rule : Option CoreRule) (number : ℕ) (found : CoreAlt) → alt_of rule number ≡ Some found
    → slice_get (variables_of (rule_gap g marks rule (alt_of rule number))) 1 ≡ Some (whole point_side)
unfolding rule_gap
rule_second g marks None number found e = absurd (cc)
rule_second g marks (Some rule) number found e =
    ap (λ alt. slice_get (variables_of (rule_gap g marks (Some rule) alt)) 1) e ∙ facts_second g marks rule.holder found

some_second : {A : Type 0} (xs : List A) (x : A) → slice_get xs 1 ≡ Some x → 1 < length xs
some_second [] x e = absurd (cc)
some_second (y ∷ []) x e = absurd (cc)
some_second (y ∷ (z ∷ xs)) x e = omega arith

pub gaps_are_bounded : GapsAreBounded
unfolding gap
gaps_are_bounded g marks rule alt found =
    let members : List Fact = rule_gap g marks (rule_at g rule) (alt_at g (rule, alt)) in
    let second = rule_second g marks (rule_at g rule) alt found.0 found.1 in
    let size : length (map bounds_of (variables_of members)) ≡ length (variables_of members) = length-map (variables_of members) bounds_of in
    let some : 1 < length (variables_of members) = some_second (variables_of members) (whole point_side) second in
    record { bounded = (facts_are_part members).0.bounded; there = omega (arith, size, some); place = second }
