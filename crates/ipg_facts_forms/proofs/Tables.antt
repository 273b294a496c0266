-- The table of variables, as the list of them.
use Rattle.std.proofs.Common.{◌≡◌, ℕ, ◌+◌, ◌||◌, ◌≤◌, Bool, true, false, cond, not, List, [], ◌∷◌}
use Rattle.std.proofs.Common.{◌++◌, map, length, None, Some, refl, ap, ◌∙◌, sym, arith, nat_lt}
use Rattle.std.specs.Prelude.{if◌then◌else◌, flat_map, get_or, drop, ◌<◌}
use Rattle.ipg_facts_forms.specs.declared.fact.Fact.{Fact, fold-roll-Fact}
use Rattle.ipg_facts_forms.specs.declared.fact.Fact.TheVariants as facts
use Rattle.ipg_facts_forms.specs.declared.fact.Fact.TheOpen.{Fact-F}
use Rattle.ipg_facts_variables.specs.declared.variable.Variable.{Variable}
use Rattle.ipg_facts_variables.specs.Variable.{same_variable}
use Rattle.std.specs.List.{position, position_or_len, list_any}
use Rattle.std.proofs.lemmas.List.Sums.{prefix_len-le-length}
use Rattle.std.proofs.lemmas.Bool.Decides.{nat_tests}
use denote.Ref.{Bor}
use Rattle.ipg_facts_forms.specs.Pieces.{at_item}
use Rattle.ipg_facts_forms.specs.Numbers.{with_variable, with_variables, place, variables_in, variables_step}

abbrev pub shown : List (Bor Variable) → List Variable
shown variables = map (λ variable. variable.now) variables

place_shown : (p : Variable → Bool) (variables : List (Bor Variable))
    → position_or_len (λ variable. p variable.now) variables ≡ position_or_len p (shown variables)
place_shown p [] = refl
place_shown p (variable ∷ variables) = ap (λ n. cond (not (p variable.now)) (1 + n) 0) (place_shown p variables)

any_shown : (p : Variable → Bool) (variables : List (Bor Variable)) → list_any (λ variable. p variable.now) variables ≡ list_any p (shown variables)
any_shown p [] = refl
any_shown p (variable ∷ variables) = ap (λ b. p variable.now || b) (any_shown p variables)

shown_more : (variables : List (Bor Variable)) (variable : Bor Variable) → shown (variables ++ variable ∷ []) ≡ shown variables ++ variable.now ∷ []
shown_more [] variable = refl
shown_more (k ∷ variables) variable = ap (λ names. k.now ∷ names) (shown_more variables variable)

chosen : (b : Bool) (variables : List (Bor Variable)) (variable : Bor Variable)
    → shown (if b then variables else variables ++ variable ∷ []) ≡ (if b then shown variables else shown variables ++ variable.now ∷ [])
chosen true variables variable = refl
chosen false variables variable = shown_more variables variable

-- a variable put into the table
pub shown_with : (variables : List (Bor Variable)) (variable : Bor Variable)
    → shown (if list_any (λ k. same_variable variable.now k.now) variables then variables else variables ++ variable ∷ [])
    ≡ with_variable (shown variables) variable.now
shown_with variables variable =
    chosen (list_any (λ k. same_variable variable.now k.now) variables) variables variable
    ∙ ap (λ b. if b then shown variables else shown variables ++ variable.now ∷ []) (any_shown (same_variable variable.now) variables)

there : (b : Bool) (n at : ℕ) → Some n ≡ cond b (Some at) None → n ≡ at
there true n at e = cc
there false n at e = absurd (cc)

nowhere : (b : Bool) (at : ℕ) → None ≡ cond b (Some at) None → b ≡ false
nowhere true at e = absurd (cc)
nowhere false at e = refl

not_below : (at count : ℕ) → at ≤ count → nat_lt at count ≡ false → count ≡ at
not_below at count h e = grind (arith, nat_tests)

pub found_there : (variable : Variable) (variables : List (Bor Variable)) (n : ℕ) → Some n ≡ position (λ k. same_variable variable k.now) variables
    → n ≡ place (shown variables) variable
found_there variable variables n e = there _ n _ e ∙ place_shown (same_variable variable) variables

pub found_nowhere : (variable : Variable) (variables : List (Bor Variable)) → None ≡ position (λ k. same_variable variable k.now) variables
    → length variables ≡ place (shown variables) variable
found_nowhere variable variables e =
    let test : Bor Variable → Bool = λ k. not (same_variable variable k.now) in
    not_below _ _ (prefix_len-le-length test variables) (nowhere _ _ e) ∙ place_shown (same_variable variable) variables

-- variables one after another
pub with_variables_append : (variables one two : List Variable) → with_variables variables (one ++ two) ≡ with_variables (with_variables variables one) two
with_variables_append variables [] two = refl
with_variables_append variables (k ∷ one) two = with_variables_append (with_variable variables k) one two

-- the variables of the members of a fact
pub variables_joined : (facts : List Fact) → flat_map (λ variables. variables) (map variables_in facts) ≡ flat_map variables_in facts
variables_joined [] = refl
variables_joined (fact ∷ facts) = ap (λ variables. variables_in fact ++ variables) (variables_joined facts)

pub facts_more : (variables : List Variable) (facts : List Fact) (i : ℕ) (fact : Fact) (all : List Variable) → i < length facts → fact ≡ get_or facts i fact
    → with_variables variables (flat_map variables_in (drop i facts)) ≡ all
    → with_variables (with_variables variables (variables_in fact)) (flat_map variables_in (drop (i + 1) facts)) ≡ all
facts_more variables facts i fact all within is h =
    sym (with_variables_append variables (variables_in fact) (flat_map variables_in (drop (i + 1) facts)))
    ∙ sym (ap (λ fs. with_variables variables (flat_map variables_in fs)) (at_item facts i fact is within)) ∙ h

pub variables_in_all : (members : List Fact) → flat_map variables_in members ≡ variables_in (facts.All members)
unfolding variables_in
variables_in_all members =
    sym (variables_joined members) ∙ sym (ap variables_in (sym (facts.rolls-All members)) ∙ fold-roll-Fact (List Variable) variables_step (Fact-F.All members))

pub variables_in_any : (members : List Fact) → flat_map variables_in members ≡ variables_in (facts.Any members)
unfolding variables_in
variables_in_any members =
    sym (variables_joined members) ∙ sym (ap variables_in (sym (facts.rolls-Any members)) ∙ fold-roll-Fact (List Variable) variables_step (Fact-F.Any members))
