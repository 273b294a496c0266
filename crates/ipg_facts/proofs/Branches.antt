-- Branches of a switch, one after another.
use Rattle.std.proofs.Common.{◌≡◌, ℕ, zero, suc, ◌+◌, ◌-◌, ◌<◌, ◌≤◌, List, [], ◌∷◌, ◌++◌, length, get_or, drop, sym, ap, ◌∙◌, append_assoc, append-nil, arith}
use Rattle.std.proofs.lemmas.List.{drop_all}
use Rattle.std.proofs.Math.Seq.{drop-cons}
use Rattle.ipg_core.specs.declared.grammar.CoreExpr.{CoreExpr}
use Rattle.ipg_core.specs.declared.grammar.CoreSlot.{CoreSlot}
use Rattle.ipg_facts_forms.specs.declared.fact.Fact.{Fact}
use Rattle.ipg_facts_forms.specs.declared.fact.Fact.TheVariants.{All}
use Rattle.ipg_facts.specs.Reading.{Scope, read}
use Rattle.std.specs.Prelude.{slice_get}
use Rattle.ipg_facts.specs.Members.{takes, is_whole, terms_members, passed, passed_all}
use Rattle.ipg_facts.specs.declared.aim.Aim.{Aim}
use Rattle.ipg_facts.specs.Aim.{slot_for, branches_for, members_for, terms_for}
use Rattle.std.proofs.Common.{Bool}
use Rattle.ipg_core.specs.Grammar.{Grammar}
use Rattle.ipg_core.specs.declared.grammar.CoreAlt.{CoreAlt}
use Rattle.ipg_graph.specs.declared.edge.Edge.{Edge}
use Rattle.ipg_facts_variables.specs.Variable.{caller_side}
use Rattle.ipg_facts.specs.Members.{own_at}
use Rattle.ipg_facts.specs.declared.edition.Edition.{Edition}
use Rattle.ipg_facts.specs.Keep.{opening, before, caller_facts}
use Rattle.ipg_facts_forms.specs.Pieces.{at_item}

module _ (aim : Aim) (scope : Scope) (term : ℕ) (other : CoreSlot) where
  pub branches_more : (cases : List (CoreExpr × CoreSlot)) (i : ℕ) (c : CoreExpr × CoreSlot) (made earlier all : List Fact) → i < length cases
      → c ≡ get_or cases i c
      → made ++ branches_for aim scope term earlier (drop i cases) other ≡ all
      → (made ++ All (earlier ++ ((read scope c.0).holds ++ slot_for aim scope term c.1)) ∷ [])
      ++ branches_for aim scope term (earlier ++ (read scope c.0).fails) (drop (i + 1) cases) other ≡ all
  unfolding branches_for
  branches_more cases i c made earlier all within is h =
      append_assoc made _ _ ∙ sym (ap (λ cs. made ++ branches_for aim scope term earlier cs other) (at_item cases i c is within)) ∙ h

  pub branches_all : (cases : List (CoreExpr × CoreSlot)) (i : ℕ) (made earlier all : List Fact) → length cases ≤ i
      → made ++ branches_for aim scope term earlier (drop i cases) other ≡ all → made ++ All (earlier ++ slot_for aim scope term other) ∷ [] ≡ all
  unfolding branches_for
  branches_all cases i made earlier all past h = sym (ap (λ cs. made ++ branches_for aim scope term earlier cs other) (drop_all i cases past)) ∙ h

module _ (scope : Scope) (other : CoreSlot) where
  pub takes_here : (cases : List (CoreExpr × CoreSlot)) (i b : ℕ) (c : CoreExpr × CoreSlot) (made all : List Fact) → i < length cases → c ≡ get_or cases i c
      → i ≡ b
      → made ++ takes scope (drop i cases) other (b - i) ≡ all → made ++ ((read scope c.0).holds ++ is_whole scope c.1.from c.1.to) ≡ all
  unfolding takes
  takes_here cases i b c made all within is e h =
      let z : zero ≡ b - i = omega arith in
      ap (λ n. made ++ takes scope (c ∷ drop (i + 1) cases) other n) z
      ∙ sym (ap (λ cs. made ++ takes scope cs other (b - i)) (at_item cases i c is within)) ∙ h

  pub takes_more : (cases : List (CoreExpr × CoreSlot)) (i b : ℕ) (c : CoreExpr × CoreSlot) (made all : List Fact) → i < length cases → c ≡ get_or cases i c
      → i < b
      → made ++ takes scope (drop i cases) other (b - i) ≡ all → (made ++ (read scope c.0).fails) ++ takes scope (drop (i + 1) cases) other (b - (i + 1)) ≡ all
  unfolding takes
  takes_more cases i b c made all within is e h =
      let z : suc (b - (i + 1)) ≡ b - i = omega arith in
      append_assoc made _ _ ∙ ap (λ n. made ++ takes scope (c ∷ drop (i + 1) cases) other n) z
      ∙ sym (ap (λ cs. made ++ takes scope cs other (b - i)) (at_item cases i c is within)) ∙ h

  pub takes_all : (cases : List (CoreExpr × CoreSlot)) (i b : ℕ) (made all : List Fact) → length cases ≤ i
      → made ++ takes scope (drop i cases) other (b - i) ≡ all → made ++ is_whole scope other.from other.to ≡ all
  unfolding takes
  takes_all cases i b made all past h = sym (ap (λ cs. made ++ takes scope cs other (b - i)) (drop_all i cases past)) ∙ h

-- terms that run, one after another
at_nat : (xs : List ℕ) (i : ℕ) → i < length xs → drop i xs ≡ get_or xs i 0 ∷ drop (i + 1) xs
at_nat xs i within =
    let next : suc i ≡ i + 1 = omega arith in
    drop-cons xs i 0 within ∙ ap (λ j. get_or xs i 0 ∷ drop j xs) next

pub terms_more : (aim : Aim) (scope : Scope) (order : List ℕ) (i : ℕ) (made all : List Fact) → i < length order
    → made ++ terms_for aim scope (drop i order) ≡ all → (made ++ members_for aim scope (get_or order i 0) (slice_get scope.terms (get_or order i 0)))
    ++ terms_for aim (passed scope (get_or order i 0)) (drop (i + 1) order) ≡ all
unfolding terms_for
terms_more aim scope order i made all within h =
    append_assoc made _ _ ∙ sym (ap (λ us. made ++ terms_for aim scope us) (at_nat order i within)) ∙ h

pub terms_all : (aim : Aim) (scope : Scope) (order : List ℕ) (i : ℕ) (made all : List Fact) → length order ≤ i
    → made ++ terms_for aim scope (drop i order) ≡ all
    → made ≡ all
unfolding terms_for
terms_all aim scope order i made all past h = sym (append-nil made) ∙ sym (ap (λ us. made ++ terms_for aim scope us) (drop_all i order past)) ∙ h

pub passed_more : (scope all : Scope) (order : List ℕ) (i : ℕ) → i < length order
    → passed_all scope (drop i order) ≡ all → passed_all (passed scope (get_or order i 0)) (drop (i + 1) order) ≡ all
unfolding passed_all
passed_more scope all order i within h = sym (ap (passed_all scope) (at_nat order i within)) ∙ h

pub all_passed : (scope all : Scope) (order : List ℕ) (i : ℕ) → length order ≤ i → passed_all scope (drop i order) ≡ all → scope ≡ all
unfolding passed_all
all_passed scope all order i past h = sym (ap (passed_all scope) (drop_all i order past)) ∙ h

pub caller_made : (g : Grammar) (marks : List Bool) (edition : Edition) (e : Edge) (caller : CoreAlt) (scope done : Scope) (order : List ℕ)
    (old mid new : List Fact)
    → scope ≡ opening g marks edition caller_side caller → order ≡ before e.term caller.order → mid ≡ old ++ terms_members scope order
    → done ≡ passed_all scope order
    → new ≡ mid ++ own_at done e.term e.branch → new ≡ old ++ caller_facts g marks edition e caller
unfolding caller_facts
caller_made g marks edition e caller scope done order old mid new is_scope is_order is_mid is_done is_new =
    is_new ∙ ap (λ m. m ++ own_at done e.term e.branch) is_mid ∙ append_assoc old (terms_members scope order) (own_at done e.term e.branch)
    ∙ ap (λ d. old ++ (terms_members scope order ++ own_at d e.term e.branch)) is_done
    ∙ ap (λ s. old ++ (terms_members s order ++ own_at (passed_all s order) e.term e.branch)) is_scope
    ∙ ap (λ o. old ++ (terms_members (opening g marks edition caller_side caller) o
    ++ own_at (passed_all (opening g marks edition caller_side caller) o) e.term e.branch)) is_order
