-- The members of terms for each aim are those that the conditions name.
use Rattle.std.proofs.Common.{◌≡◌, ℕ, List, [], ◌∷◌, ◌++◌, ap, refl, ◌∙◌, Option, Some, None}
use Rattle.std.specs.Prelude.{slice_get}
use Rattle.ipg_core.specs.declared.grammar.CoreExpr.{CoreExpr}
use Rattle.ipg_core.specs.declared.grammar.CoreSlot.{CoreSlot}
use Rattle.ipg_core.specs.declared.grammar.CoreTerm.{CoreTerm}
use Rattle.ipg_core.specs.declared.grammar.CoreTerm.TheVariants.{Slot, Set, Test, Repeat, Many, Pick}
use Rattle.ipg_facts.specs.declared.aim.Aim.TheVariants.{Keep, Gap}
use Rattle.ipg_facts_forms.specs.declared.fact.Fact.{Fact}
use Rattle.ipg_facts_forms.specs.declared.fact.Fact.TheVariants.{All, Any}
use Rattle.ipg_facts.specs.Reading.{Scope, read}
use Rattle.ipg_facts.specs.Members.{slot_members, branches, members, passed, terms_members}
use Rattle.ipg_facts.specs.Gap.{slot_gap, gap_branches, gap_members, gap_terms}
use Rattle.ipg_facts.specs.Aim.{slot_for, branches_for, members_for, terms_for}

module _ (scope : Scope) (term : ℕ) (other : CoreSlot) where
  branches_keep : (earlier : List Fact) (cases : List (CoreExpr × CoreSlot))
      → branches_for Keep scope term earlier cases other ≡ branches scope term earlier cases other
  unfolding branches_for branches slot_for
  branches_keep earlier [] = refl
  branches_keep earlier (c ∷ cases) =
      ap (λ rest. All (earlier ++ ((read scope c.0).holds ++ slot_members scope term c.1)) ∷ rest) (branches_keep (earlier ++ (read scope c.0).fails) cases)

  branches_gap : (earlier : List Fact) (cases : List (CoreExpr × CoreSlot))
      → branches_for Gap scope term earlier cases other ≡ gap_branches scope term earlier cases other
  unfolding branches_for gap_branches slot_for
  branches_gap earlier [] = refl
  branches_gap earlier (c ∷ cases) =
      ap (λ rest. All (earlier ++ ((read scope c.0).holds ++ slot_gap scope term c.1)) ∷ rest) (branches_gap (earlier ++ (read scope c.0).fails) cases)

members_keep : (scope : Scope) (term : ℕ) (at : Option CoreTerm) → members_for Keep scope term at ≡ members scope term at
unfolding members_for members slot_for
members_keep scope term None = refl
members_keep scope term (Some (Slot slot)) = refl
members_keep scope term (Some (Set attr e)) = refl
members_keep scope term (Some (Test e)) = refl
members_keep scope term (Some (Repeat first last item from to)) = refl
members_keep scope term (Some (Many item from to)) = refl
members_keep scope term (Some (Pick cases other)) = ap (λ found. Any found ∷ []) (branches_keep scope term other [] cases)

members_gap : (scope : Scope) (term : ℕ) (at : Option CoreTerm) → members_for Gap scope term at ≡ gap_members scope term at
unfolding members_for gap_members slot_for
members_gap scope term None = refl
members_gap scope term (Some (Slot slot)) = refl
members_gap scope term (Some (Set attr e)) = refl
members_gap scope term (Some (Test e)) = refl
members_gap scope term (Some (Repeat first last item from to)) = refl
members_gap scope term (Some (Many item from to)) = refl
members_gap scope term (Some (Pick cases other)) = ap (λ found. Any found ∷ []) (branches_gap scope term other [] cases)

pub terms_keep : (scope : Scope) (order : List ℕ) → terms_for Keep scope order ≡ terms_members scope order
unfolding terms_for terms_members
terms_keep scope [] = refl
terms_keep scope (term ∷ order) =
    ap (λ found. found ++ terms_for Keep (passed scope term) order) (members_keep scope term (slice_get scope.terms term))
    ∙ ap (λ rest. members scope term (slice_get scope.terms term) ++ rest) (terms_keep (passed scope term) order)

pub terms_gap : (scope : Scope) (order : List ℕ) → terms_for Gap scope order ≡ gap_terms scope order
unfolding terms_for gap_terms
terms_gap scope [] = refl
terms_gap scope (term ∷ order) =
    ap (λ found. found ++ terms_for Gap (passed scope term) order) (members_gap scope term (slice_get scope.terms term))
    ∙ ap (λ rest. gap_members scope term (slice_get scope.terms term) ++ rest) (terms_gap (passed scope term) order)
