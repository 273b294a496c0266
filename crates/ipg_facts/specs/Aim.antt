-- The members of terms, by what they are put for.
use Rattle.std.specs.Prelude.{ℕ, List, [], ◌∷◌, ◌++◌, Option, Some, slice_get}
use Rattle.ipg_core.specs.declared.grammar.CoreExpr.{CoreExpr}
use Rattle.ipg_core.specs.declared.grammar.CoreSlot.{CoreSlot}
use Rattle.ipg_core.specs.declared.grammar.CoreTerm.{CoreTerm}
use Rattle.ipg_core.specs.declared.grammar.CoreTerm.TheVariants.{Slot, Pick}
use Rattle.ipg_facts.specs.declared.aim.Aim.{Aim}
use Rattle.ipg_facts.specs.declared.aim.Aim.TheVariants.{Keep, Gap}
use Rattle.ipg_facts_forms.specs.declared.fact.Fact.{Fact}
use Rattle.ipg_facts_forms.specs.declared.fact.Fact.TheVariants.{All, Any}
use Rattle.ipg_facts.specs.Reading.{Scope, read}
use Rattle.ipg_facts.specs.Members.{slot_members, members, passed}
use Rattle.ipg_facts.specs.Gap.{slot_gap}

unfoldable pub slot_for : Aim → Scope → ℕ → CoreSlot → List Fact
slot_for Keep scope term slot = slot_members scope term slot
slot_for Gap scope term slot = slot_gap scope term slot

unfoldable pub branches_for : Aim → Scope → ℕ → List Fact → List (CoreExpr × CoreSlot) → CoreSlot → List Fact
branches_for aim scope term earlier [] other = All (earlier ++ slot_for aim scope term other) ∷ []
branches_for aim scope term earlier (c ∷ cases) other =
    All (earlier ++ ((read scope c.0).holds ++ slot_for aim scope term c.1))
    ∷ branches_for aim scope term (earlier ++ (read scope c.0).fails) cases other

unfoldable pub members_for : Aim → Scope → ℕ → Option CoreTerm → List Fact
members_for aim scope term (Some (Slot slot)) = slot_for aim scope term slot
members_for aim scope term (Some (Pick cases other)) = Any (branches_for aim scope term [] cases other) ∷ []
members_for aim scope term at = members scope term at

unfoldable pub terms_for : Aim → Scope → List ℕ → List Fact
terms_for aim scope [] = []
terms_for aim scope (term ∷ order) = members_for aim scope term (slice_get scope.terms term) ++ terms_for aim (passed scope term) order
