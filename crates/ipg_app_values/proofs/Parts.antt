-- The parts of what is noted of a cycle, as the code puts them together.
use Rattle.std.proofs.Common.{◌≡◌, ℕ, zero, suc, ℤ, Bool, List, [], ◌∷◌, length, map, refl, sym, ap, ◌∙◌}
use Rattle.std.specs.Prelude.{slice_set}
use Rattle.ipg_core.specs.Grammar.{Grammar}
use Rattle.ipg_graph.specs.declared.edge.Edge.{Edge}
use Rattle.ipg_lin.specs.declared.formula.Boxed.{Boxed}
use Rattle.ipg_facts_forms.specs.Numbers.{bounds_of}
use Rattle.ipg_facts.specs.Keep.{keep, variables}
use Rattle.ipg_app_values.specs.declared.values.Conditions.{Conditions}
use Rattle.ipg_app_values.specs.Seen.{AreOf}

length_set : {A : Type 0} (items : List A) (i : ℕ) (y : A) → length (slice_set items i y) ≡ length items
length_set [] i y = refl
length_set (x ∷ items) zero y = refl
length_set (x ∷ items) (suc i) y = ap suc (length_set items i y)

length_map : {A B : Type 0} (f : A → B) (items : List A) → length (map f items) ≡ length items
length_map f [] = refl
length_map f (x ∷ items) = ap suc (length_map f items)

-- there are bounds for each variable
as_many : (core : Grammar) (marks : List Bool) (edge : Edge) → length (keep core marks edge).1.bounds ≡ length (variables core marks edge)
unfolding keep variables
as_many core marks edge = length_map bounds_of (variables core marks edge)

pub as_many_on : (core : Grammar) (marks : List Bool) (edge : Edge) (eoi : ℤ) (c : Conditions) → AreOf (keep core marks edge) eoi c
    → length (variables core marks edge) ≡ length c.bounds.bounds
as_many_on core marks edge eoi c are =
    sym (as_many core marks edge) ∙ sym (length_set (keep core marks edge).1.bounds 0 (eoi, eoi)) ∙ sym (ap (λ (b : Boxed). length b.bounds) are.bounds)
