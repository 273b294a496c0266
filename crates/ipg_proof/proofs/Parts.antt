-- The conditions of edges, alone and along a cycle, have bounds for each of their variables.
use Rattle.std.proofs.Common.{◌≡◌, ℕ, ◌<◌, List, [], ◌∷◌, ◌++◌, map, length, refl, sym, ap, ◌∙◌, subst, arith, pos, Option, Some, None}
use Rattle.std.specs.Prelude.{slice_get, option_map, option_to_list}
use Rattle.std.specs.List.{flat_map}
use Rattle.ipg_core.specs.Grammar.{Grammar}
use Rattle.ipg_core.specs.MustTouch.{Marks}
use Rattle.ipg_graph.specs.declared.edge.Edge.{Edge}
use Rattle.ipg_lin.specs.declared.formula.Formula.{Formula}
use Rattle.ipg_lin.specs.declared.formula.Boxed.{Boxed}
use Rattle.ipg_facts.specs.Keep.{keep}
use Rattle.ipg_facts_forms.specs.Joint.{joint}
use Rattle.ipg_facts_laws.specs.Laws.{IsPart, ArePartsWith, ConditionsAreParts}
use Rattle.ipg_facts_laws.specs.Bounded.{JointIsPart}
use Rattle.ipg_proof.specs.Calls.{CallGraph, keeps, joint_of}

pub some_same : {A : Type 0} (a b : A) → Some a ≡ Some b → a ≡ b
some_same a b e = cc

pub none_some : {A : Type 0} (a : A) → ◌≡◌ {A = Option A} None (Some a) → ⊥
none_some a e = cc

module _ (parts_are : ConditionsAreParts) (g : Grammar) (marks : Marks) where
  pub keep_is_part : (found : Option Edge) (made : Formula × Boxed) → option_map (keep g marks) found ≡ Some made → IsPart made
  keep_is_part None made e = absurd (none_some made e)
  keep_is_part (Some edge) made e = subst IsPart (some_same (keep g marks edge) made e) (parts_are g marks (edge ∷ [])).0.0

-- a cycle's edges, as far as they are some
edges_at : CallGraph → List ℕ → List Edge
edges_at calls cycle = flat_map (λ e. option_to_list (slice_get calls.edges e)) cycle

one_more : (g : Grammar) (marks : Marks) (found : Option Edge) (edges : List Edge)
    → option_to_list (option_map (keep g marks) found) ++ map (keep g marks) edges ≡ map (keep g marks) (option_to_list found ++ edges)
one_more g marks None edges = refl
one_more g marks (Some edge) edges = refl

keeps_are : (calls : CallGraph) (cycle : List ℕ) → keeps calls cycle ≡ map (keep calls.grammar calls.marks) (edges_at calls cycle)
unfolding edges_at
keeps_are calls [] = refl
keeps_are calls (e ∷ cycle) =
    ap (λ parts. option_to_list (option_map (keep calls.grammar calls.marks) (slice_get calls.edges e)) ++ parts) (keeps_are calls cycle)
    ∙ one_more calls.grammar calls.marks (slice_get calls.edges e) (edges_at calls cycle)

joint_by : JointIsPart → (parts : List (Formula × Boxed)) → ArePartsWith (pos 0, pos 1073741824) parts → 0 < length parts → IsPart (joint parts)
joint_by is [] are some = absurd (let h : ⊥ = omega (arith, some) in h)
joint_by is (part ∷ parts) are some = (is (pos 0, pos 1073741824) part parts are).0.0

pub conditions_of_cycle : ConditionsAreParts → (calls : CallGraph) (cycle : List ℕ) → ArePartsWith (pos 0, pos 1073741824) (keeps calls cycle)
conditions_of_cycle parts_are calls cycle =
    subst (ArePartsWith (pos 0, pos 1073741824)) (sym (keeps_are calls cycle)) (parts_are calls.grammar calls.marks (edges_at calls cycle))

pub joint_is_part : ConditionsAreParts → JointIsPart → (calls : CallGraph) (cycle : List ℕ) → 0 < length (keeps calls cycle) → IsPart (joint_of calls cycle)
joint_is_part parts_are is calls cycle some =
    joint_by is (keeps calls cycle) (conditions_of_cycle parts_are calls cycle) some
