-- The open goals as they lie in memory: each is a front of the facts, and what the case adds.
use Rattle.std.specs.Prelude.{◌≡◌, ℕ, ◌≤◌, Bool, true, false, ◌&&◌, List, [], ◌∷◌, ◌++◌, map, take, length, reverse, Option, None, Some}
use Rattle.ipg_lin.specs.declared.formula.Formula.{Formula}
use Rattle.ipg_cert.specs.Facts.{Fact, AtMost, Choice, facts_of}
use Rattle.ipg_cert.specs.Checks.{refutes}
use Rattle.ipg_cert.specs.Seen.{seen, all_seen}
use Rattle.ipg_cert.specs.declared.refutation.Step.{Step}
use Rattle.ipg_cert.specs.declared.fact_ref.FactRef.{FactRef}
use Rattle.ipg_cert.specs.declared.fact_ref.FactRef.TheVariants as fact_ref
use Rattle.ipg_cert.specs.declared.goal.Goal.{Goal}
use Rattle.ipg_cert.specs.declared.goal.Added.{Added}
use Rattle.ipg_cert.specs.declared.goal.Added.TheVariants as added

abbrev pub added_facts : Added → List Fact
added_facts (added.Case bound) = seen (fact_ref.Limit bound) ∷ []
added_facts (added.Member member) = facts_of member.now

abbrev pub facts_at : List FactRef → Goal → List Fact
facts_at facts goal = all_seen (take goal.kept facts) ++ added_facts goal.added

-- the goals, the next one first
abbrev pub open_goals : List FactRef → List Goal → List (List Fact)
open_goals facts goals = map (facts_at facts) (reverse goals)

-- each goal keeps no more facts than the one that comes before it
abbrev pub IsStack : ℕ → List Goal → Type 0
IsStack most [] = Unit {0}
IsStack most (goal ∷ goals) = (goal.kept ≤ most) × IsStack goal.kept goals

abbrev pub AreOpen : ℕ → List Goal → Type 0
AreOpen most goals = IsStack most (reverse goals)

-- the facts of the goal are the facts that hold now, behind the front that it keeps
abbrev pub Enters : List FactRef → List FactRef → Goal → Type 0
Enters old new goal = ((more : List FactRef) × (new ≡ take goal.kept old ++ more)) × (all_seen new ≡ facts_at old goal)

-- the step closes the goal of these facts, if it may, and leaves these goals
abbrev pub Steps : ℕ → Step → List FactRef → List Goal → List Goal → Bool → Type 0
Steps vars step facts old new on =
    (steps : List Step) → refutes vars (step ∷ steps) (all_seen facts ∷ open_goals facts old) ≡ (on && refutes vars steps (open_goals facts new))

-- the members of an Any
abbrev pub choice_in : Option Fact → Option (List Formula)
choice_in (Some (Choice members)) = Some members
choice_in (Some (AtMost form)) = None
choice_in None = None

-- a goal that keeps so many facts, and adds the member
abbrev pub IsCase : ℕ → Formula → Goal → Type 0
IsCase kept member goal = (goal.kept ≡ kept) × (added_facts goal.added ≡ facts_of member)

-- a goal for each member, in their order
abbrev pub AreCases : ℕ → List Formula → List Goal → Type 0
AreCases kept [] [] = Unit {0}
AreCases kept [] (goal ∷ goals) = ⊥
AreCases kept (member ∷ members) [] = ⊥
AreCases kept (member ∷ members) (goal ∷ goals) = IsCase kept member goal × AreCases kept members goals

-- the goals for the members come before the old ones
abbrev pub OpensEach : ℕ → List Formula → List Goal → List Goal → Type 0
OpensEach kept members old new = (cases : List Goal) × (reverse new ≡ cases ++ reverse old) × AreCases kept members cases

-- the next goal's facts are at hand, or there is none
abbrev pub Nexts : List FactRef → List FactRef → List Goal → List Goal → Bool → Type 0
Nexts old new goals rest true = (open_goals old goals ≡ all_seen new ∷ open_goals new rest) × AreOpen (length new) rest
Nexts old new goals rest false = open_goals old goals ≡ []
