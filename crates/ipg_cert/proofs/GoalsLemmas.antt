-- Goals that a step opens, and the facts that stay for those below them.
use Rattle.std.proofs.Common.{◌≡◌, ℕ, ◌+◌, ◌<◌, ◌≤◌, Bool, true, false, ◌&&◌, List, [], ◌∷◌, ◌++◌, map, take, drop}
use Rattle.std.proofs.Common.{length, get_or, reverse, refl, sym, ◌∙◌, ap, subst, arith, eq-eqb, length-append}
use Rattle.std.specs.Prelude.{Option, None, Some}
use Rattle.std.proofs.lemmas.List.{drop_more, take_all, take-take, take-append-le, reverse-append, map-append, length-take-le, length-reverse}
use Rattle.ipg_lin.specs.declared.formula.Formula.{Formula}
use Rattle.ipg_cert.specs.Facts.{Fact, AtMost, Choice, facts_of}
use Rattle.ipg_cert.specs.Checks.{cases_of, is_choice, members_in, refutes}
use Rattle.ipg_cert.specs.Seen.{all_seen}
use Rattle.ipg_cert.specs.Goals.{facts_at, added_facts, open_goals, IsStack, AreOpen, IsCase, AreCases, OpensEach, choice_in, Enters, Nexts}
use Rattle.ipg_cert.specs.declared.fact_ref.FactRef.{FactRef}
use Rattle.ipg_cert.specs.declared.goal.Goal.{Goal}
use Rattle.ipg_cert.specs.declared.refutation.Step.{Step}

reverse_push : (goals : List Goal) (goal : Goal) → reverse (goals ++ goal ∷ []) ≡ goal ∷ reverse goals
reverse_push goals goal = reverse-append goals (goal ∷ [])

-- a case more in front
pub open_more : (kept : ℕ) (members : List Formula) (i : ℕ) (first old new : List Goal) (goal : Goal) (d : Formula) → i < length members
    → OpensEach kept (drop (i + 1) members) first old
    → IsCase kept (get_or members i d) goal → new ≡ old ++ goal ∷ [] → OpensEach kept (drop i members) first new
open_more kept members i first old new goal d within opened is e = (
  goal ∷ opened.0,
  ap reverse e ∙ reverse_push old goal ∙ ap (λ gs. goal ∷ gs) opened.1,
  subst (λ ms. AreCases kept ms (goal ∷ opened.0)) (sym (drop_more members i d within)) (is, opened.2),
)

cases_facts : (facts : List FactRef) (members : List Formula) (cases : List Goal) → AreCases (length facts) members cases
    → map (facts_at facts) cases ≡ cases_of (all_seen facts) members
cases_facts facts [] [] h = refl
cases_facts facts [] (goal ∷ cases) h = absurd h
cases_facts facts (m ∷ members) [] h = absurd h
cases_facts facts (m ∷ members) (goal ∷ cases) h =
    ap (λ fs. (all_seen fs ++ added_facts goal.added) ∷ map (facts_at facts) cases) (take_all goal.kept facts (omega (arith, h.0.0)))
    ∙ ap (λ fs. (all_seen facts ++ fs) ∷ map (facts_at facts) cases) h.0.1
    ∙ ap (λ gs. (all_seen facts ++ facts_of m) ∷ gs) (cases_facts facts members cases h.1)

cases_stack : (most : ℕ) (members : List Formula) (cases rest : List Goal) → AreCases most members cases → IsStack most rest → IsStack most (cases ++ rest)
cases_stack most [] [] rest h stack = stack
cases_stack most [] (goal ∷ cases) rest h stack = absurd h
cases_stack most (m ∷ members) [] rest h stack = absurd h
cases_stack most (m ∷ members) (goal ∷ cases) rest h stack =
    (omega (arith, h.0.0), subst (λ n. IsStack n (cases ++ rest)) (sym h.0.0) (cases_stack most members cases rest h.1 stack))

chosen : (parts : ℕ) (o : Option Fact) (members : List Formula) → Some members ≡ choice_in o → length members ≡ parts
    → (is_choice parts o ≡ true) × (members_in o ≡ members)
chosen parts None members e n = absurd (cc)
chosen parts (Some (AtMost form)) members e n = absurd (cc)
chosen parts (Some (Choice ms)) members e n = let same : ms ≡ members = cc in (eq-eqb (length ms) parts (ap length same ∙ n), same)

-- the cases of an Any are its goals
pub either_steps : (vars fact parts : ℕ) (facts : List FactRef) (old new : List Goal) (o : Option Fact) (members : List Formula) (steps : List Step)
    → Some members ≡ choice_in o → length members ≡ parts → OpensEach (length facts) members old new
    → (is_choice parts o && refutes vars steps (cases_of (all_seen facts) (members_in o) ++ open_goals facts old)) ≡ refutes vars steps (open_goals facts new)
either_steps vars fact parts facts old new o members steps e n opened =
    ap (λ b. b && refutes vars steps (cases_of (all_seen facts) (members_in o) ++ open_goals facts old)) (chosen parts o members e n).0
    ∙ ap (λ ms. refutes vars steps (cases_of (all_seen facts) ms ++ open_goals facts old)) (chosen parts o members e n).1
    ∙ sym (ap (refutes vars steps) (ap (map (facts_at facts)) opened.1 ∙ map-append (facts_at facts) opened.0 (reverse old)
    ∙ ap (λ gs. gs ++ open_goals facts old) (cases_facts facts members opened.0 opened.2)))

pub either_stack : (most : ℕ) (members : List Formula) (old new : List Goal) → OpensEach most members old new → AreOpen most old → AreOpen most new
either_stack most members old new opened stack = subst (IsStack most) (sym opened.1) (cases_stack most members opened.0 (reverse old) opened.2 stack)

-- the goals below keep their facts where the front of the facts stays
below_kept : (k most : ℕ) (facts more : List FactRef) (goals : List Goal) → k ≤ most → most ≤ length facts → IsStack k goals
    → map (facts_at (take most facts ++ more)) goals ≡ map (facts_at facts) goals
below_kept k most facts more [] below within stack = refl
below_kept k most facts more (goal ∷ goals) below within stack =
    let front : take goal.kept (take most facts ++ more) ≡ take goal.kept facts =
    take-append-le goal.kept (take most facts) more (omega (arith, length-take-le most facts within, stack.0))
    ∙ take-take goal.kept most facts (omega (arith, stack.0)) in
    ap (λ fs. (all_seen fs ++ added_facts goal.added) ∷ map (facts_at (take most facts ++ more)) goals) front
    ∙ ap (λ gs. facts_at facts goal ∷ gs) (below_kept goal.kept most facts more goals (omega (arith, stack.0)) within stack.1)

stack_wider : (k most : ℕ) (goals : List Goal) → k ≤ most → IsStack k goals → IsStack most goals
stack_wider k most [] le stack = tt
stack_wider k most (goal ∷ goals) le stack = (omega (arith, stack.0), stack.1)

-- the goal on top is taken off, and its facts are at hand
pub entered : (old new : List FactRef) (goals rest : List Goal) (goal : Goal) → goals ≡ rest ++ goal ∷ [] → AreOpen (length old) goals → Enters old new goal
    → Nexts old new goals rest true
entered old new goals rest goal e ordered enters =
    let turned : reverse goals ≡ goal ∷ reverse rest = ap reverse e ∙ reverse_push rest goal in
    let stack : (goal.kept ≤ length old) × IsStack goal.kept (reverse rest) = subst (IsStack (length old)) turned ordered in
    let more = enters.0.0 in
    let front : new ≡ take goal.kept old ++ more = enters.0.1 in (
      ap (map (facts_at old)) turned
          ∙ ap (λ fs. fs ∷ map (facts_at old) (reverse rest)) (sym enters.1)
          ∙ ap (λ gs. all_seen new ∷ gs) (sym (below_kept goal.kept goal.kept old more (reverse rest) (omega arith) stack.0 stack.1)
          ∙ ap (λ fs. map (facts_at fs) (reverse rest)) (sym front)),
      stack_wider goal.kept (length new) (reverse rest)
          (omega (arith, ap length front, length-append (take goal.kept old) more, length-take-le goal.kept old stack.0)) stack.1,
    )

pub kept_within : (old : List FactRef) (goals rest : List Goal) (goal : Goal) → goals ≡ rest ++ goal ∷ [] → AreOpen (length old) goals → goal.kept ≤ length old
kept_within old goals rest goal e ordered =
    let stack : (goal.kept ≤ length old) × IsStack goal.kept (reverse rest) = subst (IsStack (length old)) (ap reverse e ∙ reverse_push rest goal) ordered in
    stack.0

none_open : (vars : ℕ) (facts : List FactRef) (goals : List Goal) → length goals ≡ 0 → refutes vars [] (open_goals facts goals) ≡ true
none_open vars facts [] h = refl
none_open vars facts (goal ∷ goals) h = absurd (omega arith)

some_open : (vars : ℕ) (facts : List FactRef) (gs : List Goal) → 0 < length gs → refutes vars [] (map (facts_at facts) gs) ≡ false
some_open vars facts [] h = absurd (omega arith)
some_open vars facts (goal ∷ goals) h = refl

-- whether no goal is left over
pub left_over : (vars : ℕ) (facts : List FactRef) (goals : List Goal) (none : Bool) → (none ≡ true → length goals ≡ 0) → (length goals ≡ 0 → none ≡ true)
    → none ≡ refutes vars [] (open_goals facts goals)
left_over vars facts goals true f g = sym (none_open vars facts goals (f refl))
left_over vars facts [] false f g = g refl
left_over vars facts (goal ∷ goals) false f g = sym (some_open vars facts (reverse (goal ∷ goals)) (omega (arith, length-reverse (goal ∷ goals))))
