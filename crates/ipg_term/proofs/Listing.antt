-- Cycles that are refuted, one after another, up to the first that can loop.
use Rattle.std.proofs.Common.{◌≡◌, ℕ, List, [], ◌∷◌, ◌++◌, map, refl, sym, ap, subst, ◌∙◌, inl, inr, Option, Some, None, Result, Ok, Err}
use Rattle.std.specs.Prelude.{IsTrue, MatchResult}
use Rattle.std.specs.Result.{IsErrAnd}
use Rattle.ipg_graph.specs.Graph.{Graph}
use Rattle.ipg_graph.specs.Answers.{Listing, Spot, Start, At, End, IsNext, HasNoNext, IsRun}
use Rattle.ipg_graph.specs.Lending.{AnswersWith}
use Rattle.ipg_cert.specs.declared.refutation.Refutation.{Refutation}
use Rattle.ipg_cert.specs.Laws.{ChecksRefute}
use Rattle.ipg_proof.specs.Calls.{CallGraph, joint_of, cycle_checks}
use Rattle.ipg_graph.specs.Cycle.{IsSimpleCycle, StandsBefore}
use Rattle.ipg_solve_values.specs.Least.{IsLeast}
use Rattle.ipg_term.specs.Loops.{CanLoop}
use Rattle.ipg_term.specs.Refuted.{AreRefuted, IsLoop, IsReasonIn}
use Rattle.ipg_term.specs.declared.fault.TermWhy.{TermWhy}
use Rattle.ipg_term.specs.declared.fault.TermWhy.TheVariants.{MayLoop, Memory}
use Rattle.ipg_term.proofs.Ordered.{is_or_before, not_both}
use Rattle.ipg_term.proofs.Rising.{pushed}

abbrev cycles_in : List (List ℕ × Refutation) → List (List ℕ)
cycles_in cycles = map (λ entry. entry.0) cycles

behind : (cycles : List (List ℕ × Refutation)) (entry : List ℕ × Refutation) (later : List (List ℕ))
    → cycles_in (cycles ++ entry ∷ []) ++ later ≡ cycles_in cycles ++ entry.0 ∷ later
behind [] entry later = refl
behind (c ∷ cycles) entry later = ap (λ l. c.0 ∷ l) (behind cycles entry later)

-- what an answer says
pub next_of : (old new : Listing) (c : List ℕ) → AnswersWith old new (Some c) → IsNext old.graph old.at c
next_of old new c answer = subst (IsNext old.graph old.at) answer.1.0 answer.1.1.next

none_of : (old new : Listing) (answer : Option (List ℕ)) → AnswersWith old new answer → ((c : List ℕ) → answer ≡ Some c → ⊥) → HasNoNext old.graph old.at
none_of old new None h never = h.1.none
none_of old new (Some c) h never = absurd (never c refl)

-- an error is handed on
pub handed_on : {A : Type 0} (P : A → Type 0) (Q : TermWhy → Type 0) (why : TermWhy) (r : Result A TermWhy) → IsErrAnd r (λ e. e ≡ why) → Q why
    → MatchResult r P Q
handed_on P Q why (Ok a) h q = absurd h
handed_on P Q why (Err e) h q = subst Q (sym h) q

module _ (graph : Graph) (calls : CallGraph) where
  pub at_start : (at : Spot) → at ≡ Start → AreRefuted graph calls at []
  at_start at start = subst (λ s. AreRefuted graph calls s []) (sym start) (record { run = λ later run. run; check = tt; later = λ cycle simple can. tt })

  pub one_more : ChecksRefute → (at : Spot) (cycles : List (List ℕ × Refutation)) (c : List ℕ) (entry : List ℕ × Refutation) → AreRefuted graph calls at cycles
      → IsNext graph at c → entry.0 ≡ c → IsTrue (cycle_checks calls entry) → AreRefuted graph calls (At c) (cycles ++ entry ∷ [])
  one_more refute at cycles c entry are is same on = record {
    run = λ later run. subst (λ l. IsRun graph Start l) (ap (λ d. cycles_in cycles ++ d ∷ later) (sym same) ∙ sym (behind cycles entry later))
        (are.run (c ∷ later) (is, run));
    check = pushed (λ entry. IsTrue (cycle_checks calls entry)) cycles entry are.check on;
    later = λ other simple can. elim (is_or_before c other (is.first other simple (are.later other simple can))) [
      | inl one ↦ absurd (refute (joint_of calls entry.0).0 (joint_of calls entry.0).1 entry.1 on (subst (CanLoop calls) (sym (same ∙ one)) can))
      | inr before ↦ before
    ];
  }

  ran : (at : Spot) (cycles : List (List ℕ × Refutation)) → AreRefuted graph calls at cycles → HasNoNext graph at
      → (later : List (List ℕ)) → IsRun graph End later → IsRun graph Start (cycles_in cycles ++ later)
  ran at cycles are none [] run = are.run [] none
  ran at cycles are none (c ∷ later) run = absurd run.0.after

  pub at_end : (at : Spot) (cycles : List (List ℕ × Refutation)) → AreRefuted graph calls at cycles → HasNoNext graph at → AreRefuted graph calls End cycles
  at_end at cycles are none = record {
    run = λ later run. ran at cycles are none later run;
    check = are.check;
    later = λ other simple can. none.none other simple (are.later other simple can);
  }

  pub first_loop : (at : Spot) (cycles : List (List ℕ × Refutation)) (c : List ℕ) (why : TermWhy) → AreRefuted graph calls at cycles → IsNext graph at c
      → IsLoop calls c why → IsReasonIn graph calls why
  first_loop at cycles c Memory are is loop = tt
  first_loop at cycles c (MayLoop told values) are is loop = record {
    simple = subst (IsSimpleCycle graph) (sym loop.0) is.cycle;
    least = subst (λ d. IsLeast (joint_of calls d).0 (joint_of calls d).1 0 values) (sym loop.0) loop.1;
    first = λ other simple before can.
        not_both c other (is.first other simple (are.later other simple can)) (subst (StandsBefore other) loop.0 before);
  }

pub advanced : ChecksRefute → (old new : Listing) (calls : CallGraph) (cycles : List (List ℕ × Refutation)) (c : List ℕ) (entry : List ℕ × Refutation)
    → AreRefuted old.graph calls old.at cycles → AnswersWith old new (Some c) → entry.0 ≡ c → IsTrue (cycle_checks calls entry)
    → AreRefuted new.graph calls new.at (cycles ++ entry ∷ [])
advanced refute old new calls cycles c entry are answer same on =
    let at : new.at ≡ At c = answer.1.1.at ∙ ap At answer.1.0 in
    let more = one_more old.graph calls refute old.at cycles c entry are (next_of old new c answer) same on in
    subst (λ g. AreRefuted g calls new.at (cycles ++ entry ∷ [])) (sym answer.0)
    (subst (λ s. AreRefuted old.graph calls s (cycles ++ entry ∷ [])) (sym at) more)

pub ended : (old new : Listing) (graph : Graph) (calls : CallGraph) (cycles : List (List ℕ × Refutation)) (answer : Option (List ℕ)) → old.graph ≡ graph
    → AreRefuted old.graph calls old.at cycles → AnswersWith old new answer → ((c : List ℕ) → answer ≡ Some c → ⊥) → AreRefuted graph calls End cycles
ended old new graph calls cycles answer same are h never =
    subst (λ g. AreRefuted g calls End cycles) same (at_end old.graph calls old.at cycles are (none_of old new answer h never))

pub looped : (old new : Listing) (graph : Graph) (calls : CallGraph) (cycles : List (List ℕ × Refutation)) (c : List ℕ) (why : TermWhy) → old.graph ≡ graph
    → AreRefuted old.graph calls old.at cycles → AnswersWith old new (Some c) → IsLoop calls c why → IsReasonIn graph calls why
looped old new graph calls cycles c why same are answer loop =
    subst (λ g. IsReasonIn g calls why) same (first_loop old.graph calls old.at cycles c why are (next_of old new c answer) loop)

-- the first cycle of all that are listed
pub first_looked : {A : Type 0} (P : A → Type 0) (old new : Listing) (graph : Graph) (calls : CallGraph) (c : List ℕ) → old.graph ≡ graph → old.at ≡ Start
    → AnswersWith old new (Some c) → (r : Result A TermWhy) → MatchResult r P (IsLoop calls c) → MatchResult r P (IsReasonIn graph calls)
first_looked P old new graph calls c same start answer (Ok a) h = h
first_looked P old new graph calls c same start answer (Err why) h = looped old new graph calls [] c why same (at_start old.graph calls old.at start) answer h
