-- Answers that the height sufficed for, and what the calls of a run say of it.
use Rattle.std.proofs.Common.{◌≡◌, ◌≢◌, ℕ, refl, ap, ◌∙◌, List, Result, Ok, Err, Option, Some, None, Bool, true, false, if◌then◌else◌}
use Rattle.std.specs.List.{AllByRecursion}
use Rattle.ipg_num.specs.declared.op.Answer.{Answer}
use Rattle.ipg_num.specs.declared.op.Answer.TheVariants.{Val, Fail, Range}
use Rattle.ipg_core.specs.Run.{Stop, NoTree, OutOfRange, Deep, Asked, Run, finish, stop, after, go_on, ◌>>=◌, or_next, or_else, value_of, some_of}
use Rattle.ipg_core.specs.Tree.{Kid}
use Rattle.ipg_core.specs.Touch.{touches, ends_of}
use Rattle.ipg_core.specs.Meaning.{kept}
use Rattle.ipg_facts_laws.proofs.Lists.{all_front, all_back, all_join}

pub record Settled {A : Type 0} (answer : Result A Stop) : Type 0 where
  pub not_deep : answer ≢ Err Deep

settled_ok : {A : Type 0} (a : A) → Settled {A = A} (Ok a)
settled_ok a = record { not_deep = λ e. cc }

settled_no_tree : {A : Type 0} → Settled {A = A} (Err NoTree)
settled_no_tree = record { not_deep = λ e. cc }

settled_range : {A : Type 0} → Settled {A = A} (Err OutOfRange)
settled_range = record { not_deep = λ e. cc }

-- of two runs with other calls: Q says that a call settles, S that both calls answer the same
pub record Follows {A : Type 0} (Q S : Asked → Type 0) (run again : Run A) : Type 0 where
  -- where each call settles the run does, and the other way round
  pub settles : AllByRecursion Q run.asked → Settled run.answer
  pub each : Settled run.answer → AllByRecursion Q run.asked
  -- where each call answers the same the runs are the same
  pub same : AllByRecursion S run.asked → again ≡ run

-- what comes behind an answer: it settles only behind one that is settled
record Behind {A B : Type 0} (Q S : Asked → Type 0) (answer : Result A Stop) (rest other : Result A Stop → Run B) : Type 0 where
  settles : Settled answer → AllByRecursion Q (rest answer).asked → Settled (rest answer).answer
  first : Settled (rest answer).answer → Settled answer
  each : Settled (rest answer).answer → AllByRecursion Q (rest answer).asked
  same : AllByRecursion S (rest answer).asked → other answer ≡ rest answer

module _ {Q S : Asked → Type 0} where
  pub follows_finish : {A : Type 0} (a : A) → Follows Q S (finish a) (finish a)
  unfolding finish
  follows_finish a = record { settles = λ h. settled_ok a; each = λ h. tt; same = λ h. refl }

  pub follows_none : {A : Type 0} → Follows {A = A} Q S (stop NoTree) (stop NoTree)
  unfolding stop
  follows_none = record { settles = λ h. settled_no_tree; each = λ h. tt; same = λ h. refl }

  follows_range : {A : Type 0} → Follows {A = A} Q S (stop OutOfRange) (stop OutOfRange)
  unfolding stop
  follows_range = record { settles = λ h. settled_range; each = λ h. tt; same = λ h. refl }

  pub follows_value : (a : Answer) → Follows Q S (value_of a) (value_of a)
  follows_value (Val z) = follows_finish z
  follows_value Fail = follows_none
  follows_value Range = follows_range

  pub follows_some : {A : Type 0} (o : Option A) → Follows Q S (some_of o) (some_of o)
  follows_some (Some a) = follows_finish a
  follows_some None = follows_none

  pub follows_chosen : {A : Type 0} (b : Bool) (x x' y y' : Run A) → Follows Q S x x' → Follows Q S y y'
      → Follows Q S (if b then x else y) (if b then x' else y')
  follows_chosen true x x' y y' h k = h
  follows_chosen false x x' y y' h k = k

  behind_deep : {A B : Type 0} (rest other : Result A Stop → Run B) → rest (Err Deep) ≡ stop Deep → other (Err Deep) ≡ stop Deep
      → Behind Q S (Err Deep) rest other
  unfolding stop
  behind_deep {A} {B} rest other e f =
      let deep : (rest (Err Deep)).answer ≡ Err Deep = ap (λ (run : Run B). run.answer) e in
      record {
        settles = λ h k. absurd (h.not_deep refl);
        first = λ h. absurd (h.not_deep deep);
        each = λ h. absurd (h.not_deep deep);
        same = λ h. cc;
      }

  behind_on : {A B : Type 0} (answer : Result A Stop) (rest other : Result A Stop → Run B) → Settled answer → Follows Q S (rest answer) (other answer)
      → Behind Q S answer rest other
  behind_on answer rest other s h = record { settles = λ _ k. h.settles k; first = λ _. s; each = h.each; same = h.same }

  -- a run, and what comes behind its answer
  follows_after : {A B : Type 0} (run again : Run A) (rest other : Result A Stop → Run B) → Follows Q S run again → Behind Q S run.answer rest other
      → Follows Q S (after run.asked (rest run.answer)) (after again.asked (other again.answer))
  unfolding after
  follows_after run again rest other h k = record {
    settles = λ all. k.settles (h.settles (all_front Q run.asked _ all)) (all_back Q run.asked _ all);
    each = λ s. all_join Q run.asked _ (h.each (k.first s)) (k.each s);
    same = λ all. ap (λ r. after r.asked (other r.answer)) (h.same (all_front S run.asked _ all)) ∙ ap (after run.asked) (k.same (all_back S run.asked _ all));
  }

  behind_go : {A B : Type 0} (answer : Result A Stop) (go go' : A → Run B) → ((a : A) → Follows Q S (go a) (go' a))
      → Behind Q S answer (λ r. go_on r go) (λ r. go_on r go')
  unfolding go_on
  behind_go (Ok a) go go' k = behind_on (Ok a) _ _ (settled_ok a) (k a)
  behind_go (Err NoTree) go go' k = behind_on (Err NoTree) _ _ settled_no_tree follows_none
  behind_go (Err OutOfRange) go go' k = behind_on (Err OutOfRange) _ _ settled_range follows_range
  behind_go (Err Deep) go go' k = behind_deep _ _ refl refl

  pub follows_bind : {A B : Type 0} (run again : Run A) (go go' : A → Run B) → Follows Q S run again → ((a : A) → Follows Q S (go a) (go' a))
      → Follows Q S (run >>= go) (again >>= go')
  unfolding ◌>>=◌
  follows_bind run again go go' h k = follows_after run again _ _ h (behind_go run.answer go go' k)

  behind_next : {A : Type 0} (answer : Result A Stop) (next next' : Run A) → Follows Q S next next'
      → Behind Q S answer (λ r. or_next r next) (λ r. or_next r next')
  unfolding or_next
  behind_next (Ok a) next next' k = behind_on (Ok a) _ _ (settled_ok a) (follows_finish a)
  behind_next (Err NoTree) next next' k = behind_on (Err NoTree) _ _ settled_no_tree k
  behind_next (Err OutOfRange) next next' k = behind_on (Err OutOfRange) _ _ settled_range follows_range
  behind_next (Err Deep) next next' k = behind_deep _ _ refl refl

  pub follows_else : {A : Type 0} (run again next next' : Run A) → Follows Q S run again → Follows Q S next next'
      → Follows Q S (or_else run next) (or_else again next')
  unfolding or_else
  follows_else run again next next' h k = follows_after run again _ _ h (behind_next run.answer next next' k)

  behind_kept : (answer : Result Kid Stop) (items : List Kid) (go go' : ℕ → List Kid → Run (List Kid))
      → ((end : ℕ) (more : List Kid) → Follows Q S (go end more) (go' end more))
      → Behind Q S answer (λ r. kept r items go) (λ r. kept r items go')
  unfolding kept
  behind_kept (Ok item) items go go' k =
      behind_on (Ok item) _ _ (settled_ok item) (follows_chosen (touches (ends_of item)) _ _ _ _ (k _ _) (follows_finish items))
  behind_kept (Err NoTree) items go go' k = behind_on (Err NoTree) _ _ settled_no_tree (follows_finish items)
  behind_kept (Err OutOfRange) items go go' k = behind_on (Err OutOfRange) _ _ settled_range follows_range
  behind_kept (Err Deep) items go go' k = behind_deep _ _ refl refl

  pub follows_kept : (item again : Run Kid) (items : List Kid) (go go' : ℕ → List Kid → Run (List Kid)) → Follows Q S item again
      → ((end : ℕ) (more : List Kid) → Follows Q S (go end more) (go' end more))
      → Follows Q S (after item.asked (kept item.answer items go)) (after again.asked (kept again.answer items go'))
  follows_kept item again items go go' h k = follows_after item again _ _ h (behind_kept item.answer items go go' k)
