-- What a run asks, followed through its parts.
use Rattle.std.proofs.Common.{◌≡◌, ℕ, refl, List, Option, Some, None, Result, Ok, Err, Bool, true, false}
use Rattle.std.proofs.Common.{if◌then◌else◌}
use Rattle.std.specs.List.{AllByRecursion}
use Rattle.ipg_num.specs.declared.op.Answer.{Answer}
use Rattle.ipg_num.specs.declared.op.Answer.TheVariants.{Val, Fail, Range}
use Rattle.ipg_core.specs.declared.grammar.Sym.TheVariants.{Prim}
use Rattle.ipg_core.specs.Tree.{Kid}
use Rattle.ipg_core.specs.Touch.{touches, ends_of}
use Rattle.ipg_core.specs.Run.{Stop, NoTree, OutOfRange, Deep, Asked, Run, finish, stop, after, go_on, ◌>>=◌, or_next, or_else, value_of, some_of}
use Rattle.ipg_core.specs.Meaning.{kept}
use Rattle.ipg_facts_laws.proofs.Lists.{all_join}

-- a fact of each call that a run makes
pub record Asks {A : Type 0} (Q : Asked → Type 0) (run : Run A) : Type 0 where
  pub each : AllByRecursion Q run.asked

module _ {Q : Asked → Type 0} where
  pub asks_finish : {A : Type 0} (a : A) → Asks Q (finish a)
  unfolding finish
  asks_finish a = record { each = tt }

  pub asks_stop : {A : Type 0} (why : Stop) → Asks Q (stop {A = A} why)
  unfolding stop
  asks_stop why = record { each = tt }

  pub asks_value : (a : Answer) → Asks Q (value_of a)
  asks_value (Val z) = asks_finish z
  asks_value Fail = asks_stop NoTree
  asks_value Range = asks_stop OutOfRange

  pub asks_some : {A : Type 0} (o : Option A) → Asks Q (some_of o)
  asks_some (Some a) = asks_finish a
  asks_some None = asks_stop NoTree

  pub asks_chosen : {A : Type 0} (b : Bool) (x y : Run A) → Asks Q x → Asks Q y → Asks Q (if b then x else y)
  asks_chosen true x y h k = h
  asks_chosen false x y h k = k

  pub asks_after : {A : Type 0} (asked : List Asked) (run : Run A) → AllByRecursion Q asked → Asks Q run → Asks Q (after asked run)
  unfolding after
  asks_after asked run h k = record { each = all_join Q asked run.asked h k.each }

  asks_go : {A B : Type 0} (answer : Result A Stop) (go : A → Run B) → ((a : A) → answer ≡ Ok a → Asks Q (go a)) → Asks Q (go_on answer go)
  unfolding go_on
  asks_go (Ok a) go k = k a refl
  asks_go (Err why) go k = asks_stop why

  pub asks_bind : {A B : Type 0} (run : Run A) (go : A → Run B) → Asks Q run → ((a : A) → run.answer ≡ Ok a → Asks Q (go a)) → Asks Q (run >>= go)
  unfolding ◌>>=◌
  asks_bind run go h k = asks_after run.asked _ h.each (asks_go run.answer go k)

  asks_next : {A : Type 0} (answer : Result A Stop) (next : Run A) → Asks Q next → Asks Q (or_next answer next)
  unfolding or_next
  asks_next (Ok a) next k = asks_finish a
  asks_next (Err NoTree) next k = k
  asks_next (Err OutOfRange) next k = asks_stop OutOfRange
  asks_next (Err Deep) next k = asks_stop Deep

  pub asks_else : {A : Type 0} (run next : Run A) → Asks Q run → Asks Q next → Asks Q (or_else run next)
  unfolding or_else
  asks_else run next h k = asks_after run.asked _ h.each (asks_next run.answer next k)

  asks_keep : (answer : Result Kid Stop) (items : List Kid) (go : ℕ → List Kid → Run (List Kid)) → ((end : ℕ) (more : List Kid) → Asks Q (go end more))
      → Asks Q (kept answer items go)
  unfolding kept
  asks_keep (Ok item) items go k = asks_chosen (touches (ends_of item)) _ _ (k _ _) (asks_finish items)
  asks_keep (Err NoTree) items go k = asks_finish items
  asks_keep (Err OutOfRange) items go k = asks_stop OutOfRange
  asks_keep (Err Deep) items go k = asks_stop Deep

  pub asks_kept : (item : Run Kid) (items : List Kid) (go : ℕ → List Kid → Run (List Kid)) → Asks Q item → ((end : ℕ) (more : List Kid) → Asks Q (go end more))
      → Asks Q (after item.asked (kept item.answer items go))
  asks_kept item items go h k = asks_after item.asked _ h.each (asks_keep item.answer items go k)
