-- What a run yields, followed through its parts.
use Rattle.std.proofs.Common.{◌≡◌, ℕ, refl, subst, Bool, true, false, if◌then◌else◌, List, [], ◌∷◌, ◌++◌, Option, Some, None, Result, Ok, Err}
use Rattle.ipg_core.specs.Run.{Stop, NoTree, OutOfRange, Deep, Run, finish, stop, after, go_on, ◌>>=◌, or_next, or_else, some_of}
use Rattle.ipg_core.specs.Tree.{Kid}
use Rattle.ipg_core.specs.Meaning.{kept}
use Rattle.ipg_core.specs.Touch.{touches, ends_of}

-- a fact of the value that an answer gives, if it gives one
pub record Yields {A : Type 0} (P : A → Type 0) (answer : Result A Stop) : Type 0 where
  pub holds : (a : A) → answer ≡ Ok a → P a

abbrev the : {A : Type 0} → A → Result A Stop
the a = Ok a

same_ok : {A : Type 0} (P : A → Type 0) (a b : A) → P a → the a ≡ the b → P b
same_ok P a b p e = let same : a ≡ b = cc in subst P same p

pub yields_ok : {A : Type 0} {P : A → Type 0} (a : A) → P a → Yields P (Ok a)
yields_ok {A} {P} a p = record { holds = λ b e. same_ok P a b p e }

pub yields_err : {A : Type 0} {P : A → Type 0} (why : Stop) → Yields P (Err why)
yields_err why = record { holds = λ b e. cc }

pub yields_finish : {A : Type 0} {P : A → Type 0} (a : A) → P a → Yields P (finish a).answer
unfolding finish
yields_finish a p = yields_ok a p

pub yields_stop : {A : Type 0} {P : A → Type 0} (why : Stop) → Yields P (stop why).answer
unfolding stop
yields_stop why = yields_err why

-- what there is
pub yields_some : {A : Type 0} (o : Option A) → Yields (λ a. o ≡ Some a) (some_of o).answer
unfolding finish stop
yields_some (Some a) = yields_ok a refl
yields_some None = yields_err NoTree

yields_go : {A B : Type 0} {Q : B → Type 0} (answer : Result A Stop) (go : A → Run B) → ((a : A) → answer ≡ Ok a → Yields Q (go a).answer)
    → Yields Q (go_on answer go).answer
unfolding go_on stop
yields_go (Ok a) go k = k a refl
yields_go (Err why) go k = yields_err why

pub yields_then : {A B : Type 0} {Q : B → Type 0} (run : Run A) (go : A → Run B) → ((a : A) → run.answer ≡ Ok a → Yields Q (go a).answer)
    → Yields Q (run >>= go).answer
unfolding ◌>>=◌ after
yields_then run go k = yields_go run.answer go k

pub yields_bind : {A B : Type 0} {P : A → Type 0} {Q : B → Type 0} (run : Run A) (go : A → Run B) → Yields P run.answer
    → ((a : A) → P a → Yields Q (go a).answer) → Yields Q (run >>= go).answer
yields_bind run go h k = yields_then run go (λ a e. k a (h.holds a e))

yields_next : {A : Type 0} {P : A → Type 0} (answer : Result A Stop) (next : Run A) → Yields P answer → Yields P next.answer
    → Yields P (or_next answer next).answer
unfolding or_next stop finish
yields_next (Ok a) next h k = h
yields_next (Err NoTree) next h k = k
yields_next (Err OutOfRange) next h k = yields_err OutOfRange
yields_next (Err Deep) next h k = yields_err Deep

pub yields_else : {A : Type 0} {P : A → Type 0} (run next : Run A) → Yields P run.answer → Yields P next.answer → Yields P (or_else run next).answer
unfolding or_else after
yields_else run next h k = yields_next run.answer next h k

pub yields_chosen : {A : Type 0} {P : A → Type 0} (b : Bool) (x y : Run A) → (b ≡ true → Yields P x.answer) → (b ≡ false → Yields P y.answer)
    → Yields P (if b then x else y).answer
yields_chosen true x y h k = h refl
yields_chosen false x y h k = k refl

-- an item that touches is kept, and the run goes on behind it
yields_keep : {P : List Kid → Type 0} (answer : Result Kid Stop) (items : List Kid) (go : ℕ → List Kid → Run (List Kid)) → P items
    → ((item : Kid) → answer ≡ Ok item → touches (ends_of item) ≡ true → Yields P (go (ends_of item).end (items ++ item ∷ [])).answer)
    → Yields P (kept answer items go).answer
unfolding kept stop finish
yields_keep (Ok item) items go p k = yields_chosen (touches (ends_of item)) _ _ (λ t. k item refl t) (λ t. yields_ok items p)
yields_keep (Err NoTree) items go p k = yields_ok items p
yields_keep (Err OutOfRange) items go p k = yields_err OutOfRange
yields_keep (Err Deep) items go p k = yields_err Deep

pub yields_kept : {P : List Kid → Type 0} (item : Run Kid) (items : List Kid) (go : ℕ → List Kid → Run (List Kid)) → P items
    → ((one : Kid) → item.answer ≡ Ok one → touches (ends_of one) ≡ true → Yields P (go (ends_of one).end (items ++ one ∷ [])).answer)
    → Yields P (after item.asked (kept item.answer items go)).answer
unfolding after
yields_kept item items go p k = yields_keep item.answer items go p k
