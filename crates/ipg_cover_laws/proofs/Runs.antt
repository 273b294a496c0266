-- What the answer of a run says of its parts, and of the calls that these ask.
use Rattle.std.proofs.Common.{◌≡◌, refl, List, [], ◌∷◌, ◌++◌, Result, Ok, Err, ◌⊎◌, inl, inr}
use Rattle.std.specs.List.{AllByRecursion}
use Rattle.ipg_core.specs.Run.{Stop, NoTree, OutOfRange, Deep, Asked, Run, finish, stop, after, go_on, ◌>>=◌, or_next, or_else}

pub all_left : {X : Type 0} (P : X → Type 0) (xs ys : List X) → AllByRecursion P (xs ++ ys) → AllByRecursion P xs
all_left P [] ys h = tt
all_left P (x ∷ xs) ys h = (h.0, all_left P xs ys h.1)

pub all_right : {X : Type 0} (P : X → Type 0) (xs ys : List X) → AllByRecursion P (xs ++ ys) → AllByRecursion P ys
all_right P [] ys h = h
all_right P (x ∷ xs) ys h = all_right P xs ys h.1

pub finish_is : {A : Type 0} (a b : A) → (finish a).answer ≡ Ok b → a ≡ b
unfolding finish
finish_is a b e = cc

pub stop_is : {A P : Type 0} (why : Stop) (a : A) → (stop {A = A} why).answer ≡ Ok a → P
unfolding stop
stop_is why a e = absurd (cc)

-- a run that came to b, and fact of each call that it asks
pub record Came {A : Type 0} (Q : Asked → Type 0) (run : Run A) (a : A) : Type 0 where
  pub answer : run.answer ≡ Ok a
  pub asks : AllByRecursion Q run.asked

-- the value that came first, and what it led to
pub record Went {A B : Type 0} (Q : Asked → Type 0) (run : Run A) (go : A → Run B) (b : B) : Type 0 where
  pub value : A
  pub first : Came Q run value
  pub rest : Came Q (go value) b

went_go : {A B : Type 0} (Q : Asked → Type 0) (answer : Result A Stop) (go : A → Run B) (b : B) → (go_on answer go).answer ≡ Ok b
    → AllByRecursion Q (go_on answer go).asked → (a : A) × ((answer ≡ Ok a) × Came Q (go a) b)
unfolding go_on stop
went_go Q (Ok a) go b e asks = (a, (refl, record { answer = e; asks = asks }))
went_go Q (Err why) go b e asks = absurd (cc)

pub went : {A B : Type 0} (Q : Asked → Type 0) (run : Run A) (go : A → Run B) (b : B) → Came Q (run >>= go) b → Went Q run go b
unfolding ◌>>=◌ after
went Q run go b c =
    let w = went_go Q run.answer go b c.answer (all_right Q run.asked _ c.asks) in
    record { value = w.0; first = record { answer = w.1.0; asks = all_left Q run.asked _ c.asks }; rest = w.1.1 }

next_is : {A : Type 0} (Q : Asked → Type 0) (answer : Result A Stop) (next : Run A) (a : A) → (or_next answer next).answer ≡ Ok a
    → AllByRecursion Q (or_next answer next).asked → (answer ≡ Ok a) ⊎ Came Q next a
unfolding or_next stop finish
next_is Q (Ok x) next a e asks = inl e
next_is Q (Err NoTree) next a e asks = inr (record { answer = e; asks = asks })
next_is Q (Err OutOfRange) next a e asks = absurd (cc)
next_is Q (Err Deep) next a e asks = absurd (cc)

one_of : {A : Type 0} (Q : Asked → Type 0) (run next : Run A) (a : A) → AllByRecursion Q run.asked → (run.answer ≡ Ok a) ⊎ Came Q next a
    → Came Q run a ⊎ Came Q next a
one_of Q run next a asks (inl e) = inl (record { answer = e; asks = asks })
one_of Q run next a asks (inr c) = inr c

-- one of two runs
pub either_came : {A : Type 0} (Q : Asked → Type 0) (run next : Run A) (a : A) → Came Q (or_else run next) a → Came Q run a ⊎ Came Q next a
unfolding or_else after
either_came Q run next a c =
    one_of Q run next a (all_left Q run.asked _ c.asks) (next_is Q run.answer next a c.answer (all_right Q run.asked _ c.asks))
