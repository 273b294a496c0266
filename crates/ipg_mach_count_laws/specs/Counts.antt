-- How often rules are called, how deep calls nest, and which calls are reached, by what the grammar means.
use Rattle.std.specs.Prelude.{◌≡◌, ◌⊎◌, ℕ, zero, suc, ◌+◌, max, List, [], ◌∷◌, ◌++◌, length, Option, Some, None}
use Rattle.ipg_core.specs.Grammar.{Grammar, rule_at, holder_of}
use Rattle.ipg_core.specs.Part.{part}
use Rattle.ipg_core.specs.Environment.{Values}
use Rattle.ipg_core.specs.Run.{Asked}
use Rattle.ipg_core.specs.Meaning.{rule_on, den}
use Rattle.ipg_mach_moves.specs.Moves.{Key, body}

-- the calls that a rule makes on a part, in order, up to where it ends; those that they make nest at most h deep
abbrev pub calls_of : Grammar → ℕ → ℕ → List ℕ → Values → List Asked
calls_of g h r s outer = (rule_on (den g h) g r s outer).asked

-- a number for each call made on the part s: their sum
abbrev pub sum_over : (ℕ → List ℕ → Values → ℕ) → List ℕ → List Asked → ℕ
sum_over number s [] = 0
sum_over number s (ask ∷ asked) = number ask.callee (part s ask.from ask.to) ask.outer + sum_over number s asked

-- the greatest of them, 0 where no call is made
abbrev pub most_over : (ℕ → List ℕ → Values → ℕ) → List ℕ → List Asked → ℕ
most_over number s [] = 0
most_over number s (ask ∷ asked) = max (number ask.callee (part s ask.from ask.to) ask.outer) (most_over number s asked)

-- the bodies of global rules that run for a call: its own, if its rule is global, and those that run for the calls it makes
unfoldable pub count : Grammar → ℕ → ℕ → List ℕ → Values → ℕ
count g zero r s outer = 0
count g (suc h) r s outer = body (holder_of (rule_at g r)) + sum_over (count g h) s (calls_of g h r s outer)

-- how many calls are open at most at once: the call, and those open for one of the calls it makes
unfoldable pub nest : Grammar → ℕ → ℕ → List ℕ → Values → ℕ
nest g zero r s outer = 0
nest g (suc h) r s outer = 1 + most_over (nest g h) s (calls_of g h r s outer)

-- ---- keys

-- the key of a call that is made on the part s, which begins at `from` in the input
abbrev pub key_of : ℕ → List ℕ → Asked → Key
key_of from s ask = record { rule = ask.callee; from = from + ask.from; to = from + ask.from + length (part s ask.from ask.to) }

-- a call of a global rule is a key; one of a local rule is none, but what it calls counts
abbrev pub key_or : Option (ℕ × ℕ) → Key → List Key → List Key
key_or None key inner = key ∷ []
key_or (Some holder) key inner = inner

-- the keys of calls made on the part s, where `inner` has those of the calls that a call makes
abbrev pub keys_over : (ℕ → ℕ → List ℕ → Values → List Key) → Grammar → ℕ → List ℕ → List Asked → List Key
keys_over inner g from s [] = []
keys_over inner g from s (ask ∷ asked) =
    key_or (holder_of (rule_at g ask.callee)) (key_of from s ask) (inner ask.callee (from + ask.from) (part s ask.from ask.to) ask.outer)
    ++ keys_over inner g from s asked

-- the keys of the calls of global rules that a call makes itself or through local rules, in order, up to where it ends
unfoldable pub keys_in : Grammar → ℕ → ℕ → ℕ → List ℕ → Values → List Key
keys_in g zero r from s outer = []
keys_in g (suc h) r from s outer = keys_over (keys_in g h) g from s (calls_of g h r s outer)

-- those that a key makes: its global rule on its interval of the input
abbrev pub direct : Grammar → List ℕ → ℕ → Key → List Key
direct g s h key = keys_in g h key.rule key.from (part s key.from key.to) []

abbrev pub Has : List Key → Key → Type 0
Has [] key = ⊥
Has (one ∷ keys) key = (one ≡ key) ⊎ Has keys key

abbrev pub NoneTwice : List Key → Type 0
NoneTwice [] = Unit {0}
NoneTwice (key ∷ keys) = (Has keys key → ⊥) × NoneTwice keys

-- the first rule on the whole input
abbrev pub first_key : List ℕ → Key
first_key s = record { rule = 0; from = 0; to = length s }

-- a key, and those from which it is reached: each is called by the next, and the last is the first rule on the whole input
abbrev pub IsChain : Grammar → List ℕ → ℕ → Key → List Key → Type 0
IsChain g s h key [] = first_key s ≡ key
IsChain g s h key (caller ∷ chain) = Has (direct g s h caller) key × IsChain g s h caller chain

abbrev pub IsReached : Grammar → List ℕ → ℕ → Key → Type 0
IsReached g s h key = (chain : List Key) × IsChain g s h key chain

-- the keys that are reached: each once, the first, with each key all those that it calls, and no others
pub record IsReach (g : Grammar) (s : List ℕ) (h : ℕ) (keys : List Key) : Type 0 where
  pub once : NoneTwice keys
  pub first : Has keys (first_key s)
  pub closed : (key called : Key) → Has keys key → Has (direct g s h key) called → Has keys called
  pub only : (key : Key) → Has keys key → IsReached g s h key

-- how many calls of global rules these keys make
abbrev pub calls_by : Grammar → List ℕ → ℕ → List Key → ℕ
calls_by g s h [] = 0
calls_by g s h (key ∷ keys) = length (direct g s h key) + calls_by g s h keys
