-- How many calls are open at once where the answers of known keys are taken, and each key that is called is known from then on.
use Rattle.std.specs.Prelude.{ℕ, zero, suc, ◌+◌, max, List, [], ◌∷◌, Option, Some, None, Bool, true, false, if◌then◌else◌}
use Rattle.ipg_core.specs.Grammar.{Grammar, rule_at, holder_of}
use Rattle.ipg_core.specs.Part.{part}
use Rattle.ipg_core.specs.Environment.{Values}
use Rattle.ipg_core.specs.Run.{Asked}
use Rattle.ipg_mach_moves.specs.Moves.{Key, same_key}
use Rattle.ipg_mach_count_laws.specs.Counts.{calls_of, key_of}

-- the keys that are known by then, and the most calls that were open at once
pub record Nested : Type 0 where
  pub known : List Key
  pub most : ℕ

abbrev pub is_among : List Key → Key → Bool
is_among [] key = false
is_among (one ∷ keys) key = if same_key one key then true else is_among keys key

-- a key more, where its rule is global
abbrev pub with_key : Option (ℕ × ℕ) → Key → List Key → List Key
with_key None key keys = key ∷ keys
with_key (Some holder) key keys = keys

-- the calls made on the part s, in order: a known one opens none, any other is known behind those that it makes
abbrev pub nested_over : (List Key → ℕ → ℕ → List ℕ → Values → Nested) → Grammar → List Key → ℕ → List ℕ → List Asked → Nested
nested_over inner g known from s [] = record { known = known; most = 0 }
nested_over inner g known from s (ask ∷ asked) =
    let key = key_of from s ask in
    let one = inner known ask.callee (from + ask.from) (part s ask.from ask.to) ask.outer in
    let rest = nested_over inner g (with_key (holder_of (rule_at g ask.callee)) key one.known) from s asked in
    if is_among known key then nested_over inner g known from s asked else record { known = rest.known; most = max one.most rest.most }

-- a call that is opened: itself, and those that are open for one of the calls it makes
unfoldable pub nested : Grammar → ℕ → List Key → ℕ → ℕ → List ℕ → Values → Nested
nested g zero known r from s outer = record { known = known; most = 0 }
nested g (suc h) known r from s outer =
    let calls = nested_over (nested g h) g known from s (calls_of g h r s outer) in
    record { known = calls.known; most = 1 + calls.most }
