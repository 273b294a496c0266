-- Bytes that stand in the input, and calls that are made on such.
use Rattle.std.specs.Prelude.{◌≡◌, ℕ, ◌+◌, List, [], ◌∷◌, ◌++◌, length, drop, None}
use Rattle.ipg_core.specs.Grammar.{rule_at, holder_of}
use Rattle.ipg_core.specs.Part.{part}
use Rattle.ipg_core.specs.Run.{Asked}
use Rattle.ipg_mach_moves.specs.Moves.{OpenCall, silent, at_hand, asked_part}

-- the bytes stand in s from a place on
pub record StandsAt (s : List ℕ) (from : ℕ) (bytes : List ℕ) : Type 0 where
  pub rest : List ℕ
  pub is : bytes ++ rest ≡ drop from s

-- what stands there is the part there
abbrev pub StandsThere : Type 0
StandsThere = (s : List ℕ) (from : ℕ) (bytes : List ℕ) → StandsAt s from bytes → part s from (from + length bytes) ≡ bytes

-- what an open call calls is on bytes that stand within its own, and a global rule is passed no attributes
abbrev pub CallsSit : Type 0
CallsSit = (s : List ℕ) (c : OpenCall) (ask : Asked) (more : List Asked) → StandsAt s c.from c.frame.bytes → (at_hand silent c).asked ≡ ask ∷ more
    → StandsAt s (c.from + ask.from) (asked_part c ask) × (holder_of (rule_at c.frame.grammar ask.callee) ≡ None → ask.outer ≡ [])
