-- What the answers are, one by one, and over a whole run.
use Rattle.std.specs.Prelude.{◌≡◌, ℕ, ◌<◌, List, [], ◌∷◌, All, Contains}
use Rattle.ipg_graph.specs.Graph.{Graph}
use Rattle.ipg_graph.specs.Cycle.{IsSimpleCycle, StandsUpTo, StandsBefore}

-- no answer yet, the last answer, or none is left
pub data Spot : Type 0 where
  Start : Spot
  At : List ℕ → Spot
  End : Spot

abbrev pub IsAfter : Spot → List ℕ → Type 0
IsAfter Start c = Unit {0}
IsAfter (At last) c = StandsBefore last c
IsAfter End c = ⊥

-- c is the least simple cycle behind the spot
pub record IsNext (g : Graph) (from : Spot) (c : List ℕ) : Type 0 where
  pub cycle : IsSimpleCycle g c
  pub after : IsAfter from c
  pub first : (d : List ℕ) → IsSimpleCycle g d → IsAfter from d → StandsUpTo c d

-- no simple cycle is behind the spot
pub record HasNoNext (g : Graph) (from : Spot) : Type 0 where
  pub none : (d : List ℕ) → IsSimpleCycle g d → IsAfter from d → ⊥

-- what `Cycles` is to its callers; `left` falls with each answer, for loops over all of them
pub record Listing : Type 0 where
  pub graph : Graph
  pub at : Spot
  pub left : ℕ

-- the last answer, or nothing
abbrev pub last_of : Spot → List ℕ
last_of Start = []
last_of (At c) = c
last_of End = []

-- the next simple cycle is the last answer now
pub record IsNextAnswer (old new : Listing) : Type 0 where
  pub at : new.at ≡ At (last_of new.at)
  pub next : IsNext old.graph old.at (last_of new.at)
  pub less : new.left < old.left

-- there is no further simple cycle
pub record IsLastAnswer (old new : Listing) : Type 0 where
  pub at : new.at ≡ End
  pub none : HasNoNext old.graph old.at

-- the answers from a spot on, up to the first that is none
abbrev pub IsRun : Graph → Spot → List (List ℕ) → Type 0
IsRun g from [] = HasNoNext g from
IsRun g from (c ∷ cs) = IsNext g from c × IsRun g (At c) cs

abbrev pub IsAscending : List (List ℕ) → Type 0
IsAscending [] = Unit {0}
IsAscending (c ∷ cs) = All (StandsBefore c) cs × IsAscending cs

-- all simple cycles, and nothing else, each once and in order
pub record IsAllCycles (g : Graph) (cs : List (List ℕ)) : Type 0 where
  pub every : (d : List ℕ) → IsSimpleCycle g d → Contains cs d
  pub only : All (IsSimpleCycle g) cs
  pub ascending : IsAscending cs

abbrev pub RunsAreWhole : Type 0
RunsAreWhole = (g : Graph) (cs : List (List ℕ)) → IsRun g Start cs → IsAllCycles g cs
