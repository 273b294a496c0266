-- The search's state: a walk, and the next edge to try behind it.
use Rattle.std.specs.Prelude.{◌≡◌, ℕ, ◌+◌, ◌<◌, ◌≤◌, ◌⊎◌, List, [], ◌∷◌, ◌++◌, length, vec_capacity}
use Rattle.ipg_graph.specs.Graph.{caller, callee, IsLive, IsWhole}
use Rattle.ipg_graph.specs.Marks.{marked}
use Rattle.ipg_graph.specs.Cycle.{StandsUpTo}
use Rattle.ipg_graph.specs.Answers.{Spot, Start, At, End, IsAfter, Listing}
use Rattle.ipg_graph.specs.Walk.{Now, Fresh, Closed, Lost, run, step, enter, state_of, Closes}
use Rattle.ipg_graph.specs.Place.{IsSame, IsBehind, left}
use Rattle.ipg_graph.specs.Reach.{IsSized, IsClosed}
use Rattle.ipg_graph.specs.declared.search.Search.{Search}
use Rattle.ipg_graph.specs.declared.search.State.{State}
use Rattle.ipg_graph.specs.declared.search.State.TheVariants as state

abbrev pub place : Search → List ℕ
place s = s.path.items ++ s.cursor ∷ []

abbrev pub now : Search → Now
now s = state_of s.path.items s.start s.tip s.seen.items

-- what is left of the search
abbrev pub left_of : Search → ℕ
left_of s = left (length s.links.callers) (s.links.rules + 2) (place s)

abbrev pub left_path : Search → ℕ
left_path s = left (length s.links.callers) (s.links.rules + 2) s.path.items

-- the flags and the room for a walk over these edges
pub record IsWalk (s : Search) (path : List ℕ) : Type 0 where
  pub whole : IsWhole s.links
  pub runs : run s.links Fresh path ≡ state_of path s.start s.tip s.seen.items
  pub flags : length s.seen.items ≡ s.links.rules
  pub count : length path ≡ marked s.seen.items
  pub room : s.links.rules < vec_capacity s.path
  pub sized : IsSized s.links.rules s.reach
  pub begun : 0 < length path → s.start < s.links.rules
  pub tip : 0 < length path → s.tip < s.links.rules
  pub closed : IsClosed s.links s.start s.seen.items s.reach.marks.items

-- e is an edge to try, or there is none
pub record IsChoice (s : Search) (e : ℕ) : Type 0 where
  pub within : e ≤ length s.links.callers
  pub at_tip : 0 < length s.path.items → e < length s.links.callers → caller s.links e ≡ s.tip

pub record IsReady (s : Search) : Type 0 where
  pub walk : IsWalk s s.path.items
  pub choice : IsChoice s s.cursor

-- an edge is left to try, or to go back over
abbrev pub HasMore : Search → Type 0
HasMore s = (s.cursor < length s.links.callers) ⊎ (0 < length s.path.items)

-- the next edge to try behind e
pub record IsFollowing (s : Search) (e next : ℕ) : Type 0 where
  pub choice : IsChoice s next
  pub after : e < next
  pub skipped : (j : ℕ) → e < j → j < next → step s.links (now s) j ≡ Lost

-- the edge at the cursor is not dead, and the start is known
pub record IsTrying (s : Search) : Type 0 where
  pub ready : IsReady s
  pub within : s.cursor < length s.links.callers
  pub live : IsLive s.links s.cursor
  pub begun : s.start < s.links.rules
  pub tries : step s.links (now s) s.cursor ≡ enter s.links s.start s.seen.items (callee s.links s.cursor)

-- the start is set, and nothing else moved
pub record Aims (old new : Search) : Type 0 where
  pub links : new.links ≡ old.links
  pub path : new.path ≡ old.path
  pub cursor : new.cursor ≡ old.cursor
  pub trying : IsTrying new

-- the search went on, past no cycle
pub record GoesOn (old new : Search) : Type 0 where
  pub links : new.links ≡ old.links
  pub ready : IsReady new
  pub same : IsSame old.links (place old) (place new)
  pub less : left_of new < left_of old

-- the path is a cycle: a walk, and one edge more
pub record IsFound (s : Search) : Type 0 where
  pub walked : List ℕ
  pub last : ℕ
  pub path : s.path.items ≡ walked ++ last ∷ []
  pub walk : IsWalk s walked
  pub live : IsLive s.links last
  pub at_tip : 0 < length walked → caller s.links last ≡ s.tip
  pub closes : step s.links (state_of walked s.start s.tip s.seen.items) last ≡ Closed

-- the path is the cycle at the old place
pub record ClosesAt (old new : Search) : Type 0 where
  pub links : new.links ≡ old.links
  pub path : new.path.items ≡ place old
  pub found : IsFound new

pub record Resumes (old new : Search) : Type 0 where
  pub links : new.links ≡ old.links
  pub ready : IsReady new
  pub behind : IsBehind old.links old.path.items (place new)
  pub less : left_of new < left_path old

-- the path is the first cycle from the old place on
pub record Finds (old new : Search) : Type 0 where
  pub links : new.links ≡ old.links
  pub state : new.state ≡ state.Found
  pub found : IsFound new
  pub same : IsSame old.links (place old) new.path.items
  pub less : left_path new ≤ left_of old

pub record FindsNone (old new : Search) : Type 0 where
  pub links : new.links ≡ old.links
  pub state : new.state ≡ state.End
  pub none : (c : List ℕ) → Closes old.links c → StandsUpTo (place old) c → ⊥

-- what each state keeps
abbrev pub KeepsIn : State → Search → Type 0
KeepsIn state.Start s = IsReady s × (place s ≡ 0 ∷ [])
KeepsIn state.Found s = IsFound s
KeepsIn state.End s = Unit {0}

abbrev pub IsKept : Search → Type 0
IsKept s = KeepsIn s.state s

-- where the answers stand
abbrev pub spot_in : State → List ℕ → Spot
spot_in state.Start path = Start
spot_in state.Found path = At path
spot_in state.End path = End

abbrev pub spot : Search → Spot
spot s = spot_in s.state s.path.items

abbrev pub left_in : State → Search → ℕ
left_in state.Start s = left_of s + 1
left_in state.Found s = left_path s
left_in state.End s = 0

abbrev pub listing : Search → Listing
listing s = record { graph = s.links; at = spot s; left = left_in s.state s }

-- the path is the next cycle
pub record IsNextFound (old new : Search) : Type 0 where
  pub links : new.links ≡ old.links
  pub state : new.state ≡ state.Found
  pub kept : IsKept new
  pub closes : Closes old.links new.path.items
  pub after : IsAfter (spot old) new.path.items
  pub first : (d : List ℕ) → Closes old.links d → IsAfter (spot old) d → StandsUpTo new.path.items d
  pub less : left_in new.state new < left_in old.state old

-- there is no further one
pub record HasNothing (old new : Search) : Type 0 where
  pub links : new.links ≡ old.links
  pub state : new.state ≡ state.End
  pub none : (d : List ℕ) → Closes old.links d → IsAfter (spot old) d → ⊥
