-- Vertices from which a way may lead back to the start.
use Rattle.std.specs.Prelude.{◌≡◌, ℕ, ◌<◌, ◌≤◌, ◌+◌, ◌⊎◌, List, Bool, length, All, Contains, vec_capacity}
use Rattle.ipg_graph.specs.Graph.{Graph, caller, callee}
use Rattle.ipg_graph.specs.Marks.{marked, IsUnseen, IsMarked}
use Rattle.ipg_graph.specs.declared.reach.Reach.{Reach}

-- there is a flag for each rule, and room for all of them
pub record IsSized (rules : ℕ) (r : Reach) : Type 0 where
  pub flags : length r.marks.items ≡ rules
  pub room : rules < vec_capacity r.stack

-- an edge from a vertex that may be visited
pub record Counts (g : Graph) (start : ℕ) (seen : List Bool) (e : ℕ) : Type 0 where
  pub above : start < caller g e
  pub unseen : IsUnseen seen (caller g e)

-- the callers of v are marked, up to the edge `below`
pub record IsScanned (g : Graph) (start : ℕ) (seen marks : List Bool) (v below : ℕ) : Type 0 where
  pub callers : (e : ℕ) → e < below → callee g e ≡ v → Counts g start seen e → IsMarked marks (caller g e)

-- whoever calls the start or a marked vertex is marked
pub record IsClosed (g : Graph) (start : ℕ) (seen marks : List Bool) : Type 0 where
  pub callers : (e : ℕ) → Counts g start seen e → (callee g e ≡ start) ⊎ IsMarked marks (callee g e) → IsMarked marks (caller g e)

-- on the way there: what is marked was scanned, or waits in a stack
pub record IsSpreading (g : Graph) (start : ℕ) (seen marks : List Bool) (stack : List ℕ) : Type 0 where
  pub inside : All (λ v. v < g.rules) stack
  pub bound : length stack ≤ marked marks + 1
  pub at_start : Contains stack start ⊎ IsScanned g start seen marks start (length g.callers)
  pub at_marks : (v : ℕ) → IsMarked marks v → Contains stack v ⊎ IsScanned g start seen marks v (length g.callers)

-- more is marked, and what is new waits
pub record Spreads (g : Graph) (old new : List Bool) (waiting more : List ℕ) : Type 0 where
  pub inside : All (λ v. v < g.rules) more
  pub grown : marked old ≤ marked new
  pub balance : length more + marked old ≡ length waiting + marked new
  pub kept : (v : ℕ) → IsMarked old v → IsMarked new v
  pub fresh : (v : ℕ) → IsMarked new v → IsMarked old v ⊎ Contains more v
  pub waits : (v : ℕ) → Contains waiting v → Contains more v

-- the callers of v are being marked; `edge` is the next one, if there is one
pub record IsMarking (g : Graph) (start : ℕ) (seen old new : List Bool) (waiting more : List ℕ) (v edge : ℕ) : Type 0 where
  pub within : edge ≤ length g.callers
  pub here : edge < length g.callers → callee g edge ≡ v
  pub spreads : Spreads g old new waiting more
  pub scanned : IsScanned g start seen new v edge
