-- Where the entries of a certificate belong: dead edges rise, and cycles are those that are listed, in order.
use Rattle.std.specs.Prelude.{◌≡◌, ℕ, ◌+◌, ◌<◌, ◌≤◌, ◌⊎◌, List, [], ◌∷◌, length}
use Rattle.ipg_core.specs.Grammar.{Grammar}
use Rattle.ipg_graph.specs.Graph.{Graph}
use Rattle.ipg_graph.specs.Answers.{Spot, Start, At, IsNext, HasNoNext, IsRun}
use Rattle.ipg_facts_edges.specs.Edges.{edges_of}
use Rattle.ipg_proof.specs.declared.certificate.Certificate.{Certificate}
use Rattle.ipg_proof.specs.Calls.{dead_edges, cycles_of, live_graph}

-- one of so many edges, and not before `low`
abbrev pub IsDue : ℕ → ℕ → ℕ → Type 0
IsDue edges low e = (low ≤ e) × (e < edges)

-- each dead edge is an edge, and above the one before it
abbrev pub Rise : ℕ → ℕ → List ℕ → Type 0
Rise edges low [] = Unit {0}
Rise edges low (e ∷ dead) = IsDue edges low e × Rise edges (e + 1) dead

-- the first dead edge that isn't, where they are counted from n
abbrev pub IsFirstOff : ℕ → ℕ → ℕ → List ℕ → ℕ → Type 0
IsFirstOff edges low n [] at = ⊥
IsFirstOff edges low n (e ∷ dead) at = (¬ IsDue edges low e × (at ≡ n)) ⊎ (IsDue edges low e × IsFirstOff edges (e + 1) (n + 1) dead at)

-- the first cycle that isn't the one due at its place; behind the last where one is missing
abbrev pub IsFirstOther : Graph → Spot → ℕ → List (List ℕ) → ℕ → Type 0
IsFirstOther graph from n [] at = ¬ HasNoNext graph from × (at ≡ n)
IsFirstOther graph from n (c ∷ cycles) at = (¬ IsNext graph from c × (at ≡ n)) ⊎ (IsNext graph from c × IsFirstOther graph (At c) (n + 1) cycles at)

-- the cycles are exactly those of the edges that aren't dead, in order
pub record AreInPlace (g : Grammar) (c : Certificate) : Type 0 where
  pub dead : Rise (length (edges_of g)) 0 (dead_edges c)
  pub cycles : IsRun (live_graph g (dead_edges c)) Start (cycles_of c)

-- the first entry that is out of place
abbrev pub IsMismatch : Grammar → Certificate → ℕ → Type 0
IsMismatch g c at =
    IsFirstOff (length (edges_of g)) 0 0 (dead_edges c) at
    ⊎ (Rise (length (edges_of g)) 0 (dead_edges c) × IsFirstOther (live_graph g (dead_edges c)) Start (length c.dead) (cycles_of c) at)
