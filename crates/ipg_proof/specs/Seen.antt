-- What the code's calls stands for, and what its searches answer.
use Rattle.std.specs.Prelude.{◌≡◌, ℕ, List, Bool, true, false}
use Rattle.ipg_graph.specs.Answers.{Listing, At, IsNext}
use Rattle.ipg_proof.specs.declared.calls.CallGraph as code
use Rattle.ipg_proof.specs.Calls.{CallGraph}

abbrev pub seen : code.CallGraph → CallGraph
seen calls = record { grammar = calls.grammar.now; marks = calls.marks.now; edges = calls.edges.now }

-- the cycle is the next one, and the listing stands at it; or it isn't the next
abbrev pub Takes : Listing → Listing → List ℕ → Bool → Type 0
Takes old new c true = IsNext old.graph old.at c × (new.graph ≡ old.graph) × (new.at ≡ At c)
Takes old new c false = ¬ IsNext old.graph old.at c
