-- A certificate proves a grammar, or an entry of it is at fault.
use Rattle.std.proofs.Common.{◌≡◌, ℕ, ◌+◌, ◌⊎◌, inl, inr, refl, List, [], ◌∷◌, length, Bool, true, false, Some}
use Rattle.std.specs.Prelude.{IsTrue}
use Rattle.std.specs.List.{AllByRecursion}
use Rattle.ipg_core.specs.Grammar.{Grammar}
use Rattle.ipg_graph.specs.Graph.{Graph}
use Rattle.ipg_graph.specs.Answers.{Spot, Start, At, IsNext, HasNoNext, IsRun}
use Rattle.ipg_facts_edges.specs.Edges.{edges_of}
use Rattle.ipg_proof.specs.declared.certificate.Certificate.{Certificate}
use Rattle.ipg_proof.specs.declared.fault.ProofWhy.TheVariants.{Mismatch, Unsound}
use Rattle.ipg_proof.specs.Calls.{calls_of, checked, dead_edges, cycles_of, live_graph}
use Rattle.ipg_proof.specs.Places.{IsDue, Rise, IsFirstOff, IsFirstOther, AreInPlace, IsMismatch}
use Rattle.ipg_proof.specs.Proves.{Proves, first_false, IsFault}
use Rattle.ipg_app_reply_laws.proofs.Classical.{Somehow, some, ◌>>=◌, by, middle}
use Rattle.ipg_app_reply_laws.proofs.Limits.{limits}

-- ---- places

rising : (edges low n : ℕ) (dead : List ℕ) → Somehow (Rise edges low dead ⊎ ((at : ℕ) × IsFirstOff edges low n dead at))
rising edges low n [] = some (inl tt)
rising edges low n (e ∷ dead) = do
  due ← middle (IsDue edges low e)
  by due (λ is. do
    rest ← rising edges (e + 1) (n + 1) dead
    some (by rest (λ rise. inl (is, rise)) (λ off. inr (off.0, inr (is, off.1))))) (λ not. some (inr (n, inl (not, refl))))

running : (graph : Graph) (from : Spot) (n : ℕ) (cycles : List (List ℕ)) → Somehow (IsRun graph from cycles ⊎ ((at : ℕ) × IsFirstOther graph from n cycles at))
running graph from n [] = do
  last ← middle (HasNoNext graph from)
  some (by last (λ none. inl none) (λ more. inr (n, (more, refl))))
running graph from n (c ∷ cycles) = do
  next ← middle (IsNext graph from c)
  by next (λ is. do
    rest ← running graph (At c) (n + 1) cycles
    some (by rest (λ run. inl (is, run)) (λ other. inr (other.0, inr (is, other.1))))) (λ not. some (inr (n, inl (not, refl))))

module _ (g : Grammar) (c : Certificate) where
  in_place : Somehow (AreInPlace g c ⊎ ((at : ℕ) × IsMismatch g c at))
  in_place = do
    rise ← rising (length (edges_of g)) 0 0 (dead_edges c)
    by rise (λ is. do
      run ← running (live_graph g (dead_edges c)) Start (length c.dead) (cycles_of c)
      some (by run (λ cycles. inl (record { dead = is; cycles = cycles })) (λ other. inr (other.0, inr (is, other.1)))))
        (λ off. some (inr (off.0, inl off.1)))

-- ---- refutations

all_true : (n : ℕ) (bs : List Bool) → AllByRecursion IsTrue bs ⊎ ((at : ℕ) × (first_false n bs ≡ Some at))
all_true n [] = inl tt
all_true n (true ∷ bs) = by (all_true (n + 1) bs) (λ all. inl (refl, all)) (λ one. inr one)
all_true n (false ∷ bs) = inr (n, refl)

-- an entry is at fault
abbrev pub IsAtFault : Grammar → Certificate → Type 0
IsAtFault g c = (at : ℕ) × (IsFault g c (Mismatch at) ⊎ IsFault g c (Unsound at))

pub judged : (g : Grammar) (c : Certificate) → Somehow (Proves g c ⊎ IsAtFault g c)
judged g c = do
  marks ← limits g
  place ← in_place g c
  some (by place (λ is. by (all_true 0 (checked (calls_of g marks.0) c))
      (λ all. inl (is, record { marks = marks.0; limit = marks.1; all = all }))
      (λ one. inr (one.0, inr (is, record { marks = marks.0; limit = marks.1; first = one.1 }))))
      (λ off. inr (off.0, inl off.1)))
