-- A certificate that proves is not at fault, and a fault is one.
use Rattle.std.proofs.Common.{◌≡◌, ℕ, ◌+◌, List, [], ◌∷◌, Bool, true, false, Some, length, ◌⊎◌, inl, inr, refl, ap, sym, ◌∙◌}
use Rattle.std.specs.Prelude.{IsTrue}
use Rattle.std.specs.List.{AllByRecursion}
use Rattle.ipg_core.specs.Grammar.{Grammar}
use Rattle.ipg_graph.specs.Graph.{Graph}
use Rattle.ipg_graph.specs.Answers.{Spot, Start, At, IsRun}
use Rattle.ipg_facts_edges.specs.Edges.{edges_of}
use Rattle.ipg_touch.specs.Laws.{OneLimit}
use Rattle.ipg_proof.specs.declared.certificate.Certificate.{Certificate}
use Rattle.ipg_proof.specs.declared.fault.ProofWhy.{ProofWhy}
use Rattle.ipg_proof.specs.declared.fault.ProofWhy.TheVariants.{Mismatch, Unsound, Memory}
use Rattle.ipg_proof.specs.Calls.{calls_of, checked, cycles_of, dead_edges, live_graph}
use Rattle.ipg_proof.specs.Once.{FaultIsOne, ProvesIsNoFault}
use Rattle.ipg_proof.specs.Places.{Rise, IsFirstOff, IsFirstOther, AreInPlace, IsMismatch}
use Rattle.ipg_proof.specs.Proves.{AreChecked, IsUnsound, IsFault, first_false}

-- ---- dead edges

rise_not_off : (edges low n : ℕ) (dead : List ℕ) (at : ℕ) → Rise edges low dead → IsFirstOff edges low n dead at → ⊥
rise_not_off edges low n [] at rise off = off
rise_not_off edges low n (e ∷ dead) at rise (inl off) = off.0 rise.0
rise_not_off edges low n (e ∷ dead) at rise (inr more) = rise_not_off edges (e + 1) (n + 1) dead at rise.1 more.1

one_off : (edges low n : ℕ) (dead : List ℕ) (at other : ℕ) → IsFirstOff edges low n dead at → IsFirstOff edges low n dead other → at ≡ other
one_off edges low n [] at other off too = absurd off
one_off edges low n (e ∷ dead) at other (inl off) (inl too) = off.1 ∙ sym too.1
one_off edges low n (e ∷ dead) at other (inl off) (inr more) = absurd (off.0 more.0)
one_off edges low n (e ∷ dead) at other (inr more) (inl too) = absurd (too.0 more.0)
one_off edges low n (e ∷ dead) at other (inr more) (inr too) = one_off edges (e + 1) (n + 1) dead at other more.1 too.1

-- ---- cycles

run_not_other : (graph : Graph) (from : Spot) (n : ℕ) (cycles : List (List ℕ)) (at : ℕ) → IsRun graph from cycles → IsFirstOther graph from n cycles at → ⊥
run_not_other graph from n [] at run other = other.0 run
run_not_other graph from n (c ∷ cycles) at run (inl other) = other.0 run.0
run_not_other graph from n (c ∷ cycles) at run (inr more) = run_not_other graph (At c) (n + 1) cycles at run.1 more.1

one_other : (graph : Graph) (from : Spot) (n : ℕ) (cycles : List (List ℕ)) (at too : ℕ) → IsFirstOther graph from n cycles at
    → IsFirstOther graph from n cycles too → at ≡ too
one_other graph from n [] at too one other = one.1 ∙ sym other.1
one_other graph from n (c ∷ cycles) at too (inl one) (inl other) = one.1 ∙ sym other.1
one_other graph from n (c ∷ cycles) at too (inl one) (inr more) = absurd (one.0 more.0)
one_other graph from n (c ∷ cycles) at too (inr more) (inl other) = absurd (other.0 more.0)
one_other graph from n (c ∷ cycles) at too (inr more) (inr other) = one_other graph (At c) (n + 1) cycles at too more.1 other.1

module _ (g : Grammar) (c : Certificate) where
  in_place_not_mismatch : (at : ℕ) → AreInPlace g c → IsMismatch g c at → ⊥
  in_place_not_mismatch at place (inl off) = rise_not_off (length (edges_of g)) 0 0 (dead_edges c) at place.dead off
  in_place_not_mismatch at place (inr other) = run_not_other (live_graph g (dead_edges c)) Start (length c.dead) (cycles_of c) at place.cycles other.1

  one_mismatch : (at other : ℕ) → IsMismatch g c at → IsMismatch g c other → at ≡ other
  one_mismatch at other (inl off) (inl too) = one_off (length (edges_of g)) 0 0 (dead_edges c) at other off too
  one_mismatch at other (inl off) (inr too) = absurd (rise_not_off (length (edges_of g)) 0 0 (dead_edges c) at too.0 off)
  one_mismatch at other (inr one) (inl too) = absurd (rise_not_off (length (edges_of g)) 0 0 (dead_edges c) other one.0 too)
  one_mismatch at other (inr one) (inr too) = one_other (live_graph g (dead_edges c)) Start (length c.dead) (cycles_of c) at other one.1 too.1

-- ---- refutations

none_false : (n : ℕ) (bs : List Bool) (at : ℕ) → AllByRecursion IsTrue bs → first_false n bs ≡ Some at → ⊥
none_false n [] at all e = absurd (cc)
none_false n (true ∷ bs) at all e = none_false (n + 1) bs at all.1 e
none_false n (false ∷ bs) at all e = let no = all.0 in absurd (cc)

module _ (one_limit : OneLimit) (g : Grammar) (c : Certificate) where
  checked_not_unsound : (at : ℕ) → AreChecked g c → IsUnsound g c at → ⊥
  checked_not_unsound at all unsound =
      none_false 0 (checked (calls_of g all.marks) c) at all.all
      (ap (λ marks. first_false 0 (checked (calls_of g marks) c)) (one_limit g all.marks unsound.marks all.limit unsound.limit) ∙ unsound.first)

  one_unsound : (at other : ℕ) → IsUnsound g c at → IsUnsound g c other → at ≡ other
  one_unsound at other one too =
      let same = ap (λ marks. first_false 0 (checked (calls_of g marks) c)) (one_limit g one.marks too.marks one.limit too.limit) in
      let first = one.first in let second = too.first in cc

  no_fault : (why : ProofWhy) → AreInPlace g c × AreChecked g c → IsFault g c why → why ≡ Memory
  no_fault (Mismatch at) proves fault = absurd (in_place_not_mismatch g c at proves.0 fault)
  no_fault (Unsound at) proves fault = absurd (checked_not_unsound at proves.1 fault.1)
  no_fault Memory proves fault = refl

  one_fault : (why other : ProofWhy) → IsFault g c why → IsFault g c other → (why ≡ Memory) ⊎ (other ≡ Memory) ⊎ (why ≡ other)
  one_fault Memory other p q = inl refl
  one_fault (Mismatch a) Memory p q = inr (inl refl)
  one_fault (Unsound a) Memory p q = inr (inl refl)
  one_fault (Mismatch a) (Mismatch b) p q = inr (inr (ap Mismatch (one_mismatch g c a b p q)))
  one_fault (Mismatch a) (Unsound b) p q = absurd (in_place_not_mismatch g c a q.0 p)
  one_fault (Unsound a) (Mismatch b) p q = absurd (in_place_not_mismatch g c b p.0 q)
  one_fault (Unsound a) (Unsound b) p q = inr (inr (ap Unsound (one_unsound a b p.1 q.1)))

pub proves_is_no_fault : OneLimit → ProvesIsNoFault
proves_is_no_fault one_limit g c why proves fault = no_fault one_limit g c why proves fault

pub fault_is_one : OneLimit → FaultIsOne
fault_is_one one_limit g c why other fault too = one_fault one_limit g c why other fault too
