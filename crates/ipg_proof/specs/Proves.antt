-- When a certificate proves that parsing by a grammar ends, what is at fault in one that does not, and when a grammar has one.
use Rattle.std.specs.Prelude.{◌≡◌, ℕ, ◌+◌, List, [], ◌∷◌, Bool, IsTrue, Option, Some, None, if◌then◌else◌}
use Rattle.std.specs.List.{AllByRecursion}
use Rattle.ipg_core.specs.Grammar.{Grammar}
use Rattle.ipg_core.specs.MustTouch.{Marks, AreLimit}
use Rattle.ipg_graph.specs.Cycle.{IsSimpleCycle}
use Rattle.ipg_lin.specs.Formula.{Solvable}
use Rattle.ipg_proof.specs.declared.certificate.Certificate.{Certificate}
use Rattle.ipg_proof.specs.declared.fault.ProofWhy.{ProofWhy}
use Rattle.ipg_proof.specs.declared.fault.ProofWhy.TheVariants.{Mismatch, Unsound, Memory}
use Rattle.ipg_proof.specs.Calls.{calls_of, checked, joint_of, live_graph}
use Rattle.ipg_proof.specs.Places.{AreInPlace, IsMismatch}

-- each refutation checks
pub record AreChecked (g : Grammar) (c : Certificate) : Type 0 where
  pub marks : Marks
  pub limit : AreLimit g marks
  pub all : AllByRecursion IsTrue (checked (calls_of g marks) c)

abbrev pub Proves : Grammar → Certificate → Type 0
Proves g c = AreInPlace g c × AreChecked g c

-- the first that is false, where they are counted from n
abbrev pub first_false : ℕ → List Bool → Option ℕ
first_false n [] = None
first_false n (b ∷ bs) = if b then first_false (n + 1) bs else Some n

-- the first entry whose refutation does not check
pub record IsUnsound (g : Grammar) (c : Certificate) (at : ℕ) : Type 0 where
  pub marks : Marks
  pub limit : AreLimit g marks
  pub first : first_false 0 (checked (calls_of g marks) c) ≡ Some at

abbrev pub IsUnsoundness : Grammar → Certificate → ProofWhy → Type 0
IsUnsoundness g c (Mismatch at) = ⊥
IsUnsoundness g c (Unsound at) = IsUnsound g c at
IsUnsoundness g c Memory = Unit {0}

abbrev pub IsFault : Grammar → Certificate → ProofWhy → Type 0
IsFault g c (Mismatch at) = IsMismatch g c at
IsFault g c (Unsound at) = AreInPlace g c × IsUnsound g c at
IsFault g c Memory = Unit {0}

-- no cycle of edges can be walked on one length of the part
pub record Accepts (g : Grammar) : Type 0 where
  pub marks : Marks
  pub limit : AreLimit g marks
  pub never : (cycle : List ℕ) → IsSimpleCycle (live_graph g []) cycle
      → ¬ Solvable (joint_of (calls_of g marks) cycle).0 (joint_of (calls_of g marks) cycle).1
