-- Laws of leaves that are put back.
use Rattle.std.specs.Prelude.{◌≡◌, ◌⊎◌, ℕ, ◌<◌, List, length}
use Rattle.std.specs.List.{AllByRecursion}
use Rattle.ipg_core.specs.Tree.{Tree}
use Rattle.ipg_core.specs.Within.{TreeWithin}
use Rattle.ipg_core.specs.Holds.{TreeHolds}
use Rattle.ipg_cover_leaves.specs.declared.leaf.Leaf.{Leaf}
use Rattle.ipg_cover_leaves.specs.declared.fault.PutFault.{PutFault}
use Rattle.ipg_cover_leaves.specs.declared.fault.PutFault.TheVariants.{Memory}
use Rattle.ipg_cover_leaves.specs.Back.{Agree, IsBack, IsPutFault}
use Rattle.ipg_cover_leaves.specs.Leaves.{leaves_of}

abbrev pub AreBytes : List ℕ → Type 0
AreBytes s = AllByRecursion (λ b. b < 256) s

-- leaves of a tree that holds bytes of an input: no number is at fault, none lies outside, no two clash
abbrev pub LeavesAgree : Type 0
LeavesAgree = (s : List ℕ) (one : Tree) → AreBytes s → TreeHolds s one → TreeWithin (length s) one → Agree (leaves_of one) (length s)

-- and what they put back, where they do, is that input
abbrev pub InputComesBack : Type 0
InputComesBack = (s : List ℕ) (one : Tree) (bytes : List ℕ) → AreBytes s → TreeHolds s one → TreeWithin (length s) one
    → IsBack (leaves_of one) (length s) bytes → bytes ≡ s

-- leaves that are put back have no fault but want of memory, are put back to one list of bytes, and others have one fault
pub record OneAnswer (leaves : List Leaf) (len : ℕ) : Type 0 where
  pub never_both : (bytes : List ℕ) (fault : PutFault) → IsBack leaves len bytes → IsPutFault leaves len fault → fault ≡ Memory
  pub one_back : (bytes other : List ℕ) → IsBack leaves len bytes → IsBack leaves len other → bytes ≡ other
  pub one_fault : (fault other : PutFault) → IsPutFault leaves len fault → IsPutFault leaves len other → (fault ≡ Memory) ⊎ (other ≡ Memory) ⊎ (fault ≡ other)

abbrev pub AnswersAreOne : Type 0
AnswersAreOne = (leaves : List Leaf) (len : ℕ) → OneAnswer leaves len
