-- Grammars whose trees leave no byte out.
use Rattle.std.specs.Prelude.{◌≡◌, ℕ, List, [], length, Ok}
use Rattle.ipg_lin.specs.Formula.{Solvable}
use Rattle.ipg_core.specs.declared.grammar.CoreAlt.{CoreAlt}
use Rattle.ipg_core.specs.declared.grammar.CoreRule.{CoreRule}
use Rattle.ipg_core.specs.Grammar.{Grammar}
use Rattle.ipg_core.specs.Tree.{Tree}
use Rattle.ipg_core.specs.Meaning.{den}
use Rattle.ipg_core.specs.MustTouch.{Marks, AreLimit}
use Rattle.ipg_core.specs.Good.{AltAt, Good}
use Rattle.ipg_core.specs.Grown.{IsInput}
use Rattle.ipg_facts.specs.Gap.{gap}
use Rattle.ipg_cover_leaves.specs.Leaves.{leaves_of}
use Rattle.ipg_cover_leaves.specs.Back.{IsBack, IsPutFault}
use Rattle.ipg_cover_leaves.specs.declared.fault.PutFault.{PutFault}
use Rattle.ipg_cover_leaves.specs.declared.fault.PutFault.TheVariants.{Memory}
use Rattle.ipg_cover_laws.specs.Reaches.{Reaches}

-- no gap formula has a solution, of an alternative of a rule that the first one leads to
abbrev pub IsGapless : Grammar → Marks → Type 0
IsGapless g marks = (at : ℕ × ℕ) (rule : CoreRule) (alt : CoreAlt) → Reaches g 0 at.0 → AltAt g rule alt at
    → ¬ Solvable (gap g marks at.0 at.1).0 (gap g marks at.0 at.1).1

-- what the leaves of a tree put back is the input, and nothing but memory can be wanting
pub record ComesBack (s : List ℕ) (tree : Tree) : Type 0 where
  pub is : IsBack (leaves_of tree) (length s) s
  pub alone : (bytes : List ℕ) → IsBack (leaves_of tree) (length s) bytes → bytes ≡ s
  pub only_memory : (fault : PutFault) → IsPutFault (leaves_of tree) (length s) fault → fault ≡ Memory

-- so do those of each tree of an input
abbrev pub GaplessComesBack : Type 0
GaplessComesBack = (g : Grammar) (marks : Marks) (height : ℕ) (s : List ℕ) (tree : Tree)
    → Good g → AreLimit g marks → IsGapless g marks → IsInput s → den g height 0 s [] ≡ Ok tree → ComesBack s tree
