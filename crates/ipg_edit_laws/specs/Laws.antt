-- What an edit leaves as it was: the bytes of parts before it and behind it, and the trees that stand over them.
use Rattle.std.specs.Prelude.{◌≡◌, ℕ, ◌+◌, ◌-◌, ◌≤◌, List, length}
use Rattle.ipg_core.specs.Part.{part}
use Rattle.ipg_core.specs.Tree as tree
use Rattle.ipg_core.specs.Tree.{Tree}
use Rattle.ipg_core.specs.Within.{TreeWithin, KidWithin}
use Rattle.ipg_region.specs.declared.region.RunId.{RunId}
use Rattle.ipg_mach_nodes.specs.declared.kid.Kid.{Kid}
use Rattle.ipg_mach_nodes.specs.Stored.{Stored, Source, StandsTree, StandsKid}
use Rattle.ipg_edit_laws.specs.Edited.{edited, IsEditOf, moved}

-- ---- bytes

-- as many bytes more as are new, less those that went
abbrev pub EditedLength : Type 0
EditedLength = (input with : List ℕ) (from to : ℕ) → IsEditOf input from to
    → length (edited input from to with) ≡ length input + length with - (to - from)

-- the part from a up to b ends at or before the edit
abbrev pub EarlierBytesStay : Type 0
EarlierBytesStay = (input with : List ℕ) (from to a b : ℕ) → IsEditOf input from to → b ≤ from
    → part (edited input from to with) a b ≡ part input a b

-- it begins at or behind the edit
abbrev pub LaterBytesMove : Type 0
LaterBytesMove = (input with : List ℕ) (from to a b : ℕ) → IsEditOf input from to → to ≤ a
    → part (edited input from to with) (moved from to (length with) a) (moved from to (length with) b) ≡ part input a b

-- ---- trees

-- two inputs, with the same symbols, have the same n bytes at a place of each
pub record HaveSameBytes (one other : Source) (at there n : ℕ) : Type 0 where
  pub syms : one.syms ≡ other.syms
  pub bytes : part one.input at (at + n) ≡ part other.input there (there + n)

-- a tree of n bytes stands at its node over each input that has the same bytes, wherever these begin
abbrev pub SameBytesSameTree : Type 0
SameBytesSameTree = (one other : Source) (st : Stored) (at there n : ℕ) (id : RunId) (sub : Tree)
    → HaveSameBytes one other at there n → TreeWithin n sub → StandsTree one st at id sub → StandsTree other st there id sub

-- a child in a part of n bytes, likewise
abbrev pub SameBytesSameKid : Type 0
SameBytesSameKid = (one other : Source) (st : Stored) (at there n : ℕ) (row : Kid) (kid : tree.Kid)
    → HaveSameBytes one other at there n → KidWithin n kid → StandsKid one st at row kid → StandsKid other st there row kid

-- the input edited, with the symbols as they are
abbrev pub edited_source : Source → ℕ → ℕ → List ℕ → Source
edited_source src from to with = record { syms = src.syms; input = edited src.input from to with }

-- a tree of the part from a up to b, which ends at or before the edit
abbrev pub EarlierTreesStay : Type 0
EarlierTreesStay = (src : Source) (st : Stored) (from to a b : ℕ) (with : List ℕ) (id : RunId) (sub : Tree)
    → IsEditOf src.input from to → a ≤ b → b ≤ from → TreeWithin (b - a) sub
    → StandsTree src st a id sub → StandsTree (edited_source src from to with) st a id sub

-- it begins at or behind the edit
abbrev pub LaterTreesMove : Type 0
LaterTreesMove = (src : Source) (st : Stored) (from to a b : ℕ) (with : List ℕ) (id : RunId) (sub : Tree)
    → IsEditOf src.input from to → to ≤ a → a ≤ b → TreeWithin (b - a) sub
    → StandsTree src st a id sub → StandsTree (edited_source src from to with) st (moved from to (length with) a) id sub
