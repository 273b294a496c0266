-- Items and results stay as the store grows, and grow one by one.
use Rattle.std.specs.Prelude.{◌≡◌, ℕ, ℤ, ◌≤◌, List, [], ◌∷◌, ◌++◌, Option, Some, None, false, replicate, slice_set}
use Rattle.ipg_core.specs.Tree as tree
use Rattle.ipg_core.specs.Environment as core
use Rattle.ipg_core.specs.Within.{KidWithin}
use Rattle.ipg_mach_nodes.specs.declared.kid.Kid.{Kid}
use Rattle.ipg_mach_nodes.specs.declared.kid.Head.{Head}
use Rattle.ipg_mach_nodes.specs.declared.store.Mark.{Mark}
use Rattle.ipg_mach_nodes.specs.Stored.{Stored, Source, StandsKid, IsMark, before, with_list, with_node}
use Rattle.ipg_mach_nodes.specs.Laws.{Grows}
use Rattle.ipg_mach_results.specs.Flat.{has_items}
use Rattle.ipg_mach_slot.specs.declared.now.Done.{Done}
use Rattle.ipg_mach_slot.specs.Now.{IsDone, AreResults}
use Rattle.ipg_mach_node.specs.Items.{HasItems}

-- ---- items

abbrev pub NoItems : Type 0
NoItems = (src : Source) (st : Stored) (at n : ℕ) → HasItems src st at n [] []

abbrev pub OneMore : Type 0
OneMore =
    (src : Source) (st : Stored) (at n : ℕ) (rows : List Kid) (items : List tree.Kid) (row : Kid) (one : tree.Kid) → HasItems src st at n rows items
    → StandsKid src st at row one → KidWithin n one → has_items one ≡ false → HasItems src st at n (rows ++ row ∷ []) (items ++ one ∷ [])

abbrev pub ItemsStay : Type 0
ItemsStay =
    (src : Source) (st more : Stored) (at n : ℕ) (rows : List Kid) (items : List tree.Kid) → Grows st more → HasItems src st at n rows items
    → HasItems src more at n rows items

-- ---- results of terms, by their numbers

abbrev pub ResultsStay : Type 0
ResultsStay =
    (src : Source) (st more : Stored) (at n : ℕ) (rows : List (Option Done)) (done : List (Option core.Done)) → Grows st more
    → AreResults src st at n rows done → AreResults src more at n rows done

abbrev pub ResultSet : Type 0
ResultSet =
    (src : Source) (st : Stored) (at n : ℕ) (rows : List (Option Done)) (done : List (Option core.Done)) (row : Done) (one : core.Done) (u : ℕ)
    → AreResults src st at n rows done → IsDone src st at n row one → AreResults src st at n (slice_set rows u (Some row)) (slice_set done u (Some one))

abbrev pub NoneHasRun : Type 0
NoneHasRun = (src : Source) (st : Stored) (at n terms : ℕ) → AreResults src st at n (replicate terms None) (replicate terms None)

-- ---- stores that grow

abbrev pub GrowsFromBefore : Type 0
GrowsFromBefore = (st : Stored) (mark : Mark) → IsMark st mark → Grows (before st mark) st

abbrev pub BeforeBefore : Type 0
BeforeBefore =
    (st : Stored) (first later : Mark) → first.nodes.place ≤ later.nodes.place → first.kids.place ≤ later.kids.place
    → first.attrs.place ≤ later.attrs.place → before (before st later) first ≡ before st first

abbrev pub GrowsThrough : Type 0
GrowsThrough = (st more most : Stored) → Grows st more → Grows more most → Grows st most

abbrev pub GrowsByList : Type 0
GrowsByList = (st : Stored) (list : List Kid) → Grows st (with_list st list)

abbrev pub GrowsByNode : Type 0
GrowsByNode = (st : Stored) (head : Head) (levels : ℕ) (attrs : List (ℕ × ℤ)) (kids : List Kid) → Grows st (with_node st head levels attrs kids)
