-- What is shown of the tree of an input, and what is said of it.
use Rattle.std.specs.Prelude.{◌≡◌, ◌⊎◌, ℕ, List, ◌++◌, length, codes, decimal}
use Rattle.ipg_core.specs.Grammar.{Grammar}
use Rattle.ipg_core.specs.Lines.{lines}
use Rattle.ipg_core.specs.Tree.{Tree}
use Rattle.ipg_cover_leaves.specs.declared.fault.PutFault.TheVariants.{Gap}
use Rattle.ipg_cover_leaves.specs.Back.{IsBack, IsPutFault}
use Rattle.ipg_cover_leaves.specs.Leaves.{leaves_of}
use Rattle.ipg_query.specs.Picked.{picked}
use Rattle.ipg_tree.specs.Json.{json}
use Rattle.ipg_tree_view.specs.Picked.{picked_view}
use Rattle.ipg_tree_view.specs.View.{view}
use Rattle.ipg_app_tree.specs.declared.show.Show.{Show}
use Rattle.ipg_app_tree.specs.declared.show.Show.TheVariants as show
use Rattle.ipg_app_text.specs.Said.{Said, done, refused}
use Rattle.ipg_app_tree.specs.Queried.{picks_text}

-- the text that is shown: the tree's lines, what a path picks of it, the bytes that its leaves put back, its JSON text, or its lines beside
-- the bytes, all or what a path picks
abbrev pub Shows : Show → Grammar → List ℕ → Tree → List ℕ → Type 0
Shows show.Lines g input tree text = text ≡ lines g tree 0
Shows (show.Picked query) g input tree text = text ≡ picks_text (picked g input query tree)
Shows show.Bytes g input tree text = IsBack (leaves_of tree) (length input) text
Shows show.Json g input tree text = text ≡ json g tree
Shows show.View g input tree text = text ≡ view g input tree
Shows (show.PickedView query) g input tree text = text ≡ picked_view g input query tree

-- they put no byte at this place of the input, which is the least such place
abbrev pub Misses : Show → List ℕ → Tree → ℕ → Type 0
Misses show.Lines input tree at = ⊥
Misses (show.Picked query) input tree at = ⊥
Misses show.Json input tree at = ⊥
Misses show.View input tree at = ⊥
Misses (show.PickedView query) input tree at = ⊥
Misses show.Bytes input tree at = IsPutFault (leaves_of tree) (length input) (Gap at)

-- V4
abbrev pub gap_said : ℕ → Said
gap_said at = refused (codes "V4 Gap " ++ decimal at)

abbrev pub TreeSays : Show → Grammar → List ℕ → Tree → Said → Type 0
TreeSays show g input tree said =
    ((text : List ℕ) × Shows show g input tree text × (said ≡ done text)) ⊎ ((at : ℕ) × Misses show input tree at × (said ≡ gap_said at))
