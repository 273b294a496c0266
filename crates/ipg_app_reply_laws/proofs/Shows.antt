-- Of an input something is said, by what is to be shown of its tree.
use Rattle.std.proofs.Common.{ℕ, ◌<◌, inl, inr, refl, List, [], length, Result, Ok, Err}
use Rattle.ipg_core.specs.Grammar.{Grammar}
use Rattle.ipg_core.specs.Good.{Good}
use Rattle.ipg_core.specs.Grown.{IsInput}
use Rattle.ipg_core.specs.Holds.{TreeHolds}
use Rattle.ipg_core.specs.Laws.{HoldsItsBytes, LiesWithin}
use Rattle.ipg_core.specs.Lines.{lines}
use Rattle.ipg_core.specs.Meaning.{Means}
use Rattle.ipg_core.specs.Run.{Stop, NoTree, OutOfRange, Deep}
use Rattle.ipg_core.specs.Total.{Total}
use Rattle.ipg_core.specs.Tree.{Tree}
use Rattle.ipg_core.specs.Within.{TreeWithin}
use Rattle.ipg_cover_leaves.specs.Back.{IsPut}
use Rattle.ipg_cover_leaves.specs.Bytes.{puts}
use Rattle.ipg_cover_leaves.specs.Covers.{AllPutComesBack}
use Rattle.ipg_cover_leaves.specs.Laws.{LeavesAgree}
use Rattle.ipg_cover_leaves.specs.Leaves.{leaves_of}
use Rattle.ipg_query.specs.Picked.{picked}
use Rattle.ipg_tree.specs.Json.{json}
use Rattle.ipg_tree_view.specs.Picked.{picked_view}
use Rattle.ipg_tree_view.specs.View.{view}
use Rattle.ipg_app_tree.specs.declared.show.Show.{Show}
use Rattle.ipg_app_tree.specs.declared.show.Show.TheVariants as show
use Rattle.ipg_app_tree.specs.Queried.{picks_text}
use Rattle.ipg_app_tree.specs.Parses.{ParseSays, Parses}
use Rattle.ipg_app_text.specs.Said.{Said, done, no_parse, range}
use Rattle.ipg_app_tree.specs.Shown.{TreeSays, gap_said}
use Rattle.ipg_app_reply_laws.proofs.Classical.{Somehow, some, ◌>>=◌, by, not_not, First, first_below, each_below}
use Rattle.ipg_app_reply_laws.proofs.Meanings.{means}

-- ---- bytes that are put back

module _ (holds : HoldsItsBytes) (within : LiesWithin) (agree : LeavesAgree) (back : AllPutComesBack) (g : Grammar) (input : List ℕ) (is : IsInput input) where
  module _ (tree : Tree) (means : Means g input (Ok tree)) where
    abbrev Put : ℕ → Type 0
    Put at = IsPut (puts (leaves_of tree)) at

    tree_holds : TreeHolds input tree
    tree_holds = holds g means.height 0 input [] tree means.is

    tree_within : TreeWithin (length input) tree
    tree_within = within g means.height 0 input [] tree means.is

    gap : (f : First (λ at. Put at → ⊥)) → f.at < length input → Somehow ((said : Said) × TreeSays show.Bytes g input tree said)
    gap f inside = do
      before ← each_below Put f.at (λ at lt. not_not (f.before at lt))
      some (gap_said f.at, inr (f.at, (agree input tree is.bytes tree_holds tree_within, record { within = inside; bare = f.holds; before = before }), refl))

    bytes_back : Somehow ((said : Said) × TreeSays show.Bytes g input tree said)
    bytes_back = do
      found ← first_below (λ at. Put at → ⊥) (length input)
      by found (λ f. gap f.0 f.1) (λ none. do
        put ← each_below Put (length input) (λ at lt. not_not (none at lt))
        some (done input, inl (input, back input tree is.bytes tree_holds tree_within put, refl)))

  -- ---- each way to show a tree

  tree_says : (s : Show) (tree : Tree) → Means g input (Ok tree) → Somehow ((said : Said) × TreeSays s g input tree said)
  tree_says show.Lines tree means = some (done (lines g tree 0), inl (lines g tree 0, refl, refl))
  tree_says (show.Picked query) tree means =
      let text = picks_text (picked g input query tree) in some (done text, inl (text, refl, refl))
  tree_says show.Bytes tree means = bytes_back tree means
  tree_says show.Json tree means = some (done (json g tree), inl (json g tree, refl, refl))
  tree_says show.View tree means = some (done (view g input tree), inl (view g input tree, refl, refl))
  tree_says (show.PickedView query) tree means =
      let text = picked_view g input query tree in some (done text, inl (text, refl, refl))

  parse_says : (s : Show) (answer : Result Tree Stop) → Means g input answer → Somehow ((said : Said) × ParseSays s g input answer said)
  parse_says s (Ok tree) means = tree_says s tree means
  parse_says s (Err NoTree) means = some (no_parse, refl)
  parse_says s (Err OutOfRange) means = some (range, refl)
  parse_says s (Err Deep) means = absurd (means.settled refl)

  pub parses : Good g → Total g → (s : Show) → Somehow ((said : Said) × Parses s g input said)
  parses good total s = do
    let m = means g good total input is
    said ← parse_says s m.0 m.1
    some (said.0, record { answer = m.0; means = m.1; is = said.1 })
