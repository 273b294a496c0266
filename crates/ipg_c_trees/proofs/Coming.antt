-- What an input comes to, by its status and its rows.
use Rattle.std.proofs.Common.{◌≡◌, ℕ, ◌<◌, ◌^◌, sym, ap, subst, List, [], length, Result, Ok, Err, IfOk}
use Rattle.ipg_core.specs.Grammar.{Grammar}
use Rattle.ipg_core.specs.Meaning.{Means}
use Rattle.ipg_core.specs.Run.{Stop, NoTree, OutOfRange}
use Rattle.ipg_core.specs.Tree.{Tree}
use Rattle.ipg_mach.specs.Outcome.{IsParse}
use Rattle.ipg_mach.specs.Stage.{source}
use Rattle.ipg_table.specs.Rows.{Rows}
use Rattle.ipg_tree_walk.specs.Parse.{Walked}
use Rattle.ipg_tree_rows.specs.declared.row.TreeRow.{TreeRow}
use Rattle.ipg_tree_rows.specs.Rows.{rows_of}
use Rattle.ipg_tree_rows.specs.Sees.{IsTree}
use Rattle.ipg_app_text.specs.declared.status.Status.{Status}
use Rattle.ipg_app_text.specs.declared.status.Status.TheVariants as status
use Rattle.ipg_c_trees.specs.Comes.{Comes, ATree, NoTree_, Range_, Large, Wanting}

-- the tree of a parse stands at its root
pub tree_of : (t : Rows) (input : List ℕ) (p : Walked) (one : Tree) → IsParse t input p one → IsTree p.parse (source t input) one
tree_of t input p one h = record {
  source = record { syms = ap (λ (t : Rows). t.syms) (sym h.tables); input = sym h.bytes };
  stands = h.stands;
}

pub if_ok : {A E : Type 0} {P Q : A → Type 0} (r : Result A E) → ((a : A) → P a → Q a) → IfOk r P → IfOk r Q
if_ok (Ok a) f p = f a p
if_ok (Err e) f p = p

module _ (g : Grammar) (input : List ℕ) {s : Status} {rows : List TreeRow} where
  by_same : (t : Status) (own : List TreeRow) → s ≡ t → rows ≡ own → Comes g input t own → Comes g input s rows
  by_same t own es er h = subst (λ s. Comes g input s rows) (sym es) (subst (λ rows. Comes g input t rows) (sym er) h)

  pub a_tree : (answer : Result Tree Stop) (one : Tree) → Means g input answer → answer ≡ Ok one → s ≡ status.Done → rows ≡ rows_of one → Comes g input s rows
  a_tree answer one means is es er = by_same status.Done (rows_of one) es er (ATree one (subst (Means g input) is means))

  pub no_tree : (answer : Result Tree Stop) → Means g input answer → answer ≡ Err NoTree → s ≡ status.NoParse → rows ≡ [] → Comes g input s rows
  no_tree answer means is es er = by_same status.NoParse [] es er (NoTree_ (subst (Means g input) is means))

  pub range : (answer : Result Tree Stop) → Means g input answer → answer ≡ Err OutOfRange → s ≡ status.Range → rows ≡ [] → Comes g input s rows
  range answer means is es er = by_same status.Range [] es er (Range_ (subst (Means g input) is means))

  pub large : 2 ^ 30 < length input → s ≡ status.TooLarge → rows ≡ [] → Comes g input s rows
  large more es er = by_same status.TooLarge [] es er (Large more)

  pub wanting : s ≡ status.Memory → rows ≡ [] → Comes g input s rows
  wanting es er = by_same status.Memory [] es er Wanting
