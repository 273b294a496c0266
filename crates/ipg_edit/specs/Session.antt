-- A session of edits as its callers see it, and what it knows of a grammar.
use Rattle.std.specs.Prelude.{◌≡◌, ℕ, ◌≤◌, ◌^◌, List, length, Option, Some, None}
use Rattle.std.specs.FinMap as map
use Rattle.ipg_core.specs.Grammar.{Grammar}
use Rattle.ipg_core.specs.Good.{Good}
use Rattle.ipg_core.specs.Tree.{Tree}
use Rattle.ipg_mach_moves.specs.Moves.{Key, Known}
use Rattle.ipg_mach_moves.specs.Laws.{AreRight}
use Rattle.ipg_mach_count_laws.specs.Counts.{Has}
use Rattle.ipg_mach_count_laws.specs.Kept.{AreKnown}
use Rattle.ipg_mach_nodes.specs.Stored as stored
use Rattle.ipg_mach_nodes.specs.Stored.{Stored, StandsTree}
use Rattle.ipg_memo.specs.Keyed.{Entries}
use Rattle.ipg_region.specs.declared.region.RunId.{RunId}
use Rattle.ipg_table.specs.Rows.{Rows, StandFor}
use Rattle.ipg_mach.specs.Known.{IsKnown}
use Rattle.ipg_mach.specs.Stage.{source}
use Rattle.ipg_mach.specs.declared.verdict.Verdict.{Verdict}
use Rattle.ipg_mach.specs.declared.verdict.Verdict.TheVariants as verdict
use Rattle.ipg_edit.specs.declared.session.State.{State}
use Rattle.ipg_edit.specs.declared.session.State.TheVariants as state
use Rattle.ipg_edit.specs.declared.session.Session.TheInside.{Inside}

-- nodes, the answers of calls that stand among them, and the node of the tree that is shown
pub record Holding : Type 0 where
  pub store : Stored
  pub memo : Option Entries
  pub shown : Option RunId

pub record Seen : Type 0 where
  pub tables : Rows
  pub input : List ℕ
  pub holding : Holding

-- nothing is known
abbrev pub nothing : Holding
nothing = record { store = stored.nothing; memo = Some map.empty; shown = None }

abbrev pub holding : {A : Type 0} → State A → Holding
holding state.Nothing = nothing
holding (state.Known kept) = record { store = kept.store; memo = kept.memo; shown = None }
holding (state.Shown tree memo) = record { store = tree.store; memo = memo; shown = Some tree.root }

-- what a verdict leaves
abbrev pub held_by : {A : Type 0} → Verdict A → Holding
held_by (verdict.Tree root counts kept) = record { store = kept.store; memo = kept.memo; shown = Some root }
held_by (verdict.NoTree counts kept) = record { store = kept.store; memo = kept.memo; shown = None }
held_by (verdict.Range counts) = nothing

module _ {A : Type 0} where
  abbrev pub seen : Inside A → Seen
  seen s = record { tables = s.tables.now; input = s.input.items; holding = holding s.state }

  abbrev pub IsSmall : Inside A → Type 0
  IsSmall s = length s.input.items ≤ 2 ^ 30

-- the keys are on intervals of an input of n bytes
abbrev pub AreInside : ℕ → List Key → Type 0
AreInside n keys = (key : Key) → Has keys key → (key.from ≤ key.to) × (key.to ≤ n)

-- its tables stand for the grammar, and it knows right answers of these keys on its input, and of no others
pub record Knows (g : Grammar) (kept : List Key) (s : Seen) : Type 0 where
  pub stand : StandFor s.tables g
  pub good : Good g
  pub inside : AreInside (length s.input) kept
  pub known : Known
  pub are : AreKnown known kept
  pub right : AreRight g s.input (Some known)
  pub holds : IsKnown (source s.tables s.input) s.holding.store s.holding.memo (Some known)

-- it shows the tree
pub record Shows (one : Tree) (s : Seen) : Type 0 where
  pub root : RunId
  pub is : s.holding.shown ≡ Some root
  pub stands : StandsTree (source s.tables s.input) s.holding.store 0 root one
