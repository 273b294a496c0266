-- The environments that the rows of an open call stand for.
use Rattle.std.specs.Prelude.{◌≡◌, ℕ, ◌^◌, ◌<◌, List, length, Option, Some, None, option_map, slice_get, slice_set, false, ℤ, nat_eq, if◌then◌else◌}
use Rattle.ipg_core.specs.declared.grammar.Sym.{Sym}
use Rattle.ipg_core.specs.Grammar.{Grammar}
use Rattle.ipg_core.specs.Tree as tree
use Rattle.ipg_core.specs.Environment as core
use Rattle.ipg_core.specs.Environment.{Environment}
use Rattle.ipg_core.specs.Within.{KidWithin, KidsWithin}
use Rattle.ipg_mach_nodes.specs.Stored.{Stored, Source, StandsKid, StandKids}
use Rattle.ipg_mach_results.specs.Flat.{AreItems}
use Rattle.ipg_table.specs.Rows.{Rows, Each, StandFor}
use Rattle.ipg_mach_nodes.specs.declared.kid.Kid.{Kid}
use Rattle.ipg_mach_slot.specs.declared.now.Now as now
use Rattle.ipg_mach_slot.specs.declared.now.Done.{Done}
use Rattle.ipg_mach_slot.specs.declared.now.Running.{Running}

-- the result of a term, which lies in a part of n bytes; its items are no arrays and no repetitions
pub record IsDone (src : Source) (st : Stored) (at n : ℕ) (row : Done) (done : core.Done) : Type 0 where
  pub switch : row.is_switch ≡ done.is_switch
  pub stands : StandsKid src st at row.kid done.kid
  pub within : KidWithin n done.kid
  pub flat : AreItems (tree.items_of done.kid)

abbrev pub IsResult : Source → Stored → ℕ → ℕ → Option Done → Option core.Done → Type 0
IsResult src st at n None None = Unit {0}
IsResult src st at n (Some row) (Some done) = IsDone src st at n row done
IsResult src st at n None (Some done) = ⊥
IsResult src st at n (Some row) None = ⊥

-- the results of terms, by their numbers
abbrev pub AreResults : Source → Stored → ℕ → ℕ → List (Option Done) → List (Option core.Done) → Type 0
AreResults src st at n rows done = Each (IsResult src st at n) rows done

-- an array that runs has its items so far in the place of its term's result
pub record IsRunning (src : Source) (st : Stored) (at n : ℕ) (run : Running) (done all : List (Option core.Done)) : Type 0 where
  pub one : Sym
  pub items : tree.Kids
  pub is_sym : slice_get src.syms run.sym ≡ Some one
  pub stand : StandKids src st at run.items.now items
  pub within : KidsWithin n items
  pub inside : run.term < length done
  pub is : all ≡ slice_set done run.term (Some (record { is_switch = false; kid = tree.Array one items }))

abbrev pub WithRunning : Source → Stored → ℕ → ℕ → Option Running → List (Option core.Done) → List (Option core.Done) → Type 0
WithRunning src st at n None done all = all ≡ done
WithRunning src st at n (Some run) done all = IsRunning src st at n run done all

-- what an open call has come to
pub record Lent : Type 0 where
  pub rows : Rows
  pub store : Stored
  pub size : ℕ
  pub own : List (ℕ × ℤ)
  pub outer : List (ℕ × ℤ)
  pub done : List (Option Done)
  pub running : Option Running

abbrev pub lent : {A : Type 0} → now.Now A → Lent
lent n = record { rows = n.tables.now; store = n.store.now; size = n.size; own = n.own.now; outer = n.outer.now; done = n.done.now; running = n.running }

-- the terms that have run have these results
pub record HasRun (now : Lent) (src : Source) (at : ℕ) (results : List (Option core.Done)) : Type 0 where
  pub syms : src.syms ≡ now.rows.syms
  pub short : now.size < 2 ^ 63
  pub done : AreResults src now.store at now.size now.done results

pub record StandsFor (now : Lent) (src : Source) (at : ℕ) (env : Environment) : Type 0 where
  pub grammar : Grammar
  pub tables : StandFor now.rows grammar
  pub names : env.names ≡ grammar.names
  pub eoi : env.eoi ≡ now.size
  pub own : env.own ≡ now.own
  pub outer : env.outer ≡ now.outer
  pub item : env.item ≡ option_map (λ (r : Running). r.item) now.running
  pub results : List (Option core.Done)
  pub run : HasRun now src at results
  pub all : WithRunning src now.store at now.size now.running results env.done

abbrev pub Stands : Lent → Environment → Type 0
Stands now env = (src : Source) × (at : ℕ) × StandsFor now src at env

-- rows in which items stand
pub record ItemsStand (now : Lent) (rows : List Kid) (items : tree.Kids) : Type 0 where
  pub src : Source
  pub at : ℕ
  pub syms : src.syms ≡ now.rows.syms
  pub short : now.size < 2 ^ 63
  pub stand : StandKids src now.store at rows items
  pub within : KidsWithin now.size items

-- the row of a term's result
abbrev pub if_row : Option (Option Done) → Option Done
if_row None = None
if_row (Some row) = row

abbrev pub row_of : List (Option Done) → ℕ → Option Done
row_of rows term = if_row (slice_get rows term)

-- the array that runs, where it is this term
abbrev pub running_at : Option Running → ℕ → Option Running
running_at None term = None
running_at (Some run) term = if nat_eq run.term term then Some run else None
