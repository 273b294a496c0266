-- The tables as contracts see them, and what their rows stand for.
use Rattle.std.specs.Prelude.{◌≡◌, ℕ, ◌+◌, ◌≤◌, List, [], ◌∷◌, ◌++◌, take, drop, length, slice_get, Some}
use Rattle.ipg_core.specs.declared.grammar.Sym.{Sym}
use Rattle.ipg_core.specs.declared.grammar.CoreExpr.{CoreExpr}
use Rattle.ipg_core.specs.declared.grammar.CoreSlot.{CoreSlot}
use Rattle.ipg_core.specs.declared.grammar.CoreTerm.{CoreTerm}
use Rattle.ipg_core.specs.declared.grammar.CoreTerm.TheVariants as core
use Rattle.ipg_core.specs.declared.grammar.CoreAlt.{CoreAlt}
use Rattle.ipg_core.specs.declared.grammar.CoreRule.{CoreRule}
use Rattle.ipg_core.specs.Grammar.{Grammar}
use Rattle.ipg_core.specs.Good.{Good}
use Rattle.ipg_core.specs.Total.{Total}
use Rattle.ipg_table.specs.declared.row.RowSpan.{RowSpan}
use Rattle.ipg_table.specs.declared.row.Op.{Op}
use Rattle.ipg_table.specs.declared.row.SlotRow.{SlotRow}
use Rattle.ipg_table.specs.declared.row.CaseRow.{CaseRow}
use Rattle.ipg_table.specs.declared.row.Action.{Action}
use Rattle.ipg_table.specs.declared.row.Action.TheVariants.{Slot, Set, Test, Repeat, Many, Pick}
use Rattle.ipg_table.specs.declared.row.Instr.{Instr}
use Rattle.ipg_table.specs.declared.row.AltRow.{AltRow}
use Rattle.ipg_table.specs.declared.row.RuleRow.{RuleRow}
use Rattle.ipg_table.specs.declared.tables.Tables.TheInside.{Inside}
use Rattle.ipg_table.specs.Code.{code, depth}

pub record Rows : Type 0 where
  pub rules : List RuleRow
  pub alts : List AltRow
  pub instrs : List Instr
  pub cases : List CaseRow
  pub ops : List Op
  -- the attributes that alternatives set, in text order
  pub sets : List ℕ
  pub syms : List Sym
  -- the bytes of names
  pub bytes : List ℕ
  -- the names of attributes, by their numbers
  pub names : List RowSpan
  -- no expression nests deeper
  pub depth : ℕ

-- what the tables hold
abbrev pub rows_of : Inside → Rows
rows_of t = record {
  rules = t.rules.items;
  alts = t.alts.items;
  instrs = t.instrs.items;
  cases = t.cases.items;
  ops = t.ops.items;
  sets = t.sets.items;
  syms = t.syms.items;
  bytes = t.bytes.items;
  names = t.names.items;
  depth = t.depth;
}

-- the rows at a span, as far as there are any
abbrev pub rows_at : {A : Type 0} → List A → RowSpan → List A
rows_at xs s = take s.count (drop s.from xs)

-- these are the rows at the span
pub record Stands {A : Type 0} (xs : List A) (s : RowSpan) (ys : List A) : Type 0 where
  pub is : rows_at xs s ≡ ys
  pub inside : s.from + s.count ≤ length xs

-- one by one, a fact holds of two lists of one length
abbrev pub Each : {A B : Type 0} → (A → B → Type 0) → List A → List B → Type 0
Each R [] [] = Unit {0}
Each R (x ∷ xs) (y ∷ ys) = R x y × Each R xs ys
Each R [] (y ∷ ys) = ⊥
Each R (x ∷ xs) [] = ⊥

-- one by one, the rows at the span are those of the things
pub record StandsEach {A B : Type 0} (R : A → B → Type 0) (xs : List A) (s : RowSpan) (ys : List B) : Type 0 where
  pub each : Each R (rows_at xs s) ys
  pub inside : s.from + s.count ≤ length xs

-- the span holds the rows of the expression
pub record HoldsExpr (t : Rows) (s : RowSpan) (e : CoreExpr) : Type 0 where
  pub rows : Stands t.ops s (code e)
  pub depth : depth e ≤ t.depth

pub record HoldsSlot (t : Rows) (row : SlotRow) (slot : CoreSlot) : Type 0 where
  pub sym : slice_get t.syms row.sym ≡ Some slot.sym
  pub from : HoldsExpr t row.from slot.from
  pub to : HoldsExpr t row.to slot.to

pub record HoldsCase (t : Rows) (row : CaseRow) (branch : CoreExpr × CoreSlot) : Type 0 where
  pub cond : HoldsExpr t row.cond branch.0
  pub slot : HoldsSlot t row.slot branch.1

-- what an instruction does is the term
abbrev pub HoldsTerm : Rows → Action → CoreTerm → Type 0
HoldsTerm t (Slot row) term = (slot : CoreSlot) × (term ≡ core.Slot slot) × HoldsSlot t row slot
HoldsTerm t (Set attr value) term = (e : CoreExpr) × (term ≡ core.Set attr e) × HoldsExpr t value e
HoldsTerm t (Test cond) term = (e : CoreExpr) × (term ≡ core.Test e) × HoldsExpr t cond e
HoldsTerm t (Repeat first last item) term =
    (a : CoreExpr) × (b : CoreExpr) × (slot : CoreSlot) × (term ≡ core.Repeat a b slot.sym slot.from slot.to)
    × HoldsExpr t first a × HoldsExpr t last b × HoldsSlot t item slot
HoldsTerm t (Many item) term = (slot : CoreSlot) × (term ≡ core.Many slot.sym slot.from slot.to) × HoldsSlot t item slot
HoldsTerm t (Pick cases other) term =
    (branches : List (CoreExpr × CoreSlot)) × (last : CoreSlot) × (term ≡ core.Pick branches last)
    × StandsEach (HoldsCase t) t.cases cases branches × HoldsSlot t other last

-- the instruction is that of the term u of an alternative
pub record HoldsInstr (t : Rows) (terms : List CoreTerm) (instr : Instr) (u : ℕ) : Type 0 where
  pub number : instr.term ≡ u
  pub term : CoreTerm
  pub is_term : slice_get terms u ≡ Some term
  pub holds : HoldsTerm t instr.action term

-- the attribute that a term sets
abbrev pub sets_of : CoreTerm → List ℕ
sets_of (core.Set a e) = a ∷ []
sets_of (core.Slot s) = []
sets_of (core.Test e) = []
sets_of (core.Repeat first last sym from to) = []
sets_of (core.Many sym from to) = []
sets_of (core.Pick cases other) = []

-- the attributes that terms set, in text order
abbrev pub attrs_in : List CoreTerm → List ℕ
attrs_in [] = []
attrs_in (term ∷ terms) = sets_of term ++ attrs_in terms

pub record HoldsAlt (t : Rows) (row : AltRow) (alt : CoreAlt) : Type 0 where
  -- in the order in which the terms run
  pub instrs : StandsEach (HoldsInstr t alt.terms) t.instrs row.instrs alt.order
  pub sets : Stands t.sets row.sets (attrs_in alt.terms)
  pub terms : row.terms ≡ length alt.terms

pub record HoldsRule (t : Rows) (row : RuleRow) (rule : CoreRule) : Type 0 where
  pub name : Stands t.bytes row.name rule.name
  pub holder : row.holder ≡ rule.holder
  pub alts : StandsEach (HoldsAlt t) t.alts row.alts rule.alts

-- the tables stand for the grammar
pub record StandFor (t : Rows) (g : Grammar) : Type 0 where
  pub rules : Each (HoldsRule t) t.rules g.rules
  pub names : Each (Stands t.bytes) t.names g.names

-- the tables stand for a good grammar by which parsing ends
pub record Tabled (t : Rows) : Type 0 where
  pub grammar : Grammar
  pub stands : StandFor t grammar
  pub good : Good grammar
  pub total : Total grammar
