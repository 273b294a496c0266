-- Tables that grow: what stands in them stays where it is.
use Rattle.std.specs.Prelude.{◌≡◌, ◌<◌, ◌≤◌, List, [], ◌++◌, length}
use Rattle.std.specs.List.{AllByRecursion}
use Rattle.ipg_core.specs.declared.grammar.CoreAlt.{CoreAlt}
use Rattle.ipg_table.specs.declared.draft.Draft.{Draft}
use Rattle.ipg_table.specs.Rows.{Rows}

-- the rows of a draft, whose rules and names are still to come
abbrev pub draft_rows : Draft → Rows
draft_rows d = record {
  rules = [];
  alts = d.alts.items;
  instrs = d.instrs.items;
  cases = d.cases.items;
  ops = d.ops.items;
  sets = d.sets.items;
  syms = d.syms.items;
  bytes = d.bytes.items;
  names = [];
  depth = d.depth;
}

-- more was appended
abbrev pub Begins : {A : Type 0} → List A → List A → Type 0
Begins {A} xs ys = (more : List A) × (ys ≡ xs ++ more)

pub record Grows (old new : Rows) : Type 0 where
  pub alts : Begins old.alts new.alts
  pub instrs : Begins old.instrs new.instrs
  pub cases : Begins old.cases new.cases
  pub ops : Begins old.ops new.ops
  pub sets : Begins old.sets new.sets
  pub syms : Begins old.syms new.syms
  pub bytes : Begins old.bytes new.bytes
  pub depth : old.depth ≤ new.depth

-- the order names terms of the alternative
abbrev pub NamesTerms : CoreAlt → Type 0
NamesTerms alt = AllByRecursion (λ u. u < length alt.terms) alt.order
