-- What each refusal of a text's names says of its place.
use Rattle.std.specs.Prelude.{◌≡◌, ℕ, ◌<◌, true, false, List, take, Some, is_some, slice_get, ◌⊎◌, None}
use Rattle.std.specs.List.{list_any, list_all}
use Rattle.ipg_ast.specs.declared.grammar.Grammar.{Grammar}
use Rattle.ipg_ast.specs.declared.grammar.Alt.{Alt, out-Alt}
use Rattle.ipg_ast.specs.declared.grammar.Ident.{Ident}
use Rattle.ipg_ast.specs.declared.grammar.Term.{Term}
use Rattle.ipg_ast.specs.declared.grammar.Field.{Field}
use Rattle.ipg_core.specs.declared.grammar.Primitive.{Primitive}
use Rattle.ipg_names.specs.declared.fault.NameFault.{NameFault}
use Rattle.ipg_names.specs.declared.fault.NameFault.TheVariants.{DuplicateRule, UnknownRule, DuplicateAttr, UnknownAttr, PartAttr, NoOccurrence, Memory}
use Rattle.ipg_names_scope.specs.declared.marks.Family.{Family}
use Rattle.ipg_names_scope.specs.declared.marks.Family.TheVariants.{Calls, Items}
use Rattle.ipg_names_scope.specs.Roster.{ListedRule, name_of, head_at, alts_of, roster_of}
use Rattle.ipg_core.specs.Lines.{primitive_of}
use Rattle.ipg_names_scope.specs.Primitives.{primitive_has}
use Rattle.ipg_names_scope.specs.Terms.{has, sets}
use Rattle.ipg_names_scope.specs.Scope.{home_of, alt_sets}
use Rattle.ipg_names.specs.Fault.{is_before}
use Rattle.ipg_names.specs.Told.{Stands}
use Rattle.ipg_names.specs.Uses.{Bare, Part, Item, Symbol, Read, set_by, loop_of, uses_in, item_uses, all_uses, symbols_in, reads_in}

-- ---- places of a text

-- a term, in an alternative of a rule, global or local
pub record TermOf (g : Grammar) : Type 0 where
  pub rule : ℕ
  pub entry : ListedRule
  pub is_rule : slice_get (roster_of g) rule ≡ Some entry
  pub place : ℕ
  pub alt : Alt
  pub is_alt : slice_get (alts_of entry) place ≡ Some alt
  pub number : ℕ
  pub term : Term
  pub is_term : slice_get (out-Alt alt).terms number ≡ Some term

abbrev pub terms_around : {g : Grammar} → TermOf g → List Term
terms_around here = (out-Alt here.alt).terms

-- the alternative whose `where` is in sight: the term's own, in a local rule the holder
abbrev pub where_of : {g : Grammar} → TermOf g → ℕ × ℕ
where_of here = home_of (here.rule, here.place) here.entry.holder

-- a rule of that name: a global one, or a local one of that `where`
pub record IsRuleFor (g : Grammar) (home : ℕ × ℕ) (name : List ℕ) (entry : ListedRule) : Type 0 where
  pub rule : ℕ
  pub is_rule : slice_get (roster_of g) rule ≡ Some entry
  pub has_name : name_of entry ≡ name
  pub in_sight : (entry.holder ≡ None) ⊎ (entry.holder ≡ Some home)

abbrev pub IsPrimitive : List ℕ → Type 0
IsPrimitive name = is_some (primitive_of name) ≡ true

-- no term of the alternative but number u calls the name, or has items of it
abbrev pub IsAlone : Family → List ℕ → List Term → ℕ → Type 0
IsAlone family name terms u = (v : ℕ) (term : Term) → slice_get terms v ≡ Some term → has family name term ≡ true → v ≡ u

-- ---- G6

pub record IsEarlierName (g : Grammar) (rule : ℕ) (name : List ℕ) : Type 0 where
  pub earlier : ℕ
  pub before : earlier < rule
  pub entry : ListedRule
  pub is_rule : slice_get (roster_of g) earlier ≡ Some entry
  pub has_name : name_of entry ≡ name

-- the head at `at` has the name of an earlier rule, global or local, or of a primitive
pub record IsDuplicateRule (g : Grammar) (at : ℕ) : Type 0 where
  pub rule : ℕ
  pub entry : ListedRule
  pub is_rule : slice_get (roster_of g) rule ≡ Some entry
  pub is_at : head_at entry ≡ at
  pub twice : IsEarlierName g rule (name_of entry) ⊎ IsPrimitive (name_of entry)

-- ---- G7

-- the name at `at`, of a slot, an array, a repetition or before `.` or `(`, is no primitive, no global rule, and no local rule of the same `where`
pub record IsUnknownRule (g : Grammar) (at : ℕ) : Type 0 where
  pub here : TermOf g
  pub symbol : Symbol
  pub stands : Stands (symbols_in here.term) symbol
  pub is_at : symbol.at ≡ at
  pub no_primitive : IsPrimitive symbol.name → ⊥
  pub no_rule : (entry : ListedRule) → IsRuleFor g (where_of here) symbol.name entry → ⊥

-- ---- G8

-- an earlier term of the alternative sets the attribute at `at`
pub record IsSetAgain (g : Grammar) (at : ℕ) : Type 0 where
  pub here : TermOf g
  pub name : Ident
  pub stands : Stands (set_by here.term) name
  pub is_at : name.span.from ≡ at
  pub earlier : sets (take here.number (terms_around here)) name.name ≡ true

-- the loop variable at `at` is an attribute of its alternative
pub record IsLoopAttr (g : Grammar) (at : ℕ) : Type 0 where
  pub here : TermOf g
  pub name : Ident
  pub stands : Stands (loop_of here.term) name
  pub is_at : name.span.from ≡ at
  pub own : sets (terms_around here) name.name ≡ true

abbrev pub IsDuplicateAttr : Grammar → ℕ → Type 0
IsDuplicateAttr g at = IsSetAgain g at ⊎ IsLoopAttr g at

-- ---- G9

-- the name is that of the loop variable, in the item interval
abbrev pub IsLoop : Term → List ℕ → Type 0
IsLoop term name = (var : Ident) × Stands (loop_of term) var × (name ≡ var.name)

-- a bare name outside of the item interval, or in it and not the loop variable
abbrev pub IsFreeName : Term → Ident → Type 0
IsFreeName term name = Stands (uses_in term) (Bare name) ⊎ (Stands (item_uses term) (Bare name) × (IsLoop term name.name → ⊥))

-- the bare name at `at` is no own attribute, no loop variable in scope, no attribute of the holder
pub record IsUnknownName (g : Grammar) (at : ℕ) : Type 0 where
  pub here : TermOf g
  pub name : Ident
  pub stands : IsFreeName here.term name
  pub is_at : name.span.from ≡ at
  pub not_own : sets (terms_around here) name.name ≡ false
  pub not_holders : sets here.entry.outer name.name ≡ false

pub record IsPrimitiveWithout (name field : List ℕ) : Type 0 where
  pub primitive : Primitive
  pub is : primitive_of name ≡ Some primitive
  pub without : primitive_has primitive field ≡ false

-- a rule of that name, none of whose alternatives sets the attribute
pub record IsRuleWithout (g : Grammar) (home : ℕ × ℕ) (name field : List ℕ) : Type 0 where
  pub entry : ListedRule
  pub named : IsRuleFor g home name entry
  pub none : list_any (alt_sets field) (alts_of entry) ≡ false

-- the field at `at` is an attribute that its symbol never has
pub record IsUnknownField (g : Grammar) (at : ℕ) : Type 0 where
  pub here : TermOf g
  pub read : Read
  pub stands : Stands (reads_in here.term) read
  pub is_at : read.attr.span.from ≡ at
  pub without : IsPrimitiveWithout read.of read.attr.name ⊎ IsRuleWithout g (where_of here) read.of read.attr.name

abbrev pub IsUnknownAttr : Grammar → ℕ → Type 0
IsUnknownAttr g at = IsUnknownName g at ⊎ IsUnknownField g at

-- ---- G10

-- some and not all alternatives of the rule set the attribute at `at`
pub record IsPartAttr (g : Grammar) (at : ℕ) : Type 0 where
  pub here : TermOf g
  pub read : Read
  pub stands : Stands (reads_in here.term) read
  pub is_at : read.attr.span.from ≡ at
  pub entry : ListedRule
  pub named : IsRuleFor g (where_of here) read.of entry
  pub some : list_any (alt_sets read.attr.name) (alts_of entry) ≡ true
  pub not_all : list_all (alt_sets read.attr.name) (alts_of entry) ≡ false

-- ---- G11

-- the A at `at` before `.`: no other term calls A or has a branch of it
pub record IsPartOfNone (g : Grammar) (at : ℕ) : Type 0 where
  pub here : TermOf g
  pub of : Ident
  pub field : Field
  pub stands : Stands (all_uses here.term) (Part of field)
  pub is_at : of.span.from ≡ at
  pub alone : IsAlone Calls of.name (terms_around here) here.number

-- an item's reference outside of the item interval, or in it and not to the array's own items
abbrev pub IsFreeItem : Term → Ident → Field → Type 0
IsFreeItem term of field =
    Stands (uses_in term) (Item of field) ⊎ (Stands (item_uses term) (Item of field) × (has Items of.name term ≡ false))

-- the A at `at` before `(`: no other term is an array or a repetition of A
pub record IsItemOfNone (g : Grammar) (at : ℕ) : Type 0 where
  pub here : TermOf g
  pub of : Ident
  pub field : Field
  pub stands : IsFreeItem here.term of field
  pub is_at : of.span.from ≡ at
  pub alone : IsAlone Items of.name (terms_around here) here.number

-- the A at `at` has no term to refer to
abbrev pub IsNoOccurrence : Grammar → ℕ → Type 0
IsNoOccurrence g at = IsPartOfNone g at ⊎ IsItemOfNone g at

-- ---- all of them

abbrev pub IsRefusal : Grammar → NameFault → Type 0
IsRefusal g (DuplicateRule at) = IsDuplicateRule g at
IsRefusal g (UnknownRule at) = IsUnknownRule g at
IsRefusal g (DuplicateAttr at) = IsDuplicateAttr g at
IsRefusal g (UnknownAttr at) = IsUnknownAttr g at
IsRefusal g (PartAttr at) = IsPartAttr g at
IsRefusal g (NoOccurrence at) = IsNoOccurrence g at
IsRefusal g Memory = ⊥

-- a refusal before which no other comes
pub record IsFirstRefusal (g : Grammar) (fault : NameFault) : Type 0 where
  pub holds : IsRefusal g fault
  pub least : (other : NameFault) → IsRefusal g other → is_before other fault ≡ false
