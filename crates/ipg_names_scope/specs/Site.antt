-- The tables of a term, as the scope that they say.
use Rattle.std.specs.Prelude.{◌≡◌, ℕ, Bool, false, List, [], map, Option, Some, None, option_map, is_some, slice_get, bytes_eq, if◌then◌else◌}
use Rattle.std.specs.List.{list_any, list_all}
use denote.Ref.{Bor}
use Rattle.indexmap.specs.IndexMap.{IndexMap}
use Rattle.ipg_core.specs.declared.grammar.Sym.{Sym}
use Rattle.ipg_core.specs.declared.grammar.Sym.TheVariants.{Text, Prim, Rule}
use Rattle.ipg_names_scope.specs.declared.marks.Spots.{Spots}
use Rattle.ipg_names_scope.specs.declared.roster.ListedRule as code
use Rattle.ipg_names_scope.specs.declared.tables.TermSite.{TermSite}
use Rattle.ipg_names_scope.specs.declared.tables.Inside.{Inside}
use Rattle.ipg_names_scope.specs.declared.tables.NameTables.{NameTables}
use Rattle.ipg_names_scope.specs.declared.tables.AltTables.{AltTables}
use Rattle.ipg_ast.specs.declared.grammar.Term.{Term}
use Rattle.ipg_names_scope.specs.declared.marks.Family.TheVariants.{Calls, Items, Sets}
use Rattle.ipg_names_scope.specs.Terms.{has, sets}
use Rattle.ipg_names_scope.specs.Roster.{ListedRule}
use Rattle.ipg_names_scope.specs.View.{entries_view}
use Rattle.ipg_names_scope.specs.Fields.{rows_set, row_of}
use Rattle.ipg_names_scope.specs.declared.tables.TermSpot.{TermSpot}
use Rattle.ipg_names_scope.specs.declared.scope.Callee.{Callee}
use Rattle.ipg_names_scope.specs.declared.scope.Callee.TheVariants as callee
use Rattle.ipg_core.specs.Lines.{primitive_of}
use Rattle.ipg_names_scope.specs.Primitives.{primitive_has}
use Rattle.ipg_names_scope.specs.Scope.{Scope, sym_else, is_visible, rule_named, home_of, scope_of}
use Rattle.ipg_names_scope.specs.Marks.{look, nearest_spot, spots_of}
use Rattle.ipg_names_scope.specs.Lookup.{shown}

abbrev pub callee_sym : Callee → Sym
callee_sym (callee.Prim prim) = Prim prim
callee_sym (callee.Rule r) = Rule r

abbrev pub holder_visible : ℕ × ℕ → Option code.ListedRule → Bool
holder_visible home None = false
holder_visible home (Some entry) = is_visible home entry.holder

abbrev pub rule_visible : ℕ × ℕ → List code.ListedRule → ℕ → Bool
rule_visible home roster r = holder_visible home (slice_get roster r)

abbrev pub rule_if : ℕ × ℕ → List code.ListedRule → Option ℕ → Option Sym
rule_if home roster None = None
rule_if home roster (Some r) = if rule_visible home roster r then Some (Rule r) else None

abbrev pub rule_callee : TermSite → List ℕ → Option Sym
rule_callee site name = rule_if site.home site.tables.roster.now (look site.tables.numbers.now name)

abbrev pub some_table : {S : Type 0} → List (IndexMap (Bor (List ℕ)) Spots S) → List ℕ → Bool
some_table tables field = list_any (λ places. is_some (look places field)) tables

abbrev pub all_tables : {S : Type 0} → List (IndexMap (Bor (List ℕ)) Spots S) → List ℕ → Bool
all_tables tables field = list_all (λ places. is_some (look places field)) tables

abbrev pub row_at : {A : Type 0} → Option (List A) → List A
row_at None = []
row_at (Some row) = row

abbrev pub some_of : TermSite → Sym → List ℕ → Bool
some_of site (Text bytes) field = false
some_of site (Prim prim) field = primitive_has prim field
some_of site (Rule r) field = some_table (row_at (slice_get site.tables.fields.now r)) field

abbrev pub all_of : TermSite → Sym → List ℕ → Bool
all_of site (Text bytes) field = false
all_of site (Prim prim) field = primitive_has prim field
all_of site (Rule r) field = all_tables (row_at (slice_get site.tables.fields.now r)) field

abbrev pub has_left : Option Spots → Bool
has_left None = false
has_left (Some spots) = is_some spots.left

abbrev pub items_of : Option Inside → List ℕ → ℕ → Option ℕ → Option ℕ
items_of None name u found = found
items_of (Some i) name u found = if bytes_eq name i.item.now then Some u else found

abbrev pub scope_at : TermSite → Option Inside → Scope
scope_at site inside = record {
  term = site.term;
  names = shown site.tables.attrs.now.names;
  sym = λ name. sym_else (primitive_of name) (rule_callee site name);
  some = some_of site;
  all = all_of site;
  own = λ name. is_some (look site.marks.now.sets name);
  before = λ name. has_left (look site.marks.now.sets name);
  outer = λ name. is_some (look site.outer.now name);
  call = λ name. nearest_spot (look site.marks.now.calls name) site.term;
  items = λ name. items_of inside name site.term (nearest_spot (look site.marks.now.items name) site.term);
  var = option_map (λ i. i.var.now) inside;
}

-- the same, which proofs open where they need it
unfoldable pub spot_scope : TermSpot → Scope
spot_scope spot = scope_at spot.site.now spot.inside

unfoldable pub site_scope : TermSite → Scope
site_scope site = scope_at site None

-- the tables of a whole text are those of its roster
pub record AreTables (tables : NameTables) : Type 0 where
  pub numbers : (x : List ℕ) → look tables.numbers.now x ≡ rule_named (entries_view tables.roster.now) x
  pub fields : (f : List ℕ) → rows_set f tables.fields.now ≡ map (row_of f) (entries_view tables.roster.now)

abbrev pub roster_in : NameTables → List ListedRule
roster_in tables = entries_view tables.roster.now

abbrev pub names_under : NameTables → List (List ℕ)
names_under tables = shown tables.attrs.now.names

-- the scopes of the terms of an alternative at a place, by the tables of the whole text
abbrev pub scopes_at : NameTables → code.ListedRule → ℕ × ℕ → List Term → ℕ → Scope
scopes_at tables entry at terms u =
    scope_of (entries_view tables.roster.now) (shown tables.attrs.now.names) (home_of at entry.holder) entry.outer.now terms u

-- the tables of an alternative, of which the terms to the left of u are passed
pub record AreMarks (terms : List Term) (u : ℕ) (marks : AltTables) : Type 0 where
  pub calls : (x : List ℕ) → look marks.calls x ≡ spots_of (has Calls x) terms u
  pub items : (x : List ℕ) → look marks.items x ≡ spots_of (has Items x) terms u
  pub sets : (x : List ℕ) → look marks.sets x ≡ spots_of (has Sets x) terms u

-- a table of the attributes that terms set
abbrev pub IsOuter : {S : Type 0} → List Term → IndexMap (Bor (List ℕ)) Spots S → Type 0
IsOuter terms outer = (x : List ℕ) → is_some (look outer x) ≡ sets terms x
