-- What names mean at a term of a text.
use Rattle.std.specs.Prelude.{ℕ, Bool, true, false, List, [], take, Option, Some, None, slice_get, bytes_eq, if◌then◌else◌}
use Rattle.std.specs.List.{list_any, list_all, position_or_len}
use Rattle.ipg_ast.specs.declared.grammar.Alt.{Alt, out-Alt}
use Rattle.ipg_ast.specs.declared.grammar.Term.{Term}
use Rattle.ipg_core.specs.declared.grammar.Primitive.{Primitive}
use Rattle.ipg_core.specs.declared.grammar.Sym.{Sym}
use Rattle.ipg_core.specs.declared.grammar.Sym.TheVariants.{Text, Prim, Rule}
use Rattle.ipg_core.specs.Grammar.{same_place}
use Rattle.ipg_names_scope.specs.declared.marks.Family.TheVariants.{Calls, Items}
use Rattle.ipg_names_scope.specs.Roster.{ListedRule, name_of, alts_of}
use Rattle.ipg_names_scope.specs.Terms.{has, sets}
use Rattle.ipg_names_scope.specs.Nearest.{first_from, nearest}
use Rattle.ipg_core.specs.Lines.{primitive_of}
use Rattle.ipg_names_scope.specs.Primitives.{primitive_has}

pub record Scope : Type 0 where
  -- the number of the term at hand
  pub term : ℕ
  -- the attributes' names, by their numbers
  pub names : List (List ℕ)
  -- the symbol of that name, if it may be parsed here
  pub sym : List ℕ → Option Sym
  -- some alternative of the symbol sets the attribute; all do
  pub some : Sym → List ℕ → Bool
  pub all : Sym → List ℕ → Bool
  -- an attribute of the alternative; one that an earlier term sets; one of the holder
  pub own : List ℕ → Bool
  pub before : List ℕ → Bool
  pub outer : List ℕ → Bool
  -- the term that a field of that name refers to; the one that a field of an item does
  pub call : List ℕ → Option ℕ
  pub items : List ℕ → Option ℕ
  -- the loop variable, in an item interval
  pub var : Option (List ℕ)

abbrev pub attr_number : Scope → List ℕ → ℕ
attr_number scope name = position_or_len (bytes_eq name) scope.names

abbrev pub is_var : Option (List ℕ) → List ℕ → Bool
is_var None name = false
is_var (Some var) name = bytes_eq name var

-- the item interval of an array: the loop variable is in scope, and items of the array's own symbol are its own
abbrev pub inside : Scope → List ℕ → List ℕ → Scope
inside scope var item = record {
  term = scope.term;
  names = scope.names;
  sym = scope.sym;
  some = scope.some;
  all = scope.all;
  own = scope.own;
  before = scope.before;
  outer = scope.outer;
  call = scope.call;
  items = λ name. if bytes_eq name item then Some scope.term else scope.items name;
  var = Some var;
}

-- ---- the scope of a term by the text

-- the alternative that local rules belong to: the one at hand, or its holder
abbrev pub home_of : ℕ × ℕ → Option (ℕ × ℕ) → ℕ × ℕ
home_of at None = at
home_of at (Some holder) = holder

-- a rule with that holder may be called: a global one, or a local one of the same `where`
abbrev pub is_visible : ℕ × ℕ → Option (ℕ × ℕ) → Bool
is_visible home None = true
is_visible home (Some holder) = same_place holder home

abbrev pub is_named : List ℕ → ListedRule → Bool
is_named name entry = bytes_eq name (name_of entry)

-- the rule of that name; names of rules differ where none is refused
abbrev pub rule_named : List ListedRule → List ℕ → Option ℕ
rule_named roster name = first_from (is_named name) 0 roster

abbrev pub entry_visible : ℕ × ℕ → Option ListedRule → Bool
entry_visible home None = false
entry_visible home (Some entry) = is_visible home entry.holder

abbrev pub rule_sym : List ListedRule → ℕ × ℕ → Option ℕ → Option Sym
rule_sym roster home None = None
rule_sym roster home (Some r) = if entry_visible home (slice_get roster r) then Some (Rule r) else None

abbrev pub sym_else : Option Primitive → Option Sym → Option Sym
sym_else (Some prim) other = Some (Prim prim)
sym_else None other = other

abbrev pub sym_named : List ListedRule → ℕ × ℕ → List ℕ → Option Sym
sym_named roster home name = sym_else (primitive_of name) (rule_sym roster home (rule_named roster name))

abbrev pub alt_sets : List ℕ → Alt → Bool
alt_sets field alt = sets (out-Alt alt).terms field

abbrev pub alts_at : Option ListedRule → List Alt
alts_at None = []
alts_at (Some entry) = alts_of entry

abbrev pub some_sets : List ListedRule → Sym → List ℕ → Bool
some_sets roster (Text bytes) field = false
some_sets roster (Prim prim) field = primitive_has prim field
some_sets roster (Rule r) field = list_any (alt_sets field) (alts_at (slice_get roster r))

abbrev pub all_set : List ListedRule → Sym → List ℕ → Bool
all_set roster (Text bytes) field = false
all_set roster (Prim prim) field = primitive_has prim field
all_set roster (Rule r) field = list_all (alt_sets field) (alts_at (slice_get roster r))

-- term u of an alternative with those terms, in a rule whose holder has the outer ones
abbrev pub scope_of : List ListedRule → List (List ℕ) → ℕ × ℕ → List Term → List Term → ℕ → Scope
scope_of roster names home outer terms u = record {
  term = u;
  names = names;
  sym = sym_named roster home;
  some = some_sets roster;
  all = all_set roster;
  own = sets terms;
  before = sets (take u terms);
  outer = sets outer;
  call = λ name. nearest (has Calls name) terms u;
  items = λ name. nearest (has Items name) terms u;
  var = None;
}
