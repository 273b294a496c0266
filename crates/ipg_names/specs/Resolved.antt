-- The grammar of a text with its names resolved. Where a name means nothing, which is a fault, `EOI` or an empty terminal stands in its place.
use Rattle.std.specs.Prelude.{ℕ, ◌+◌, List, [], ◌∷◌, map, Option, Some, None, if◌then◌else◌}
use Rattle.ipg_ast.specs.declared.grammar.Grammar.{Grammar}
use Rattle.ipg_ast.specs.declared.grammar.Alt.{Alt, out-Alt}
use Rattle.ipg_ast.specs.declared.grammar.Term as written
use Rattle.ipg_ast.specs.declared.grammar.Term.TheVariants as term
use Rattle.ipg_ast.specs.declared.grammar.Case.{Case}
use Rattle.ipg_ast.specs.declared.grammar.Slot.{Slot}
use Rattle.ipg_ast.specs.declared.grammar.What.{What}
use Rattle.ipg_ast.specs.declared.grammar.What.TheVariants as what
use Rattle.ipg_ast.specs.declared.grammar.Place.{Place}
use Rattle.ipg_ast.specs.declared.grammar.Place.TheVariants as place
use Rattle.ipg_ast.specs.declared.grammar.Field.{Field}
use Rattle.ipg_ast.specs.declared.grammar.Field.TheVariants as field
use Rattle.ipg_ast.specs.declared.grammar.Expr.{Expr}
use Rattle.ipg_ast.specs.declared.grammar.Expr.TheOpen.{Expr-F}
use Rattle.ipg_ast.specs.declared.grammar.Expr.TheFolds.{fold-Expr}
use Rattle.ipg_core.specs.declared.grammar.Sym.{Sym}
use Rattle.ipg_core.specs.declared.grammar.Sym.TheVariants.{Text}
use Rattle.ipg_core.specs.declared.grammar.CoreField.{CoreField}
use Rattle.ipg_core.specs.declared.grammar.CoreField.TheVariants.{Attr, Start, End}
use Rattle.ipg_core.specs.declared.grammar.CoreExpr.{CoreExpr}
use Rattle.ipg_core.specs.declared.grammar.CoreExpr.TheVariants.{Num, Eoi, Own, Outer, Loop, Seen, Item, Neg, Not, Two, Both, Either, Cond}
use Rattle.ipg_names.specs.declared.named.NamedPlace.{NamedPlace}
use Rattle.ipg_names.specs.declared.named.NamedPlace.TheVariants as named_place
use Rattle.ipg_names.specs.declared.named.NamedSlot.{NamedSlot}
use Rattle.ipg_names.specs.declared.named.NamedTerm.{NamedTerm}
use Rattle.ipg_names.specs.declared.named.NamedTerm.TheVariants as named
use Rattle.ipg_names.specs.declared.named.NamedAlt.{NamedAlt}
use Rattle.ipg_names.specs.declared.named.NamedRule.{NamedRule}
use Rattle.ipg_names_scope.specs.Roster.{ListedRule, name_of, alts_of, roster_of}
use Rattle.ipg_names_scope.specs.Names.{attr_names}
use Rattle.ipg_names_scope.specs.Scope.{Scope, attr_number, is_var, inside, scope_of}
pub use Rattle.ipg_names_scope.specs.Scope.{home_of}

-- ---- what names stand for

abbrev pub sym_or_empty : Option Sym → Sym
sym_or_empty None = Text []
sym_or_empty (Some sym) = sym

abbrev pub symbol : Scope → List ℕ → Sym
symbol scope name = sym_or_empty (scope.sym name)

abbrev pub what_symbol : Scope → What → Sym
what_symbol scope (what.Text bytes) = Text bytes
what_symbol scope (what.Call name) = symbol scope name

abbrev pub field_in : Scope → Field → CoreField
field_in scope (field.Id i) = Attr (attr_number scope i.name)
field_in scope field.Start = Start
field_in scope field.End = End

-- an own attribute, the loop variable, else an attribute of the holder
abbrev pub name_in : Scope → List ℕ → CoreExpr
name_in scope name =
    if scope.own name then Own (attr_number scope name) else
    (if is_var scope.var name then Loop else
    (if scope.outer name then Outer (attr_number scope name) else Eoi))

-- `A.f`, and an item's field, of the term that is referred to
abbrev pub seen_at : Option ℕ → Sym → CoreField → CoreExpr
seen_at None sym f = Eoi
seen_at (Some u) sym f = Seen u sym f

abbrev pub item_at : Option ℕ → CoreExpr → CoreField → CoreExpr
item_at None index f = Eoi
item_at (Some u) index f = Item u index f

-- ---- expressions, terms, rules

-- parentheses go
abbrev pub resolved_step : Scope → Expr-F CoreExpr → CoreExpr
resolved_step scope (Expr-F.Num n) = Num n
resolved_step scope Expr-F.Eoi = Eoi
resolved_step scope (Expr-F.Id i) = name_in scope i.name
resolved_step scope (Expr-F.Part of f) = seen_at (scope.call of.name) (symbol scope of.name) (field_in scope f)
resolved_step scope (Expr-F.Item of e f) = item_at (scope.items of.name) e (field_in scope f)
resolved_step scope (Expr-F.Group e) = e
resolved_step scope (Expr-F.Neg e) = Neg e
resolved_step scope (Expr-F.Not e) = Not e
resolved_step scope (Expr-F.Two op a b) = Two op a b
resolved_step scope (Expr-F.Both a b) = Both a b
resolved_step scope (Expr-F.Either a b) = Either a b
resolved_step scope (Expr-F.Cond c a b) = Cond c a b

abbrev pub expr_in : Scope → Expr → CoreExpr
expr_in scope = fold-Expr CoreExpr (resolved_step scope)

abbrev pub place_in : Scope → Place → NamedPlace
place_in scope place.Open = named_place.Open
place_in scope (place.Length e) = named_place.Length (expr_in scope e)
place_in scope (place.Ends l r) = named_place.Ends (expr_in scope l) (expr_in scope r)

abbrev pub slot_in : Scope → Slot → NamedSlot
slot_in scope slot = record { sym = what_symbol scope slot.what; place = place_in scope slot.place }

abbrev pub case_in : Scope → Case → CoreExpr × NamedSlot
case_in scope c = (expr_in scope c.cond, slot_in scope c.slot)

-- an array, whose item interval has a scope of its own
abbrev pub repeat_in : Scope → Expr → Expr → Sym → Scope → Expr → Expr → NamedTerm
repeat_in scope first last sym own from to = named.Repeat (expr_in scope first) (expr_in scope last) sym (expr_in own from) (expr_in own to)

abbrev pub term_in : Scope → written.Term → NamedTerm
term_in scope (term.Slot slot) = named.Slot (slot_in scope slot)
term_in scope (term.Set name value) = named.Set (attr_number scope name.name) (expr_in scope value)
term_in scope (term.Test at cond) = named.Test (expr_in scope cond)
term_in scope (term.Repeat var first last item from to) =
    repeat_in scope first last (symbol scope item.name) (inside scope var.name item.name) from to
term_in scope (term.Many at item place) = named.Many (symbol scope item.name) (place_in scope place)
term_in scope (term.Pick at cases other) = named.Pick (map (case_in scope) cases) (slot_in scope other)

-- the terms from number u on, each in its own scope
abbrev pub terms_from : (ℕ → Scope) → ℕ → List written.Term → List NamedTerm
terms_from scopes u [] = []
terms_from scopes u (t ∷ ts) = term_in (scopes u) t ∷ terms_from scopes (u + 1) ts

-- an alternative at a place, of a rule with that holder and the holder's terms
abbrev pub alt_scopes : List ListedRule → List (List ℕ) → ListedRule → ℕ × ℕ → Alt → ℕ → Scope
alt_scopes roster names entry at alt u = scope_of roster names (home_of at entry.holder) entry.outer (out-Alt alt).terms u

abbrev pub alt_in : List ListedRule → List (List ℕ) → ListedRule → ℕ × ℕ → Alt → NamedAlt
alt_in roster names entry at alt = record { terms = terms_from (alt_scopes roster names entry at alt) 0 (out-Alt alt).terms }

-- the alternatives of rule r from number a on
abbrev pub alts_from : List ListedRule → List (List ℕ) → ListedRule → ℕ → ℕ → List Alt → List NamedAlt
alts_from roster names entry r a [] = []
alts_from roster names entry r a (alt ∷ alts) = alt_in roster names entry (r, a) alt ∷ alts_from roster names entry r (a + 1) alts

abbrev pub rule_in : List ListedRule → List (List ℕ) → ℕ → ListedRule → NamedRule
rule_in roster names r entry = record { name = name_of entry; holder = entry.holder; alts = alts_from roster names entry r 0 (alts_of entry) }

-- the rules from number r on
abbrev pub rules_from : List ListedRule → List (List ℕ) → ℕ → List ListedRule → List NamedRule
rules_from roster names r [] = []
rules_from roster names r (entry ∷ entries) = rule_in roster names r entry ∷ rules_from roster names (r + 1) entries

-- a grammar with its names resolved
pub record Resolved : Type 0 where
  pub rules : List NamedRule
  pub names : List (List ℕ)

abbrev pub names_of : Grammar → Resolved
names_of g = record { rules = rules_from (roster_of g) (attr_names g) 0 (roster_of g); names = attr_names g }
