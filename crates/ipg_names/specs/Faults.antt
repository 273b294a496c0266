-- The faults of a text's names, in text order: of heads, then of the rules' terms.
use Rattle.std.specs.Prelude.{ℕ, ◌+◌, Bool, ◌||◌, List, [], ◌∷◌, ◌++◌, flat_map, Option, Some, None, is_some, bytes_eq, if◌then◌else◌}
use Rattle.std.specs.List.{list_any}
use Rattle.ipg_ast.specs.declared.grammar.Grammar.{Grammar}
use Rattle.ipg_ast.specs.declared.grammar.Alt.{Alt, out-Alt}
use Rattle.ipg_ast.specs.declared.grammar.Ident.{Ident}
use Rattle.ipg_ast.specs.declared.grammar.Term.{Term}
use Rattle.ipg_ast.specs.declared.grammar.Term.TheVariants as term
use Rattle.ipg_ast.specs.declared.grammar.Case.{Case}
use Rattle.ipg_ast.specs.declared.grammar.Slot.{Slot}
use Rattle.ipg_ast.specs.declared.grammar.What.{What}
use Rattle.ipg_ast.specs.declared.grammar.What.TheVariants as what
use Rattle.ipg_ast.specs.declared.grammar.Place.{Place}
use Rattle.ipg_ast.specs.declared.grammar.Place.TheVariants as place
use Rattle.ipg_ast.specs.declared.grammar.Field.{Field}
use Rattle.ipg_ast.specs.declared.grammar.Field.TheVariants as field
use Rattle.ipg_ast.specs.declared.grammar.Expr.{Expr}
use Rattle.ipg_ast.specs.declared.grammar.Expr.TheOpen.{Expr-F}
use Rattle.ipg_ast.specs.declared.grammar.Expr.TheFolds.{fold-Expr}
use Rattle.ipg_core.specs.declared.grammar.Sym.{Sym}
use Rattle.ipg_names.specs.declared.fault.NameFault.{NameFault}
use Rattle.ipg_names.specs.declared.fault.NameFault.TheVariants.{DuplicateRule, UnknownRule, DuplicateAttr, UnknownAttr, PartAttr, NoOccurrence}
use Rattle.ipg_core.specs.Lines.{primitive_of}
use Rattle.ipg_names_scope.specs.Roster.{ListedRule, name_of, head_at, alts_of, roster_of}
use Rattle.ipg_names_scope.specs.Names.{attr_names}
use Rattle.ipg_names_scope.specs.Scope.{Scope, is_var}
pub use Rattle.ipg_names_scope.specs.Scope.{inside}
use Rattle.ipg_names.specs.Resolved.{alt_scopes}

abbrev pub Faults : Type 0
Faults = List NameFault

-- none where it is so, else the one
abbrev pub unless : Bool → NameFault → Faults
unless holds fault = if holds then [] else fault ∷ []

abbrev pub when : Bool → NameFault → Faults
when holds fault = if holds then fault ∷ [] else []

-- ---- heads

-- a head that has the name of an earlier one, or of a primitive
abbrev pub head_faults : List (List ℕ) → List ListedRule → Faults
head_faults earlier [] = []
head_faults earlier (entry ∷ entries) =
    when (list_any (bytes_eq (name_of entry)) earlier || is_some (primitive_of (name_of entry))) (DuplicateRule (head_at entry))
    ++ head_faults (earlier ++ name_of entry ∷ []) entries

-- ---- names in terms

abbrev pub rule_fault : Scope → List ℕ → ℕ → Faults
rule_fault scope name at = unless (is_some (scope.sym name)) (UnknownRule at)

-- an own attribute, the loop variable, an attribute of the holder
abbrev pub is_known : Scope → List ℕ → Bool
is_known scope name = scope.own name || (is_var scope.var name || scope.outer name)

abbrev pub name_fault : Scope → Ident → Faults
name_fault scope i = unless (is_known scope i.name) (UnknownAttr i.span.from)

-- no alternative of the symbol sets the field, or some and not all
abbrev pub attr_fault : Scope → Sym → Ident → Faults
attr_fault scope sym f =
    if scope.some sym f.name then unless (scope.all sym f.name) (PartAttr f.span.from) else UnknownAttr f.span.from ∷ []

abbrev pub field_fault : Scope → Option Sym → Field → Faults
field_fault scope None f = []
field_fault scope (Some sym) (field.Id f) = attr_fault scope sym f
field_fault scope (Some sym) field.Start = []
field_fault scope (Some sym) field.End = []

abbrev pub occurrence_fault : Option ℕ → ℕ → Faults
occurrence_fault referred at = unless (is_some referred) (NoOccurrence at)

-- the rule, the term that is referred to, the field
abbrev pub reference_fault : Scope → Option ℕ → Ident → Field → Faults
reference_fault scope referred of f =
    rule_fault scope of.name of.span.from
    ++ (occurrence_fault referred of.span.from ++ field_fault scope (scope.sym of.name) f)

abbrev pub faults_step : Scope → Expr-F Faults → Faults
faults_step scope (Expr-F.Num n) = []
faults_step scope Expr-F.Eoi = []
faults_step scope (Expr-F.Id i) = name_fault scope i
faults_step scope (Expr-F.Part of f) = reference_fault scope (scope.call of.name) of f
faults_step scope (Expr-F.Item of e f) = e ++ reference_fault scope (scope.items of.name) of f
faults_step scope (Expr-F.Group e) = e
faults_step scope (Expr-F.Neg e) = e
faults_step scope (Expr-F.Not e) = e
faults_step scope (Expr-F.Two op a b) = a ++ b
faults_step scope (Expr-F.Both a b) = a ++ b
faults_step scope (Expr-F.Either a b) = a ++ b
faults_step scope (Expr-F.Cond c a b) = c ++ (a ++ b)

abbrev pub expr_faults : Scope → Expr → Faults
expr_faults scope = fold-Expr Faults (faults_step scope)

-- ---- terms and rules

abbrev pub ends_faults : Scope → Expr → Expr → Faults
ends_faults scope l r = expr_faults scope l ++ expr_faults scope r

abbrev pub place_faults : Scope → Place → Faults
place_faults scope place.Open = []
place_faults scope (place.Length e) = expr_faults scope e
place_faults scope (place.Ends l r) = ends_faults scope l r

abbrev pub what_fault : Scope → What → ℕ → Faults
what_fault scope (what.Text bytes) at = []
what_fault scope (what.Call name) at = rule_fault scope name at

abbrev pub slot_faults : Scope → Slot → Faults
slot_faults scope slot = what_fault scope slot.what slot.span.from ++ place_faults scope slot.place

abbrev pub case_faults : Scope → Case → Faults
case_faults scope c = expr_faults scope c.cond ++ slot_faults scope c.slot

-- an attribute that an earlier term sets
abbrev pub set_fault : Scope → Ident → Faults
set_fault scope i = when (scope.before i.name) (DuplicateAttr i.span.from)

-- a loop variable that is an attribute of the alternative
abbrev pub var_fault : Scope → Ident → Faults
var_fault scope i = when (scope.own i.name) (DuplicateAttr i.span.from)

abbrev pub term_faults : Scope → Term → Faults
term_faults scope (term.Slot slot) = slot_faults scope slot
term_faults scope (term.Set name value) = set_fault scope name ++ expr_faults scope value
term_faults scope (term.Test at cond) = expr_faults scope cond
term_faults scope (term.Repeat var first last item from to) =
    var_fault scope var ++ (ends_faults scope first last ++ (rule_fault scope item.name item.span.from ++ ends_faults
    (inside scope var.name item.name) from to))
term_faults scope (term.Many at item place) = rule_fault scope item.name item.span.from ++ place_faults scope place
term_faults scope (term.Pick at cases other) = flat_map (case_faults scope) cases ++ slot_faults scope other

abbrev pub terms_faults : (ℕ → Scope) → ℕ → List Term → Faults
terms_faults scopes u [] = []
terms_faults scopes u (t ∷ ts) = term_faults (scopes u) t ++ terms_faults scopes (u + 1) ts

abbrev pub alt_faults : List ListedRule → List (List ℕ) → ListedRule → ℕ × ℕ → Alt → Faults
alt_faults roster names entry at alt = terms_faults (alt_scopes roster names entry at alt) 0 (out-Alt alt).terms

abbrev pub alts_faults : List ListedRule → List (List ℕ) → ListedRule → ℕ → ℕ → List Alt → Faults
alts_faults roster names entry r a [] = []
alts_faults roster names entry r a (alt ∷ alts) = alt_faults roster names entry (r, a) alt ++ alts_faults roster names entry r (a + 1) alts

abbrev pub rules_faults : List ListedRule → List (List ℕ) → ℕ → List ListedRule → Faults
rules_faults roster names r [] = []
rules_faults roster names r (entry ∷ entries) = alts_faults roster names entry r 0 (alts_of entry) ++ rules_faults roster names (r + 1) entries

abbrev pub roster_faults : List ListedRule → List (List ℕ) → Faults
roster_faults roster names = head_faults [] roster ++ rules_faults roster names 0 roster

abbrev pub faults_of : Grammar → Faults
faults_of g = roster_faults (roster_of g) (attr_names g)
