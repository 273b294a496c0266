-- There are no more names than identifiers.
use Rattle.std.proofs.Common.{ℕ, ◌+◌, ◌^◌, ◌<◌, ◌≤◌, Bool, true, false, List, [], ◌∷◌, ◌++◌, length}
use Rattle.std.proofs.Common.{flat_map, ap, subst, cond, bytes_eq, arith, sum_by, length-append}
use Rattle.std.specs.List.{list_any}
use Rattle.std.proofs.lemmas.List.Sums.{sum_by-cons}
use Rattle.ipg_ast.specs.declared.grammar.Grammar.{Grammar}
use Rattle.ipg_ast.specs.declared.grammar.Rule.{Rule, out-Rule}
use Rattle.ipg_ast.specs.declared.grammar.Alt.{Alt, out-Alt}
use Rattle.ipg_ast.specs.declared.grammar.Term.{Term}
use Rattle.ipg_ast.specs.declared.grammar.Term.TheVariants.{Slot as SlotTerm, Set, Test, Repeat, Many, Pick}
use Rattle.ipg_ast.specs.declared.grammar.Case.{Case}
use Rattle.ipg_ast.specs.declared.grammar.Slot.{Slot}
use Rattle.ipg_ast.specs.declared.grammar.Place.{Place}
use Rattle.ipg_ast.specs.declared.grammar.Place.TheVariants.{Open, Length, Ends}
use Rattle.ipg_ast.specs.declared.grammar.Field.{Field}
use Rattle.ipg_ast.specs.declared.grammar.Field.TheVariants.{Id as Attribute, Start, End}
use Rattle.ipg_ast.specs.declared.grammar.Expr.{Expr, roll-Expr, map-Expr}
use Rattle.ipg_ast.specs.declared.grammar.Expr.TheOpen.{Expr-F}
use Rattle.ipg_ast.specs.declared.grammar.Expr.TheFolds.{ind-Expr, fold-roll-Expr}
use Rattle.ipg_names_scope.specs.Names.{NameList, field_names, names_step, expr_names, place_names, slot_names, case_names, term_names}
use Rattle.ipg_names_scope.specs.Names.{terms_names, local_alt_names, local_names, alt_names, rule_names, once, attr_names}
use Rattle.ipg_names.specs.Readable.{field_count, count_step, expr_count, place_count, slot_count, case_count, term_count}
use Rattle.ipg_names.specs.Readable.{local_alt_count, local_count, alt_count, rule_count, IsReadable}

-- ---- expressions

abbrev Few : Expr → Type 0
Few e = length (expr_names e) ≤ expr_count e

abbrev Child : Type 0
Child = (e : Expr) × Few e

abbrev whole : Child → Expr
whole c = c.0

field_few : (f : Field) → length (field_names f) ≤ field_count f
field_few (Attribute i) = omega arith
field_few Start = omega arith
field_few End = omega arith

rolled : (x : Expr-F Expr) → length (names_step (map-Expr Expr NameList expr_names x)) ≤ count_step (map-Expr Expr ℕ expr_count x) → Few (roll-Expr x)
rolled x h = omega (arith, ap length (fold-roll-Expr NameList names_step x), fold-roll-Expr ℕ count_step x, h)

layer : (y : Expr-F Child) → Few (roll-Expr (map-Expr Child Expr whole y))
layer (Expr-F.Num n) = rolled (Expr-F.Num n) (omega arith)
layer Expr-F.Eoi = rolled Expr-F.Eoi (omega arith)
layer (Expr-F.Id i) = rolled (Expr-F.Id i) (omega arith)
layer (Expr-F.Part i f) = rolled (Expr-F.Part i f) (omega (arith, field_few f))
layer (Expr-F.Item i c f) = rolled (Expr-F.Item i c.0 f) (omega (arith, length-append (expr_names c.0) (field_names f), field_few f, c.1))
layer (Expr-F.Group c) = rolled (Expr-F.Group c.0) c.1
layer (Expr-F.Neg c) = rolled (Expr-F.Neg c.0) c.1
layer (Expr-F.Not c) = rolled (Expr-F.Not c.0) c.1
layer (Expr-F.Two o a b) = rolled (Expr-F.Two o a.0 b.0) (omega (arith, length-append (expr_names a.0) (expr_names b.0), a.1, b.1))
layer (Expr-F.Both a b) = rolled (Expr-F.Both a.0 b.0) (omega (arith, length-append (expr_names a.0) (expr_names b.0), a.1, b.1))
layer (Expr-F.Either a b) = rolled (Expr-F.Either a.0 b.0) (omega (arith, length-append (expr_names a.0) (expr_names b.0), a.1, b.1))
layer (Expr-F.Cond c a b) = rolled (Expr-F.Cond c.0 a.0 b.0) (omega (
  arith,
  length-append (expr_names c.0)
      (expr_names a.0 ++ expr_names b.0),
  length-append (expr_names a.0) (expr_names b.0),
  c.1,
  a.1,
  b.1,
))

pub expr_few : (e : Expr) → length (expr_names e) ≤ expr_count e
expr_few = ind-Expr Few (λ x y is. subst (λ z. Few (roll-Expr z)) is (layer y))

-- ---- terms and rules

flat_few : {A : Type 0} (f : A → NameList) (count : A → ℕ) → ((x : A) → length (f x) ≤ count x) → (xs : List A) → length (flat_map f xs) ≤ sum_by count xs
flat_few f count h [] = omega arith
flat_few f count h (x ∷ xs) = omega (arith, length-append (f x) (flat_map f xs), sum_by-cons count x xs, h x, flat_few f count h xs)

place_few : (p : Place) → length (place_names p) ≤ place_count p
place_few Open = omega arith
place_few (Length e) = expr_few e
place_few (Ends l r) = omega (arith, length-append (expr_names l) (expr_names r), expr_few l, expr_few r)

slot_few : (s : Slot) → length (slot_names s) ≤ slot_count s
slot_few s = omega (arith, place_few s.place)

case_few : (c : Case) → length (case_names c) ≤ case_count c
case_few c = omega (arith, length-append (expr_names c.cond) (slot_names c.slot), expr_few c.cond, slot_few c.slot)

term_few : (t : Term) → length (term_names t) ≤ term_count t
term_few (SlotTerm s) = omega (arith, slot_few s)
term_few (Set name value) = omega (arith, expr_few value)
term_few (Test at cond) = omega (arith, expr_few cond)
term_few (Repeat var first last item from to) =
    omega (
      arith,
      length-append (expr_names first) (expr_names last ++ (expr_names from ++ expr_names to)),
      length-append (expr_names last) (expr_names from ++ expr_names to),
      length-append (expr_names from) (expr_names to),
      expr_few first,
      expr_few last,
      expr_few from,
      expr_few to,
    )
term_few (Many at item place) = omega (arith, place_few place)
term_few (Pick at cases other) = omega (
  arith,
  length-append (flat_map case_names cases)
      (slot_names other),
  flat_few case_names case_count case_few cases,
  slot_few other,
)

local_alt_few : (alt : Alt) → length (local_alt_names alt) ≤ local_alt_count alt
local_alt_few alt = flat_few term_names term_count term_few (out-Alt alt).terms

local_few : (rule : Rule) → length (local_names rule) ≤ local_count rule
local_few rule = omega (arith, flat_few local_alt_names local_alt_count local_alt_few (out-Rule rule).alts)

alt_few : (alt : Alt) → length (alt_names alt) ≤ alt_count alt
alt_few alt = omega (
  arith,
  length-append (terms_names (out-Alt alt).terms) (flat_map local_names (out-Alt alt).locals),
  flat_few term_names term_count term_few (out-Alt alt).terms,
  flat_few local_names local_count local_few (out-Alt alt).locals,
)

rule_few : (rule : Rule) → length (rule_names rule) ≤ rule_count rule
rule_few rule = omega (arith, flat_few alt_names alt_count alt_few (out-Rule rule).alts)

once_few : (seen xs : NameList) → length (once seen xs) ≤ length seen + length xs
once_few seen [] = omega arith
once_few seen (x ∷ xs) = by (list_any (bytes_eq x) seen) (once_few seen xs) (once_few (seen ++ x ∷ []) xs)
  where
    by : (b : Bool) → length (once seen xs) ≤ length seen + length xs → length (once (seen ++ x ∷ []) xs) ≤ length (seen ++ x ∷ []) + length xs
        → length (once (cond b seen (seen ++ x ∷ [])) xs) ≤ length seen + length (x ∷ xs)
    by true h k = omega (arith, h)
    by false h k = omega (arith, k, length-append seen (x ∷ []))

pub names_few : (g : Grammar) → IsReadable g → length (attr_names g) < 2 ^ 32
names_few g h = let all = flat_map rule_names g.rules in omega (arith, once_few [] all, flat_few rule_names rule_count rule_few g.rules, h.few)
