-- Terms, branches and identifiers are at most twice as many as tokens.
use Rattle.std.proofs.Common.{ℕ, ◌*◌, ◌^◌, ◌≤◌, List, [], ◌∷◌, ◌++◌, length, ap, subst, arith, sum_by, length-append, codes}
use Rattle.std.proofs.lemmas.List.Sums.{sum_by-cons}
use Rattle.ipg_ast.specs.declared.token.Reserved.TheVariants as reserved
use Rattle.ipg_ast.specs.declared.token.TokenKind.{TokenKind}
use Rattle.ipg_ast.specs.declared.token.TokenKind.TheVariants.{Name, Word, Symbol}
use Rattle.ipg_ast.specs.declared.grammar.Grammar.{Grammar}
use Rattle.ipg_ast.specs.declared.grammar.Rule.{Rule, out-Rule}
use Rattle.ipg_ast.specs.declared.grammar.Alt.{Alt, out-Alt}
use Rattle.ipg_ast.specs.declared.grammar.Term.{Term}
use Rattle.ipg_ast.specs.declared.grammar.Term.TheVariants.{Slot as SlotTerm, Set, Test, Repeat, Many, Pick}
use Rattle.ipg_ast.specs.declared.grammar.Case.{Case}
use Rattle.ipg_ast.specs.declared.grammar.Slot.{Slot}
use Rattle.ipg_ast.specs.declared.grammar.What.{What}
use Rattle.ipg_ast.specs.declared.grammar.What.TheVariants as what
use Rattle.ipg_ast.specs.declared.grammar.Place.{Place}
use Rattle.ipg_ast.specs.declared.grammar.Place.TheVariants.{Open, Length, Ends}
use Rattle.ipg_ast.specs.declared.grammar.Field.{Field}
use Rattle.ipg_ast.specs.declared.grammar.Field.TheVariants.{Id as Attribute, Start, End}
use Rattle.ipg_ast.specs.declared.grammar.Expr.{Expr, roll-Expr, map-Expr}
use Rattle.ipg_ast.specs.declared.grammar.Expr.TheOpen.{Expr-F}
use Rattle.ipg_ast.specs.declared.grammar.Expr.TheFolds.{ind-Expr, fold-roll-Expr}
use Rattle.ipg_ast.specs.Spelling.{Tokens, field_tokens, sign_of, expr_step, expr_tokens, place_tokens, slot_tokens, case_tokens, cases_tokens}
use Rattle.ipg_ast.specs.Spelling.{term_tokens, terms_tokens, local_alts_from, local_alts_tokens, local_tokens, locals_tokens, where_tokens}
use Rattle.ipg_ast.specs.Spelling.{alt_tokens, alts_from, alts_tokens, rule_tokens, rules_tokens, grammar_tokens}
use Rattle.ipg_ast.specs.Shape.{IsFormed, IsFormedRule, IsFormedAlt, IsFormedLocal, IsFormedLocalAlt}
use Rattle.ipg_names.specs.Readable.{field_count, count_step, expr_count, place_count, what_count, slot_count, case_count, term_count, local_alt_count}
use Rattle.ipg_names.specs.Readable.{local_count, alt_count, rule_count, IsReadable, IsReadableRule, IsReadableAlt, IsReadableLocal, IsReadableLocalAlt}
use Rattle.ipg_names.proofs.Families.{all_of_all}

-- ---- expressions

abbrev Few : Expr → Type 0
Few e = expr_count e ≤ length (expr_tokens e)

abbrev Child : Type 0
Child = (e : Expr) × Few e

abbrev whole : Child → Expr
whole c = c.0

field_size : (f : Field) → field_count f ≤ length (field_tokens f)
field_size (Attribute i) = omega arith
field_size Start = omega arith
field_size End = omega arith

rolled : (x : Expr-F Expr) → count_step (map-Expr Expr ℕ expr_count x) ≤ length (expr_step (map-Expr Expr Tokens expr_tokens x)) → Few (roll-Expr x)
rolled x h = omega (arith, ap length (fold-roll-Expr Tokens expr_step x), fold-roll-Expr ℕ count_step x, h)

layer : (y : Expr-F Child) → Few (roll-Expr (map-Expr Child Expr whole y))
layer (Expr-F.Num n) = rolled (Expr-F.Num n) (omega arith)
layer Expr-F.Eoi = rolled Expr-F.Eoi (omega arith)
layer (Expr-F.Id i) = rolled (Expr-F.Id i) (omega arith)
layer (Expr-F.Part i f) = rolled (Expr-F.Part i f) (omega (arith, field_size f))
layer (Expr-F.Item i c f) = rolled (Expr-F.Item i c.0 f) (omega (
  arith,
  length-append (expr_tokens c.0) (Symbol (codes ")") ∷ Symbol
      (codes ".") ∷ field_tokens f),
  field_size f,
  c.1,
))
layer (Expr-F.Group c) = rolled (Expr-F.Group c.0) (omega (arith, length-append (expr_tokens c.0) (Symbol (codes ")") ∷ []), c.1))
layer (Expr-F.Neg c) = rolled (Expr-F.Neg c.0) (omega (arith, c.1))
layer (Expr-F.Not c) = rolled (Expr-F.Not c.0) (omega (arith, c.1))
layer (Expr-F.Two o a b) = rolled (Expr-F.Two o a.0 b.0) (omega (arith, length-append (expr_tokens a.0) (Symbol (sign_of o) ∷ expr_tokens b.0), a.1, b.1))
layer (Expr-F.Both a b) = rolled (Expr-F.Both a.0 b.0) (omega (arith, length-append (expr_tokens a.0) (Symbol (codes "&&") ∷ expr_tokens b.0), a.1, b.1))
layer (Expr-F.Either a b) = rolled (Expr-F.Either a.0 b.0) (omega (arith, length-append (expr_tokens a.0) (Symbol (codes "||") ∷ expr_tokens b.0), a.1, b.1))
layer (Expr-F.Cond c a b) = rolled (Expr-F.Cond c.0 a.0 b.0) (omega (
  arith,
  length-append (expr_tokens c.0) (Symbol (codes "?") ∷ (expr_tokens a.0 ++ (Symbol (codes ":") ∷ expr_tokens b.0))),
  length-append (expr_tokens a.0) (Symbol (codes ":") ∷ expr_tokens b.0),
  c.1,
  a.1,
  b.1,
))

expr_size : (e : Expr) → expr_count e ≤ length (expr_tokens e)
expr_size = ind-Expr Few (λ x y is. subst (λ z. Few (roll-Expr z)) is (layer y))

-- ---- terms

place_size : (p : Place) → place_count p ≤ length (place_tokens p)
place_size Open = omega arith
place_size (Length e) = omega (arith, length-append (expr_tokens e) (Symbol (codes "]") ∷ []), expr_size e)
place_size (Ends l r) =
    omega (
      arith,
      length-append (expr_tokens l) (Symbol (codes ",") ∷ (expr_tokens r ++ (Symbol (codes "]") ∷ []))),
      length-append (expr_tokens r) (Symbol
          (codes "]") ∷ []),
      expr_size l,
      expr_size r,
    )

what_size : (w : What) → what_count w ≤ 1
what_size (what.Text bytes) = omega arith
what_size (what.Call name) = omega arith

slot_size : (s : Slot) → slot_count s ≤ length (slot_tokens s)
slot_size s = omega (arith, what_size s.what, place_size s.place)

case_size : (c : Case) → case_count c ≤ length (case_tokens c)
case_size c = omega (arith, length-append (expr_tokens c.cond) (Symbol (codes ")") ∷ slot_tokens c.slot), expr_size c.cond, slot_size c.slot)

cases_size : (cs : List Case) → sum_by case_count cs ≤ length (cases_tokens cs)
cases_size [] = omega arith
cases_size (c ∷ cs) = omega (arith, sum_by-cons case_count c cs, length-append (case_tokens c) (cases_tokens cs), case_size c, cases_size cs)

term_size : (t : Term) → term_count t ≤ 2 * length (term_tokens t)
term_size (SlotTerm s) = omega (arith, slot_size s)
term_size (Set name value) = omega (arith, length-append (expr_tokens value) (Symbol (codes "}") ∷ []), expr_size value)
term_size (Test at cond) = omega (arith, length-append (expr_tokens cond) (Symbol (codes ")") ∷ []), expr_size cond)
term_size (Repeat var first last item from to) =
    let item_tokens : Tokens = Word reserved.Do ∷ Name item.name ∷ place_tokens (Ends from to) in
    omega (
      arith,
      length-append (expr_tokens first) (Word reserved.To ∷ (expr_tokens last ++ item_tokens)),
      length-append
          (expr_tokens last) item_tokens,
      expr_size first,
      expr_size last,
      place_size (Ends from to),
    )
term_size (Many at item place) = omega (arith, place_size place)
term_size (Pick at cases other) =
    omega (
      arith,
      length-append (cases_tokens cases) (Word reserved.Else ∷ (slot_tokens other ++ (Symbol (codes "}") ∷ []))),
      length-append (slot_tokens other) (Symbol (codes "}") ∷ []),
      cases_size cases,
      slot_size other,
    )

terms_size : (ts : List Term) → sum_by term_count ts ≤ 2 * length (terms_tokens ts)
terms_size [] = omega arith
terms_size (t ∷ ts) = omega (arith, sum_by-cons term_count t ts, length-append (term_tokens t) (terms_tokens ts), term_size t, terms_size ts)

-- ---- rules

local_alts_size : (mark : TokenKind) (alts : List Alt) → sum_by local_alt_count alts ≤ 2 * length (local_alts_from mark alts)
local_alts_size mark [] = omega arith
local_alts_size mark (a ∷ alts) =
    let next = Symbol (codes "/") in
    omega (
      arith,
      sum_by-cons local_alt_count a alts,
      length-append (terms_tokens (out-Alt a).terms) (local_alts_from next alts),
      terms_size
          (out-Alt a).terms,
      local_alts_size next alts,
    )

local_size : (rule : Rule) → local_count rule ≤ 2 * length (local_tokens rule)
local_size rule = omega (
  arith,
  length-append (local_alts_tokens (out-Rule rule).alts) (Symbol (codes ";") ∷ []),
  local_alts_size (Symbol (codes "->"))
      (out-Rule rule).alts,
)

locals_size : (rules : List Rule) → sum_by local_count rules ≤ 2 * length (locals_tokens rules)
locals_size [] = omega arith
locals_size (rule ∷ rules) = omega (
  arith,
  sum_by-cons local_count rule rules,
  length-append (local_tokens rule)
      (locals_tokens rules),
  local_size rule,
  locals_size rules,
)

where_size : (rules : List Rule) → sum_by local_count rules ≤ 2 * length (where_tokens rules)
where_size [] = omega arith
where_size (rule ∷ rules) = omega (arith, length-append (locals_tokens (rule ∷ rules)) (Symbol (codes "}") ∷ []), locals_size (rule ∷ rules))

alt_size : (alt : Alt) → alt_count alt ≤ 2 * length (alt_tokens alt)
alt_size alt = omega (
  arith,
  length-append (terms_tokens (out-Alt alt).terms) (where_tokens (out-Alt alt).locals),
  terms_size
      (out-Alt alt).terms,
  where_size (out-Alt alt).locals,
)

alts_size : (mark : TokenKind) (alts : List Alt) → sum_by alt_count alts ≤ 2 * length (alts_from mark alts)
alts_size mark [] = omega arith
alts_size mark (a ∷ alts) =
    let next = Symbol (codes "/") in
    omega (arith, sum_by-cons alt_count a alts, length-append (alt_tokens a) (alts_from next alts), alt_size a, alts_size next alts)

rule_size : (rule : Rule) → rule_count rule ≤ 2 * length (rule_tokens rule)
rule_size rule = omega (arith, length-append (alts_tokens (out-Rule rule).alts) (Symbol (codes ";") ∷ []), alts_size (Symbol (codes "->")) (out-Rule rule).alts)

rules_size : (rules : List Rule) → sum_by rule_count rules ≤ 2 * length (rules_tokens rules)
rules_size [] = omega arith
rules_size (rule ∷ rules) = omega (
  arith,
  sum_by-cons rule_count rule rules,
  length-append (rule_tokens rule)
      (rules_tokens rules),
  rule_size rule,
  rules_size rules,
)

-- ---- the conditions

readable_rule : (rule : Rule) → IsFormedRule rule → IsReadableRule rule
readable_rule rule h = record {
  count = h.count;
  each = all_of_all IsFormedAlt IsReadableAlt (λ alt m. record {
    terms = m.terms.count;
    locals = all_of_all IsFormedLocal IsReadableLocal (λ l k. record {
      count = k.count;
      each = all_of_all IsFormedLocalAlt IsReadableLocalAlt (λ b n. record { terms = n.terms.count; no_locals = n.no_locals }) (out-Rule l).alts k.each;
    }) (out-Alt alt).locals m.locals;
  }) (out-Rule rule).alts h.each;
}

pub readable : (g : Grammar) → IsFormed g → length (grammar_tokens g) ≤ 2 ^ 20 → IsReadable g
readable g formed short = record {
  some = formed.some;
  count = formed.count;
  each = all_of_all IsFormedRule IsReadableRule readable_rule g.rules formed.each;
  few = omega (arith, rules_size g.rules);
}
