-- The tokens of a grammar, in the order in which it is written.
use Rattle.std.specs.Prelude.{ℕ, List, [], ◌∷◌, ◌++◌, codes}
use Rattle.ipg_num.specs.declared.op.Op2.{Op2}
use Rattle.ipg_num.specs.declared.op.Op2.TheVariants.{Add, Sub, Mul, Div, Mod, Shl, Shr, BitAnd, BitOr, BitXor, Eq, Ne, Lt, Le, Gt, Ge}
use Rattle.ipg_ast.specs.declared.grammar.Grammar.{Grammar}
use Rattle.ipg_ast.specs.declared.grammar.Rule.{Rule, out-Rule}
use Rattle.ipg_ast.specs.declared.grammar.Alt.{Alt, out-Alt}
use Rattle.ipg_ast.specs.declared.grammar.Term.{Term}
use Rattle.ipg_ast.specs.declared.grammar.Term.TheVariants.{Slot as SlotTerm, Set, Test, Repeat, Many, Pick}
use Rattle.ipg_ast.specs.declared.grammar.Case.{Case}
use Rattle.ipg_ast.specs.declared.grammar.Slot.{Slot}
use Rattle.ipg_ast.specs.declared.grammar.What.{What}
use Rattle.ipg_ast.specs.declared.grammar.What.TheVariants.{Text as TextWhat, Call}
use Rattle.ipg_ast.specs.declared.grammar.Place.{Place}
use Rattle.ipg_ast.specs.declared.grammar.Place.TheVariants.{Open, Length, Ends}
use Rattle.ipg_ast.specs.declared.grammar.Ident.{Ident}
use Rattle.ipg_ast.specs.declared.grammar.Expr.{Expr}
use Rattle.ipg_ast.specs.declared.grammar.Expr.TheOpen.{Expr-F}
use Rattle.ipg_ast.specs.declared.grammar.Expr.TheOpen.Expr-F.{Num, Eoi, Id, Part, Item, Group, Neg, Not, Two, Both, Either, Cond}
use Rattle.ipg_ast.specs.declared.grammar.Expr.TheFolds.{fold-Expr}
use Rattle.ipg_ast.specs.declared.grammar.Field.{Field}
use Rattle.ipg_ast.specs.declared.grammar.Field.TheVariants.{Id as Attribute, Start, End}
use Rattle.ipg_ast.specs.declared.token.Reserved.TheVariants as reserved
use Rattle.ipg_ast.specs.declared.token.TokenKind.{TokenKind}
use Rattle.ipg_ast.specs.declared.token.TokenKind.TheVariants.{Name, Word, Number, Text, Symbol}

abbrev pub Tokens : Type 0
Tokens = List TokenKind

abbrev pub field_tokens : Field → Tokens
field_tokens (Attribute i) = Name i.name ∷ []
field_tokens Start = Word reserved.Start ∷ []
field_tokens End = Word reserved.End ∷ []

abbrev pub sign_of : Op2 → List ℕ
sign_of Add = codes "+"
sign_of Sub = codes "-"
sign_of Mul = codes "*"
sign_of Div = codes "/"
sign_of Mod = codes "%"
sign_of Shl = codes "<<"
sign_of Shr = codes ">>"
sign_of BitAnd = codes "&"
sign_of BitOr = codes "|"
sign_of BitXor = codes "^"
sign_of Eq = codes "=="
sign_of Ne = codes "!="
sign_of Lt = codes "<"
sign_of Le = codes "<="
sign_of Gt = codes ">"
sign_of Ge = codes ">="

-- one level of an expression, with the tokens of its parts in their places
abbrev pub part_tokens : Ident → Field → Tokens
part_tokens of f = Name of.name ∷ Symbol (codes ".") ∷ field_tokens f

abbrev pub expr_step : Expr-F Tokens → Tokens
expr_step (Num n) = Number n ∷ []
expr_step Eoi = Word reserved.Eoi ∷ []
expr_step (Id i) = Name i.name ∷ []
expr_step (Part of f) = part_tokens of f
expr_step (Item of e f) = Name of.name ∷ Symbol (codes "(") ∷ (e ++ (Symbol (codes ")") ∷ Symbol (codes ".") ∷ field_tokens f))
expr_step (Group e) = Symbol (codes "(") ∷ (e ++ (Symbol (codes ")") ∷ []))
expr_step (Neg e) = Symbol (codes "-") ∷ e
expr_step (Not e) = Symbol (codes "!") ∷ e
expr_step (Two op a b) = a ++ (Symbol (sign_of op) ∷ b)
expr_step (Both a b) = a ++ (Symbol (codes "&&") ∷ b)
expr_step (Either a b) = a ++ (Symbol (codes "||") ∷ b)
expr_step (Cond c a b) = c ++ (Symbol (codes "?") ∷ (a ++ (Symbol (codes ":") ∷ b)))

abbrev pub expr_tokens : Expr → Tokens
expr_tokens = fold-Expr Tokens expr_step

abbrev pub place_tokens : Place → Tokens
place_tokens Open = []
place_tokens (Length e) = Symbol (codes "[") ∷ (expr_tokens e ++ (Symbol (codes "]") ∷ []))
place_tokens (Ends l r) = Symbol (codes "[") ∷ (expr_tokens l ++ (Symbol (codes ",") ∷ (expr_tokens r ++ (Symbol (codes "]") ∷ []))))

abbrev pub what_token : What → TokenKind
what_token (TextWhat bytes) = Text bytes
what_token (Call name) = Name name

abbrev pub slot_tokens : Slot → Tokens
slot_tokens s = what_token s.what ∷ place_tokens s.place

abbrev pub case_tokens : Case → Tokens
case_tokens c = Word reserved.Case ∷ Symbol (codes "(") ∷ (expr_tokens c.cond ++ (Symbol (codes ")") ∷ slot_tokens c.slot))

abbrev pub cases_tokens : List Case → Tokens
cases_tokens [] = []
cases_tokens (c ∷ cs) = case_tokens c ++ cases_tokens cs

abbrev pub set_tokens : Ident → Expr → Tokens
set_tokens name value = Symbol (codes "{") ∷ Name name.name ∷ Symbol (codes "=") ∷ (expr_tokens value ++ (Symbol (codes "}") ∷ []))

abbrev pub test_tokens : Expr → Tokens
test_tokens cond = Symbol (codes "?") ∷ Symbol (codes "(") ∷ (expr_tokens cond ++ (Symbol (codes ")") ∷ []))

abbrev pub pick_tokens : List Case → Slot → Tokens
pick_tokens cases other =
    Word reserved.Switch ∷ Symbol (codes "{") ∷ (cases_tokens cases ++ (Word reserved.Else ∷ (slot_tokens other ++ (Symbol (codes "}") ∷ []))))

abbrev pub term_tokens : Term → Tokens
term_tokens (SlotTerm s) = slot_tokens s
term_tokens (Set name value) = set_tokens name value
term_tokens (Test at cond) = test_tokens cond
term_tokens (Repeat var first last item from to) =
    Word reserved.For ∷ Name var.name ∷ Symbol (codes "=") ∷ (expr_tokens first ++ (Word reserved.To ∷ (expr_tokens last
    ++ (Word reserved.Do ∷ Name item.name ∷ place_tokens (Ends from to)))))
term_tokens (Many at item place) = Word reserved.Many ∷ Name item.name ∷ place_tokens place
term_tokens (Pick at cases other) = pick_tokens cases other

abbrev pub terms_tokens : List Term → Tokens
terms_tokens [] = []
terms_tokens (t ∷ ts) = term_tokens t ++ terms_tokens ts

-- each alternative with its mark before it: `->` the first, `/` the others
abbrev pub local_alts_from : TokenKind → List Alt → Tokens
local_alts_from mark [] = []
local_alts_from mark (a ∷ rest) = mark ∷ (terms_tokens (out-Alt a).terms ++ local_alts_from (Symbol (codes "/")) rest)

abbrev pub local_alts_tokens : List Alt → Tokens
local_alts_tokens alts = local_alts_from (Symbol (codes "->")) alts

-- a local rule, which has no `where` of its own
abbrev pub local_tokens : Rule → Tokens
local_tokens r = Name (out-Rule r).name.name ∷ (local_alts_tokens (out-Rule r).alts ++ (Symbol (codes ";") ∷ []))

abbrev pub locals_tokens : List Rule → Tokens
locals_tokens [] = []
locals_tokens (r ∷ rs) = local_tokens r ++ locals_tokens rs

-- nothing where there are no local rules
abbrev pub where_tokens : List Rule → Tokens
where_tokens [] = []
where_tokens (r ∷ rs) = Word reserved.Where ∷ Symbol (codes "{") ∷ (locals_tokens (r ∷ rs) ++ (Symbol (codes "}") ∷ []))

abbrev pub alt_tokens : Alt → Tokens
alt_tokens a = terms_tokens (out-Alt a).terms ++ where_tokens (out-Alt a).locals

abbrev pub alts_from : TokenKind → List Alt → Tokens
alts_from mark [] = []
alts_from mark (a ∷ rest) = mark ∷ (alt_tokens a ++ alts_from (Symbol (codes "/")) rest)

abbrev pub alts_tokens : List Alt → Tokens
alts_tokens alts = alts_from (Symbol (codes "->")) alts

abbrev pub rule_tokens : Rule → Tokens
rule_tokens r = Name (out-Rule r).name.name ∷ (alts_tokens (out-Rule r).alts ++ (Symbol (codes ";") ∷ []))

abbrev pub rules_tokens : List Rule → Tokens
rules_tokens [] = []
rules_tokens (r ∷ rs) = rule_tokens r ++ rules_tokens rs

abbrev pub grammar_tokens : Grammar → Tokens
grammar_tokens g = rules_tokens g.rules
