-- A token, and a grammar, without the places of tokens.
use Rattle.std.specs.Prelude.{List, [], ◌∷◌, map}
use Rattle.ipg_ast.specs.declared.grammar.Ident.{Ident}
use Rattle.ipg_ast.specs.declared.grammar.Span.{Span}
use Rattle.ipg_ast.specs.declared.grammar.Field.{Field}
use Rattle.ipg_ast.specs.declared.grammar.Field.TheVariants.{Id as Attribute, Start, End}
use Rattle.ipg_ast.specs.declared.grammar.Expr.{Expr}
use Rattle.ipg_ast.specs.declared.grammar.Expr.TheOpen.{Expr-F}
use Rattle.ipg_ast.specs.declared.grammar.Expr.TheOpen.Expr-F.{Num, Eoi, Id, Part, Item, Group, Neg, Not, Two, Both, Either, Cond}
use Rattle.ipg_ast.specs.declared.grammar.Expr.TheFolds.{fold-Expr}
use Rattle.ipg_ast.specs.declared.grammar.Expr.TheVariants as E
use Rattle.ipg_ast.specs.declared.grammar.Place.{Place}
use Rattle.ipg_ast.specs.declared.grammar.Place.TheVariants.{Open, Length, Ends}
use Rattle.ipg_ast.specs.declared.grammar.Slot.{Slot}
use Rattle.ipg_ast.specs.declared.grammar.Case.{Case}
use Rattle.ipg_ast.specs.declared.grammar.Term.{Term}
use Rattle.ipg_ast.specs.declared.grammar.Term.TheVariants.{Slot as SlotTerm, Set, Test, Repeat, Many, Pick}
use Rattle.ipg_ast.specs.declared.grammar.Alt.{Alt, out-Alt, roll-Alt}
use Rattle.ipg_ast.specs.declared.grammar.Rule.{Rule, out-Rule, roll-Rule}
use Rattle.ipg_ast.specs.declared.grammar.Grammar.{Grammar}
use Rattle.ipg_read_syntax.specs.Classes.{Tok, name, text, question, switch_word, many_word}

abbrev pub no_span : Span
no_span = record { from = 0; to = 0 }

abbrev pub bare_ident : Ident → Ident
bare_ident i = record { name = i.name; span = no_span }

abbrev pub bare_field : Field → Field
bare_field (Attribute i) = Attribute (bare_ident i)
bare_field Start = Start
bare_field End = End

abbrev pub bare_tok : Tok → Tok
bare_tok (name i) = name (bare_ident i)
bare_tok (text bs at) = text bs no_span
bare_tok (question at) = question no_span
bare_tok (switch_word at) = switch_word no_span
bare_tok (many_word at) = many_word no_span
bare_tok t = t

abbrev pub bare_toks : List Tok → List Tok
bare_toks [] = []
bare_toks (t ∷ ts) = bare_tok t ∷ bare_toks ts

-- one level of an expression, over bare parts
abbrev pub bare_step : Expr-F Expr → Expr
bare_step (Num n) = E.Num n
bare_step Eoi = E.Eoi
bare_step (Id i) = E.Id (bare_ident i)
bare_step (Part i f) = E.Part (bare_ident i) (bare_field f)
bare_step (Item i e f) = E.Item (bare_ident i) e (bare_field f)
bare_step (Group e) = E.Group e
bare_step (Neg e) = E.Neg e
bare_step (Not e) = E.Not e
bare_step (Two op a b) = E.Two op a b
bare_step (Both a b) = E.Both a b
bare_step (Either a b) = E.Either a b
bare_step (Cond c a b) = E.Cond c a b

abbrev pub bare_expr : Expr → Expr
bare_expr = fold-Expr Expr bare_step

abbrev pub bare_place : Place → Place
bare_place Open = Open
bare_place (Length e) = Length (bare_expr e)
bare_place (Ends l r) = Ends (bare_expr l) (bare_expr r)

abbrev pub bare_slot : Slot → Slot
bare_slot s = record { what = s.what; span = no_span; place = bare_place s.place }

abbrev pub bare_case : Case → Case
bare_case c = record { cond = bare_expr c.cond; slot = bare_slot c.slot }

abbrev pub bare_term : Term → Term
bare_term (SlotTerm s) = SlotTerm (bare_slot s)
bare_term (Set x e) = Set (bare_ident x) (bare_expr e)
bare_term (Test at e) = Test no_span (bare_expr e)
bare_term (Repeat x a b i l r) = Repeat (bare_ident x) (bare_expr a) (bare_expr b) (bare_ident i) (bare_expr l) (bare_expr r)
bare_term (Many at i p) = Many no_span (bare_ident i) (bare_place p)
bare_term (Pick at cs s) = Pick no_span (map bare_case cs) (bare_slot s)

-- local rules have no local rules of their own
abbrev pub bare_local_alt : Alt → Alt
bare_local_alt a = roll-Alt (record { terms = map bare_term (out-Alt a).terms; locals = (out-Alt a).locals })

abbrev pub bare_local : Rule → Rule
bare_local r = roll-Rule (record { name = bare_ident (out-Rule r).name; alts = map bare_local_alt (out-Rule r).alts })

abbrev pub bare_alt : Alt → Alt
bare_alt a = roll-Alt (record { terms = map bare_term (out-Alt a).terms; locals = map bare_local (out-Alt a).locals })

abbrev pub bare_rule : Rule → Rule
bare_rule r = roll-Rule (record { name = bare_ident (out-Rule r).name; alts = map bare_alt (out-Rule r).alts })

abbrev pub bare : Grammar → Grammar
bare g = record { rules = map bare_rule g.rules }
