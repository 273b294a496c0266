-- The grammar that a tree is of.
use Rattle.std.specs.Prelude.{List, [], map}
use Rattle.ipg_ast.specs.declared.grammar.Ident.{Ident}
use Rattle.ipg_ast.specs.declared.grammar.Expr.{Expr}
use Rattle.ipg_ast.specs.declared.grammar.Expr.TheVariants as E
use Rattle.ipg_ast.specs.declared.grammar.Place.{Place}
use Rattle.ipg_ast.specs.declared.grammar.Place.TheVariants.{Open, Length, Ends}
use Rattle.ipg_ast.specs.declared.grammar.Slot.{Slot}
use Rattle.ipg_ast.specs.declared.grammar.Case.{Case}
use Rattle.ipg_ast.specs.declared.grammar.Term.{Term}
use Rattle.ipg_ast.specs.declared.grammar.Term.TheVariants as T
use Rattle.ipg_ast.specs.declared.grammar.Alt.{Alt, roll-Alt}
use Rattle.ipg_ast.specs.declared.grammar.Rule.{Rule, roll-Rule}
use Rattle.ipg_ast.specs.declared.grammar.Grammar.{Grammar}
use Rattle.ipg_read_syntax.specs.Classes.{Infix, either, both, op}
use Rattle.ipg_read_syntax.specs.Written.{ExprTree, num, eoi, own, part, item, group, neg, isnt, two, choose, PlaceTree, anywhere, long, ends, SlotTree}
use Rattle.ipg_read_syntax.specs.Written.{CaseTree, TermTree, slot_term, set_term, test_term, repeat_term, many_term, pick_term, LocalTree, AltTree, RuleTree}

abbrev pub infix_expr : Infix → Expr → Expr → Expr
infix_expr either a b = E.Either a b
infix_expr both a b = E.Both a b
infix_expr (op o) a b = E.Two o a b

abbrev pub made_expr : ExprTree → Expr
made_expr (num z) = E.Num z
made_expr eoi = E.Eoi
made_expr (own i) = E.Id i
made_expr (part i f) = E.Part i f
made_expr (item i e f) = E.Item i (made_expr e) f
made_expr (group e) = E.Group (made_expr e)
made_expr (neg e) = E.Neg (made_expr e)
made_expr (isnt e) = E.Not (made_expr e)
made_expr (two i a b) = infix_expr i (made_expr a) (made_expr b)
made_expr (choose c at a b) = E.Cond (made_expr c) (made_expr a) (made_expr b)

abbrev pub made_place : PlaceTree → Place
made_place anywhere = Open
made_place (long e) = Length (made_expr e)
made_place (ends l r) = Ends (made_expr l) (made_expr r)

abbrev pub made_slot : SlotTree → Slot
made_slot s = record { what = s.what; span = s.span; place = made_place s.place }

abbrev pub made_case : CaseTree → Case
made_case c = record { cond = made_expr c.test; slot = made_slot c.slot }

abbrev pub made_term : TermTree → Term
made_term (slot_term s) = T.Slot (made_slot s)
made_term (set_term x e) = T.Set x (made_expr e)
made_term (test_term at e) = T.Test at (made_expr e)
made_term (repeat_term x a b i l r) = T.Repeat x (made_expr a) (made_expr b) i (made_expr l) (made_expr r)
made_term (many_term at i p) = T.Many at i (made_place p)
made_term (pick_term at cs s) = T.Pick at (map made_case cs) (made_slot s)

abbrev pub alt_of : List Term → List Rule → Alt
alt_of ts ls = roll-Alt (record { terms = ts; locals = ls })

abbrev pub rule_of : Ident → List Alt → Rule
rule_of n alts = roll-Rule (record { name = n; alts = alts })

abbrev pub made_local_alt : List TermTree → Alt
made_local_alt ts = alt_of (map made_term ts) []

abbrev pub made_local : LocalTree → Rule
made_local l = rule_of l.head (map made_local_alt l.alts)

abbrev pub made_alt : AltTree → Alt
made_alt a = alt_of (map made_term a.terms) (map made_local a.locals)

abbrev pub made_rule : RuleTree → Rule
made_rule r = rule_of r.head (map made_alt r.alts)

abbrev pub grammar_of : List RuleTree → Grammar
grammar_of rs = record { rules = map made_rule rs }
