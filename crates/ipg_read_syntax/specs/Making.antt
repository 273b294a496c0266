-- The actions that make trees, those that make the public types, and what a tree makes by any actions.
use Rattle.std.specs.Prelude.{List, [], ◌∷◌, ◌++◌}
use Rattle.ipg_ast.specs.declared.grammar.Expr.{Expr}
use Rattle.ipg_ast.specs.declared.grammar.Expr.TheVariants as E
use Rattle.ipg_ast.specs.declared.grammar.Place.{Place}
use Rattle.ipg_ast.specs.declared.grammar.Place.TheVariants.{Open, Length, Ends}
use Rattle.ipg_ast.specs.declared.grammar.Slot.{Slot}
use Rattle.ipg_ast.specs.declared.grammar.Case.{Case}
use Rattle.ipg_ast.specs.declared.grammar.Term.{Term}
use Rattle.ipg_ast.specs.declared.grammar.Term.TheVariants as T
use Rattle.ipg_ast.specs.declared.grammar.Alt.{Alt}
use Rattle.ipg_ast.specs.declared.grammar.Rule.{Rule}
use Rattle.ipg_read_syntax.specs.Written
use Rattle.ipg_read_syntax.specs.Grammars.{infix_expr, alt_of, rule_of}
use Rattle.ipg_read_syntax.specs.Machine.{Acts}

abbrev pub last : {A : Type 0} → List A → A → List A
last xs x = xs ++ (x ∷ [])

-- trees; the log is empty
abbrev pub trees : Acts
trees = record {
  Expr = Written.ExprTree;
  Place = Written.PlaceTree;
  Slot = Written.SlotTree;
  Cases = List Written.CaseTree;
  Term = Written.TermTree;
  Terms = List Written.TermTree;
  LocalAlts = List (List Written.TermTree);
  Locals = List Written.LocalTree;
  Alts = List Written.AltTree;
  Rules = List Written.RuleTree;
  Log = Unit {0};
  num = Written.num;
  eoi = Written.eoi;
  own = Written.own;
  part = Written.part;
  item = Written.item;
  group = Written.group;
  neg = Written.neg;
  isnt = Written.isnt;
  two = Written.two;
  choose = Written.choose;
  anywhere = Written.anywhere;
  long = Written.long;
  ends = Written.ends;
  slot = λ what at p. record { what = what; span = at; place = p };
  no_cases = [];
  with_case = λ cs c s. last cs (record { test = c; slot = s });
  slot_term = Written.slot_term;
  set_term = Written.set_term;
  test_term = Written.test_term;
  repeat_term = Written.repeat_term;
  many_term = Written.many_term;
  pick_term = Written.pick_term;
  no_terms = [];
  with_term = last;
  no_local_alts = [];
  with_local_alt = last;
  no_locals = [];
  with_local = λ ls n las. last ls (record { head = n; alts = las });
  no_alts = [];
  with_alt = λ alts ts ls. last alts (record { terms = ts; locals = ls });
  no_rules = [];
  with_rule = λ rs n alts. last rs (record { head = n; alts = alts });
  blank = tt;
  saw_rule = λ at log. tt;
  saw_local_alt = λ las at log. tt;
  saw_alt = λ alts at log. tt;
  saw_term = λ ts at log. tt;
  saw_expr = λ e at log. tt;
}

-- the public types; the log is empty
abbrev pub made : Acts
made = record {
  Expr = Expr;
  Place = Place;
  Slot = Slot;
  Cases = List Case;
  Term = Term;
  Terms = List Term;
  LocalAlts = List Alt;
  Locals = List Rule;
  Alts = List Alt;
  Rules = List Rule;
  Log = Unit {0};
  num = λ z. E.Num z;
  eoi = E.Eoi;
  own = λ i. E.Id i;
  part = λ i f. E.Part i f;
  item = λ i e f. E.Item i e f;
  group = λ e. E.Group e;
  neg = λ e. E.Neg e;
  isnt = λ e. E.Not e;
  two = infix_expr;
  choose = λ c at a b. E.Cond c a b;
  anywhere = Open;
  long = λ e. Length e;
  ends = λ l r. Ends l r;
  slot = λ what at p. record { what = what; span = at; place = p };
  no_cases = [];
  with_case = λ cs c s. last cs (record { cond = c; slot = s });
  slot_term = λ s. T.Slot s;
  set_term = λ x e. T.Set x e;
  test_term = λ at e. T.Test at e;
  repeat_term = λ x a b i l r. T.Repeat x a b i l r;
  many_term = λ at i p. T.Many at i p;
  pick_term = λ at cs s. T.Pick at cs s;
  no_terms = [];
  with_term = last;
  no_local_alts = [];
  with_local_alt = λ las ts. last las (alt_of ts []);
  no_locals = [];
  with_local = λ ls n las. last ls (rule_of n las);
  no_alts = [];
  with_alt = λ alts ts ls. last alts (alt_of ts ls);
  no_rules = [];
  with_rule = λ rs n alts. last rs (rule_of n alts);
  blank = tt;
  saw_rule = λ at log. tt;
  saw_local_alt = λ las at log. tt;
  saw_alt = λ alts at log. tt;
  saw_term = λ ts at log. tt;
  saw_expr = λ e at log. tt;
}

-- ---- what a tree makes

abbrev pub expr_by : (A : Acts) → Written.ExprTree → A.Expr
expr_by A (Written.num z) = A.num z
expr_by A Written.eoi = A.eoi
expr_by A (Written.own i) = A.own i
expr_by A (Written.part i f) = A.part i f
expr_by A (Written.item i e f) = A.item i (expr_by A e) f
expr_by A (Written.group e) = A.group (expr_by A e)
expr_by A (Written.neg e) = A.neg (expr_by A e)
expr_by A (Written.isnt e) = A.isnt (expr_by A e)
expr_by A (Written.two i a b) = A.two i (expr_by A a) (expr_by A b)
expr_by A (Written.choose c at a b) = A.choose (expr_by A c) at (expr_by A a) (expr_by A b)

abbrev pub place_by : (A : Acts) → Written.PlaceTree → A.Place
place_by A Written.anywhere = A.anywhere
place_by A (Written.long e) = A.long (expr_by A e)
place_by A (Written.ends l r) = A.ends (expr_by A l) (expr_by A r)

abbrev pub slot_by : (A : Acts) → Written.SlotTree → A.Slot
slot_by A s = A.slot s.what s.span (place_by A s.place)

-- after what was made of the members before
abbrev pub cases_by : (A : Acts) → A.Cases → List Written.CaseTree → A.Cases
cases_by A before [] = before
cases_by A before (c ∷ cs) = cases_by A (A.with_case before (expr_by A c.test) (slot_by A c.slot)) cs

abbrev pub term_by : (A : Acts) → Written.TermTree → A.Term
term_by A (Written.slot_term s) = A.slot_term (slot_by A s)
term_by A (Written.set_term x e) = A.set_term x (expr_by A e)
term_by A (Written.test_term at e) = A.test_term at (expr_by A e)
term_by A (Written.repeat_term x a b i l r) = A.repeat_term x (expr_by A a) (expr_by A b) i (expr_by A l) (expr_by A r)
term_by A (Written.many_term at i p) = A.many_term at i (place_by A p)
term_by A (Written.pick_term at cs s) = A.pick_term at (cases_by A A.no_cases cs) (slot_by A s)

abbrev pub terms_by : (A : Acts) → A.Terms → List Written.TermTree → A.Terms
terms_by A before [] = before
terms_by A before (t ∷ ts) = terms_by A (A.with_term before (term_by A t)) ts

abbrev pub local_alts_by : (A : Acts) → A.LocalAlts → List (List Written.TermTree) → A.LocalAlts
local_alts_by A before [] = before
local_alts_by A before (ts ∷ rest) = local_alts_by A (A.with_local_alt before (terms_by A A.no_terms ts)) rest

abbrev pub locals_by : (A : Acts) → A.Locals → List Written.LocalTree → A.Locals
locals_by A before [] = before
locals_by A before (r ∷ rs) = locals_by A (A.with_local before r.head (local_alts_by A A.no_local_alts r.alts)) rs

abbrev pub alts_by : (A : Acts) → A.Alts → List Written.AltTree → A.Alts
alts_by A before [] = before
alts_by A before (a ∷ rest) = alts_by A (A.with_alt before (terms_by A A.no_terms a.terms) (locals_by A A.no_locals a.locals)) rest

abbrev pub rules_by : (A : Acts) → A.Rules → List Written.RuleTree → A.Rules
rules_by A before [] = before
rules_by A before (r ∷ rs) = rules_by A (A.with_rule before r.head (alts_by A A.no_alts r.alts)) rs
