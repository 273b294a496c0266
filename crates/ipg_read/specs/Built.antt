-- What is made of the rows: the forms that are still parts to be, the last one first, and the lists that are being made.
use Rattle.std.specs.Prelude.{List, [], ◌∷◌}
use Rattle.ipg_ast.specs.declared.grammar.Ident.{Ident}
use Rattle.ipg_ast.specs.declared.grammar.Span.{Span}
use Rattle.ipg_ast.specs.declared.grammar.Field.{Field}
use Rattle.ipg_ast.specs.declared.grammar.Expr.{Expr}
use Rattle.ipg_ast.specs.declared.grammar.Expr.TheVariants as E
use Rattle.ipg_ast.specs.declared.grammar.Place.{Place}
use Rattle.ipg_ast.specs.declared.grammar.Place.TheVariants as P
use Rattle.ipg_ast.specs.declared.grammar.What.{What}
use Rattle.ipg_ast.specs.declared.grammar.What.TheVariants as W
use Rattle.ipg_ast.specs.declared.grammar.Slot.{Slot}
use Rattle.ipg_ast.specs.declared.grammar.Case.{Case}
use Rattle.ipg_ast.specs.declared.grammar.Term.{Term}
use Rattle.ipg_ast.specs.declared.grammar.Term.TheVariants as T
use Rattle.ipg_ast.specs.declared.grammar.Alt.{Alt}
use Rattle.ipg_ast.specs.declared.grammar.Rule.{Rule}
use Rattle.ipg_read_syntax.specs.Grammars.{infix_expr, alt_of, rule_of}
use Rattle.ipg_read_syntax.specs.Making.{last}
use Rattle.ipg_read_scan.specs.declared.row.Site.{Site}
use Rattle.ipg_read_scan.specs.declared.row.Site.TheVariants.{Global, Local}
use Rattle.ipg_read_scan.specs.declared.row.Role.{Role}
use Rattle.ipg_read_scan.specs.declared.row.Role.TheVariants as Use
use Rattle.ipg_read_scan.specs.declared.row.Extent.{Extent}
use Rattle.ipg_read_scan.specs.declared.row.Extent.TheVariants.{Open, Length, Ends}
use Rattle.ipg_read.specs.declared.build.Build.{Build}
use Rattle.ipg_read.specs.Counted.{below}
use Rattle.ipg_read_scan.specs.Rowed.{Row}
use Rattle.ipg_read_scan.specs.Rowed as R

-- names, expressions and slots that no row took yet; `outer` are the terms before a `where`
pub record Parts : Type 0 where
  pub exprs : List Expr
  pub names : List Ident
  pub slots : List Slot
  pub cases : List Case
  pub terms : List Term
  pub outer : List Term
  pub local_alts : List Alt
  pub locals : List Rule
  pub alts : List Alt
  pub rules : List Rule

abbrev pub parts_of : Build → Parts
parts_of b = record {
  exprs = b.exprs;
  names = b.names;
  slots = b.slots;
  cases = b.cases;
  terms = b.terms;
  outer = b.outer;
  local_alts = b.local_alts;
  locals = b.locals;
  alts = b.alts;
  rules = b.rules;
}

abbrev pub blank : Parts
blank = record { exprs = []; names = []; slots = []; cases = []; terms = []; outer = []; local_alts = []; locals = []; alts = []; rules = [] }

-- ---- one field

abbrev pub put_exprs : List Expr → Parts → Parts
put_exprs xs p = record p { exprs = xs }

abbrev pub put_names : List Ident → Parts → Parts
put_names xs p = record p { names = xs }

abbrev pub put_slots : List Slot → Parts → Parts
put_slots xs p = record p { slots = xs }

abbrev pub put_cases : List Case → Parts → Parts
put_cases xs p = record p { cases = xs }

abbrev pub put_term : Term → Parts → Parts
put_term t p = record p { terms = last p.terms t }

-- ---- expressions

-- the last one, or `EOI` where there is none
abbrev pub top : List Expr → Expr
top [] = E.Eoi
top (e ∷ es) = e

abbrev pub put_expr : Expr → Parts → Parts
put_expr e p = put_exprs (e ∷ p.exprs) p

abbrev pub one : (Expr → Expr) → Parts → Parts
one f p = put_exprs (f (top p.exprs) ∷ below p.exprs) p

abbrev pub two : (Expr → Expr → Expr) → Parts → Parts
two f p = put_exprs (f (top (below p.exprs)) (top p.exprs) ∷ below (below p.exprs)) p

abbrev pub three : (Expr → Expr → Expr → Expr) → Parts → Parts
three f p = put_exprs (f (top (below (below p.exprs))) (top (below p.exprs)) (top p.exprs) ∷ below (below (below p.exprs))) p

-- the name last put is an attribute, or has a part
abbrev pub named : (Ident → Expr) → List Ident → Parts → Parts
named f [] p = p
named f (i ∷ is) p = put_expr (f i) (put_names is p)

-- the name before an index
abbrev pub indexed : Field → List Ident → Parts → Parts
indexed f [] p = p
indexed f (i ∷ is) p = put_exprs (E.Item i (top p.exprs) f ∷ below p.exprs) (put_names is p)

-- ---- slots

abbrev pub slot : What → Span → Slot
slot what at = record { what = what; span = at; place = P.Open }

abbrev pub placed : Slot → Place → Slot
placed s place = record { what = s.what; span = s.span; place = place }

abbrev pub place_of : Extent → List Expr → Place
place_of Open es = P.Open
place_of Length es = P.Length (top es)
place_of Ends es = P.Ends (top (below es)) (top es)

abbrev pub left_by : Extent → List Expr → List Expr
left_by Open es = es
left_by Length es = below es
left_by Ends es = below (below es)

-- ---- terms

abbrev pub slot_term : Place → List Slot → Parts → Parts
slot_term place [] p = p
slot_term place (s ∷ ss) p = put_term (T.Slot (placed s place)) (put_slots ss p)

abbrev pub many_term : Span → Place → List Ident → Parts → Parts
many_term at place [] p = p
many_term at place (i ∷ is) p = put_term (T.Many at i place) (put_names is p)

abbrev pub slot_case : Place → List Slot → Parts → Parts
slot_case place [] p = p
slot_case place (s ∷ ss) p = put_cases (last p.cases (record { cond = top p.exprs; slot = placed s place })) (put_exprs (below p.exprs) (put_slots ss p))

abbrev pub slot_other : Place → List Slot → Parts → Parts
slot_other place [] p = p
slot_other place (s ∷ ss) p = put_slots (placed s place ∷ ss) p

abbrev pub filled : Role → Place → Parts → Parts
filled Use.Term place p = slot_term place p.slots p
filled (Use.Many at) place p = many_term at place p.names p
filled Use.Case place p = slot_case place p.slots p
filled Use.Other place p = slot_other place p.slots p

abbrev pub set_term : List Ident → Parts → Parts
set_term [] p = p
set_term (i ∷ is) p = put_term (T.Set i (top p.exprs)) (put_exprs (below p.exprs) (put_names is p))

-- the loop variable, the bounds, the item and its interval
abbrev pub repeated : Ident → Ident → List Ident → Parts → Parts
repeated x i is p =
    put_term (T.Repeat x (top (below (below (below p.exprs)))) (top (below (below p.exprs))) i (top (below p.exprs)) (top p.exprs))
    (put_exprs (below (below (below (below p.exprs)))) (put_names is p))

abbrev pub repeat_term : List Ident → Parts → Parts
repeat_term [] p = p
repeat_term (i ∷ []) p = p
repeat_term (i ∷ x ∷ is) p = repeated x i is p

abbrev pub pick_term : Span → List Slot → Parts → Parts
pick_term at [] p = p
pick_term at (s ∷ ss) p = put_term (T.Pick at p.cases s) (put_cases [] (put_slots ss p))

-- ---- alternatives and rules

-- the terms so far, and no local rules
abbrev pub alt_ends : Site → Parts → Parts
alt_ends Global p = record {
  exprs = p.exprs;
  names = p.names;
  slots = p.slots;
  cases = p.cases;
  terms = [];
  outer = p.outer;
  local_alts = p.local_alts;
  locals = p.locals;
  alts = last p.alts (alt_of p.terms []);
  rules = p.rules;
}
alt_ends Local p = record {
  exprs = p.exprs;
  names = p.names;
  slots = p.slots;
  cases = p.cases;
  terms = [];
  outer = p.outer;
  local_alts = last p.local_alts (alt_of p.terms []);
  locals = p.locals;
  alts = p.alts;
  rules = p.rules;
}

abbrev pub put_rule : Site → Ident → Parts → Parts
put_rule Global n p = record {
  exprs = p.exprs;
  names = p.names;
  slots = p.slots;
  cases = p.cases;
  terms = p.terms;
  outer = p.outer;
  local_alts = p.local_alts;
  locals = p.locals;
  alts = [];
  rules = last p.rules (rule_of n p.alts);
}
put_rule Local n p = record {
  exprs = p.exprs;
  names = p.names;
  slots = p.slots;
  cases = p.cases;
  terms = p.terms;
  outer = p.outer;
  local_alts = [];
  locals = last p.locals (rule_of n p.local_alts);
  alts = p.alts;
  rules = p.rules;
}

abbrev pub rule_ends : Site → List Ident → Parts → Parts
rule_ends site [] p = p
rule_ends site (n ∷ ns) p = put_rule site n (put_names ns p)

abbrev pub end_rule : Site → Parts → Parts
end_rule site p = rule_ends site p.names (alt_ends site p)

abbrev pub locals_begin : Parts → Parts
locals_begin p = record {
  exprs = p.exprs;
  names = p.names;
  slots = p.slots;
  cases = p.cases;
  terms = [];
  outer = p.terms;
  local_alts = p.local_alts;
  locals = p.locals;
  alts = p.alts;
  rules = p.rules;
}

abbrev pub locals_end : Parts → Parts
locals_end p = record {
  exprs = p.exprs;
  names = p.names;
  slots = p.slots;
  cases = p.cases;
  terms = p.terms;
  outer = [];
  local_alts = p.local_alts;
  locals = [];
  alts = last p.alts (alt_of p.outer p.locals);
  rules = p.rules;
}

-- ---- a row

abbrev pub make : Row → Parts → Parts
make (R.rule at) p = p
make (R.name i) p = put_names (i ∷ p.names) p
make (R.first site at) p = p
make (R.term at) p = p
make (R.text i) p = put_slots (slot (W.Text i.name) i.span ∷ p.slots) p
make (R.call i) p = put_slots (slot (W.Call i.name) i.span ∷ p.slots) p
make (R.placed extent role) p = filled role (place_of extent p.exprs) (put_exprs (left_by extent p.exprs) p)
make R.set p = set_term p.names p
make (R.test at) p = put_term (T.Test at (top p.exprs)) (put_exprs (below p.exprs) p)
make R.repeat p = repeat_term p.names p
make (R.pick at) p = pick_term at p.slots p
make (R.next_alt site) p = alt_ends site p
make (R.end_rule site) p = end_rule site p
make R.locals p = locals_begin p
make R.end_locals p = locals_end p
make R.close p = rule_ends Global p.names p
make (R.num z) p = put_expr (E.Num z) p
make R.eoi p = put_expr E.Eoi p
make R.own p = named E.Id p.names p
make (R.part f) p = named (λ i. E.Part i f) p.names p
make (R.item f) p = indexed f p.names p
make R.group p = one E.Group p
make R.neg p = one E.Neg p
make R.isnt p = one E.Not p
make (R.two i) p = two (infix_expr i) p
make R.choose p = three E.Cond p
make (R.whole from) p = p

abbrev pub makes : List Row → Parts → Parts
makes [] p = p
makes (r ∷ rs) p = makes rs (make r p)
