-- Each well formed grammar of the public types is made of a tree.
use Rattle.std.proofs.Common.{◌≡◌, List, [], ◌∷◌, refl, ap, ap₂, ◌∙◌, sym, subst, map}
use Rattle.std.specs.List.{AllByRecursion}
use Rattle.ipg_ast.specs.declared.grammar.Expr.{Expr, roll-Expr, map-Expr}
use Rattle.ipg_ast.specs.declared.grammar.Expr.TheOpen.{Expr-F}
use Rattle.ipg_ast.specs.declared.grammar.Expr.TheOpen.Expr-F.{Num, Eoi, Id, Part, Item, Group, Neg, Not, Two, Both, Either, Cond}
use Rattle.ipg_ast.specs.declared.grammar.Expr.TheFolds.{ind-Expr}
use Rattle.ipg_ast.specs.declared.grammar.Expr.TheVariants as E
use Rattle.ipg_ast.specs.declared.grammar.Expr.TheVariants.{rolls-Num, rolls-Eoi, rolls-Id, rolls-Part, rolls-Item, rolls-Group, rolls-Neg, rolls-Not}
use Rattle.ipg_ast.specs.declared.grammar.Expr.TheVariants.{rolls-Two, rolls-Both, rolls-Either, rolls-Cond}
use Rattle.ipg_ast.specs.declared.grammar.Place.{Place}
use Rattle.ipg_ast.specs.declared.grammar.Place.TheVariants.{Open, Length, Ends}
use Rattle.ipg_ast.specs.declared.grammar.Slot.{Slot}
use Rattle.ipg_ast.specs.declared.grammar.Case.{Case}
use Rattle.ipg_ast.specs.declared.grammar.Term.{Term}
use Rattle.ipg_ast.specs.declared.grammar.Term.TheVariants as T
use Rattle.ipg_ast.specs.declared.grammar.Alt.{Alt, out-Alt, roll-out-Alt}
use Rattle.ipg_ast.specs.declared.grammar.Rule.{Rule, out-Rule, roll-out-Rule}
use Rattle.ipg_ast.specs.declared.grammar.Grammar.{Grammar}
use Rattle.ipg_ast.specs.Shape.{IsFormedTerm, IsFormedTerms, IsFormedLocalAlt, IsFormedLocal, IsFormedAlt, IsFormedRule, IsFormed}
use Rattle.ipg_read_syntax.specs.Classes.{either, both, op}
use Rattle.ipg_read_syntax.specs.Written.{ExprTree, num, eoi, own, part, item, group, neg, isnt, two, choose, anywhere, long, ends}
use Rattle.ipg_read_syntax.specs.Written.{slot_term, set_term, test_term, repeat_term, many_term, pick_term}
use Rattle.ipg_read_syntax.specs.Grammars.{made_expr, made_place, made_slot, made_case, made_term, alt_of, rule_of}
use Rattle.ipg_read_syntax.specs.Grammars.{made_local_alt, made_local, made_alt, made_rule, grammar_of}

pub record ExprOf (e : Expr) : Type 0 where
  pub tree : ExprTree
  pub is : made_expr tree ≡ e

abbrev Child : Type 0
Child = (e : Expr) × ExprOf e

abbrev whole : Child → Expr
whole c = c.0

layer : (y : Expr-F Child) → ExprOf (roll-Expr (map-Expr Child Expr whole y))
layer (Num n) = record { tree = num n; is = sym (rolls-Num n) }
layer Eoi = record { tree = eoi; is = sym rolls-Eoi }
layer (Id i) = record { tree = own i; is = sym (rolls-Id i) }
layer (Part i f) = record { tree = part i f; is = sym (rolls-Part i f) }
layer (Item i c f) = record { tree = item i c.1.tree f; is = ap (λ e. E.Item i e f) c.1.is ∙ sym (rolls-Item i c.0 f) }
layer (Group c) = record { tree = group c.1.tree; is = ap (λ e. E.Group e) c.1.is ∙ sym (rolls-Group c.0) }
layer (Neg c) = record { tree = neg c.1.tree; is = ap (λ e. E.Neg e) c.1.is ∙ sym (rolls-Neg c.0) }
layer (Not c) = record { tree = isnt c.1.tree; is = ap (λ e. E.Not e) c.1.is ∙ sym (rolls-Not c.0) }
layer (Two o a b) = record { tree = two (op o) a.1.tree b.1.tree; is = ap₂ (λ x y. E.Two o x y) a.1.is b.1.is ∙ sym (rolls-Two o a.0 b.0) }
layer (Both a b) = record { tree = two both a.1.tree b.1.tree; is = ap₂ (λ x y. E.Both x y) a.1.is b.1.is ∙ sym (rolls-Both a.0 b.0) }
layer (Either a b) = record { tree = two either a.1.tree b.1.tree; is = ap₂ (λ x y. E.Either x y) a.1.is b.1.is ∙ sym (rolls-Either a.0 b.0) }
layer (Cond c a b) = record {
  tree = choose c.1.tree (record { from = 0; to = 0 }) a.1.tree b.1.tree;
  is = ap (λ x. E.Cond x (made_expr a.1.tree) (made_expr b.1.tree)) c.1.is ∙ ap₂ (λ x y. E.Cond c.0 x y) a.1.is b.1.is ∙ sym (rolls-Cond c.0 a.0 b.0);
}

pub expr_of : (e : Expr) → ExprOf e
expr_of = ind-Expr ExprOf (λ x y is. subst (λ z. ExprOf (roll-Expr z)) is (layer y))

-- ---- each well formed grammar is made of a tree

pub record Of {X Y : Type 0} (f : X → Y) (y : Y) : Type 0 where
  pub tree : X
  pub is : f tree ≡ y

each_of : {X Y : Type 0} (f : X → Y) (P : Y → Type 0) → ((y : Y) → P y → Of f y) → (ys : List Y) → AllByRecursion P ys → Of (map f) ys
each_of f P one [] all = record { tree = []; is = refl }
each_of f P one (y ∷ ys) all =
    let first : Of f y = one y all.0 in
    let rest : Of (map f) ys = each_of f P one ys all.1 in
    record { tree = first.tree ∷ rest.tree; is = ap₂ (λ x xs. x ∷ xs) first.is rest.is }

abbrev Any : {Y : Type 0} → Y → Type 0
Any y = Unit {0}

all_any : {Y : Type 0} (ys : List Y) → AllByRecursion Any ys
all_any [] = tt
all_any (y ∷ ys) = (tt, all_any ys)

place_tree : (p : Place) → Of made_place p
place_tree Open = record { tree = anywhere; is = refl }
place_tree (Length e) = record { tree = long (expr_of e).tree; is = ap (λ x. Length x) (expr_of e).is }
place_tree (Ends l r) = record { tree = ends (expr_of l).tree (expr_of r).tree; is = ap₂ (λ x y. Ends x y) (expr_of l).is (expr_of r).is }

slot_tree : (s : Slot) → Of made_slot s
slot_tree s = record {
  tree = record { what = s.what; span = s.span; place = (place_tree s.place).tree };
  is = ap (λ p. record { what = s.what; span = s.span; place = p }) (place_tree s.place).is;
}

case_tree : (c : Case) → Unit {0} → Of made_case c
case_tree c any = record {
  tree = record { test = (expr_of c.cond).tree; slot = (slot_tree c.slot).tree };
  is = ap₂ (λ e s. record { cond = e; slot = s }) (expr_of c.cond).is (slot_tree c.slot).is;
}

term_tree : (t : Term) → IsFormedTerm t → Of made_term t
term_tree (T.Slot s) any = record { tree = slot_term (slot_tree s).tree; is = ap (λ x. T.Slot x) (slot_tree s).is }
term_tree (T.Set x e) any = record { tree = set_term x (expr_of e).tree; is = ap (λ y. T.Set x y) (expr_of e).is }
term_tree (T.Test at e) any = record { tree = test_term at (expr_of e).tree; is = ap (λ y. T.Test at y) (expr_of e).is }
term_tree (T.Repeat x a b i l r) any = record {
  tree = repeat_term x (expr_of a).tree (expr_of b).tree i (expr_of l).tree (expr_of r).tree;
  is = ap₂ (λ c d. T.Repeat x c d i (made_expr (expr_of l).tree) (made_expr (expr_of r).tree)) (expr_of a).is (expr_of b).is
      ∙ ap₂ (λ c d. T.Repeat x a b i c d) (expr_of l).is (expr_of r).is;
}
term_tree (T.Many at i p) any = record { tree = many_term at i (place_tree p).tree; is = ap (λ x. T.Many at i x) (place_tree p).is }
term_tree (T.Pick at cs s) any =
    let cases : Of (map made_case) cs = each_of made_case Any case_tree cs (all_any cs) in
    record { tree = pick_term at cases.tree (slot_tree s).tree; is = ap₂ (λ x y. T.Pick at x y) cases.is (slot_tree s).is }

terms_tree : (ts : List Term) → IsFormedTerms ts → Of (map made_term) ts
terms_tree ts formed = each_of made_term IsFormedTerm term_tree ts formed.each

local_alt_tree : (a : Alt) → IsFormedLocalAlt a → Of made_local_alt a
local_alt_tree a formed =
    let ts : Of (map made_term) (out-Alt a).terms = terms_tree (out-Alt a).terms formed.terms in
    record { tree = ts.tree; is = ap₂ alt_of ts.is (sym formed.no_locals) ∙ roll-out-Alt a }

local_tree : (r : Rule) → IsFormedLocal r → Of made_local r
local_tree r formed =
    let las : Of (map made_local_alt) (out-Rule r).alts = each_of made_local_alt IsFormedLocalAlt local_alt_tree (out-Rule r).alts formed.each in
    record { tree = record { head = (out-Rule r).name; alts = las.tree }; is = ap (rule_of (out-Rule r).name) las.is ∙ roll-out-Rule r }

alt_tree : (a : Alt) → IsFormedAlt a → Of made_alt a
alt_tree a formed =
    let ts : Of (map made_term) (out-Alt a).terms = terms_tree (out-Alt a).terms formed.terms in
    let ls : Of (map made_local) (out-Alt a).locals = each_of made_local IsFormedLocal local_tree (out-Alt a).locals formed.locals in
    record { tree = record { terms = ts.tree; locals = ls.tree }; is = ap₂ alt_of ts.is ls.is ∙ roll-out-Alt a }

rule_tree : (r : Rule) → IsFormedRule r → Of made_rule r
rule_tree r formed =
    let alts : Of (map made_alt) (out-Rule r).alts = each_of made_alt IsFormedAlt alt_tree (out-Rule r).alts formed.each in
    record { tree = record { head = (out-Rule r).name; alts = alts.tree }; is = ap (rule_of (out-Rule r).name) alts.is ∙ roll-out-Rule r }

pub grammar_tree : (g : Grammar) → IsFormed g → Of grammar_of g
grammar_tree g formed =
    let rules : Of (map made_rule) g.rules = each_of made_rule IsFormedRule rule_tree g.rules formed.each in
    record { tree = rules.tree; is = ap (λ rs. record { rules = rs }) rules.is }
