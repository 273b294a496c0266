-- By the actions that make the public types, a tree makes the grammar that it is of.
use Rattle.std.proofs.Common.{◌≡◌, List, [], ◌∷◌, ◌++◌, refl, ap, ap₂, ◌∙◌, sym, append-nil, map}
use Rattle.ipg_ast.specs.declared.grammar.Expr.TheVariants as E
use Rattle.ipg_ast.specs.declared.grammar.Place.TheVariants.{Length, Ends}
use Rattle.ipg_ast.specs.declared.grammar.Case.{Case}
use Rattle.ipg_ast.specs.declared.grammar.Term.{Term}
use Rattle.ipg_ast.specs.declared.grammar.Term.TheVariants as T
use Rattle.ipg_ast.specs.declared.grammar.Alt.{Alt}
use Rattle.ipg_ast.specs.declared.grammar.Rule.{Rule}
use Rattle.ipg_read_syntax.specs.Written.{ExprTree, num, eoi, own, part, item, group, neg, isnt, two, choose, PlaceTree, anywhere, long, ends}
use Rattle.ipg_read_syntax.specs.Written.{SlotTree, CaseTree}
use Rattle.ipg_read_syntax.specs.Written.{TermTree, slot_term, set_term, test_term, repeat_term, many_term, pick_term, LocalTree, AltTree, RuleTree}
use Rattle.ipg_read_syntax.specs.Grammars.{infix_expr, made_expr, made_place, made_slot, made_case, made_term, alt_of, rule_of, made_local_alt}
use Rattle.ipg_read_syntax.specs.Grammars.{made_local, made_alt, made_rule}
use Rattle.ipg_read_syntax.specs.Making.{made, last, expr_by, place_by, slot_by, cases_by, term_by, terms_by, local_alts_by, locals_by, alts_by, rules_by}
use Rattle.ipg_read_syntax.proofs.Selfs.{moved}

makes_expr : (e : ExprTree) → expr_by made e ≡ made_expr e
makes_expr (num z) = refl
makes_expr eoi = refl
makes_expr (own i) = refl
makes_expr (part i f) = refl
makes_expr (item i e f) = ap (λ x. E.Item i x f) (makes_expr e)
makes_expr (group e) = ap (λ x. E.Group x) (makes_expr e)
makes_expr (neg e) = ap (λ x. E.Neg x) (makes_expr e)
makes_expr (isnt e) = ap (λ x. E.Not x) (makes_expr e)
makes_expr (two i a b) = ap₂ (infix_expr i) (makes_expr a) (makes_expr b)
makes_expr (choose c at a b) =
    ap (λ x. E.Cond x (expr_by made a) (expr_by made b)) (makes_expr c) ∙ ap₂ (λ x y. E.Cond (made_expr c) x y) (makes_expr a) (makes_expr b)

makes_place : (p : PlaceTree) → place_by made p ≡ made_place p
makes_place anywhere = refl
makes_place (long e) = ap (λ x. Length x) (makes_expr e)
makes_place (ends l r) = ap₂ (λ x y. Ends x y) (makes_expr l) (makes_expr r)

makes_slot : (s : SlotTree) → slot_by made s ≡ made_slot s
makes_slot s = ap (λ p. record { what = s.what; span = s.span; place = p }) (makes_place s.place)

makes_cases : (before : List Case) (cs : List CaseTree) → cases_by made before cs ≡ before ++ map made_case cs
makes_cases before [] = sym (append-nil before)
makes_cases before (c ∷ cs) =
    let one : Case = record { cond = expr_by made c.test; slot = slot_by made c.slot } in
    makes_cases (last before one) cs
    ∙ moved before one (made_case c) (map made_case cs) (ap₂ (λ e s. record { cond = e; slot = s }) (makes_expr c.test) (makes_slot c.slot))

makes_term : (t : TermTree) → term_by made t ≡ made_term t
makes_term (slot_term s) = ap (λ x. T.Slot x) (makes_slot s)
makes_term (set_term x e) = ap (λ y. T.Set x y) (makes_expr e)
makes_term (test_term at e) = ap (λ y. T.Test at y) (makes_expr e)
makes_term (repeat_term x a b i l r) =
    ap₂ (λ c d. T.Repeat x c d i (expr_by made l) (expr_by made r)) (makes_expr a) (makes_expr b)
    ∙ ap₂ (λ c d. T.Repeat x (made_expr a) (made_expr b) i c d) (makes_expr l) (makes_expr r)
makes_term (many_term at i p) = ap (λ x. T.Many at i x) (makes_place p)
makes_term (pick_term at cs s) = ap₂ (λ x y. T.Pick at x y) (makes_cases [] cs) (makes_slot s)

makes_terms : (before : List Term) (ts : List TermTree) → terms_by made before ts ≡ before ++ map made_term ts
makes_terms before [] = sym (append-nil before)
makes_terms before (t ∷ ts) = makes_terms (last before (term_by made t)) ts ∙ moved before (term_by made t) (made_term t) (map made_term ts) (makes_term t)

makes_local_alts : (before : List Alt) (las : List (List TermTree)) → local_alts_by made before las ≡ before ++ map made_local_alt las
makes_local_alts before [] = sym (append-nil before)
makes_local_alts before (ts ∷ las) =
    makes_local_alts (last before (alt_of (terms_by made [] ts) [])) las
    ∙ moved before (alt_of (terms_by made [] ts) []) (made_local_alt ts) (map made_local_alt las) (ap (λ x. alt_of x []) (makes_terms [] ts))

makes_locals : (before : List Rule) (ls : List LocalTree) → locals_by made before ls ≡ before ++ map made_local ls
makes_locals before [] = sym (append-nil before)
makes_locals before (l ∷ ls) =
    makes_locals (last before (rule_of l.head (local_alts_by made [] l.alts))) ls
    ∙ moved before (rule_of l.head (local_alts_by made [] l.alts)) (made_local l) (map made_local ls) (ap (rule_of l.head) (makes_local_alts [] l.alts))

makes_alts : (before : List Alt) (alts : List AltTree) → alts_by made before alts ≡ before ++ map made_alt alts
makes_alts before [] = sym (append-nil before)
makes_alts before (a ∷ alts) =
    makes_alts (last before (alt_of (terms_by made [] a.terms) (locals_by made [] a.locals))) alts
    ∙ moved before (alt_of (terms_by made [] a.terms) (locals_by made [] a.locals)) (made_alt a) (map made_alt alts)
    (ap₂ alt_of (makes_terms [] a.terms) (makes_locals [] a.locals))

pub makes_rules : (before : List Rule) (rs : List RuleTree) → rules_by made before rs ≡ before ++ map made_rule rs
makes_rules before [] = sym (append-nil before)
makes_rules before (r ∷ rs) =
    makes_rules (last before (rule_of r.head (alts_by made [] r.alts))) rs
    ∙ moved before (rule_of r.head (alts_by made [] r.alts)) (made_rule r) (map made_rule rs) (ap (rule_of r.head) (makes_alts [] r.alts))
