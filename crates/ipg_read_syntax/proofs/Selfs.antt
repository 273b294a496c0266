-- By the actions that make trees, a tree makes itself.
use Rattle.std.proofs.Common.{◌≡◌, List, [], ◌∷◌, ◌++◌, refl, ap, ap₂, ◌∙◌, sym, append_assoc, append-nil}
use Rattle.ipg_read_syntax.specs.Written.{ExprTree, num, eoi, own, part, item, group, neg, isnt, two, choose, PlaceTree, anywhere, long, ends}
use Rattle.ipg_read_syntax.specs.Written.{SlotTree, CaseTree}
use Rattle.ipg_read_syntax.specs.Written.{TermTree, slot_term, set_term, test_term, repeat_term, many_term, pick_term, LocalTree, AltTree, RuleTree}
use Rattle.ipg_read_syntax.specs.Making.{trees, last, expr_by, place_by, slot_by, cases_by, term_by, terms_by, local_alts_by, locals_by, alts_by, rules_by}

self_expr : (e : ExprTree) → expr_by trees e ≡ e
self_expr (num z) = refl
self_expr eoi = refl
self_expr (own i) = refl
self_expr (part i f) = refl
self_expr (item i e f) = ap (λ x. item i x f) (self_expr e)
self_expr (group e) = ap group (self_expr e)
self_expr (neg e) = ap neg (self_expr e)
self_expr (isnt e) = ap isnt (self_expr e)
self_expr (two i a b) = ap₂ (two i) (self_expr a) (self_expr b)
self_expr (choose c at a b) = ap (λ x. choose x at (expr_by trees a) (expr_by trees b)) (self_expr c) ∙ ap₂ (choose c at) (self_expr a) (self_expr b)

self_place : (p : PlaceTree) → place_by trees p ≡ p
self_place anywhere = refl
self_place (long e) = ap long (self_expr e)
self_place (ends l r) = ap₂ ends (self_expr l) (self_expr r)

self_slot : (s : SlotTree) → slot_by trees s ≡ s
self_slot s = ap (λ p. record { what = s.what; span = s.span; place = p }) (self_place s.place)

-- one member more, then the others
pub moved : {A : Type 0} (before : List A) (x y : A) (rest : List A) → x ≡ y → last before x ++ rest ≡ before ++ (y ∷ rest)
moved before x y rest same = append_assoc before (x ∷ []) rest ∙ ap (λ z. before ++ (z ∷ rest)) same

self_cases : (before cs : List CaseTree) → cases_by trees before cs ≡ before ++ cs
self_cases before [] = sym (append-nil before)
self_cases before (c ∷ cs) =
    self_cases (last before (record { test = expr_by trees c.test; slot = slot_by trees c.slot })) cs
    ∙ moved before (record { test = expr_by trees c.test; slot = slot_by trees c.slot }) c cs
    (ap (λ e. record { test = e; slot = slot_by trees c.slot }) (self_expr c.test) ∙ ap (λ s. record { test = c.test; slot = s }) (self_slot c.slot))

self_term : (t : TermTree) → term_by trees t ≡ t
self_term (slot_term s) = ap slot_term (self_slot s)
self_term (set_term x e) = ap (set_term x) (self_expr e)
self_term (test_term at e) = ap (test_term at) (self_expr e)
self_term (repeat_term x a b i l r) =
    ap₂ (λ c d. repeat_term x c d i (expr_by trees l) (expr_by trees r)) (self_expr a) (self_expr b)
    ∙ ap₂ (λ c d. repeat_term x a b i c d) (self_expr l) (self_expr r)
self_term (many_term at i p) = ap (many_term at i) (self_place p)
self_term (pick_term at cs s) = ap₂ (pick_term at) (self_cases [] cs) (self_slot s)

self_terms : (before ts : List TermTree) → terms_by trees before ts ≡ before ++ ts
self_terms before [] = sym (append-nil before)
self_terms before (t ∷ ts) = self_terms (last before (term_by trees t)) ts ∙ moved before (term_by trees t) t ts (self_term t)

self_local_alts : (before las : List (List TermTree)) → local_alts_by trees before las ≡ before ++ las
self_local_alts before [] = sym (append-nil before)
self_local_alts before (ts ∷ las) = self_local_alts (last before (terms_by trees [] ts)) las ∙ moved before (terms_by trees [] ts) ts las (self_terms [] ts)

self_locals : (before ls : List LocalTree) → locals_by trees before ls ≡ before ++ ls
self_locals before [] = sym (append-nil before)
self_locals before (l ∷ ls) =
    self_locals (last before (record { head = l.head; alts = local_alts_by trees [] l.alts })) ls
    ∙ moved before (record { head = l.head; alts = local_alts_by trees [] l.alts }) l ls
    (ap (λ las. record { head = l.head; alts = las }) (self_local_alts [] l.alts))

self_alts : (before alts : List AltTree) → alts_by trees before alts ≡ before ++ alts
self_alts before [] = sym (append-nil before)
self_alts before (a ∷ alts) =
    self_alts (last before (record { terms = terms_by trees [] a.terms; locals = locals_by trees [] a.locals })) alts
    ∙ moved before (record { terms = terms_by trees [] a.terms; locals = locals_by trees [] a.locals }) a alts
    (ap (λ ts. record { terms = ts; locals = locals_by trees [] a.locals }) (self_terms [] a.terms)
    ∙ ap (λ ls. record { terms = a.terms; locals = ls }) (self_locals [] a.locals))

pub self_rules : (before rs : List RuleTree) → rules_by trees before rs ≡ before ++ rs
self_rules before [] = sym (append-nil before)
self_rules before (r ∷ rs) =
    self_rules (last before (record { head = r.head; alts = alts_by trees [] r.alts })) rs
    ∙ moved before (record { head = r.head; alts = alts_by trees [] r.alts }) r rs (ap (λ alts. record { head = r.head; alts = alts }) (self_alts [] r.alts))
