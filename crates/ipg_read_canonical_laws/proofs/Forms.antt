-- The trees of well formed grammars fit, and pass no limit.
use Rattle.std.proofs.lemmas.List.{length-map}
use Rattle.std.proofs.Common.{◌≡◌, ℕ, ◌+◌, ◌≤◌, ◌<◌, max, true, false, cond, ◌&&◌, nat_le, List, [], ◌∷◌, ◌++◌, length, Some, None, refl, ap, map}
use Rattle.std.proofs.Common.{ap₂, ◌∙◌, sym, subst, arith, sum_by}
use Rattle.std.proofs.lemmas.Bool.{leb-true, le-leb, le-ltb, and_parts}
use Rattle.std.specs.List.{AllByRecursion}
use Rattle.std.proofs.lemmas.List.Sums.{sum_by_from}
use Rattle.ipg_num.specs.declared.op.Op2.{Op2}
use Rattle.ipg_num.specs.declared.op.Op2.TheVariants.{Add, Sub, Mul, Div, Mod, Shl, Shr, BitAnd, BitOr, BitXor, Eq, Ne, Lt, Le, Gt, Ge}
use Rattle.ipg_ast.specs.declared.grammar.Expr.{Expr}
use Rattle.ipg_ast.specs.declared.grammar.Expr.TheOpen.{Expr-F}
use Rattle.ipg_ast.specs.declared.grammar.Expr.TheFolds.{fold-roll-Expr}
use Rattle.ipg_ast.specs.declared.grammar.Expr.TheVariants.{rolls-Item, rolls-Group, rolls-Neg, rolls-Not}
use Rattle.ipg_ast.specs.declared.grammar.Alt.{out-roll-Alt}
use Rattle.ipg_ast.specs.declared.grammar.Rule.{out-Rule, out-roll-Rule}
use Rattle.ipg_ast.specs.Shape.{Form, alone, stands, prefixed, infixed, form_step, form_of, level_of, IsFilled, IsFormedExpr, IsFormedPlace}
use Rattle.ipg_ast.specs.Shape.{IsFormedSlot, IsFormedCase, IsFormedTerm, IsFormedTerms, IsFormedLocalAlt, IsFormedLocal, IsFormedAlt, IsFormedRule}
use Rattle.ipg_ast.specs.Shape.{IsFormed, rules_in, tool_rules}
use Rattle.ipg_ast.specs.Shape
use Rattle.ipg_read_syntax.specs.Classes.{Infix, either, both, op, level, op_level}
use Rattle.ipg_read_syntax.specs.Written.{ExprTree, num, eoi, own, part, item, group, neg, isnt, two, choose, PlaceTree, anywhere, long, ends, CaseTree}
use Rattle.ipg_read_syntax.specs.Written.{TermTree, slot_term, set_term, test_term, repeat_term, many_term, pick_term, LocalTree, AltTree, RuleTree}
use Rattle.ipg_read_syntax.specs.Written.{spell_expr, spell_case, spell_cases, spell_term, spell_terms, spell_local, spell_alt, spell_rule, Stands}
use Rattle.ipg_read_syntax.specs.Written.{prefix_level, Each, SomeEach, PlaceFits, CaseFits, TermFits, TermsFit, LocalFits, AltFits, RuleFits, Fits}
use Rattle.ipg_read_syntax.specs.Limits.{Size, past, depth, is_over, first_over, expr_size, place_sizes, slot_sizes, case_sizes, cases_sizes, term_sizes}
use Rattle.ipg_read_syntax.specs.Limits.{terms_sizes, local_alts_sizes, locals_sizes, alt_sizes, alts_sizes, locals_in, rules_sizes, sizes}
use Rattle.ipg_read_syntax.specs.Grammars.{infix_expr, made_expr, made_place, made_case, made_term}
use Rattle.ipg_read_syntax.specs.Grammars.{made_local_alt, made_local, made_alt, made_rule, grammar_of}
use Rattle.ipg_ast.specs.Folds.{at_both, at_cond, at_either, at_eoi, at_id, at_num, at_part, at_two}

-- ---- expressions

abbrev pub form_tree : ExprTree → Form
form_tree (num z) = alone 1 true
form_tree eoi = alone 1 true
form_tree (own i) = alone 1 true
form_tree (part i f) = alone 1 true
form_tree (item i e f) = alone ((form_tree e).depth + 1) (form_tree e).fits
form_tree (group e) = alone ((form_tree e).depth + 1) (form_tree e).fits
form_tree (neg e) = prefixed (form_tree e)
form_tree (isnt e) = prefixed (form_tree e)
form_tree (two i a b) = infixed (level i) (form_tree a) (form_tree b)
form_tree (choose c at a b) = record {
  level = 0;
  depth = max (form_tree c).depth (max (form_tree a).depth (form_tree b).depth) + 1;
  fits = stands 1 (form_tree c) && ((form_tree a).fits && (form_tree b).fits);
}

same_level : (o : Op2) → level_of o ≡ op_level o
same_level Add = refl
same_level Sub = refl
same_level Mul = refl
same_level Div = refl
same_level Mod = refl
same_level Shl = refl
same_level Shr = refl
same_level BitAnd = refl
same_level BitOr = refl
same_level BitXor = refl
same_level Eq = refl
same_level Ne = refl
same_level Lt = refl
same_level Le = refl
same_level Gt = refl
same_level Ge = refl

infix_form : (i : Infix) (x y : Expr) → form_of (infix_expr i x y) ≡ infixed (level i) (form_of x) (form_of y)
infix_form either x y = at_either form_step x y
infix_form both x y = at_both form_step x y
infix_form (op o) x y =
    at_two form_step o x y ∙ ap (λ l. infixed l (form_of x) (form_of y)) (same_level o)

pub form_made : (e : ExprTree) → form_of (made_expr e) ≡ form_tree e
form_made (num z) = at_num form_step z
form_made eoi = at_eoi form_step
form_made (own i) = at_id form_step i
form_made (part i f) = at_part form_step i f
form_made (item i e f) =
    ap form_of (sym (rolls-Item i (made_expr e) f)) ∙ fold-roll-Expr Form form_step (Expr-F.Item i (made_expr e) f)
    ∙ ap (λ x. alone (x.depth + 1) x.fits) (form_made e)
form_made (group e) =
    ap form_of (sym (rolls-Group (made_expr e))) ∙ fold-roll-Expr Form form_step (Expr-F.Group (made_expr e))
    ∙ ap (λ x. alone (x.depth + 1) x.fits) (form_made e)
form_made (neg e) = ap form_of (sym (rolls-Neg (made_expr e))) ∙ fold-roll-Expr Form form_step (Expr-F.Neg (made_expr e)) ∙ ap prefixed (form_made e)
form_made (isnt e) = ap form_of (sym (rolls-Not (made_expr e))) ∙ fold-roll-Expr Form form_step (Expr-F.Not (made_expr e)) ∙ ap prefixed (form_made e)
form_made (two i a b) = infix_form i (made_expr a) (made_expr b) ∙ ap₂ (infixed (level i)) (form_made a) (form_made b)
form_made (choose c at a b) =
    let w : Expr = made_expr c in
    let x : Expr = made_expr a in
    let y : Expr = made_expr b in
    at_cond form_step w x y
    ∙ ap (λ f. record {
      level = 0;
      depth = max f.depth (max (form_of x).depth (form_of y).depth) + 1;
      fits = stands 1 f && ((form_of x).fits && (form_of y).fits);
    }) (form_made c)
    ∙ ap₂ (λ f g. record {
      level = 0;
      depth = max (form_tree c).depth (max f.depth g.depth) + 1;
      fits = stands 1 (form_tree c) && (f.fits && g.fits);
    }) (form_made a) (form_made b)

pub depth_form : (e : ExprTree) → (form_tree e).depth ≡ depth e
depth_form (num z) = refl
depth_form eoi = refl
depth_form (own i) = refl
depth_form (part i f) = refl
depth_form (item i e f) = ap (λ n. n + 1) (depth_form e)
depth_form (group e) = ap (λ n. n + 1) (depth_form e)
depth_form (neg e) = ap (λ n. n + 1) (depth_form e)
depth_form (isnt e) = ap (λ n. n + 1) (depth_form e)
depth_form (two i a b) = ap₂ (λ m n. max m n + 1) (depth_form a) (depth_form b)
depth_form (choose c at a b) = ap₂ (λ k m. max k m + 1) (depth_form c) (ap₂ max (depth_form a) (depth_form b))

pub any_level : (n : ℕ) → nat_le 0 n ≡ true
any_level n = le-leb 0 n (omega arith)

form_stands : (e : ExprTree) (l : ℕ) → nat_le l (form_tree e).level ≡ true → (form_tree e).fits ≡ true → Stands l e
form_stands (num z) l due fits = tt
form_stands eoi l due fits = tt
form_stands (own i) l due fits = tt
form_stands (part i f) l due fits = tt
form_stands (item i e f) l due fits = form_stands e 0 (any_level (form_tree e).level) fits
form_stands (group e) l due fits = form_stands e 0 (any_level (form_tree e).level) fits
form_stands (neg e) l due fits =
    let parts = and_parts (nat_le prefix_level (form_tree e).level) (form_tree e).fits fits in
    (leb-true l prefix_level due, form_stands e prefix_level parts.0 parts.1)
form_stands (isnt e) l due fits =
    let parts = and_parts (nat_le prefix_level (form_tree e).level) (form_tree e).fits fits in
    (leb-true l prefix_level due, form_stands e prefix_level parts.0 parts.1)
form_stands (two i a b) l due fits =
    let sides = and_parts (stands (level i) (form_tree a)) (stands (level i + 1) (form_tree b)) fits in
    let left = and_parts (nat_le (level i) (form_tree a).level) (form_tree a).fits sides.0 in
    let right = and_parts (nat_le (level i + 1) (form_tree b).level) (form_tree b).fits sides.1 in
    (leb-true l (level i) due, form_stands a (level i) left.0 left.1, form_stands b (level i + 1) right.0 right.1)
form_stands (choose c at a b) l due fits =
    let sides = and_parts (stands 1 (form_tree c)) ((form_tree a).fits && (form_tree b).fits) fits in
    let first = and_parts (nat_le 1 (form_tree c).level) (form_tree c).fits sides.0 in
    let others = and_parts (form_tree a).fits (form_tree b).fits sides.1 in (
      leb-true l 0 due,
      form_stands c 1 first.0 first.1,
      form_stands a 0 (any_level (form_tree a).level) others.0,
      form_stands b 0 (any_level (form_tree b).level) others.1,
    )

-- ---- sizes within their limits

abbrev pub Within : List Size → Type 0
Within zs = AllByRecursion (λ z. is_over z ≡ false) zs

within_append : (xs ys : List Size) → Within xs → Within ys → Within (xs ++ ys)
within_append [] ys first rest = rest
within_append (x ∷ xs) ys first rest = (first.0, within_append xs ys first.1 rest)

within_first : (zs : List Size) → Within zs → first_over zs ≡ None
within_first [] within = refl
within_first (z ∷ zs) within =
    ap (λ b. cond b (Some (record { which = z.which; at = z.at })) (first_over zs)) within.0 ∙ within_first zs within.1

expr_formed : (e : ExprTree) (at : ℕ) → IsFormedExpr (made_expr e) → Stands 0 e × Within (expr_size at e ∷ [])
expr_formed e at formed =
    let shallow : depth e ≤ 64 = subst (λ n. n ≤ 64) (ap (λ f. f.depth) (form_made e) ∙ depth_form e) formed.depth in
    (form_stands e 0 (any_level (form_tree e).level) (ap (λ f. f.fits) (sym (form_made e)) ∙ formed.fits), (le-ltb 64 (depth e) shallow, tt))

place_formed : (p : PlaceTree) (at : ℕ) → IsFormedPlace (made_place p) → PlaceFits p × Within (place_sizes at p)
place_formed anywhere at formed = (tt, tt)
place_formed (long e) at formed = expr_formed e (at + 1) formed
place_formed (ends l r) at formed =
    let first = expr_formed l (at + 1) formed.0 in
    let second = expr_formed r (past (at + 1) (spell_expr l) + 1) formed.1 in
    ((first.0, second.0), (first.1.0, second.1))

case_formed : (c : CaseTree) (at : ℕ) → IsFormedCase (made_case c) → CaseFits c × Within (case_sizes at c)
case_formed c at formed =
    let test = expr_formed c.test (at + 1 + 1) formed.0 in
    let slot = place_formed c.slot.place (past (at + 1 + 1) (spell_expr c.test) + 1 + 1) formed.1 in
    ((test.0, slot.0), (test.1.0, slot.1))

cases_formed : (cs : List CaseTree) (at : ℕ) → AllByRecursion IsFormedCase (map made_case cs) → Each CaseFits cs × Within (cases_sizes at cs)
cases_formed [] at formed = (tt, tt)
cases_formed (c ∷ cs) at formed =
    let first = case_formed c at formed.0 in
    let rest = cases_formed cs (past at (spell_case c)) formed.1 in
    ((first.0, rest.0), within_append (case_sizes at c) (cases_sizes (past at (spell_case c)) cs) first.1 rest.1)

-- one at least
some_from : {X Y : Type 0} (f : X → Y) (P : X → Type 0) (xs : List X) → 0 < length (map f xs) → Each P xs → SomeEach P xs
some_from f P [] some each = absurd (let no : ⊥ = omega (arith, some) in no)
some_from f P (x ∷ xs) some each = each

term_formed : (t : TermTree) (at : ℕ) → IsFormedTerm (made_term t) → TermFits t × Within (term_sizes at t)
term_formed (slot_term s) at formed = place_formed s.place (at + 1) formed
term_formed (set_term x e) at formed = expr_formed e (at + 1 + 1 + 1) formed
term_formed (test_term span e) at formed = expr_formed e (at + 1 + 1) formed
term_formed (repeat_term x a b i l r) at formed =
    let from : ℕ = at + 1 + 1 + 1 in
    let second : ℕ = past from (spell_expr a) + 1 in
    let third : ℕ = past second (spell_expr b) + 1 + 1 in
    let fa = expr_formed a from formed.0 in
    let fb = expr_formed b second formed.1 in
    let fl = expr_formed l (third + 1) formed.2 in
    let fr = expr_formed r (past (third + 1) (spell_expr l) + 1) formed.3 in
    ((fa.0, fb.0, fl.0, fr.0), (fa.1.0, (fb.1.0, (fl.1.0, fr.1))))
term_formed (many_term span i p) at formed = place_formed p (at + 1 + 1) formed
term_formed (pick_term span cs s) at formed =
    let mid : ℕ = past (at + 1 + 1) (spell_cases cs) + 1 in
    let cases = cases_formed cs (at + 1 + 1) formed.1 in
    let slot = place_formed s.place (mid + 1) formed.2 in
    ((some_from made_case CaseFits cs formed.0 cases.0, slot.0), within_append (cases_sizes (at + 1 + 1) cs) (slot_sizes mid s) cases.1 slot.1)

terms_formed : (n at : ℕ) (ts : List TermTree) → AllByRecursion IsFormedTerm (map made_term ts) → n + length ts ≤ 256
    → Each TermFits ts × Within (terms_sizes n at ts)
terms_formed n at [] formed few = (tt, tt)
terms_formed n at (t ∷ ts) formed few =
    let next : ℕ = past at (spell_term t) in
    let first = term_formed t at formed.0 in
    let fewer : n + 1 + length ts ≤ 256 = omega (arith, few) in
    let rest = terms_formed (n + 1) next ts formed.1 fewer in
    ((first.0, rest.0), (le-ltb 256 (n + 1) (omega (arith, fewer)), within_append (term_sizes at t) (terms_sizes (n + 1) next ts) first.1 rest.1))

all_terms_formed : (at : ℕ) (ts : List TermTree) → IsFormedTerms (map made_term ts) → TermsFit ts × Within (terms_sizes 0 at ts)
all_terms_formed at ts formed =
    let few : 0 + length ts ≤ 256 = omega (arith, formed.count.1, length-map ts made_term) in
    let all = terms_formed 0 at ts formed.each few in
    (some_from made_term TermFits ts formed.count.0 all.0, all.1)

local_alts_formed : (n at : ℕ) (las : List (List TermTree)) → AllByRecursion IsFormedLocalAlt (map made_local_alt las) → n + length las ≤ 64
    → Each TermsFit las × Within (local_alts_sizes n at las)
local_alts_formed n at [] formed few = (tt, tt)
local_alts_formed n at (ts ∷ las) formed few =
    let next : ℕ = past (at + 1) (spell_terms ts) in
    let terms : IsFormedTerms (map made_term ts) =
    subst IsFormedTerms (ap (λ a. a.terms) (out-roll-Alt (record { terms = map made_term ts; locals = [] }))) formed.0.terms in
    let first = all_terms_formed (at + 1) ts terms in
    let fewer : n + 1 + length las ≤ 64 = omega (arith, few) in
    let rest = local_alts_formed (n + 1) next las formed.1 fewer in (
      (first.0, rest.0),
      (
        le-ltb 64 (n + 1) (omega (arith, fewer)),
        within_append (terms_sizes 0 (at + 1) ts) (local_alts_sizes (n + 1) next las)
            first.1 rest.1,
      ),
    )

local_formed : (l : LocalTree) (at : ℕ) → IsFormedLocal (made_local l) → LocalFits l × Within (local_alts_sizes 0 (at + 1) l.alts)
local_formed l at formed =
    let shown : (out-Rule (made_local l)).alts ≡ map made_local_alt l.alts =
    ap (λ r. r.alts) (out-roll-Rule (record { name = l.head; alts = map made_local_alt l.alts })) in
    let count : IsFilled 64 (map made_local_alt l.alts) = subst (IsFilled 64) shown formed.count in
    let few : 0 + length l.alts ≤ 64 = omega (arith, count.1, length-map l.alts made_local_alt) in
    let all = local_alts_formed 0 (at + 1) l.alts (subst (AllByRecursion IsFormedLocalAlt) shown formed.each) few in
    (some_from made_local_alt TermsFit l.alts count.0 all.0, all.1)

locals_formed : (k at : ℕ) (ls : List LocalTree) → AllByRecursion IsFormedLocal (map made_local ls) → k + length ls ≤ 1024
    → Each LocalFits ls × Within (locals_sizes k at ls)
locals_formed k at [] formed few = (tt, tt)
locals_formed k at (l ∷ ls) formed few =
    let next : ℕ = past at (spell_local l) in
    let first = local_formed l at formed.0 in
    let fewer : k + 1 + length ls ≤ 1024 = omega (arith, few) in
    let rest = locals_formed (k + 1) next ls formed.1 fewer in (
      (first.0, rest.0),
      (
        le-ltb 1024 (k + 1) (omega (arith, fewer)),
        within_append (local_alts_sizes 0 (at + 1) l.alts) (locals_sizes (k + 1) next ls)
            first.1 rest.1,
      ),
    )

alt_formed : (k at : ℕ) (a : AltTree) → IsFormedAlt (made_alt a) → k + length a.locals ≤ 1024 → AltFits a × Within (alt_sizes k at a)
alt_formed k at a formed few =
    let shown = out-roll-Alt (record { terms = map made_term a.terms; locals = map made_local a.locals }) in
    let from : ℕ = past at (spell_terms a.terms) + 1 + 1 in
    let terms = all_terms_formed at a.terms (subst IsFormedTerms (ap (λ x. x.terms) shown) formed.terms) in
    let locals = locals_formed k from a.locals (subst (AllByRecursion IsFormedLocal) (ap (λ x. x.locals) shown) formed.locals) few in
    ((terms.0, locals.0), within_append (terms_sizes 0 at a.terms) (locals_sizes k from a.locals) terms.1 locals.1)

alts_formed : (k n at : ℕ) (alts : List AltTree) → AllByRecursion IsFormedAlt (map made_alt alts) → n + length alts ≤ 64 → k + locals_in alts ≤ 1024
    → Each AltFits alts × Within (alts_sizes k n at alts)
alts_formed k n at [] formed few short = (tt, tt)
alts_formed k n at (a ∷ alts) formed few short =
    let next : ℕ = past (at + 1) (spell_alt a) in
    let first = alt_formed k (at + 1) a formed.0 (omega (arith, short)) in
    let fewer : n + 1 + length alts ≤ 64 = omega (arith, few) in
    let shorter : k + length a.locals + locals_in alts ≤ 1024 = omega (arith, short) in
    let rest = alts_formed (k + length a.locals) (n + 1) next alts formed.1 fewer shorter in (
      (first.0, rest.0),
      (
        le-ltb 64 (n + 1) (omega (arith, fewer)),
        within_append (alt_sizes k (at + 1) a) (alts_sizes (k + length a.locals) (n + 1) next alts) first.1 rest.1,
      ),
    )

-- ---- rules counted

locals_counted : (alts : List AltTree) → sum_by Shape.locals_in (map made_alt alts) ≡ locals_in alts
locals_counted [] = refl
locals_counted (a ∷ alts) =
    sum_by_from Shape.locals_in (0 + Shape.locals_in (made_alt a)) (map made_alt alts)
    ∙ ap₂ (λ m n. 0 + m + n)
    (ap (λ x. length x.locals) (out-roll-Alt (record { terms = map made_term a.terms; locals = map made_local a.locals }))
    ∙ length-map a.locals made_local)
    (locals_counted alts)
    ∙ (let none : 0 + length a.locals + locals_in alts ≡ length a.locals + locals_in alts = omega arith in none)

pub rule_counted : (r : RuleTree) → rules_in (made_rule r) ≡ locals_in r.alts + 1
rule_counted r =
    ap (λ x. sum_by Shape.locals_in x.alts + 1) (out-roll-Rule (record { name = r.head; alts = map made_alt r.alts }))
    ∙ ap (λ n. n + 1) (locals_counted r.alts)

rules_formed : (k at : ℕ) (rs : List RuleTree) → AllByRecursion IsFormedRule (map made_rule rs) → k + tool_rules (map made_rule rs) ≤ 1024
    → Each RuleFits rs × Within (rules_sizes k at rs)
rules_formed k at [] formed few = (tt, tt)
rules_formed k at (r ∷ rs) formed few =
    let next : ℕ = past at (spell_rule r) in
    let counted : tool_rules (map made_rule (r ∷ rs)) ≡ 0 + (locals_in r.alts + 1) + tool_rules (map made_rule rs) =
    sum_by_from rules_in (0 + rules_in (made_rule r)) (map made_rule rs) ∙ ap (λ n. 0 + n + tool_rules (map made_rule rs)) (rule_counted r) in
    let shown : (out-Rule (made_rule r)).alts ≡ map made_alt r.alts =
    ap (λ x. x.alts) (out-roll-Rule (record { name = r.head; alts = map made_alt r.alts })) in
    let count : IsFilled 64 (map made_alt r.alts) = subst (IsFilled 64) shown formed.0.count in
    let alts = alts_formed (k + 1) 0 (at + 1) r.alts (subst (AllByRecursion IsFormedAlt) shown formed.0.each)
    (omega (arith, count.1, length-map r.alts made_alt)) (omega (arith, few, counted)) in
    let rest = rules_formed (k + 1 + locals_in r.alts) next rs formed.1 (omega (arith, few, counted)) in (
      (some_from made_alt AltFits r.alts count.0 alts.0, rest.0),
      (
        le-ltb 1024 (k + 1) (omega (arith, few, counted)),
        within_append (alts_sizes (k + 1) 0 (at + 1) r.alts)
            (rules_sizes (k + 1 + locals_in r.alts) next rs) alts.1 rest.1,
      ),
    )

-- a well formed grammar's tree fits, and passes no limit
pub formed_fits : (rs : List RuleTree) → IsFormed (grammar_of rs) → Fits rs × (first_over (sizes rs) ≡ None)
formed_fits rs formed =
    let few : 0 + tool_rules (map made_rule rs) ≤ 1024 = omega (arith, formed.count) in
    let all = rules_formed 0 0 rs formed.each few in
    (some_from made_rule RuleFits rs formed.some all.0, within_first (sizes rs) all.1)
