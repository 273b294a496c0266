-- What a text reads as within the limits is well formed.
use Rattle.std.proofs.lemmas.List.{length-map}
use Rattle.std.proofs.Common.{◌≡◌, ℕ, ◌+◌, ◌≤◌, ◌<◌, Bool, true, false, cond, ◌&&◌, nat_le, List, [], ◌∷◌, ◌++◌, length, Some, None, refl, ap, ◌∙◌, map}
use Rattle.std.proofs.Common.{sym, subst, arith, lit≤, le_refl}
use Rattle.std.proofs.lemmas.Bool.{le-leb, ltb-false, and_from}
use Rattle.std.proofs.lemmas.List.Sums.{sum_by_from}
use Rattle.std.proofs.lemmas.Option.{none-some}
use Rattle.std.specs.List.{AllByRecursion}
use Rattle.ipg_ast.specs.declared.grammar.Alt.{out-roll-Alt}
use Rattle.ipg_ast.specs.declared.grammar.Rule.{out-Rule, out-roll-Rule}
use Rattle.ipg_ast.specs.Shape.{Form, stands, IsFilled, IsFormedExpr, IsFormedPlace, IsFormedCase, IsFormedTerm, IsFormedTerms, IsFormedLocalAlt}
use Rattle.ipg_ast.specs.Shape.{IsFormedLocal, IsFormedAlt, IsFormedRule, IsFormed, rules_in, tool_rules}
use Rattle.ipg_read_syntax.specs.Classes.{level}
use Rattle.ipg_read_syntax.specs.Levels.{level_high}
use Rattle.ipg_read_syntax.specs.Written.{ExprTree, num, eoi, own, part, item, group, neg, isnt, two, choose, PlaceTree, anywhere, long, ends, CaseTree}
use Rattle.ipg_read_syntax.specs.Written.{TermTree, slot_term, set_term, test_term, repeat_term, many_term, pick_term, LocalTree, AltTree, RuleTree}
use Rattle.ipg_read_syntax.specs.Written.{spell_expr, spell_case, spell_cases, spell_term, spell_terms, spell_local, spell_alt, spell_rule, Stands}
use Rattle.ipg_read_syntax.specs.Written.{prefix_level, Each, SomeEach, PlaceFits, CaseFits, TermFits, TermsFit, LocalFits, AltFits, RuleFits, Fits}
use Rattle.ipg_read_syntax.specs.Limits.{Size, past, depth, is_over, first_over, expr_size, place_sizes, slot_sizes, case_sizes, cases_sizes, term_sizes}
use Rattle.ipg_read_syntax.specs.Limits.{terms_sizes, local_alts_sizes, locals_sizes, alt_sizes, alts_sizes, locals_in, rules_sizes, sizes}
use Rattle.ipg_read_canonical_laws.specs.Laws.{ReadsFormed}
use Rattle.ipg_read_canonical_laws.proofs.Forms.{Within, form_tree, form_made, depth_form, rule_counted}
use Rattle.ipg_read_syntax.specs.Grammars.{made_expr, made_place, made_case, made_term}
use Rattle.ipg_read_syntax.specs.Grammars.{made_local_alt, made_local, made_alt, made_rule, grammar_of}

-- ---- sizes

none_within : (zs : List Size) → first_over zs ≡ None → Within zs
none_within [] none = tt
none_within (z ∷ zs) none = go (is_over z) refl none (none_within zs)
  where
    go : (b : Bool) → is_over z ≡ b → cond b (Some (record { which = z.which; at = z.at })) (first_over zs) ≡ None
        → (first_over zs ≡ None → Within zs) → Within (z ∷ zs)
    go true is over rest = absurd (none-some (record { which = z.which; at = z.at }) (sym over))
    go false is over rest = (is, rest over)

within_left : (xs ys : List Size) → Within (xs ++ ys) → Within xs
within_left [] ys within = tt
within_left (x ∷ xs) ys within = (within.0, within_left xs ys within.1)

within_right : (xs ys : List Size) → Within (xs ++ ys) → Within ys
within_right [] ys within = within
within_right (x ∷ xs) ys within = within_right xs ys within.1

-- ---- expressions

-- the level of a form, and that its operands fit
record Standing (l : ℕ) (f : Form) : Type 0 where
  level : nat_le l f.level ≡ true
  fits : f.fits ≡ true

both : (l : ℕ) (f : Form) → Standing l f → stands l f ≡ true
both l f s = and_from (nat_le l f.level) f.fits s.level s.fits

tree_stands : (e : ExprTree) (l : ℕ) → l ≤ prefix_level → Stands l e → Standing l (form_tree e)
tree_stands (num z) l high stand = record { level = le-leb l 11 (omega arith); fits = refl }
tree_stands eoi l high stand = record { level = le-leb l 11 (omega arith); fits = refl }
tree_stands (own i) l high stand = record { level = le-leb l 11 (omega arith); fits = refl }
tree_stands (part i f) l high stand = record { level = le-leb l 11 (omega arith); fits = refl }
tree_stands (item i e f) l high stand = record { level = le-leb l 11 (omega arith); fits = (tree_stands e 0 (lit≤ tt) stand).fits }
tree_stands (group e) l high stand = record { level = le-leb l 11 (omega arith); fits = (tree_stands e 0 (lit≤ tt) stand).fits }
tree_stands (neg e) l high stand = record {
  level = le-leb l prefix_level stand.0;
  fits = both prefix_level (form_tree e) (tree_stands e prefix_level (le_refl prefix_level) stand.1);
}
tree_stands (isnt e) l high stand = record {
  level = le-leb l prefix_level stand.0;
  fits = both prefix_level (form_tree e) (tree_stands e prefix_level (le_refl prefix_level) stand.1);
}
tree_stands (two i a b) l high stand =
    let low : level i < prefix_level = level_high i in
    record {
      level = le-leb l (level i) stand.0;
      fits = and_from (stands (level i) (form_tree a)) (stands (level i + 1) (form_tree b))
          (both (level i) (form_tree a) (tree_stands a (level i) (omega arith) stand.1))
          (both (level i + 1) (form_tree b) (tree_stands b (level i + 1) (omega arith) stand.2));
    }
tree_stands (choose c at a b) l high stand = record {
  level = le-leb l 0 stand.0;
  fits = and_from (stands 1 (form_tree c)) ((form_tree a).fits && (form_tree b).fits)
      (both 1 (form_tree c) (tree_stands c 1 (lit≤ tt) stand.1))
      (and_from (form_tree a).fits (form_tree b).fits (tree_stands a 0 (lit≤ tt) stand.2).fits (tree_stands b 0 (lit≤ tt) stand.3).fits);
}

formed_expr : (e : ExprTree) (at : ℕ) → Stands 0 e → Within (expr_size at e ∷ []) → IsFormedExpr (made_expr e)
formed_expr e at stand within = record {
  fits = ap (λ f. f.fits) (form_made e) ∙ (tree_stands e 0 (lit≤ tt) stand).fits;
  depth = subst (λ n. n ≤ 64) (sym (ap (λ f. f.depth) (form_made e) ∙ depth_form e)) (ltb-false 64 (depth e) within.0);
}

-- ---- places, slots, terms

formed_place : (p : PlaceTree) (at : ℕ) → PlaceFits p → Within (place_sizes at p) → IsFormedPlace (made_place p)
formed_place anywhere at fits within = tt
formed_place (long e) at fits within = formed_expr e (at + 1) fits within
formed_place (ends l r) at fits within =
    (formed_expr l (at + 1) fits.0 (within.0, tt), formed_expr r (past (at + 1) (spell_expr l) + 1) fits.1 within.1)

formed_case : (c : CaseTree) (at : ℕ) → CaseFits c → Within (case_sizes at c) → IsFormedCase (made_case c)
formed_case c at fits within =
    (formed_expr c.test (at + 1 + 1) fits.0 (within.0, tt), formed_place c.slot.place (past (at + 1 + 1) (spell_expr c.test) + 1 + 1) fits.1 within.1)

formed_cases : (cs : List CaseTree) (at : ℕ) → Each CaseFits cs → Within (cases_sizes at cs) → AllByRecursion IsFormedCase (map made_case cs)
formed_cases [] at fits within = tt
formed_cases (c ∷ cs) at fits within =
    let rest : List Size = cases_sizes (past at (spell_case c)) cs in (
      formed_case c at fits.0 (within_left (case_sizes at c) rest within),
      formed_cases cs (past at (spell_case c)) fits.1
          (within_right (case_sizes at c) rest within),
    )

-- one at least
filled : {X Y : Type 0} (f : X → Y) (P : X → Type 0) (xs : List X) → SomeEach P xs → 0 < length (map f xs)
filled f P [] some = absurd some
filled f P (x ∷ xs) some = omega arith

all_each : {X : Type 0} (P : X → Type 0) (xs : List X) → SomeEach P xs → Each P xs
all_each P [] some = absurd some
all_each P (x ∷ xs) some = some

formed_term : (t : TermTree) (at : ℕ) → TermFits t → Within (term_sizes at t) → IsFormedTerm (made_term t)
formed_term (slot_term s) at fits within = formed_place s.place (at + 1) fits within
formed_term (set_term x e) at fits within = formed_expr e (at + 1 + 1 + 1) fits within
formed_term (test_term span e) at fits within = formed_expr e (at + 1 + 1) fits within
formed_term (repeat_term x a b i l r) at fits within =
    let from : ℕ = at + 1 + 1 + 1 in
    let second : ℕ = past from (spell_expr a) + 1 in
    let third : ℕ = past second (spell_expr b) + 1 + 1 in (
      formed_expr a from fits.0 (within.0, tt),
      formed_expr b second fits.1 (within.1.0, tt),
      formed_expr l (third + 1) fits.2 (within.1.1.0, tt),
      formed_expr r (past (third + 1) (spell_expr l) + 1) fits.3 within.1.1.1,
    )
formed_term (many_term span i p) at fits within = formed_place p (at + 1 + 1) fits within
formed_term (pick_term span cs s) at fits within =
    let mid : ℕ = past (at + 1 + 1) (spell_cases cs) + 1 in
    let first : List Size = cases_sizes (at + 1 + 1) cs in (
      filled made_case CaseFits cs fits.0,
      formed_cases cs (at + 1 + 1) (all_each CaseFits cs fits.0) (within_left first (slot_sizes mid s) within),
      formed_place s.place (mid + 1) fits.1 (within_right first (slot_sizes mid s) within),
    )

formed_terms : (n at : ℕ) (ts : List TermTree) → n ≤ 256 → Each TermFits ts → Within (terms_sizes n at ts)
    → AllByRecursion IsFormedTerm (map made_term ts) × (n + length ts ≤ 256)
formed_terms n at [] few fits within = (tt, omega (arith, few))
formed_terms n at (t ∷ ts) few fits within =
    let next : ℕ = past at (spell_term t) in
    let rest : List Size = terms_sizes (n + 1) next ts in
    let others = formed_terms (n + 1) next ts (ltb-false 256 (n + 1) within.0) fits.1 (within_right (term_sizes at t) rest within.1) in
    ((formed_term t at fits.0 (within_left (term_sizes at t) rest within.1), others.0), omega (arith, others.1))

all_formed_terms : (at : ℕ) (ts : List TermTree) → TermsFit ts → Within (terms_sizes 0 at ts) → IsFormedTerms (map made_term ts)
all_formed_terms at ts fits within =
    let all = formed_terms 0 at ts (lit≤ tt) (all_each TermFits ts fits) within in
    record { count = (filled made_term TermFits ts fits, omega (arith, all.1, length-map ts made_term)); each = all.0 }

formed_local_alts : (n at : ℕ) (las : List (List TermTree)) → n ≤ 64 → Each TermsFit las → Within (local_alts_sizes n at las)
    → AllByRecursion IsFormedLocalAlt (map made_local_alt las) × (n + length las ≤ 64)
formed_local_alts n at [] few fits within = (tt, omega (arith, few))
formed_local_alts n at (ts ∷ las) few fits within =
    let next : ℕ = past (at + 1) (spell_terms ts) in
    let rest : List Size = local_alts_sizes (n + 1) next las in
    let shown = sym (out-roll-Alt (record { terms = map made_term ts; locals = [] })) in
    let others = formed_local_alts (n + 1) next las (ltb-false 64 (n + 1) within.0) fits.1 (within_right (terms_sizes 0 (at + 1) ts) rest within.1) in (
      (
        record {
          terms = subst IsFormedTerms (ap (λ a. a.terms) shown) (all_formed_terms (at + 1) ts fits.0 (within_left (terms_sizes 0 (at + 1) ts) rest within.1));
          no_locals = ap (λ a. a.locals) (sym shown);
        },
        others.0,
      ),
      omega (arith, others.1),
    )

formed_local : (l : LocalTree) (at : ℕ) → LocalFits l → Within (local_alts_sizes 0 (at + 1) l.alts) → IsFormedLocal (made_local l)
formed_local l at fits within =
    let shown : map made_local_alt l.alts ≡ (out-Rule (made_local l)).alts =
    ap (λ r. r.alts) (sym (out-roll-Rule (record { name = l.head; alts = map made_local_alt l.alts }))) in
    let all = formed_local_alts 0 (at + 1) l.alts (lit≤ tt) (all_each TermsFit l.alts fits) within in
    let count : IsFilled 64 (map made_local_alt l.alts) =
    (filled made_local_alt TermsFit l.alts fits, omega (arith, all.1, length-map l.alts made_local_alt)) in
    record { count = subst (IsFilled 64) shown count; each = subst (AllByRecursion IsFormedLocalAlt) shown all.0 }

formed_locals : (k at : ℕ) (ls : List LocalTree) → k ≤ 1024 → Each LocalFits ls → Within (locals_sizes k at ls)
    → AllByRecursion IsFormedLocal (map made_local ls) × (k + length ls ≤ 1024)
formed_locals k at [] few fits within = (tt, omega (arith, few))
formed_locals k at (l ∷ ls) few fits within =
    let next : ℕ = past at (spell_local l) in
    let first : List Size = local_alts_sizes 0 (at + 1) l.alts in
    let rest : List Size = locals_sizes (k + 1) next ls in
    let others = formed_locals (k + 1) next ls (ltb-false 1024 (k + 1) within.0) fits.1 (within_right first rest within.1) in
    ((formed_local l at fits.0 (within_left first rest within.1), others.0), omega (arith, others.1))

formed_alt : (k at : ℕ) (a : AltTree) → k ≤ 1024 → AltFits a → Within (alt_sizes k at a) → IsFormedAlt (made_alt a) × (k + length a.locals ≤ 1024)
formed_alt k at a few fits within =
    let shown = sym (out-roll-Alt (record { terms = map made_term a.terms; locals = map made_local a.locals })) in
    let from : ℕ = past at (spell_terms a.terms) + 1 + 1 in
    let first : List Size = terms_sizes 0 at a.terms in
    let rest : List Size = locals_sizes k from a.locals in
    let locals = formed_locals k from a.locals few fits.1 (within_right first rest within) in (
      record {
        terms = subst IsFormedTerms (ap (λ x. x.terms) shown) (all_formed_terms at a.terms fits.0 (within_left first rest within));
        locals = subst (AllByRecursion IsFormedLocal) (ap (λ x. x.locals) shown) locals.0;
      },
      locals.1,
    )

formed_alts : (k n at : ℕ) (alts : List AltTree) → k ≤ 1024 → n ≤ 64 → Each AltFits alts → Within (alts_sizes k n at alts)
    → AllByRecursion IsFormedAlt (map made_alt alts) × (n + length alts ≤ 64) × (k + locals_in alts ≤ 1024)
formed_alts k n at [] few short fits within = (tt, omega (arith, short), omega (arith, few))
formed_alts k n at (a ∷ alts) few short fits within =
    let next : ℕ = past (at + 1) (spell_alt a) in
    let first : List Size = alt_sizes k (at + 1) a in
    let rest : List Size = alts_sizes (k + length a.locals) (n + 1) next alts in
    let one = formed_alt k (at + 1) a few fits.0 (within_left first rest within.1) in
    let others = formed_alts (k + length a.locals) (n + 1) next alts one.1 (ltb-false 64 (n + 1) within.0) fits.1 (within_right first rest within.1) in
    ((one.0, others.0), omega (arith, others.1), omega (arith, others.2))

formed_rules : (k at : ℕ) (rs : List RuleTree) → k ≤ 1024 → Each RuleFits rs → Within (rules_sizes k at rs)
    → AllByRecursion IsFormedRule (map made_rule rs) × (k + tool_rules (map made_rule rs) ≤ 1024)
formed_rules k at [] few fits within = (tt, omega (arith, few))
formed_rules k at (r ∷ rs) few fits within =
    let next : ℕ = past at (spell_rule r) in
    let first : List Size = alts_sizes (k + 1) 0 (at + 1) r.alts in
    let rest : List Size = rules_sizes (k + 1 + locals_in r.alts) next rs in
    let counted : tool_rules (map made_rule (r ∷ rs)) ≡ 0 + (locals_in r.alts + 1) + tool_rules (map made_rule rs) =
    sum_by_from rules_in (0 + rules_in (made_rule r)) (map made_rule rs) ∙ ap (λ n. 0 + n + tool_rules (map made_rule rs)) (rule_counted r) in
    let shown : map made_alt r.alts ≡ (out-Rule (made_rule r)).alts =
    ap (λ x. x.alts) (sym (out-roll-Rule (record { name = r.head; alts = map made_alt r.alts }))) in
    let alts = formed_alts (k + 1) 0 (at + 1) r.alts (ltb-false 1024 (k + 1) within.0) (lit≤ tt) (all_each AltFits r.alts fits.0)
    (within_left first rest within.1) in
    let count : IsFilled 64 (map made_alt r.alts) = (filled made_alt AltFits r.alts fits.0, omega (arith, alts.1, length-map r.alts made_alt)) in
    let others = formed_rules (k + 1 + locals_in r.alts) next rs alts.2 fits.1 (within_right first rest within.1) in
    ((record { count = subst (IsFilled 64) shown count; each = subst (AllByRecursion IsFormedAlt) shown alts.0 }, others.0), omega (arith, others.1, counted))

formed_tree : (rs : List RuleTree) → Fits rs → first_over (sizes rs) ≡ None → IsFormed (grammar_of rs)
formed_tree rs fits none =
    let all = formed_rules 0 0 rs (lit≤ tt) (all_each RuleFits rs fits) (none_within (sizes rs) none) in
    record { some = filled made_rule RuleFits rs fits; count = omega (arith, all.1); each = all.0 }

pub reads_formed : ReadsFormed
reads_formed text g r = subst IsFormed (sym r.is) (formed_tree r.tree r.reads.fits r.within)
