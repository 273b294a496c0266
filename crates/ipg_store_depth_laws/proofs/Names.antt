-- Names resolved: an expression nests no deeper than it is written, which is 64 deep at most.
use Rattle.std.proofs.Common.{◌≡◌, ℕ, suc, ◌+◌, ◌≤◌, Bool, true, false, cond, List, [], ◌∷◌, ◌++◌, map, length, Option, Some, None, refl, sym, ap, subst, arith}
use Rattle.std.specs.Prelude.{if◌then◌else◌, max}
use Rattle.std.specs.List.{AllByRecursion}
use Rattle.ipg_ast.specs.declared.grammar.Grammar as written
use Rattle.ipg_ast.specs.declared.grammar.Rule.{Rule, out-Rule}
use Rattle.ipg_ast.specs.declared.grammar.Alt.{Alt, out-Alt}
use Rattle.ipg_ast.specs.declared.grammar.Term.{Term}
use Rattle.ipg_ast.specs.declared.grammar.Term.TheVariants as term
use Rattle.ipg_ast.specs.declared.grammar.Case.{Case}
use Rattle.ipg_ast.specs.declared.grammar.Slot.{Slot}
use Rattle.ipg_ast.specs.declared.grammar.Place.{Place}
use Rattle.ipg_ast.specs.declared.grammar.Place.TheVariants as place
use Rattle.ipg_ast.specs.declared.grammar.Expr.{Expr, roll-Expr, map-Expr}
use Rattle.ipg_ast.specs.declared.grammar.Expr.TheOpen.{Expr-F}
use Rattle.ipg_ast.specs.declared.grammar.Expr.TheFolds.{ind-Expr, fold-roll-Expr}
use Rattle.ipg_ast.specs.Shape.{Form, form_step, form_of, IsFormedExpr, IsFormedPlace, IsFormedSlot, IsFormedCase, IsFormedTerm, IsFormedTerms}
use Rattle.ipg_ast.specs.Shape.{IsFormedLocalAlt, IsFormedLocal, IsFormedAlt, IsFormedRule, IsFormed}
use Rattle.ipg_core.specs.declared.grammar.Sym.{Sym}
use Rattle.ipg_core.specs.declared.grammar.CoreField.{CoreField}
use Rattle.ipg_core.specs.declared.grammar.CoreExpr.{CoreExpr}
use Rattle.ipg_core.specs.declared.grammar.CoreExpr.TheOpen.{CoreExpr-F}
use Rattle.ipg_core.specs.declared.grammar.CoreExpr.TheVariants as core
use Rattle.ipg_names.specs.declared.named.NamedPlace.{NamedPlace}
use Rattle.ipg_names.specs.declared.named.NamedPlace.TheVariants as named_place
use Rattle.ipg_names.specs.declared.named.NamedSlot.{NamedSlot}
use Rattle.ipg_names.specs.declared.named.NamedTerm.{NamedTerm}
use Rattle.ipg_names.specs.declared.named.NamedTerm.TheVariants as named
use Rattle.ipg_names.specs.declared.named.NamedAlt.{NamedAlt}
use Rattle.ipg_names.specs.declared.named.NamedRule.{NamedRule}
use Rattle.ipg_names_scope.specs.Scope.{Scope, attr_number, is_var, inside}
use Rattle.ipg_names_scope.specs.Roster.{ListedRule, alts_of, local, locals_from, family_of, roster_from, roster_of}
use Rattle.ipg_names_scope.specs.Names.{attr_names}
use Rattle.ipg_names.specs.Resolved.{symbol, field_in, name_in, seen_at, item_at, resolved_step, expr_in, place_in, slot_in, case_in, term_in, terms_from}
use Rattle.ipg_names.specs.Resolved.{alt_scopes, alts_from, rules_from, names_of}
use Rattle.ipg_store_body.specs.Fits.{NestsWithin}
use Rattle.ipg_store_depth_laws.proofs.Nesting.{deeper, above, all_more}

-- ---- expressions

if_nests : (b : Bool) (n : ℕ) (x y : CoreExpr) → NestsWithin n x → NestsWithin n y → NestsWithin n (if b then x else y)
if_nests true n x y h k = h
if_nests false n x y h k = k

module _ (scope : Scope) where
  abbrev IsShallow : Expr → Type 0
  IsShallow e = NestsWithin (form_of e).depth (expr_in scope e)

  abbrev Child : Type 0
  Child = (e : Expr) × IsShallow e

  abbrev whole : Child → Expr
  whole c = c.0

  rolled : (x : Expr-F Expr) → NestsWithin (form_step (map-Expr Expr Form form_of x)).depth (resolved_step scope (map-Expr Expr CoreExpr (expr_in scope) x))
      → IsShallow (roll-Expr x)
  rolled x h =
      subst (λ n. NestsWithin n (expr_in scope (roll-Expr x))) (ap (λ (form : Form). form.depth) (sym (fold-roll-Expr Form form_step x)))
      (subst (NestsWithin (form_step (map-Expr Expr Form form_of x)).depth) (sym (fold-roll-Expr CoreExpr (resolved_step scope) x)) h)

  name_nests : (name : List ℕ) → NestsWithin 1 (name_in scope name)
  name_nests name =
      let attr = attr_number scope name in
      if_nests (scope.own name) 1 (core.Own attr) _ (above 0 1 (CoreExpr-F.Own attr) (core.rolls-Own attr) (omega arith) tt)
      (if_nests (is_var scope.var name) 1 core.Loop _ (above 0 1 CoreExpr-F.Loop core.rolls-Loop (omega arith) tt)
      (if_nests (scope.outer name) 1 (core.Outer attr) core.Eoi (above 0 1 (CoreExpr-F.Outer attr) (core.rolls-Outer attr) (omega arith) tt)
      (above 0 1 CoreExpr-F.Eoi core.rolls-Eoi (omega arith) tt)))

  seen_nests : (at : Option ℕ) (s : Sym) (f : CoreField) → NestsWithin 1 (seen_at at s f)
  seen_nests None s f = above 0 1 CoreExpr-F.Eoi core.rolls-Eoi (omega arith) tt
  seen_nests (Some u) s f = above 0 1 (CoreExpr-F.Seen u s f) (core.rolls-Seen u s f) (omega arith) tt

  item_nests : (at : Option ℕ) (n : ℕ) (index : CoreExpr) (f : CoreField) → NestsWithin n index → NestsWithin (n + 1) (item_at at index f)
  item_nests None n index f h = above 0 (n + 1) CoreExpr-F.Eoi core.rolls-Eoi (omega arith) tt
  item_nests (Some u) n index f h = above n (n + 1) (CoreExpr-F.Item u index f) (core.rolls-Item u index f) (omega arith) h

  -- two parts, each at most as deep as the greater
  pair : (a b : Expr) (n : ℕ) → (form_of a).depth ≤ n → (form_of b).depth ≤ n → IsShallow a → IsShallow b
      → NestsWithin n (expr_in scope a) × NestsWithin n (expr_in scope b)
  pair a b n le_a le_b h k = (deeper (form_of a).depth n (expr_in scope a) le_a h, deeper (form_of b).depth n (expr_in scope b) le_b k)

  layer : (y : Expr-F Child) → IsShallow (roll-Expr (map-Expr Child Expr whole y))
  layer (Expr-F.Num n) = rolled (Expr-F.Num n) (above 0 1 (CoreExpr-F.Num n) (core.rolls-Num n) (omega arith) tt)
  layer Expr-F.Eoi = rolled Expr-F.Eoi (above 0 1 CoreExpr-F.Eoi core.rolls-Eoi (omega arith) tt)
  layer (Expr-F.Id i) = rolled (Expr-F.Id i) (name_nests i.name)
  layer (Expr-F.Part i f) = rolled (Expr-F.Part i f) (seen_nests (scope.call i.name) (symbol scope i.name) (field_in scope f))
  layer (Expr-F.Item i c f) = rolled (Expr-F.Item i c.0 f) (item_nests (scope.items i.name) (form_of c.0).depth (expr_in scope c.0) (field_in scope f) c.1)
  layer (Expr-F.Group c) = rolled (Expr-F.Group c.0) (deeper (form_of c.0).depth ((form_of c.0).depth + 1) (expr_in scope c.0) (omega arith) c.1)
  layer (Expr-F.Neg c) = rolled (Expr-F.Neg c.0) (above (form_of c.0).depth ((form_of c.0).depth + 1) (CoreExpr-F.Neg (expr_in scope c.0))
      (core.rolls-Neg (expr_in scope c.0)) (omega arith) c.1)
  layer (Expr-F.Not c) = rolled (Expr-F.Not c.0) (above (form_of c.0).depth ((form_of c.0).depth + 1) (CoreExpr-F.Not (expr_in scope c.0))
      (core.rolls-Not (expr_in scope c.0)) (omega arith) c.1)
  layer (Expr-F.Two o a b) =
      let n = max (form_of a.0).depth (form_of b.0).depth in
      rolled (Expr-F.Two o a.0 b.0)
      (above n (n + 1) (CoreExpr-F.Two o (expr_in scope a.0) (expr_in scope b.0)) (core.rolls-Two o (expr_in scope a.0) (expr_in scope b.0))
      (omega arith) (pair a.0 b.0 n (omega arith) (omega arith) a.1 b.1))
  layer (Expr-F.Both a b) =
      let n = max (form_of a.0).depth (form_of b.0).depth in
      rolled (Expr-F.Both a.0 b.0)
      (above n (n + 1) (CoreExpr-F.Both (expr_in scope a.0) (expr_in scope b.0)) (core.rolls-Both (expr_in scope a.0) (expr_in scope b.0))
      (omega arith) (pair a.0 b.0 n (omega arith) (omega arith) a.1 b.1))
  layer (Expr-F.Either a b) =
      let n = max (form_of a.0).depth (form_of b.0).depth in
      rolled (Expr-F.Either a.0 b.0)
      (above n (n + 1) (CoreExpr-F.Either (expr_in scope a.0) (expr_in scope b.0)) (core.rolls-Either (expr_in scope a.0) (expr_in scope b.0))
      (omega arith) (pair a.0 b.0 n (omega arith) (omega arith) a.1 b.1))
  layer (Expr-F.Cond c a b) =
      let m = max (form_of a.0).depth (form_of b.0).depth in
      let n = max (form_of c.0).depth m in
      rolled (Expr-F.Cond c.0 a.0 b.0)
      (above n (n + 1) (CoreExpr-F.Cond (expr_in scope c.0) (expr_in scope a.0) (expr_in scope b.0))
      (core.rolls-Cond (expr_in scope c.0) (expr_in scope a.0) (expr_in scope b.0)) (omega arith)
      (deeper (form_of c.0).depth n (expr_in scope c.0) (omega arith) c.1, pair a.0 b.0 n (omega arith) (omega arith) a.1 b.1))

  expr_shallow : (e : Expr) → IsShallow e
  expr_shallow = ind-Expr IsShallow (λ x y is. subst (λ z. IsShallow (roll-Expr z)) is (layer y))

  pub expr_nests : (e : Expr) → IsFormedExpr e → NestsWithin 64 (expr_in scope e)
  expr_nests e formed = let le = formed.depth in deeper (form_of e).depth 64 (expr_in scope e) le (expr_shallow e)

-- ---- terms

abbrev pub Short : CoreExpr → Type 0
Short = NestsWithin 64

abbrev pub PlaceNests : NamedPlace → Type 0
PlaceNests named_place.Open = Unit {0}
PlaceNests (named_place.Length e) = Short e
PlaceNests (named_place.Ends l r) = Short l × Short r

abbrev pub SlotNests : NamedSlot → Type 0
SlotNests slot = PlaceNests slot.place

abbrev pub CaseNests : CoreExpr × NamedSlot → Type 0
CaseNests c = Short c.0 × SlotNests c.1

abbrev pub TermNests : NamedTerm → Type 0
TermNests (named.Slot slot) = SlotNests slot
TermNests (named.Set attr value) = Short value
TermNests (named.Test cond) = Short cond
TermNests (named.Repeat first last item from to) = Short first × (Short last × (Short from × Short to))
TermNests (named.Many item place) = PlaceNests place
TermNests (named.Pick cases other) = AllByRecursion CaseNests cases × SlotNests other

pub record AltNests (alt : NamedAlt) : Type 0 where
  pub few : length alt.terms ≤ 256
  pub each : AllByRecursion TermNests alt.terms

abbrev pub RuleNests : NamedRule → Type 0
RuleNests rule = AllByRecursion AltNests rule.alts

place_nests : (scope : Scope) (p : Place) → IsFormedPlace p → PlaceNests (place_in scope p)
place_nests scope place.Open h = tt
place_nests scope (place.Length e) h = expr_nests scope e h
place_nests scope (place.Ends l r) h = (expr_nests scope l h.0, expr_nests scope r h.1)

slot_nests : (scope : Scope) (s : Slot) → IsFormedSlot s → SlotNests (slot_in scope s)
slot_nests scope s h = place_nests scope s.place h

cases_nest : (scope : Scope) (cs : List Case) → AllByRecursion IsFormedCase cs → AllByRecursion CaseNests (map (case_in scope) cs)
cases_nest scope [] h = tt
cases_nest scope (c ∷ cs) h = ((expr_nests scope c.cond h.0.0, slot_nests scope c.slot h.0.1), cases_nest scope cs h.1)

term_nests : (scope : Scope) (t : Term) → IsFormedTerm t → TermNests (term_in scope t)
term_nests scope (term.Slot s) h = slot_nests scope s h
term_nests scope (term.Set name value) h = expr_nests scope value h
term_nests scope (term.Test at cond) h = expr_nests scope cond h
term_nests scope (term.Repeat var first last item from to) h =
    let own = inside scope var.name item.name in
    (expr_nests scope first h.0, (expr_nests scope last h.1, (expr_nests own from h.2, expr_nests own to h.3)))
term_nests scope (term.Many at item place) h = place_nests scope place h
term_nests scope (term.Pick at cases other) h = (cases_nest scope cases h.1, slot_nests scope other h.2)

terms_nest : (scopes : ℕ → Scope) (u : ℕ) (ts : List Term) → AllByRecursion IsFormedTerm ts → AllByRecursion TermNests (terms_from scopes u ts)
terms_nest scopes u [] h = tt
terms_nest scopes u (t ∷ ts) h = (term_nests (scopes u) t h.0, terms_nest scopes (u + 1) ts h.1)

as_many : (scopes : ℕ → Scope) (u : ℕ) (ts : List Term) → length (terms_from scopes u ts) ≡ length ts
as_many scopes u [] = refl
as_many scopes u (t ∷ ts) = ap suc (as_many scopes (u + 1) ts)

-- ---- alternatives and rules

abbrev HasFormedTerms : Alt → Type 0
HasFormedTerms alt = IsFormedTerms (out-Alt alt).terms

abbrev IsFormedEntry : ListedRule → Type 0
IsFormedEntry entry = AllByRecursion HasFormedTerms (alts_of entry)

alts_nest : (roster : List ListedRule) (names : List (List ℕ)) (entry : ListedRule) (r a : ℕ) (alts : List Alt) → AllByRecursion HasFormedTerms alts
    → AllByRecursion AltNests (alts_from roster names entry r a alts)
alts_nest roster names entry r a [] h = tt
alts_nest roster names entry r a (alt ∷ alts) h =
    let scopes = alt_scopes roster names entry (r, a) alt in
    let terms = (out-Alt alt).terms in
    let most = h.0.count.1 in
    let many = as_many scopes 0 terms in (
      record { few = omega arith; each = terms_nest scopes 0 terms h.0.each },
      alts_nest roster names entry r (a + 1) alts h.1,
    )

rules_nest : (roster : List ListedRule) (names : List (List ℕ)) (r : ℕ) (entries : List ListedRule) → AllByRecursion IsFormedEntry entries
    → AllByRecursion RuleNests (rules_from roster names r entries)
rules_nest roster names r [] h = tt
rules_nest roster names r (entry ∷ entries) h = (alts_nest roster names entry r 0 (alts_of entry) h.0, rules_nest roster names (r + 1) entries h.1)

-- ---- the rules of a text

all_append : {X : Type 0} (P : X → Type 0) (xs ys : List X) → AllByRecursion P xs → AllByRecursion P ys → AllByRecursion P (xs ++ ys)
all_append P [] ys h k = k
all_append P (x ∷ xs) ys h k = (h.0, all_append P xs ys h.1 k)

one_local : (r a : ℕ) (alt : Alt) (rules : List Rule) → AllByRecursion IsFormedLocal rules → AllByRecursion IsFormedEntry (map (local r a alt) rules)
one_local r a alt [] h = tt
one_local r a alt (rule ∷ rules) h =
    (all_more IsFormedLocalAlt HasFormedTerms (out-Rule rule).alts (λ own is. is.terms) h.0.each, one_local r a alt rules h.1)

locals : (r a : ℕ) (alts : List Alt) → AllByRecursion IsFormedAlt alts → AllByRecursion IsFormedEntry (locals_from r a alts)
locals r a [] h = tt
locals r a (alt ∷ alts) h =
    all_append IsFormedEntry (map (local r a alt) (out-Alt alt).locals) (locals_from r (a + 1) alts) (one_local r a alt (out-Alt alt).locals h.0.locals)
    (locals r (a + 1) alts h.1)

family : (r : ℕ) (rule : Rule) → IsFormedRule rule → AllByRecursion IsFormedEntry (family_of r rule)
family r rule h = (all_more IsFormedAlt HasFormedTerms (out-Rule rule).alts (λ alt is. is.terms) h.each, locals r 0 (out-Rule rule).alts h.each)

rosters : (r : ℕ) (rules : List Rule) → AllByRecursion IsFormedRule rules → AllByRecursion IsFormedEntry (roster_from r rules)
rosters r [] h = tt
rosters r (rule ∷ rules) h =
    all_append IsFormedEntry (family_of r rule) (roster_from (r + length (family_of r rule)) rules) (family r rule h.0)
    (rosters (r + length (family_of r rule)) rules h.1)

pub named_nest : (g : written.Grammar) → IsFormed g → AllByRecursion RuleNests (names_of g).rules
named_nest g h = rules_nest (roster_of g) (attr_names g) 0 (roster_of g) (rosters 0 g.rules h.each)
