-- The terms of an alternative whose names have no fault are good.
use Rattle.std.proofs.Common.{◌≡◌, ℕ, zero, suc, ◌+◌, ◌<◌, Bool, true, false, ◌||◌, inl, inr, List, [], ◌∷◌, length, map, take, flat_map, Option}
use Rattle.std.proofs.Common.{Some, None, is_some, slice_get, refl, sym, ap, subst, ◌∙◌, cond, bytes_eq, nat_eq, nat_lt, arith, true≢false}
use Rattle.std.specs.List.{AllByRecursion, position_or_len}
use Rattle.std.proofs.lemmas.List.{length-map}
use Rattle.std.proofs.lemmas.Bool.{eqb-true, and_parts}
use Rattle.std.proofs.lemmas.Bool.Decides.{nat_tests}
use Rattle.ipg_ast.specs.declared.grammar.Ident.{Ident}
use Rattle.ipg_ast.specs.declared.grammar.Expr.{Expr}
use Rattle.ipg_ast.specs.declared.grammar.Case.{Case}
use Rattle.ipg_ast.specs.declared.grammar.Slot.{Slot}
use Rattle.ipg_ast.specs.declared.grammar.What.{What}
use Rattle.ipg_ast.specs.declared.grammar.What.TheVariants as what
use Rattle.ipg_ast.specs.declared.grammar.Term as written
use Rattle.ipg_ast.specs.declared.grammar.Term.TheVariants as term
use Rattle.ipg_core.specs.declared.grammar.Primitive.{Primitive}
use Rattle.ipg_core.specs.declared.grammar.Sym.{Sym}
use Rattle.ipg_core.specs.declared.grammar.Sym.TheVariants.{Text, Prim, Rule}
use Rattle.ipg_core.specs.declared.grammar.CoreExpr.{CoreExpr}
use Rattle.ipg_core.specs.declared.grammar.CoreTerm.{CoreTerm}
use Rattle.ipg_core.specs.declared.grammar.CoreTerm.TheVariants as core
use Rattle.ipg_core.specs.Grammar.{Grammar, rule_at, holder_of, same_place}
use Rattle.ipg_core.specs.Mention.{EachSym}
use Rattle.ipg_core.specs.Order.{Sets as SetsAt}
use Rattle.ipg_core.specs.Good.{SetsSome, HolderSets, HasItems, IsSlotOrSwitch, IsSym, MayCall, IsCallable, IsGoodMention, IsItemSym, IsGoodShape, GoodTerm}
use Rattle.ipg_names_scope.specs.declared.marks.Family.TheVariants.{Calls, Items, Sets}
use Rattle.ipg_names.specs.declared.fault.NameFault.TheVariants.{DuplicateAttr}
use Rattle.ipg_names_scope.specs.Roster.{ListedRule}
use Rattle.ipg_names_scope.specs.Terms.{has, sets}
use Rattle.ipg_core.specs.Lines.{primitive_of}
use Rattle.ipg_names_scope.specs.Scope.{Scope, home_of, is_visible, entry_visible, rule_named, rule_sym, sym_else, sym_named, scope_of}
use Rattle.ipg_names_scope.specs.Names.{NameList, term_names, terms_names}
use Rattle.ipg_names.specs.Resolved.{sym_or_empty, symbol, what_symbol, case_in, expr_in, term_in, terms_from, rule_in, rules_from}
use Rattle.ipg_names.specs.Faults.{rule_fault, what_fault, slot_faults, case_faults, place_faults, expr_faults}
use Rattle.ipg_names.specs.Faults.{ends_faults, set_fault, var_fault, when, term_faults, terms_faults}
use Rattle.ipg_names.specs.Bare.{bare, bare_term, bare_case, bare_rule}
use Rattle.ipg_names.proofs.Bytes.{same_bytes, bytes_same}
use Rattle.ipg_names.proofs.Families.{all_left, all_right}
use Rattle.ipg_names.proofs.Within.{IsIn, AllIn, number_below, number_apart}
use Rattle.ipg_names.proofs.Mentions.{IsSound, term_good, both_none, unless_none}
use Rattle.ipg_names.proofs.Found.{get_below, of_item, item_map, any_found, any_at, take_get, nearest_found, of_made, made_at, made_length, faultless_at}

-- ---- what terms have a name

or_false : (b : Bool) → (b || false) ≡ b
or_false true = refl
or_false false = refl

-- a term that sets the attribute
pub record SetTerm (name : List ℕ) (t : written.Term) : Type 0 where
  pub head : Ident
  pub value : Expr
  pub is : t ≡ term.Set head value
  pub same : name ≡ head.name

set_term : (name : List ℕ) (t : written.Term) → has Sets name t ≡ true → SetTerm name t
set_term name (term.Set head value) h = record {
  head = head;
  value = value;
  is = refl;
  same = same_bytes name head.name (sym (or_false
      (bytes_eq name head.name)) ∙ h);
}
set_term name (term.Slot s) h = absurd (true≢false (sym h))
set_term name (term.Test at cond) h = absurd (true≢false (sym h))
set_term name (term.Repeat var first last item from to) h = absurd (true≢false (sym h))
set_term name (term.Many at item place) h = absurd (true≢false (sym h))
set_term name (term.Pick at cases other) h = absurd (true≢false (sym h))

calls_term : (scope : Scope) (name : List ℕ) (t : written.Term) → has Calls name t ≡ true → IsSlotOrSwitch (Some (bare_term (term_in scope t)))
calls_term scope name (term.Slot s) h = tt
calls_term scope name (term.Pick at cases other) h = tt
calls_term scope name (term.Set head value) h = absurd (true≢false (sym h))
calls_term scope name (term.Test at cond) h = absurd (true≢false (sym h))
calls_term scope name (term.Repeat var first last item from to) h = absurd (true≢false (sym h))
calls_term scope name (term.Many at item place) h = absurd (true≢false (sym h))

items_term : (scope : Scope) (name : List ℕ) (t : written.Term) → has Items name t ≡ true → HasItems (Some (bare_term (term_in scope t)))
items_term scope name (term.Repeat var first last item from to) h = tt
items_term scope name (term.Many at item place) h = tt
items_term scope name (term.Slot s) h = absurd (true≢false (sym h))
items_term scope name (term.Pick at cases other) h = absurd (true≢false (sym h))
items_term scope name (term.Set head value) h = absurd (true≢false (sym h))
items_term scope name (term.Test at cond) h = absurd (true≢false (sym h))

-- ---- rules that are called

pub same_pair : (a b : ℕ × ℕ) → same_place a b ≡ true → a ≡ b
same_pair a b h =
    let e = and_parts (nat_eq a.0 b.0) (nat_eq a.1 b.1) h in
    let p : a.0 ≡ b.0 = eqb-true a.0 b.0 e.0 in
    let q : a.1 ≡ b.1 = eqb-true a.1 b.1 e.1 in
    λ i. (p i, q i)

module _ (roster : List ListedRule) (names : NameList) where
  abbrev pub whole : Grammar
  whole = bare (record { rules = rules_from roster names 0 roster; names = names })

  pub rule_there : (r : ℕ) (entry : ListedRule) → slice_get roster r ≡ Some entry → rule_at whole r ≡ Some (bare_rule (rule_in roster names r entry))
  rule_there r entry h =
      item_map bare_rule (rules_from roster names 0 roster) r (rule_in roster names (0 + r) entry) (made_at (rules_from roster names)
      (rule_in roster names) (λ n x xs. refl) (λ n. refl) 0 roster r entry h)
      ∙ ap (λ m. Some (bare_rule (rule_in roster names m entry))) (let e : 0 + r ≡ r = omega arith in e)

  pub rules_length : length (whole).rules ≡ length roster
  rules_length = length-map (rules_from roster names 0 roster) bare_rule
      ∙ made_length (rules_from roster names) (rule_in roster names) (λ n x xs. refl) (λ n. refl) 0 roster

  may_call : (at : ℕ × ℕ) (holder other : Option (ℕ × ℕ)) → is_visible (home_of at holder) other ≡ true → MayCall at holder other
  may_call at holder None h = tt
  may_call at None (Some o) h = inl (same_pair o at h)
  may_call at (Some p) (Some o) h = inr (ap Some (sym (same_pair o p h)))

  callable_rule : (at : ℕ × ℕ) (holder : Option (ℕ × ℕ)) (r : ℕ) → entry_visible (home_of at holder) (slice_get roster r) ≡ true
      → IsCallable whole at holder (Rule r)
  callable_rule at holder r h = by (slice_get roster r) refl h
    where
      by : (o : Option ListedRule) → slice_get roster r ≡ o → entry_visible (home_of at holder) o ≡ true → IsCallable whole at holder (Rule r)
      by None e k = absurd (true≢false (sym k))
      by (Some entry) e k = (
        omega (arith, rules_length, get_below roster r entry e),
        subst (λ o. MayCall at holder (holder_of o)) (sym (rule_there r entry e)) (may_call at holder entry.holder k),
      )

  -- what a name means may be parsed, and is no terminal
  pub callable : (at : ℕ × ℕ) (holder : Option (ℕ × ℕ)) (name : List ℕ) (s : Sym) → sym_named roster (home_of at holder) name ≡ Some s
      → IsCallable whole at holder s × IsItemSym s
  callable at holder name s h = by (primitive_of name) h
    where
      is : (t : Sym) → t ≡ s → IsCallable whole at holder t × IsItemSym t → IsCallable whole at holder s × IsItemSym s
      is t e k = subst (λ x. IsCallable whole at holder x × IsItemSym x) e k

      seen : (r : ℕ) (b : Bool) → entry_visible (home_of at holder) (slice_get roster r) ≡ b → cond b (Some (Rule r)) None ≡ Some s
          → IsCallable whole at holder s × IsItemSym s
      seen r true v e = is (Rule r) (let same : Rule r ≡ s = cc in same) (callable_rule at holder r v, tt)
      seen r false v e = absurd (cc)

      rule : (o : Option ℕ) → rule_sym roster (home_of at holder) o ≡ Some s → IsCallable whole at holder s × IsItemSym s
      rule None e = absurd (cc)
      rule (Some r) e = seen r (entry_visible (home_of at holder) (slice_get roster r)) refl e

      by : (o : Option Primitive) → sym_else o (rule_sym roster (home_of at holder) (rule_named roster name)) ≡ Some s
          → IsCallable whole at holder s × IsItemSym s
      by (Some prim) e = is (Prim prim) (let same : Prim prim ≡ s = cc in same) (tt, tt)
      by None e = rule (rule_named roster name) e

  -- the same of a symbol without a fault
  pub symbol_good : (at : ℕ × ℕ) (holder : Option (ℕ × ℕ)) (name : List ℕ) → is_some (sym_named roster (home_of at holder) name) ≡ true
      → IsCallable whole at holder (sym_or_empty (sym_named roster (home_of at holder) name)) × IsItemSym (sym_or_empty (sym_named roster
      (home_of at holder) name))
  symbol_good at holder name h = by (sym_named roster (home_of at holder) name) refl h
    where
      by : (o : Option Sym) → sym_named roster (home_of at holder) name ≡ o → is_some o ≡ true
          → IsCallable whole at holder (sym_or_empty o) × IsItemSym (sym_or_empty o)
      by None e k = absurd (true≢false (sym k))
      by (Some s) e k = callable at holder name s e

  -- ---- the terms of an alternative

  module _ (home : ℕ × ℕ) (outer ts : List written.Term) where
    abbrev pub scopes : ℕ → Scope
    scopes u = scope_of roster names home outer ts u

    abbrev pub bare_terms : List CoreTerm
    bare_terms = map bare_term (terms_from scopes 0 ts)

    pub term_there : (v : ℕ) (t : written.Term) → slice_get ts v ≡ Some t → slice_get bare_terms v ≡ Some (bare_term (term_in (scopes v) t))
    term_there v t h =
        item_map bare_term (terms_from scopes 0 ts) v (term_in (scopes (0 + v)) t) (made_at (terms_from scopes) (λ n x. term_in (scopes n) x)
        (λ n x xs. refl) (λ n. refl) 0 ts v t h)
        ∙ ap (λ m. Some (bare_term (term_in (scopes m) t))) (let e : 0 + v ≡ v = omega arith in e)

    -- an attribute that the text sets is set
    pub sets_some : (name : List ℕ) → sets ts name ≡ true → SetsSome bare_terms (position_or_len (bytes_eq name) names)
    sets_some name h =
        let w = any_found (has Sets name) ts h in
        let s = set_term name w.1.item w.1.passes in
        let there = term_there w.0 w.1.item w.1.is ∙ ap (λ t. Some (bare_term (term_in (scopes w.0) t))) s.is in (
          w.0,
          (
            expr_in (scopes w.0) s.value,
            there
                ∙ ap (λ n. Some (core.Set (position_or_len (bytes_eq n) names) (expr_in (scopes w.0) s.value))) (sym s.same),
          ),
        )

  -- ---- each term is good

  sym_is : (at : ℕ × ℕ) (holder : Option (ℕ × ℕ)) (s : Sym) → IsCallable whole at holder s → IsSym whole s
  sym_is at holder (Rule r) h = h.0
  sym_is at holder (Text bytes) h = tt
  sym_is at holder (Prim prim) h = tt

  -- the terms of the holder set what the text says
  abbrev pub OuterSets : Option (ℕ × ℕ) → List written.Term → Type 0
  OuterSets holder outer = (name : List ℕ) → sets outer name ≡ true → HolderSets whole holder (position_or_len (bytes_eq name) names)

  names_at : (ts : List written.Term) (u : ℕ) (t : written.Term) → AllIn names (terms_names ts) → slice_get ts u ≡ Some t → AllIn names (term_names t)
  names_at [] u t n h = absurd (cc)
  names_at (x ∷ ts) zero t n h = subst (λ y. AllIn names (term_names y)) (let same : x ≡ t = cc in same) (all_left (IsIn names) (term_names x)
      (terms_names ts) n)
  names_at (x ∷ ts) (suc u) t n h = names_at ts u t (all_right (IsIn names) (term_names x) (terms_names ts) n) h

  module _ (at : ℕ × ℕ) (holder : Option (ℕ × ℕ)) (outer ts : List written.Term) (out : OuterSets holder outer) where
    abbrev here : ℕ → Scope
    here u = scopes (home_of at holder) outer ts u

    abbrev those : List CoreTerm
    those = bare_terms (home_of at holder) outer ts

    sound : (u : ℕ) → IsSound (here u) (IsGoodMention whole holder those u)
    sound u = record {
      own = λ name h. sets_some (home_of at holder) outer ts name h;
      outer = λ name h. out name h;
      loop = tt;
      call = λ name v s e f.
          let w = nearest_found (has Calls name) ts u v e in (
            subst IsSlotOrSwitch (sym (term_there (home_of at holder) outer ts v w.item w.is)) (calls_term
                (here v) name w.item w.passes),
            sym_is at holder s (callable at holder name s f).0,
          );
      items = λ name v e.
          let w = nearest_found (has Items name) ts u v e in
          subst HasItems (sym (term_there (home_of at holder) outer ts v w.item w.is)) (items_term (here v) name w.item w.passes);
      field = λ name h. number_below names name h;
    }

    item_symbol : (u : ℕ) (name : List ℕ) (place : ℕ) → rule_fault (here u) name place ≡ []
        → IsCallable whole at holder (symbol (here u) name) × IsItemSym (symbol (here u) name)
    item_symbol u name place f = symbol_good at holder name (unless_none (is_some (sym_named roster (home_of at holder) name)) _ f)

    shape : (u : ℕ) (t : written.Term) → term_faults (here u) t ≡ [] → AllIn names (term_names t) → IsGoodShape whole (bare_term (term_in (here u) t))
    shape u (term.Slot s) f n = tt
    shape u (term.Set head value) f n = number_below names head.name n.0
    shape u (term.Test place cond) f n = tt
    shape u (term.Repeat var first last item from to) f n =
        let a = both_none (var_fault (here u) var) _ f in
        let b = both_none (ends_faults (here u) first last) _ a.1 in
        let c = both_none (rule_fault (here u) item.name item.span.from) _ b.1 in
        (item_symbol u item.name item.span.from c.0).1
    shape u (term.Many place item interval) f n = (item_symbol u item.name item.span.from (both_none (rule_fault (here u) item.name item.span.from)
        (place_faults (here u) interval) f).0).1
    shape u (term.Pick place cases other) f n = tt

    what_good : (u : ℕ) (w : What) (place : ℕ) → what_fault (here u) w place ≡ [] → IsCallable whole at holder (what_symbol (here u) w)
    what_good u (what.Text bytes) place f = tt
    what_good u (what.Call name) place f = (item_symbol u name place f).0

    slot_sym : (u : ℕ) (s : Slot) → slot_faults (here u) s ≡ [] → IsCallable whole at holder (what_symbol (here u) s.what)
    slot_sym u s f = what_good u s.what s.span.from (both_none (what_fault (here u) s.what s.span.from) (place_faults (here u) s.place) f).0

    cases_syms : (u : ℕ) (cs : List Case) → flat_map (case_faults (here u)) cs ≡ []
        → AllByRecursion (λ c. IsCallable whole at holder c.1.sym) (map bare_case (map (case_in (here u)) cs))
    cases_syms u [] f = tt
    cases_syms u (c ∷ cs) f =
        let none = both_none (case_faults (here u) c) (flat_map (case_faults (here u)) cs) f in
        (slot_sym u c.slot (both_none (expr_faults (here u) c.cond) (slot_faults (here u) c.slot) none.0).1, cases_syms u cs none.1)

    syms : (u : ℕ) (t : written.Term) → term_faults (here u) t ≡ [] → EachSym (IsCallable whole at holder) (bare_term (term_in (here u) t))
    syms u (term.Slot s) f = slot_sym u s f
    syms u (term.Set head value) f = tt
    syms u (term.Test place cond) f = tt
    syms u (term.Repeat var first last item from to) f =
        let a = both_none (var_fault (here u) var) _ f in
        let b = both_none (ends_faults (here u) first last) _ a.1 in
        let c = both_none (rule_fault (here u) item.name item.span.from) _ b.1 in
        (item_symbol u item.name item.span.from c.0).0
    syms u (term.Many place item interval) f = (item_symbol u item.name item.span.from (both_none (rule_fault (here u) item.name item.span.from)
        (place_faults (here u) interval) f).0).0
    syms u (term.Pick place cases other) f =
        let none = both_none (flat_map (case_faults (here u)) cases) (slot_faults (here u) other) f in
        (cases_syms u cases none.0, slot_sym u other none.1)

    good_term : (u : ℕ) (t : written.Term) → slice_get ts u ≡ Some t → term_faults (here u) t ≡ [] → AllIn names (term_names t)
        → GoodTerm whole at holder those u (bare_term (term_in (here u) t))
    good_term u t is f n = record {
      shape = shape u t f n;
      syms = syms u t f;
      mentions = term_good (here u) (IsGoodMention whole holder those u) (sound u) t (λ h. subst HasItems (sym (term_there
          (home_of at holder) outer ts u t is)) h) f n;
    }

    -- ---- no attribute is set twice

    pub record SetAt (u attr : ℕ) : Type 0 where
      pub head : Ident
      pub value : Expr
      pub is : slice_get ts u ≡ Some (term.Set head value)
      pub number : attr ≡ position_or_len (bytes_eq head.name) names

    set_inverse : (u attr : ℕ) (e : CoreExpr) (t : written.Term) → slice_get ts u ≡ Some t → core.Set attr e ≡ bare_term (term_in (here u) t) → SetAt u attr
    set_inverse u attr e (term.Set head value) is h = record { head = head; value = value; is = is; number = cc }
    set_inverse u attr e (term.Slot s) is h = absurd (cc)
    set_inverse u attr e (term.Test place cond) is h = absurd (cc)
    set_inverse u attr e (term.Repeat var first last item from to) is h = absurd (cc)
    set_inverse u attr e (term.Many place item interval) is h = absurd (cc)
    set_inverse u attr e (term.Pick place cases other) is h = absurd (cc)

    set_at : (u attr : ℕ) → SetsAt those u attr → SetAt u attr
    set_at u attr s =
        let w = of_item bare_term (terms_from here 0 ts) u (core.Set attr s.0) s.1 in
        let v = of_made (terms_from here) (λ n x. term_in (here n) x) (λ n x xs. refl) (λ n. refl) 0 ts u w.0 w.1 in
        set_inverse u attr s.0 v.0 v.1 (w.2 ∙ ap bare_term v.2 ∙ ap (λ m. bare_term (term_in (here m) v.0)) (let e : 0 + u ≡ u = omega arith in e))

    twice : (u v : ℕ) (attr : ℕ) → u < v → terms_faults here 0 ts ≡ [] → AllIn names (terms_names ts) → SetAt u attr → SetAt v attr → ⊥
    twice u v attr lt f n a b =
        let in_a = names_at ts u (term.Set a.head a.value) n a.is in
        let in_b = names_at ts v (term.Set b.head b.value) n b.is in
        let same = number_apart names b.head.name a.head.name in_b.0 in_a.0 (sym b.number ∙ a.number) in
        let none = ap (λ m. term_faults (here m) (term.Set b.head b.value)) (let e : v ≡ 0 + v = omega arith in e)
        ∙ faultless_at (terms_faults here) (λ k x. term_faults (here k) x) (λ k x xs. refl) 0 ts v (term.Set b.head b.value) f b.is in
        let before = any_at (has Sets b.head.name) (take v ts) u (term.Set a.head a.value) (take_get (has Sets b.head.name) v ts u
        (term.Set a.head a.value) lt a.is)
        (or_false (bytes_eq b.head.name a.head.name) ∙ ap (bytes_eq b.head.name) (sym same) ∙ bytes_same b.head.name) in
        told (sets (take v ts) b.head.name) before (both_none (set_fault (here v) b.head) (expr_faults (here v) b.value) none).0
      where
        told : (c : Bool) → c ≡ true → when c (DuplicateAttr b.head.span.from) ≡ [] → ⊥
        told true e h = cc
        told false e h = absurd (true≢false (sym e))

    once : (u v attr : ℕ) → terms_faults here 0 ts ≡ [] → AllIn names (terms_names ts) → SetAt u attr → SetAt v attr → u ≡ v
    once u v attr f n a b = by (nat_lt u v) (nat_lt v u) refl refl
      where
        by : (r s : Bool) → nat_lt u v ≡ r → nat_lt v u ≡ s → u ≡ v
        by true s e g = absurd (twice u v attr (grind (arith, nat_tests)) f n a b)
        by false true e g = absurd (twice v u attr (grind (arith, nat_tests)) f n b a)
        by false false e g = grind (arith, nat_tests)

    -- ---- the alternative

    pub terms_good : terms_faults here 0 ts ≡ [] → AllIn names (terms_names ts) → (u : ℕ) (x : CoreTerm) → slice_get those u ≡ Some x
        → GoodTerm whole at holder those u x
    terms_good f n u x h =
        let w = of_item bare_term (terms_from here 0 ts) u x h in
        let v = of_made (terms_from here) (λ n x. term_in (here n) x) (λ n x xs. refl) (λ n. refl) 0 ts u w.0 w.1 in
        let is : x ≡ bare_term (term_in (here u) v.0) = w.2 ∙ ap bare_term v.2
        ∙ ap (λ m. bare_term (term_in (here m) v.0)) (let e : 0 + u ≡ u = omega arith in e) in
        let none = ap (λ m. term_faults (here m) v.0) (let e : u ≡ 0 + u = omega arith in e)
        ∙ faultless_at (terms_faults here) (λ k x. term_faults (here k) x) (λ k x xs. refl) 0 ts u v.0 f v.1 in
        subst (GoodTerm whole at holder those u) (sym is) (good_term u v.0 v.1 none (names_at ts u v.0 n v.1))

    pub sets_once : terms_faults here 0 ts ≡ [] → AllIn names (terms_names ts) → (attr u v : ℕ) → SetsAt those u attr → SetsAt those v attr → u ≡ v
    sets_once f n attr u v a b = once u v attr f n (set_at u attr a) (set_at v attr b)
