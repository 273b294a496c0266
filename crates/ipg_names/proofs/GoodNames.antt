-- A text whose names have no fault resolves to a grammar that is good but for the order of its terms.
use Rattle.std.proofs.Common.{◌≡◌, ℕ, suc, ◌+◌, ◌<◌, ◌≤◌, List, [], ◌∷◌, ◌++◌, length, map, flat_map, Option, Some, None, slice_get}
use Rattle.std.proofs.Common.{refl, sym, ap, subst, ◌∙◌, bytes_eq, sum_by, arith, true≢false, append_assoc, length-append}
use Rattle.std.specs.List.{AllByRecursion, IsDistinct, position_or_len}
use Rattle.std.proofs.lemmas.List.{length-map}
use Rattle.std.proofs.lemmas.List.Sums.{sum_by-cons}
use Rattle.ipg_ast.specs.declared.grammar.Grammar as text
use Rattle.ipg_ast.specs.declared.grammar.Rule.{Rule, out-Rule}
use Rattle.ipg_ast.specs.declared.grammar.Alt.{Alt, out-Alt}
use Rattle.ipg_ast.specs.declared.grammar.Term as written
use Rattle.ipg_ast.specs.declared.grammar.Term.TheVariants as term
use Rattle.ipg_ast.specs.declared.grammar.Case.{Case}
use Rattle.ipg_ast.specs.Shape.{IsFilled, max_alts, max_terms}
use Rattle.ipg_core.specs.declared.grammar.CoreAlt.{CoreAlt}
use Rattle.ipg_core.specs.declared.grammar.CoreRule.{CoreRule}
use Rattle.ipg_core.specs.Grammar.{Grammar, rule_at, holder_of}
use Rattle.ipg_core.specs.Good.{AltAt, HolderSets, GoodAlt, GoodRule, IsGlobalAlt, slots_in, WellFormed}
use Rattle.ipg_names_scope.specs.Roster.{ListedRule, alts_of, global, local, locals_from, family_of, roster_from, roster_of}
use Rattle.ipg_names_scope.specs.Terms.{sets}
use Rattle.ipg_names_scope.specs.Scope.{Scope}
use Rattle.ipg_names_scope.specs.Names.{NameList, terms_names, local_alt_names, local_names, alt_names, rule_names, attr_names}
use Rattle.ipg_names.specs.Resolved.{terms_from, term_in, case_in, alt_scopes, alt_in, alts_from, rule_in, rules_from, names_of}
use Rattle.ipg_names.specs.Fault.{earlier, first_of}
use Rattle.ipg_names.specs.Faults.{Faults, alt_faults, alts_faults, rules_faults, head_faults, faults_of}
use Rattle.ipg_names.specs.Bare.{bare, bare_term, bare_case, bare_alt, bare_rule}
use Rattle.ipg_names.specs.Readable.{IsReadable, IsReadableRule, IsReadableAlt, IsReadableLocal, IsReadableLocalAlt}
use Rattle.ipg_names.specs.Readable.{case_count, term_count, local_alt_count, local_count, alt_count, rule_count}
use Rattle.ipg_names.specs.declared.fault.NameFault.{NameFault}
use Rattle.ipg_names_scope.specs.Laws.{RosterIsWhole}
use Rattle.ipg_names.proofs.Families.{all_append, all_left, all_right, all_of_all, all_map, HasFamily, HasLocals, roster_all}
use Rattle.ipg_names.proofs.Counts.{names_few}
use Rattle.ipg_names.proofs.Within.{IsIn, AllIn, once_has, once_distinct}
use Rattle.ipg_names.proofs.Mentions.{both_none}
use Rattle.ipg_names.proofs.Found.{of_item, item_map, all_get, of_made, made_at, made_length, faultless_at}
use Rattle.ipg_names.proofs.GoodTerms.{whole, rule_there, rules_length, OuterSets, sets_some, terms_good, sets_once}

-- ---- holders

-- the holder of that number, in which terms set attributes
pub record HolderAt (all : List ListedRule) (outer : List written.Term) (h : ℕ × ℕ) : Type 0 where
  pub rule : Rule
  pub alt : Alt
  pub is_rule : slice_get all h.0 ≡ Some (global rule)
  pub is_alt : slice_get (out-Rule rule).alts h.1 ≡ Some alt
  pub outer_is : outer ≡ (out-Alt alt).terms

pub record HasHolder (all : List ListedRule) (entry : ListedRule) : Type 0 where
  pub none : entry.holder ≡ None → entry.outer ≡ []
  pub some : (h : ℕ × ℕ) → entry.holder ≡ Some h → HolderAt all entry.outer h

get_append : (before rest : List ListedRule) (e : ListedRule) → slice_get (before ++ e ∷ rest) (length before) ≡ Some e
get_append [] rest e = refl
get_append (x ∷ before) rest e = get_append before rest e

held : (all : List ListedRule) (r a : ℕ) (rule : Rule) (alt : Alt) (l : Rule) → slice_get all r ≡ Some (global rule)
    → slice_get (out-Rule rule).alts a ≡ Some alt → HasHolder all (local r a alt l)
held all r a rule alt l is_rule is_alt = record {
  none = λ e. absurd (cc);
  some = λ h e. subst (HolderAt all (out-Alt alt).terms) (let same : (r, a) ≡ h = cc in same) (record {
    rule = rule;
    alt = alt;
    is_rule = is_rule;
    is_alt =
        is_alt;
    outer_is = refl;
  });
}

locals_held : (all : List ListedRule) (r : ℕ) (rule : Rule) → slice_get all r ≡ Some (global rule) → (a : ℕ) (alts : List Alt)
    → ((k : ℕ) (alt : Alt) → slice_get alts k ≡ Some alt → slice_get (out-Rule rule).alts (a + k) ≡ Some alt)
    → AllByRecursion (HasHolder all) (locals_from r a alts)
locals_held all r rule is a [] f = tt
locals_held all r rule is a (alt ∷ alts) f =
    let here : slice_get (out-Rule rule).alts a ≡ Some alt = ap (slice_get (out-Rule rule).alts) (let e : a ≡ a + 0 = omega arith in e) ∙ f 0 alt refl in
    all_append (HasHolder all) (map (local r a alt) (out-Alt alt).locals) (locals_from r (a + 1) alts)
    (all_map (HasHolder all) (local r a alt) (out-Alt alt).locals (each (out-Alt alt).locals (λ l. held all r a rule alt l is here)))
    (locals_held all r rule is (a + 1) alts (λ k x e. ap (slice_get (out-Rule rule).alts) (let s : a + 1 + k ≡ a + suc k = omega arith in s) ∙ f (suc k) x e))
  where
    each : {P : Rule → Type 0} (ls : List Rule) → ((l : Rule) → P l) → AllByRecursion P ls
    each [] g = tt
    each (l ∷ ls) g = (g l, each ls g)

roster_held : (all before : List ListedRule) (rules : List Rule) → before ++ roster_from (length before) rules ≡ all
    → AllByRecursion (HasHolder all) (roster_from (length before) rules)
roster_held all before [] h = tt
roster_held all before (rule ∷ rules) h =
    let r = length before in
    let family = family_of r rule in
    let rest = roster_from (r + length family) rules in
    let is : slice_get all r ≡ Some (global rule) = ap (λ es. slice_get es r) (sym h)
    ∙ get_append before (locals_from r 0 (out-Rule rule).alts ++ rest) (global rule) in
    let counted : length (before ++ family) ≡ r + length family = length-append before family in
    let next = roster_held all (before ++ family) rules (ap (λ n. (before ++ family) ++ roster_from n rules) counted ∙ append_assoc before family rest ∙ h) in
    all_append (HasHolder all) family rest (
      record { none = λ e. refl; some = λ p e. absurd (cc) },
      locals_held all r rule is 0 (out-Rule rule).alts (λ k x e. ap (slice_get
          (out-Rule rule).alts) (let z : 0 + k ≡ k = omega arith in z) ∙ e),
    )
    (subst (λ n. AllByRecursion (HasHolder all) (roster_from n rules)) counted next)

-- ---- no list is empty, and none is too long

pub record IsSolid (entry : ListedRule) : Type 0 where
  pub alts : IsFilled max_alts (alts_of entry)
  pub terms : AllByRecursion (λ alt. IsFilled max_terms (out-Alt alt).terms) (alts_of entry)

solid_family : (rule : Rule) → IsReadableRule rule → HasFamily IsSolid rule
solid_family rule h = record {
  head = record {
    alts = h.count;
    terms = all_of_all IsReadableAlt (λ alt. IsFilled max_terms (out-Alt alt).terms) (λ alt m. m.terms)
        (out-Rule rule).alts h.each;
  };
  locals = all_of_all IsReadableAlt (HasLocals IsSolid) (λ alt m r a. all_of_all IsReadableLocal (λ l. IsSolid (local r a alt l))
      (λ l k. record {
        alts = k.count;
        terms = all_of_all IsReadableLocalAlt (λ b. IsFilled max_terms (out-Alt b).terms) (λ b n. n.terms)
            (out-Rule l).alts k.each;
      }) (out-Alt alt).locals m.locals) (out-Rule rule).alts h.each;
}

-- ---- the names of the terms are among the names of attributes

abbrev AreIn : NameList → ListedRule → Type 0
AreIn names entry = AllByRecursion (λ alt. AllIn names (terms_names (out-Alt alt).terms)) (alts_of entry)

all_flat : {A : Type 0} (names : NameList) (f : A → NameList) (xs : List A) → AllIn names (flat_map f xs) → AllByRecursion (λ x. AllIn names (f x)) xs
all_flat names f [] h = tt
all_flat names f (x ∷ xs) h = (all_left (IsIn names) (f x) (flat_map f xs) h, all_flat names f xs (all_right (IsIn names) (f x) (flat_map f xs) h))

names_family : (names : NameList) (rule : Rule) → AllIn names (rule_names rule) → HasFamily (AreIn names) rule
names_family names rule h =
    let alts = all_flat names alt_names (out-Rule rule).alts h in
    record {
      head = all_of_all (λ alt. AllIn names (alt_names alt)) (λ alt. AllIn names (terms_names (out-Alt alt).terms))
          (λ alt m. all_left (IsIn names) (terms_names (out-Alt alt).terms) (flat_map local_names (out-Alt alt).locals) m) (out-Rule rule).alts alts;
      locals = all_of_all (λ alt. AllIn names (alt_names alt)) (HasLocals (AreIn names)) (λ alt m r a.
          all_of_all (λ l. AllIn names (local_names l)) (λ l. AreIn names (local r a alt l)) (λ l k. all_flat names local_alt_names (out-Rule l).alts k)
          (out-Alt alt).locals
          (all_flat names local_names (out-Alt alt).locals (all_right (IsIn names) (terms_names (out-Alt alt).terms) (flat_map local_names
          (out-Alt alt).locals) m))) (out-Rule rule).alts alts;
    }

-- ---- slots, arrays, repetitions and branches

cases_many : (cs : List Case) → length cs ≤ sum_by case_count cs
cases_many [] = omega arith
cases_many (c ∷ cs) = omega (arith, sum_by-cons case_count c cs, cases_many cs)

term_slots : (scope : Scope) (t : written.Term) → slots_in (bare_term (term_in scope t)) ≤ term_count t
term_slots scope (term.Slot s) = omega arith
term_slots scope (term.Set head value) = omega arith
term_slots scope (term.Test at cond) = omega arith
term_slots scope (term.Repeat var first last item from to) = omega arith
term_slots scope (term.Many at item place) = omega arith
term_slots scope (term.Pick at cases other) = omega (
  arith,
  length-map (map (case_in scope) cases) bare_case,
  length-map cases
      (case_in scope),
  cases_many cases,
)

terms_slots : (scopes : ℕ → Scope) (u : ℕ) (ts : List written.Term) → sum_by slots_in (map bare_term (terms_from scopes u ts)) ≤ sum_by term_count ts
terms_slots scopes u [] = omega arith
terms_slots scopes u (t ∷ ts) =
    omega (
      arith,
      sum_by-cons slots_in (bare_term (term_in (scopes u) t)) (map bare_term (terms_from scopes
          (u + 1) ts)),
      sum_by-cons term_count t ts,
      term_slots (scopes u) t,
      terms_slots scopes (u + 1) ts,
    )

abbrev alt_slots : CoreAlt → ℕ
alt_slots alt = sum_by slots_in alt.terms

abbrev rule_slots : CoreRule → ℕ
rule_slots rule = sum_by alt_slots rule.alts

abbrev entry_count : ListedRule → ℕ
entry_count entry = sum_by local_alt_count (alts_of entry)

alts_slots : (roster : List ListedRule) (names : NameList) (entry : ListedRule) (r a : ℕ) (alts : List Alt)
    → sum_by alt_slots (map bare_alt (alts_from roster names entry r a alts)) ≤ sum_by local_alt_count alts
alts_slots roster names entry r a [] = omega arith
alts_slots roster names entry r a (alt ∷ alts) =
    omega (
      arith,
      sum_by-cons alt_slots (bare_alt (alt_in roster names entry (r, a) alt)) (map bare_alt (alts_from roster names entry r (a + 1) alts)),
      sum_by-cons local_alt_count alt alts,
      terms_slots (alt_scopes roster names entry (r, a) alt) 0 (out-Alt alt).terms,
      alts_slots roster names entry r (a + 1) alts,
    )

rules_slots : (roster : List ListedRule) (names : NameList) (r : ℕ) (es : List ListedRule)
    → sum_by rule_slots (map bare_rule (rules_from roster names r es)) ≤ sum_by entry_count es
rules_slots roster names r [] = omega arith
rules_slots roster names r (e ∷ es) =
    omega (
      arith,
      sum_by-cons rule_slots (bare_rule (rule_in roster names r e)) (map bare_rule (rules_from roster names (r + 1) es)),
      sum_by-cons entry_count e es,
      alts_slots roster names e r 0 (alts_of e),
      rules_slots roster names (r + 1) es,
    )

sum_append : {A : Type 0} (f : A → ℕ) (xs ys : List A) → sum_by f (xs ++ ys) ≡ sum_by f xs + sum_by f ys
sum_append f [] ys = omega arith
sum_append f (x ∷ xs) ys = omega (arith, sum_by-cons f x (xs ++ ys), sum_by-cons f x xs, sum_append f xs ys)

local_counts : (r a : ℕ) (alt : Alt) (ls : List Rule) → sum_by entry_count (map (local r a alt) ls) ≤ sum_by local_count ls
local_counts r a alt [] = omega arith
local_counts r a alt (l ∷ ls) = omega (
  arith,
  sum_by-cons entry_count (local r a alt l) (map
      (local r a alt) ls),
  sum_by-cons local_count l ls,
  local_counts r a alt ls,
)

locals_counts : (r a : ℕ) (alts : List Alt) → sum_by local_alt_count alts + sum_by entry_count (locals_from r a alts) ≤ sum_by alt_count alts
locals_counts r a [] = omega arith
locals_counts r a (alt ∷ alts) =
    omega (
      arith,
      sum_by-cons local_alt_count alt alts,
      sum_append entry_count (map (local r a alt) (out-Alt alt).locals) (locals_from r (a + 1) alts),
      sum_by-cons alt_count alt alts,
      local_counts r a alt (out-Alt alt).locals,
      locals_counts r (a + 1) alts,
    )

roster_counts : (r : ℕ) (rules : List Rule) → sum_by entry_count (roster_from r rules) ≤ sum_by rule_count rules
roster_counts r [] = omega arith
roster_counts r (rule ∷ rules) =
    let family = family_of r rule in
    omega (
      arith,
      sum_append entry_count family (roster_from (r + length family) rules),
      sum_by-cons entry_count (global rule) (locals_from r 0 (out-Rule rule).alts),
      sum_by-cons rule_count rule rules,
      locals_counts r 0 (out-Rule rule).alts,
      roster_counts (r + length family) rules,
    )

-- ---- alternatives and rules

module _ (roster : List ListedRule) (names : NameList) (none : rules_faults roster names 0 roster ≡ [])
    (solid : AllByRecursion IsSolid roster) (holders : AllByRecursion (HasHolder roster) roster) (are_in : AllByRecursion (AreIn names) roster) where
  abbrev B : Grammar
  B = whole roster names

  -- the alternative of that number, by the text
  alt_there : (entry : ListedRule) (r a : ℕ) (alt : Alt) → slice_get (alts_of entry) a ≡ Some alt
      → slice_get (bare_rule (rule_in roster names r entry)).alts a ≡ Some (bare_alt (alt_in roster names entry (r, a) alt))
  alt_there entry r a alt h =
      item_map bare_alt (alts_from roster names entry r 0 (alts_of entry)) a (alt_in roster names entry (r, 0 + a) alt)
      (made_at (alts_from roster names entry r) (λ n x. alt_in roster names entry (r, n) x) (λ n x xs. refl) (λ n. refl) 0 (alts_of entry) a alt h)
      ∙ ap (λ m. Some (bare_alt (alt_in roster names entry (r, m) alt))) (let e : 0 + a ≡ a = omega arith in e)

  outer_sets : (entry : ListedRule) → HasHolder roster entry → OuterSets roster names entry.holder entry.outer
  outer_sets entry has name h = by entry.holder refl
    where
      held_by : (p : ℕ × ℕ) → HolderAt roster entry.outer p → HolderSets B (Some p) (position_or_len (bytes_eq name) names)
      held_by p w = (
        bare_rule (rule_in roster names p.0 (global w.rule)),
        bare_alt (alt_in roster names (global w.rule) p w.alt),
        record { is_rule = rule_there roster names p.0 (global w.rule) w.is_rule; is_alt = alt_there (global w.rule) p.0 p.1 w.alt w.is_alt },
        sets_some roster names p [] (out-Alt w.alt).terms name (ap (λ ts. sets ts name) (sym w.outer_is) ∙ h),
      )

      by : (o : Option (ℕ × ℕ)) → entry.holder ≡ o → HolderSets B o (position_or_len (bytes_eq name) names)
      by None e = absurd (true≢false (sym h ∙ ap (λ ts. sets ts name) (has.none e)))
      by (Some p) e = held_by p (has.some p e)

  good_alt : (entry : ListedRule) (at : ℕ × ℕ) (alt : Alt) → slice_get roster at.0 ≡ Some entry → slice_get (alts_of entry) at.1 ≡ Some alt
      → GoodAlt B at entry.holder (bare_alt (alt_in roster names entry at alt))
  good_alt entry at alt is_entry is_alt =
      let ts = (out-Alt alt).terms in
      let fit = all_get (λ b. IsFilled max_terms (out-Alt b).terms) (alts_of entry) at.1 alt (all_get IsSolid roster at.0 entry solid is_entry).terms is_alt in
      let within = all_get (λ b. AllIn names (terms_names (out-Alt b).terms)) (alts_of entry) at.1 alt (all_get
      (AreIn names) roster at.0 entry are_in is_entry) is_alt in
      let out = outer_sets entry (all_get (HasHolder roster) roster at.0 entry holders is_entry) in
      let of_rule : alts_faults roster names entry (0 + at.0) 0 (alts_of entry) ≡ [] = faultless_at (rules_faults roster names)
      (λ n e. alts_faults roster names e n 0 (alts_of e)) (λ n x xs. refl) 0 roster at.0 entry none is_entry in
      let of_alt : alt_faults roster names entry (0 + at.0, 0 + at.1) alt ≡ [] = faultless_at (alts_faults roster names entry (0 + at.0))
      (λ n x. alt_faults roster names entry (0 + at.0, n) x) (λ n x xs. refl) 0 (alts_of entry) at.1 alt of_rule is_alt in
      let clean : alt_faults roster names entry at alt ≡ [] = ap (λ p. alt_faults roster names entry p alt) (λ i. (
        (let z : at.0 ≡ 0 + at.0 =
            omega arith in z) i,
        (let z : at.1 ≡ 0 + at.1 = omega arith in z) i,
      )) ∙ of_alt in
      let count = length-map (terms_from (alt_scopes roster names entry at alt) 0 ts) bare_term
      ∙ made_length (terms_from (alt_scopes roster names entry at alt)) (λ n x. term_in (alt_scopes roster names entry at alt n) x) (λ n x xs. refl)
      (λ n. refl) 0 ts in
      record {
        some = omega (arith, count, fit.0);
        limit = omega (arith, count, fit.1);
        sets_once = sets_once roster names at entry.holder entry.outer ts out clean within;
        terms = terms_good roster names at entry.holder entry.outer ts out clean within;
      }

  -- a rule of the grammar, by the text
  rule_of : (r : ℕ) (rule : CoreRule) → rule_at B r ≡ Some rule
      → (entry : ListedRule) × (slice_get roster r ≡ Some entry) × (rule ≡ bare_rule (rule_in roster names r entry))
  rule_of r rule h =
      let w = of_item bare_rule (rules_from roster names 0 roster) r rule h in
      let v = of_made (rules_from roster names) (rule_in roster names) (λ n x xs. refl) (λ n. refl) 0 roster r w.0 w.1 in
      (v.0, v.1, w.2 ∙ ap bare_rule v.2 ∙ ap (λ m. bare_rule (rule_in roster names m v.0)) (let e : 0 + r ≡ r = omega arith in e))

  good_rule : (r : ℕ) (rule : CoreRule) → rule_at B r ≡ Some rule → GoodRule rule
  good_rule r rule h =
      let w = rule_of r rule h in
      let fit = (all_get IsSolid roster r w.0 solid w.1).alts in
      let count = length-map (alts_from roster names w.0 r 0 (alts_of w.0)) bare_alt
      ∙ made_length (alts_from roster names w.0 r) (λ n x. alt_in roster names w.0 (r, n) x) (λ n x xs. refl) (λ n. refl) 0 (alts_of w.0) in
      subst GoodRule (sym w.2) (record { some = omega (arith, count, fit.0); limit = omega (arith, count, fit.1) })

  good_at : (at : ℕ × ℕ) (rule : CoreRule) (alt : CoreAlt) → AltAt B rule alt at → GoodAlt B at rule.holder alt
  good_at at rule alt a =
      let w = rule_of at.0 rule a.is_rule in
      let there = subst (λ r. slice_get r.alts at.1 ≡ Some alt) w.2 a.is_alt in
      let v = of_item bare_alt (alts_from roster names w.0 at.0 0 (alts_of w.0)) at.1 alt there in
      let x = of_made (alts_from roster names w.0 at.0) (λ n y. alt_in roster names w.0 (at.0, n) y) (λ n y xs. refl) (λ n. refl) 0
      (alts_of w.0) at.1 v.0 v.1 in
      let is : alt ≡ bare_alt (alt_in roster names w.0 at x.0) = v.2 ∙ ap bare_alt x.2
      ∙ ap (λ m. bare_alt (alt_in roster names w.0 (at.0, m) x.0)) (let e : 0 + at.1 ≡ at.1 = omega arith in e) in
      subst (λ r. GoodAlt B at r.holder alt) (sym w.2) (subst (GoodAlt B at w.0.holder) (sym is) (good_alt w.0 at x.0 w.1 x.1))

  global_alt : (p : ℕ × ℕ) (outer : List written.Term) → HolderAt roster outer p → IsGlobalAlt B p
  global_alt p outer w = (
    bare_rule (rule_in roster names p.0 (global w.rule)),
    bare_alt (alt_in roster names (global w.rule) p w.alt),
    record { is_rule = rule_there roster names p.0 (global w.rule) w.is_rule; is_alt = alt_there (global w.rule) p.0 p.1 w.alt w.is_alt },
    refl,
  )

  held_at : (r : ℕ) (p : ℕ × ℕ) → holder_of (rule_at B r) ≡ Some p → IsGlobalAlt B p
  held_at r p h = by (rule_at B r) refl h
    where
      by : (o : Option CoreRule) → rule_at B r ≡ o → holder_of o ≡ Some p → IsGlobalAlt B p
      by None e k = absurd (cc)
      by (Some rule) e k =
          let w = rule_of r rule e in
          let has = all_get (HasHolder roster) roster r w.0 holders w.1 in
          global_alt p w.0.outer (has.some p (ap (λ x. x.holder) (sym w.2) ∙ k))

-- ---- the whole grammar

pub first_none : (xs : Faults) → first_of xs ≡ None → xs ≡ []
first_none [] h = refl
first_none (x ∷ xs) h = absurd (by (first_of xs) h)
  where
    by : (o : Option NameFault) → earlier (Some x) o ≡ None → ⊥
    by None k = cc
    by (Some y) k = cc

first_rule : (rules : List Rule) → 0 < length rules → (rule : Rule) × (slice_get (roster_from 0 rules) 0 ≡ Some (global rule))
first_rule [] h = absurd (omega arith)
first_rule (rule ∷ rules) h = (rule, refl)

pub names_good : RosterIsWhole → (g : text.Grammar) → IsReadable g → first_of (faults_of g) ≡ None → WellFormed (bare (names_of g))
unfolding IsDistinct
names_good roster_length g readable faultless =
    let roster = roster_of g in
    let names = attr_names g in
    let all = flat_map rule_names g.rules in
    let none = (both_none (head_faults [] roster) (rules_faults roster names 0 roster) (first_none (faults_of g) faultless)).1 in
    let solid = roster_all IsSolid 0 g.rules (all_of_all IsReadableRule (HasFamily IsSolid) solid_family g.rules readable.each) in
    let holders = roster_held roster [] g.rules refl in
    let are_in = roster_all (AreIn names) 0 g.rules (all_of_all (λ rule. AllIn names (rule_names rule)) (HasFamily (AreIn names))
    (names_family names) g.rules (all_flat names rule_names g.rules (once_has all []))) in
    let first = first_rule g.rules readable.some in
    record {
      first = (bare_rule (rule_in roster names 0 (global first.0)), rule_there roster names 0 (global first.0) first.1, refl);
      limit = omega (arith, rules_length roster names, roster_length 0 g.rules, readable.count);
      rules = good_rule roster names none solid holders are_in;
      alts = good_at roster names none solid holders are_in;
      holders = held_at roster names none solid holders are_in;
      few_names = names_few g readable;
      names_differ = once_distinct all [] tt;
      few_slots = omega (arith, rules_slots roster names 0 roster, roster_counts 0 g.rules, readable.few);
    }
