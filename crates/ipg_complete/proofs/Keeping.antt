-- A completed grammar is well formed where the grammar as written is.
use Rattle.std.proofs.Common.{◌≡◌, ℕ, ◌+◌, ◌^◌, ◌<◌, ◌≤◌, refl, sym, ap, subst, ◌∙◌, arith, List, [], ◌∷◌, Option, Some, None, map, length, pos, zero-add}
use Rattle.std.specs.Prelude.{slice_get, option_map, sum_by}
use Rattle.std.specs.List.{AllByRecursion}
use Rattle.std.proofs.lemmas.List.{length-map}
use Rattle.std.proofs.lemmas.Option.{slice_get-map}
use Rattle.ipg_core.specs.declared.grammar.Sym.{Sym}
use Rattle.ipg_core.specs.declared.grammar.Sym.TheVariants.{Text, Prim, Rule}
use Rattle.ipg_core.specs.declared.grammar.CoreTerm.{CoreTerm}
use Rattle.ipg_core.specs.declared.grammar.CoreAlt.{CoreAlt}
use Rattle.ipg_core.specs.declared.grammar.CoreRule.{CoreRule}
use Rattle.ipg_core.specs.Grammar.{Grammar, rule_at, holder_of}
use Rattle.ipg_core.specs.Mention.{Mention, SeenOf, ItemOf, AfterOf, OwnOf, OuterOf, FieldOf, LoopOf, mentions, term_mentions, EachSym}
use Rattle.ipg_core.specs.Order.{Sets}
use Rattle.ipg_core.specs.Good.{AltAt, IsSym, SetsSome, HolderSets, IsGoodMention, IsCallable, MayCall, GoodTerm, GoodAlt, GoodRule, IsGlobalAlt}
use Rattle.ipg_core.specs.Good.{WellFormed, slots_of, slots_in}
use Rattle.ipg_names.specs.declared.named.NamedTerm.{NamedTerm}
use Rattle.ipg_names.specs.declared.named.NamedAlt.{NamedAlt}
use Rattle.ipg_names.specs.declared.named.NamedRule.{NamedRule}
use Rattle.ipg_names.specs.Resolved.{Resolved}
use Rattle.ipg_names.specs.Bare.{bare, bare_term, bare_alt, bare_rule}
use Rattle.ipg_complete.specs.declared.completed.CompletedRule.{CompletedRule}
use Rattle.ipg_complete.specs.Unordered as unordered
use Rattle.ipg_complete.specs.Completion.{left_at_first, terms_from, alt_of, rule_of, completed}
use Rattle.ipg_complete.specs.Lefts.{HasFewTerms, HaveFewTerms}
use Rattle.ipg_complete.proofs.Lists.{written, all_more, all_of, sum_of_map}
use Rattle.ipg_complete.proofs.Mentions.{mentions_num, term_so}
use Rattle.ipg_complete.proofs.Terms as terms

-- an alternative and a rule as the core grammar has them
abbrev new_alt : NamedAlt → CoreAlt
new_alt alt = unordered.alt_of (alt_of alt)

abbrev new_rule : NamedRule → CoreRule
new_rule rule = unordered.rule_of (rule_of rule)

callable_sym : (g : Grammar) (at : ℕ × ℕ) (holder : Option (ℕ × ℕ)) (s : Sym) → IsCallable g at holder s → IsSym g s
callable_sym g at holder (Rule r) h = h.0
callable_sym g at holder (Text bytes) h = tt
callable_sym g at holder (Prim prim) h = tt

module _ (n : Resolved) where
  abbrev old : Grammar
  old = bare n

  abbrev new : Grammar
  new = unordered.core_of (completed n)

  -- ---- rules and alternatives, by those as written

  new_there : (r : ℕ) → rule_at new r ≡ option_map unordered.rule_of (option_map rule_of (slice_get n.rules r))
  new_there r = slice_get-map unordered.rule_of (map rule_of n.rules) r ∙ ap (option_map unordered.rule_of) (slice_get-map rule_of n.rules r)

  old_there : (r : ℕ) → rule_at old r ≡ option_map bare_rule (slice_get n.rules r)
  old_there r = slice_get-map bare_rule n.rules r

  same_holder : (o : Option NamedRule) → holder_of (option_map unordered.rule_of (option_map rule_of o)) ≡ holder_of (option_map bare_rule o)
  same_holder None = refl
  same_holder (Some rule) = refl

  holder_is : (r : ℕ) → holder_of (rule_at new r) ≡ holder_of (rule_at old r)
  holder_is r = ap holder_of (new_there r) ∙ same_holder (slice_get n.rules r) ∙ sym (ap holder_of (old_there r))

  pub record There (rule : NamedRule) (alt : NamedAlt) (at : ℕ × ℕ) : Type 0 where
    pub is_rule : slice_get n.rules at.0 ≡ Some rule
    pub is_alt : slice_get rule.alts at.1 ≡ Some alt

  in_new : (rule : NamedRule) (alt : NamedAlt) (at : ℕ × ℕ) → There rule alt at → AltAt new (new_rule rule) (new_alt alt) at
  in_new rule alt at h = record {
    is_rule = new_there at.0 ∙ ap (λ o. option_map unordered.rule_of (option_map rule_of o)) h.is_rule;
    is_alt = slice_get-map unordered.alt_of (map alt_of rule.alts) at.1
        ∙ ap (option_map unordered.alt_of) (slice_get-map alt_of rule.alts at.1 ∙ ap (option_map alt_of) h.is_alt);
  }

  in_old : (rule : NamedRule) (alt : NamedAlt) (at : ℕ × ℕ) → There rule alt at → AltAt old (bare_rule rule) (bare_alt alt) at
  in_old rule alt at h = record {
    is_rule = old_there at.0 ∙ ap (option_map bare_rule) h.is_rule;
    is_alt = slice_get-map bare_alt rule.alts at.1 ∙ ap (option_map bare_alt) h.is_alt;
  }

  pub record Of (to_rule : NamedRule → CoreRule) (to_alt : NamedAlt → CoreAlt) (rule : CoreRule) (alt : CoreAlt) (at : ℕ × ℕ) : Type 0 where
    pub rule_there : NamedRule
    pub alt_there : NamedAlt
    pub there : There rule_there alt_there at
    pub same_rule : rule ≡ to_rule rule_there
    pub same_alt : alt ≡ to_alt alt_there

  of_old : (rule : CoreRule) (alt : CoreAlt) (at : ℕ × ℕ) → AltAt old rule alt at → Of bare_rule bare_alt rule alt at
  of_old rule alt at h =
      let w = written bare_rule n.rules at.0 rule h.is_rule in
      let v = written bare_alt w.item.alts at.1 alt (subst (λ (r : CoreRule). slice_get r.alts at.1 ≡ Some alt) w.is h.is_alt) in
      record { rule_there = w.item; alt_there = v.item; there = record { is_rule = w.is_item; is_alt = v.is_item }; same_rule = w.is; same_alt = v.is }

  of_new_rule : (r : ℕ) (rule : CoreRule) → rule_at new r ≡ Some rule → (x : NamedRule) × (slice_get n.rules r ≡ Some x) × (rule ≡ new_rule x)
  of_new_rule r rule e =
      let w = written unordered.rule_of (map rule_of n.rules) r rule e in
      let v = written rule_of n.rules r w.item w.is_item in
      (v.item, v.is_item, w.is ∙ ap unordered.rule_of v.is)

  of_new : (rule : CoreRule) (alt : CoreAlt) (at : ℕ × ℕ) → AltAt new rule alt at → Of new_rule new_alt rule alt at
  of_new rule alt at h =
      let w = of_new_rule at.0 rule h.is_rule in
      let v = written unordered.alt_of (map alt_of w.0.alts) at.1 alt (subst (λ (r : CoreRule). slice_get r.alts at.1 ≡ Some alt) w.2 h.is_alt) in
      let u = written alt_of w.0.alts at.1 v.item v.is_item in
      record {
        rule_there = w.0;
        alt_there = u.item;
        there = record { is_rule = w.1; is_alt = u.is_item };
        same_rule = w.2;
        same_alt = v.is ∙ ap unordered.alt_of u.is;
      }

  -- ---- what a term names and calls

  as_many_rules : length old.rules ≡ length new.rules
  as_many_rules = length-map n.rules bare_rule ∙ sym (length-map (map rule_of n.rules) unordered.rule_of ∙ length-map n.rules rule_of)

  is_sym : (s : Sym) → IsSym old s → IsSym new s
  is_sym (Rule r) h = subst (λ k. r < k) as_many_rules h
  is_sym (Text bytes) h = tt
  is_sym (Prim prim) h = tt

  callable : (at : ℕ × ℕ) (holder : Option (ℕ × ℕ)) (s : Sym) → IsCallable old at holder s → IsCallable new at holder s
  callable at holder (Rule r) h = (subst (λ k. r < k) as_many_rules h.0, subst (MayCall at holder) (sym (holder_is r)) h.1)
  callable at holder (Text bytes) h = tt
  callable at holder (Prim prim) h = tt

  sets_some : (ts : List NamedTerm) (attr : ℕ) → SetsSome (map bare_term ts) attr → SetsSome (terms_from 0 left_at_first ts) attr
  sets_some ts attr h = (h.0, terms.sets_to left_at_first ts h.0 attr h.1)

  holder_sets : (holder : Option (ℕ × ℕ)) (attr : ℕ) → HolderSets old holder attr → HolderSets new holder attr
  holder_sets None attr h = h
  holder_sets (Some holder) attr h =
      let w = of_old h.0 h.1 holder h.2 in (
        new_rule w.rule_there,
        new_alt w.alt_there,
        in_new w.rule_there w.alt_there holder w.there,
        sets_some w.alt_there.terms attr (subst (λ (a : CoreAlt). SetsSome a.terms attr) w.same_alt h.3),
      )

  mention : (holder : Option (ℕ × ℕ)) (ts : List NamedTerm) (u : ℕ) (m : Mention) → IsGoodMention old holder (map bare_term ts) u m
      → IsGoodMention new holder (terms_from 0 left_at_first ts) u m
  mention holder ts u (SeenOf term s) h = (terms.slots_to left_at_first ts term h.0, is_sym s h.1)
  mention holder ts u (ItemOf term) h = terms.items_to left_at_first ts term h
  mention holder ts u (AfterOf term) h = (terms.items_to left_at_first ts term h.0, h.1)
  mention holder ts u (OwnOf attr) h = sets_some ts attr h
  mention holder ts u (OuterOf attr) h = holder_sets holder attr h
  mention holder ts u (FieldOf attr) h = h
  mention holder ts u LoopOf h = tt

  -- ---- an alternative

  module _ (at : ℕ × ℕ) (holder : Option (ℕ × ℕ)) (alt : NamedAlt) (h : GoodAlt old at holder (bare_alt alt)) where
    abbrev ts : List NamedTerm
    ts = alt.terms

    abbrev all : List CoreTerm
    all = terms_from 0 left_at_first ts

    syms_are : AllByRecursion (λ t. EachSym (IsSym new) (bare_term t)) ts
    syms_are = all_of (λ t. EachSym (IsSym new) (bare_term t)) ts (λ k t e.
        terms.each_more (IsCallable old at holder) (IsSym new) (bare_term t) (λ s c. is_sym s (callable_sym old at holder s c))
        (h.terms k (bare_term t) (terms.bare_at left_at_first ts k t e)).syms)

    lefts : (u : ℕ) → terms.NamesLeft new all u (terms.left_at 0 left_at_first ts u)
    lefts u = subst (λ k. terms.NamesLeft new all k (terms.left_at 0 left_at_first ts u)) (zero-add u)
        (terms.left_names new all 0 left_at_first ts u (λ j. ap (slice_get all) (zero-add j)) syms_are
        (subst (AllByRecursion (terms.IsLeft new all 0)) (sym (mentions_num (pos 0))) tt))

    good_term : (u : ℕ) (term : CoreTerm) → slice_get all u ≡ Some term → GoodTerm new at holder all u term
    good_term u term e =
        let w = terms.beside left_at_first ts u term e in
        let left = terms.left_at 0 left_at_first ts u in
        let t = w.written in
        let old_term = h.terms u (bare_term t) (terms.bare_at left_at_first ts u t w.is_written) in
        let names = all_more (terms.IsLeft new all u) (IsGoodMention new holder all u) (mentions left) (terms.left_is_good new all holder u) (lefts u) in
        let written_names = all_more (IsGoodMention old holder (map bare_term ts) u) (IsGoodMention new holder all u) (term_mentions (bare_term t))
        (mention holder ts u) old_term.mentions in
        subst (GoodTerm new at holder all u) (sym w.is) (record {
          shape = terms.same_shape old new left t refl old_term.shape;
          syms = terms.same_syms (IsCallable new at holder) left t
              (terms.each_more (IsCallable old at holder) (IsCallable new at holder) (bare_term t) (callable at holder) old_term.syms);
          mentions = term_so (IsGoodMention new holder all u) left names t written_names;
        })

    count : length (map bare_term ts) ≡ length all
    count = length-map ts bare_term ∙ sym (terms.as_many 0 left_at_first ts)

    good_alt : GoodAlt new at holder (new_alt alt)
    good_alt = record {
      some = subst (λ k. 0 < k) count h.some;
      limit = subst (λ k. k ≤ 256) count h.limit;
      sets_once = λ attr u v a b. h.sets_once attr u v (terms.sets_from left_at_first ts u attr a) (terms.sets_from left_at_first ts v attr b);
      terms = good_term;
    }

  -- ---- the grammar

  global : (at : ℕ × ℕ) → IsGlobalAlt old at → IsGlobalAlt new at
  global at h =
      let w = of_old h.0 h.1 at h.2 in
      (new_rule w.rule_there, new_alt w.alt_there, in_new w.rule_there w.alt_there at w.there, sym (ap (λ (r : CoreRule). r.holder) w.same_rule) ∙ h.3)

  abbrev alt_slots : CoreAlt → ℕ
  alt_slots alt = sum_by slots_in alt.terms

  abbrev rule_slots : CoreRule → ℕ
  rule_slots rule = sum_by alt_slots rule.alts

  slots_in_rule : (rule : NamedRule) → rule_slots (new_rule rule) ≡ rule_slots (bare_rule rule)
  slots_in_rule rule =
      sum_of_map alt_slots unordered.alt_of (λ alt. sum_by slots_in alt.terms) (λ alt. refl) (map alt_of rule.alts)
      ∙ sum_of_map (λ alt. sum_by slots_in alt.terms) alt_of (λ alt. alt_slots (bare_alt alt)) (λ alt. terms.slots_same 0 left_at_first alt.terms) rule.alts
      ∙ sym (sum_of_map alt_slots bare_alt (λ alt. alt_slots (bare_alt alt)) (λ alt. refl) rule.alts)

  slots : slots_of new ≡ slots_of old
  slots =
      sum_of_map rule_slots unordered.rule_of (λ rule. rule_slots (unordered.rule_of rule)) (λ rule. refl) (map rule_of n.rules)
      ∙ sum_of_map (λ rule. rule_slots (unordered.rule_of rule)) rule_of (λ rule. rule_slots (bare_rule rule)) slots_in_rule n.rules
      ∙ sym (sum_of_map rule_slots bare_rule (λ rule. rule_slots (bare_rule rule)) (λ rule. refl) n.rules)

  good_rule : (rule : NamedRule) → GoodRule (bare_rule rule) → GoodRule (new_rule rule)
  good_rule rule h =
      let count = length-map rule.alts bare_alt ∙ sym (length-map (map alt_of rule.alts) unordered.alt_of ∙ length-map rule.alts alt_of) in
      record { some = subst (λ k. 0 < k) count h.some; limit = subst (λ k. k ≤ 64) count h.limit }

  alts_of_new : WellFormed old → (at : ℕ × ℕ) (rule : CoreRule) (alt : CoreAlt) → AltAt new rule alt at → GoodAlt new at rule.holder alt
  alts_of_new h at rule alt e =
      let w = of_new rule alt at e in
      let good = h.alts at (bare_rule w.rule_there) (bare_alt w.alt_there) (in_old w.rule_there w.alt_there at w.there) in
      subst (λ (r : CoreRule). GoodAlt new at r.holder alt) (sym w.same_rule)
      (subst (GoodAlt new at w.rule_there.holder) (sym w.same_alt) (good_alt at w.rule_there.holder w.alt_there good))

  rules_of_new : WellFormed old → (r : ℕ) (rule : CoreRule) → rule_at new r ≡ Some rule → GoodRule rule
  rules_of_new h r rule e =
      let w = of_new_rule r rule e in
      subst GoodRule (sym w.2) (good_rule w.0 (h.rules r (bare_rule w.0) (old_there r ∙ ap (option_map bare_rule) w.1)))

  first_of_new : WellFormed old → (rule : CoreRule) × (rule_at new 0 ≡ Some rule) × (rule.holder ≡ None)
  first_of_new h =
      let w = written bare_rule n.rules 0 h.first.0 h.first.1 in (
        new_rule w.item,
        new_there 0 ∙ ap (λ o. option_map unordered.rule_of (option_map rule_of o)) w.is_item,
        sym (ap (λ (r : CoreRule). r.holder) w.is) ∙ h.first.2,
      )

  pub whole : WellFormed old → WellFormed new
  whole h = record {
    first = first_of_new h;
    limit = subst (λ k. k ≤ 1024) as_many_rules h.limit;
    rules = rules_of_new h;
    alts = alts_of_new h;
    holders = λ r holder e. global holder (h.holders r holder (sym (holder_is r) ∙ e));
    few_names = h.few_names;
    names_differ = h.names_differ;
    few_slots = subst (λ k. k < 2 ^ 32) (sym slots) h.few_slots;
  }

  few_terms : WellFormed old → (r : ℕ) (rule : NamedRule) → slice_get n.rules r ≡ Some rule → HaveFewTerms rule
  few_terms h r rule e = all_of HasFewTerms rule.alts (λ a alt f.
      let good = h.alts (r, a) (bare_rule rule) (bare_alt alt) (in_old rule alt (r, a) (record { is_rule = e; is_alt = f })) in
      let count = length-map alt.terms bare_term in
      let limit = good.limit in
      few (length (map bare_term alt.terms)) (length alt.terms) count limit)
    where
      few : (k m : ℕ) → k ≡ m → k ≤ 256 → m < 2 ^ 32
      few k m e le = omega (arith, e)

  pub are_few : WellFormed old → AllByRecursion HaveFewTerms n.rules
  are_few h = all_of HaveFewTerms n.rules (few_terms h)
