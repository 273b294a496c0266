-- What the test of a whole grammar tells.
use Rattle.std.proofs.Common.{◌≡◌, ℕ, ◌<◌, ◌≤◌, ◌^◌, ◌&&◌, length, Option, Some, None, slice_get, refl, ap, ◌∙◌, nat_lt, nat_le}
use Rattle.std.specs.Bool.{Decides}
use Rattle.std.specs.List.{list_all}
use Rattle.std.proofs.lemmas.Bool.Decides.{Decides-and, Decides-like, Decides-ltb}
use Rattle.ipg_core.specs.declared.grammar.CoreTerm.{CoreTerm}
use Rattle.ipg_core.specs.declared.grammar.CoreAlt.{CoreAlt}
use Rattle.ipg_core.specs.declared.grammar.CoreRule.{CoreRule}
use Rattle.ipg_core.specs.Grammar.{Grammar, rule_at, holder_of}
use Rattle.ipg_core.specs.Order.{Sets}
use Rattle.ipg_core.specs.Good.{AltAt, GoodTerm, GoodAlt, GoodRule, IsGlobalAlt, WellFormed, slots_of}
use Rattle.ipg_store_adopt.specs.WellFormed.{all_from, sets_once, is_holder, is_good_term}
use Rattle.ipg_store_adopt.specs.WellFormed.{is_small_alt, has_small_alts, has_good_terms, has_good_alts, is_good_rule}
use Rattle.ipg_store_adopt.specs.WellFormed.{starts_global, all_differ, has_good_rules, has_few_slots, is_well_formed}
use Rattle.ipg_store_adopt.specs.Laws.{TellsWellFormed}
use Rattle.ipg_store_adopt.proofs.Tests.{le_tells, numbered_tells, each_tells, differ_tells}
use Rattle.ipg_store_adopt.proofs.Attributes.{once_tells, HasHolder, holder_tells, first_tells}
use Rattle.ipg_store_adopt.proofs.Mentions.{term_tells}

-- ---- an alternative, a rule

record Small (alt : CoreAlt) : Type 0 where
  some : 0 < length alt.terms
  limit : length alt.terms ≤ 256
  once : (attr u v : ℕ) → Sets alt.terms u attr → Sets alt.terms v attr → u ≡ v

small_tells : (alt : CoreAlt) → Decides (is_small_alt alt) (Small alt)
small_tells alt =
    let n = length alt.terms in
    Decides-like (is_small_alt alt) (λ h. record { some = h.0; limit = h.1.0; once = h.1.1 }) (λ r. (r.some, (r.limit, r.once)))
    (Decides-and (nat_lt 0 n) (nat_le n 256 && sets_once alt.terms) (Decides-ltb 0 n)
    (Decides-and (nat_le n 256) (sets_once alt.terms) (le_tells n 256) (once_tells alt.terms)))

abbrev HasSmallAlts : CoreRule → Type 0
HasSmallAlts rule = (a : ℕ) (alt : CoreAlt) → slice_get rule.alts a ≡ Some alt → Small alt

rule_tells : (rule : CoreRule) → Decides (is_good_rule rule) (GoodRule rule)
rule_tells rule =
    let n = length rule.alts in
    Decides-like (is_good_rule rule) (λ h. record { some = h.0; limit = h.1 }) (λ r. (r.some, r.limit))
    (Decides-and (nat_lt 0 n) (nat_le n 64) (Decides-ltb 0 n) (le_tells n 64))

abbrev HasGoodTerms : Grammar → ℕ × ℕ → Option (ℕ × ℕ) → CoreAlt → Type 0
HasGoodTerms g at holder alt = (u : ℕ) (term : CoreTerm) → slice_get alt.terms u ≡ Some term → GoodTerm g at holder alt.terms u term

module _ (g : Grammar) where
  -- ---- all alternatives

  abbrev HaveGoodAlts : ℕ → CoreRule → Type 0
  HaveGoodAlts r rule = (a : ℕ) (alt : CoreAlt) → slice_get rule.alts a ≡ Some alt → HasGoodTerms g (r, a) rule.holder alt

  alts_tell : (r : ℕ) (rule : CoreRule) → Decides (has_good_alts g r rule) (HaveGoodAlts r rule)
  alts_tell r rule =
      numbered_tells (λ a alt. has_good_terms g (r, a) rule.holder alt) (λ a alt. HasGoodTerms g (r, a) rule.holder alt)
      (λ a alt. numbered_tells (is_good_term g (r, a) rule.holder alt.terms) (GoodTerm g (r, a) rule.holder alt.terms)
      (term_tells g (r, a) rule.holder alt.terms) alt.terms) rule.alts

  abbrev AllAlts : Type 0
  AllAlts = (at : ℕ × ℕ) (rule : CoreRule) (alt : CoreAlt) → AltAt g rule alt at → GoodAlt g at rule.holder alt

  abbrev AllSmall : Type 0
  AllSmall = (r : ℕ) (rule : CoreRule) → slice_get g.rules r ≡ Some rule → HasSmallAlts rule

  abbrev AllGood : Type 0
  AllGood = (r : ℕ) (rule : CoreRule) → slice_get g.rules r ≡ Some rule → HaveGoodAlts r rule

  all_small : Decides (list_all has_small_alts g.rules) AllSmall
  all_small = each_tells has_small_alts HasSmallAlts (λ rule. each_tells is_small_alt Small small_tells rule.alts) g.rules

  all_good : Decides (all_from (has_good_alts g) 0 g.rules) AllGood
  all_good = numbered_tells (has_good_alts g) HaveGoodAlts alts_tell g.rules

  good_alts : AllSmall → AllGood → AllAlts
  good_alts small good at rule alt w =
      let s = small at.0 rule w.is_rule at.1 alt w.is_alt in
      record { some = s.some; limit = s.limit; sets_once = s.once; terms = good at.0 rule w.is_rule at.1 alt w.is_alt }

  small_alts : AllAlts → AllSmall
  small_alts h r rule e a alt k =
      let w = h (r, a) rule alt (record { is_rule = e; is_alt = k }) in
      record { some = w.some; limit = w.limit; once = w.sets_once }

  good_terms : AllAlts → AllGood
  good_terms h r rule e a alt k = (h (r, a) rule alt (record { is_rule = e; is_alt = k })).terms

  -- ---- all holders

  abbrev AllHolders : Type 0
  AllHolders = (r : ℕ) (holder : ℕ × ℕ) → holder_of (rule_at g r) ≡ Some holder → IsGlobalAlt g holder

  by_rule : ((k : ℕ) (rule : CoreRule) → slice_get g.rules k ≡ Some rule → HasHolder g rule.holder) → AllHolders
  by_rule h r holder e = by (rule_at g r) refl e
    where
      by : (o : Option CoreRule) → rule_at g r ≡ o → holder_of o ≡ Some holder → IsGlobalAlt g holder
      by None is k = absurd (cc)
      by (Some rule) is k = h r rule is holder k

  holders_tell : Decides (list_all (λ rule. is_holder g rule.holder) g.rules) AllHolders
  holders_tell =
      Decides-like (list_all (λ rule. is_holder g rule.holder) g.rules) by_rule
      (λ h r rule e at k. h r at (ap holder_of e ∙ k))
      (each_tells (λ rule. is_holder g rule.holder) (λ rule. HasHolder g rule.holder) (λ rule. holder_tells g rule.holder) g.rules)

  -- ---- field by field

  pub tells : Decides (is_well_formed g) (WellFormed g)
  tells =
      let rules = list_all is_good_rule g.rules in
      let small = list_all has_small_alts g.rules in
      let good = all_from (has_good_alts g) 0 g.rules in
      let holders = list_all (λ rule. is_holder g rule.holder) g.rules in
      let few_names = nat_lt (length g.names) (2 ^ 32) in
      Decides-like (is_well_formed g)
      (λ h. record {
        first = h.0.0;
        limit = h.0.1.0;
        rules = h.0.1.1.0;
        alts = good_alts h.0.1.1.1.0 h.0.1.1.1.1.0;
        holders = h.0.1.1.1.1.1;
        few_names = h.1.0;
        names_differ = h.1.1.1;
        few_slots = h.1.1.0;
      })
      (λ w. ((w.first, (w.limit, (w.rules, (small_alts w.alts, (good_terms w.alts, w.holders))))), (w.few_names, (w.few_slots, w.names_differ))))
      (Decides-and (has_good_rules g) (few_names && (has_few_slots g.rules && all_differ g.names))
      (Decides-and (starts_global g.rules) (nat_le (length g.rules) 1024 && (rules && (small && (good && holders)))) (first_tells g.rules)
      (Decides-and (nat_le (length g.rules) 1024) (rules && (small && (good && holders))) (le_tells (length g.rules) 1024)
      (Decides-and rules (small && (good && holders)) (each_tells is_good_rule GoodRule rule_tells g.rules)
      (Decides-and small (good && holders) all_small
      (Decides-and good holders all_good holders_tell)))))
      (Decides-and few_names (has_few_slots g.rules && all_differ g.names) (Decides-ltb (length g.names) (2 ^ 32))
      (Decides-and (has_few_slots g.rules) (all_differ g.names) (Decides-ltb (slots_of g) (2 ^ 32)) (differ_tells g.names))))

pub tells_well_formed : TellsWellFormed
tells_well_formed g = tells g
