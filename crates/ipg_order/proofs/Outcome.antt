-- Rules in order make a good grammar, and an order that gets stuck is that of the first alternative without one.
use Rattle.std.proofs.Common.{◌≡◌, ℕ, zero, suc, ◌+◌, ◌≤◌, refl, sym, ap, ◌∙◌, subst, arith, List, [], ◌∷◌, Some, length, Err, inl, inr}
use Rattle.std.specs.Prelude.{slice_get, map, option_map}
use Rattle.std.proofs.lemmas.Option.{slice_get-map}
use Rattle.std.proofs.lemmas.List.{length-map}
use Rattle.ipg_core.specs.declared.grammar.CoreTerm.{CoreTerm}
use Rattle.ipg_core.specs.declared.grammar.CoreAlt.{CoreAlt}
use Rattle.ipg_core.specs.declared.grammar.CoreRule.{CoreRule}
use Rattle.ipg_core.specs.Grammar.{Grammar}
use Rattle.ipg_core.specs.MustTouch.{Marks}
use Rattle.ipg_core.specs.Order.{InOrder, Provides}
use Rattle.ipg_core.specs.Good.{AltAt, WellFormed, Good, IsOrdered}
use Rattle.ipg_complete.specs.declared.completed.CompletedAlt.{CompletedAlt}
use Rattle.ipg_complete.specs.declared.completed.CompletedRule.{CompletedRule}
use Rattle.ipg_complete.specs.Unordered.{Unordered, core_of, rule_of, alt_of}
use Rattle.ipg_order.specs.declared.fault.OrderFault.{OrderFault}
use Rattle.ipg_order.specs.declared.fault.OrderFault.TheVariants as order_fault
use Rattle.ipg_order.specs.Reading.{TellWaits, holders_of}
use Rattle.ipg_order.specs.Providers.{Holders}
use Rattle.ipg_order.specs.Ordered as lists
use Rattle.ipg_order.specs.Ordered.{IsOrderedAlt, AreOrderedAlts, IsOrderedRule, AreOrderedRules, StopsAtRule, RulesStop, AreSmall, AreSmallRules}
use Rattle.ipg_order.specs.Answer.{alt_alone, rule_alone, without_orders, HasOrder, IsBefore, IsFirstStuck, OrderStops}
use Rattle.ipg_order.proofs.Sequences.{order_to, is_order, is_stuck}
use Rattle.ipg_order.proofs.Bounds.{at_each}
use Rattle.ipg_order.proofs.Telling.{written}
use Rattle.ipg_order.proofs.Alone.{whole, provides_to, provides_from}

module _ (holders : Holders) (flags : Marks) where
  alts_alone : (r n : ℕ) (olds : List CompletedAlt) (news : List CoreAlt) → AreOrderedAlts holders flags r n olds news → map alt_alone news ≡ map alt_of olds
  alts_alone r n [] [] h = refl
  alts_alone r n (old ∷ olds) (new ∷ news) h =
      let rest = alts_alone r (n + 1) olds news h.1 in
      rw (h.0.terms, rest) refl
  alts_alone r n [] (new ∷ news) h = absurd h
  alts_alone r n (old ∷ olds) [] h = absurd h

  one_alone : (r : ℕ) (old : CompletedRule) (new : CoreRule) → IsOrderedRule holders flags r old new → rule_alone new ≡ rule_of old
  one_alone r old new h =
      let alts = alts_alone r 0 old.alts new.alts h.alts in
      rw (h.name, h.holder, alts) refl

  pub rules_alone : (r : ℕ) (olds : List CompletedRule) (news : List CoreRule) → AreOrderedRules holders flags r olds news
      → map rule_alone news ≡ map rule_of olds
  rules_alone r [] [] h = refl
  rules_alone r (old ∷ olds) (new ∷ news) h =
      let one = one_alone r old new h.0 in
      let rest = rules_alone (r + 1) olds news h.1 in
      rw (one, rest) refl
  rules_alone r [] (new ∷ news) h = absurd h
  rules_alone r (old ∷ olds) [] h = absurd h

  record RuleWas (olds : List CompletedRule) (r k : ℕ) (new : CoreRule) : Type 0 where
    old : CompletedRule
    there : slice_get olds k ≡ Some old
    is : IsOrderedRule holders flags (r + k) old new

  rule_was : (r : ℕ) (olds : List CompletedRule) (news : List CoreRule) → AreOrderedRules holders flags r olds news → (k : ℕ) (new : CoreRule)
      → slice_get news k ≡ Some new → RuleWas olds r k new
  rule_was r olds [] h k new e = absurd (cc)
  rule_was r [] (n ∷ news) h k new e = absurd h
  rule_was r (old ∷ olds) (n ∷ news) h zero new e =
      let same : n ≡ new = cc in
      record {
        old = old;
        there = refl;
        is = subst (λ j. IsOrderedRule holders flags j old new) (let z : r ≡ r + 0 = omega arith in z)
            (subst (IsOrderedRule holders flags r old) same h.0);
      }
  rule_was r (old ∷ olds) (n ∷ news) h (suc k) new e =
      let w = rule_was (r + 1) olds news h.1 k new e in
      record {
        old = w.old;
        there = w.there;
        is = subst (λ j. IsOrderedRule holders flags j w.old new) (let z : (r + 1) + k ≡ r + suc k = omega arith
            in z) w.is;
      }

  record AltWas (olds : List CompletedAlt) (r n k : ℕ) (new : CoreAlt) : Type 0 where
    old : CompletedAlt
    there : slice_get olds k ≡ Some old
    is : IsOrderedAlt holders flags (r, n + k) old new

  alt_was : (r n : ℕ) (olds : List CompletedAlt) (news : List CoreAlt) → AreOrderedAlts holders flags r n olds news → (k : ℕ) (new : CoreAlt)
      → slice_get news k ≡ Some new → AltWas olds r n k new
  alt_was r n olds [] h k new e = absurd (cc)
  alt_was r n [] (m ∷ news) h k new e = absurd h
  alt_was r n (old ∷ olds) (m ∷ news) h zero new e =
      let same : m ≡ new = cc in
      record {
        old = old;
        there = refl;
        is = subst (λ j. IsOrderedAlt holders flags (r, j) old new) (let z : n ≡ n + 0 = omega arith in z)
            (subst (IsOrderedAlt holders flags (r, n) old) same h.0);
      }
  alt_was r n (old ∷ olds) (m ∷ news) h (suc k) new e =
      let w = alt_was r (n + 1) olds news h.1 k new e in
      record {
        old = w.old;
        there = w.there;
        is = subst (λ j. IsOrderedAlt holders flags (r, j) w.old new)
            (let z : (n + 1) + k ≡ n + suc k = omega arith in z) w.is;
      }

module _ (c : Unordered) (good : WellFormed (core_of c)) (flags : Marks) (tells : TellWaits c flags) where
  alt_there : (rule : CompletedRule) (alt : CompletedAlt) (at : ℕ × ℕ) → slice_get c.rules at.0 ≡ Some rule → slice_get rule.alts at.1 ≡ Some alt
      → AltAt (core_of c) (rule_of rule) (alt_of alt) at
  alt_there rule alt at e f = record {
    is_rule = slice_get-map rule_of c.rules at.0 ∙ ap (option_map rule_of) e;
    is_alt = slice_get-map alt_of rule.alts at.1 ∙ ap (option_map alt_of) f;
  }

  has_order : (rule : CompletedRule) (alt : CompletedAlt) (at : ℕ × ℕ) → slice_get c.rules at.0 ≡ Some rule → slice_get rule.alts at.1 ≡ Some alt
      → lists.HasOrder (holders_of c.rules) flags at alt → HasOrder (core_of c) at alt.terms
  has_order rule alt at e f h = (h.0, is_order c good flags tells (rule_of rule) (alt_of alt) at (alt_there rule alt at e f) h.0 h.1)

  -- ---- the first that has none

  module _ (r a u : ℕ) (h : StopsAtRule (holders_of c.rules) flags c.rules r a u) where
    before : (to : ℕ × ℕ) (rule : CompletedRule) (alt : CompletedAlt) → IsBefore to (r, a) → slice_get c.rules to.0 ≡ Some rule
        → slice_get rule.alts to.1 ≡ Some alt
        → lists.HasOrder (holders_of c.rules) flags to alt
    before (s, b) rule alt (inl lt) e f = h.before s rule lt e b alt f
    before (s, b) rule alt (inr (same, lt)) e f =
        let one : Some rule ≡ Some h.rule = sym e ∙ ap (slice_get c.rules) same ∙ h.is_rule in
        let rules : rule ≡ h.rule = cc in
        subst (λ k. lists.HasOrder (holders_of c.rules) flags (k, b) alt) (sym same)
        (h.stops.before b alt lt (subst (λ (x : CompletedRule). slice_get x.alts b ≡ Some alt) rules f))

    pub first_stuck : IsFirstStuck (core_of c) (r, a) u
    first_stuck = record {
      rule = rule_of h.rule;
      alt = alt_of h.stops.alt;
      is_alt = alt_there h.rule h.stops.alt (r, a) h.is_rule h.stops.is_alt;
      stuck = record {
        order = h.stops.stops.0;
        ends = is_stuck c good flags tells (rule_of h.rule) (alt_of h.stops.alt) (r, a) (alt_there h.rule h.stops.alt (r, a) h.is_rule h.stops.is_alt)
            h.stops.stops.0 u h.stops.stops.1;
      };
      before = λ to other alt is_before at.
          let w = written rule_of c.rules to.0 other at.is_rule in
          let v = written alt_of w.item.alts to.1 alt (subst (λ (x : CoreRule). slice_get x.alts to.1 ≡ Some alt) w.is at.is_alt) in
          subst (λ (x : CoreAlt). HasOrder (core_of c) to x.terms) (sym v.is)
          (has_order w.item v.item to w.is_item v.is_item (before to w.item v.item is_before w.is_item v.is_item));
    }

  -- ---- all in order

  module _ (news : List CoreRule) (h : AreOrderedRules (holders_of c.rules) flags 0 c.rules news) where
    abbrev pub ordered : Grammar
    ordered = record { rules = news; names = c.names }

    pub same_alone : without_orders ordered ≡ core_of c
    same_alone = let same = rules_alone (holders_of c.rules) flags 0 c.rules news h in rw same refl

    to_provides : (at : ℕ × ℕ) (terms : List CoreTerm) (u v : ℕ) → Provides (core_of c) at terms u v → Provides ordered at terms u v
    to_provides at terms u v p = provides_from ordered at terms u v (subst (λ g. Provides g at terms u v) (sym same_alone) p)

    from_provides : (at : ℕ × ℕ) (terms : List CoreTerm) (u v : ℕ) → Provides ordered at terms u v → Provides (core_of c) at terms u v
    from_provides at terms u v p = subst (λ g. Provides g at terms u v) same_alone (provides_to ordered at terms u v p)

    is_ordered : (at : ℕ × ℕ) (rule : CoreRule) (alt : CoreAlt) → AltAt ordered rule alt at → IsOrdered ordered at alt
    is_ordered at rule alt is =
        let w = rule_was (holders_of c.rules) flags 0 c.rules news h at.0 rule is.is_rule in
        let v = alt_was (holders_of c.rules) flags (0 + at.0) 0 w.old.alts rule.alts w.is.alts at.1 alt is.is_alt in
        let place : (0 + at.0, 0 + at.1) ≡ at =
        let z : 0 + at.0 ≡ at.0 = omega arith in
        let y : 0 + at.1 ≡ at.1 = omega arith in
        rw (z, y) refl in
        let one : IsOrderedAlt (holders_of c.rules) flags at v.old alt = subst (λ p. IsOrderedAlt (holders_of c.rules) flags p v.old alt) place v.is in
        let there = alt_there w.old v.old at w.there v.there in
        let known = is_order c good flags tells (rule_of w.old) (alt_of v.old) at there alt.order one.order in
        let moved = order_to (Provides (core_of c) at v.old.terms) (Provides ordered at v.old.terms) (length v.old.terms)
        (λ x y lt p. to_provides at v.old.terms x y p) (λ x y lt p. from_provides at v.old.terms x y p) [] alt.order known in
        subst (λ ts. InOrder (Provides ordered at ts) (length ts) [] alt.order) (sym one.terms) moved

    pub good_of : Good ordered
    good_of = record { well_formed = whole ordered (subst WellFormed (sym same_alone) good); ordered = is_ordered }

  pub stops_of : (fault : OrderFault) → RulesStop (holders_of c.rules) flags c.rules (Err fault) → OrderStops (core_of c) fault
  stops_of (order_fault.Circular r a u) h = first_stuck r a u h
  stops_of order_fault.Memory h = tt

-- ---- few rules, alternatives and terms

pub are_small : (c : Unordered) → WellFormed (core_of c) → AreSmallRules c.rules
are_small c good = record {
  count = subst (λ n. n ≤ 1024) (length-map c.rules rule_of) good.limit;
  each = at_each (λ rule. AreSmall rule.alts) c.rules (λ r rule e.
      let is_rule = slice_get-map rule_of c.rules r ∙ ap (option_map rule_of) e in record {
        count = subst (λ n. n ≤ 64) (length-map rule.alts alt_of) (good.rules r (rule_of rule) is_rule).limit;
        each = at_each (λ alt. length alt.terms ≤ 256) rule.alts (λ a alt f.
            (good.alts (r, a) (rule_of rule) (alt_of alt)
            (record { is_rule = is_rule; is_alt = slice_get-map alt_of rule.alts a ∙ ap (option_map alt_of) f })).limit);
      });
}

-- ---- the same of a value in the words of its parts

module _ (inside c : Unordered) (is : inside ≡ c) (good : WellFormed (core_of inside)) (holders : Holders) (held : holders ≡ holders_of c.rules)
    (flags : Marks) (tells : TellWaits c flags) where
  tells_inside : TellWaits inside flags
  tells_inside = subst (λ x. TellWaits x flags) (sym is) tells

  held_inside : holders ≡ holders_of inside.rules
  held_inside = held ∙ ap (λ (x : Unordered). holders_of x.rules) (sym is)

  in_order : (news : List CoreRule) → AreOrderedRules holders flags 0 inside.rules news → AreOrderedRules (holders_of inside.rules) flags 0 inside.rules news
  in_order news h = subst (λ hs. AreOrderedRules hs flags 0 inside.rules news) held_inside h

  pub is_good : (news : List CoreRule) → AreOrderedRules holders flags 0 inside.rules news → Good (record { rules = news; names = inside.names })
  is_good news h = good_of inside good flags tells_inside news (in_order news h)

  pub is_same : (news : List CoreRule) → AreOrderedRules holders flags 0 inside.rules news
      → without_orders (record { rules = news; names = inside.names }) ≡ core_of c
  is_same news h = same_alone inside good flags tells_inside news (in_order news h) ∙ ap core_of is

  pub stops_so : (fault : OrderFault) → RulesStop holders flags inside.rules (Err fault) → OrderStops (core_of c) fault
  stops_so fault h = subst (λ x. OrderStops (core_of x) fault) is
      (stops_of inside good flags tells_inside fault (subst (λ hs. RulesStop hs flags inside.rules (Err fault)) held_inside h))
