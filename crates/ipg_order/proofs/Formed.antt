-- A well-formed grammar is well-formed without orders, and good with orders that its terms have without them.
use Rattle.std.proofs.Common.{◌≡◌, ℕ, ◌^◌, ◌<◌, ◌≤◌, refl, sym, ap, ◌∙◌, subst, [], Option, Some, None, length}
use Rattle.std.specs.Prelude.{slice_get, option_map}
use Rattle.std.proofs.lemmas.List.{length-map}
use Rattle.ipg_core.specs.declared.grammar.Sym.TheVariants.{Prim}
use Rattle.ipg_core.specs.declared.grammar.CoreAlt.{CoreAlt}
use Rattle.ipg_core.specs.declared.grammar.CoreRule.{CoreRule}
use Rattle.ipg_core.specs.Grammar.{Grammar}
use Rattle.ipg_core.specs.Order.{Provides}
use Rattle.ipg_core.specs.Good.{AltAt, HolderSets, GoodAlt, IsGlobalAlt, WellFormed}
use Rattle.ipg_order.specs.Answer.{alt_alone, rule_alone, without_orders}
use Rattle.ipg_order.specs.Laws.{FormedWithout, GoodAsOrdered}
use Rattle.ipg_order.proofs.Alone.{rule_is, holder_is, to_alone, slots, whole, provides_to, provides_from}
use Rattle.ipg_order.proofs.Sequences.{order_to}
use Rattle.ipg_order.proofs.Telling.{written}
use Rattle.ipg_order.proofs.Lifted.{good_term}

module _ (g : Grammar) where
  abbrev alone : Grammar
  alone = without_orders g

  more : (r : ℕ) → r < length g.rules → r < length alone.rules
  more r lt = subst (λ n. r < n) (sym (length-map g.rules rule_alone)) lt

  -- ---- terms

  holder_sets : (holder : Option (ℕ × ℕ)) (attr : ℕ) → HolderSets g holder attr → HolderSets alone holder attr
  holder_sets None attr h = h
  holder_sets (Some holder) attr h = (rule_alone h.0, alt_alone h.1, to_alone g h.0 h.1 holder h.2, h.3)

  good_alt : (at : ℕ × ℕ) (holder : Option (ℕ × ℕ)) (alt : CoreAlt) → GoodAlt g at holder alt → GoodAlt alone at holder (alt_alone alt)
  good_alt at holder alt h = record {
    some = h.some;
    limit = h.limit;
    sets_once = h.sets_once;
    terms = λ u term e. good_term g alone more (λ r. sym (holder_is g r)) refl holder_sets at holder alt.terms u term (h.terms u term e);
  }

  -- ---- the whole

  alts : (h : WellFormed g) (at : ℕ × ℕ) (rule : CoreRule) (alt : CoreAlt) → AltAt alone rule alt at → GoodAlt alone at rule.holder alt
  alts h at rule alt e =
      let w = written rule_alone g.rules at.0 rule e.is_rule in
      let v = written alt_alone w.item.alts at.1 alt (subst (λ (r : CoreRule). slice_get r.alts at.1 ≡ Some alt) w.is e.is_alt) in
      let good = good_alt at w.item.holder v.item (h.alts at w.item v.item (record { is_rule = w.is_item; is_alt = v.is_item })) in
      subst (λ o. GoodAlt alone at o alt) (sym (ap (λ (r : CoreRule). r.holder) w.is)) (subst (GoodAlt alone at w.item.holder) (sym v.is) good)

  global : (at : ℕ × ℕ) → IsGlobalAlt g at → IsGlobalAlt alone at
  global at h = (rule_alone h.0, alt_alone h.1, to_alone g h.0 h.1 at h.2, h.3)

  formed : WellFormed g → WellFormed alone
  formed h = record {
    first = (rule_alone h.first.0, rule_is g 0 ∙ ap (option_map rule_alone) h.first.1, h.first.2);
    limit = subst (λ n. n ≤ 1024) (sym (length-map g.rules rule_alone)) h.limit;
    rules = λ r rule e.
        let w = written rule_alone g.rules r rule e in
        let k = h.rules r w.item w.is_item in
        let many : length rule.alts ≡ length w.item.alts = ap (λ (x : CoreRule). length x.alts) w.is ∙ length-map w.item.alts alt_alone in
        record { some = subst (λ n. 0 < n) (sym many) k.some; limit = subst (λ n. n ≤ 64) (sym many) k.limit };
    alts = alts h;
    holders = λ r holder e. global holder (h.holders r holder (sym (holder_is g r) ∙ e));
    few_names = h.few_names;
    names_differ = h.names_differ;
    few_slots = subst (λ n. n < 2 ^ 32) (sym (slots g)) h.few_slots;
  }

pub formed_without_orders : FormedWithout
formed_without_orders = formed

pub good_as_ordered : GoodAsOrdered
good_as_ordered g formed_alone ordered = record {
  well_formed = whole g formed_alone;
  ordered = λ at rule alt there. order_to (Provides (without_orders g) at alt.terms) (Provides g at alt.terms) (length alt.terms)
      (λ u v lt p. provides_from g at alt.terms u v p) (λ u v lt p. provides_to g at alt.terms u v p) [] alt.order (ordered at rule alt there);
}
