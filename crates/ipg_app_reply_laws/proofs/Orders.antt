-- A well formed grammar has a good one that differs in no more than orders, or a first alternative that gets stuck.
use Rattle.std.proofs.Common.{◌≡◌, ℕ, ◌⊎◌, inl, inr, refl, sym, ap, ◌∙◌, subst, List, length, Option, Some, None}
use Rattle.std.specs.Prelude.{slice_get}
use Rattle.std.proofs.lemmas.Option.{slice_get_within}
use Rattle.ipg_core.specs.declared.grammar.CoreTerm.{CoreTerm}
use Rattle.ipg_core.specs.declared.grammar.CoreAlt.{CoreAlt}
use Rattle.ipg_core.specs.declared.grammar.CoreRule.{CoreRule}
use Rattle.ipg_core.specs.Grammar.{Grammar}
use Rattle.ipg_core.specs.Order.{Provides}
use Rattle.ipg_core.specs.Good.{AltAt, IsOrdered, WellFormed, Good}
use Rattle.ipg_order.specs.Stuck.{IsStuck}
use Rattle.ipg_order.specs.Answer.{alt_alone, rule_alone, without_orders, HasOrder, IsBefore, IsFirstStuck}
use Rattle.ipg_order.specs.Laws.{GoodAsOrdered}
use Rattle.ipg_app_reply_laws.proofs.Classical.{Somehow, some, ◌>>=◌, by, First, first_of, first_below, each_below}
use Rattle.ipg_app_reply_laws.proofs.Lists.{Chosen, choose}
use Rattle.ipg_app_reply_laws.proofs.Ordering.{arranged}

-- ---- a choice for each of a list

at_least : {X : Type 0} (P : ℕ → X → Type 0) (k : ℕ) (o : Option X) → ((x : X) → o ≡ Some x → Somehow (P k x)) → Somehow ((x : X) → o ≡ Some x → P k x)
at_least P k None f = some (λ x e. absurd (cc))
at_least P k (Some y) f = do
  p ← f y refl
  some (λ x e. subst (P k) (let same : y ≡ x = cc in same) p)

pub each_item : {X : Type 0} (P : ℕ → X → Type 0) (xs : List X) → ((k : ℕ) (x : X) → slice_get xs k ≡ Some x → Somehow (P k x))
    → Somehow ((k : ℕ) (x : X) → slice_get xs k ≡ Some x → P k x)
each_item P xs f = do
  those ← each_below (λ k. (x : _) → slice_get xs k ≡ Some x → P k x) (length xs) (λ k lt. at_least P k (slice_get xs k) (f k))
  some (λ k x e. those k (slice_get_within xs k x e) x e)

-- ---- each alternative

module _ (g : Grammar) where
  abbrev Stands : ℕ × ℕ → List CoreTerm → Type 0
  Stands at terms = HasOrder g at terms ⊎ ((u : ℕ) × IsStuck g at terms u)

  stands : (at : ℕ × ℕ) (terms : List CoreTerm) → Somehow (Stands at terms)
  stands at terms = do
    a ← arranged (Provides g at terms) (length terms)
    some (by a (λ o. inl o) (λ e. inr (e.1, record { order = e.0; ends = e.2 })))

  abbrev AllStand : Type 0
  AllStand = (r : ℕ) (rule : CoreRule) → slice_get g.rules r ≡ Some rule → (a : ℕ) (alt : CoreAlt) → slice_get rule.alts a ≡ Some alt → Stands (r, a) alt.terms

  all_stand : Somehow AllStand
  all_stand =
      each_item (λ r rule. (a : ℕ) (alt : CoreAlt) → slice_get rule.alts a ≡ Some alt → Stands (r, a) alt.terms) g.rules
      (λ r rule e. each_item (λ a alt. Stands (r, a) alt.terms) rule.alts (λ a alt h. stands (r, a) alt.terms))

  -- ---- the first that gets stuck

  pub record Stuck (at : ℕ × ℕ) : Type 0 where
    pub rule : CoreRule
    pub alt : CoreAlt
    pub is_alt : AltAt g rule alt at
    pub term : ℕ
    pub stuck : IsStuck g at alt.terms term

  abbrev StuckIn : ℕ → Type 0
  StuckIn r = (a : ℕ) × Stuck (r, a)

  -- one that isn't stuck has an order
  ordered_where : AllStand → (at : ℕ × ℕ) (rule : CoreRule) (alt : CoreAlt) → AltAt g rule alt at → (Stuck at → ⊥) → HasOrder g at alt.terms
  ordered_where all at rule alt there not =
      by (all at.0 rule there.is_rule at.1 alt there.is_alt) (λ o. o)
      (λ s. absurd (not (record { rule = rule; alt = alt; is_alt = there; term = s.0; stuck = s.1 })))

  not_stuck_before : (f : First StuckIn) (one : First (λ a. Stuck (f.at, a))) (to : ℕ × ℕ) → IsBefore to (f.at, one.at) → Stuck to → ⊥
  not_stuck_before f one to (inl less) s = f.before to.0 less (to.1, s)
  not_stuck_before f one to (inr same) s = one.before to.1 same.1 (subst (λ r. Stuck (r, to.1)) same.0 s)

  first_stuck : AllStand → (f : First StuckIn) (one : First (λ a. Stuck (f.at, a))) → IsFirstStuck g (f.at, one.at) one.holds.term
  first_stuck all f one = record {
    rule = one.holds.rule;
    alt = one.holds.alt;
    is_alt = one.holds.is_alt;
    stuck = one.holds.stuck;
    before = λ to rule alt before there. ordered_where all to rule alt there (not_stuck_before f one to before);
  }

  abbrev AllOrdered : Type 0
  AllOrdered = (at : ℕ × ℕ) (rule : CoreRule) (alt : CoreAlt) → AltAt g rule alt at → HasOrder g at alt.terms

  pub record IsStuckFirst : Type 0 where
    pub at : ℕ × ℕ
    pub term : ℕ
    pub first : IsFirstStuck g at term

  all_or_first : Somehow (AllOrdered ⊎ IsStuckFirst)
  all_or_first = do
    all ← all_stand
    found ← first_below StuckIn (length g.rules)
    by found (λ f. do
      one ← first_of (λ a. Stuck (f.0.at, a)) f.0.holds.0 f.0.holds.1
      some (inr (record { at = (f.0.at, one.at); term = one.holds.term; first = first_stuck all f.0 one })))
        (λ none. some (inl (λ at rule alt there. ordered_where all at rule alt there
        (λ s. none at.0 (slice_get_within g.rules at.0 rule there.is_rule) (at.1, s)))))

  -- ---- with orders

  abbrev OrderedAlt : ℕ → ℕ → CoreAlt → CoreAlt → Type 0
  OrderedAlt r a old new = (alt_alone new ≡ alt_alone old) × IsOrdered g (r, a) new

  pub record OrderedRule (r : ℕ) (old new : CoreRule) : Type 0 where
    pub same : rule_alone new ≡ rule_alone old
    pub each : (a : ℕ) (alt : CoreAlt) → slice_get new.alts a ≡ Some alt → IsOrdered g (r, a) alt

  with_orders : AllOrdered → (r : ℕ) (rule : CoreRule) → slice_get g.rules r ≡ Some rule → (new : CoreRule) × OrderedRule r rule new
  with_orders all r rule there =
      let alts = choose rule.alts (OrderedAlt r) alt_alone alt_alone (λ a old new o. o.0)
      (λ a alt e. let o = all (r, a) rule alt (record { is_rule = there; is_alt = e }) in (record { terms = alt.terms; order = o.0 }, (refl, o.1))) in (
        record { name = rule.name; holder = rule.holder; alts = alts.list },
        record {
          same = ap (λ (xs : List CoreAlt). record { name = rule.name; holder = rule.holder; alts = xs }) alts.same;
          each = λ a alt e. (alts.each a alt e).2.1;
        },
      )

  pub record GoodOne : Type 0 where
    pub grammar : Grammar
    pub good : Good grammar
    pub same : without_orders grammar ≡ without_orders g

  module _ (as_ordered : GoodAsOrdered) (formed : WellFormed g) (bare : without_orders g ≡ g) (all : AllOrdered) where
    abbrev rules : Chosen g.rules OrderedRule rule_alone rule_alone
    rules = choose g.rules OrderedRule rule_alone rule_alone (λ r old new o. o.same) (λ r rule e. with_orders all r rule e)

    abbrev made : Grammar
    made = record { rules = rules.list; names = g.names }

    same_alone : without_orders made ≡ without_orders g
    same_alone = ap (λ (rs : List CoreRule). record { rules = rs; names = g.names }) rules.same

    is_g : without_orders made ≡ g
    is_g = same_alone ∙ bare

    in_order : (at : ℕ × ℕ) (rule : CoreRule) (alt : CoreAlt) → AltAt made rule alt at → IsOrdered (without_orders made) at alt
    in_order at rule alt there =
        subst (λ h. IsOrdered h at alt) (sym is_g) ((rules.each at.0 rule there.is_rule).2.each at.1 alt there.is_alt)

    good_one : GoodOne
    good_one = record {
      grammar = made;
      good = as_ordered made (subst WellFormed (sym is_g) formed) in_order;
      same = same_alone;
    }

  pub good_or_stuck : GoodAsOrdered → WellFormed g → without_orders g ≡ g → Somehow (GoodOne ⊎ IsStuckFirst)
  good_or_stuck as_ordered formed bare = do
    found ← all_or_first
    some (by found (λ all. inl (good_one as_ordered formed bare all)) (λ stuck. inr stuck))
