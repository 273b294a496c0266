-- Orders are one, and so is where they get stuck.
use Rattle.std.proofs.Common.{◌≡◌, ℕ, zero, suc, ◌<◌, ◌⊎◌, inl, inr, refl, sym, ap, ◌∙◌, subst, arith, List, [], ◌∷◌, Option, Some, length, true≢false}
use Rattle.std.specs.Prelude.{map, slice_get}
use Rattle.std.proofs.lemmas.Bool.{cases_order}
use Rattle.ipg_core.specs.declared.grammar.CoreTerm.{CoreTerm}
use Rattle.ipg_core.specs.declared.grammar.CoreAlt.{CoreAlt}
use Rattle.ipg_core.specs.declared.grammar.CoreRule.{CoreRule}
use Rattle.ipg_core.specs.Grammar.{Grammar}
use Rattle.ipg_core.specs.Order.{InOrder, Provides}
use Rattle.ipg_core.specs.Good.{Good, AltAt}
use Rattle.ipg_order.specs.Stuck.{IsEnd, EndsAt}
use Rattle.ipg_order.specs.Answer.{alt_alone, rule_alone, without_orders, IsBefore, IsFirstStuck}
use Rattle.ipg_order.specs.Laws.{OrdersOnce, GoodIsNotStuck, StuckOnce}
use Rattle.ipg_order.proofs.Alone.{of_alone, provides_to, provides_from}
use Rattle.ipg_order.proofs.Sequences.{order_to}
use Rattle.ipg_order.proofs.Stuck.{same_next, stuck_has_none}

-- ---- the order of terms by one relation

module _ (provides : ℕ → ℕ → Type 0) (n : ℕ) where
  same_order : (taken one other : List ℕ) → InOrder provides n taken one → InOrder provides n taken other → one ≡ other
  same_order taken [] [] a b = refl
  same_order taken [] (v ∷ other) a b = absurd (true≢false (sym (a v b.0.below) ∙ b.0.fresh))
  same_order taken (u ∷ one) [] a b = absurd (true≢false (sym (b u a.0.below) ∙ a.0.fresh))
  same_order taken (u ∷ one) (v ∷ other) a b =
      let e = same_next provides n taken u v a.0 b.0 in
      let rest = same_order (u ∷ taken) one other a.1 (subst (λ x. InOrder provides n (x ∷ taken) other) (sym e) b.1) in
      ap (λ x. x ∷ one) e ∙ ap (λ xs. v ∷ xs) rest

  same_end : (taken : List ℕ) (u v : ℕ) → IsEnd provides n taken u → IsEnd provides n taken v → u ≡ v
  same_end taken u v a b =
      let before : u < v → ⊥ = λ lt. true≢false (sym (b.least u lt) ∙ a.fresh) in
      let behind : v < u → ⊥ = λ lt. true≢false (sym (a.least v lt) ∙ b.fresh) in
      omega arith

  same_stuck : (taken one other : List ℕ) (u v : ℕ) → EndsAt provides n taken one u → EndsAt provides n taken other v → u ≡ v
  same_stuck taken [] [] u v a b = same_end taken u v a b
  same_stuck taken [] (x ∷ other) u v a b = absurd (a.none_next x b.0)
  same_stuck taken (x ∷ one) [] u v a b = absurd (b.none_next x a.0)
  same_stuck taken (x ∷ one) (y ∷ other) u v a b =
      let e = same_next provides n taken x y a.0 b.0 in
      same_stuck (x ∷ taken) one other u v a.1 (subst (λ z. EndsAt provides n (z ∷ taken) other v) (sym e) b.1)

-- ---- grammars that differ in no more than orders

across : (g h : Grammar) → without_orders g ≡ without_orders h → (at : ℕ × ℕ) (terms : List CoreTerm) (u v : ℕ)
    → Provides g at terms u v → Provides h at terms u v
across g h same at terms u v p = provides_from h at terms u v (subst (λ x. Provides x at terms u v) same (provides_to g at terms u v p))

same_lists : {X Y : Type 0} (f : X → Y) (xs ys : List X) → map f xs ≡ map f ys
    → ((i : ℕ) (x y : X) → slice_get xs i ≡ Some x → slice_get ys i ≡ Some y → f x ≡ f y → x ≡ y) → xs ≡ ys
same_lists f [] [] e each = refl
same_lists f [] (y ∷ ys) e each = absurd (cc)
same_lists f (x ∷ xs) [] e each = absurd (cc)
same_lists f (x ∷ xs) (y ∷ ys) e each =
    let head : f x ≡ f y = cc in
    let tail : map f xs ≡ map f ys = cc in
    ap (λ z. z ∷ xs) (each zero x y refl refl head) ∙ ap (λ zs. y ∷ zs) (same_lists f xs ys tail (λ i. each (suc i)))

alt_with : List CoreTerm → List ℕ → CoreAlt
alt_with terms order = record { terms = terms; order = order }

rule_with : List ℕ → Option (ℕ × ℕ) → List CoreAlt → CoreRule
rule_with name holder alts = record { name = name; holder = holder; alts = alts }

grammar_with : List CoreRule → List (List ℕ) → Grammar
grammar_with rules names = record { rules = rules; names = names }

module _ (g h : Grammar) (good_g : Good g) (good_h : Good h) (same : without_orders g ≡ without_orders h) where
  alt_same : (at : ℕ × ℕ) (one : CoreRule) (other : CoreRule) (p q : CoreAlt) → AltAt g one p at → AltAt h other q at → alt_alone p ≡ alt_alone q → p ≡ q
  unfolding alt_with
  alt_same at one other p q in_g in_h e =
      let terms : p.terms ≡ q.terms = ap (λ (x : CoreAlt). x.terms) e in
      let here = subst (λ ts. InOrder (Provides g at ts) (length ts) [] p.order) terms (good_g.ordered at one p in_g) in
      let there = order_to (Provides h at q.terms) (Provides g at q.terms) (length q.terms) (λ u v lt p. across h g (sym same) at q.terms u v p)
      (λ u v lt p. across g h same at q.terms u v p) [] q.order (good_h.ordered at other q in_h) in
      ap (λ ts. alt_with ts p.order) terms ∙ ap (λ o. alt_with q.terms o) (same_order (Provides g at q.terms) (length q.terms) [] p.order q.order here there)

  rule_same : (r : ℕ) (x y : CoreRule) → slice_get g.rules r ≡ Some x → slice_get h.rules r ≡ Some y → rule_alone x ≡ rule_alone y → x ≡ y
  unfolding rule_with
  rule_same r x y in_g in_h e =
      let alts = same_lists alt_alone x.alts y.alts (ap (λ (z : CoreRule). z.alts) e)
      (λ a p q is_p is_q same_p. alt_same (r, a) x y p q (record { is_rule = in_g; is_alt = is_p }) (record { is_rule = in_h; is_alt = is_q }) same_p) in
      ap (λ n. rule_with n x.holder x.alts) (ap (λ (z : CoreRule). z.name) e)
      ∙ ap (λ o. rule_with y.name o x.alts) (ap (λ (z : CoreRule). z.holder) e)
      ∙ ap (λ xs. rule_with y.name y.holder xs) alts

  grammar_same : g ≡ h
  unfolding grammar_with
  grammar_same =
      ap (λ rules. grammar_with rules g.names) (same_lists rule_alone g.rules h.rules (ap (λ (x : Grammar). x.rules) same) rule_same)
      ∙ ap (λ names. grammar_with h.rules names) (ap (λ (x : Grammar). x.names) same)

pub orders_once : OrdersOnce
orders_once g h good_g good_h same = grammar_same g h good_g good_h same

-- ---- where an order gets stuck

pub good_is_not_stuck : GoodIsNotStuck
good_is_not_stuck g at u good s =
    let w = of_alone g s.rule s.alt at s.is_alt in
    let terms : w.alt_there.terms ≡ s.alt.terms = sym (ap (λ (a : CoreAlt). a.terms) w.same_alt) in
    let known = subst (λ ts. InOrder (Provides g at ts) (length ts) [] w.alt_there.order) terms (good.ordered at w.rule_there w.alt_there w.there) in
    let moved = order_to (Provides g at s.alt.terms) (Provides (without_orders g) at s.alt.terms) (length s.alt.terms)
    (λ x y lt p. provides_to g at s.alt.terms x y p) (λ x y lt p. provides_from g at s.alt.terms x y p) [] w.alt_there.order known in
    stuck_has_none (without_orders g) at s.alt.terms u s.stuck (w.alt_there.order, moved)

-- one alternative is before the other, or they are one
places : (at other : ℕ × ℕ) → IsBefore at other ⊎ (IsBefore other at ⊎ (at ≡ other))
places at other = by (cases_order at.0 other.0)
  where
    inside : at.0 ≡ other.0 → (at.1 ≡ other.1) ⊎ ((at.1 < other.1) ⊎ (other.1 < at.1)) → IsBefore at other ⊎ (IsBefore other at ⊎ (at ≡ other))
    inside e (inl f) = inr (inr (ap (λ x. (x, at.1)) e ∙ ap (λ y. (other.0, y)) f))
    inside e (inr (inl lt)) = inl (inr (e, lt))
    inside e (inr (inr lt)) = inr (inl (inr (sym e, lt)))

    by : (at.0 ≡ other.0) ⊎ ((at.0 < other.0) ⊎ (other.0 < at.0)) → IsBefore at other ⊎ (IsBefore other at ⊎ (at ≡ other))
    by (inl e) = inside e (cases_order at.1 other.1)
    by (inr (inl lt)) = inl (inl lt)
    by (inr (inr lt)) = inr (inl (inl lt))

not_before : (g : Grammar) (at other : ℕ × ℕ) (u v : ℕ) → IsFirstStuck g at u → IsFirstStuck g other v → IsBefore at other → ⊥
not_before g at other u v s t before = stuck_has_none g at s.alt.terms u s.stuck (t.before at s.rule s.alt before s.is_alt)

-- alternatives at one place
same_alt : (g : Grammar) (at : ℕ × ℕ) (rule one : CoreRule) (alt other : CoreAlt) → AltAt g rule alt at → AltAt g one other at → alt ≡ other
same_alt g at rule one alt other a b =
    let same : rule ≡ one = let e = a.is_rule in let f = b.is_rule in cc in
    let there = subst (λ (r : CoreRule). slice_get r.alts at.1 ≡ Some alt) same a.is_alt in
    let f = b.is_alt in
    cc

pub stuck_once : StuckOnce
stuck_once g at other u v s t = by (places at other)
  where
    at_one : at ≡ other → u ≡ v
    at_one e =
        let stuck = subst (λ p. IsFirstStuck g p u) e s in
        let alt = same_alt g other stuck.rule t.rule stuck.alt t.alt stuck.is_alt t.is_alt in
        let there = subst (λ (a : CoreAlt). EndsAt (Provides g other a.terms) (length a.terms) [] stuck.stuck.order u) alt stuck.stuck.ends in
        same_stuck (Provides g other t.alt.terms) (length t.alt.terms) [] stuck.stuck.order t.stuck.order u v there t.stuck.ends

    by : IsBefore at other ⊎ (IsBefore other at ⊎ (at ≡ other)) → (at ≡ other) × (u ≡ v)
    by (inl before) = absurd (not_before g at other u v s t before)
    by (inr (inl before)) = absurd (not_before g other at v u t s before)
    by (inr (inr e)) = (e, at_one e)
