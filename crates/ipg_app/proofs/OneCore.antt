-- A text has one core grammar, or is refused in one way.
use Rattle.std.proofs.Common.{◌≡◌, ℕ, Some, Result, Ok, Err, sym, ap, ◌∙◌, subst, slice_get}
use Rattle.ipg_core.specs.declared.grammar.CoreRule.{CoreRule}
use Rattle.ipg_core.specs.Grammar.{Grammar}
use Rattle.ipg_complete.specs.Unordered as unordered
use Rattle.ipg_complete.specs.Unordered.{Unordered}
use Rattle.ipg_complete.specs.Completion.{completed}
use Rattle.ipg_names.specs.Resolved.{Resolved}
use Rattle.ipg_ast.specs.declared.grammar.Grammar as written
use Rattle.ipg_order.specs.Answer.{IsFirstStuck}
use Rattle.ipg_order.specs.Laws.{OrdersOnce, GoodIsNotStuck, StuckOnce}
use Rattle.ipg_touch.specs.Loose.{loose}
use Rattle.ipg_touch.specs.Laws.{OneLimit}
use Rattle.ipg_app_text.specs.Said.{Said}
use Rattle.ipg_app_text.specs.Refusal.{circular}
use Rattle.ipg_app_text.specs.CoreOf.{Answer, On, grammar_in, resolved, Circles, Orders, unless_loose, Touches, OrdersAndTouches, CoreFrom}
use Rattle.ipg_app.specs.Laws.{OneCore}

on_once : {A : Type 0} (r : Result A Said) (next : A → Answer → Type 0) → ((a : A) (x y : Answer) → next a x → next a y → x ≡ y)
    → (one other : Answer) → On r next one → On r next other → one ≡ other
on_once (Ok a) next once one other h k = once a one other h k
on_once (Err x) next once one other h k = h ∙ sym k

-- ---- the marks of the limit are one list

touches_once : OneLimit → (g : Grammar) (one other : Answer) → Touches g one → Touches g other → one ≡ other
touches_once one_limit g one other h k = h.is ∙ ap (λ m. unless_loose g (loose m g.rules)) (one_limit g h.marks k.marks h.limit k.limit) ∙ sym k.is

-- ---- the order is one, or gets stuck at one term

module _ (one_limit : OneLimit) (orders_once : OrdersOnce) (good_is_not_stuck : GoodIsNotStuck) (stuck_once : StuckOnce) where
  pub not_both : (c : Unordered) (g : Grammar) (said : Said) → Orders c (Ok g) → Circles c said → ⊥
  not_both c g said h k = good_is_not_stuck g k.at k.term h.0 (subst (λ x. IsFirstStuck x k.at k.term) (sym h.1) k.first)

  circles_once : (c : Unordered) (one other : Said) → Circles c one → Circles c other → one ≡ other
  circles_once c one other h k =
      let g = unordered.core_of c in
      let same = stuck_once g h.at k.at h.term k.term h.first k.first in
      let place : h.at.0 ≡ k.at.0 = ap (λ (p : ℕ × ℕ). p.0) same.0 in
      let there = subst (λ r. slice_get g.rules r ≡ Some h.first.rule) place h.first.is_alt.is_rule in
      let here = k.first.is_alt.is_rule in
      let rule : h.first.rule ≡ k.first.rule = cc in
      h.is
      ∙ ap (λ (r : CoreRule). circular r.name h.at.1 h.term) rule
      ∙ ap (λ (p : ℕ × ℕ). circular k.first.rule.name p.1 h.term) same.0
      ∙ ap (λ u. circular k.first.rule.name k.at.1 u) same.1
      ∙ sym k.is

  pub orders_same : (c : Unordered) (one other : Answer) → Orders c one → Orders c other → one ≡ other
  orders_same c (Ok g) (Ok h) a b = ap Ok (orders_once g h a.0 b.0 (a.1 ∙ sym b.1))
  orders_same c (Ok g) (Err said) a b = absurd (not_both c g said a b)
  orders_same c (Err said) (Ok h) a b = absurd (not_both c h said b a)
  orders_same c (Err said) (Err x) a b = ap Err (circles_once c said x a b)

  whole_once : (c : Unordered) (one other : Answer) → OrdersAndTouches c one → OrdersAndTouches c other → one ≡ other
  whole_once c one other h k =
      let same = orders_same c h.ordered k.ordered h.orders k.orders in
      on_once k.ordered Touches (touches_once one_limit) one other (subst (λ r. On r Touches one) same h.touches) k.touches

  pub from_once : (g : written.Grammar) (one other : Answer) → CoreFrom g one → CoreFrom g other → one ≡ other
  from_once g one other h k = on_once (resolved g) (λ (n : Resolved). OrdersAndTouches (completed n)) (λ n. whole_once (completed n)) one other h k

  pub one_core : OneCore
  one_core text one other h k = on_once (grammar_in text) CoreFrom from_once one other h k
