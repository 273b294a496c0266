-- Alternatives put in order one after another.
use Rattle.std.proofs.Common.{◌≡◌, ℕ, zero, suc, ◌+◌, ◌<◌, refl, ap, ◌∙◌, subst, arith, List, [], ◌∷◌, ◌++◌, Some, length}
use Rattle.std.specs.Prelude.{slice_get}
use Rattle.std.proofs.Common.{append-nil}
use Rattle.std.proofs.lemmas.Option.{slice_get_within}
use Rattle.ipg_core.specs.declared.grammar.CoreAlt.{CoreAlt}
use Rattle.ipg_core.specs.declared.grammar.CoreRule.{CoreRule}
use Rattle.ipg_core.specs.MustTouch.{Marks}
use Rattle.ipg_complete.specs.declared.completed.CompletedAlt.{CompletedAlt}
use Rattle.ipg_complete.specs.declared.completed.CompletedRule.{CompletedRule}
use Rattle.ipg_order.specs.Providers.{Holders}
use Rattle.ipg_order.specs.Ordered.{IsOrderedAlt, AreOrderedAlts, HasOrder, IsOrderedRule, AreOrderedRules, HasOrders}

-- what stands after the first items
pub next_item : {X : Type 0} (xs : List X) (x : X) (rest : List X) → slice_get (xs ++ x ∷ rest) (length xs) ≡ Some x
next_item [] x rest = refl
next_item (y ∷ xs) x rest = next_item xs x rest

module _ (holders : Holders) (flags : Marks) (r : ℕ) where
  pub as_many : (n : ℕ) (olds : List CompletedAlt) (news : List CoreAlt) → AreOrderedAlts holders flags r n olds news → length news ≡ length olds
  as_many n [] [] h = refl
  as_many n (old ∷ olds) (new ∷ news) h = ap suc (as_many (n + 1) olds news h.1)
  as_many n [] (new ∷ news) h = absurd h
  as_many n (old ∷ olds) [] h = absurd h

  pub one_more : (n : ℕ) (olds : List CompletedAlt) (news : List CoreAlt) (old : CompletedAlt) (new : CoreAlt)
      → AreOrderedAlts holders flags r n olds news → IsOrderedAlt holders flags (r, n + length olds) old new
      → AreOrderedAlts holders flags r n (olds ++ old ∷ []) (news ++ new ∷ [])
  one_more n [] [] old new h is = (subst (λ k. IsOrderedAlt holders flags (r, k) old new) (omega arith) is, tt)
  one_more n (o ∷ olds) (w ∷ news) old new h is = (
    h.0,
    one_more (n + 1) olds news old new h.1
        (subst (λ k. IsOrderedAlt holders flags (r, k) old new) (let z : n + length (o ∷ olds) ≡ (n + 1) + length olds = omega arith in z) is),
  )
  one_more n [] (w ∷ news) old new h is = absurd h
  one_more n (o ∷ olds) [] old new h is = absurd h

  -- the first alternatives have orders
  pub have_orders : (n : ℕ) (olds rest : List CompletedAlt) (news : List CoreAlt) → AreOrderedAlts holders flags r n olds news
      → (b : ℕ) (other : CompletedAlt) → b < length olds → slice_get (olds ++ rest) b ≡ Some other → HasOrder holders flags (r, n + b) other
  have_orders n [] rest [] h b other lt e = absurd (omega arith)
  have_orders n (old ∷ olds) rest (new ∷ news) h zero other lt e =
      let same : old ≡ other = cc in
      let has : HasOrder holders flags (r, n) old = (new.order, h.0.order) in
      subst (λ k. HasOrder holders flags (r, k) other) (let z : n ≡ n + 0 = omega arith in z) (subst (HasOrder holders flags (r, n)) same has)
  have_orders n (old ∷ olds) rest (new ∷ news) h (suc b) other lt e =
      subst (λ k. HasOrder holders flags (r, k) other) (let z : (n + 1) + b ≡ n + suc b = omega arith in z)
      (have_orders (n + 1) olds rest news h.1 b other (omega arith) e)
  have_orders n [] rest (new ∷ news) h b other lt e = absurd h
  have_orders n (old ∷ olds) rest [] h b other lt e = absurd h

-- ---- rules in order one after another

module _ (holders : Holders) (flags : Marks) where
  -- all alternatives in order
  all_orders : (r : ℕ) (old : CompletedRule) (new : CoreRule) → IsOrderedRule holders flags r old new → HasOrders holders flags r old
  all_orders r old new h b alt e =
      subst (λ k. HasOrder holders flags (r, k) alt) (let z : 0 + b ≡ b = omega arith in z)
      (have_orders holders flags r 0 old.alts [] new.alts h.alts b alt (slice_get_within old.alts b alt e)
      (ap (λ xs. slice_get xs b) (append-nil old.alts) ∙ e))

  pub as_many_rules : (n : ℕ) (olds : List CompletedRule) (news : List CoreRule) → AreOrderedRules holders flags n olds news → length news ≡ length olds
  as_many_rules n [] [] h = refl
  as_many_rules n (old ∷ olds) (new ∷ news) h = ap suc (as_many_rules (n + 1) olds news h.1)
  as_many_rules n [] (new ∷ news) h = absurd h
  as_many_rules n (old ∷ olds) [] h = absurd h

  pub one_more_rule : (n : ℕ) (olds : List CompletedRule) (news : List CoreRule) (old : CompletedRule) (new : CoreRule)
      → AreOrderedRules holders flags n olds news → IsOrderedRule holders flags (n + length olds) old new
      → AreOrderedRules holders flags n (olds ++ old ∷ []) (news ++ new ∷ [])
  one_more_rule n [] [] old new h is = (subst (λ k. IsOrderedRule holders flags k old new) (omega arith) is, tt)
  one_more_rule n (o ∷ olds) (w ∷ news) old new h is = (
    h.0,
    one_more_rule (n + 1) olds news old new h.1
        (subst (λ k. IsOrderedRule holders flags k old new) (let z : n + length (o ∷ olds) ≡ (n + 1) + length olds = omega arith in z) is),
  )
  one_more_rule n [] (w ∷ news) old new h is = absurd h
  one_more_rule n (o ∷ olds) [] old new h is = absurd h

  pub rules_have_orders : (n : ℕ) (olds rest : List CompletedRule) (news : List CoreRule) → AreOrderedRules holders flags n olds news
      → (s : ℕ) (other : CompletedRule) → s < length olds → slice_get (olds ++ rest) s ≡ Some other → HasOrders holders flags (n + s) other
  rules_have_orders n [] rest [] h s other lt e = absurd (omega arith)
  rules_have_orders n (old ∷ olds) rest (new ∷ news) h zero other lt e =
      let same : old ≡ other = cc in
      subst (λ k. HasOrders holders flags k other) (let z : n ≡ n + 0 = omega arith in z) (subst (HasOrders holders flags n) same (all_orders n old new h.0))
  rules_have_orders n (old ∷ olds) rest (new ∷ news) h (suc s) other lt e =
      subst (λ k. HasOrders holders flags k other) (let z : (n + 1) + s ≡ n + suc s = omega arith in z)
      (rules_have_orders (n + 1) olds rest news h.1 s other (omega arith) e)
  rules_have_orders n [] rest (new ∷ news) h s other lt e = absurd h
  rules_have_orders n (old ∷ olds) rest [] h s other lt e = absurd h
