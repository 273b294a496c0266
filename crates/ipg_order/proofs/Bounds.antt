-- The places of flags are within the rows, and alternatives are few.
use Rattle.std.proofs.Common.{◌≡◌, ℕ, zero, suc, ◌*◌, ◌<◌, ◌≤◌, refl, ap, subst, arith, List, [], ◌∷◌, Option, Some, None, map, length, Bool, Vec}
use Rattle.std.proofs.Common.{Global, Result, Ok, Err, IfOk}
use Rattle.std.specs.declared.alloc.AllocError.{AllocError}
use Rattle.std.specs.Prelude.{slice_get, Contains}
use Rattle.std.specs.List.{AllByRecursion}
use Rattle.std.proofs.lemmas.List.{length-map}
use Rattle.std.proofs.lemmas.Option.{slice_get_within}
use Rattle.ipg_core.specs.Grammar.{rule_at, holder_of}
use Rattle.ipg_core.specs.Good.{WellFormed}
use Rattle.ipg_core.specs.declared.grammar.CoreRule.{CoreRule}
use Rattle.ipg_complete.specs.declared.completed.CompletedAlt.{CompletedAlt}
use Rattle.ipg_complete.specs.declared.completed.CompletedRule.{CompletedRule}
use Rattle.ipg_complete.specs.Unordered.{Unordered, core_of, rule_of, alt_of}
use Rattle.ipg_order.specs.declared.closure.Hand.{Hand}
use Rattle.ipg_order.specs.Closure.{IsRow, AreReached}
use Rattle.ipg_order.specs.Reading.{TellWaits}
use Rattle.ipg_order.specs.Locals.{IsFew, all_keys, all_hands}
use Rattle.ipg_order.proofs.Members.{here, later}
use Rattle.ipg_order.proofs.Telling.{rule_there, is_key, is_hand, column_below, tell_waits}

pub each : {X : Type 0} (P : X → Type 0) (xs : List X) → ((x : X) → Contains xs x → P x) → AllByRecursion P xs
each P [] h = tt
each P (x ∷ xs) h = (h x (here x xs), each P xs (λ y m. h y (later x xs y m)))

pub at_each : {X : Type 0} (P : X → Type 0) (xs : List X) → ((k : ℕ) (x : X) → slice_get xs k ≡ Some x → P x) → AllByRecursion P xs
at_each P [] h = tt
at_each P (x ∷ xs) h = (h zero x refl, at_each P xs (λ k y e. h (suc k) y e))

mapped : {X Y : Type 0} (f : X → Y) (xs : List X) (k : ℕ) (x : X) → slice_get xs k ≡ Some x → slice_get (map f xs) k ≡ Some (f x)
mapped f [] k x e = absurd (cc)
mapped f (y ∷ xs) zero x e = let same : y ≡ x = cc in ap (λ z. Some (f z)) same
mapped f (y ∷ xs) (suc k) x e = mapped f xs k x e

holder_there : (rules : List CoreRule) (r : ℕ) (o : Option CoreRule) (holder : ℕ × ℕ) → slice_get rules r ≡ o → holder_of o ≡ Some holder → r < length rules
holder_there rules r None holder e h = absurd (cc)
holder_there rules r (Some rule) holder e h = slice_get_within rules r rule e

module _ (c : Unordered) (good : WellFormed (core_of c)) where
  rows : length (map rule_of c.rules) ≡ length c.rules
  rows = length-map c.rules rule_of

  pub is_few : IsFew c.rules
  is_few = record {
    count = let a = good.limit in let b = rows in omega arith;
    each = at_each (λ (rule : CompletedRule). AllByRecursion (λ (alt : CompletedAlt). length alt.terms ≤ 256) rule.alts) c.rules (λ r rule e.
        at_each (λ (alt : CompletedAlt). length alt.terms ≤ 256) rule.alts (λ a alt k.
        (good.alts (r, a) (rule_of rule) (alt_of alt) (record { is_rule = rule_there c r rule e; is_alt = mapped alt_of rule.alts a alt k })).limit));
  }

  row_below : (r : ℕ) (holder : ℕ × ℕ) → holder_of (rule_at (core_of c) r) ≡ Some holder → r < length c.rules
  row_below r holder h = let lt = holder_there (map rule_of c.rules) r (rule_at (core_of c) r) holder refl h in let e = rows in omega arith

  pub keys_below : AllByRecursion (λ k. k < length c.rules * 256) (all_keys c.rules)
  keys_below = each (λ k. k < length c.rules * 256) (all_keys c.rules) (λ k m. let key = is_key c good k m in
      let row = row_below key.row key.holder key.is_local in
      let column = column_below c good key.row key.holder key.column key.waits.attr key.is_local key.waits.sets in
      let is = key.is in omega arith)

  pub hands_below : AllByRecursion (IsRow (length c.rules)) (all_hands c.rules)
  hands_below = each (IsRow (length c.rules)) (all_hands c.rules) (λ hand m. let h = is_hand c good hand m in
      (row_below hand.caller h.holder h.is_local, row_below hand.callee h.under h.callee_local))

-- flags that are reached tell of what waits
pub if_reached : (c : Unordered) (rules : List CompletedRule) (keys : List ℕ) (hands : List Hand) (flags : Result (Vec Bool Global) AllocError)
    → rules ≡ c.rules → keys ≡ all_keys rules → hands ≡ all_hands rules → WellFormed (core_of c)
    → IfOk flags (λ f. AreReached (length rules) keys hands f.items) → IfOk flags (λ f. TellWaits c f.items)
if_reached c rules keys hands (Ok f) e k h good reached =
    tell_waits c good f.items
    (subst (λ rs. AreReached (length rs) (all_keys rs) (all_hands rs) f.items) e
    (subst (λ hs. AreReached (length rules) (all_keys rules) hs f.items) h (subst (λ ks. AreReached (length rules) ks hands f.items) k reached)))
if_reached c rules keys hands (Err x) e k h good reached = reached
