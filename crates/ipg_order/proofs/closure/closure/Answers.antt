use Rattle.std.proofs.Common.{rules, ◌≡◌, ◌*◌, ℕ, length, true, false, sym, ap, ◌∙◌, ◌⊎◌, inl, inr}
use Rattle.std.specs.Prelude.{Contains, replicate}
use Rattle.std.proofs.lemmas.List.{length-replicate}
use Rattle.ipg_core.specs.MustTouch.{is_marked}
use Rattle.ipg_order.specs.Closure.{Reached, direct}
use Rattle.ipg_order.proofs.Going.{none_set}
use Rattle.ipg_order.proofs.Handing.{are_reached}
use Rattle.ipg_order.proofs.closure.closure.Goals as goal

pub loop-init : goal.loop-init
loop-init c = record {
  size = c.set_all.ensures.size ∙ (let e : c.in_ok-flags.flags.items ≡ replicate (c.args.rows * 256) false = search rules in ap length e)
      ∙ length-replicate (c.args.rows * 256) false;
  sound = λ k h. one k (c.set_all.ensures.only k h);
  holds = c.set_all.ensures.sets;
}
  where
    one : (k : ℕ) → (is_marked c.in_ok-flags.flags.items k ≡ true) ⊎ Contains c.args.keys.now k → Reached c.args.keys.now c.args.hands.now k
    one k (inl h) = absurd (none_set (c.args.rows * 256) k
        (ap (λ fs. is_marked fs k) (let e : c.in_ok-flags.flags.items ≡ replicate (c.args.rows * 256) false = search rules in sym e) ∙ h))
    one k (inr m) = direct k m

pub returns : goal.returns
returns c = are_reached c.args.rows c.args.keys.now c.args.hands.now c.hand_on.new.flags.items c.hand_on.ensures.size
    (c.hand_on.ensures.sound c.args.keys.now c.loop.invariant.sound) (λ k m. c.hand_on.ensures.keeps k (c.loop.invariant.holds k m))
    (c.hand_on.ensures.closed c.loop-test.false)
