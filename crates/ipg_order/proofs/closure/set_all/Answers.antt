use Rattle.std.proofs.Common.{◌≡◌, ◌<◌, ℕ, sym, ◌∙◌, subst, arith, length, true, take, get_or, ◌⊎◌, inl, inr}
use Rattle.std.specs.Prelude.{slice_set, Contains}
use Rattle.std.proofs.lemmas.List.{take_all}
use Rattle.ipg_core.specs.MustTouch.{is_marked}
use Rattle.ipg_order.proofs.Going.{set_here, set_keeps, was_set, set_size}
use Rattle.ipg_order.proofs.Handing.{so_far, is_there, each_below}
use Rattle.ipg_order.proofs.closure.set_all.Goals as goal

pub loop-key-preserved : goal.loop-key-preserved
loop-key-preserved c =
    let keys = c.args.keys.now in
    let i = c.loop-key.key-index in
    let old = c.loop-key.flags.items in
    let key = get_or keys i 0 in
    let room : key < length old = let a = each_below (length c.args.flags.now.items) keys i 0 c.loop-key-test.true c.requires in let b =
    c.loop-key.invariant.size in omega arith in
    record {
      size = set_size old key ∙ c.loop-key.invariant.size;
      keeps = λ k h. set_keeps old key k (c.loop-key.invariant.keeps k h);
      sets = λ k m. one k (so_far keys i 0 k c.loop-key-test.true m);
      only = λ k h. two k (was_set old key k h);
    }
  where
    one : (k : ℕ) → Contains (take c.loop-key.key-index c.args.keys.now) k ⊎ (k ≡ get_or c.args.keys.now c.loop-key.key-index 0)
        → is_marked (slice_set c.loop-key.flags.items (get_or c.args.keys.now c.loop-key.key-index 0) true) k ≡ true
    one k (inl m) = set_keeps c.loop-key.flags.items (get_or c.args.keys.now c.loop-key.key-index 0) k (c.loop-key.invariant.sets k m)
    one k (inr e) =
        let a = each_below (length c.args.flags.now.items) c.args.keys.now c.loop-key.key-index 0 c.loop-key-test.true c.requires in
        let b = c.loop-key.invariant.size in
        subst (λ n. is_marked (slice_set c.loop-key.flags.items (get_or c.args.keys.now c.loop-key.key-index 0) true) n ≡ true) (sym e)
        (set_here c.loop-key.flags.items (get_or c.args.keys.now c.loop-key.key-index 0) (omega arith))

    two : (k : ℕ) → (get_or c.args.keys.now c.loop-key.key-index 0 ≡ k) ⊎ (is_marked c.loop-key.flags.items k ≡ true)
        → (is_marked c.args.flags.now.items k ≡ true) ⊎ Contains c.args.keys.now k
    two k (inl e) = inr (subst (Contains c.args.keys.now) e (is_there c.args.keys.now c.loop-key.key-index 0 c.loop-key-test.true))
    two k (inr h) = c.loop-key.invariant.only k h

pub returns-clause-sets : goal.returns-clause-sets
returns-clause-sets c = λ k m. c.loop-key.invariant.sets k (subst (λ xs. Contains xs k) (sym (take_all c.loop-key.key-index c.args.keys.now (omega arith))) m)
