-- Children within a part of less than 2^63 bytes have ends of 63 bits, and so has the greatest end of such.
use Rattle.std.proofs.Common.{◌≡◌, ℕ, ◌-◌, ◌<◌, ◌≤◌, ◌^◌, refl, sym, subst, arith, Option, Some, None, length, Bool, true, false, cond}
use Rattle.std.proofs.lemmas.Grind.{common_steps}
use Rattle.ipg_core.specs.Tree as tree
use Rattle.ipg_core.specs.Tree.{Kids, no_kids, kid}
use Rattle.ipg_core.specs.Touch.{Ends, moved, first_of, untouched, width, ends_of, touches}
use Rattle.ipg_core.specs.Eval.{greatest_end, later}
use Rattle.ipg_mach_results.specs.Ends.{IsShort, AreShort, WithinIsShort, WithinAreShort}

-- the first bytes of an interval lie in it
record AreWithin (m : ℕ) (e : Ends) : Type 0 where
  start : e.start < m
  end : e.end < m

first_within : (m from to w : ℕ) → from ≤ to → to < m → w ≤ to - from → AreWithin m (moved from (first_of (to - from) w))
unfolding moved first_of untouched
first_within m from to w le lt h = record { start = grind (arith, common_steps); end = grind (arith, common_steps) }

moved_within : (m n from to : ℕ) (e : Ends) → from ≤ to → to < m → n ≡ to - from → e.start ≤ n → e.end ≤ n → AreWithin m (moved from e)
unfolding moved
moved_within m n from to e le lt is a b = record { start = omega arith; end = omega arith }

short : (k : tree.Kid) → AreWithin (2 ^ 63) (ends_of k) → IsShort k
short k h = record { start = h.start; end = h.end }

inside : (n m to : ℕ) → to ≤ n → n < m → to < m
inside n m to le lt = omega arith

pub within_is_short : WithinIsShort
within_is_short n (tree.Sub from to (tree.Node rule size attrs start end kids)) lt h =
    short (tree.Sub from to (tree.Node rule size attrs start end kids))
    (moved_within (2 ^ 63) (to - from) from to (record { start = start; end = end }) h.0.valid (inside n (2 ^ 63) to h.0.inside lt) refl
    h.1.1.starts h.1.1.ends)
within_is_short n (tree.Token from to bytes) lt h =
    short (tree.Token from to bytes) (first_within (2 ^ 63) from to (length bytes) h.0.valid (inside n (2 ^ 63) to h.0.inside lt) h.1)
within_is_short n (tree.Number from to prim high low) lt h =
    short (tree.Number from to prim high low) (first_within (2 ^ 63) from to (width prim) h.0.valid (inside n (2 ^ 63) to h.0.inside lt) h.1)
within_is_short n (tree.Raw from to bytes) lt h =
    let e = inside n (2 ^ 63) to h.0.inside lt in
    record { start = inside to (2 ^ 63) from h.0.valid e; end = e }
within_is_short n (tree.Array s items) lt h = record { start = omega arith; end = omega arith }
within_is_short n (tree.Many s items) lt h = record { start = omega arith; end = omega arith }

pub within_are_short : WithinAreShort
within_are_short n no_kids lt h = tt
within_are_short n (kid k ks) lt h = (within_is_short n k lt h.0, within_are_short n ks lt h.1)

-- an end that is there is small
abbrev Small : ℕ → Option ℕ → Type 0
Small m None = Unit {0}
Small m (Some end) = end < m

chosen : (m : ℕ) (b : Bool) (x y : Option ℕ) → Small m x → Small m y → Small m (cond b x y)
chosen m true x y h k = h
chosen m false x y h k = k

later_small : (m : ℕ) (e : Ends) (o : Option ℕ) → e.end < m → Small m o → Small m (later e o)
later_small m e None h k = chosen m (touches e) (Some e.end) None h tt
later_small m e (Some end) h k = chosen m (touches e) _ (Some end) (omega arith) k

greatest_small : (ones : Kids) → AreShort ones → Small (2 ^ 63) (greatest_end ones)
greatest_small no_kids h = tt
greatest_small (kid k ks) h = later_small (2 ^ 63) (ends_of k) (greatest_end ks) h.0.end (greatest_small ks h.1)

pub greatest_short : (ones : Kids) (end : ℕ) → Some end ≡ greatest_end ones → AreShort ones → end < 2 ^ 63
greatest_short ones end e h = subst (Small (2 ^ 63)) (sym e) (greatest_small ones h)
