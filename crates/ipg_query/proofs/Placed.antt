-- The ends of results as values.
use Rattle.std.proofs.Common.{◌≡◌, ℕ, ◌+◌, ◌-◌, ◌^◌, ◌<◌, ◌≤◌, Bool, true, false, List, length, Option, Some, ℤ, pos, ap, ◌∙◌, sym, arith}
use Rattle.std.proofs.Common.{bytes_eq, codes, nat_eq, if◌then◌else◌}
use Rattle.ipg_core.specs.Grammar.{Grammar}
use Rattle.ipg_core.specs.Touch.{Ends, moved, first_of, untouched, width, tree_ends, ends_of}
use Rattle.ipg_core.specs.Tree.{Tree, Node, Kid, Sub, Token, Number, Raw, Array, Many}
use Rattle.ipg_core.specs.Within.{TreeWithin, KidWithin}
use Rattle.ipg_mach_results.specs.declared.ends.Ends as code
use Rattle.ipg_mach_results.specs.Ends.{ends_view}
use Rattle.ipg_query.specs.Picked.{found, field_named, attr_named}
use Rattle.ipg_query.specs.Spots.{IsNear}

-- both ends lie within so many bytes
record AreBelow (n : ℕ) (e : Ends) : Type 0 where
  pub start : e.start ≤ n
  pub end : e.end ≤ n

by_zero : (b : Bool) (from to count n : ℕ) → from ≤ to → to ≤ n → count ≤ to - from
    → AreBelow n (moved from (if b then untouched (to - from) else record { start = 0; end = count }))
unfolding moved untouched
by_zero true from to count n order inside fits = record { start = omega arith; end = omega arith }
by_zero false from to count n order inside fits = record { start = omega arith; end = omega arith }

first_below : (from to count n : ℕ) → from ≤ to → to ≤ n → count ≤ to - from → AreBelow n (moved from (first_of (to - from) count))
unfolding first_of
first_below from to count n order inside fits = by_zero (nat_eq count 0) from to count n order inside fits

tree_below : (from to n : ℕ) (one : Tree) → from ≤ to → to ≤ n → TreeWithin (to - from) one → AreBelow n (moved from (tree_ends one))
unfolding moved
tree_below from to n (Node rule size attrs start end kids) order inside within =
    record { start = omega (arith, within.1.starts); end = omega (arith, within.1.ends) }

ends_below : (n : ℕ) (one : Kid) → KidWithin n one → AreBelow n (ends_of one)
ends_below n (Sub from to sub) w = tree_below from to n sub w.0.valid w.0.inside w.1
ends_below n (Token from to bytes) w = first_below from to (length bytes) n w.0.valid w.0.inside w.1
ends_below n (Number from to prim high low) w = first_below from to (width prim) n w.0.valid w.0.inside w.1
ends_below n (Raw from to bytes) w = record { start = omega (arith, w.0.valid, w.0.inside); end = w.0.inside }
ends_below n (Array sym items) w = record { start = omega arith; end = omega arith }
ends_below n (Many sym items) w = record { start = omega arith; end = omega arith }

module _ (g : Grammar) (name : List ℕ) (at : ℕ) (one : Kid) where
  pub start_named : (is_start : Bool) (value : Option ℤ) (ends : code.Ends) → is_start ≡ bytes_eq name (codes "start") → is_start ≡ true → IsNear at one
      → ends_view ends ≡ ends_of one → (at + ends.start < 2 ^ 63 → value ≡ Some (pos (at + ends.start))) → value ≡ field_named g name (found at one)
  start_named is_start value ends test holds near e v =
      let below = ends_below near.size one near.within in
      let same : ends.start ≡ (ends_of one).start = ap (λ (e : Ends). e.start) e in
      v (omega (arith, same, below.start, near.small))
      ∙ ap (λ n. Some (pos (at + n))) same
      ∙ sym (ap (λ b. if b then Some (pos (at + (ends_of one).start)) else (if bytes_eq name (codes "end") then Some (pos (at + (ends_of one).end))
      else attr_named g name one)) (sym test ∙ holds))

  pub ends_named : (is_start is_end : Bool) (value : Option ℤ) (ends : code.Ends) → is_start ≡ bytes_eq name (codes "start") → is_start ≡ false
      → is_end ≡ bytes_eq name (codes "end") → is_end ≡ true → IsNear at one → ends_view ends ≡ ends_of one
      → (at + ends.end < 2 ^ 63 → value ≡ Some (pos (at + ends.end))) → value ≡ field_named g name (found at one)
  ends_named is_start is_end value ends test fails other holds near e v =
      let below = ends_below near.size one near.within in
      let same : ends.end ≡ (ends_of one).end = ap (λ (e : Ends). e.end) e in
      v (omega (arith, same, below.end, near.small))
      ∙ ap (λ n. Some (pos (at + n))) same
      ∙ sym (ap (λ b. if b then Some (pos (at + (ends_of one).start)) else (if bytes_eq name (codes "end") then Some (pos (at + (ends_of one).end))
      else attr_named g name one)) (sym test ∙ fails)
      ∙ ap (λ b. if b then Some (pos (at + (ends_of one).end)) else attr_named g name one) (sym other ∙ holds))
