-- What children within a part touch together lies in it.
use Rattle.std.proofs.Common.{◌≡◌, arith, ℕ, ◌-◌, ◌≤◌, Bool, true, false, if◌then◌else◌, min, max, length, refl, ap}
use Rattle.std.proofs.lemmas.Grind.{common_steps}
use Rattle.ipg_core.specs.Tree.{Node, Kid, Sub, Token, Number, Raw, Array, Many, Kids, no_kids, kid, items_of}
use Rattle.ipg_core.specs.Touch.{Ends, touches, untouched, moved, first_of, together, kids_touch, kid_touches, width}
use Rattle.ipg_core.specs.Within.{KidWithin, KidsWithin, AreEnds}
use Rattle.ipg_mach_nodes.specs.declared.kid.Head.{Head}
use Rattle.ipg_mach_node.specs.Closes.{head_of}
use Rattle.ipg_mach_results.specs.Flat.{has_items, AreItems, AreFlat}

abbrev pub Inside : ℕ → Ends → Type 0
Inside n e = AreEnds n e.start e.end

chosen : (n : ℕ) (b : Bool) (x y : Ends) → Inside n x → Inside n y → Inside n (if b then x else y)
chosen n true x y h k = h
chosen n false x y h k = k

both : (n : ℕ) (a b : Ends) → Inside n a → Inside n b → Inside n (together a b)
unfolding together
both n a b h k =
    let starts = h.starts in
    let ends = h.ends in
    let behind = k.ends in
    let least : Inside n (record { start = min a.start b.start; end = max a.end b.end }) = record { starts = omega arith; ends = omega arith } in
    chosen n (touches a) _ b (chosen n (touches b) _ a least h) k

first_inside : (n from to w : ℕ) → from ≤ to → to ≤ n → w ≤ to - from → Inside n (moved from (first_of (to - from) w))
unfolding moved first_of untouched
first_inside n from to w le lt h = record { starts = grind (arith, common_steps); ends = grind (arith, common_steps) }

nothing_inside : (n : ℕ) → Inside n (untouched n)
unfolding untouched
nothing_inside n = record { starts = omega arith; ends = omega arith }

item_inside : (n : ℕ) (k : Kid) → has_items k ≡ false → KidWithin n k → Inside n (kid_touches k (untouched n))
unfolding moved
item_inside n (Sub from to (Node rule size attrs start end kids)) e w =
    let i = w.0.valid in let j = w.0.inside in let a = w.1.1.starts in let b = w.1.1.ends in record { starts = omega arith; ends = omega arith }
item_inside n (Token from to bytes) e w = first_inside n from to (length bytes) w.0.valid w.0.inside w.1
item_inside n (Number from to prim high low) e w = first_inside n from to (width prim) w.0.valid w.0.inside w.1
item_inside n (Raw from to bytes) e w = let i = w.0.valid in let j = w.0.inside in record { starts = omega arith; ends = j }
item_inside n (Array sym items) e w = absurd (cc)
item_inside n (Many sym items) e w = absurd (cc)

items_inside : (n : ℕ) (ks : Kids) → AreItems ks → KidsWithin n ks → Inside n (kids_touch ks (untouched n))
items_inside n no_kids h w = nothing_inside n
items_inside n (kid k ks) h w = both n _ _ (item_inside n k h.0 w.0) (items_inside n ks h.1 w.1)

kid_inside : (n : ℕ) (k : Kid) → AreItems (items_of k) → KidWithin n k → Inside n (kid_touches k (untouched n))
kid_inside n (Array sym items) h w = items_inside n items h w
kid_inside n (Many sym items) h w = items_inside n items h w
kid_inside n (Sub from to tree) h w = item_inside n (Sub from to tree) refl w
kid_inside n (Token from to bytes) h w = item_inside n (Token from to bytes) refl w
kid_inside n (Number from to prim high low) h w = item_inside n (Number from to prim high low) refl w
kid_inside n (Raw from to bytes) h w = item_inside n (Raw from to bytes) refl w

pub kids_inside : (n : ℕ) (ks : Kids) → AreFlat ks → KidsWithin n ks → Inside n (kids_touch ks (untouched n))
kids_inside n no_kids h w = nothing_inside n
kids_inside n (kid k ks) h w = both n _ _ (kid_inside n k h.0 w.0) (kids_inside n ks h.1 w.1)

-- so a head needs no ends beyond its part
pub head_is : (rule size : ℕ) (ones : Kids) (e : Ends) (start end : ℕ) → AreFlat ones → KidsWithin size ones → e ≡ kids_touch ones (untouched size)
    → start ≡ min e.start size → end ≡ min e.end size
    → (let head : Head = record { rule = rule; size = size; start = start; end = end } in head ≡ head_of rule size ones)
head_is rule size ones e start end flat within is a b =
    let i = kids_inside size ones flat within in
    let touched = kids_touch ones (untouched size) in
    let starts : e.start ≡ touched.start = ap (λ (x : Ends). x.start) is in
    let ends : e.end ≡ touched.end = ap (λ (x : Ends). x.end) is in
    let least = i.starts in
    let most = i.ends in
    let s : start ≡ touched.start = omega arith in
    let t : end ≡ touched.end = omega arith in
    cc
