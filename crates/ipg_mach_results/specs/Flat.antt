-- Children of which each array and each repetition has items that are none themselves.
use Rattle.std.specs.Prelude.{◌≡◌, Bool, true, false}
use Rattle.ipg_core.specs.Tree.{Kid, Sub, Token, Number, Raw, Array, Many, Kids, no_kids, kid, items_of}

-- an array or a repetition
abbrev pub has_items : Kid → Bool
has_items (Sub from to tree) = false
has_items (Token from to bytes) = false
has_items (Number from to prim high low) = false
has_items (Raw from to bytes) = false
has_items (Array sym items) = true
has_items (Many sym items) = true

abbrev pub AreItems : Kids → Type 0
AreItems no_kids = Unit {0}
AreItems (kid k ks) = (has_items k ≡ false) × AreItems ks

abbrev pub AreFlat : Kids → Type 0
AreFlat no_kids = Unit {0}
AreFlat (kid k ks) = AreItems (items_of k) × AreFlat ks
