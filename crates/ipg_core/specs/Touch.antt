-- Which bytes a result touches: the start and the end of a result, and of a node.
use Rattle.std.specs.Prelude.{ℕ, ◌+◌, ◌-◌, Bool, nat_lt, nat_eq, min, max, if◌then◌else◌, length}
use Rattle.ipg_core.specs.declared.grammar.Primitive.{Primitive}
use Rattle.ipg_core.specs.declared.grammar.Primitive.TheVariants.{U8, U16LE, U16BE, U32LE, U32BE, U64LE, U64BE, Bytes}
use Rattle.ipg_core.specs.Tree.{Tree, Node, Kid, Sub, Token, Number, Raw, Array, Many, Kids, no_kids, kid}

-- how many bytes a number takes
abbrev pub width : Primitive → ℕ
width U8 = 1
width U16LE = 2
width U16BE = 2
width U32LE = 4
width U32BE = 4
width U64LE = 8
width U64BE = 8
width Bytes = 0

-- where a result begins and ends to touch bytes; it touches one where start < end
pub record Ends : Type 0 where
  pub start : ℕ
  pub end : ℕ

abbrev pub touches : Ends → Bool
touches e = nat_lt e.start e.end

-- nothing of a part of n bytes
unfoldable pub untouched : ℕ → Ends
untouched n = record { start = n; end = 0 }

-- as seen from a parent in which the part begins at l
unfoldable pub moved : ℕ → Ends → Ends
moved l e = record { start = l + e.start; end = l + e.end }

-- the first w bytes of a part of n, where w is above 0
unfoldable pub first_of : ℕ → ℕ → Ends
first_of n w = if nat_eq w 0 then untouched n else record { start = 0; end = w }

abbrev pub tree_ends : Tree → Ends
tree_ends (Node rule size attrs start end kids) = record { start = start; end = end }

-- the ends of a child in its parent's part; an array or a repetition as a whole has none but those of its items
abbrev pub ends_of : Kid → Ends
ends_of (Sub from to tree) = moved from (tree_ends tree)
ends_of (Token from to bytes) = moved from (first_of (to - from) (length bytes))
ends_of (Number from to prim high low) = moved from (first_of (to - from) (width prim))
ends_of (Raw from to bytes) = record { start = from; end = to }
ends_of (Array sym items) = record { start = 0; end = 0 }
ends_of (Many sym items) = record { start = 0; end = 0 }

-- what two results touch together
unfoldable pub together : Ends → Ends → Ends
together a b =
    if touches a then (if touches b then record { start = min a.start b.start; end = max a.end b.end } else a)
    else b

-- what children touch together, items included, else `none`
abbrev mutual
  pub kids_touch : Kids → Ends → Ends
  kids_touch no_kids none = none
  kids_touch (kid k ks) none = together (kid_touches k none) (kids_touch ks none)

  pub kid_touches : Kid → Ends → Ends
  kid_touches (Array sym items) none = kids_touch items none
  kid_touches (Many sym items) none = kids_touch items none
  kid_touches k none = ends_of k
