-- What a walk over a tree visits: the tree, and then what lies in it, each child before what lies in that.
use Rattle.std.specs.Prelude.{ℕ, ◌+◌, List, [], ◌∷◌, ◌++◌}
use Rattle.ipg_core.specs.Tree.{Tree, Node, Kid, Sub, Token, Number, Raw, Array, Many, Kids, no_kids, kid}

-- a child, how deep it lies, the place of the input where the part begins that it lies in, and how many bytes that part has
pub record Seen : Type 0 where
  pub depth : ℕ
  pub at : ℕ
  pub size : ℕ
  pub child : Kid

abbrev pub seen : ℕ → ℕ → ℕ → Kid → Seen
seen depth at size child = record { depth = depth; at = at; size = size; child = child }

abbrev mutual
  -- the visits in a tree whose part begins at `at`, its children being that deep
  pub tree_visits : ℕ → ℕ → Tree → List Seen
  tree_visits depth at (Node rule size attrs start end kids) = kids_visits depth at size kids

  -- those of a child in a part of `size` bytes that begins at `at`
  pub kid_visits : ℕ → ℕ → ℕ → Kid → List Seen
  kid_visits depth at size (Sub from to sub) = seen depth at size (Sub from to sub) ∷ tree_visits (depth + 1) (at + from) sub
  kid_visits depth at size (Token from to bytes) = seen depth at size (Token from to bytes) ∷ []
  kid_visits depth at size (Number from to prim high low) = seen depth at size (Number from to prim high low) ∷ []
  kid_visits depth at size (Raw from to bytes) = seen depth at size (Raw from to bytes) ∷ []
  kid_visits depth at size (Array sym items) = seen depth at size (Array sym items) ∷ kids_visits (depth + 1) at size items
  kid_visits depth at size (Many sym items) = seen depth at size (Many sym items) ∷ kids_visits (depth + 1) at size items

  pub kids_visits : ℕ → ℕ → ℕ → Kids → List Seen
  kids_visits depth at size no_kids = []
  kids_visits depth at size (kid one more) = kid_visits depth at size one ++ kids_visits depth at size more

-- how many bytes the part of a tree has
abbrev pub size_of : Tree → ℕ
size_of (Node rule size attrs start end kids) = size

-- the whole tree as a child of nothing, on the whole input
abbrev pub whole : Tree → Kid
whole one = Sub 0 (size_of one) one

-- all visits of a tree, itself the first
abbrev pub visits : Tree → List Seen
visits one = kid_visits 0 0 (size_of one) (whole one)

-- ---- what lies in a child

abbrev pub kids_in_tree : Tree → Kids
kids_in_tree (Node rule size attrs start end kids) = kids

-- its children or its items
abbrev pub kids_in : Kid → Kids
kids_in (Sub from to sub) = kids_in_tree sub
kids_in (Token from to bytes) = no_kids
kids_in (Number from to prim high low) = no_kids
kids_in (Raw from to bytes) = no_kids
kids_in (Array sym items) = items
kids_in (Many sym items) = items

-- where the part begins that these lie in
abbrev pub place_in : ℕ → Kid → ℕ
place_in at (Sub from to sub) = at + from
place_in at (Token from to bytes) = at
place_in at (Number from to prim high low) = at
place_in at (Raw from to bytes) = at
place_in at (Array sym items) = at
place_in at (Many sym items) = at

-- how many bytes that part has, where the child lies in one of `size` bytes
abbrev pub size_in : ℕ → Kid → ℕ
size_in size (Sub from to sub) = size_of sub
size_in size (Token from to bytes) = size
size_in size (Number from to prim high low) = size
size_in size (Raw from to bytes) = size
size_in size (Array sym items) = size
size_in size (Many sym items) = size

-- the ends of its interval; an array and a repetition have none, and 0 stands for both
abbrev pub from_of : Kid → ℕ
from_of (Sub from to sub) = from
from_of (Token from to bytes) = from
from_of (Number from to prim high low) = from
from_of (Raw from to bytes) = from
from_of (Array sym items) = 0
from_of (Many sym items) = 0

abbrev pub to_of : Kid → ℕ
to_of (Sub from to sub) = to
to_of (Token from to bytes) = to
to_of (Number from to prim high low) = to
to_of (Raw from to bytes) = to
to_of (Array sym items) = 0
to_of (Many sym items) = 0

-- where a visit of it ends in a part of `size` bytes: an array and a repetition end where that part does
abbrev pub end_in : ℕ → Kid → ℕ
end_in size (Sub from to sub) = to
end_in size (Token from to bytes) = to
end_in size (Number from to prim high low) = to
end_in size (Raw from to bytes) = to
end_in size (Array sym items) = size
end_in size (Many sym items) = size
