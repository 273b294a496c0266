-- What a path picks of a tree: parts of the input, or values.
use Rattle.std.specs.Prelude.{ℕ, zero, suc, ◌+◌, Bool, bytes_eq, codes, List, [], ◌∷◌, ◌++◌, filter, flat_map, Option, None, Some, ℤ, pos, if◌then◌else◌}
use Rattle.ipg_core.specs.Grammar.{Grammar, name_at}
use Rattle.ipg_core.specs.Environment.{number_attr}
use Rattle.ipg_core.specs.Lines.{rule_name, primitive_name}
use Rattle.ipg_core.specs.Part.{part}
use Rattle.ipg_core.specs.Touch.{ends_of}
use Rattle.ipg_core.specs.Tree.{Tree, Node, Kid, Sub, Token, Number, Raw, Array, Many, Kids, no_kids, kid, rule_of, attrs_of}
use Rattle.ipg_tree_walk.specs.Visits.{whole, from_of, to_of, kids_in_tree}
use Rattle.ipg_query_path.specs.declared.path.Query.{Query}
use Rattle.ipg_query_path.specs.declared.path.Step.{Step}
use Rattle.ipg_query_path.specs.declared.path.Step.TheVariants.{Named, Nth, Children, All}

-- a result within a tree, and the place of the input where the part begins that it lies in
pub record Found : Type 0 where
  pub at : ℕ
  pub child : Kid

abbrev pub found : ℕ → Kid → Found
found at child = record { at = at; child = child }

-- ---- what lies in a result

abbrev pub each_of : ℕ → Kids → List Found
each_of at no_kids = []
each_of at (kid one more) = found at one ∷ each_of at more

-- a child alone, or the items of an array or a repetition
abbrev pub spread : ℕ → Kid → List Found
spread at (Sub from to sub) = found at (Sub from to sub) ∷ []
spread at (Token from to bytes) = found at (Token from to bytes) ∷ []
spread at (Number from to prim high low) = found at (Number from to prim high low) ∷ []
spread at (Raw from to bytes) = found at (Raw from to bytes) ∷ []
spread at (Array sym items) = each_of at items
spread at (Many sym items) = each_of at items

abbrev pub spread_each : ℕ → Kids → List Found
spread_each at no_kids = []
spread_each at (kid one more) = spread at one ++ spread_each at more

-- the children of a node, each array and repetition replaced by its items; what is no node has none
abbrev pub below_in : ℕ → Kid → List Found
below_in at (Sub from to sub) = spread_each (at + from) (kids_in_tree sub)
below_in at (Token from to bytes) = []
below_in at (Number from to prim high low) = []
below_in at (Raw from to bytes) = []
below_in at (Array sym items) = []
below_in at (Many sym items) = []

abbrev pub below : Found → List Found
below x = below_in x.at x.child

-- a result and all that lies in it, each before what lies in that; arrays and repetitions are left out
abbrev mutual
  pub all_in_tree : ℕ → Tree → List Found
  all_in_tree at (Node rule size attrs start end kids) = all_in_kids at kids

  pub all_in : ℕ → Kid → List Found
  all_in at (Sub from to sub) = found at (Sub from to sub) ∷ all_in_tree (at + from) sub
  all_in at (Token from to bytes) = found at (Token from to bytes) ∷ []
  all_in at (Number from to prim high low) = found at (Number from to prim high low) ∷ []
  all_in at (Raw from to bytes) = found at (Raw from to bytes) ∷ []
  all_in at (Array sym items) = all_in_kids at items
  all_in at (Many sym items) = all_in_kids at items

  pub all_in_kids : ℕ → Kids → List Found
  all_in_kids at no_kids = []
  all_in_kids at (kid one more) = all_in at one ++ all_in_kids at more

abbrev pub all_of : Found → List Found
all_of x = all_in x.at x.child

-- ---- steps

-- the name of a result's symbol; arrays and repetitions have none
abbrev pub name_of : Grammar → Kid → List ℕ
name_of g (Sub from to sub) = rule_name g (rule_of sub)
name_of g (Token from to bytes) = codes "tok"
name_of g (Number from to prim high low) = primitive_name prim
name_of g (Raw from to bytes) = codes "Bytes"
name_of g (Array sym items) = []
name_of g (Many sym items) = []

abbrev pub is_named : Grammar → List ℕ → Found → Bool
is_named g name x = bytes_eq (name_of g x.child) name

abbrev pub named : Grammar → List ℕ → Found → List Found
named g name x = filter (is_named g name) (below x)

-- the one of that number, counted from 0, or none
abbrev pub only : List Found → ℕ → List Found
only [] k = []
only (x ∷ xs) zero = x ∷ []
only (x ∷ xs) (suc k) = only xs k

-- what a step puts in the place of a result
abbrev pub stepped : Grammar → Step → Found → List Found
stepped g (Named name) x = named g name x
stepped g (Nth name k) x = only (named g name x) k
stepped g Children x = below x
stepped g All x = all_of x

-- step after step, what is left
abbrev pub members : Grammar → List Step → List Found → List Found
members g [] xs = xs
members g (step ∷ steps) xs = members g steps (flat_map (stepped g step) xs)

-- ---- what is shown of a member

pub data Pick : Type 0 where
  Value : ℤ → Pick
  Part : (from to : ℕ) (bytes : List ℕ) → Pick

-- the value of the attribute of this name, among those of a node
abbrev pub value_named : List (List ℕ) → List ℕ → List (ℕ × ℤ) → Option ℤ
value_named names name [] = None
value_named names name (v ∷ vs) = if bytes_eq (name_at names v.0) name then Some v.1 else value_named names name vs

abbrev pub attr_named : Grammar → List ℕ → Kid → Option ℤ
attr_named g name (Sub from to sub) = value_named g.names name (attrs_of sub)
attr_named g name (Token from to bytes) = None
attr_named g name (Number from to prim high low) = number_attr prim name high low
attr_named g name (Raw from to bytes) = None
attr_named g name (Array sym items) = None
attr_named g name (Many sym items) = None

-- `start` and `end` are places of the input
abbrev pub field_named : Grammar → List ℕ → Found → Option ℤ
field_named g name x =
    if bytes_eq name (codes "start") then Some (pos (x.at + (ends_of x.child).start))
    else (if bytes_eq name (codes "end") then Some (pos (x.at + (ends_of x.child).end))
    else attr_named g name x.child)

abbrev pub value_if : Option ℤ → List Pick
value_if None = []
value_if (Some z) = Value z ∷ []

abbrev pub part_of : List ℕ → Found → Pick
part_of input x =
    let from = x.at + from_of x.child in
    let to = x.at + to_of x.child in
    Part from to (part input from to)

-- its part of the input; or the value of a field, where it has that
abbrev pub shown : Grammar → List ℕ → Option (List ℕ) → Found → List Pick
shown g input None x = part_of input x ∷ []
shown g input (Some name) x = value_if (field_named g name x)

-- from the root on
abbrev pub picked : Grammar → List ℕ → Query → Tree → List Pick
picked g input query one = flat_map (shown g input query.field) (members g query.steps (found 0 (whole one) ∷ []))
