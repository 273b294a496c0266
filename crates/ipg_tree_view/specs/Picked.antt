-- What a path picks of a tree, beside its bytes.
use Rattle.std.specs.Prelude.{ℕ, ◌+◌, List, [], ◌∷◌, ◌++◌, flat_map, codes, Option, None, Some, ℤ}
use Rattle.std.specs.Fmt.{signed_decimal}
use Rattle.ipg_core.specs.Grammar.{Grammar}
use Rattle.ipg_core.specs.Tree.{Tree}
use Rattle.ipg_tree_walk.specs.Visits.{whole, from_of}
use Rattle.ipg_query_path.specs.declared.path.Query.{Query}
use Rattle.ipg_query.specs.Inside.{visits_of}
use Rattle.ipg_query.specs.Picked.{Found, found, members, field_named}
use Rattle.ipg_tree_view.specs.View.{line, seen_view}

-- a result and all that lies in it, in the order of the tree's lines and indented from the result on; what its lines say asks nothing of
-- the part that the result lies in, so 0 stands for how many bytes that has
abbrev pub member_view : Grammar → List ℕ → Found → List ℕ
member_view g input x = flat_map (seen_view g input) (visits_of 0 x)

-- the value of a field, at the place where the result begins
abbrev pub value_line : List ℕ → Found → ℤ → List ℕ
value_line name x z = line (x.at + from_of x.child) [] (name ++ (codes "=" ++ signed_decimal z))

abbrev pub value_view : List ℕ → Found → Option ℤ → List ℕ
value_view name x None = []
value_view name x (Some z) = value_line name x z

-- all of a result; or the value of a field, where it has that
abbrev pub shown_view : Grammar → List ℕ → Option (List ℕ) → Found → List ℕ
shown_view g input None x = member_view g input x
shown_view g input (Some name) x = value_view name x (field_named g name x)

-- one by one, what the steps of a path come to from the root on
abbrev pub picked_view : Grammar → List ℕ → Query → Tree → List ℕ
picked_view g input query one = flat_map (shown_view g input query.field) (members g query.steps (found 0 (whole one) ∷ []))
