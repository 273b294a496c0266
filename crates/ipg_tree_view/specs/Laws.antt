-- What holds of a tree beside its bytes, whatever grammar, input and tree they are.
use Rattle.std.specs.Prelude.{◌≡◌, ◌<◌, ℕ, Bool, true, ◌||◌, ◌&&◌, nat_eq, nat_le, List}
use Rattle.std.specs.List.{AllByRecursion}
use Rattle.ipg_core.specs.Grammar.{Grammar}
use Rattle.ipg_core.specs.Tree.{Tree}
use Rattle.ipg_query_path.specs.declared.path.Query.{Query}
use Rattle.ipg_tree_view.specs.Picked.{picked_view}
use Rattle.ipg_tree_view.specs.View.{view}

-- a line feed, or a character of ASCII
abbrev pub is_plain : ℕ → Bool
is_plain c = nat_eq c 10 || (nat_le 32 c && nat_le c 126)

abbrev pub IsPlain : List ℕ → Type 0
IsPlain text = AllByRecursion (λ c. is_plain c ≡ true) text

-- whatever bytes the input has, and whatever names the grammar, nothing else is written
abbrev pub ViewIsPlain : Type 0
ViewIsPlain = (g : Grammar) (input : List ℕ) (one : Tree) → AllByRecursion (λ b. b < 256) input → IsPlain (view g input one)

abbrev pub PickedViewIsPlain : Type 0
PickedViewIsPlain = (g : Grammar) (input : List ℕ) (query : Query) (one : Tree) → AllByRecursion (λ b. b < 256) input → IsPlain (picked_view g input query one)
