-- A text is of one path.
use Rattle.std.specs.Prelude.{◌≡◌, ℕ, List}
use Rattle.ipg_query_path.specs.declared.path.Query.{Query}
use Rattle.ipg_query_path.specs.Paths.{IsPath}

abbrev pub OnePath : Type 0
OnePath = (text : List ℕ) (query other : Query) → IsPath query text → IsPath other text → query ≡ other
