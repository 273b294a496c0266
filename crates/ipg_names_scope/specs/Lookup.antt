-- A set of names, as the list of them in order.
use Rattle.std.specs.Prelude.{ℕ, List, map}
use denote.Ref.{Bor}
use Rattle.indexmap.specs.IndexSet.{IndexSet}

abbrev pub shown : {S : Type 0} → IndexSet (Bor (List ℕ)) S → List (List ℕ)
shown set = map (λ name. name.now) set.keys
