-- Whether the number of a leaf is one that its primitive can have.
use Rattle.std.proofs.Common.{◌≡◌, ℕ, ◌<◌, List, Option, Some, None, sym, ◌∙◌, MatchBool, MatchOption}
use Rattle.std.specs.Option.{is_some}
use Rattle.ipg_cover_leaves.specs.declared.leaf.Leaf.{Leaf}
use Rattle.ipg_cover_leaves.specs.declared.number.Halves.{Halves}
use Rattle.ipg_cover_leaves.specs.Bytes.{leaf_bytes}
use Rattle.ipg_cover_leaves.specs.Back.{HasBytes}

pub tells : (leaf : Leaf) (bytes : Option (List ℕ)) → leaf_bytes leaf ≡ bytes → (found : Option Halves) (limit : ℕ) (written : Halves → List ℕ)
    → MatchOption found (bytes ≡ None) (λ halves. (halves.low < limit) × (bytes ≡ Some (written halves)))
    → MatchBool (is_some found) (HasBytes leaf) (¬ HasBytes leaf)
tells leaf bytes is None limit written none = λ has. let both = sym has.1 ∙ is ∙ none in absurd (cc)
tells leaf bytes is (Some halves) limit written some = (_, is ∙ some.1)
