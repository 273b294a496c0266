-- What a grammar that is found to leave no byte out promises of its trees.
use Rattle.std.specs.Prelude.{◌≡◌, ℕ, List, [], Ok}
use Rattle.ipg_core.specs.Grammar.{Grammar}
use Rattle.ipg_core.specs.Tree.{Tree}
use Rattle.ipg_core.specs.Meaning.{den}
use Rattle.ipg_core.specs.Good.{Good}
use Rattle.ipg_core.specs.Grown.{IsInput}
use Rattle.ipg_cert.specs.declared.refutation.Refutation.{Refutation}
use Rattle.ipg_cover.specs.Cover.{Covers}
use Rattle.ipg_cover_laws.specs.Gapless.{ComesBack}

-- where the gap of each alternative of a reached rule is refuted, the leaves of each tree of an input put it back
abbrev pub CoveredComesBack : Type 0
CoveredComesBack = (g : Grammar) (refutations : List Refutation) (height : ℕ) (s : List ℕ) (tree : Tree)
    → Good g → Covers g refutations → IsInput s → den g height 0 s [] ≡ Ok tree → ComesBack s tree
