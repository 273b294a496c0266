-- What the leaves of a tree of a gapless grammar put back is its input.
use Rattle.std.proofs.Common.{ℕ, ◌<◌, refl, sym, ap, ◌∙◌, subst, List, [], length, inl, inr}
use Rattle.ipg_core.specs.Grammar.{Grammar, holder_of}
use Rattle.ipg_core.specs.Tree.{Tree}
use Rattle.ipg_core.specs.MustTouch.{Marks}
use Rattle.ipg_core.specs.Good.{Good}
use Rattle.ipg_core.specs.Grown.{GrownUnder, Grown}
use Rattle.ipg_core.specs.Laws.{LiesWithin, HoldsItsBytes}
use Rattle.ipg_cover_leaves.specs.Bytes.{puts}
use Rattle.ipg_cover_leaves.specs.Leaves.{leaves_of}
use Rattle.ipg_cover_leaves.specs.Back.{IsPut, IsBack}
use Rattle.ipg_cover_leaves.specs.Laws.{AnswersAreOne}
use Rattle.ipg_cover_leaves.specs.Covers.{AllPutComesBack}
use Rattle.ipg_cover_laws.specs.Missed.{GapBelow, MissedPlacesSolve}
use Rattle.ipg_cover_laws.specs.Gapless.{IsGapless, ComesBack, GaplessComesBack}

-- the first rule is global, and may be asked for each input
first_grown : (g : Grammar) → Good g → (s : List ℕ) → Grown g 0 s []
first_grown g good s =
    let first = good.well_formed.first in
    subst (λ o. GrownUnder g o 0 s []) (sym (ap holder_of first.1 ∙ first.2)) refl

no_gap : {P : Type 0} (g : Grammar) (marks : Marks) → IsGapless g marks → GapBelow g marks 0 → P
no_gap g marks gapless gap =
    absurd (gapless gap.at gap.rule gap.alt gap.reached gap.is_at (gap.solves.values, gap.solves.solves.0, gap.solves.solves.1))

comes_back : AnswersAreOne → (s : List ℕ) (tree : Tree) → IsBack (leaves_of tree) (length s) s → ComesBack s tree
comes_back one s tree is = record {
  is = is;
  alone = λ bytes other. (one (leaves_of tree) (length s)).one_back bytes s other is;
  only_memory = λ fault other. (one (leaves_of tree) (length s)).never_both s fault is other;
}

pub gapless_comes_back : MissedPlacesSolve → LiesWithin → HoldsItsBytes → AllPutComesBack → AnswersAreOne → GaplessComesBack
gapless_comes_back missed lies holds back one g marks height s tree good limit gapless input is =
    let put : (place : ℕ) → place < length s → IsPut (puts (leaves_of tree)) place = λ place lt.
    elim (missed g marks height 0 s [] tree place good limit input (first_grown g good s) is lt) [
      | inl there ↦ there
      | inr gap ↦ no_gap g marks gapless gap
    ] in
    comes_back one s tree (back s tree input.bytes (holds g height 0 s [] tree is) (lies g height 0 s [] tree is) put)
