-- A good grammar by which parsing ends means something on each input.
use Rattle.std.proofs.Common.{◌≡◌, ℕ, refl, sym, ap, ◌∙◌, subst, List, [], Result, None, Option}
use Rattle.std.proofs.lemmas.Option.{slice_get_within}
use Rattle.ipg_core.specs.Grammar.{Grammar, holder_of, rule_at}
use Rattle.ipg_core.specs.Good.{Good}
use Rattle.ipg_core.specs.Grown.{IsInput, GrownUnder}
use Rattle.ipg_core.specs.Meaning.{Means, den}
use Rattle.ipg_core.specs.Run.{Stop}
use Rattle.ipg_core.specs.Total.{Fits, Total, height_for}
use Rattle.ipg_core.specs.Tree.{Tree}

module _ (g : Grammar) (good : Good g) where
  pub first_is_global : holder_of (rule_at g 0) ≡ None
  first_is_global = ap holder_of good.well_formed.first.1 ∙ good.well_formed.first.2

  first_fits : (s : List ℕ) → IsInput s → Fits g 0 s []
  first_fits s input = record {
    rule = slice_get_within g.rules 0 good.well_formed.first.0 good.well_formed.first.1;
    input = input;
    grown = subst (λ (holder : Option (ℕ × ℕ)). GrownUnder g holder 0 s []) (sym first_is_global) refl;
  }

  pub means : Total g → (s : List ℕ) → IsInput s → (answer : Result Tree Stop) × Means g s answer
  means total s input = (
    den g (height_for g s) 0 s [],
    record { height = height_for g s; is = refl; settled = total 0 s [] (first_fits s input) },
  )
