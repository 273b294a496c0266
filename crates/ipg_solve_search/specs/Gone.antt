-- The numbers of facts where some are taken out from between others, and the steps that name them.
use Rattle.std.specs.Prelude.{ℕ, ◌-◌, nat_lt, if◌then◌else◌, List, [], ◌∷◌, Option, None, Some, option_and_then}
use Rattle.std.specs.Option.{option_map}
use Rattle.ipg_cert.specs.declared.refutation.Step.{Step}
use Rattle.ipg_cert.specs.declared.refutation.Step.TheVariants.{Combine, Split, Either}

-- the `count` facts behind the first `kept` are gone: those behind them move up
abbrev pub renumbered : ℕ → ℕ → ℕ → Option ℕ
renumbered kept count fact = if nat_lt fact kept then Some fact else (if nat_lt (fact - kept) count then None else Some (fact - count))

-- the entries, if they name no fact that is gone
abbrev pub entries_without : ℕ → ℕ → List (ℕ × ℕ) → Option (List (ℕ × ℕ))
entries_without kept count [] = Some []
entries_without kept count (entry ∷ entries) =
    option_and_then (λ fact. option_map (λ rest. (entry.0, fact) ∷ rest) (entries_without kept count entries)) (renumbered kept count entry.1)

-- the step, if it names no fact that is gone
abbrev pub step_without : ℕ → ℕ → Step → Option Step
step_without kept count (Combine entries) = option_map Combine (entries_without kept count entries)
step_without kept count (Split x at) = Some (Split x at)
step_without kept count (Either fact parts) = option_map (λ f. Either f parts) (renumbered kept count fact)
