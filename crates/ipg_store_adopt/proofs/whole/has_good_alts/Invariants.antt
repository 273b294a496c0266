use Rattle.std.proofs.Common.{◌≡◌, ℕ, Bool, drop}
use Rattle.ipg_core.specs.declared.grammar.CoreAlt.{CoreAlt}
use Rattle.ipg_store_adopt.specs.WellFormed as spec
use Rattle.ipg_store_adopt.proofs.whole.has_good_alts.Given as goal

-- what is left answers as the whole
abbrev pub invariant-loop-at : goal.invariant-loop-at
invariant-loop-at l =
    let is_good : ℕ → CoreAlt → Bool = λ a alt. spec.has_good_terms (record { rules = l.rules; names = l.names }) (l.number, a) l.rule.holder alt in
    spec.all_from is_good l.at (drop l.at l.rule.alts) ≡ spec.all_from is_good 0 l.rule.alts
