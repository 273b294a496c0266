-- The least height that is enough for a call.
use Rattle.std.proofs.Common.{◌≡◌, ◌≢◌, ℕ, zero, suc, ◌<◌, ◌≤◌, sym, ◌∙◌, arith, List, Err, inl, inr}
use Rattle.ipg_core.specs.Grammar.{Grammar}
use Rattle.ipg_core.specs.Environment.{Values}
use Rattle.ipg_core.specs.Run.{Deep}
use Rattle.ipg_core.specs.Meaning.{den}
use Rattle.ipg_core.specs.Laws.{HeightsAgree}
use Rattle.ipg_mach_count_laws.proofs.Settled.{deep_or_not}

pub record Least (g : Grammar) (h r : ℕ) (bytes : List ℕ) (outer : Values) : Type 0 where
  pub least : ℕ
  pub low : least ≤ h
  pub settled : den g least r bytes outer ≢ Err Deep
  pub before : (k : ℕ) → k < least → den g k r bytes outer ≡ Err Deep

module _ (heights : HeightsAgree) where
  stays_deep : (g : Grammar) (k h r : ℕ) (bytes : List ℕ) (outer : Values) → k ≤ h → den g h r bytes outer ≡ Err Deep → den g k r bytes outer ≡ Err Deep
  stays_deep g k h r bytes outer le deep = elim (deep_or_not (den g k r bytes outer)) [
    | inl is ↦ is
    | inr settled ↦ absurd (settled (sym (heights g k h r bytes outer le settled) ∙ deep))
  ]

  pub least_of : (g : Grammar) (h r : ℕ) (bytes : List ℕ) (outer : Values) → den g h r bytes outer ≢ Err Deep → Least g h r bytes outer
  least_of g zero r bytes outer settled = record { least = 0; low = omega arith; settled = settled; before = λ k lt. absurd (omega arith) }
  least_of g (suc h) r bytes outer settled = elim (deep_or_not (den g h r bytes outer)) [
    | inl deep ↦
        record {
          least = suc h;
          low = omega arith;
          settled = settled;
          before = λ k lt. stays_deep g k h r bytes outer (omega arith) deep;
        }
    | inr low ↦
        let it = least_of g h r bytes outer low in
        record { least = it.least; low = let le = it.low in omega arith; settled = it.settled; before = it.before }
  ]
