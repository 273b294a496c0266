-- The alternatives of a good grammar's rule, and their terms, are few.
use Rattle.std.proofs.Common.{◌≡◌, ℕ, zero, suc, List, [], ◌∷◌, length, refl, Some, ◌≤◌}
use Rattle.std.specs.Prelude.{slice_get}
use Rattle.std.specs.List.{AllByRecursion}
use Rattle.ipg_core.specs.declared.grammar.CoreAlt.{CoreAlt}
use Rattle.ipg_core.specs.declared.grammar.CoreRule.{CoreRule}
use Rattle.ipg_core.specs.Grammar.{Grammar, rule_at}
use Rattle.ipg_core.specs.Good.{Good}
use Rattle.ipg_touch.specs.Few.{IsFew}

at_each : {A : Type 0} (P : A → Type 0) (xs : List A) → ((i : ℕ) (x : A) → slice_get xs i ≡ Some x → P x) → AllByRecursion P xs
at_each P [] h = tt
at_each P (x ∷ xs) h = (h zero x refl, at_each P xs (λ i y e. h (suc i) y e))

pub is_few : (g : Grammar) → Good g → (r : ℕ) (rule : CoreRule) → rule_at g r ≡ Some rule → IsFew rule.alts
is_few g good r rule is = record {
  count = (good.well_formed.rules r rule is).limit;
  each = at_each (λ (alt : CoreAlt). length alt.terms ≤ 256) rule.alts
      (λ a alt e. (good.well_formed.alts (r, a) rule alt (record { is_rule = is; is_alt = e })).limit);
}
