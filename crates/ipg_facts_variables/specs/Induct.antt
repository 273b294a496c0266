-- Induction on expressions.
use Rattle.std.proofs.Common.{subst}
use Rattle.ipg_core.specs.declared.grammar.CoreExpr.{CoreExpr, map-CoreExpr, roll-CoreExpr, ind-CoreExpr}
use Rattle.ipg_core.specs.declared.grammar.CoreExpr.TheOpen.{CoreExpr-F}

-- an expression with a fact on it
abbrev pub Sure : (CoreExpr → Type 0) → Type 0
Sure P = (e : CoreExpr) × P e

abbrev pub bare : {P : CoreExpr → Type 0} → CoreExpr-F (Sure P) → CoreExpr-F CoreExpr
bare {P} y = map-CoreExpr (Sure P) CoreExpr (λ e. e.0) y

-- what holds of an expression where it holds of its parts holds of each
pub induct : (P : CoreExpr → Type 0) → ((y : CoreExpr-F (Sure P)) → P (roll-CoreExpr (bare y))) → (e : CoreExpr) → P e
induct P step = ind-CoreExpr P (λ x y is. subst (λ z. P (roll-CoreExpr z)) is (step y))
