-- What is read of an expression names the expression itself.
use Rattle.std.proofs.Common.{◌≡◌, refl, ap, ◌∙◌}
use Rattle.ipg_core.specs.declared.grammar.CoreExpr.{CoreExpr, map-CoreExpr, roll-CoreExpr, fold-roll-CoreExpr}
use Rattle.ipg_core.specs.declared.grammar.CoreExpr.TheOpen.{CoreExpr-F}
use Rattle.ipg_facts.specs.Reading.{Scope, Reading, plain, reading, read}
use Rattle.ipg_facts_variables.specs.Induct.{Sure, bare, induct}

module _ (scope : Scope) where
  abbrev IsSaid : CoreExpr → Type 0
  IsSaid e = (read scope e).said ≡ e

  layer : (y : CoreExpr-F (Sure IsSaid)) → (reading scope (map-CoreExpr CoreExpr Reading (read scope) (bare y))).said ≡ roll-CoreExpr (bare y)
  unfolding reading plain
  layer (CoreExpr-F.Num z) = refl
  layer CoreExpr-F.Eoi = refl
  layer (CoreExpr-F.Own a) = refl
  layer (CoreExpr-F.Outer a) = refl
  layer CoreExpr-F.Loop = refl
  layer (CoreExpr-F.Seen term sym field) = refl
  layer (CoreExpr-F.Item term index field) = ap (λ i. roll-CoreExpr (CoreExpr-F.Item term i field)) index.1
  layer (CoreExpr-F.After term left) = ap (λ i. roll-CoreExpr (CoreExpr-F.After term i)) left.1
  layer (CoreExpr-F.Neg a) = ap (λ i. roll-CoreExpr (CoreExpr-F.Neg i)) a.1
  layer (CoreExpr-F.Not a) = ap (λ i. roll-CoreExpr (CoreExpr-F.Not i)) a.1
  layer (CoreExpr-F.Two op a b) =
      ap (λ i. roll-CoreExpr (CoreExpr-F.Two op i (read scope b.0).said)) a.1 ∙ ap (λ i. roll-CoreExpr (CoreExpr-F.Two op a.0 i)) b.1
  layer (CoreExpr-F.Both a b) =
      ap (λ i. roll-CoreExpr (CoreExpr-F.Both i (read scope b.0).said)) a.1 ∙ ap (λ i. roll-CoreExpr (CoreExpr-F.Both a.0 i)) b.1
  layer (CoreExpr-F.Either a b) =
      ap (λ i. roll-CoreExpr (CoreExpr-F.Either i (read scope b.0).said)) a.1 ∙ ap (λ i. roll-CoreExpr (CoreExpr-F.Either a.0 i)) b.1
  layer (CoreExpr-F.Cond c a b) =
      ap (λ i. roll-CoreExpr (CoreExpr-F.Cond i (read scope a.0).said (read scope b.0).said)) c.1
      ∙ ap (λ i. roll-CoreExpr (CoreExpr-F.Cond c.0 i (read scope b.0).said)) a.1 ∙ ap (λ i. roll-CoreExpr (CoreExpr-F.Cond c.0 a.0 i)) b.1

  rolled : (y : CoreExpr-F (Sure IsSaid)) → IsSaid (roll-CoreExpr (bare y))
  unfolding read
  rolled y = ap (λ (r : Reading). r.said) (fold-roll-CoreExpr Reading (reading scope) (bare y)) ∙ layer y

  pub said_is : (e : CoreExpr) → (read scope e).said ≡ e
  said_is = induct IsSaid rolled
