-- Grammars that leave no byte out: no alternative of a reached rule has a place that all of its slots miss.
use Rattle.std.specs.Prelude.{◌≡◌, ℕ, ℤ, ◌≤ℤ◌, List, [], ◌∷◌, ◌++◌, IsTrue, if◌then◌else◌}
use Rattle.std.specs.List.{AllByRecursion}
use Rattle.ipg_core.specs.declared.grammar.CoreAlt.{CoreAlt}
use Rattle.ipg_core.specs.Grammar.{Grammar}
use Rattle.ipg_core.specs.MustTouch.{Marks, is_marked, AreLimit}
use Rattle.ipg_lin.specs.Form.{Assignment}
use Rattle.ipg_lin.specs.Formula.{Solvable}
use Rattle.ipg_lin.specs.declared.formula.Formula.{Formula}
use Rattle.ipg_lin.specs.declared.formula.Boxed.{Boxed}
use Rattle.ipg_cert.specs.declared.refutation.Refutation.{Refutation}
use Rattle.ipg_cert.specs.Checks.{checks}
use Rattle.ipg_facts_edges.specs.Edges.{numbered}
use Rattle.ipg_facts.specs.Gap.{gap}
use Rattle.ipg_facts_laws.specs.Laws.{Solves}
use Rattle.ipg_cover.specs.Reach.{AreReached}
use Rattle.ipg_cover.specs.declared.answer.Cover.{Cover}
use Rattle.ipg_cover.specs.declared.answer.Cover.TheVariants.{Covered, MayGap}

-- the alternatives of a rule, by its number and theirs
abbrev pub alternatives_of : ℕ → List CoreAlt → List (ℕ × ℕ)
alternatives_of rule alts = numbered 0 (λ a alt. (rule, a) ∷ []) alts

-- those of the flagged rules, in order
abbrev pub alternatives : Grammar → Marks → List (ℕ × ℕ)
alternatives g flags = numbered 0 (λ r rule. if is_marked flags r then alternatives_of r rule.alts else []) g.rules

abbrev pub gap_at : Grammar → Marks → ℕ × ℕ → Formula × Boxed
gap_at g marks place = gap g marks place.0 place.1

-- the alternative may leave a place out
abbrev pub Leaves : Grammar → Marks → ℕ × ℕ → Type 0
Leaves g marks place = Solvable (gap_at g marks place).0 (gap_at g marks place).1

-- one refutation for each alternative: its gap has no solution
abbrev pub AreRefuted : Grammar → Marks → List (ℕ × ℕ) → List Refutation → Type 0
AreRefuted g marks [] [] = Unit {0}
AreRefuted g marks [] (r ∷ refutations) = ⊥
AreRefuted g marks (place ∷ places) [] = ⊥
AreRefuted g marks (place ∷ places) (r ∷ refutations) =
    IsTrue (checks (gap_at g marks place).0 (gap_at g marks place).1 r) × AreRefuted g marks places refutations

-- which rules must touch a byte, and which are reached
pub record Ground (g : Grammar) : Type 0 where
  pub marks : Marks
  pub limit : AreLimit g marks
  pub flags : Marks
  pub reached : AreReached g flags

-- each alternative of a reached rule is refuted, in order
pub record Covers (g : Grammar) (refutations : List Refutation) : Type 0 where
  pub ground : Ground g
  pub refuted : AreRefuted g ground.marks (alternatives g ground.flags) refutations

-- a place is left out at a length of the part, at no lesser length, and at that length no lesser place
pub record IsLeastGap (part : Formula × Boxed) (at eoi : ℤ) : Type 0 where
  pub values : Assignment
  pub solves : Solves values part
  pub length_is : values 0 ≡ eoi
  pub place_is : values 1 ≡ at
  pub least : (other : Assignment) → Solves other part → eoi ≤ℤ other 0
  pub least_place : (other : Assignment) → Solves other part → other 0 ≡ eoi → at ≤ℤ other 1

-- the first alternative of a reached rule that may leave a place out
pub record HasGap (g : Grammar) (place : ℕ × ℕ) (at eoi : ℤ) : Type 0 where
  pub ground : Ground g
  pub earlier : List (ℕ × ℕ)
  pub later : List (ℕ × ℕ)
  pub order : alternatives g ground.flags ≡ earlier ++ place ∷ later
  pub first : AllByRecursion (λ other. ¬ Leaves g ground.marks other) earlier
  pub least : IsLeastGap (gap_at g ground.marks place) at eoi

-- what an answer says
abbrev pub IsCover : Grammar → Cover → Type 0
IsCover g (Covered refutations) = Covers g refutations
IsCover g (MayGap rule alt at eoi) = HasGap g (rule, alt) at eoi
