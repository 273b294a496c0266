-- The joint of conditions has bounds for each of its variables.
use Rattle.std.specs.Prelude.{List, [], ◌∷◌, ℤ}
use Rattle.ipg_lin.specs.declared.formula.Formula.{Formula}
use Rattle.ipg_lin.specs.declared.formula.Boxed.{Boxed}
use Rattle.ipg_facts_forms.specs.Joint.{joint}
use Rattle.ipg_facts_laws.specs.Laws.{ArePartsWith}

-- the joint of such parts, where there are some, is such a part
abbrev pub JointIsPart : Type 0
JointIsPart = (bounds : ℤ × ℤ) (part : Formula × Boxed) (parts : List (Formula × Boxed))
    → ArePartsWith bounds (part ∷ parts) → ArePartsWith bounds (joint (part ∷ parts) ∷ [])
