-- That a gap without a solution has a refutation.
use Rattle.std.specs.Prelude.{ℕ, IsTrue}
use Rattle.ipg_core.specs.Grammar.{Grammar}
use Rattle.ipg_core.specs.MustTouch.{Marks}
use Rattle.ipg_lin.specs.Formula.{Solvable}
use Rattle.ipg_cert.specs.declared.refutation.Refutation.{Refutation}
use Rattle.ipg_cert.specs.Checks.{checks}
use Rattle.ipg_facts.specs.Gap.{gap, HasAlternative}

-- where the gap of an alternative has no solution, some refutation of it checks
abbrev pub GapsAreRefuted : Type 0
GapsAreRefuted = (g : Grammar) (marks : Marks) (rule alt : ℕ) → HasAlternative g rule alt → ¬ Solvable (gap g marks rule alt).0 (gap g marks rule alt).1
    → (r : Refutation) × IsTrue (checks (gap g marks rule alt).0 (gap g marks rule alt).1 r)
