-- What holds of the marks of a grammar.
use Rattle.std.proofs.Common.{◌≡◌}
use Rattle.ipg_core.specs.Grammar.{Grammar}
use Rattle.ipg_core.specs.MustTouch.{Marks, AreLimit}

-- the marks of the rules that must touch are one list
abbrev pub OneLimit : Type 0
OneLimit = (g : Grammar) (one other : Marks) → AreLimit g one → AreLimit g other → one ≡ other
