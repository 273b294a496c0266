-- Ends as the code keeps them, and children whose ends are numbers of an expression.
use Rattle.std.specs.Prelude.{ℕ, ◌<◌, ◌^◌}
use Rattle.ipg_core.specs.Tree.{Kid, Kids, no_kids, kid}
use Rattle.ipg_core.specs.Touch.{Ends, ends_of}
use Rattle.ipg_core.specs.Within.{KidWithin, KidsWithin}
use Rattle.ipg_mach_results.specs.declared.ends.Ends as code

abbrev pub ends_view : code.Ends → Ends
ends_view e = record { start = e.start; end = e.end }

-- both ends are numbers of 63 bits, as those of each child within a part are
pub record IsShort (k : Kid) : Type 0 where
  pub start : (ends_of k).start < 2 ^ 63
  pub end : (ends_of k).end < 2 ^ 63

abbrev pub AreShort : Kids → Type 0
AreShort no_kids = Unit {0}
AreShort (kid k ks) = IsShort k × AreShort ks

abbrev pub WithinIsShort : Type 0
WithinIsShort = (n : ℕ) → (k : Kid) → n < 2 ^ 63 → KidWithin n k → IsShort k

abbrev pub WithinAreShort : Type 0
WithinAreShort = (n : ℕ) → (ks : Kids) → n < 2 ^ 63 → KidsWithin n ks → AreShort ks
