use Rattle.std.proofs.Common.{◌≡◌, ◌≤◌, ◌^◌, drop}
use Rattle.ipg_core.specs.Touch as touch
use Rattle.ipg_mach_nodes.specs.Stored.{kids_levels}
use Rattle.ipg_mach_results.specs.Standing.{OfKids}
use Rattle.ipg_mach_results.specs.Flat.{AreFlat}
use Rattle.ipg_mach_results.specs.Ends.{ends_view}
use Rattle.ipg_mach_results.proofs.together.extent.Given as goal

-- what was gone over, from the back
abbrev pub invariant-loop-at : goal.invariant-loop-at
invariant-loop-at g l =
    OfKids l.tables l.store (drop l.at l.kids) (λ ones. AreFlat ones → ends_view l.extent.ends ≡ touch.kids_touch ones (touch.untouched l.size))
    × OfKids l.tables l.store (drop l.at l.kids) (λ ones. AreFlat ones → kids_levels ones ≤ l.extent.levels)
    × (l.extent.levels ≤ 2 ^ 32)
