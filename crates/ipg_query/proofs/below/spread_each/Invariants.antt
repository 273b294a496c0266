use Rattle.std.proofs.Common.{List, ◌++◌, drop, filter}
use Rattle.ipg_core.specs.Grammar.{Grammar}
use Rattle.ipg_core.specs.Tree.{Kids}
use Rattle.ipg_mach_nodes.specs.Stored.{Source, StandKids}
use Rattle.ipg_table.specs.Rows.{StandFor}
use Rattle.ipg_query.specs.Picked.{Found, spread_each}
use Rattle.ipg_query.specs.Spots.{AreNear, IsSpot, AreSpots, Through, fits}
use Rattle.ipg_query.proofs.Lying.{IsRow}
use Rattle.ipg_query.proofs.Naming.{wanted_of}
use Rattle.ipg_query.proofs.below.spread_each.Given as goal

abbrev pub invariant-loop-row : goal.invariant-loop-row
invariant-loop-row g l =
    let st = l.p.parse.store in
    (src : Source) (grammar : Grammar) (ones : Kids) (before : List Found) → StandFor l.p.parse.tables grammar → StandKids src st l.at l.rows ones
    → AreNear l.at ones → AreSpots src st l.initial.spots.items before
    → Through (IsRow src st l.at) (IsSpot src st) (wanted_of (fits grammar l.wanted)) (drop l.row-index l.rows) l.spots.items
    (before ++ filter (fits grammar l.wanted) (spread_each l.at ones))
