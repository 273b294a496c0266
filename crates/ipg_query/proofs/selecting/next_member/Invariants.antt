use Rattle.std.proofs.Common.{List, reverse}
use Rattle.ipg_core.specs.Grammar.{Grammar}
use Rattle.ipg_mach_nodes.specs.Stored.{Source}
use Rattle.ipg_table.specs.Rows.{StandFor}
use Rattle.ipg_query.specs.Picked.{Found}
use Rattle.ipg_query.specs.Spots.{Comes, seen}
use Rattle.ipg_query.proofs.selecting.next_member.Given as goal

abbrev pub invariant-piled : goal.invariant-piled
invariant-piled g l =
    (src : Source) (grammar : Grammar) (xs : List Found) → StandFor l.p.parse.tables grammar
    → Comes src l.p.parse.store grammar (reverse (seen l.fn.pile.items)) xs
    → Comes src l.p.parse.store grammar (reverse (seen l.pile.items)) xs
