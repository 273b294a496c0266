use Rattle.std.proofs.Common.{sym, subst}
use Rattle.ipg_mach_nodes.specs.Stored.{StandsTree}
use Rattle.ipg_tree_walk.specs.Visits.{seen, size_of, whole, tree_visits}
use Rattle.ipg_query.proofs.inside.levels_of.Goals as goal

pub returns-in-Some-clause-levels : goal.returns-in-Some-clause-levels
returns-in-Some-clause-levels g c src one stands =
    let here = subst (λ q. StandsTree src q.store 0 q.root one) (sym c.rewind.ensures.parse) stands in
    let shows = (c.in-Some.ensures.more src (seen 0 0 (size_of one) (whole one)) (tree_visits 1 0 one) (c.rewind.ensures.left src one here)).0 in
    let row = shows.stands in
    c.levels_at.ensures src c.rewind.new.self.parse.store 0 one
    (record { id = row.0; is_at = shows.node row.0 0 (size_of one) row.1; stands = row.2 })
