use Rattle.std.proofs.Common.{[], ◌∷◌}
use Rattle.ipg_tree_walk.specs.Visits.{whole}
use Rattle.ipg_query.specs.Picked.{found, members}
use Rattle.ipg_tree_view.proofs.Members.{shallower}
use Rattle.ipg_tree_view.proofs.picked.print_picked.Goals as goal

pub returns-clause-picked : goal.returns-clause-picked
returns-clause-picked g c src grammar one is =
    let steps = c.args.query.now.steps in
    let xs = members grammar steps (found 0 (whole one) ∷ []) in
    let put = rw c.levels_of-room.ensures.parse at c.put_in_room.ensures.spots in
    let here = rw c.deref.ensures.value at put in
    here src grammar xs is.shares (c.in_ok-spots.ensures src grammar one is)
    (shallower _ _ xs (c.levels_of-room.ensures.levels src one is.stands) (c.members_are_shallow.ensures grammar steps one))
