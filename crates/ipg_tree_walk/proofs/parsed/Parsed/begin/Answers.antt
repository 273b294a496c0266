use Rattle.std.proofs.Common.{◌≤◌, sym, ap, ◌∙◌, subst}
use Rattle.ipg_mach_nodes.specs.Stored.{StandsTree}
use Rattle.ipg_tree_walk.specs.Left.{Shows}
use Rattle.ipg_tree_walk.proofs.First.{entered, root_left}
use Rattle.ipg_tree_walk.proofs.parsed.Parsed.begin.Goals as goal

pub returns-clause-ends : goal.returns-clause-ends
returns-clause-ends g c =
    entered _ c.clear.new.self c.enter.new.stack (ap (λ s. s.room) c.clear.ensures ∙ ap (λ p. p.stack.room) c.self.view_is) (ap (λ s. s.levels) c.clear.ensures)
    c.enter.ensures.full c.enter.ensures.ends

pub returns-clause-left : goal.returns-clause-left
returns-clause-left g c src one first more stands is =
    let store = c.self.inside.store in
    let same = ap (λ p. p.parse) c.self.view_is in
    let stand = subst (λ p. StandsTree src p.store 0 p.root one) (sym same) stands in
    let shows = c.root_visit-visit.ensures src store one c.node.ensures.some stand in
    let room = ap (λ s. s.room) c.clear.ensures in
    let both = root_left src store c.self.inside.root c.root_visit-visit.result one first more c.clear.new.self c.enter.new.stack _
    (ap (λ s. s.levels) c.clear.ensures) (λ node is_at. subst (λ r. node.levels ≤ r) (sym room) (c.self.invariant node is_at)) stand shows is
    (c.enter.ensures.entered src store shows.node) in
    (subst (λ p. Shows src p.store c.root_visit-visit.result first) same both.0, both.1)
