use Rattle.std.proofs.Common.{◌≡◌, ◌+◌, sym, ap, ◌∙◌, arith, add-one, length}
use Rattle.ipg_tree_walk.specs.Falls.{falls}
use Rattle.ipg_tree_walk.specs.Steps.{left_of}
use Rattle.ipg_tree_walk.proofs.Walking.{goes_on}
use Rattle.ipg_tree_walk.proofs.walk.go_on.Goals as goal

pub returns-clause-ends : goal.returns-clause-ends
returns-clause-ends g c level around is takes =
    let rest = c.args.taken.rest in
    let one : left_of level ≡ left_of rest + 1 = omega (arith, takes.next, takes.counts) in
    falls left_of c.args.stack.now.room around level rest one c.replace.new.self.room c.enter.new.stack.room c.replace.new.self.levels
    c.enter.new.stack.levels c.replace.ensures.room c.enter.ensures.room (c.replace.ensures.replaced level around is) c.enter.ensures.full c.enter.ensures.ends

pub returns-clause-visited : goal.returns-clause-visited
returns-clause-visited g c src level around one more is takes leave =
    goes_on src c.args.store.now c.args.stack.now.room around level c.args.taken one more c.replace.new.self c.enter.new.stack
    c.len-depth.result c.shown-visit.result c.len-depth.ensures.room (c.len-depth.ensures.value ∙ ap length is ∙ sym (add-one (length around)))
    c.replace.ensures.room (c.replace.ensures.replaced level around is)
    (c.enter.ensures.entered src c.args.store.now c.node_of-node.ensures) (c.shown-visit.ensures.near src c.args.store.now)
    (c.shown-visit.ensures.shows src c.args.store.now c.node_of-node.ensures) takes leave
