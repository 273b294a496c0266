use Rattle.std.proofs.Common.{◌≤◌, refl, sym, ◌∙◌, subst}
use Rattle.ipg_tree_walk.specs.Left.{Leave}
use Rattle.ipg_tree_walk.specs.Falls.{fewer_around}
use Rattle.ipg_tree_walk.specs.Steps.{left_of, steps}
use Rattle.ipg_tree_walk.proofs.Walking.{nothing_next, something_left, parted}
use Rattle.ipg_tree_walk.proofs.walk.step.Goals as goal

pub returns-in-Some-next_in-clause-end : goal.returns-in-Some-next_in-clause-end
returns-in-Some-next_in-clause-end g c src h =
    absurd (something_left src c.args.store.now _ _ _ _ c.in-Some-next_in.ensures
    (parted src _ _ _ _ _ c.in-Some.level _ refl c.in-Some.ensures.1 (c.loop-level.invariant.left src _ h)))

pub returns-in-Some-next_in-clause-more : goal.returns-in-Some-next_in-clause-more
returns-in-Some-next_in-clause-more g c src one more h =
    c.go_on.ensures.visited src c.in-Some.level c.in-Some.ensures.0 one more c.in-Some.ensures.1 c.in-Some-next_in.ensures
    (parted src _ _ _ _ _ _ _ refl c.in-Some.ensures.1 (c.loop-level.invariant.left src _ h))

pub loop-level-preserved : goal.loop-level-preserved
loop-level-preserved g c =
    let is = c.in-Some.ensures.1 in
    let gone = c.leave.ensures.left c.in-Some.level c.in-Some.ensures.0 is in
    record {
      room = c.leave.ensures.room ∙ c.loop-level.invariant.room;
      ends =
          subst (λ levels. steps c.leave.new.self.room levels ≤ steps c.args.stack.now.room c.args.stack.now.levels) (sym gone)
          (fewer_around left_of _ _ _ _ c.in-Some.level _ c.leave.ensures.room is c.loop-level.invariant.ends);
      left = λ src left h.
          subst (λ levels. Leave src c.args.store.now c.leave.new.self.room levels left) (sym gone)
          (nothing_next src _ _ _ _ left c.in_default-next_in.ensures (parted src _ _ _ _ _ _ left c.leave.ensures.room is
          (c.loop-level.invariant.left src left h)));
    }
