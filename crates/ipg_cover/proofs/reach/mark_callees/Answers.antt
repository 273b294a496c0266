use Rattle.std.proofs.Common.{◌<◌, ◌∙◌, refl, subst, arith, get_or, length}
use Rattle.std.proofs.lemmas.List.{take_all}
use Rattle.ipg_graph.specs.declared.edge.Edge.{Edge}
use Rattle.ipg_cover.specs.Pass.{Passed}
use Rattle.ipg_cover.proofs.Flags.{step_size, step_keeps, step_sound, passed_next, none_passed, is_there, callee_below}
use Rattle.ipg_cover.proofs.reach.mark_callees.Goals as goal

pub loop-edge-init : goal.loop-edge-init
loop-edge-init c = record { size = refl; keeps = λ k h. h; sound = λ s. s; pass = none_passed c.args.flags.now.items }

pub loop-edge-preserved : goal.loop-edge-preserved
loop-edge-preserved c =
    let edges = c.args.edges.now in
    let i = c.loop-edge.edge-index in
    let none : Edge = record { caller = 0; alt = 0; term = 0; branch = 0; callee = 0 } in
    let edge = get_or edges i none in
    let old = c.loop-edge.flags.items in
    let new = c.mark_callee-more.new.flags.items in
    let step = c.mark_callee-more.ensures in
    let below = callee_below (length c.args.flags.now.items) edges i none c.loop-edge-test.true c.requires in
    let room : edge.callee < length old = let size = c.loop-edge.invariant.size in let inside = below.1 in omega arith in
    record {
      size = step_size c.mark_callee-more.result old edge new step ∙ c.loop-edge.invariant.size;
      keeps = λ k h. step_keeps c.mark_callee-more.result old edge new step k (c.loop-edge.invariant.keeps k h);
      sound = λ begun. step_sound c.mark_callee-more.result old edge new step edges (is_there edges i none c.loop-edge-test.true)
          (c.loop-edge.invariant.sound begun);
      pass = passed_next c.loop-edge.more c.mark_callee-more.result edges i none c.args.flags.now.items old new c.loop-edge-test.true room step
          c.loop-edge.invariant.pass;
    }

pub returns-clause-passed : goal.returns-clause-passed
returns-clause-passed c =
    subst (λ edges. Passed c.loop-edge.more edges c.args.flags.now.items c.loop-edge.flags.items)
    (take_all c.loop-edge.edge-index c.args.edges.now (omega arith)) c.loop-edge.invariant.pass
