use Rattle.std.proofs.Common.{◌≡◌, arith, sym, ◌∙◌, subst, suc}
use Rattle.ipg_mach_moves.specs.Moves.{moves}
use Rattle.ipg_mach.specs.Stage.{staged, IsAt}
use Rattle.ipg_mach.proofs.Ending as ending
use Rattle.ipg_mach.proofs.work.Work.go.Goals as goal

pub loop-left-init : goal.loop-left-init
unfolding moves
loop-left-init g c = λ src e at. (0, at, omega arith)

pub loop-left-preserved : goal.loop-left-preserved
loop-left-preserved g c = λ src e at.
    let was = c.loop-left.invariant src e at in
    let more = sym (ending.one_more was.0 e) in
    let some = c.loop-left-test.true in
    let all = was.2 in
    (suc was.0, subst (IsAt src (staged c.step.new.self)) more (c.in_ok-step.ensures src (moves was.0 e) was.1), omega (arith, some, all))

pub returns-in-Done : goal.returns-in-Done
returns-in-Done g c = λ src e at.
    let was = c.loop-left.invariant src e at in
    let at_more = subst (IsAt src (staged c.step.new.self)) (sym (ending.one_more was.0 e)) (c.in_ok-step.ensures src (moves was.0 e) was.1) in
    let some = c.loop-left-test.true in
    let all = was.2 in
    record {
      moved = suc was.0;
      at = at_more;
      turned = sym c.in-Done.is ∙ c.turn.ensures src (moves (suc was.0) e) at_more;
      within = omega (arith, some, all);
      some = λ any. omega arith;
      all = λ more. absurd (cc);
    }

pub returns : goal.returns
returns g c = λ src e at.
    let was = c.loop-left.invariant src e at in
    let none = c.loop-left-test.false in
    let all = was.2 in
    let made : was.0 ≡ c.args.most = omega (arith, none, all) in
    record {
      moved = was.0;
      at = was.1;
      turned = c.turn-2.ensures src (moves was.0 e) was.1;
      within = omega (arith, made);
      some = λ any. omega (arith, made, any);
      all = λ more. made;
    }
