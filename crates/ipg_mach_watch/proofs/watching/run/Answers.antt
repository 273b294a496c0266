use Rattle.std.proofs.Common.{sym, ◌∙◌, suc}
use Rattle.ipg_mach_moves.specs.Moves.{moves, ended}
use Rattle.ipg_mach_watch.proofs.Moving as moving
use Rattle.ipg_mach_watch.proofs.watching.run.Goals as goal

pub loop-left-init : goal.loop-left-init
unfolding moves
loop-left-init g c = λ src e at is. (0, at, is)

pub loop-left-preserved : goal.loop-left-preserved
loop-left-preserved g c = λ src e at is.
    let was = c.loop-left.invariant src e at is in
    let moved = c.in_ok-step.ensures src e was.0 was.1 was.2 in
    (suc was.0, moved.0, moved.1)

pub returns-in-Done : goal.returns-in-Done
returns-in-Done g c src e at is =
    let was = c.loop-left.invariant src e at is in
    let moved = c.in_ok-step.ensures src e was.0 was.1 was.2 in
    let done = moving.done_by (ended (moves (suc was.0) e)) (sym c.in-Done.is ∙ moved.2) in
    record { moved = suc was.0; at = moved.0; watch = moved.1; answer = done.0; ends = done.1 }
