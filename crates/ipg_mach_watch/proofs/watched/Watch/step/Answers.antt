use Rattle.std.proofs.Common.{sym, ap, ◌∙◌, subst, None}
use Rattle.ipg_mach_moves.specs.Moves.{move, moves, ended}
use Rattle.ipg_mach.specs.Stage.{staged, IsAt}
use Rattle.ipg_mach.specs.Turning.{turn_of}
use Rattle.ipg_mach_failures.specs.Chain.{calls_of}
use Rattle.ipg_mach_failures.specs.Furthest as spec
use Rattle.ipg_mach_watch.specs.Found.{last_worked, worked}
use Rattle.ipg_mach_watch.specs.Told.{IsFurthest}
use Rattle.ipg_mach_watch.proofs.Moving as moving
use Rattle.ipg_mach_watch.proofs.watched.Watch.step.Goals as goal

pub returns : goal.returns
returns g c src e n at is =
    let here = moves n e in
    let more = moving.one_more n e in
    let gone = moving.one_gone src (staged c.go.new.self.work) here _ (c.in_ok-turn.ensures.gone src here at) in
    let last = c.in_ok-look.ensures.last src here at ∙ ap (λ l. worked l here.highest) is.last in
    let calls = ap (λ v. v.items) c.look.ensures.calls ∙ is.calls in (
      subst (IsAt src (staged c.go.new.self.work)) (sym more) gone.0,
      record {
        furthest = subst (λ f. IsFurthest c.follow.new.self.furthest f) (sym (moving.furthest_so n e))
            (subst (λ k. IsFurthest k (spec.furthest_with (spec.furthest (spec.stories n e)) (spec.story_of here))) (sym c.follow.ensures.furthest)
            (c.in_ok-look.ensures.furthest src here _ at is.calls is.furthest));
        calls = c.in_ok-follow.ensures.calls here (last_worked None n e) calls last (c.frames-before.ensures src here at)
            (c.frames.ensures src (move here) gone.0) ∙ ap calls_of (sym more);
        last = c.follow.ensures.last ∙ last ∙ sym (moving.worked_so n e);
      },
      gone.1 ∙ ap (λ x. turn_of (ended x)) (sym more),
    )
