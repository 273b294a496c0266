use Rattle.std.proofs.Common.{refl, sym, ap, ◌∙◌, subst, OnOk, Some, Ok, Err}
use Rattle.ipg_core.specs.Run.{NoTree}
use Rattle.ipg_mach_moves.specs.Moves.{move, move_by, Holds}
use Rattle.ipg_mach.specs.declared.frame.HeldAnswer.TheVariants as held
use Rattle.ipg_mach.specs.Stage.{staged, IsAt}
use Rattle.ipg_mach.proofs.Stepping as stepping
use Rattle.ipg_mach.proofs.work.Work.give.Goals as goal

pub returns-in-Node : goal.returns-in-Node
unfolding move
returns-in-Node g c src e at holds =
    let s = staged c.args.self.now in
    let one = stepping.holding s.tables src s.top s.frames e.lower e.highest (held.Node c.in-Node.id) at.highest (holds ∙ ap Some c.in-Node.is) in
    let is = one.3 in
    let answer = is.1 in
    subst (λ h. OnOk c.back.result (IsAt src (staged c.back.new.self) (move_by e h))) (sym (one.2 ∙ ap (Holds one.0) answer))
    (c.back.ensures src e one.0 (Ok is.0) at (one.2 ∙ ap (Holds one.0) answer) (is.0, refl, is.2, is.3))

pub returns-in-NoTree : goal.returns-in-NoTree
unfolding move
returns-in-NoTree g c src e at holds =
    let s = staged c.args.self.now in
    let one = stepping.holding s.tables src s.top s.frames e.lower e.highest held.NoTree at.highest (holds ∙ ap Some c.in-NoTree.is) in
    subst (λ h. OnOk c.back-in-NoTree.result (IsAt src (staged c.back-in-NoTree.new.self) (move_by e h))) (sym (one.2 ∙ ap (Holds one.0) one.3))
    (c.back-in-NoTree.ensures src e one.0 (Err NoTree) at (one.2 ∙ ap (Holds one.0) one.3) refl)

pub returns-in-Range : goal.returns-in-Range
unfolding move
returns-in-Range g c src e at holds =
    let s = staged c.args.self.now in
    let one = stepping.holding s.tables src s.top s.frames e.lower e.highest held.Range at.highest (holds ∙ ap Some c.in-Range.is) in
    subst (λ h. IsAt src s (move_by e h)) (sym (one.2 ∙ ap (Holds one.0) one.3)) at
