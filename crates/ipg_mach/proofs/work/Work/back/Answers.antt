use Rattle.std.proofs.Common.{◌<◌, sym, ◌∙◌, subst, OnOk, arith, length}
use Rattle.std.proofs.lemmas.Bool.{eqb-true, eqb-false}
use Rattle.std.proofs.lemmas.List.{nil_from_length}
use Rattle.ipg_mach_moves.specs.Moves as moves
use Rattle.ipg_mach.specs.Stage.{staged, IsAt}
use Rattle.ipg_mach.proofs.Stepping as stepping
use Rattle.ipg_mach.proofs.work.Work.back.Goals as goal

pub returns-then-is_empty : goal.returns-then-is_empty
returns-then-is_empty g c src e key answer at holds entry =
    let s = staged c.args.self.now in
    let frames = nil_from_length s.frames (eqb-true (length s.frames) 0 (sym c.is_empty.ensures ∙ c.if-is_empty.true)) in
    subst (λ lower. IsAt src s (moves.returns e key answer lower)) (sym (stepping.waits_none src s e at key answer holds frames)) at

pub returns : goal.returns
returns g c src e key answer at holds entry =
    let s = staged c.args.self.now in
    let some : 0 < length s.frames = omega (arith, eqb-false (length s.frames) 0 (sym c.is_empty.ensures ∙ c.if-is_empty.false)) in
    let one = stepping.waits_one src s e at key answer holds some in
    subst (λ lower. OnOk c.come_back.result (IsAt src (staged c.come_back.new.self) (moves.returns e key answer lower))) (sym one.2)
    (c.come_back.ensures src e one.0 one.1 key answer at holds one.2 entry)
