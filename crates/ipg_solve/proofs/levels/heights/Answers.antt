use Rattle.std.proofs.Common.{◌≡◌, ◌∙◌, arith}
use Rattle.std.specs.Int.{w64}
use Rattle.std.proofs.lemmas.Int.{ints}
use mir.Val.{to_z, of_z}
use Rattle.ipg_solve.proofs.Leveled.{height_more}
use Rattle.ipg_solve.proofs.levels.heights.Goals as goal

pub loop-x-preserved : goal.loop-x-preserved
loop-x-preserved c =
    let same : to_z w64 (of_z w64 c.height.result) ≡ c.height.result = omega (arith, ints, c.height.type_inv) in
    height_more c.loop-x.x c.args.levels.now c.loop-x.values c.push.new.self (to_z w64 (of_z w64 c.height.result)) c.loop-x.invariant
    c.in_ok-push.ensures.ok (same ∙ c.height.ensures)
