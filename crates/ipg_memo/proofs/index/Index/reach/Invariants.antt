use Rattle.std.proofs.Common.{◌≡◌, ◌≤◌}
use Rattle.ipg_memo.specs.Ways.{key_at, way, reached}
use Rattle.ipg_memo.proofs.index.Index.reach.Given as goal

abbrev pub invariant-loop-reached : goal.invariant-loop-reached
invariant-loop-reached g l = (l.left ≤ 32) × (reached (key_at l.rows.items) l.self l.key ≡ way (key_at l.rows.items) l.self l.key l.left l.cell)

abbrev pub decreases-loop-reached : goal.decreases-loop-reached
decreases-loop-reached g l = l.left
