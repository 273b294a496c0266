use Rattle.std.proofs.Common.{◌≡◌, ◌≤◌, ◌+◌}
use Rattle.ipg_app_explain.specs.Spot.{line_of, start_of}
use Rattle.ipg_app_explain.proofs.spot.spot_of.Given as goal

abbrev pub invariant-loop-n : goal.invariant-loop-n
invariant-loop-n l = (l.spot.line ≡ line_of l.text l.n) × (l.spot.start ≡ start_of l.text l.n) × (l.spot.line ≤ l.n + 1) × (l.spot.start ≤ l.n)
