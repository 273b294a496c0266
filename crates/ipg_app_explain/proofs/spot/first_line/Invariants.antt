use Rattle.std.proofs.Common.{◌≡◌, ◌++◌, drop, take}
use Rattle.ipg_app_explain.specs.Spot.{first_line}
use Rattle.ipg_app_explain.proofs.spot.first_line.Given as goal

-- the bytes gone over, and what the line goes on with
abbrev pub invariant-loop-n : goal.invariant-loop-n
invariant-loop-n l = first_line l.bytes ≡ take l.n l.bytes ++ first_line (drop l.n l.bytes)
