use Rattle.std.proofs.Common.{◌+◌, ◌*◌}
use Rattle.ipg_store_body.proofs.reading.BodyReader.+expr.Given as goal

-- an expression, a part of that many levels, and what has such parts
abbrev pub decreases-expr : goal.decreases-expr
decreases-expr l = 4 * l.below

abbrev pub decreases-part : goal.decreases-part
decreases-part l = 4 * l.below + 1

abbrev pub decreases-node : goal.decreases-node
decreases-node l = 4 * l.below + 2

abbrev pub decreases-level : goal.decreases-level
decreases-level l = 4 * l.below + 3
