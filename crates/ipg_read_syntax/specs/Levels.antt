-- Operators between two operands bind less tightly than prefixes.
use Rattle.std.specs.Prelude.{◌<◌}
use Rattle.std.proofs.Common.{lit≤}
use Rattle.ipg_num.specs.declared.op.Op2.TheVariants.{Add, Sub, Mul, Div, Mod, Shl, Shr, BitAnd, BitOr, BitXor, Eq, Ne, Lt, Le, Gt, Ge}
use Rattle.ipg_read_syntax.specs.Classes.{Infix, either, both, op, level}
use Rattle.ipg_read_syntax.specs.Written.{prefix_level}

pub level_high : (i : Infix) → level i < prefix_level
level_high either = lit≤ tt
level_high both = lit≤ tt
level_high (op Add) = lit≤ tt
level_high (op Sub) = lit≤ tt
level_high (op Mul) = lit≤ tt
level_high (op Div) = lit≤ tt
level_high (op Mod) = lit≤ tt
level_high (op Shl) = lit≤ tt
level_high (op Shr) = lit≤ tt
level_high (op BitAnd) = lit≤ tt
level_high (op BitOr) = lit≤ tt
level_high (op BitXor) = lit≤ tt
level_high (op Eq) = lit≤ tt
level_high (op Ne) = lit≤ tt
level_high (op Lt) = lit≤ tt
level_high (op Le) = lit≤ tt
level_high (op Gt) = lit≤ tt
level_high (op Ge) = lit≤ tt
