use Rattle.std.proofs.Common.{◌≡◌, ◌++◌, take, map}
use Rattle.ipg_app_explain.specs.Spot.{seen_byte}
use Rattle.ipg_app_explain.proofs.spot.add_seen.Given as goal

abbrev pub invariant-loop-byte : goal.invariant-loop-byte
invariant-loop-byte l = l.out.items ≡ l.fn.out.items ++ map seen_byte (take l.byte-index l.bytes)
