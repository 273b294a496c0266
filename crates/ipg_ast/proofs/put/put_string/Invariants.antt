use Rattle.std.proofs.Common.{◌≡◌, ◌++◌, drop}
use Rattle.ipg_ast.specs.Canonical.{bytes_text}
use Rattle.ipg_ast.proofs.put.put_string.Given as goal

abbrev pub invariant-loop-byte : goal.invariant-loop-byte
invariant-loop-byte l = l.out.items ++ bytes_text (drop l.byte-index l.bytes) ≡ l.initial.out.items ++ bytes_text l.bytes
