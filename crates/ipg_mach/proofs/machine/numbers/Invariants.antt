use Rattle.std.proofs.Common.{◌≡◌, length}
use Rattle.ipg_mach.proofs.machine.numbers.Given as goal

abbrev pub invariant-loop : goal.invariant-loop
invariant-loop g l = length l.numbers.items ≡ l.counter
