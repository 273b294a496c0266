use Rattle.std.proofs.Common.{◌≡◌, ◌++◌}
use Rattle.ipg_formats.specs.Pcap.{packets}
use Rattle.ipg_formats.proofs.samples.pcap.write_packets.Given as goal

abbrev pub invariant-loop-i : goal.invariant-loop-i
invariant-loop-i l = l.out.items ≡ l.initial.out.items ++ packets l.i
