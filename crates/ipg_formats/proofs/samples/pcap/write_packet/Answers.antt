use Rattle.std.proofs.Common.{rules}
use Rattle.std.proofs.lemmas.List.{append_assoc}
use Rattle.std.proofs.lemmas.Result.{IfOk-equal}
use Rattle.ipg_formats.specs.Pcap.{packet}
use Rattle.ipg_formats.proofs.samples.pcap.write_packet.Goals as goal

pub returns : goal.returns
unfolding packet
returns c = Prim.search (rules, IfOk-equal, append_assoc)
