use Rattle.std.proofs.Common.{rules}
use Rattle.std.proofs.lemmas.List.{append_assoc}
use Rattle.std.proofs.lemmas.Result.{IfOk-equal}
use Rattle.ipg_formats.specs.Pcap.{ethernet_header}
use Rattle.ipg_formats.proofs.samples.pcap.EthernetHeader.write.Goals as goal

pub returns : goal.returns
unfolding ethernet_header
returns c = Prim.search (rules, IfOk-equal, append_assoc)
