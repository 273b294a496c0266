-- A capture of UDP packets: the file header, and for each packet a record header, the headers of
-- Ethernet, IPv4 and UDP, and four bytes of data. pcap's own numbers have the low byte first, those of
-- the packets the high byte.
use Rattle.std.specs.Prelude.{ℕ, List, [], ◌∷◌, ◌++◌}
use Rattle.ipg_formats.specs.Fields.{le16, le32, be16, be32, each}
use Rattle.ipg_formats.specs.declared.samples.pcap.FileHeader.{FileHeader}
use Rattle.ipg_formats.specs.declared.samples.pcap.RecordHeader.{RecordHeader}
use Rattle.ipg_formats.specs.declared.samples.pcap.EthernetHeader.{EthernetHeader}
use Rattle.ipg_formats.specs.declared.samples.pcap.IpHeader.{IpHeader}
use Rattle.ipg_formats.specs.declared.samples.pcap.UdpHeader.{UdpHeader}

unfoldable pub file_header : FileHeader → List ℕ
file_header h = le32 h.magic ++ le16 h.major ++ le16 h.minor ++ le32 h.zone
    ++ le32 h.accuracy ++ le32 h.longest ++ le32 h.link_type

unfoldable pub record_header : RecordHeader → List ℕ
record_header h = le32 h.seconds ++ le32 h.microseconds ++ le32 h.captured ++ le32 h.original

unfoldable pub ethernet_header : EthernetHeader → List ℕ
ethernet_header h = h.destination ++ h.source ++ be16 h.ether_type

unfoldable pub ip_header : IpHeader → List ℕ
ip_header h = (h.version_and_size ∷ h.service ∷ [])
    ++ be16 h.total ++ be16 h.identification ++ be16 h.fragment
    ++ (h.time_to_live ∷ h.protocol ∷ []) ++ be16 h.checksum ++ h.source ++ h.destination

unfoldable pub udp_header : UdpHeader → List ℕ
udp_header h = be16 h.source ++ be16 h.destination ++ be16 h.length ++ be16 h.checksum

-- version 2.4, packets of up to 65,535 bytes, over Ethernet
abbrev pub ethernet : FileHeader
ethernet = record {
  magic = 0xa1b2_c3d4;
  major = 2;
  minor = 4;
  zone = 0;
  accuracy = 0;
  longest = 65535;
  link_type = 1;
}

-- a whole packet of 46 bytes, caught in second i
abbrev pub record_for : ℕ → RecordHeader
record_for i = record { seconds = i; microseconds = 0; captured = 46; original = 46 }

-- IPv4, from 02:00:00:00:00:02 to 02:00:00:00:00:01
abbrev pub frame_for : EthernetHeader
frame_for = record {
  destination = 2 ∷ 0 ∷ 0 ∷ 0 ∷ 0 ∷ 1 ∷ [];
  source = 2 ∷ 0 ∷ 0 ∷ 0 ∷ 0 ∷ 2 ∷ [];
  ether_type = 0x800;
}

-- version 4, a header of five words, 32 bytes in all, UDP, from 10.0.0.1 to 10.0.0.2
abbrev pub datagram_for : ℕ → IpHeader
datagram_for i = record {
  version_and_size = 0x45;
  service = 0;
  total = 32;
  identification = i;
  fragment = 0;
  time_to_live = 64;
  protocol = 17;
  checksum = 0;
  source = 10 ∷ 0 ∷ 0 ∷ 1 ∷ [];
  destination = 10 ∷ 0 ∷ 0 ∷ 2 ∷ [];
}

-- 12 bytes with the header, from port 1000 to port 2000
abbrev pub ports_for : UdpHeader
ports_for = record { source = 1000; destination = 2000; length = 12; checksum = 0 }

-- packet i carries its number
unfoldable pub packet : ℕ → List ℕ
packet i = record_header (record_for i) ++ ethernet_header frame_for
    ++ ip_header (datagram_for i) ++ udp_header ports_for ++ be32 i

abbrev pub packets : ℕ → List ℕ
packets n = each n packet

unfoldable pub pcap : ℕ → List ℕ
pcap n = file_header ethernet ++ packets n
