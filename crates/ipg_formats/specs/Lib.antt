-- what the public calls answer
pub mod Names
pub mod ElfText
pub mod PeText
pub mod GifText
pub mod PcapText
pub mod Text
pub mod Sample
-- the formats, header by header
pub mod Elf
pub mod Pe
pub mod Gif
pub mod Pcap
-- how a number stands in a file
pub mod Fields
