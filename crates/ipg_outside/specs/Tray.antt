-- A sink in memory with a room and writes that fail.
use Rattle.std.specs.Prelude.{ℕ, ◌+◌, ◌-◌, Bool, ◌||◌, not, if◌then◌else◌, List, [], ◌++◌, length, take, nat_eq, nat_le}
use Rattle.std.specs.List.{list_any}
use Rattle.ipg_outside.specs.Faults.{counted_up}
use Rattle.ipg_outside.specs.Sink.{Output}

-- the bytes written, how many there may be, the numbers of the writes that fail, and how many writes and faults there were
pub record Tray : Type 0 where
  pub bytes : List ℕ
  pub room : ℕ
  pub fail : List ℕ
  pub writes : ℕ
  pub faults : ℕ

-- a tray holds nothing back
abbrev pub output_of : Tray → Output
output_of tray = record { written = tray.bytes; held = [] }

-- whether this write is Failed
abbrev pub write_fails : Tray → List ℕ → Bool
write_fails tray piece = list_any (λ k. nat_eq k tray.writes) tray.fail || not (nat_le (length tray.bytes + length piece) tray.room)

-- what fits is written all the same
abbrev pub after_write : Tray → List ℕ → Tray
after_write tray piece = record tray {
  bytes = tray.bytes ++ take (tray.room - length tray.bytes) piece;
  writes = counted_up tray.writes;
  faults = if write_fails tray piece then counted_up tray.faults else tray.faults;
}
