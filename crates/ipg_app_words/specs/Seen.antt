-- What the words ask for, as the code has it.
use Rattle.std.specs.Prelude.{ℕ, List, Bool, not, ◌==◌, ◌&&◌, slice_index}
use Rattle.ipg_app_words.specs.Request.{Task, Parse, Check, Cert, Verify, Table, Cover, Rebuild, Json, Edit, Request}
use Rattle.ipg_app_words.specs.Request.{Use, Fmt, Trial, Query, View, Load, Explain, Formats, Help, Version}
use Rattle.std.specs.Option.{option_map}
use Rattle.ipg_app_words.specs.declared.asking.Asked.{Asked}
use Rattle.ipg_app_words.specs.declared.asking.Asked.TheVariants as asked
use Rattle.ipg_app_words.specs.declared.asking.Wanted.{Wanted}
use Rattle.ipg_app_words.specs.declared.asking.Wanted.TheVariants as wanted

abbrev pub task_seen : Wanted → Task
task_seen (wanted.Parse input memo mib) = Parse input.now memo mib
task_seen wanted.Check = Check
task_seen wanted.Cert = Cert
task_seen (wanted.Verify certificate) = Verify certificate.now
task_seen wanted.Table = Table
task_seen wanted.Cover = Cover
task_seen (wanted.Rebuild input) = Rebuild input.now
task_seen (wanted.Json input memo mib) = Json input.now memo mib
task_seen (wanted.Edit input script) = Edit input.now script.now

abbrev pub seen : Asked → Request
seen (asked.Use grammar task) = Use grammar.now (task_seen task)
seen (asked.Fmt grammar) = Fmt grammar.now
seen (asked.Trial kind count) = Trial kind.now count
seen (asked.Query grammar input path) = Query grammar.now input.now path.now
seen (asked.View grammar input path memo mib) = View grammar.now input.now (option_map (λ text. text.now) path) memo mib
seen (asked.Load table input) = Load table.now input.now
seen (asked.Explain grammar input mib) = Explain grammar.now (option_map (λ text. text.now) input) mib
seen asked.Formats = Formats
seen (asked.Help command) = Help (option_map (λ text. text.now) command)
seen asked.Version = Version

-- no `+` stands first
abbrev pub is_unsigned : List ℕ → Bool
is_unsigned text = not (slice_index text 0 == 43)
