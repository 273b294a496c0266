use Rattle.std.proofs.Common.{◌≡◌, ◌++◌, drop}
use Rattle.std.specs.List.{flat_map}
use Rattle.ipg_cert.specs.Words.{entry_words}
use Rattle.ipg_cert.proofs.text.put_entries.Given as goal

abbrev pub invariant-loop-entry : goal.invariant-loop-entry
invariant-loop-entry l = l.out.items ++ flat_map entry_words (drop l.entry-index l.entries) ≡ l.fn.out.items ++ flat_map entry_words l.entries
