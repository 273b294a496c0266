use Rattle.std.proofs.Common.{drop}
use Rattle.std.specs.List.{AllByRecursion}
use Rattle.ipg_cert.specs.Texts.{IsEntry}
use Rattle.ipg_proof.proofs.speaking.are_entries.Given as goal

-- what is left being so, all is
abbrev pub invariant-loop-entry : goal.invariant-loop-entry
invariant-loop-entry l = AllByRecursion IsEntry (drop l.entry-index l.entries) → AllByRecursion IsEntry l.entries
