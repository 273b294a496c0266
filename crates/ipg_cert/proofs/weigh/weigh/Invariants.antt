use Rattle.std.proofs.Common.{drop}
use Rattle.ipg_cert.specs.Seen.{Progress, all_seen}
use Rattle.ipg_cert.proofs.weigh.weigh.Given as goal

abbrev pub invariant-loop-entry : goal.invariant-loop-entry
invariant-loop-entry l = Progress (all_seen l.known) (drop l.entry-index l.entries) l.entries l.entry-index l.totals.items l.constant
