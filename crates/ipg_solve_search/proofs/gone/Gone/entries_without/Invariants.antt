use Rattle.std.proofs.Common.{◌≡◌, ◌++◌, drop}
use Rattle.std.specs.Option.{option_map}
use Rattle.ipg_solve_search.specs.Gone.{entries_without}
use Rattle.ipg_solve_search.proofs.gone.Gone.entries_without.Given as goal

-- the entries so far, and those that are left, are those of all
abbrev pub invariant-loop-entry : goal.invariant-loop-entry
invariant-loop-entry l =
    option_map (λ rest. l.renumbered ++ rest) (entries_without l.self.kept l.self.count (drop l.entry-index l.entries))
    ≡ entries_without l.self.kept l.self.count l.entries
