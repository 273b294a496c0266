use Rattle.std.proofs.Common.{◌≡◌, ◌++◌, length, map}
use Rattle.std.specs.Vec.Iter.{into_iter_items, into_iter_len}
use Rattle.ipg_complete.specs.Completion.{case_of}
use Rattle.ipg_complete.proofs.completing.cases.Given as goal

abbrev pub invariant-loop-pair : goal.invariant-loop-pair
invariant-loop-pair l = (l.yielded ++ into_iter_items l.pair-iterator ≡ into_iter_items l.initial.pair-iterator)
    × (into_iter_len l.pair-iterator ≡ length (into_iter_items l.pair-iterator))
    × (l.made.items ≡ map (case_of l.left) l.yielded)
