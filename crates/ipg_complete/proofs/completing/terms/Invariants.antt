use Rattle.std.proofs.Common.{◌≡◌, ◌++◌, length, map}
use Rattle.std.specs.Vec.Iter.{into_iter_items, into_iter_len}
use Rattle.ipg_complete.specs.Completion.{left_at_first}
use Rattle.ipg_complete.proofs.Turns.{AreDone}
use Rattle.ipg_complete.proofs.completing.terms.Given as goal

abbrev pub invariant-loop-written : goal.invariant-loop-written
invariant-loop-written l = (l.yielded ++ into_iter_items l.written-iterator ≡ into_iter_items l.initial.written-iterator)
    × (into_iter_len l.written-iterator ≡ length (into_iter_items l.written-iterator))
    × AreDone l.yielded l.left l.made.items
