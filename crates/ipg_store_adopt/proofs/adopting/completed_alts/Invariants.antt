use Rattle.std.proofs.Common.{◌≡◌, ◌++◌, length, map}
use Rattle.std.specs.Vec.Iter.{into_iter_items, into_iter_len}
use Rattle.ipg_store_adopt.specs.Adopted.{completed_alt}
use Rattle.ipg_store_adopt.proofs.adopting.completed_alts.Given as goal

abbrev pub invariant-loop-alt : goal.invariant-loop-alt
invariant-loop-alt l = (l.yielded ++ into_iter_items l.alt-iterator ≡ into_iter_items l.initial.alt-iterator)
    × (into_iter_len l.alt-iterator ≡ length (into_iter_items l.alt-iterator))
    × (l.made.items ≡ map completed_alt l.yielded)
