use Rattle.std.proofs.Common.{◌≡◌, length}
use Rattle.ipg_label.specs.Naming as spec
use Rattle.ipg_label.specs.declared.naming.Naming.TheVariants as naming
use Rattle.ipg_label.proofs.naming.naming_of.Given as goal

abbrev pub invariant-loop-one : goal.invariant-loop-one
invariant-loop-one l = spec.naming_of l.names l.term l.so_far l.left ≡ spec.naming_of l.names l.term naming.Nothing l.terms

abbrev pub decreases-loop-one : goal.decreases-loop-one
decreases-loop-one l = length l.left
