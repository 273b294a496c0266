use Rattle.std.proofs.Common.{List, ℕ, ◌++◌, drop}
use Rattle.ipg_tree_view.specs.Cutting.{Lacks}
use Rattle.ipg_tree_view.proofs.cut.Cut.push.Given as goal

abbrev pub invariant-loop-byte : goal.invariant-loop-byte
invariant-loop-byte l = (all end : List ℕ) → Lacks l.fn.self all (l.text ++ end) → Lacks l.self all (drop l.byte-index l.text ++ end)
