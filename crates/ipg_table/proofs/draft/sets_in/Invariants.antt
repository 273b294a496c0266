use Rattle.std.proofs.Common.{◌≡◌, ◌++◌, drop}
use Rattle.ipg_table.specs.Rows.{attrs_in}
use Rattle.ipg_table.proofs.draft.sets_in.Given as goal

-- the attributes so far, and those of what is left
abbrev pub invariant-loop-term : goal.invariant-loop-term
invariant-loop-term l = l.sets.items ++ attrs_in (drop l.term-index l.terms) ≡ attrs_in l.terms
