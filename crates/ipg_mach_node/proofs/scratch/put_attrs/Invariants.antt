use Rattle.std.proofs.Common.{◌≡◌, ◌+◌, ◌≤◌, ◌++◌, drop, length}
use Rattle.std.specs.Prelude.{vec_len, vec_capacity}
use Rattle.ipg_mach_node.specs.Kept.{attrs_at}
use Rattle.ipg_mach_node.proofs.scratch.put_attrs.Given as goal

-- so far, and what is left, which has room
abbrev pub invariant-loop-attr : goal.invariant-loop-attr
invariant-loop-attr g l =
    (l.attrs.items ++ attrs_at l.own (drop l.attr-index l.sets) ≡ attrs_at l.own l.sets)
    × (vec_len l.attrs + length (drop l.attr-index l.sets) ≤ vec_capacity l.attrs)
