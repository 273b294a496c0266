use Rattle.std.proofs.Common.{◌≡◌, ◌++◌, take, map}
use Rattle.ipg_tree_rows.specs.Rows.{attr_row}
use Rattle.ipg_tree_rows.proofs.visited.add_attrs.Given as goal

-- the attributes gone over have their rows
abbrev pub invariant-loop-attr : goal.invariant-loop-attr
invariant-loop-attr l = l.rows.items ≡ l.fn.rows.items ++ map (attr_row l.depth) (take l.attr-index l.attrs)
