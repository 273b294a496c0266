use Rattle.std.proofs.Common.{◌≡◌, ◌++◌, take}
use Rattle.ipg_c_trees.specs.Names.{attr_lines}
use Rattle.ipg_c_trees.proofs.listing.add_attrs.Given as goal

-- the attributes gone over have their lines
abbrev pub invariant-loop-name : goal.invariant-loop-name
invariant-loop-name l = l.text.items ≡ l.fn.text.items ++ attr_lines (take l.name-index l.names)
