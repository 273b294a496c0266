use Rattle.std.proofs.Common.{take}
use Rattle.ipg_app_values.specs.Notes.{IsValue}
use Rattle.ipg_app_values.specs.Seen.{site_of}
use Rattle.ipg_app_values.specs.Turn.{InTurn}
use Rattle.ipg_app_values.proofs.values.values.Given as goal

-- the variables gone over are told
abbrev pub invariant-loop-x : goal.invariant-loop-x
invariant-loop-x l = InTurn (IsValue (site_of l.site) l.c.formula l.c.bounds) 0 (take l.x l.variables) l.text.items
