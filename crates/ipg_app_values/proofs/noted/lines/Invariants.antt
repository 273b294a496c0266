use Rattle.std.proofs.Common.{take}
use Rattle.ipg_app_values.specs.Notes.{IsLine}
use Rattle.ipg_app_values.specs.Turn.{InTurn}
use Rattle.ipg_app_values.proofs.noted.lines.Given as goal

-- the calls gone over have their lines
abbrev pub invariant-loop-number : goal.invariant-loop-number
invariant-loop-number l =
    InTurn (IsLine l.ground.written.now l.ground.calls.grammar.now l.ground.calls.marks.now l.ground.eoi) 0 (take l.number-index l.cycle) l.text.items
