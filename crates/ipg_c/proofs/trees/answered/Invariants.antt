use Rattle.std.proofs.Common.{take}
use Rattle.ipg_c_trees.specs.Comes.{AllCome}
use Rattle.ipg_c.specs.Handed.{words_of}
use Rattle.ipg_c.proofs.trees.answered.Given as goal

-- the inputs gone over are answered
abbrev pub invariant-loop-input : goal.invariant-loop-input
invariant-loop-input l = AllCome l.format (words_of (take l.input-index l.inputs)) l.answers.items l.rows.items
