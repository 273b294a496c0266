use Rattle.std.proofs.Common.{[]}
use Rattle.ipg_core.specs.Grammar.{Grammar}
use Rattle.ipg_edit_script.specs.Scripts.{AreEdits}
use Rattle.ipg_app_tree.specs.Telling.{Ready}
use Rattle.ipg_app_tree.proofs.Told.{Going}
use Rattle.ipg_app_tree.proofs.telling.tell_all.Given as goal

abbrev pub invariant-loop-k : goal.invariant-loop-k
invariant-loop-k g l =
    (grammar : Grammar) → Ready grammar [] l.initial.session → AreEdits l.edits → Going grammar l.edits l.initial.session l.k l.session l.lines.items
