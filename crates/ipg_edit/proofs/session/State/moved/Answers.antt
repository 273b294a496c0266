use Rattle.std.proofs.Common.{sym, subst, None}
use Rattle.ipg_edit.specs.Session.{holding}
use Rattle.ipg_edit.specs.Edits.{AreMoved, memo_with}
use Rattle.ipg_edit.proofs.Editing as editing
use Rattle.ipg_edit.proofs.session.State.moved.Goals as goal

pub returns-in-Nothing : goal.returns-in-Nothing
returns-in-Nothing g c =
    subst (λ s. AreMoved c.args.from c.args.to c.args.new (holding s).memo (memo_with s None)) (sym c.in-Nothing.is)
    (editing.nothing_moved c.args.from c.args.to c.args.new)
