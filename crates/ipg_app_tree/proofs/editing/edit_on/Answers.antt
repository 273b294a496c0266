use Rattle.std.proofs.Common.{◌≡◌, [], ap, sym, subst, ◌∙◌}
use Rattle.ipg_core.specs.Grown.{IsInput}
use Rattle.ipg_edit.specs.Session.{Seen}
use Rattle.ipg_app_tree.specs.Telling.{Ready}
use Rattle.ipg_app_tree.proofs.Told.{as_due}
use Rattle.ipg_app_tree.proofs.editing.edit_on.Goals as goal

pub returns-clause-done : goal.returns-clause-done
returns-clause-done g c =
    let grammar = c.args.due.now.grammar in
    let session = c.in_ok-session.session in
    let same : session.input ≡ c.args.due.now.input.items =
    ap (λ (s : Seen). s.input) c.in_ok-session.ensures.seen ∙ c.deref-2.ensures.value in
    let ready : Ready grammar [] session = record {
      knows = c.in_ok-session.ensures.knows grammar c.requires.stand c.ends.ensures.good;
      total = c.ends.ensures.total;
      input = subst IsInput (sym same) (rw c.deref.ensures.value at c.ends.ensures.input);
    } in
    as_due c.say_all-said.result grammar c.args.due.now.input.items session.input c.args.due.now.edits _ session _ _ _ _ same c.as_slice.ensures
    c.say_all-said.ensures.done ready
