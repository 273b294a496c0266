use Rattle.std.proofs.Common.{ℕ, Vec, subst, ap, refl}
use Rattle.ipg_edit.specs.Edits.{IsAllowed, IsEdited, memo_with}
use Rattle.ipg_edit.specs.Session.{Seen, holding}
use Rattle.ipg_edit.proofs.Editing as editing
use Rattle.ipg_edit.proofs.session.Session.edit.Goals as goal

pub returns-clause-ok : goal.returns-clause-ok
returns-clause-ok g c =
    let inside = c.self.inside in
    let from = c.args.from in
    let to = c.args.to in
    let with = c.args.with.now in
    let made = c.in_ok-later.later in
    let later = c.replace.new.dest.items in
    let held = holding c.put.new.self in
    let allowed = subst (λ x. IsAllowed x from to with) c.as_slice.ensures.value (c.if-not-is_allowed.ensures.0 refl) in
    subst (λ (x : Seen). IsEdited from to with x (record { tables = inside.tables.now; input = later; holding = held })) c.self.view_is
    (editing.is_edited c.stays_known.ensures from to with inside.tables.now inside.input.items (holding inside.state) c.as_slice-2.result.now made.input.items
    later (memo_with inside.state made.memo) held allowed c.as_slice-2.ensures.value c.in_ok-later.ensures.0
    (ap (λ (v : Vec ℕ g.row.A.Denot). v.items) c.replace.ensures.after) c.in_ok-later.ensures.1 c.put.ensures)
