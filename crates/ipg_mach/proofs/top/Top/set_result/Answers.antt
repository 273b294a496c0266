use Rattle.std.proofs.Common.{sym, ap, ◌∙◌, subst, Some}
use Rattle.std.specs.Prelude.{slice_set}
use Rattle.std.specs.Option.{option_copied}
use Rattle.std.proofs.lemmas.List.{length-set}
use Rattle.ipg_core.specs.Meaning.{with_kid}
use Rattle.ipg_table.specs.Rows.{HoldsInstr}
use Rattle.ipg_mach_slot.specs.Now.{AreResults}
use Rattle.ipg_mach.specs.Piled.{above}
use Rattle.ipg_mach.specs.Calls.{shown, size_of, term_at_hand}
use Rattle.ipg_mach.proofs.Working as working
use Rattle.ipg_mach.proofs.Rows as rows
use Rattle.ipg_mach.proofs.top.Top.set_result.Goals as goal

pub returns-in-Some-clause-work : goal.returns-in-Some-clause-work
unfolding with_kid
returns-in-Some-clause-work g c t src frames lower items call one some work done =
    let s = shown c.args.self.now in
    let term = c.in-Some.instr.now.term in
    let is = sym c.first.ensures.value ∙ ap option_copied c.in-Some.is in
    working.turns_to t src s frames lower items call work c.set_done.new.self _ _ items (c.set_done.ensures work.base)
    (length-set call.state.done (term_at_hand call.left) _ ∙ work.is_open.count) work.is_open.attrs
    (subst (λ u. AreResults src s.store s.frame.from (size_of s.frame) (slice_set (above s.piles s.frame.base).done term (Some c.args.done))
    (slice_set call.state.done u (Some one)))
    (rows.first_term t call.terms s.frame.left.now call.left c.in-Some.instr.now work.is_open.left is)
    (c.result_set.ensures src s.store s.frame.from (size_of s.frame) _ call.state.done c.args.done one term work.is_open.done done))
    work.is_open.have

pub returns-in_default-clause-work : goal.returns-in_default-clause-work
returns-in_default-clause-work g c t src frames lower items call one some work done =
    absurd (some (rows.none_left (HoldsInstr t call.terms) c.args.self.now.frame.left.now call.left work.is_open.left
    (sym c.first.ensures.value ∙ ap option_copied c.in_default.is)))
