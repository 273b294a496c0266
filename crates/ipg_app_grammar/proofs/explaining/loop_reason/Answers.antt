use Rattle.std.proofs.Common.{rules, ℕ, List, ap, ◌∙◌, subst}
use Rattle.std.proofs.lemmas.Int.{to_z-of_z}
use mir.Syntax.{w64}
use Rattle.ipg_app_explain.specs.declared.why.Why.TheVariants as why
use Rattle.ipg_app_values.specs.Notes.{AreNotes}
use Rattle.ipg_lin.specs.Formula.{assigned}
use Rattle.ipg_app_grammar.specs.Checks.{may_loop}
use Rattle.ipg_app_text.specs.Said.{Said}
use Rattle.ipg_app_text.specs.Reasons.{Reason}
use Rattle.ipg_app_grammar.proofs.explaining.loop_reason.Goals as goal

pub returns : goal.returns
returns c =
    let notes = c.in_ok-notes.notes.items in
    let with_said : Said → Reason = λ said. record { said = said; why = why.MayLoop; places = c.in_ok-places.places.items; notes = notes } in
    let told = may_loop c.args.core.now c.args.cycle.now (assigned c.args.values.now 0) in
    let with_places : List ℕ → Reason = λ places. record { said = told; why = why.MayLoop; places = places; notes = notes } in
    record {
      cycle = c.args.cycle.now;
      values = c.args.values.now;
      loops = c.requires;
      notes = notes;
      noted = subst (λ eoi. AreNotes c.args.g.now c.args.core.now c.requires.marks c.args.cycle.now eoi notes)
          (to_z-of_z w64 c.length_of.result (search rules) ∙ c.length_of.ensures) (c.in_ok-notes.ensures c.requires.marks c.requires.limit);
      is = ap with_said c.in_ok-said.ensures ∙ ap with_places c.in_ok-places.ensures;
    }
