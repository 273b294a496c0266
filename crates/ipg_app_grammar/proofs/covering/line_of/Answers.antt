use Rattle.std.proofs.Common.{◌≡◌, ◌++◌, ◌∙◌, ap, subst, w64}
use Rattle.std.proofs.lemmas.Int.{to_z-of_z}
use Rattle.std.specs.Prelude.{IfOk}
use Rattle.ipg_app_grammar.specs.Covering.{place_words, at_words, eoi_words, gap_words}
use Rattle.ipg_app_text.specs.declared.status.Status.TheVariants.{Refused}
use Rattle.ipg_app_text.specs.Lines.{said_of}
use Rattle.ipg_app_text.specs.Said.{line_said}
use Rattle.ipg_app_grammar.proofs.Pieces.{three_behind}
use Rattle.ipg_app_grammar.proofs.covering.line_of.Goals as goal

pub returns : goal.returns
returns c =
    let text = c.args.words.now ++ gap_words c.args.g.now c.args.place c.args.at c.args.eoi in
    let at = ap (λ z. c.add_place.new.told.items ++ at_words z) (to_z-of_z w64 c.args.at c.ranges.at) in
    let eoi = ap (λ z. c.add_at.new.told.items ++ eoi_words z) (to_z-of_z w64 c.args.eoi c.ranges.eoi) in
    let told : c.deref.result.now ≡ text =
    c.deref.ensures.value
    ∙ three_behind c.args.words.now (place_words c.args.g.now c.args.place) (at_words c.args.at) (eoi_words c.args.eoi) _ _ _ _
    c.in_ok-told.ensures.items c.in_ok-add_place.ensures (c.in_ok-add_at.ensures ∙ at) (c.in_ok-add_length.ensures ∙ eoi) in
    subst (λ t. IfOk c.line.result (λ settled. said_of settled ≡ line_said Refused t)) told c.line.ensures
