use Rattle.std.proofs.Common.{◌∙◌, ap, sym}
use Rattle.std.proofs.lemmas.Result.{on_ok_weaker}
use Rattle.ipg_ast.specs.declared.grammar.Term.TheVariants.{Pick}
use Rattle.ipg_names_scope.specs.Terms.{calls_in, what_calls}
use Rattle.ipg_names_scope.specs.Marks.{look, marks_on, cases_call}
use Rattle.ipg_names_scope.proofs.Spots.{marks_append}
use Rattle.ipg_names_scope.proofs.marks.mark_calls.Goals as goal

pub returns-in_ok-mark_cases-in-Pick : goal.returns-in_ok-mark_cases-in-Pick
returns-in_ok-mark_cases-in-Pick c =
    let mark = c.args.mark in
    on_ok_weaker c.mark_what-in-Pick.result
    (λ h x.
    let old = look c.args.places.now x in
    h x ∙ ap (marks_on mark x (what_calls c.in-Pick.other.what)) (c.in_ok-mark_cases-in-Pick.ensures x)
    ∙ sym (marks_append mark x (cases_call c.as_slice.result.now) (what_calls c.in-Pick.other.what) old)
    ∙ ap (λ cases. marks_on mark x (calls_in (Pick c.in-Pick.at cases c.in-Pick.other)) old) c.as_slice.ensures
    ∙ ap (λ t. marks_on mark x (calls_in t) old) (sym c.in-Pick.is))
    c.mark_what-in-Pick.ensures
