use Rattle.std.proofs.Common.{[], sym, ◌∙◌, ap, ℕ, List, slice_get}
use Rattle.ipg_touch.specs.Loose.{loose}
use Rattle.ipg_app_explain.specs.declared.why.Why.TheVariants as why
use Rattle.ipg_app_explain.specs.Terms.{term_place}
use Rattle.ipg_app_text.specs.CoreOf.{name_of}
use Rattle.ipg_app_text.specs.Refusal.{no_touch}
use Rattle.ipg_app_text.specs.Reasons.{Reason, listed}
use Rattle.ipg_app_text.proofs.core_of.touching.Goals as goal

pub returns-in_ok-reason-in-Some : goal.returns-in_ok-reason-in-Some
returns-in_ok-reason-in-Some c =
    let core = c.args.core in
    let rule = c.in-Some.rule in
    let alt = c.in-Some.alt in
    let term = c.in-Some.term in
    let named : List ℕ → Reason =
    λ name. record { said = no_touch name alt term; why = why.NoTouch; places = listed (term_place c.args.g.now rule alt term); notes = [] } in
    record {
      marks = c.in_ok-marks.marks.items;
      limit = c.in_ok-marks.ensures.limit;
      at = (rule, alt, term);
      found = sym (c.in-Some.ensures.first ∙ ap (λ marks. loose marks core.rules) c.deref.ensures.value);
      is = c.in_ok-reason-in-Some.ensures ∙ ap named (c.rule_name-name.ensures ∙ ap (λ rules. name_of (slice_get rules rule)) c.rules.ensures.rules);
    }
