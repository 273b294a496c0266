use Rattle.std.proofs.Common.{◌≡◌, List, ℕ, ap, ◌∙◌}
use Rattle.std.proofs.lemmas.Result.{IfOk-weaker}
use Rattle.ipg_core.specs.Grammar.{Grammar}
use Rattle.ipg_mach_watch.specs.Found.{Found, found}
use Rattle.ipg_app_explain.specs.Furthest.{told_of}
use Rattle.ipg_app_explain.specs.Seen.{subject_of}
use Rattle.ipg_app_text.specs.declared.status.Status.{Status}
use Rattle.ipg_app_grammar.specs.Followed.{Follows, ending_of, found_said, status_of}
use Rattle.ipg_app_text.specs.Lines.{said_of}
use Rattle.ipg_app_text.specs.Said.{Said}
use Rattle.ipg_app_grammar.proofs.following.follow.Goals as goal

pub returns : goal.returns
returns c =
    let s = subject_of c.args.subject in
    let core = c.args.core.now in
    let f : Found = found c.in_ok-findings.findings in
    let make : Status → List ℕ → Said = λ st text. record { status = st; text = text } in
    let names = c.names.ensures ∙ ap (λ (g : Grammar). g.names) c.core.ensures.core in
    let text : c.in_ok-told.told.items ≡ told_of s core.names (ending_of f.end) f.told f.more =
    (c.in_ok-told.ensures
    ∙ ap (λ ns. told_of s ns c.ending_of.result c.deref.result.now f.more) names
    ∙ ap (λ e. told_of s core.names e c.deref.result.now f.more) c.ending_of.ensures
    ∙ ap (λ l. told_of s core.names (ending_of f.end) l f.more) c.deref.ensures.value) in
    let same : make c.status_of.result c.in_ok-told.told.items ≡ found_said s core f =
    (ap (λ st. make st c.in_ok-told.told.items) c.status_of.ensures ∙ ap (make (status_of f.end)) text) in
    IfOk-weaker c.settled.result (λ x. said_of x ≡ make c.status_of.result c.in_ok-told.told.items) (λ x. Follows s core (said_of x))
    (λ x h. record { found = f; are = c.in_ok-findings.ensures core c.in_ok-tables.ensures; is = h ∙ same })
    c.settled.ensures
