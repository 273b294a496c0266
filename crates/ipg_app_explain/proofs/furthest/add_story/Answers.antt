use Rattle.std.proofs.Common.{◌≡◌, ◌++◌, ◌∷◌, [], ap, ◌∙◌}
use Rattle.std.proofs.lemmas.Result.{on_ok_weaker}
use Rattle.ipg_app_explain.specs.Furthest.{chain, failure_lines, is_in_many, nearest}
use Rattle.ipg_app_explain.specs.Seen.{subject_of}
use Rattle.ipg_app_explain.proofs.Joined.{behind}
use Rattle.ipg_app_explain.proofs.furthest.add_story.Goals as goal

pub returns : goal.returns
returns c =
    let s = subject_of c.args.subject in
    let names = c.args.names.now in
    let one = c.args.one.now in
    let same : c.as_slice-calls.result.now ≡ one.calls = c.as_slice-calls.ensures in
    let many : c.is_in_many.result ≡ is_in_many s (nearest one.calls) =
    (c.is_in_many.ensures ∙ ap (is_in_many s) c.nearest.ensures ∙ ap (λ calls. is_in_many s (nearest calls)) same) in
    let read = c.in_ok-add_failure.ensures ∙ ap (λ vs. c.push.new.self.items ++ failure_lines s names one.failure vs c.is_in_many.result) c.as_slice.ensures in
    let failed = read ∙ ap (λ b. c.push.new.self.items ++ failure_lines s names one.failure one.values b) many in
    let led = c.in_ok-add_chain.ensures ∙ ap (λ calls. c.add_failure.new.out.items ++ chain s calls one.left_out) same in
    on_ok_weaker c.add_last.result (λ e. behind (10 ∷ []) _ _ _ _ c.in_ok-push.ensures.items
    (behind (failure_lines s names one.failure one.values (is_in_many s (nearest one.calls))) _ _ _ _ failed
    (behind (chain s one.calls one.left_out) _ _ _ _ led e))) c.add_last.ensures
