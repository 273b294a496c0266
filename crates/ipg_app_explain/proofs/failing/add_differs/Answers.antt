use Rattle.std.proofs.Common.{◌≡◌, ◌++◌, ◌-◌, ap, ◌∙◌}
use Rattle.std.proofs.lemmas.Result.{on_ok_weaker}
use Rattle.ipg_app_explain.specs.Furthest.{found_at, stands, wanted_at}
use Rattle.ipg_app_explain.specs.Named.{size_of, wanted_of}
use Rattle.ipg_app_explain.proofs.Joined.{behind}
use Rattle.ipg_app_explain.proofs.failing.add_differs.Goals as goal

pub returns : goal.returns
returns c =
    let f = c.args.f.now in
    let term = c.args.term.now in
    let input = c.args.input.now in
    let agreed = c.args.agreed in
    let at : c.saturating_sub-at.result ≡ f.place - agreed = c.saturating_sub-at.ensures in
    let found : c.found_at.result.now ≡ found_at input (f.place - agreed) f.to (size_of f.branch term) =
    (c.found_at.ensures ∙ ap (λ a. found_at input a f.to c.size_of.result) at ∙ ap (found_at input (f.place - agreed) f.to) c.size_of.ensures) in
    let first = c.in_ok-add_wanted_at.ensures ∙ ap (λ a. c.args.out.now.items ++ wanted_at a (wanted_of f.branch term)) at in
    on_ok_weaker c.add_stands.result (λ e. behind _ _ _ _ _ first (e ∙ ap (λ b. c.add_wanted_at.new.out.items ++ stands b agreed) found)) c.add_stands.ensures
