use Rattle.std.proofs.Common.{sym, ap, ◌∙◌, subst, Some}
use Rattle.ipg_core.specs.Grammar.{rule_at, holder_of}
use Rattle.ipg_mach_moves.specs.Moves.{learn}
use Rattle.ipg_mach.specs.Known.{IsEntryOf, key_of}
use Rattle.ipg_mach.proofs.verdict.verdict_found.Goals as goal

pub returns : goal.returns
returns g c src grammar answer tally known stand entry counted holds =
    let key = c.args.key in
    let st = c.args.kept.store in
    let holder = c.holder.ensures grammar stand ∙ ap (λ r. holder_of (rule_at grammar r)) (sym c.requires.0) in
    let learned = c.in_ok-learn.ensures src st grammar known answer holds entry holder in
    let first = subst (λ k. IsEntryOf src st k (Some c.args.entry) (Some answer))
    (λ i. record { rule = c.requires.0 i; from = c.requires.1 i; to = key.to }) entry in
    c.verdict_with.ensures src key.to answer tally (learn grammar known (key_of key) answer) first counted learned
