use Rattle.std.proofs.Common.{◌≡◌, sym, ap, subst, ◌∙◌, Result, Ok, Err}
use Rattle.std.specs.Result.{IfErr, IsErrAnd}
use Rattle.ipg_complete.specs.Unordered.{core_of}
use Rattle.ipg_order.specs.Answer.{OrderStops}
use Rattle.ipg_order.specs.Reading.{TellWaits, holders_of}
use Rattle.ipg_order.proofs.Outcome.{are_small, is_good, is_same, stops_so}
use Rattle.ipg_order.proofs.ordered.order.Goals as goal

if_err : {A E : Type 0} (P Q : E → Type 0) (r : Result A E) → ((e : E) → Q e → P e) → IsErrAnd r Q → IfErr r P
if_err P Q (Ok a) f h = tt
if_err P Q (Err e) f h = f e h

pub ordered_rules-requires : goal.ordered_rules-requires
ordered_rules-requires c = are_small (record { rules = c.c.inside.rules; names = c.c.inside.names }) c.c.invariant

pub returns-in_err-rules-clause-err : goal.returns-in_err-rules-clause-err
returns-in_err-rules-clause-err c =
    let fault = c.in_err-rules.field-0.0 in
    let stops : OrderStops (core_of c.args.c) fault = stops_so (record { rules = c.c.inside.rules; names = c.c.inside.names }) c.args.c c.c.view_is
    c.c.invariant
    c.as_slice.result.now (c.as_slice.ensures.value ∙ c.in_ok-holders.ensures ∙ ap holders_of c.rules.ensures.rules)
    c.as_slice-2.result.now (subst (TellWaits c.args.c) (sym c.as_slice-2.ensures.value) c.in_ok-flags.ensures) fault c.in_err-rules.ensures.err in
    if_err (OrderStops (core_of c.args.c)) (λ e. e ≡ fault) c.from_residual-in_err-rules.result
    (λ e same. subst (OrderStops (core_of c.args.c)) (sym same) stops) c.from_residual-in_err-rules.ensures.1

pub invariant_of-result : goal.invariant_of-result
invariant_of-result c =
    let good = is_good (record { rules = c.c.inside.rules; names = c.c.inside.names }) c.args.c c.c.view_is c.c.invariant
    c.as_slice.result.now (c.as_slice.ensures.value ∙ c.in_ok-holders.ensures ∙ ap holders_of c.rules.ensures.rules)
    c.as_slice-2.result.now (subst (TellWaits c.args.c) (sym c.as_slice-2.ensures.value) c.in_ok-flags.ensures) c.in_ok-rules.rules.items
    c.in_ok-rules.ensures.ok in
    rw c.from_vec.ensures good

pub returns-clause-ok : goal.returns-clause-ok
returns-clause-ok c =
    let same = is_same (record { rules = c.c.inside.rules; names = c.c.inside.names }) c.args.c c.c.view_is c.c.invariant
    c.as_slice.result.now (c.as_slice.ensures.value ∙ c.in_ok-holders.ensures ∙ ap holders_of c.rules.ensures.rules)
    c.as_slice-2.result.now (subst (TellWaits c.args.c) (sym c.as_slice-2.ensures.value) c.in_ok-flags.ensures) c.in_ok-rules.rules.items
    c.in_ok-rules.ensures.ok in
    rw c.from_vec.ensures same
