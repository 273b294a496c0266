use Rattle.std.proofs.Common.{◌≡◌, IfSome, [], ◌∷◌, subst, sym, ap, ◌∙◌, not, rules, w64}
use Rattle.std.proofs.lemmas.Int.{to_z-of_z}
use Rattle.ipg_num.specs.Number.{flag, negate_of}
use Rattle.ipg_core.specs.Environment as envs
use Rattle.ipg_core.specs.Eval.{found, is_zero, item_at}
use Rattle.ipg_table.specs.declared.row.Op.TheVariants.{Cond}
use Rattle.ipg_table.specs.Hand.{LeadsOn, handed}
use Rattle.ipg_table.specs.Running.{computed, put}
use Rattle.ipg_table.proofs.Handing.{led_alike}
use Rattle.ipg_table.proofs.in_hand.with.Goals as goal

pub returns-in-Item : goal.returns-in-Item
returns-in-Item g c env room stands within =
    let a = c.args.a in
    let item = found (envs.field_of_item env.names c.in-Item.field (item_at (envs.items_so_far (envs.done_at env.done c.in-Item.term)) a)) in
    let reads : c.found.result ≡ item = search rules in
    led_alike c.taken.result (put room c.found.result 0 []) (computed env room c.args.op.now (a ∷ []))
    (λ next. ap (λ op. computed env room op (a ∷ []) next) c.in-Item.is ∙ ap (λ v. put room v 0 [] next) (sym reads)) (c.taken.ensures room within)

pub returns-in-Neg : goal.returns-in-Neg
returns-in-Neg g c env room stands within =
    let a = c.args.a in
    let is : c.negate.result ≡ negate_of a = search rules in
    led_alike c.taken-in-Neg.result (put room c.negate.result 0 []) (computed env room c.args.op.now (a ∷ []))
    (λ next. ap (λ op. computed env room op (a ∷ []) next) c.in-Neg.is ∙ ap (λ v. put room v 0 [] next) (sym is)) (c.taken-in-Neg.ensures room within)

pub returns-in-Not : goal.returns-in-Not
returns-in-Not g c env room stands within =
    let a = c.args.a in
    let zero : c.is_zero.result ≡ is_zero a = search rules in
    let is : c.truth.result ≡ flag (is_zero a) = c.truth.ensures ∙ ap flag zero in
    led_alike c.taken-in-Not.result (put room c.truth.result 0 []) (computed env room c.args.op.now (a ∷ []))
    (λ next. ap (λ op. computed env room op (a ∷ []) next) c.in-Not.is ∙ ap (λ v. put room v 0 [] next) (sym is)) (c.taken-in-Not.ensures room within)

pub returns-in-Truth : goal.returns-in-Truth
returns-in-Truth g c env room stands within =
    let a = c.args.a in
    let zero : c.is_zero-in-Truth.result ≡ is_zero a = search rules in
    let is : c.truth-in-Truth.result ≡ flag (not (is_zero a)) = c.truth-in-Truth.ensures ∙ ap (λ b. flag (not b)) zero in
    led_alike c.taken-in-Truth.result (put room c.truth-in-Truth.result 0 []) (computed env room c.args.op.now (a ∷ []))
    (λ next. ap (λ op. computed env room op (a ∷ []) next) c.in-Truth.is ∙ ap (λ v. put room v 0 [] next) (sym is)) (c.taken-in-Truth.ensures room within)

pub returns-in-Cond : goal.returns-in-Cond
returns-in-Cond g c env room stands within next =
    let same = to_z-of_z w64 c.args.a (record { sfits = c.ranges.a.sfits }) in
    let leads = subst (λ a. computed env room (Cond c.in-Cond.skip) (a ∷ []) next ≡ next c.choice.result.skip (handed c.choice.result.number)) same
    (c.choice.ensures env room next) in
    ap (λ op. computed env room op (c.args.a ∷ []) next) c.in-Cond.is ∙ leads
