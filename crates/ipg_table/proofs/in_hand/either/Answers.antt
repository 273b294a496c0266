use Rattle.std.proofs.Common.{◌≡◌, rules, [], ◌∷◌, ap, ◌∙◌, sym, true, false, if◌then◌else◌}
use Rattle.ipg_num.specs.Number.{flag}
use Rattle.ipg_core.specs.Eval.{is_zero}
use Rattle.ipg_table.specs.declared.row.Op.TheVariants.{Either}
use Rattle.ipg_table.specs.Running.{computed, put}
use Rattle.ipg_table.proofs.Handing.{led_alike}
use Rattle.ipg_table.proofs.in_hand.either.Goals as goal

pub returns-else-is_zero : goal.returns-else-is_zero
returns-else-is_zero c env room within =
    let a = c.args.a in
    let skip = c.args.skip in
    let zero : is_zero a ≡ false = search rules in
    led_alike c.taken.result (put room c.truth.result skip []) (computed env room (Either skip) (a ∷ []))
    (λ next. ap (λ b. if b then next 0 [] else put room (flag true) skip [] next) zero
    ∙ ap (λ t. put room t skip [] next) (sym c.truth.ensures)) (c.taken.ensures room within)
