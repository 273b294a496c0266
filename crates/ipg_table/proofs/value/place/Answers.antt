use Rattle.std.proofs.Common.{◌+◌, ◌∷◌, sym, ap, ◌∙◌, if◌then◌else◌, slice_set, w64}
use Rattle.std.proofs.lemmas.Int.{to_z-of_z}
use Rattle.ipg_num.specs.declared.op.Answer.TheVariants.{Fail}
use Rattle.ipg_table.specs.Stack.{stacked}
use Rattle.ipg_table.proofs.Stacks.{placed, room_left, no_room, higher}
use Rattle.ipg_table.proofs.value.place.Goals as goal

pub returns-then-top-area-clause-turn : goal.returns-then-top-area-clause-turn
returns-then-top-area-clause-turn c = λ next.
    let area = c.args.area.now in
    let top = c.args.top in
    let same = to_z-of_z w64 c.args.value (record { sfits = c.ranges.value.sfits }) in
    ap (λ b. if b then next c.args.skip (c.args.value ∷ stacked area top) else Fail) (room_left area top c.if-top-area.true)
    ∙ sym (ap (next c.args.skip) (ap (λ v. stacked (slice_set area top v) (top + 1)) same ∙ placed area top c.args.value c.if-top-area.true))

pub returns-then-top-area-clause-within : goal.returns-then-top-area-clause-within
returns-then-top-area-clause-within c = higher c.args.area.now c.args.top _ c.if-top-area.true

pub returns-else-top-area-clause-turn : goal.returns-else-top-area-clause-turn
returns-else-top-area-clause-turn c = λ next.
    let area = c.args.area.now in
    let top = c.args.top in
    ap (λ b. if b then next c.args.skip (c.args.value ∷ stacked area top) else Fail) (no_room area top c.if-top-area.false)
