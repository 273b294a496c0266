use Rattle.std.proofs.Common.{◌≡◌, w64, ap, ◌∙◌, length, rules}
use Rattle.std.proofs.lemmas.Int.{to_z-of_z}
use Rattle.ipg_mach_slot.proofs.Slots as slots
use Rattle.ipg_mach_slot.proofs.expr.slot_between.Goals as goal

pub returns-in-Some : goal.returns-in-Some
returns-in-Some c src st at f place state slot is shares =
    let counted : length c.args.site.now.bytes.now ≡ c.args.site.now.size = search rules in
    let size = ap length shares.part ∙ counted in
    slots.between src st at f place state slot c.args.from c.args.to c.in-Some.ends c.symbol.result
    (slots.same_ends _ _ c.args.from _ c.args.to _ _ size (to_z-of_z w64 c.args.from c.ranges.from)
    (to_z-of_z w64 c.args.to c.ranges.to) c.in-Some.ensures.valid)
    (c.symbol.ensures src st at f place state.own slot.sym shares.syms is shares.part shares.lies)

pub returns-in-None : goal.returns-in-None
returns-in-None c src st at f place state slot is shares =
    let counted : length c.args.site.now.bytes.now ≡ c.args.site.now.size = search rules in
    let size = ap length shares.part ∙ counted in
    slots.not_between src st at f place state slot c.args.from c.args.to
    (slots.same_ends _ _ c.args.from _ c.args.to _ _ size (to_z-of_z w64 c.args.from c.ranges.from)
    (to_z-of_z w64 c.args.to c.ranges.to) c.in-None.ensures.valid)
