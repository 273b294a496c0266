use Rattle.std.proofs.Common.{w64, sym, ◌∙◌}
use Rattle.std.proofs.lemmas.Int.{to_z-of_z}
use Rattle.ipg_mach_term.proofs.Entering as entering
use Rattle.ipg_mach_term.proofs.enter.passes.Goals as goal

pub returns-then-is_zero : goal.returns-then-is_zero
returns-then-is_zero c src st at n u state =
    entering.fails src st at n u state c.args.value _ (to_z-of_z w64 c.args.value c.ranges.value) (sym c.is_zero.ensures ∙ c.if-is_zero.true)

pub returns-else-is_zero : goal.returns-else-is_zero
returns-else-is_zero c src st at n u state =
    entering.holds src st at n u state c.args.value _ (to_z-of_z w64 c.args.value c.ranges.value) (sym c.is_zero.ensures ∙ c.if-is_zero.false)
