use Rattle.std.proofs.Common.{rules}
use Rattle.ipg_solve_values.proofs.OtherValues.{none_less, some_less}
use Rattle.ipg_solve_values.proofs.Words.{le_words, lower}
use Rattle.ipg_solve_values.proofs.deciding.has_below.Goals as goal

pub returns-then-value-low : goal.returns-then-value-low
returns-then-value-low c =
    none_less c.args.f.now c.args.b.now c.args.x c.requires.there c.args.value c.requires.within c.low_at-low.result c.low_at-low.ensures
    (le_words c.args.value c.low_at-low.result (search rules) (search rules) c.if-value-low.true)

pub returns : goal.returns
returns c =
    some_less c.args.f.now c.args.b.now c.args.x c.requires.there c.args.value c.requires.within c.low_at-low.result c.low_at-low.ensures c.in_ok-has.has
    (lower c.args.f.now c.args.b.now c.args.x c.args.value (search rules) c.in_ok-has.has c.low_at-low.result (search rules) c.if-value-low.false
    c.in_ok-has.ensures)
