use Rattle.std.proofs.Common.{rules}
use Rattle.ipg_solve_values.proofs.OtherValues.{none_more, some_more}
use Rattle.ipg_solve_values.proofs.Words.{le_words, upper}
use Rattle.ipg_solve_values.proofs.deciding.has_above.Goals as goal

pub returns-then-high-value : goal.returns-then-high-value
returns-then-high-value c =
    none_more c.args.f.now c.args.b.now c.args.x c.requires.there c.args.value c.requires.within c.high_at-high.result c.high_at-high.ensures
    (le_words c.high_at-high.result c.args.value (search rules) (search rules) c.if-high-value.true)

pub returns : goal.returns
returns c =
    some_more c.args.f.now c.args.b.now c.args.x c.requires.there c.args.value c.requires.within c.high_at-high.result c.high_at-high.ensures c.in_ok-has.has
    (upper c.args.f.now c.args.b.now c.args.x c.args.value (search rules) c.in_ok-has.has c.high_at-high.result (search rules) c.if-high-value.false
    c.in_ok-has.ensures)
