use Rattle.std.proofs.Common.{◌≡◌, ℕ, List, length, refl, sym, ap, subst, ◌∙◌, Option, Some, None, option_map, ℤ, pos}
use Rattle.std.proofs.lemmas.Option.{none-some}
use Rattle.ipg_num.specs.declared.op.Answer.{Answer}
use Rattle.ipg_core.specs.Environment.{done_at, items_so_far}
use Rattle.ipg_core.specs.Eval.{found, greatest_end}
use Rattle.ipg_table.specs.Running.{Next, put, put_end}
use Rattle.ipg_table.specs.Stack.{stacked, Turns}
use Rattle.ipg_table.proofs.Handing.{an_end, no_end}
use Rattle.ipg_table.proofs.value.end.Goals as goal

pub returns-in-Some-clause-turn : goal.returns-in-Some-clause-turn
returns-in-Some-clause-turn g c = λ env stands.
    let room = length c.args.area.now in
    let stack = stacked c.args.area.now c.args.top in
    let end = greatest_end (items_so_far (done_at env.done c.args.term)) in
    let reads = c.greatest_end-end.ensures env stands in
    let same = an_end room end c.greatest_end-end.result _ c.found.result c.args.skip stack reads c.in-Some.is c.found.ensures in
    subst (Turns c.put.result c.put.new.area) (sym same) c.put.ensures.turn

pub returns-in-None-clause-turn : goal.returns-in-None-clause-turn
returns-in-None-clause-turn g c = λ env stands.
    let end = greatest_end (items_so_far (done_at env.done c.args.term)) in
    no_end (length c.args.area.now) end c.greatest_end-end.result c.args.skip (stacked c.args.area.now c.args.top)
    (c.greatest_end-end.ensures env stands) c.in-None.is
