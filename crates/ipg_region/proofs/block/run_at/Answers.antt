use Rattle.std.proofs.Common.{ap, arith, take, drop, ◌-◌, get_or, length, ◌∙◌, sym}
use Rattle.std.specs.Prelude.{Some}
use Rattle.ipg_region.proofs.PiecesLemmas.{piece_at, within_items}
use Rattle.ipg_region.proofs.block.run_at.Goals as goal

pub between-requires-clause-ordered : goal.between-requires-clause-ordered
between-requires-clause-ordered g c = omega (arith, within_items c.args.ends.now (length c.args.items.now) c.args.place c.requires.rises c.requires.within)

pub between-requires-clause-within : goal.between-requires-clause-within
between-requires-clause-within g c = omega (arith, within_items c.args.ends.now (length c.args.items.now) c.args.place c.requires.rises c.requires.within)

pub returns : goal.returns
returns g c =
    piece_at c.args.items.now 0 c.args.ends.now c.args.place c.requires.within
    ∙ ap (λ from. Some (take (get_or c.args.ends.now c.args.place 0 - from) (drop from c.args.items.now))) (sym c.start_of.ensures)
    ∙ ap Some (sym c.between.ensures)
