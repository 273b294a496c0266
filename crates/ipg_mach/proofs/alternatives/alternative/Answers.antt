use Rattle.ipg_mach_moves.specs.Moves.{alts_of}
use Rattle.ipg_core.specs.Grammar.{rule_at}
use Rattle.ipg_mach.proofs.Rows as rows
use Rattle.ipg_mach.proofs.alternatives.alternative.Goals as goal

pub returns : goal.returns
returns c g stand =
    rows.next_row c.args.tables.now c.alts_of.result.now (alts_of (rule_at g c.args.rule)) c.args.alt c.item_at.result (c.alts_of.ensures g stand)
    c.item_at.ensures
