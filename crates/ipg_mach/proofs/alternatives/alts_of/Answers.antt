use Rattle.std.specs.Prelude.{slice_get}
use Rattle.std.specs.Option.{option_copied}
use Rattle.std.proofs.Common.{sym, ap, ◌∙◌, subst}
use Rattle.ipg_mach_moves.specs.Moves as moves
use Rattle.ipg_core.specs.Grammar.{rule_at}
use Rattle.ipg_table.specs.Rows.{Each, HoldsAlt}
use Rattle.ipg_mach.proofs.Rows as rows
use Rattle.ipg_mach.proofs.alternatives.alts_of.Goals as goal

pub returns-in-Some : goal.returns-in-Some
returns-in-Some c g stand =
    subst (λ alts. Each (HoldsAlt c.args.tables.now) alts (moves.alts_of (rule_at g c.args.rule))) (sym c.alts.ensures)
    (rows.alts_there c.args.tables.now _ g.rules c.args.rule c.in-Some.row.now stand.rules
    (ap (λ rows. slice_get rows c.args.rule) (sym c.rules.ensures.rows) ∙ sym c.item_at.ensures ∙ ap option_copied c.in-Some.is))

pub returns-in-None : goal.returns-in-None
returns-in-None c g stand = rows.alts_past c.args.tables.now _ g.rules c.args.rule stand.rules
    (ap (λ rows. slice_get rows c.args.rule) (sym c.rules.ensures.rows) ∙ sym c.item_at.ensures ∙ ap option_copied c.in-None.is)
