use Rattle.std.proofs.Common.{ap, sym, ◌∙◌}
use Rattle.ipg_memo.specs.Keyed.{of_rows}
use Rattle.ipg_memo.specs.Ways.{key_at}
use Rattle.ipg_memo.proofs.WayLemmas.{row_has_key}
use Rattle.ipg_memo.proofs.PartedLemmas.{free_end}
use Rattle.ipg_memo.proofs.RowLemmas.{row_within, replaced}
use Rattle.ipg_memo.proofs.WholeLemmas.{whole_set_as}
use Rattle.ipg_memo.proofs.memo.enter.Goals as goal

pub set-requires : goal.set-requires
set-requires g c =
    row_within c.args.rows.now.items c.in-Row.row c.args.key
    (row_has_key (key_at c.args.rows.now.items) c.args.index.now c.args.key c.in-Row.row (sym c.in-Row.ensures.value))

pub returns-in-Row-clause-whole : goal.returns-in-Row-clause-whole
returns-in-Row-clause-whole g c =
    whole_set_as c.args.rows.now.items c.set.new.self.items c.args.index.now c.in-Row.row c.args.key c.args.entry c.set.ensures c.requires.whole
    (sym c.in-Row.ensures.value)

pub returns-in-Row-clause-ok : goal.returns-in-Row-clause-ok
returns-in-Row-clause-ok g c =
    ap of_rows c.set.ensures
    ∙ replaced c.args.rows.now.items c.args.index.now c.in-Row.row c.args.key c.args.entry c.requires.whole.finds (sym c.in-Row.ensures.value)

pub append-requires-clause-free : goal.append-requires-clause-free
append-requires-clause-free g c = free_end c.reach-end.result c.in_default.not-Row c.reach-end.ensures.ends
