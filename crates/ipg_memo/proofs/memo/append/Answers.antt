use Rattle.std.proofs.Common.{◌∷◌, ◌++◌, [], length, ap, ◌∙◌}
use Rattle.ipg_memo.specs.Keyed.{of_rows}
use Rattle.ipg_memo.specs.Ways.{Rows}
use Rattle.ipg_memo.proofs.RowLemmas.{pushed}
use Rattle.ipg_memo.proofs.WholeLemmas.{whole_stays, whole_pushed_as}
use Rattle.ipg_memo.proofs.memo.append.Goals as goal

pub returns-in_err-add-clause-whole : goal.returns-in_err-add-clause-whole
returns-in_err-add-clause-whole g c =
    whole_stays c.args.rows.now.items c.reserve.new.self.items c.args.index.now c.add.new.self c.reserve.ensures.kept c.requires.whole c.add.ensures.stays
    c.in_err-add.ensures.err

pub returns-clause-whole : goal.returns-clause-whole
returns-clause-whole g c =
    whole_pushed_as c.args.rows.now.items c.push_spare.new.self.items c.args.index.now c.add.new.self c.args.key c.args.entry c.args.end c.len.result
    (c.push_spare.ensures ∙ ap (λ (rows : Rows). rows ++ (c.args.key, c.args.entry) ∷ []) c.reserve.ensures.kept)
    (c.len.ensures.value ∙ ap length c.reserve.ensures.kept)
    c.requires.bits c.requires.whole c.requires.ends c.in_ok-add.ensures.ok

pub returns-clause-ok : goal.returns-clause-ok
returns-clause-ok g c =
    ap of_rows (c.push_spare.ensures ∙ ap (λ (rows : Rows). rows ++ (c.args.key, c.args.entry) ∷ []) c.reserve.ensures.kept)
    ∙ pushed c.args.rows.now.items c.args.index.now c.args.key c.args.entry c.args.end c.requires.whole.finds c.requires.ends c.requires.free
