use Rattle.std.proofs.Common.{◌+◌, take, sym, subst}
use Rattle.ipg_table.specs.Rows.{Each, Stands}
use Rattle.ipg_table.specs.Grows.{draft_rows}
use Rattle.ipg_table.proofs.Growth.{grows_trans, each_turn, name_grow}
use Rattle.ipg_table.proofs.tables.name_rows.Goals as goal

pub loop-name-preserved : goal.loop-name-preserved
loop-name-preserved c =
    let t = draft_rows c.loop-name.draft in
    let u = draft_rows c.name.new.self in
    let i = c.loop-name.name-index in (
      grows_trans (draft_rows c.args.draft.now) t u c.loop-name.invariant.0 c.in_ok-row.ensures.grows,
      subst (λ rows. Each (Stands u.bytes) rows (take (i + 1) c.args.names.now)) (sym c.in_ok-push.ensures.items)
          (each_turn (Stands t.bytes) (Stands u.bytes) c.loop-name.rows.items c.args.names.now i c.in_ok-row.row c.name-item.result
          (name_grow t u c.in_ok-row.ensures.grows) c.name-item.is c.loop-name-test.true c.loop-name.invariant.1
          (subst (Stands u.bytes c.in_ok-row.row) c.as_slice.ensures c.in_ok-row.ensures.holds)),
    )
