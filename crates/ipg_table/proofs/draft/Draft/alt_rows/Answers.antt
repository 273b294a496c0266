use Rattle.std.proofs.Common.{◌+◌, take, sym, subst}
use Rattle.ipg_table.specs.Rows.{Each, HoldsAlt}
use Rattle.ipg_table.specs.Grows.{draft_rows}
use Rattle.ipg_table.proofs.Growth.{grows_trans, each_turn, alt_grow}
use Rattle.ipg_table.proofs.draft.Draft.alt_rows.Goals as goal

pub loop-alt-preserved : goal.loop-alt-preserved
loop-alt-preserved c =
    let t = draft_rows c.loop-alt.self in
    let u = draft_rows c.alt.new.self in
    let i = c.loop-alt.alt-index in (
      grows_trans (draft_rows c.args.self.now) t u c.loop-alt.invariant.0 c.in_ok-row.ensures.grows,
      subst (λ rows. Each (HoldsAlt u) rows (take (i + 1) c.args.alts.now)) (sym c.in_ok-push.ensures.ok)
          (each_turn (HoldsAlt t) (HoldsAlt u) c.loop-alt.rows.items c.args.alts.now i c.in_ok-row.row c.alt-item.result
          (alt_grow t u c.in_ok-row.ensures.grows) c.alt-item.is c.loop-alt-test.true c.loop-alt.invariant.1 c.in_ok-row.ensures.holds),
    )
