use Rattle.std.proofs.Common.{◌+◌, take, sym, subst}
use Rattle.ipg_table.specs.Rows.{Each, HoldsCase}
use Rattle.ipg_table.specs.Grows.{draft_rows}
use Rattle.ipg_table.proofs.Growth.{grows_trans, each_turn, case_grow}
use Rattle.ipg_table.proofs.draft.Draft.case_rows.Goals as goal

pub loop-case-preserved : goal.loop-case-preserved
loop-case-preserved c =
    let t = draft_rows c.loop-case.self in
    let u = draft_rows c.case.new.self in
    let i = c.loop-case.case-index in (
      grows_trans (draft_rows c.args.self.now) t u c.loop-case.invariant.0 c.in_ok-row.ensures.grows,
      subst (λ rows. Each (HoldsCase u) rows (take (i + 1) c.args.cases.now)) (sym c.in_ok-push.ensures.ok)
          (each_turn (HoldsCase t) (HoldsCase u) c.loop-case.rows.items c.args.cases.now i c.in_ok-row.row c.case-item.result
          (case_grow t u c.in_ok-row.ensures.grows) c.case-item.is c.loop-case-test.true c.loop-case.invariant.1 c.in_ok-row.ensures.holds),
    )
