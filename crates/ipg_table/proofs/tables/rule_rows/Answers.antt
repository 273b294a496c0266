use Rattle.std.proofs.Common.{◌+◌, take, sym, subst}
use Rattle.ipg_table.specs.Rows.{Each, HoldsRule}
use Rattle.ipg_table.specs.Grows.{draft_rows}
use Rattle.ipg_table.proofs.Growth.{grows_trans, each_turn, rule_grow}
use Rattle.ipg_table.proofs.tables.rule_rows.Goals as goal

pub loop-rule-preserved : goal.loop-rule-preserved
loop-rule-preserved c =
    let t = draft_rows c.loop-rule.draft in
    let u = draft_rows c.rule.new.self in
    let i = c.loop-rule.rule-index in (
      grows_trans (draft_rows c.args.draft.now) t u c.loop-rule.invariant.0 c.in_ok-row.ensures.grows,
      subst (λ rows. Each (HoldsRule u) rows (take (i + 1) c.args.rules.now)) (sym c.in_ok-push.ensures.items)
          (each_turn (HoldsRule t) (HoldsRule u) c.loop-rule.rows.items c.args.rules.now i c.in_ok-row.row c.rule-item.result
          (rule_grow t u c.in_ok-row.ensures.grows) c.rule-item.is c.loop-rule-test.true c.loop-rule.invariant.1 c.in_ok-row.ensures.holds),
    )
