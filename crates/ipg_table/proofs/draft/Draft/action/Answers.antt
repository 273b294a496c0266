use Rattle.std.proofs.Common.{subst}
use Rattle.ipg_table.specs.Rows.{StandsEach, HoldsCase}
use Rattle.ipg_table.specs.Grows.{draft_rows}
use Rattle.ipg_table.proofs.Growth.{grows_trans, expr_grow, cases_grow}
use Rattle.ipg_table.proofs.draft.Draft.action.Goals as goal

pub returns-in_ok-item-in-Repeat-clause-holds : goal.returns-in_ok-item-in-Repeat-clause-holds
returns-in_ok-item-in-Repeat-clause-holds c =
    let one = draft_rows c.expr-in-Repeat.new.self in
    let two = draft_rows c.expr-in-Repeat-2.new.self in
    let all = draft_rows c.slot-in-Repeat.new.self in
    let last = c.in_ok-last-in-Repeat in
    let item = c.in_ok-item-in-Repeat in (
      c.in-Repeat.first,
      c.in-Repeat.last,
      record { sym = c.in-Repeat.item; from = c.in-Repeat.from; to = c.in-Repeat.to },
      c.in-Repeat.is,
      expr_grow one all (grows_trans one two all last.ensures.grows item.ensures.grows) c.in_ok-first-in-Repeat.first c.in-Repeat.first
          c.in_ok-first-in-Repeat.ensures.holds,
      expr_grow two all item.ensures.grows last.last c.in-Repeat.last last.ensures.holds,
      item.ensures.holds,
    )

pub returns-in_ok-other-in-Pick-clause-holds : goal.returns-in_ok-other-in-Pick-clause-holds
returns-in_ok-other-in-Pick-clause-holds c =
    let t = draft_rows c.cases.new.self in
    let u = draft_rows c.slot-in-Pick.new.self in
    let cases = c.in_ok-cases-in-Pick in (
      c.in-Pick.cases,
      c.in-Pick.other,
      c.in-Pick.is,
      cases_grow t u c.in_ok-other-in-Pick.ensures.grows cases.cases c.in-Pick.cases
          (subst (StandsEach (HoldsCase t) t.cases cases.cases) c.as_slice.ensures cases.ensures.holds),
      c.in_ok-other-in-Pick.ensures.holds,
    )
