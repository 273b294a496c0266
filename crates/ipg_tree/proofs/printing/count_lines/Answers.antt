use Rattle.std.proofs.Common.{◌+◌, ap, ◌∙◌, arith, length}
use Rattle.ipg_tree.specs.Behind.{began, ended_at}
use Rattle.ipg_tree.proofs.Visited.{count_lines}
use Rattle.ipg_tree.proofs.printing.count_lines.Goals as goal

pub loop-count-preserved : goal.loop-count-preserved
loop-count-preserved g c = record {
  parse = c.in-Some.ensures.parse ∙ c.loop-count.invariant.parse;
  so_far = λ src grammar one is.
      let here = c.loop-count.invariant.so_far src grammar one is in
      let b = began src c.loop-count.p c.next.new.self c.in-Some.field-0 here.0 (c.in-Some.ensures.end src) (c.in-Some.ensures.more src) here.2 in
      let long = ap length b.is in
      let count = here.3 in
      let all = here.4 in
      let now = c.saturating_add-count.ensures in
      (b.more, here.1 + 1, b.behind, omega (arith, now, count), omega (arith, long, all));
}

pub returns-clause-count : goal.returns-clause-count
returns-clause-count g c src grammar one is =
    let here = c.loop-count.invariant.so_far src grammar one is in
    let none = ap length (ended_at src c.loop-count.p c.next.new.self here.0 (c.in_default.ensures.more src) here.2) in
    let all = here.4 in
    let count = here.3 in
    let lines = count_lines grammar one in
    omega (arith, none, all, count, lines)
