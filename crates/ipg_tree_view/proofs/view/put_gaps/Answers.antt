use Rattle.std.proofs.Common.{◌≡◌, ◌+◌, ◌≤◌, ◌^◌, ℕ, ap, sym, ◌∙◌, subst, arith, drop, Some}
use Rattle.ipg_tree_view.specs.View.{gap_view}
use Rattle.ipg_tree.specs.Putting.{next, exits, as_left}
use Rattle.ipg_tree_view.proofs.Runs.{next_runs, same_runs, begun_before}
use Rattle.ipg_tree_view.proofs.view.put_gaps.Goals as goal

pub returns-in_err-put_run : goal.returns-in_err-put_run
returns-in_err-put_run g c =
    let l = c.loop-is_bare in
    let small : (from : ℕ) → l.run.begun ≡ Some from → from + 2 ^ 32 ≤ 2 ^ 64 =
    λ from is. let le = l.invariant.begun from is in let e = l.invariant.at in omega (arith, le, e) in
    exits _ c.from_residual.result c.from_residual.ensures.1 _
    (next_runs (gap_view c.args.p.now.parse.input) l.run.at l.run.begun c.args.bare.now l.is_bare-index _ c.loop-is_bare-test.true) l.invariant.so_far
    (c.in_err-put_run.ensures small)

pub loop-is_bare-preserved : goal.loop-is_bare-preserved
loop-is_bare-preserved g c =
    let l = c.loop-is_bare in
    let f = gap_view c.args.p.now.parse.input in
    let small : (from : ℕ) → l.run.begun ≡ Some from → from + 2 ^ 32 ≤ 2 ^ 64 =
    λ from is. let le = l.invariant.begun from is in let e = l.invariant.at in omega (arith, le, e) in
    let rest = drop (l.is_bare-index + 1) c.args.bare.now in
    record {
      at = c.next_run-run.ensures.at ∙ ap (λ n. n + 1) l.invariant.at;
      begun = λ from is.
          subst (λ n. from ≤ n) (sym c.next_run-run.ensures.at)
          (begun_before _ l.run.at l.run.begun l.invariant.begun from (sym c.next_run-run.ensures.begun ∙ is));
      so_far =
          as_left (same_runs f _ _ _ _ rest c.next_run-run.ensures.at c.next_run-run.ensures.begun)
          (next (next_runs f l.run.at l.run.begun c.args.bare.now l.is_bare-index _ c.loop-is_bare-test.true) l.invariant.so_far
          (c.in_ok-put_run.ensures small));
    }
