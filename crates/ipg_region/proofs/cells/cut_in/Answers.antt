use Rattle.std.proofs.Common.{◌∙◌, ap, ◌*◌, arith, length, length-append, ◌∷◌, []}
use Rattle.ipg_region.proofs.ChunksLemmas.{full_before, cut_before, cut_last}
use Rattle.ipg_region.proofs.cells.cut_in.Goals as goal

pub loop-full-preserved : goal.loop-full-preserved
loop-full-preserved g c =
    let all = c.loop-full.full.items in
    let left = c.pop.new.self.items in
    let chunk = c.in-Some.chunk in (
      full_before all left chunk c.in-Some.ensures.items c.loop-full.invariant.0,
      omega (arith, ap length c.in-Some.ensures.items, length-append left (chunk ∷ []), c.loop-full.invariant.1),
      cut_before all left chunk c.loop-full.last.items c.args.to c.in-Some.ensures.items c.loop-full.invariant.0
          (omega (arith, c.loop-full-test.true, c.len.ensures, c.loop-full.full.ok.0))
          ∙ c.loop-full.invariant.2,
    )

pub returns-clause-kept : goal.returns-clause-kept
returns-clause-kept g c =
    cut_last c.loop-full.full.items c.loop-full.last.items c.cut.new.self.items (c.len-2.result * 8192) c.args.to c.loop-full.invariant.0
    (ap (λ n. n * 8192) (c.len-2.ensures ∙ c.loop-full.full.ok.0)) (omega (arith, c.loop-full-test.false, c.len.ensures, c.len-2.ensures)) c.cut.ensures
    ∙ c.loop-full.invariant.2
