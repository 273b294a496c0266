use Rattle.std.proofs.Common.{ap, ◌∙◌, arith}
use Rattle.std.specs.Prelude.{slice_get}
use Rattle.ipg_memo.proofs.ChunksLemmas.{found, beyond}
use Rattle.ipg_memo.proofs.chunks.Chunks.get.Goals as goal

pub returns-then-chunk-len : goal.returns-then-chunk-len
returns-then-chunk-len g c =
    c.get.ensures
    ∙ found c.self.inside.chunks.items c.index.result.now c.args.at c.self.invariant.packed
    (omega (arith, c.if-chunk-len.true, c.len.ensures, c.self.inside.chunks.ok.0)) c.index.ensures
    ∙ ap (λ held. slice_get held.items c.args.at) c.self.view_is

pub returns-else-chunk-len : goal.returns-else-chunk-len
returns-else-chunk-len g c =
    beyond c.self.inside.chunks.items c.args.at c.self.invariant.packed
    (omega (arith, c.if-chunk-len.false, c.len.ensures, c.self.inside.chunks.ok.0))
    ∙ ap (λ held. slice_get held.items c.args.at) c.self.view_is
