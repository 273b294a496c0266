use Rattle.std.proofs.Common.{ap, ◌∙◌, ◌*◌, refl, arith}
use Rattle.std.specs.Prelude.{slice_get}
use Rattle.ipg_region.proofs.ChunksLemmas.{found, found_last}
use Rattle.ipg_region.proofs.cells.Cells.get.Goals as goal

pub returns-then-block-len : goal.returns-then-block-len
returns-then-block-len g c =
    found c.self.inside.full.items c.index.result.now c.self.inside.last.items c.args.id.place _ _ _ c.self.invariant.full refl refl
    (omega (arith, c.if-block-len.true, c.len.ensures, c.self.inside.full.ok.0))
    c.index.ensures c.get.ensures
    ∙ ap (λ held. slice_get held.items c.args.id.place) c.self.view_is

pub returns-else-block-len : goal.returns-else-block-len
returns-else-block-len g c =
    let len = c.len-else-block-len.ensures ∙ c.self.inside.full.ok.0 in
    found_last c.self.inside.full.items c.self.inside.last.items c.args.id.place (c.len-else-block-len.result * 8192) _ c.self.invariant.full
    (ap (λ n. n * 8192) len)
    (omega (arith, c.if-block-len.false, c.len.ensures, c.len-else-block-len.ensures)) c.get-else-block-len.ensures
    ∙ ap (λ held. slice_get held.items c.args.id.place) c.self.view_is
