use Rattle.std.proofs.Common.{◌<◌, length, ap, ◌∙◌, sym, arith}
use Rattle.std.specs.Prelude.{slice_get}
use Rattle.ipg_memo.specs.Chunks.{joined}
use Rattle.ipg_memo.proofs.ChunksLemmas.{lies, lies_in, found}
use Rattle.ipg_memo.proofs.chunks.Chunks.read.Goals as goal

pub index-requires : goal.index-requires
index-requires g c =
    let long = ap (λ held. length held.items) c.self.view_is in
    let lt : c.args.at < length (joined c.self.inside.chunks.items) = omega (arith, c.requires, long) in
    omega (arith, lies c.self.inside.chunks.items c.args.at c.self.invariant.packed lt, c.self.inside.chunks.ok.0)

pub read-requires : goal.read-requires
read-requires g c =
    let long = ap (λ held. length held.items) c.self.view_is in
    let lt : c.args.at < length (joined c.self.inside.chunks.items) = omega (arith, c.requires, long) in
    lies_in c.self.inside.chunks.items c.index.result.now c.args.at c.self.invariant.packed lt c.index.ensures

pub returns : goal.returns
returns g c =
    let long = ap (λ held. length held.items) c.self.view_is in
    let lt : c.args.at < length (joined c.self.inside.chunks.items) = omega (arith, c.requires, long) in
    ap (λ held. slice_get held.items c.args.at) (sym c.self.view_is)
    ∙ sym (found c.self.inside.chunks.items c.index.result.now c.args.at c.self.invariant.packed
    (lies c.self.inside.chunks.items c.args.at c.self.invariant.packed lt) c.index.ensures)
    ∙ c.read.ensures
