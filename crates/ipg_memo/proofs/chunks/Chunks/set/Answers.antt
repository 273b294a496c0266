use Rattle.std.proofs.Common.{◌<◌, ◌/◌, length, sym, ap, ◌∙◌, arith}
use Rattle.std.specs.Prelude.{slice_set}
use Rattle.std.proofs.lemmas.List.{length-set}
use Rattle.ipg_memo.specs.Chunks.{joined}
use Rattle.ipg_memo.proofs.ChunksLemmas.{lies, lies_in, set_as, packed_as}
use Rattle.ipg_memo.proofs.chunks.Chunks.set.Goals as goal

pub index_mut-requires : goal.index_mut-requires
index_mut-requires g c =
    let long = ap (λ held. length held.items) c.self.view_is in
    let lt : c.args.at < length (joined c.self.inside.chunks.items) = omega (arith, c.requires, long) in
    omega (arith, lies c.self.inside.chunks.items c.args.at c.self.invariant.packed lt, c.self.inside.chunks.ok.0)

pub set-requires : goal.set-requires
set-requires g c =
    let long = ap (λ held. length held.items) c.self.view_is in
    let lt : c.args.at < length (joined c.self.inside.chunks.items) = omega (arith, c.requires, long) in
    lies_in c.self.inside.chunks.items c.index_mut.result.now c.args.at c.self.invariant.packed lt c.index_mut.ensures.value

pub invariant_of-self : goal.invariant_of-self
invariant_of-self g c =
    let xs = c.self.inside.chunks.items in
    let long = ap (λ held. length held.items) c.self.view_is in
    let lt : c.args.at < length (joined c.self.inside.chunks.items) = omega (arith, c.requires, long) in
    record {
      packed = packed_as xs c.index_mut.result.now c.set.new.self _ c.self.invariant.packed (lies xs c.args.at c.self.invariant.packed lt)
          c.index_mut.ensures.value (ap length c.set.ensures.items ∙ length-set c.index_mut.result.now.items _ c.args.item);
      count = c.self.invariant.count
          ∙ sym (ap length (set_as xs c.index_mut.result.now c.set.new.self c.args.at c.args.item c.self.invariant.packed lt c.index_mut.ensures.value
          c.set.ensures.items) ∙ length-set (joined xs) c.args.at c.args.item);
      few = omega (arith, c.self.invariant.few, length-set xs (c.args.at / 8192) c.set.new.self);
    }

pub returns : goal.returns
returns g c =
    let long = ap (λ held. length held.items) c.self.view_is in
    let lt : c.args.at < length (joined c.self.inside.chunks.items) = omega (arith, c.requires, long) in
    set_as c.self.inside.chunks.items c.index_mut.result.now c.set.new.self c.args.at c.args.item c.self.invariant.packed lt c.index_mut.ensures.value
    c.set.ensures.items
    ∙ ap (λ held. slice_set held.items c.args.at c.args.item) c.self.view_is
