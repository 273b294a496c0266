use Rattle.std.proofs.Common.{◌≡◌, ◌≤◌, ◌-◌, suc, ◌++◌, length, ap, ◌∙◌, arith, length-append}
use Rattle.std.proofs.lemmas.List.{length-set, length-replicate}
use Rattle.std.specs.Prelude.{replicate}
use Rattle.ipg_memo.specs.Chunks.{joined, spare_in}
use Rattle.ipg_memo.proofs.ChunksLemmas.{bounded, last_spare, some_chunk, pushed_as, packed_pushed}
use Rattle.ipg_memo.proofs.chunks.Chunks.fill_spare.Goals as goal

pub fill-requires : goal.fill-requires
fill-requires g c =
    let xs = c.self.inside.chunks.items in
    let seen = ap (λ held. held.spare) c.self.view_is in
    let room : 1 ≤ spare_in xs = omega (arith, seen, c.requires.some, c.requires.room) in
    let last : suc (c.len-last.result - 1) ≡ length xs = omega (arith, c.len-last.ensures, c.self.inside.chunks.ok.0, some_chunk xs room) in
    omega (arith, seen, c.requires.room, last_spare xs c.index_mut.result.now (c.len-last.result - 1) last c.index_mut.ensures.value)

pub overflow_add-self : goal.overflow_add-self
overflow_add-self g c =
    let xs = c.self.inside.chunks.items in
    let k = c.len-last.result - 1 in
    let seen = ap (λ held. held.spare) c.self.view_is in
    let room : 1 ≤ spare_in xs = omega (arith, seen, c.requires.some, c.requires.room) in
    let last : suc (c.len-last.result - 1) ≡ length xs = omega (arith, c.len-last.ensures, c.self.inside.chunks.ok.0, some_chunk xs room) in
    let items = replicate c.args.count c.args.item in
    let more = ap length (pushed_as xs c.index_mut.result.now c.fill.new.self k items last c.index_mut.ensures.value c.fill.ensures.items) in
    let packed = packed_pushed xs c.fill.new.self k last c.self.invariant.packed c.fill.ensures.within in
    omega (
      arith,
      more,
      length-append (joined xs) items,
      length-replicate c.args.count c.args.item,
      c.self.invariant.count,
      c.self.invariant.few,
      length-set xs k c.fill.new.self,
      bounded _ packed,
    )

pub invariant_of-self : goal.invariant_of-self
invariant_of-self g c =
    let xs = c.self.inside.chunks.items in
    let k = c.len-last.result - 1 in
    let seen = ap (λ held. held.spare) c.self.view_is in
    let room : 1 ≤ spare_in xs = omega (arith, seen, c.requires.some, c.requires.room) in
    let last : suc (c.len-last.result - 1) ≡ length xs = omega (arith, c.len-last.ensures, c.self.inside.chunks.ok.0, some_chunk xs room) in
    let items = replicate c.args.count c.args.item in
    let more = ap length (pushed_as xs c.index_mut.result.now c.fill.new.self k items last c.index_mut.ensures.value c.fill.ensures.items) in
    record {
      packed = packed_pushed xs c.fill.new.self k last c.self.invariant.packed c.fill.ensures.within;
      count = omega (arith, more, length-append (joined xs) items, length-replicate c.args.count c.args.item, c.self.invariant.count);
      few = omega (arith, c.self.invariant.few, length-set xs k c.fill.new.self);
    }

pub returns : goal.returns
returns g c =
    let xs = c.self.inside.chunks.items in
    let seen = ap (λ held. held.spare) c.self.view_is in
    let room : 1 ≤ spare_in xs = omega (arith, seen, c.requires.some, c.requires.room) in
    let last : suc (c.len-last.result - 1) ≡ length xs = omega (arith, c.len-last.ensures, c.self.inside.chunks.ok.0, some_chunk xs room) in
    pushed_as xs c.index_mut.result.now c.fill.new.self (c.len-last.result - 1) (replicate c.args.count c.args.item) last c.index_mut.ensures.value
    c.fill.ensures.items
    ∙ ap (λ held. held.items ++ replicate c.args.count c.args.item) c.self.view_is
