use Rattle.std.proofs.Common.{◌≡◌, ◌-◌, suc, [], ◌∷◌, length, sym, ap, ◌∙◌, subst, ◌≤◌, arith, length-append}
use Rattle.std.proofs.lemmas.List.{length-set}
use Rattle.std.specs.Prelude.{OnOk}
use Rattle.ipg_memo.proofs.ChunksLemmas.{IsShut, shut_none, shut_last, packed_as, grown_joined, spare_set, opened_as, packed_opened, spare_opened}
use Rattle.ipg_memo.proofs.chunks.Chunks.open.Goals.{else-chunks-gt0-via-then-chunks-gt0+else-len-lt-SIZE, else-chunks-gt0-via-else-chunks-gt0}
use Rattle.ipg_memo.proofs.chunks.Chunks.open.Goals as goal

pub invariant_of-self : goal.invariant_of-self
invariant_of-self g c =
    let xs = c.self.inside.chunks.items in
    let k = c.len-chunks.result - 1 in
    let last : suc (c.len-chunks.result - 1) ≡ length xs = omega (arith, c.len-chunks.ensures, c.self.inside.chunks.ok.0, c.if-chunks-gt0.true) in
    let same = ap length (grown_joined xs c.index_mut.result.now c.grow.new.self k last c.index_mut.ensures.value c.grow.ensures.kept) in
    record {
      packed = packed_as xs c.index_mut.result.now c.grow.new.self k c.self.invariant.packed (omega (arith, last)) c.index_mut.ensures.value
          (ap length c.grow.ensures.kept);
      count = c.self.invariant.count ∙ sym same;
      few = omega (arith, c.self.invariant.few, length-set xs k c.grow.new.self);
    }

pub returns-then-len-lt-SIZE-clause-kept : goal.returns-then-len-lt-SIZE-clause-kept
returns-then-len-lt-SIZE-clause-kept g c =
    let xs = c.self.inside.chunks.items in
    let last : suc (c.len-chunks.result - 1) ≡ length xs = omega (arith, c.len-chunks.ensures, c.self.inside.chunks.ok.0, c.if-chunks-gt0.true) in
    grown_joined xs c.index_mut.result.now c.grow.new.self (c.len-chunks.result - 1) last c.index_mut.ensures.value c.grow.ensures.kept
    ∙ ap (λ held. held.items) c.self.view_is

pub returns-then-len-lt-SIZE-clause-ok : goal.returns-then-len-lt-SIZE-clause-ok
returns-then-len-lt-SIZE-clause-ok g c =
    let xs = c.self.inside.chunks.items in
    let last : suc (c.len-chunks.result - 1) ≡ length xs = omega (arith, c.len-chunks.ensures, c.self.inside.chunks.ok.0, c.if-chunks-gt0.true) in
    subst (λ n. OnOk c.grow.result (1 ≤ n)) (sym (spare_set xs c.grow.new.self (c.len-chunks.result - 1) last)) c.grow.ensures.ok

pub invariant_of-self-2 : goal.invariant_of-self-2
invariant_of-self-2 g c =
    let xs = c.self.inside.chunks.items in
    let more = c.in_ok-push.ensures.items in
    let shut : IsShut xs = elim c.else-chunks-gt0.branch [
      | else-chunks-gt0-via-then-chunks-gt0+else-len-lt-SIZE w ↦
          let last : suc (c.len-chunks.result - 1) ≡ length xs =
          omega (arith, c.len-chunks.ensures, c.self.inside.chunks.ok.0, w.if-chunks-gt0.true) in
          shut_last xs w.index.result.now (c.len-chunks.result - 1) last w.index.ensures (omega (arith, w.len.ensures.value, w.if-len-lt-SIZE.false))
      | else-chunks-gt0-via-else-chunks-gt0 w ↦
          shut_none xs (omega (arith, c.len-chunks.ensures, c.self.inside.chunks.ok.0, w.if-chunks-gt0.false))
    ] in
    record {
      packed = packed_opened xs c.push.new.self.items c.in_ok-chunk.chunk more c.in_ok-chunk.ensures.items c.self.invariant.packed shut;
      count = c.self.invariant.count ∙ sym (ap length (opened_as xs c.push.new.self.items c.in_ok-chunk.chunk more c.in_ok-chunk.ensures.items));
      few = omega (
        arith,
        ap length more,
        length-append xs (c.in_ok-chunk.chunk ∷ []),
        c.if-chunks-ge-MOST_CHUNKS.false,
        c.len-chunks.ensures,
        c.self.inside.chunks.ok.0,
      );
    }

pub returns-clause-kept : goal.returns-clause-kept
returns-clause-kept g c =
    opened_as c.self.inside.chunks.items c.push.new.self.items c.in_ok-chunk.chunk c.in_ok-push.ensures.items c.in_ok-chunk.ensures.items
    ∙ ap (λ held. held.items) c.self.view_is

pub returns-clause-ok : goal.returns-clause-ok
returns-clause-ok g c =
    spare_opened c.self.inside.chunks.items c.push.new.self.items c.in_ok-chunk.chunk c.in_ok-push.ensures.items c.in_ok-chunk.ensures.room
