use Rattle.std.proofs.Common.{ℕ, arith, length-take, subst}
use Rattle.ipg_outside.specs.Files.{AreBytes}
use Rattle.std.proofs.lemmas.Result.{err_from_is_err_and}
use Rattle.std.proofs.lemmas.Grind.{common_steps}
use Rattle.ipg_outside.proofs.Known.{consumes-none, moves-more, read-whole, read-cut, never-large}
use Rattle.ipg_outside.proofs.disk.read_up_to.Goals as goal

pub loop-chunk-init : goal.loop-chunk-init
loop-chunk-init g c = record {
  room = omega (arith, c.in_ok-bytes.ensures.len);
  chunk = grind (arith, common_steps);
  so_far = rw c.in_ok-bytes.ensures.items (consumes-none _);
}

pub returns-clause-cut : goal.returns-clause-cut
returns-clause-cut g c =
    read-cut _ _ _ _ c.loop-chunk.invariant.so_far (let e = c.loop-chunk.bytes.ok.0 in omega arith)
    (subst AreBytes c.deref-2.ensures.value c.are_bytes-2.ensures)

pub returns-in_err-read_more-clause-cut : goal.returns-in_err-read_more-clause-cut
returns-in_err-read_more-clause-cut g c =
    let p = err_from_is_err_and c.from_residual-in_err-read_more.result c.from_residual-in_err-read_more.ensures.1 in
    rw (p.1, p.2) (never-large _ _ c.in_err-read_more.ensures.refused)

pub returns-then-branch-eq0-clause-whole : goal.returns-then-branch-eq0-clause-whole
returns-then-branch-eq0-clause-whole g c =
    let grown = c.in_ok-read_more.ensures.grown in
    let same = c.read_more.new.bytes.ok.0 in
    read-whole _ _ _ _ (moves-more _ _ _ _ _ c.loop-chunk.invariant.so_far c.in_ok-read_more.ensures.moved) (c.in_ok-read_more.ensures.end c.if-branch-eq0.true)
    (omega arith) (subst AreBytes c.deref.ensures.value c.are_bytes.ensures)

pub loop-chunk-preserved : goal.loop-chunk-preserved
loop-chunk-preserved g c =
    let grown = c.in_ok-read_more.ensures.grown in
    let within = c.in_ok-read_more.ensures.within in
    record {
      room = omega (arith, length-take {A = ℕ});
      chunk = c.loop-chunk.invariant.chunk;
      so_far = moves-more _ _ _ _ _ c.loop-chunk.invariant.so_far c.in_ok-read_more.ensures.moved;
    }

pub returns-in_err-read_more-clause-front : goal.returns-in_err-read_more-clause-front
returns-in_err-read_more-clause-front g c =
    let p = err_from_is_err_and c.from_residual-in_err-read_more.result c.from_residual-in_err-read_more.ensures.1 in
    rw (p.1, p.2) (never-large _ _ c.in_err-read_more.ensures.refused)
