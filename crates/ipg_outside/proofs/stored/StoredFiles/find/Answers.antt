use Rattle.std.proofs.Common.{◌≡◌, refl, sym, drop, [], arith}
use Rattle.std.proofs.lemmas.Grind.{common_steps}
use Rattle.ipg_outside.proofs.Told.{told-found, told-passed}
use Rattle.ipg_outside.proofs.stored.StoredFiles.find.Goals as goal
use Rattle.ipg_outside.proofs.stored.StoredFiles.find.Goals.{then-eq, else-eq}

pub loop-file-init : goal.loop-file-init
loop-file-init c = rw (← c.self.view_is, c.deref-file-items.ensures.value) refl

pub loop-file-preserved : goal.loop-file-preserved
loop-file-preserved c =
    elim c.if-eq.branch [
      | then-eq w ↦
          let name = rw c.as_str.ensures.value at (sym w.if-eq.ensures) in
          rw w.found-is (told-found _ _ _ _ _ _ _ c.loop-file-test.true c.file-item.is name w.as_slice.ensures.value c.loop-file.invariant)
      | else-eq w ↦
          let other = rw c.as_str.ensures.value at (sym w.if-eq.ensures) in
          rw w.found-is (told-passed _ _ _ _ _ _ c.loop-file-test.true c.file-item.is other c.loop-file.invariant)
    ]

pub returns : goal.returns
returns c =
    let e : drop c.loop-file.file-index c.deref-file-items.result.now ≡ [] = grind (arith, common_steps) in
    let h = rw e at c.loop-file.invariant in h
