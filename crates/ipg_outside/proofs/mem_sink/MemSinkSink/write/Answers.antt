use Rattle.std.proofs.Common.{◌≡◌, length, arith, ap, ◌∙◌, ◌++◌, take}
use Rattle.std.proofs.Math.Seq.{take-length}
use Rattle.std.proofs.lemmas.Grind.{common_steps}
use Rattle.ipg_outside.proofs.Outputs.{breaks-at, takes-whole}
use Rattle.ipg_outside.proofs.mem_sink.MemSinkSink.write.Goals as goal

pub returns-then-has_failed-clause-broken : goal.returns-then-has_failed-clause-broken
returns-then-has_failed-clause-broken c =
    rw (← c.self.view_is) (breaks-at _ _ _ c.min-fits.result (rw c.unwrap.ensures at c.extend_from_slice.ensures.items))

pub returns-clause-taken : goal.returns-clause-taken
returns-clause-taken c =
    let all : c.min-fits.result ≡ length c.args.piece.now = grind (arith, common_steps) in
    let items = rw c.unwrap.ensures at c.extend_from_slice.ensures.items in
    rw (← c.self.view_is)
    (takes-whole _ _ _ (items ∙ ap (λ n. c.self.inside.bytes.items ++ take n c.args.piece.now) all
    ∙ ap (λ t. c.self.inside.bytes.items ++ t) (take-length c.args.piece.now)))
