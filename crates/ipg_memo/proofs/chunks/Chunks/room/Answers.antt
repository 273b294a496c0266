use Rattle.std.proofs.Common.{◌≡◌, ◌-◌, suc, length, sym, ap, ◌∙◌, arith}
use Rattle.ipg_memo.proofs.ChunksLemmas.{last_spare}
use Rattle.ipg_memo.proofs.chunks.Chunks.room.Goals as goal

pub returns-then-chunks-gt0 : goal.returns-then-chunks-gt0
returns-then-chunks-gt0 g c =
    let last : suc (c.len-chunks.result - 1) ≡ length c.self.inside.chunks.items =
    omega (arith, c.len-chunks.ensures, c.self.inside.chunks.ok.0, c.if-chunks-gt0.true) in
    c.room.ensures ∙ sym (last_spare c.self.inside.chunks.items c.index.result.now (c.len-chunks.result - 1) last c.index.ensures)
    ∙ ap (λ held. held.spare) c.self.view_is
