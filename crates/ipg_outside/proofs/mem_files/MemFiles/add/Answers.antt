use Rattle.std.proofs.lemmas.Result.{on_ok_weaker}
use Rattle.ipg_outside.proofs.Told.{told-added}
use Rattle.ipg_outside.proofs.mem_files.MemFiles.add.Goals as goal

pub returns-clause-told : goal.returns-clause-told
returns-clause-told c = rw (← c.self.view_is) (on_ok_weaker c.add.result (λ e n. told-added n _ _ _ e) c.add.ensures.stored)
