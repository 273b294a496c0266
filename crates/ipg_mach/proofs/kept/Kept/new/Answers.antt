use Rattle.ipg_mach.proofs.kept.Kept.new.Goals as goal

pub returns-clause-known : goal.returns-clause-known
returns-clause-known g c src = c.memo_for-memo.ensures.known src c.in_ok-new.field-0
