use Rattle.ipg_app_tree.proofs.writing.tell.Goals as goal

pub returns-in-Ok : goal.returns-in-Ok
returns-in-Ok g c = c.finish.ensures _ _ c.args.text.now (record { told = c.in-Ok.ensures.taken; counts = c.in-Ok.ensures.counts })
