use Rattle.ipg_app_tree.proofs.editing.put_told.Goals as goal

pub returns-in-Ok : goal.returns-in-Ok
returns-in-Ok g c grammar answer stand shown = c.finish.ensures _ _ _ (c.in-Ok.ensures grammar answer stand shown)
