use Rattle.ipg_mach.proofs.reader.ViewResults.item.Goals as goal

pub returns : goal.returns
returns g c env stands = c.item.ensures env (stands _ c.now.ensures)
