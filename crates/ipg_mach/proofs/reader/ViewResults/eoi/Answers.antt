use Rattle.ipg_mach.proofs.reader.ViewResults.eoi.Goals as goal

pub returns : goal.returns
returns g c env stands = c.eoi.ensures env (stands _ c.now.ensures)
