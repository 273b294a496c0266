use Rattle.ipg_outside.proofs.mem_files.MemFilesFiles.read_all.Goals as goal

pub returns-clause-counts : goal.returns-clause-counts
returns-clause-counts c = λ n. c.count.ensures.grows
