use Rattle.ipg_names_text.proofs.Short.{grammar_short}
use Rattle.ipg_names_text.proofs.laws.read_is_readable.Goals as goal

pub returns : goal.returns
returns c text g read =
    let reads = (c.reads_exactly.ensures text g).0 read in
    c.formed_is_readable.ensures g (c.reads_formed.ensures text g reads) (grammar_short c.keeps_tokens.ensures text g reads)
