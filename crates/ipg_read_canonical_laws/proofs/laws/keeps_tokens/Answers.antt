use Rattle.ipg_read_canonical_laws.proofs.Kept as kept
use Rattle.ipg_read_canonical_laws.proofs.laws.keeps_tokens.Goals as goal

pub returns : goal.returns
returns c = kept.keeps_tokens
