use Rattle.std.proofs.Common.{◌≡◌, ◌⊎◌, inl, inr, Ok, Err}
use Rattle.ipg_read_tokens.specs.declared.fault.ReadFault.{ReadFault}
use Rattle.ipg_read_tokens.specs.declared.fault.ReadFault.TheVariants.{Memory}
use Rattle.ipg_read_syntax.specs.Laws.{Refused, RefusedExactly}
use Rattle.ipg_read_syntax.specs.Reading.{ReadsWithin, read_of}
use Rattle.ipg_read.proofs.Same.{by_words}
use Rattle.ipg_read.proofs.reading.read.Goals as goal

refused : RefusedExactly → (text : _) (fault : ReadFault) → (fault ≡ Memory) ⊎ (read_of text ≡ Err fault) → (fault ≡ Memory) ⊎ Refused text fault
refused exactly text fault (inl memory) = inl memory
refused exactly text fault (inr is) = inr ((exactly text fault).0 is)

pub returns : goal.returns
returns c =
    let text = c.args.text.now in
    by_words c.answered.result (λ g. read_of text ≡ Ok g) (ReadsWithin text) (λ fault. (fault ≡ Memory) ⊎ (read_of text ≡ Err fault))
    (λ fault. (fault ≡ Memory) ⊎ Refused text fault)
    (λ g is. (c.reads_exactly.ensures text g).0 is) (refused c.refused_exactly.ensures text) c.answered.ensures
