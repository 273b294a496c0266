use Rattle.std.proofs.Common.{◌≡◌, ◌⊎◌, inl, inr, Ok, Err}
use Rattle.ipg_read_tokens.specs.declared.fault.ReadFault.{ReadFault}
use Rattle.ipg_read_tokens.specs.declared.fault.ReadFault.TheVariants.{Memory}
use Rattle.ipg_ast.specs.Shape.{IsFlat}
use Rattle.ipg_read_syntax.specs.Laws.{Refused, RefusedExactly}
use Rattle.ipg_read_syntax.specs.Reading.{ReadsWithin, read_of}
use Rattle.ipg_names.specs.Readable.{IsReadable}
use Rattle.ipg_names_text.proofs.Short.{if_ok, by_words, formed_flat}
use Rattle.ipg_names_text.proofs.grammar_in.Goals as goal

refused : RefusedExactly → (text : _) (fault : ReadFault) → (fault ≡ Memory) ⊎ Refused text fault → (fault ≡ Memory) ⊎ (read_of text ≡ Err fault)
refused exactly text fault (inl memory) = inl memory
refused exactly text fault (inr is) = inr ((exactly text fault).1 is)

pub returns-clause-read : goal.returns-clause-read
returns-clause-read c =
    let text = c.args.text.now in
    by_words c.read.result (ReadsWithin text) (λ g. read_of text ≡ Ok g) (λ fault. (fault ≡ Memory) ⊎ Refused text fault)
    (λ fault. (fault ≡ Memory) ⊎ (read_of text ≡ Err fault))
    (λ g reads. (c.reads_exactly.ensures text g).1 reads) (refused c.refused_exactly.ensures text) c.read.ensures

pub returns-clause-readable : goal.returns-clause-readable
returns-clause-readable c =
    let text = c.args.text.now in
    if_ok c.read.result (ReadsWithin text) IsReadable (λ fault. (fault ≡ Memory) ⊎ Refused text fault) c.read.ensures
    (λ g reads. c.read_is_readable.ensures text g ((c.reads_exactly.ensures text g).1 reads))

pub returns-clause-flat : goal.returns-clause-flat
returns-clause-flat c =
    let text = c.args.text.now in
    if_ok c.read.result (ReadsWithin text) IsFlat (λ fault. (fault ≡ Memory) ⊎ Refused text fault) c.read.ensures
    (λ g reads. formed_flat g (c.reads_formed.ensures text g reads))
