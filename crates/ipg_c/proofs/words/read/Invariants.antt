use Rattle.std.proofs.Common.{◌≡◌, drop, map}
use Rattle.std.specs.String.{string_bytes}
use Rattle.ipg_c.specs.Handed.{words_of, read_words}
use Rattle.ipg_c.proofs.Texts.{read_rest}
use Rattle.ipg_c.proofs.words.read.Given as goal

abbrev pub invariant-loop-word : goal.invariant-loop-word
invariant-loop-word l = read_rest (map string_bytes l.read.items) (words_of (drop l.word-index l.words)) ≡ read_words (words_of l.words)
