-- What is told of an input, as the code has it.
use Rattle.ipg_app_explain.specs.declared.furthest.Subject as code
use Rattle.ipg_app_explain.specs.Furthest.{Subject}

abbrev pub subject_of : code.Subject → Subject
subject_of s = record { name = s.source.name.now; text = s.source.text.now; grammar = s.grammar.now; input = s.input.now }
