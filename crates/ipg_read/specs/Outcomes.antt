-- The answer that the code's outcome gives.
use Rattle.std.specs.Prelude.{ℕ, List, Result, Ok, Err}
use Rattle.ipg_ast.specs.declared.grammar.Grammar.{Grammar}
use Rattle.ipg_read_tokens.specs.declared.token.Token.{Token}
use Rattle.ipg_read_tokens.specs.declared.fault.ReadFault.{ReadFault}
use Rattle.ipg_read_tokens.specs.declared.fault.ReadFault.TheVariants.{Syntax, Limit}
use Rattle.ipg_read_syntax.specs.Reading.{place_of}
use Rattle.ipg_read.specs.declared.reading.Outcome.{Outcome}
use Rattle.ipg_read.specs.declared.reading.Outcome.TheVariants as O

abbrev pub told : List ℕ → List Token → Outcome → Result Grammar ReadFault
told text ts (O.Grammar rules) = Ok (record { rules = rules })
told text ts (O.Over over) = Err (Limit over.which (place_of text ts over.at))
told text ts (O.Stuck n) = Err (Syntax (place_of text ts n))
