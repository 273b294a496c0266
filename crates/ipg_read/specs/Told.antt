-- The answer that rows give.
use Rattle.std.specs.Prelude.{ℕ, List, Option, Some, None, Result, Ok, Err}
use Rattle.ipg_ast.specs.declared.grammar.Grammar.{Grammar}
use Rattle.ipg_read_tokens.specs.declared.token.Token.{Token}
use Rattle.ipg_read_tokens.specs.declared.fault.ReadFault.{ReadFault}
use Rattle.ipg_read_tokens.specs.declared.fault.ReadFault.TheVariants.{Syntax, Limit}
use Rattle.ipg_read_syntax.specs.Limits.{Over}
use Rattle.ipg_read_syntax.specs.Reading.{place_of}
use Rattle.ipg_read_syntax.specs.Classes.{classes}
use Rattle.ipg_read_scan.specs.Rowed.{Row}
use Rattle.ipg_read_scan.specs.Asked.{run, start}
use Rattle.ipg_read.specs.Counted.{notes, nothing}
use Rattle.ipg_read.specs.Built.{makes, blank}

abbrev pub limit_answer : List ℕ → List Token → List Row → Option Over → Result Grammar ReadFault
limit_answer text ts rows (Some o) = Err (Limit o.which (place_of text ts o.at))
limit_answer text ts rows None = Ok (record { rules = (makes rows blank).rules })

abbrev pub rows_answer : List ℕ → List Token → List Row → Result Grammar ReadFault
rows_answer text ts rows = limit_answer text ts rows (notes rows nothing).seen.over

abbrev pub scan_answer : List ℕ → List Token → Result (List Row) ℕ → Result Grammar ReadFault
scan_answer text ts (Err n) = Err (Syntax (place_of text ts n))
scan_answer text ts (Ok rows) = rows_answer text ts rows

-- the answer for the tokens of a text
abbrev pub answer : List ℕ → List Token → Result Grammar ReadFault
answer text ts = scan_answer text ts (run 0 start (classes ts))
