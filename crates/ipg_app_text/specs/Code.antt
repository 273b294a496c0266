-- The exit code of each status.
use Rattle.std.specs.Prelude.{ℕ}
use Rattle.ipg_app_text.specs.declared.status.Status.{Status}
use Rattle.ipg_app_text.specs.declared.status.Status.TheVariants.{Done, NoParse, Refused, Range, Usage, ReadFault, WriteFault, Memory, TooLarge, BadProof}

abbrev pub code_of : Status → ℕ
code_of Done = 0
code_of NoParse = 1
code_of Refused = 2
code_of Range = 3
code_of Usage = 4
code_of ReadFault = 5
code_of WriteFault = 6
code_of Memory = 7
code_of TooLarge = 8
code_of BadProof = 9
