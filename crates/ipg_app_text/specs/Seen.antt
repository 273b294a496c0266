-- A reason, as the code has it, and what a grammar comes to.
use Rattle.ipg_app_text.specs.declared.reasons.Reason as code
use Rattle.ipg_app_text.specs.Lines.{said_of}
use Rattle.ipg_app_text.specs.Reasons.{Reason}

abbrev pub reason_of : code.Reason → Reason
reason_of r = record { said = said_of r.said; why = r.why; places = r.places.items; notes = r.notes.items }
