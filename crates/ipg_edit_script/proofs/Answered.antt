-- What the reader answers: scripts, and first faults.
use Rattle.std.proofs.Common.{refl}
use Rattle.ipg_reader.specs.Stepwise.{IsReader}
use Rattle.ipg_edit_script.specs.Scripts.{script_text, AreEdits}
use Rattle.ipg_edit_script.specs.Reader.{start, step, ended}
use Rattle.ipg_edit_script.proofs.Spelled.{IsSound, step_sound}
use Rattle.ipg_edit_script.proofs.Begun.{sound_begins, sound_ends}
use Rattle.ipg_edit_script.proofs.Runs.{script_ends}

pub reader : IsReader step ended start AreEdits script_text IsSound
reader = record {
  first = record { spelled = refl; each = tt; at = refl };
  on = λ st words b. step_sound st.edits st.with words b st.at;
  begins = sound_begins;
  ends = sound_ends;
  whole = script_ends;
}
