-- What the reader answers: paths, and first faults.
use Rattle.std.proofs.Common.{refl}
use Rattle.ipg_reader.specs.Stepwise.{IsReader}
use Rattle.ipg_query_path.specs.Paths.{path_text, FitsPath}
use Rattle.ipg_query_path.specs.Reader.{start, step, ended}
use Rattle.ipg_query_path.proofs.Spelled.{IsSound, step_sound}
use Rattle.ipg_query_path.proofs.Begun.{sound_begins, sound_ends}
use Rattle.ipg_query_path.proofs.Runs.{path_ends}

pub reader : IsReader step ended start FitsPath path_text IsSound
reader = record {
  first = record { spelled = refl; ranges = tt; at = refl };
  on = λ st words b. step_sound st.steps st.name words b st.at;
  begins = sound_begins;
  ends = sound_ends;
  whole = path_ends;
}
