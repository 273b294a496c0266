-- What is told of a sink that gathers pieces for a writer.
use Rattle.std.specs.Prelude.{ℕ, List, Option, None, Some}
use Rattle.ipg_outside.specs.Sink.{Output}
use Rattle.ipg_outside.specs.declared.std_sink.StdSink.{StdSink}

-- a writer's known bytes, with those that wait for it
abbrev pub output_with : Option (List ℕ) → List ℕ → Option Output
output_with None held = None
output_with (Some written) held = Some (record { written = written; held = held })

-- what went out to the writer, where that is told, and what is held
abbrev pub gathered : {W : Type 0} → (W → Option (List ℕ)) → StdSink W → Option Output
gathered contents sink = output_with (contents sink.out) sink.held
