-- What a contract sees of a stored file.
use Rattle.std.specs.Prelude.{ℕ, List}
use Rattle.std.specs.String.{string_bytes}
use Rattle.ipg_outside.specs.declared.stored.StoredFile.{StoredFile}

-- its name and its bytes
abbrev pub name_and_bytes : StoredFile → List ℕ × List ℕ
name_and_bytes file = (string_bytes file.name, file.bytes.items)
