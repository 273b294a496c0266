-- What is said to who asks for help, or which formats there are.
use Rattle.std.specs.Prelude.{ℕ, List, ◌++◌, Option, None, Some}
use Rattle.ipg_app_help.specs.Help.{help_of, built_in_text, version_text}
use Rattle.ipg_app_text.specs.Said.{Said, done, usage}

-- a name that is no command's is usage
abbrev pub help_or_usage : Option (List ℕ) → Said
help_or_usage None = usage
help_or_usage (Some text) = done text

abbrev pub help_said : Option (List ℕ) → Said
help_said command = help_or_usage (help_of command)

abbrev pub version_said : Said
version_said = done version_text

-- the built-in formats, then the list of installed ones
abbrev pub formats_said : List ℕ → Said
formats_said installed = done (built_in_text ++ installed)
