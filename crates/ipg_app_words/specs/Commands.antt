-- A simple command of `clap` for each name of the program's table, and what it gives of the words.
use Rattle.std.specs.Prelude.{List, true, codes, Option, Some, None, if◌then◌else◌}
use Rattle.clap.specs.Walk.{Text, Rule, Row, is_empty}
use Rattle.clap.specs.Simple.{App, new_app, new_rule, with_rule, matches_of}
use Rattle.clap.specs.Faults.{fault_of}

-- a word that has to be there
abbrev pub required : Text → Rule
required id = record (new_rule id) { required = true }

-- `--NAME VALUE` or `--NAME=VALUE`
abbrev pub option : Text → Rule
option name = record (new_rule name) { long = Some name }

-- a command that takes the name of a grammar
abbrev pub on_grammar : Text → App
on_grammar name = with_rule (new_app name) (required (codes "G"))

-- what a parse may use: `--memo on|off`, `--arena MIB`
abbrev pub with_options : App → App
with_options app = with_rule (with_rule app (option (codes "memo"))) (option (codes "arena"))

abbrev pub parse : App
parse = with_options (with_rule (on_grammar (codes "parse")) (required (codes "FILE")))

abbrev pub check : App
check = on_grammar (codes "check")

abbrev pub cert : App
cert = on_grammar (codes "cert")

abbrev pub verify : App
verify = with_rule (on_grammar (codes "verify")) (required (codes "CERT"))

abbrev pub table : App
table = on_grammar (codes "table")

abbrev pub load : App
load = with_rule (with_rule (new_app (codes "load")) (required (codes "T"))) (required (codes "FILE"))

abbrev pub cover : App
cover = on_grammar (codes "cover")

abbrev pub rebuild : App
rebuild = with_rule (on_grammar (codes "rebuild")) (required (codes "FILE"))

abbrev pub json : App
json = with_options (with_rule (on_grammar (codes "json")) (required (codes "FILE")))

-- a path may be there
abbrev pub view : App
view = with_options (with_rule (with_rule (on_grammar (codes "view")) (required (codes "FILE"))) (new_rule (codes "PATH")))

abbrev pub edit : App
edit = with_rule (with_rule (on_grammar (codes "edit")) (required (codes "FILE"))) (required (codes "SCRIPT"))

abbrev pub query : App
query = with_rule (with_rule (on_grammar (codes "query")) (required (codes "FILE"))) (required (codes "PATH"))

abbrev pub trial : App
trial = with_rule (with_rule (new_app (codes "trial")) (required (codes "KIND"))) (required (codes "N"))

abbrev pub fmt : App
fmt = on_grammar (codes "fmt")

-- a file may be there
abbrev pub explain : App
explain = with_rule (with_rule (on_grammar (codes "explain")) (new_rule (codes "FILE"))) (option (codes "arena"))

abbrev pub formats : App
formats = new_app (codes "formats")

-- the name of a command may be there
abbrev pub help : App
help = with_rule (new_app (codes "help")) (new_rule (codes "COMMAND"))

abbrev pub version : App
version = new_app (codes "version")

-- what the words give, the command's name first, where the command takes them; it refuses words that ask for help
abbrev pub taken : App → List Text → Option (List Row)
taken command words = if is_empty (fault_of command words) then Some (matches_of command words) else None
