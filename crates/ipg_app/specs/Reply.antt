-- The reply: for the program's words, the order in which it answers.
use Rattle.std.specs.Prelude.{ℕ, List, codes, Option, None, Some}
use Rattle.ipg_core.specs.Grammar.{Grammar}
use Rattle.ipg_formats.specs.declared.Kind.{Kind}
use Rattle.ipg_query_path.specs.declared.path.Query as paths
use Rattle.ipg_edit_script.specs.declared.script.Edit as scripts
use Rattle.ipg_formats.specs.Text.{text_of}
use Rattle.ipg_app_words.specs.Request as words
use Rattle.ipg_app_words.specs.Request.{Request, Use, Fmt, Trial, Query, View, Load, Explain, Formats, Help, Version, request_of}
use Rattle.ipg_app_tree.specs.declared.show.Show.{Show}
use Rattle.ipg_app_tree.specs.declared.show.Show.TheVariants.{Lines, Picked, Bytes, Json, PickedView}
use Rattle.ipg_app_tree.specs.declared.show.Show.TheVariants as show
use Rattle.ipg_app_text.specs.Said.{usage}
use Rattle.ipg_app_tree.specs.Editing.{ReadsScript, Edits}
use Rattle.ipg_app_tree.specs.Path.{ReadsPath}
use Rattle.ipg_app_grammar.specs.Explained.{Explains}
use Rattle.ipg_app_grammar.specs.Followed.{Cleared, Follows, subject}
use Rattle.ipg_app_grammar.specs.Helped.{formats_said, help_said, version_said}
use Rattle.ipg_app.specs.Trial.{Tries, kind_by, parts_in}
use Rattle.ipg_app_text.specs.Order.{Order, Step, says, only, found, have, contents, ◌>>=◌}
use Rattle.ipg_app_text.specs.Steps.{core_of, core_under, grammar_under, input_in, text_under}
use Rattle.ipg_app_tree.specs.Parses.{Parses}
use Rattle.ipg_app_grammar.specs.Commands.{accepted, cert, check, cleared, cover, formatted, held_in, judge, table}

-- ---- steps

-- Q1
abbrev pub path_in : List ℕ → Step paths.Query
path_in text next = do
  answer ← found (ReadsPath text)
  path ← have answer
  next path

-- E2
abbrev pub script_in : List ℕ → Step (List scripts.Edit)
script_in text next = do
  answer ← found (ReadsScript text)
  edits ← have answer
  next edits

-- ---- commands, each behind the core grammar of a text

abbrev pub parse_input : Show → List ℕ → Grammar → Order
parse_input show name g = do
  bytes ← contents name
  input ← have (input_in bytes)
  says (Parses show g input)

abbrev pub parse : Show → List ℕ → Grammar → Order
parse show name g = do
  same ← accepted g
  parse_input show name same

abbrev pub edits_of : List ℕ → Grammar → List ℕ → Order
edits_of text g input = do
  edits ← script_in text
  says (Edits g input edits)

abbrev pub edit_input : (script : List ℕ) → Grammar → (input : List ℕ) → Order
edit_input script g input = do
  bytes ← contents script
  text ← have (input_in bytes)
  edits_of text g input

-- the input is read before the script
abbrev pub edit_file : (name script : List ℕ) → Grammar → Order
edit_file name script g = do
  bytes ← contents name
  input ← have (input_in bytes)
  edit_input script g input

abbrev pub edit : (name script : List ℕ) → Grammar → Order
edit name script g = do
  same ← accepted g
  edit_file name script same

abbrev pub verify : List ℕ → Grammar → Order
verify name g = do
  bytes ← contents name
  text ← have (input_in bytes)
  judge text g

-- ---- the command that reads a table file

abbrev pub load_in : List ℕ → List ℕ → Order
load_in input file = do
  g ← held_in file
  parse_input Lines input g

abbrev pub load : (table input : List ℕ) → Order
load table input = do
  bytes ← contents table
  file ← have (input_in bytes)
  load_in input file

-- ---- the command that tries a built-in grammar

abbrev pub try_core : List ℕ → Kind → ℕ → Grammar → Order
try_core name kind n g = do
  same ← accepted g
  says (Tries name kind n same)

abbrev pub trial_of : List ℕ → ℕ → Kind → Order
trial_of name n kind = do
  parts ← have (parts_in n)
  g ← core_of (text_of kind)
  try_core name kind parts g

-- the built-in text of a format, on a sample of it
abbrev pub trial : List ℕ → ℕ → Order
trial name n = do
  kind ← have (kind_by name)
  trial_of name n kind

-- ---- the command that reads a text alone

abbrev pub fmt : List ℕ → Order
fmt grammar = do
  g ← grammar_under grammar
  formatted g

-- ---- the command that tells where an input stopped being what a grammar wants

abbrev pub follow : (name text input : List ℕ) → Cleared → Order
follow name text input made = do
  bytes ← contents input
  these ← have (input_in bytes)
  says (Follows (subject name text made.0 these) made.1)

abbrev pub explain_text : (name input text : List ℕ) → Order
explain_text name input text = do
  made ← cleared name text
  follow name text input made

-- G1 to G14 with their places, for a person; or what an input comes to
abbrev pub explain_by : (name : List ℕ) → (input : Option (List ℕ)) → (text : List ℕ) → Order
explain_by name None text = says (Explains name text)
explain_by name (Some input) text = explain_text name input text

abbrev pub explain : (name : List ℕ) → (input : Option (List ℕ)) → Order
explain name input = do
  text ← text_under name
  explain_by name input text

-- ---- the command that lists formats

-- the name under which the list of installed formats is read
abbrev pub installed : List ℕ
installed = codes "@"

abbrev pub formats : Order
formats = do
  bytes ← contents installed
  list ← have (input_in bytes)
  only (formats_said list)

-- ---- words

-- what is done with a core grammar
pub data Task : Type 0 where
  Parse : Show → (input : List ℕ) → Task
  Check : Task
  Cert : Task
  Verify : (certificate : List ℕ) → Task
  Table : Task
  Cover : Task
  Edit : (input script : List ℕ) → Task

-- neither the memo nor the size of the heap has a part in what is said
abbrev pub task_of : words.Task → Task
task_of (words.Parse input memo mib) = Parse Lines input
task_of words.Check = Check
task_of words.Cert = Cert
task_of (words.Verify certificate) = Verify certificate
task_of words.Table = Table
task_of words.Cover = Cover
task_of (words.Rebuild input) = Parse Bytes input
task_of (words.Json input memo mib) = Parse Json input
task_of (words.Edit input script) = Edit input script

abbrev pub order_by : Task → Grammar → Order
order_by (Parse show input) g = parse show input g
order_by Check g = check g
order_by Cert g = cert g
order_by (Verify certificate) g = verify certificate g
order_by Table g = table g
order_by Cover g = cover g
order_by (Edit input script) g = edit input script g

abbrev pub use_order : List ℕ → Task → Order
use_order grammar task = do
  g ← core_under grammar
  order_by task g

-- the path is read before the grammar
abbrev pub query : (grammar input path : List ℕ) → Order
query grammar input text = do
  path ← path_in text
  use_order grammar (Parse (Picked path) input)

abbrev pub picked_view : (grammar input path : List ℕ) → Order
picked_view grammar input text = do
  path ← path_in text
  use_order grammar (Parse (PickedView path) input)

-- all of the tree, or what a path picks
abbrev pub view : (grammar input : List ℕ) → (path : Option (List ℕ)) → Order
view grammar input None = use_order grammar (Parse show.View input)
view grammar input (Some path) = picked_view grammar input path

abbrev pub order_on : Option Request → Order
order_on (Some (Use grammar task)) = use_order grammar (task_of task)
order_on (Some (Fmt grammar)) = fmt grammar
order_on (Some (Trial kind n)) = trial kind n
order_on (Some (Query grammar input path)) = query grammar input path
order_on (Some (View grammar input path memo mib)) = view grammar input path
order_on (Some (Load table input)) = load table input
order_on (Some (Explain grammar input mib)) = explain grammar input
order_on (Some Formats) = formats
order_on (Some (Help command)) = only (help_said command)
order_on (Some Version) = only version_said
order_on None = only usage

abbrev pub order_of : List (List ℕ) → Order
order_of words = order_on (request_of words)
