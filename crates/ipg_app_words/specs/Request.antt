-- What the words of the command line ask for.
use Rattle.std.specs.Prelude.{ℕ, List, [], ◌∷◌, codes, bytes_eq, Option, Some, None, if◌then◌else◌}
use Rattle.std.specs.Option.{option_and_then}
use Rattle.clap.specs.Walk.{Text, Row, first_of}
use Rattle.clap.specs.Simple.{App}
use Rattle.ipg_app_words.specs.Commands as command
use Rattle.ipg_app_words.specs.Commands.{taken}
use Rattle.ipg_app_words.specs.Settings.{memo_in, mib_in, count_in}
use Rattle.ipg_app_words.specs.declared.asking.Memo.{Memo}

infixl 10 ◌>>=◌
abbrev pub ◌>>=◌ : {A B : Type 0} → Option A → (A → Option B) → Option B
a >>= next = option_and_then next a

-- what a grammar is wanted for
pub data Task : Type 0 where
  Parse : (input : Text) (memo : Memo) (mib : ℕ) → Task
  Check : Task
  Cert : Task
  Verify : (certificate : Text) → Task
  Table : Task
  Cover : Task
  Rebuild : (input : Text) → Task
  Json : (input : Text) (memo : Memo) (mib : ℕ) → Task
  Edit : (input script : Text) → Task

pub data Request : Type 0 where
  Use : (grammar : Text) → Task → Request
  Fmt : (grammar : Text) → Request
  Trial : (kind : Text) (count : ℕ) → Request
  Query : (grammar input path : Text) → Request
  View : (grammar input : Text) (path : Option Text) (memo : Memo) (mib : ℕ) → Request
  Load : (table input : Text) → Request
  Explain : (grammar : Text) (input : Option Text) (mib : ℕ) → Request
  Formats : Request
  Help : (command : Option Text) → Request
  Version : Request

abbrev pub parse_task : List Row → Option Task
parse_task rows = do
  input ← first_of (codes "FILE") rows
  memo ← memo_in (first_of (codes "memo") rows)
  mib ← mib_in (first_of (codes "arena") rows)
  Some (Parse input memo mib)

abbrev pub verify_task : List Row → Option Task
verify_task rows = do
  certificate ← first_of (codes "CERT") rows
  Some (Verify certificate)

abbrev pub rebuild_task : List Row → Option Task
rebuild_task rows = do
  input ← first_of (codes "FILE") rows
  Some (Rebuild input)

abbrev pub json_task : List Row → Option Task
json_task rows = do
  input ← first_of (codes "FILE") rows
  memo ← memo_in (first_of (codes "memo") rows)
  mib ← mib_in (first_of (codes "arena") rows)
  Some (Json input memo mib)

abbrev pub edit_task : List Row → Option Task
edit_task rows = do
  input ← first_of (codes "FILE") rows
  script ← first_of (codes "SCRIPT") rows
  Some (Edit input script)

abbrev pub use_by : List Row → Option Task → Option Request
use_by rows task = do
  grammar ← first_of (codes "G") rows
  wanted ← task
  Some (Use grammar wanted)

abbrev pub fmt_by : List Row → Option Request
fmt_by rows = do
  grammar ← first_of (codes "G") rows
  Some (Fmt grammar)

abbrev pub trial_by : List Row → Option Request
trial_by rows = do
  kind ← first_of (codes "KIND") rows
  text ← first_of (codes "N") rows
  count ← count_in text
  Some (Trial kind count)

abbrev pub query_by : List Row → Option Request
query_by rows = do
  grammar ← first_of (codes "G") rows
  input ← first_of (codes "FILE") rows
  path ← first_of (codes "PATH") rows
  Some (Query grammar input path)

abbrev pub view_by : List Row → Option Request
view_by rows = do
  grammar ← first_of (codes "G") rows
  input ← first_of (codes "FILE") rows
  memo ← memo_in (first_of (codes "memo") rows)
  mib ← mib_in (first_of (codes "arena") rows)
  Some (View grammar input (first_of (codes "PATH") rows) memo mib)

abbrev pub explain_by : List Row → Option Request
explain_by rows = do
  grammar ← first_of (codes "G") rows
  mib ← mib_in (first_of (codes "arena") rows)
  Some (Explain grammar (first_of (codes "FILE") rows) mib)

abbrev pub help_by : List Row → Option Request
help_by rows = Some (Help (first_of (codes "COMMAND") rows))

abbrev pub load_by : List Row → Option Request
load_by rows = do
  table ← first_of (codes "T") rows
  input ← first_of (codes "FILE") rows
  Some (Load table input)

-- the command, where it takes the words, and what it wants the grammar for
abbrev pub use_words : App → (List Row → Option Task) → List Text → Option Request
use_words command task words = do
  rows ← taken command words
  use_by rows (task rows)

abbrev pub fmt_words : List Text → Option Request
fmt_words words = do
  rows ← taken command.fmt words
  fmt_by rows

abbrev pub trial_words : List Text → Option Request
trial_words words = do
  rows ← taken command.trial words
  trial_by rows

abbrev pub query_words : List Text → Option Request
query_words words = do
  rows ← taken command.query words
  query_by rows

abbrev pub view_words : List Text → Option Request
view_words words = do
  rows ← taken command.view words
  view_by rows

abbrev pub load_words : List Text → Option Request
load_words words = do
  rows ← taken command.load words
  load_by rows

abbrev pub explain_words : List Text → Option Request
explain_words words = do
  rows ← taken command.explain words
  explain_by rows

abbrev pub formats_words : List Text → Option Request
formats_words words = do
  rows ← taken command.formats words
  Some Formats

abbrev pub help_words : List Text → Option Request
help_words words = do
  rows ← taken command.help words
  help_by rows

abbrev pub version_words : List Text → Option Request
version_words words = do
  rows ← taken command.version words
  Some Version

-- the words from the command's name on
abbrev pub request_by : Text → List Text → Option Request
request_by name words = if bytes_eq name (codes "parse") then use_words command.parse parse_task words
    else (if bytes_eq name (codes "check") then use_words command.check (λ rows. Some Check) words
    else (if bytes_eq name (codes "cert") then use_words command.cert (λ rows. Some Cert) words
    else (if bytes_eq name (codes "verify") then use_words command.verify verify_task words
    else (if bytes_eq name (codes "fmt") then fmt_words words
    else (if bytes_eq name (codes "trial") then trial_words words
    else (if bytes_eq name (codes "query") then query_words words
    else (if bytes_eq name (codes "table") then use_words command.table (λ rows. Some Table) words
    else (if bytes_eq name (codes "load") then load_words words
    else (if bytes_eq name (codes "cover") then use_words command.cover (λ rows. Some Cover) words
    else (if bytes_eq name (codes "rebuild") then use_words command.rebuild rebuild_task words
    else (if bytes_eq name (codes "edit") then use_words command.edit edit_task words
    else (if bytes_eq name (codes "json") then use_words command.json json_task words
    else (if bytes_eq name (codes "view") then view_words words
    else (if bytes_eq name (codes "explain") then explain_words words
    else (if bytes_eq name (codes "formats") then formats_words words
    else (if bytes_eq name (codes "help") then help_words words
    else (if bytes_eq name (codes "version") then version_words words
    else None)))))))))))))))))

-- nothing where the words are no command's
abbrev pub request_of : List Text → Option Request
request_of [] = None
request_of (name ∷ words) = request_by name (name ∷ words)
