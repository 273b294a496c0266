-- What holds of core grammars and refusals.
use Rattle.std.specs.Prelude.{◌≡◌, ◌≢◌, ◌≤◌, ◌⊎◌, ◌↔◌, ℕ, List, ◌++◌, length, Option, Some, None, Result, Ok}
use Rattle.ipg_outside.specs.Files.{Told, untold, holds}
use Rattle.ipg_core.specs.Grammar.{Grammar}
use Rattle.ipg_app_words.specs.Request as words
use Rattle.ipg_app_words.specs.Request.{Request, Use, Fmt, Trial, Query, View, Load, Explain, Formats, Help, Version, request_of}
use Rattle.ipg_core.specs.Good.{Good}
use Rattle.ipg_core.specs.Grown.{IsInput}
use Rattle.ipg_core.specs.Meaning.{Means}
use Rattle.ipg_core.specs.Tree.{Tree}
use Rattle.ipg_app_grammar.specs.Covering.{IsCovered}
use Rattle.ipg_app_tree.specs.declared.show.Show.TheVariants.{Bytes, Lines}
use Rattle.ipg_app_text.specs.Said.{Said, done}
use Rattle.ipg_app_text.specs.Order.{Answers}
use Rattle.ipg_app_tree.specs.declared.show.Show.{Show}
use Rattle.ipg_app.specs.Reply.{use_order, order_of, Check, load, parse, verify}
use Rattle.ipg_app_text.specs.Steps.{core_of, max_input}
use Rattle.ipg_app_grammar.specs.Commands.{check}
use Rattle.ipg_app_tree.specs.Parses.{Parses}
use Rattle.ipg_app_grammar.specs.Explained.{Explains}
use Rattle.ipg_app_grammar.specs.Followed.{Cleared, Clears, Follows}
use Rattle.ipg_app_text.specs.Reasons.{Reason}
use Rattle.ipg_app_explain.specs.Furthest.{Subject}
use Rattle.ipg_app_text.specs.Found.{Says}
use Rattle.ipg_app.specs.Trial.{Tries}
use Rattle.ipg_formats.specs.declared.Kind.{Kind}
use Rattle.ipg_app_grammar.specs.Certificate.{Certifies, verified}
use Rattle.ipg_app_grammar.specs.Tables.{Tables}
use Rattle.ipg_app_text.specs.CoreOf.{Answer, CoreOf}
use Rattle.ipg_app_grammar.specs.Checks.{Checks}
use Rattle.ipg_app_tree.specs.Editing.{Edits}
use Rattle.ipg_edit_script.specs.declared.script.Edit.{Edit}

-- a text has one core grammar, or is refused in one way
abbrev pub OneCore : Type 0
OneCore = (text : List ℕ) (one other : Answer) → CoreOf text one → CoreOf text other → one ≡ other

-- a core grammar is accepted, or is refused in one way
abbrev pub OneCheck : Type 0
OneCheck = (g : Grammar) (one other : Answer) → Checks g one → Checks g other → one ≡ other

-- an input has one parse, whatever is remembered of calls and however large the heap is
abbrev pub OneParse : Type 0
OneParse = (show : Show) (g : Grammar) (input : List ℕ) (one other : Said) → Parses show g input one → Parses show g input other → one ≡ other

-- of an input that a script edits one thing is said
abbrev pub OneEdits : Type 0
OneEdits = (g : Grammar) (input : List ℕ) (edits : List Edit) (one other : Said) → Edits g input edits one → Edits g input edits other → one ≡ other

-- of a trial one thing is said
abbrev pub OneTrial : Type 0
OneTrial = (name : List ℕ) (kind : Kind) (n : ℕ) (g : Grammar) (one other : Said) → Tries name kind n g one → Tries name kind n g other → one ≡ other

-- of a text under a name `explain` says one thing
abbrev pub OneExplained : Type 0
OneExplained = (name text : List ℕ) (one other : Said) → Explains name text one → Explains name text other → one ≡ other

-- a text has one grammar by which parsing ends, or one reason against it
abbrev pub OneCleared : Type 0
OneCleared = (text : List ℕ) (one other : Result Cleared Reason) → Clears text one → Clears text other → one ≡ other

-- of an input by a grammar `explain` says one thing
abbrev pub OneFollowed : Type 0
OneFollowed = (s : Subject) (core : Grammar) (one other : Said) → Follows s core one → Follows s core other → one ≡ other

-- it ends as `parse` does
abbrev pub FollowEndsAsParse : Type 0
FollowEndsAsParse = (s : Subject) (core : Grammar) (said own : Said) → Follows s core said → Parses Lines core s.input own → said.status ≡ own.status

-- the status is that of what `check` says of the text, and the text begins with its line
pub record BeginsAs (text : List ℕ) (said : Said) : Type 0 where
  pub own : Said
  pub checks : Says (core_of text check) own
  pub status : said.status ≡ own.status
  pub rest : List ℕ
  pub begins : said.text ≡ own.text ++ rest

-- what `explain` says begins so
abbrev pub BeginsAsCheck : Type 0
BeginsAsCheck = (name text : List ℕ) (said : Said) → Explains name text said → BeginsAs text said

-- of a name of which something is told `check` says one thing
abbrev pub OneVerdict : Type 0
OneVerdict = (told : List ℕ → Told) (name : List ℕ) (one other : Said) → told name ≢ untold → Answers told (use_order name Check) one
    → Answers told (use_order name Check) other → one ≡ other

-- of a file that holds what `cert` writes of a grammar, `verify` says `verified`, if it has at most 2^30 bytes
abbrev pub CertIsVerified : Type 0
CertIsVerified = (g : Grammar) (text : List ℕ) → Certifies g (done text) → length text ≤ max_input
    → (told : List ℕ → Told) (name : List ℕ) (said : Said) → told name ≡ holds text → Answers told (verify name g) said → said ≡ verified

-- of a file that holds what `table` writes of a grammar, `load` says of an input just what `parse` says of it by that grammar, if the file has at most
-- 2^30 bytes
abbrev pub TableIsLoaded : Type 0
TableIsLoaded = (g : Grammar) (file : List ℕ) → Tables g (done file) → length file ≤ max_input
    → (told : List ℕ → Told) (name input : List ℕ) (said : Said) → told name ≡ holds file
    → Answers told (load name input) said ↔ Answers told (parse Lines input g) said

-- two things that are so of one grammar
abbrev pub BothOf : (Grammar → Said → Type 0) → Said → Said → Type 0
BothOf P one other = (g : Grammar) × P g one × P g other

-- what is said to the same words is one thing; but `cert` and `table` may write any certificate that proves the one grammar
abbrev pub Alike : Option Request → Said → Said → Type 0
Alike None one other = one ≡ other
Alike (Some (Use grammar (words.Parse input memo mib))) one other = one ≡ other
Alike (Some (Use grammar words.Check)) one other = one ≡ other
Alike (Some (Use grammar words.Cert)) one other = (one ≡ other) ⊎ BothOf Certifies one other
Alike (Some (Use grammar (words.Verify certificate))) one other = one ≡ other
Alike (Some (Use grammar words.Table)) one other = (one ≡ other) ⊎ BothOf Tables one other
Alike (Some (Use grammar words.Cover)) one other = one ≡ other
Alike (Some (Use grammar (words.Rebuild input))) one other = one ≡ other
Alike (Some (Use grammar (words.Json input memo mib))) one other = one ≡ other
Alike (Some (Use grammar (words.Edit input script))) one other = one ≡ other
Alike (Some (Fmt grammar)) one other = one ≡ other
Alike (Some (Trial kind n)) one other = one ≡ other
Alike (Some (Query grammar input path)) one other = one ≡ other
Alike (Some (View grammar input path memo mib)) one other = one ≡ other
Alike (Some (Load table input)) one other = one ≡ other
Alike (Some (Explain grammar input mib)) one other = one ≡ other
Alike (Some Formats) one other = one ≡ other
Alike (Some (Help command)) one other = one ≡ other
Alike (Some Version) one other = one ≡ other

-- where `cover` says that a grammar leaves no byte out, `rebuild` says of an input that has a tree just that input
abbrev pub CoveredIsRebuilt : Type 0
CoveredIsRebuilt = (g : Grammar) (input : List ℕ) (tree : Tree) (covered said : Said) → Good g → IsInput input → IsCovered g covered
    → Means g input (Ok tree) → Parses Bytes g input said → said ≡ done input

-- two replies to the same words are alike, where something is told of each file
abbrev pub OneReply : Type 0
OneReply = (told : List ℕ → Told) (words : List (List ℕ)) (one other : Said) → ((name : List ℕ) → told name ≢ untold)
    → Answers told (order_of words) one → Answers told (order_of words) other → Alike (request_of words) one other
