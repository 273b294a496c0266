-- What `explain` says of an input: what it came to, and the furthest failures; or where and why its grammar is refused.
use Rattle.std.specs.Prelude.{◌≡◌, ℕ, List, Result, Ok, Err, Some}
use Rattle.ipg_ast.specs.declared.grammar.Grammar as written
use Rattle.ipg_core.specs.Grammar.{Grammar}
use Rattle.ipg_proof.specs.Proves.{Accepts}
use Rattle.ipg_mach_watch.specs.declared.findings.End.{End}
use Rattle.ipg_mach_watch.specs.declared.findings.End.TheVariants as end
use Rattle.ipg_mach_watch.specs.Found.{Found, AreFindings}
use Rattle.ipg_app_explain.specs.declared.furthest.Ending.{Ending}
use Rattle.ipg_app_explain.specs.declared.furthest.Ending.TheVariants as ending
use Rattle.ipg_app_explain.specs.Furthest.{Subject, told_of}
use Rattle.ipg_app_text.specs.declared.status.Status.{Status}
use Rattle.ipg_app_text.specs.declared.status.Status.TheVariants as status
use Rattle.ipg_app_text.specs.CoreOf.{grammar_in, CoreFrom}
use Rattle.ipg_app_grammar.specs.Explained.{explained_said}
use Rattle.ipg_app_text.specs.Reasons.{Reason}
use Rattle.ipg_app_grammar.specs.Judged.{Judged}
use Rattle.ipg_app_text.specs.Said.{Said}

-- ---- the grammar

-- a grammar as it is written, and its core grammar
abbrev pub Cleared : Type 0
Cleared = written.Grammar × Grammar

-- a text has a core grammar by which parsing always ends, or there is a reason against it
abbrev pub Clears : List ℕ → Result Cleared Reason → Type 0
Clears text (Ok made) = (grammar_in text ≡ Ok made.0) × CoreFrom made.0 (Ok made.1) × Accepts made.1
Clears text (Err reason) = Judged text (Some reason)

-- the reason as it is told of a text under a name
abbrev pub or_told : (name text : List ℕ) → Result Cleared Reason → Result Cleared Said
or_told name text (Ok made) = Ok made
or_told name text (Err reason) = Err (explained_said name text (Some reason))

-- ---- the input

abbrev pub ending_of : End → Ending
ending_of end.Tree = ending.Tree
ending_of end.NoTree = ending.NoTree
ending_of (end.Range call) = ending.Range call

-- as `parse` ends
abbrev pub status_of : End → Status
status_of end.Tree = status.Done
status_of end.NoTree = status.NoParse
status_of (end.Range call) = status.Range

-- attributes have the names that the core grammar gives them
abbrev pub found_said : Subject → Grammar → Found → Said
found_said s core f = record { status = status_of f.end; text = told_of s core.names (ending_of f.end) f.told f.more }

-- what is said of an input that is parsed by a core grammar, as the text tells of it
pub record Follows (s : Subject) (core : Grammar) (said : Said) : Type 0 where
  pub found : Found
  pub are : AreFindings core s.input found
  pub is : said ≡ found_said s core found

abbrev pub subject : (name text : List ℕ) → written.Grammar → (input : List ℕ) → Subject
subject name text g input = record { name = name; text = text; grammar = g; input = input }
