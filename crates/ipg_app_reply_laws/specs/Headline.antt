-- The sentence that is proved of the program, in its own words: what `parse` says of an input by the text of a grammar.
use Rattle.std.specs.Prelude.{◌≡◌, ◌≤◌, ◌⊎◌, ◌↔◌, ℕ, List, length, Option, Some, None, Ok, Err}
use Rattle.ipg_outside.specs.Files.{Told, holds}
use Rattle.ipg_outside.specs.Sink.{Tells}
use Rattle.ipg_formats.specs.declared.Kind.{Kind}
use Rattle.ipg_formats.specs.Names.{kind_of}
use Rattle.ipg_formats.specs.Text.{text_of}
use Rattle.ipg_core.specs.Grammar.{Grammar}
use Rattle.ipg_core.specs.Lines.{lines}
use Rattle.ipg_core.specs.Meaning.{Means}
use Rattle.ipg_core.specs.Run.{NoTree, OutOfRange}
use Rattle.ipg_core.specs.Tree.{Tree}
use Rattle.ipg_proof.specs.Proves.{Accepts}
use Rattle.ipg_app_words.specs.declared.asking.Memo.{Memo}
use Rattle.ipg_app_words.specs.Request as words
use Rattle.ipg_app_words.specs.Request.{Use, request_of}
use Rattle.ipg_app_text.specs.declared.status.Status.{Status}
use Rattle.ipg_app_text.specs.CoreOf.{CoreOf}
use Rattle.ipg_app_text.specs.Order.{Answers}
use Rattle.ipg_app_text.specs.Said.{Said, done, no_parse, range}
use Rattle.ipg_app_text.specs.Steps.{max_input}
use Rattle.ipg_app_tree.specs.Out.{Writes}
use Rattle.ipg_app_grammar.specs.Checks.{IsLoop}
use Rattle.ipg_app.specs.Reply.{order_of}
use Rattle.ipg_app.specs.Run.{Outside, NoFault, OutOfMemory, RepliesWithoutFault}

-- ---- what is asked

-- the text of a built-in grammar, by its name, or what the file is told to hold
abbrev pub TextIs : Option Kind → Told → List ℕ → Type 0
TextIs (Some kind) told text = text ≡ text_of kind
TextIs None told text = told ≡ holds text

-- the words ask for a parse of this input by this text, with the memo or without, in a heap of any size
pub record Asked (told : List ℕ → Told) (asked : List (List ℕ)) (text input : List ℕ) : Type 0 where
  pub grammar : List ℕ
  pub file : List ℕ
  pub memo : Memo
  pub mib : ℕ
  pub asks : request_of asked ≡ Some (Use grammar (words.Parse file memo mib))
  pub text_is : TextIs (kind_of grammar) (told grammar) text
  pub input_is : told file ≡ holds input
  pub short : length input ≤ max_input

-- ---- what is said

-- the grammar is accepted: the text has this core grammar, and the conditions of no cycle of calls can keep the whole interval
abbrev pub IsAccepted : List ℕ → Grammar → Type 0
IsAccepted text core = CoreOf text (Ok core) × Accepts core

-- the lines of the tree of the big-step meaning
pub record SaysTree (text input : List ℕ) (said : Said) : Type 0 where
  pub core : Grammar
  pub accepted : IsAccepted text core
  pub tree : Tree
  pub means : Means core input (Ok tree)
  pub is : said ≡ done (lines core tree 0)

-- `no parse`, where that meaning fails
pub record SaysNoParse (text input : List ℕ) (said : Said) : Type 0 where
  pub core : Grammar
  pub accepted : IsAccepted text core
  pub means : Means core input (Err NoTree)
  pub is : said ≡ no_parse

-- `range`, where an evaluated expression leaves 64 bits
pub record SaysRange (text input : List ℕ) (said : Said) : Type 0 where
  pub core : Grammar
  pub accepted : IsAccepted text core
  pub means : Means core input (Err OutOfRange)
  pub is : said ≡ range

-- what refuses a text that has no core grammar, or one that isn't accepted
abbrev pub SaysRefusal : List ℕ → Said → Type 0
SaysRefusal text said = CoreOf text (Err said) ⊎ ((core : Grammar) × CoreOf text (Ok core) × IsLoop core said)

abbrev pub Says : (text input : List ℕ) → Said → Type 0
Says text input said = SaysTree text input said ⊎ (SaysNoParse text input said ⊎ (SaysRange text input said ⊎ SaysRefusal text said))

-- ---- the sentence

-- a run wrote just that, and ended with its status
pub record Wrote (text input : List ℕ) (before after : Outside) (s : Status) : Type 0 where
  pub said : Said
  pub says : Says text input said
  pub is : s ≡ said.status
  pub out : Tells before.output after.output (Writes said.text)

pub record Headline : Type 0 where
  -- what may be said is exactly this, whatever the memo and the size of the heap
  pub exactly : (told : List ℕ → Told) (asked : List (List ℕ)) (text input : List ℕ) → Asked told asked text input
      → (said : Said) → Answers told (order_of asked) said ↔ Says text input said
  -- and it is one thing: each of the four is said exactly where its condition holds
  pub one : (text input : List ℕ) (one other : Said) → Says text input one → Says text input other → one ≡ other
  -- where no fault comes from outside a run writes it whole, or memory was wanting and nothing is written
  pub run : (before after : Outside) (asked : List (List ℕ)) (text input : List ℕ) (s : Status) → Asked before.told asked text input
      → NoFault before after → RepliesWithoutFault before after asked s → Wrote text input before after s ⊎ OutOfMemory before after s
