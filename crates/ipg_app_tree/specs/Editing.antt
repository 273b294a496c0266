-- What is said of an input that a script edits: an answer before the first edit, and one after each.
use Rattle.std.specs.Prelude.{◌≡◌, ◌⊎◌, ℕ, ◌+◌, ◌-◌, ◌^◌, min, List, [], ◌∷◌, ◌++◌, length, codes, decimal, Result, Ok, Err}
use Rattle.ipg_core.specs.Grammar.{Grammar}
use Rattle.ipg_core.specs.Tree.{Tree}
use Rattle.ipg_core.specs.Lines.{lines}
use Rattle.ipg_core.specs.Run.{Stop, NoTree, OutOfRange, Deep}
use Rattle.ipg_core.specs.Meaning.{Means}
use Rattle.ipg_mach_moves.specs.Moves.{Key}
use Rattle.ipg_mach_count_laws.specs.Kept.{IsFresh}
use Rattle.ipg_edit_laws.specs.Edited.{edited}
use Rattle.ipg_edit_laws.specs.Known.{keys_after}
use Rattle.ipg_reader.specs.Faults.{IsFirstFault}
use Rattle.ipg_edit_script.specs.declared.script.Edit.{Edit}
use Rattle.ipg_edit_script.specs.Scripts.{script_text, AreEdits, IsScript}
use Rattle.ipg_edit.specs.Edits.{IsAllowed}
use Rattle.ipg_app_text.specs.Said.{Said, done, refused}

-- ---- the script

abbrev pub edit_text : ℕ → Said
edit_text at = refused (codes "E2 EditText " ++ decimal at)

-- no script begins with the bytes up to that place and with it, or the text ends there too early
pub record IsNoScript (text : List ℕ) (said : Said) : Type 0 where
  pub at : ℕ
  pub fault : IsFirstFault AreEdits script_text text at
  pub is : said ≡ edit_text at

abbrev pub ReadsScript : List ℕ → Result (List Edit) Said → Type 0
ReadsScript text (Ok edits) = IsScript edits text
ReadsScript text (Err said) = IsNoScript text said

-- ---- one answer

abbrev pub words_of : Result Tree Stop → List ℕ
words_of (Ok tree) = codes "tree"
words_of (Err NoTree) = codes "no parse"
words_of (Err OutOfRange) = codes "range"
words_of (Err Deep) = []

-- how many keys had to run, given as 2^64 - 1 where it is more
abbrev pub bodies : List Key → ℕ
bodies keys = min (length keys) (2 ^ 64 - 1)

-- a line: a number, some words, and a count
abbrev pub counted : ℕ → List ℕ → ℕ → List ℕ
counted k words count = decimal k ++ (32 ∷ (words ++ (codes " bodies=" ++ (decimal count ++ 10 ∷ []))))

-- the number of the answer, what it is, and how many keys had to run
abbrev pub answer_line : ℕ → Result Tree Stop → List Key → List ℕ
answer_line k answer keys = counted k (words_of answer) (bodies keys)

-- the lines of its tree, where it is one
abbrev pub tree_of : Grammar → Result Tree Stop → List ℕ
tree_of g (Ok tree) = lines g tree 0
tree_of g (Err why) = []

-- the keys that are kept behind it: none behind a value that left 64 bits, else those that had to run too
abbrev pub kept_behind : Result Tree Stop → (keys kept : List Key) → List Key
kept_behind (Ok tree) keys kept = keys ++ kept
kept_behind (Err NoTree) keys kept = keys ++ kept
kept_behind (Err OutOfRange) keys kept = []
kept_behind (Err Deep) keys kept = []

-- what an input comes to where some keys are kept, and the keys that have to run for it
pub record Turns (g : Grammar) (input : List ℕ) (kept : List Key) (answer : Result Tree Stop) (keys : List Key) : Type 0 where
  pub means : Means g input answer
  pub fresh : IsFresh g input means.height kept keys

-- ---- one answer after another

abbrev pub edited_by : List ℕ → Edit → List ℕ
edited_by input edit = edited input edit.from edit.to edit.with

abbrev pub kept_by : Edit → List Key → List Key
kept_by edit keys = keys_after edit.from edit.to (length edit.with) keys

abbrev pub Allows : List ℕ → Edit → Type 0
Allows input edit = IsAllowed input edit.from edit.to edit.with

-- a line goes before a text, where there is one
abbrev pub before : List ℕ → Result (List ℕ) ℕ → Result (List ℕ) ℕ
before line (Ok text) = Ok (line ++ text)
before line (Err k) = Err k

-- from the answer of this number on, to an input where these keys are kept: the text, or the number of the first edit that is
-- out of input
abbrev pub EditsSay : Grammar → ℕ → List ℕ → List Key → List Edit → Result (List ℕ) ℕ → Type 0
EditsSay g k input kept [] said =
    (answer : Result Tree Stop) × (keys : List Key) × Turns g input kept answer keys × (said ≡ Ok (answer_line k answer keys ++ tree_of g answer))
EditsSay g k input kept (edit ∷ edits) said =
    (answer : Result Tree Stop) × (keys : List Key) × Turns g input kept answer keys
    × (((Allows input edit → ⊥) × (said ≡ Err k))
    ⊎ (Allows input edit
    × ((rest : Result (List ℕ) ℕ) × EditsSay g (k + 1) (edited_by input edit) (kept_by edit (kept_behind answer keys kept)) edits rest
    × (said ≡ before (answer_line k answer keys) rest))))

-- E1
abbrev pub out_of_input : ℕ → Said
out_of_input k = refused (codes "E1 OutOfInput " ++ decimal k)

abbrev pub edits_said : Result (List ℕ) ℕ → Said
edits_said (Ok text) = done text
edits_said (Err k) = out_of_input k

-- nothing is kept at first
pub record Edits (g : Grammar) (input : List ℕ) (edits : List Edit) (said : Said) : Type 0 where
  pub text : Result (List ℕ) ℕ
  pub say : EditsSay g 0 input [] edits text
  pub is : said ≡ edits_said text
