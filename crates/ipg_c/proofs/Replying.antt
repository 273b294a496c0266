-- A run over files in memory replies: a reading fails of a name that no file has, and of no other.
use Rattle.std.proofs.Common.{◌≡◌, refl, sym, ap, ◌∙◌, subst, arith, ℕ, ◌<◌, ◌≤◌, ◌⊎◌, inl, inr, List, [], ◌++◌, Option, None, Some}
use Rattle.ipg_outside.specs.Faults.{Rose}
use Rattle.ipg_outside.specs.Files.{Told, absent}
use Rattle.ipg_outside.specs.Sink.{Output, Tells}
use Rattle.ipg_app_text.specs.Said.{Said, read_fault}
use Rattle.ipg_app_text.specs.Code.{code_of}
use Rattle.ipg_app_text.specs.Order.{Order, says, finds, reads, Answers, Turn}
use Rattle.ipg_app.specs.Reply.{order_of}
use Rattle.ipg_app.specs.Run.{Outside, Runs}
use Rattle.ipg_app_text.specs.Settles.{Settles, FailsToRead}
use Rattle.ipg_app_tree.specs.Out.{Writes}
use Rattle.ipg_app_text.specs.declared.status.Status.{Status}
use Rattle.ipg_app_text.specs.declared.status.Status.TheVariants as status
use Rattle.ipg_c.specs.declared.files.File.{File}
use Rattle.ipg_c.specs.Handed.{found, told_by, told_of, faults_by, faults_of, output_of}
use Rattle.ipg_c.specs.Answered.{Replies, Whole, Memory}

-- where the turn of an absent name comes, that is said
absent_is_said : (told : List ℕ → Told) (order : Order) (name : List ℕ) → told name ≡ absent → Turn told order name → Answers told order read_fault
absent_is_said told (says P) name e turn = absurd turn
absent_is_said told (finds P next) name e (a, p, turn) = (a, p, absent_is_said told (next a) name e turn)
absent_is_said told (reads n next) name e (inl same) = inl (ap told (sym same) ∙ e, refl)
absent_is_said told (reads n next) name e (inr (bytes, held, turn)) = inr (bytes, held, absent_is_said told (next bytes) name e turn)

no_rise : (n k : ℕ) → k ≡ 0 → Rose n k → ⊥
no_rise n k e (inl less) = omega (arith, e, less)
no_rise n k e (inr last) = omega (arith, e, last)

rises_if_absent : (early late : Option (List ℕ)) (n : ℕ) → Rose (faults_by early 0) (faults_by late n) → told_by late ≡ absent
rises_if_absent early None n rose = refl
rises_if_absent early (Some bytes) n rose = absurd (no_rise (faults_by early 0) 0 refl rose)

-- where what is told of each name stays, and a count of faults that has risen is of an absent one
settled : (files later : List File) (n : ℕ) → ((name : List ℕ) → told_of name later ≡ told_of name files) → (order : Order) (said : Said)
    → Settles (λ name. told_of name files) (λ name. faults_of name files 0) (λ name. faults_of name later n) order said
    → Answers (λ name. told_of name files) order said
settled files later n stays order said (inl answers) = answers
settled files later n stays order said (inr fails) =
    let gone = sym (stays fails.name) ∙ rises_if_absent (found fails.name files) (found fails.name later) n fails.rose in
    subst (Answers (λ name. told_of name files) order) (sym fails.is) (absent_is_said (λ name. told_of name files) order fails.name gone fails.turn)

abbrev written_of : Option Output → List ℕ
written_of None = []
written_of (Some output) = output.written

-- what is written over nothing is the text
over_nothing : (start text said : List ℕ) → start ≡ [] → text ≡ (start ++ []) ++ said → text ≡ said
over_nothing start text said e written = written ∙ ap (λ s. (s ++ []) ++ said) e

-- over files, with so many faults, and a page
abbrev outside : List File → ℕ → List ℕ → ℕ → Outside
outside files n text k =
    record { told = λ name. told_of name files; read_faults = λ name. faults_of name files n; output = Some (output_of text); write_faults = k }

pub replied : (files later : List File) (n : ℕ) (start : List ℕ) (z : ℕ) (text : List ℕ) (k : ℕ) (words : List (List ℕ)) (s : Status)
    → ((name : List ℕ) → told_of name later ≡ told_of name files) → start ≡ [] → k ≡ 0
    → Runs (outside files 0 start z) (outside later n text k) words s → Replies (λ name. told_of name files) words text (code_of s)
replied files later n start z text k words s stays e none (inl ended) =
    Whole ended.said (settled files later n stays (order_of words) ended.said ended.settled)
    (over_nothing start text ended.said.text e ended.out.all) (ap code_of ended.is)
replied files later n start z text k words s stays e none (inr (inl fails)) = absurd (no_rise z k none fails.rose)
replied files later n start z text k words s stays e none (inr (inr memory)) = Memory (ap written_of memory.out ∙ e) (ap code_of memory.is)
