-- What functions promise each other of a reply: that it is settled, and that it goes out.
use Rattle.std.specs.Prelude.{◌≡◌, ℕ, ◌≤◌, ⊤, List, length, Result}
use Rattle.ipg_outside.specs.Files.{Told}
use Rattle.ipg_app_text.specs.Said.{Said}
use Rattle.ipg_app_text.specs.Order.{Order}
use Rattle.ipg_app.specs.Reply.{Task, Parse, Check, Cert, Verify, Table, Cover, Edit}
use Rattle.ipg_app_tree.specs.Parses.{Parses}
use Rattle.ipg_app_text.specs.Steps.{max_input}
use Rattle.ipg_edit_script.specs.Scripts.{AreEdits}
use Rattle.ipg_app_tree.specs.Editing.{Edits}
use Rattle.ipg_app_text.specs.Settles.{Settles}
use Rattle.ipg_app_text.specs.Early.{AnswersOrSays}
use Rattle.ipg_app_text.specs.Lines.{said_of}
use Rattle.ipg_app_text.specs.declared.early.Early.{Early}
use Rattle.ipg_app_text.specs.declared.said.Settled.{Settled}
use Rattle.ipg_app.specs.declared.reply.Reply.{Reply}
use Rattle.ipg_app.specs.declared.reply.Reply.TheVariants as reply
use Rattle.ipg_app.specs.declared.task.Task as code
use Rattle.ipg_app.specs.declared.task.Task.TheVariants as task
use Rattle.ipg_mach.specs.declared.machine.Remember.{Remember}
use Rattle.ipg_mach.specs.declared.machine.Remember.TheVariants as remember
use Rattle.ipg_app_words.specs.declared.asking.Memo.{Memo}
use Rattle.ipg_app_words.specs.declared.asking.Memo.TheVariants as memo

-- what is remembered of calls with the memo and without
abbrev pub remember_of : Memo → Remember
remember_of memo.On = remember.Answers
remember_of memo.Off = remember.Nothing

-- a task, as the code has it
abbrev pub task_seen : code.Task → Task
task_seen (task.Parse input room show) = Parse show input.now
task_seen task.Check = Check
task_seen task.Cert = Cert
task_seen (task.Verify certificate) = Verify certificate.now
task_seen task.Table = Table
task_seen task.Cover = Cover
task_seen (task.Edit input script) = Edit input.now script.now

-- ---- what is settled

-- an input that is to be parsed keeps the limit, and so does each edit
abbrev pub IsDue : Reply → Type 0
IsDue (reply.Text settled) = ⊤
IsDue (reply.Parse due) = length due.input.items ≤ max_input
IsDue (reply.Edits due) = (length due.input.items ≤ max_input) × AreEdits due.edits

-- this may be said of a reply
abbrev pub MaySay : Reply → Said → Type 0
MaySay (reply.Text settled) said = said ≡ said_of settled
MaySay (reply.Parse due) said = Parses due.show due.grammar due.input.items said
MaySay (reply.Edits due) said = Edits due.grammar due.input.items due.edits said

-- whatever may be said of the reply is settled
abbrev pub IsSettled : (List ℕ → Told) → (List ℕ → ℕ) → (List ℕ → ℕ) → Order → Reply → Type 0
IsSettled told before after order (reply.Text settled) = Settles told before after order (said_of settled)
IsSettled told before after order (reply.Parse due) =
    (length due.input.items ≤ max_input) × ((said : Said) → Parses due.show due.grammar due.input.items said → Settles told before after order said)
IsSettled told before after order (reply.Edits due) =
    ((length due.input.items ≤ max_input) × AreEdits due.edits)
    × ((said : Said) → Edits due.grammar due.input.items due.edits said → Settles told before after order said)

-- the reply is settled, or what is said in its stead is
abbrev pub IsReplied : (List ℕ → Told) → (List ℕ → ℕ) → (List ℕ → ℕ) → Order → Result Reply (Early Settled) → Type 0
IsReplied told before after order result =
    AnswersOrSays result (IsSettled told before after order) (λ settled. Settles told before after order (said_of settled))
