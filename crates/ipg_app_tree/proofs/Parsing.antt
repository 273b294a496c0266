-- How what is said of a parse goes out.
use Rattle.std.proofs.Common.{◌≡◌, ℕ, inl, inr, List, Option, refl, sym, subst, Result, Ok, Err}
use Rattle.ipg_outside.specs.Sink.{Output}
use Rattle.ipg_core.specs.Grammar.{Grammar}
use Rattle.ipg_core.specs.Meaning.{Means}
use Rattle.ipg_core.specs.Run.{Stop}
use Rattle.ipg_core.specs.Tree.{Tree}
use Rattle.ipg_app_tree.specs.declared.show.Show.{Show}
use Rattle.ipg_app_tree.specs.Answered.{Fails}
use Rattle.ipg_app_tree.specs.declared.answering.AnswerFault.{AnswerFault}
use Rattle.ipg_app_tree.specs.declared.answering.AnswerFault.TheVariants as fault
use Rattle.ipg_app_text.specs.Said.{Said, done}
use Rattle.ipg_app_tree.specs.Shown.{Shows, Misses, gap_said}
use Rattle.ipg_app_tree.specs.Parses.{Parses, ParseSays}
use Rattle.ipg_app_tree.specs.Out.{GoesOut, Replies, fault_status}
use Rattle.ipg_app_text.specs.declared.status.Status.{Status}

module _ (show : Show) (g : Grammar) (input : List ℕ) (answer : Result Tree Stop) (means : Means g input answer)
    (before : Option Output) (counted : ℕ) (after : Option Output) (counts : ℕ) (s : Status) where
  pub says_so : (said : Said) → ParseSays show g input answer said → GoesOut said before counted after counts s
      → Replies (Parses show g input) before counted after counts s
  says_so said is goes = inl (said, record { answer = answer; means = means; is = is }, goes)

  -- what is shown of a tree went out
  pub shows_all : (one : Tree) → answer ≡ Ok one → (text : List ℕ) → Shows show g input one text → GoesOut (done text) before counted after counts s
      → Replies (Parses show g input) before counted after counts s
  shows_all one e text shows goes =
      says_so (done text) (subst (λ a. ParseSays show g input a (done text)) (sym e) (inl (text, shows, refl))) goes

  -- nothing was written of it so far, and it is said that the leaves miss a place
  pub misses : (one : Tree) → answer ≡ Ok one → (at : ℕ) → Misses show input one at → (mid : Option Output) (m : ℕ) → mid ≡ before → m ≡ counted
      → Replies (λ said. said ≡ gap_said at) mid m after counts s → Replies (Parses show g input) before counted after counts s
  misses one e at missed mid m is_mid is_m h =
      missing one e at missed (subst (λ out. P out counted) is_mid (subst (λ count. P mid count) is_m h))
    where
      P : Option Output → ℕ → Type 0
      P out count = Replies (λ said. said ≡ gap_said at) out count after counts s

      missing : (one : Tree) → answer ≡ Ok one → (at : ℕ) → Misses show input one at → Replies (λ said. said ≡ gap_said at) before counted after counts s
          → Replies (Parses show g input) before counted after counts s
      missing one e at missed (inl (said, is, goes)) = says_so said (subst (λ a. ParseSays show g input a said) (sym e) (inr (at, missed, is))) goes
      missing one e at missed (inr none) = inr none

  -- nothing was written, and it is said that there is no tree, or that a value left 64 bits
  pub says_stop : (stop : Stop) → answer ≡ Err stop → (said : Said) → ParseSays show g input (Err stop) said → (mid : Option Output) (m : ℕ)
      → mid ≡ before → m ≡ counted → GoesOut said mid m after counts s → Replies (Parses show g input) before counted after counts s
  says_stop stop e said is mid m is_mid is_m goes =
      says_so said (subst (λ a. ParseSays show g input a said) (sym e) is)
      (subst (λ out. GoesOut said out counted after counts s) is_mid (subst (λ count. GoesOut said mid count after counts s) is_m goes))

-- ---- a parse that wasn't written whole

pub failed : (show : Show) (g : Grammar) (input : List ℕ) (f : AnswerFault) (before : Option Output) (counted : ℕ) (after : Option Output) (counts : ℕ)
    (s : Status) → s ≡ fault_status f → Fails show g input f before counted after counts → Replies (Parses show g input) before counted after counts s
failed show g input fault.Memory before counted after counts s e h = inr (e, h)
failed show g input fault.Write before counted after counts s e h =
    inl (done h.text, record { answer = Ok h.tree; means = h.means; is = inl (h.text, h.shows, refl) }, inr (e, h.part.failed, h.part.told))
