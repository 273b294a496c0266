-- A reply: how it is settled, and how it goes out.
use Rattle.std.proofs.Common.{◌≡◌, ℕ, ◌⊎◌, inl, inr, List, None, sym, subst, Result, IsErrAnd, arith}
use Rattle.ipg_outside.specs.Faults.{Rose}
use Rattle.ipg_outside.specs.Files.{Told}
use Rattle.ipg_app_text.specs.Said.{Said}
use Rattle.ipg_app_text.specs.Order.{Order}
use Rattle.ipg_app.specs.Reply.{order_of}
use Rattle.ipg_app.specs.Run.{Outside, Runs, OutOfMemory, Replied, RepliesWithoutFault, Surely}
use Rattle.ipg_app_text.specs.Settles.{Settles}
use Rattle.ipg_app_text.specs.Lines.{said_of}
use Rattle.ipg_app_text.specs.Early.{SaysSo}
use Rattle.ipg_app.specs.Settled.{IsReplied, IsSettled, IsDue, MaySay}
use Rattle.ipg_app_tree.specs.Out.{GoesOut, Replies}
use Rattle.ipg_app_text.specs.declared.early.Early.{Early}
use Rattle.ipg_app.specs.declared.reply.Reply.{Reply}
use Rattle.ipg_app.specs.declared.reply.Reply.TheVariants.{Text, Parse, Edits}
use Rattle.ipg_app_text.specs.declared.said.Settled.{Settled}
use Rattle.ipg_app_text.specs.declared.status.Status.{Status}
use Rattle.ipg_app_text.specs.Instead.{answers_on, exits_on}

-- ---- what is settled

module _ (told : List ℕ → Told) (before after : List ℕ → ℕ) (order : Order) where
  -- a reply that another order settles
  settled_on : (then : List ℕ → Told) (from to : List ℕ → ℕ) (other : Order) (reply : Reply)
      → ((said : Said) → Settles then from to other said → Settles told before after order said)
      → IsSettled then from to other reply → IsSettled told before after order reply
  settled_on then from to other (Text settled) f h = f (said_of settled) h
  settled_on then from to other (Parse due) f h = (h.0, λ said parses. f said (h.1 said parses))
  settled_on then from to other (Edits due) f h = (h.0, λ said is. f said (h.1 said is))

  -- the same where that may be said in its stead
  pub replied_on : (then : List ℕ → Told) (from to : List ℕ → ℕ) (other : Order) (r : Result Reply (Early Settled))
      → ((said : Said) → Settles then from to other said → Settles told before after order said)
      → IsReplied then from to other r → IsReplied told before after order r
  replied_on then from to other r f h =
      answers_on r (IsSettled then from to other) (IsSettled told before after order) (λ s. Settles then from to other (said_of s))
      (λ s. Settles told before after order (said_of s)) (λ reply. settled_on then from to other reply f) (λ s. f (said_of s)) h

  -- what is handed on in its stead
  pub reply_exits : (r : Result Reply (Early Settled)) (e : Early Settled) (P : Said → Type 0) → IsErrAnd r (λ y. y ≡ e)
      → ((said : Said) → P said → Settles told before after order said) → SaysSo (λ s. P (said_of s)) e → IsReplied told before after order r
  reply_exits r e P is f h =
      exits_on r e (IsSettled told before after order) (λ s. P (said_of s)) (λ s. Settles told before after order (said_of s)) is (λ s. f (said_of s)) h

  pub due_of : (reply : Reply) → IsSettled told before after order reply → IsDue reply
  due_of (Text settled) h = tt
  due_of (Parse due) h = h.0
  due_of (Edits due) h = h.0

  said_of_reply : (reply : Reply) (said : Said) → IsSettled told before after order reply → MaySay reply said → Settles told before after order said
  said_of_reply (Text settled) said h e = subst (λ x. Settles told before after order x) (sym e) h
  said_of_reply (Parse due) said h parses = h.1 said parses
  said_of_reply (Edits due) said h is = h.1 said is

-- ---- the run

-- what is said of a reply that is settled goes out
pub runs_by : (before after : Outside) (words : List (List ℕ)) (s : Status) (reply : Reply)
    → IsSettled before.told before.read_faults after.read_faults (order_of words) reply
    → Replies (MaySay reply) before.output before.write_faults after.output after.write_faults s → Runs before after words s
runs_by before after words s reply h (inl (said, comes, goes)) = by goes
  where
    settled : Settles before.told before.read_faults after.read_faults (order_of words) said
    settled = said_of_reply before.told before.read_faults after.read_faults (order_of words) reply said h comes

    by : GoesOut said before.output before.write_faults after.output after.write_faults s → Runs before after words s
    by (inl (is, out)) = inl (record { said = said; settled = settled; is = is; out = out })
    by (inr (is, rose, out)) = inr (inl (record { said = said; settled = settled; is = is; rose = rose; out = out }))
runs_by before after words s reply h (inr (is, out)) = inr (inr (record { is = is; out = out }))

-- a run without a fault replies
pub replies_by : (before after : Outside) (words : List (List ℕ)) (s : Status) → Runs before after words s → RepliesWithoutFault before after words s
replies_by before after words s (inl e) none = by e.settled
  where
    by : Settles before.told before.read_faults after.read_faults (order_of words) e.said → Replied before after words s ⊎ OutOfMemory before after s
    by (inl a) = inl (record { said = e.said; answers = a; is = e.is; out = e.out })
    by (inr f) = absurd (none.reading f.name f.rose)
replies_by before after words s (inr (inl f)) none = absurd (none.writing f.rose)
replies_by before after words s (inr (inr m)) none = inr m

-- a count that stays 0 never rose
not_risen : Rose 0 0 → ⊥
not_risen (inl h) = absurd (omega (arith, h))
not_risen (inr h) = absurd (omega (arith, h))

-- an outside where nothing fails
abbrev pub sure : (List ℕ → Told) → Outside
sure told = record { told = told; read_faults = λ n. 0; output = None; write_faults = 0 }

pub surely_by : (told then : List ℕ → Told) (words : List (List ℕ)) (s : Status) → RepliesWithoutFault (sure told) (sure then) words s → Surely told words s
surely_by told then words s h = by (h (record { reading = λ name rose. not_risen rose; writing = not_risen }))
  where
    by : Replied (sure told) (sure then) words s ⊎ OutOfMemory (sure told) (sure then) s → Surely told words s
    by (inl r) = inl (r.said, r.answers, r.is)
    by (inr m) = inr m.is
