-- Orders of answers by which something is said.
use Rattle.std.proofs.Common.{◌≡◌, ℕ, ◌⊎◌, inl, inr, refl, List, [], Result, Ok, Err}
use Rattle.ipg_outside.specs.Files.{Told, untold, absent, holds, MayHold, AreBytes}
use Rattle.ipg_app_text.specs.Said.{Said, read_fault}
use Rattle.ipg_app_text.specs.Order.{Order, says, finds, reads, only, have, Answers}
use Rattle.ipg_app_reply_laws.specs.Replies.{MayBeSo}
use Rattle.ipg_app_reply_laws.proofs.Classical.{Somehow, some, ◌>>=◌}

-- ---- whatever is told of files

module _ (told : List ℕ → Told) where
  -- something is said
  abbrev pub Replies : Order → Type 0
  Replies order = Somehow ((said : Said) × Answers told order said)

  pub replies_only : (said : Said) → Replies (only said)
  replies_only said = some (said, refl)

  pub replies_says : (P : Said → Type 0) → Somehow ((said : Said) × P said) → Replies (says P)
  replies_says P given = given

  pub replies_finds : {A : Type 0} (P : A → Type 0) (next : A → Order) → Somehow ((a : A) × P a) → ((a : A) → P a → Replies (next a))
      → Replies (finds P next)
  replies_finds P next given each = do
    a ← given
    rest ← each a.0 a.1
    some (rest.0, (a.0, a.1, rest.1))

  pub replies_have : {A : Type 0} (r : Result A Said) (next : A → Order) → ((a : A) → r ≡ Ok a → Replies (next a)) → Replies (have r next)
  replies_have (Ok a) next each = each a refl
  replies_have (Err said) next each = replies_only said

  in_turn : (t : Told) (next : List ℕ → Order) → MayBeSo t → ((bytes : List ℕ) → AreBytes bytes → Replies (next bytes))
      → Somehow ((said : Said) × (((t ≡ absent) × (said ≡ read_fault)) ⊎ ((bytes : List ℕ) × MayHold t bytes × Answers told (next bytes) said)))
  in_turn untold next known each = do
    rest ← each [] tt
    some (rest.0, inr ([], tt, rest.1))
  in_turn absent next known each = some (read_fault, inl (refl, refl))
  in_turn (holds bytes) next known each = do
    rest ← each bytes known
    some (rest.0, inr (bytes, refl, rest.1))

  pub replies_reads : (name : List ℕ) (next : List ℕ → Order) → MayBeSo (told name) → ((bytes : List ℕ) → AreBytes bytes → Replies (next bytes))
      → Replies (reads name next)
  replies_reads name next known each = in_turn (told name) next known each
