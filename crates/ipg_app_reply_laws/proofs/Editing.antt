-- Of an input that a script edits something is said.
use Rattle.std.proofs.Common.{ℕ, ◌+◌, ◌<◌, inl, inr, refl, subst, List, [], ◌∷◌, ◌++◌, length, take, drop, Bool, true, false, cond, Result, Ok, Err}
use Rattle.std.specs.Prelude.{nat_le}
use Rattle.std.specs.List.{AllByRecursion}
use Rattle.ipg_core.specs.Grammar.{Grammar}
use Rattle.ipg_core.specs.Good.{Good}
use Rattle.ipg_core.specs.Grown.{IsInput}
use Rattle.ipg_core.specs.Run.{Stop, NoTree, OutOfRange, Deep}
use Rattle.ipg_core.specs.Total.{Total}
use Rattle.ipg_core.specs.Tree.{Tree}
use Rattle.ipg_mach_moves.specs.Moves.{Key}
use Rattle.ipg_mach_moves.specs.Laws.{EndsAsMeant}
use Rattle.ipg_mach_count_laws.specs.Laws.{CountsOver, KeysAreKnown, NoneWhereFirstKept}
use Rattle.ipg_edit_laws.specs.Known.{is_behind, moved_key, keys_that_stay, keys_that_move}
use Rattle.ipg_edit_script.specs.declared.script.Edit.{Edit}
use Rattle.ipg_edit_script.specs.Scripts.{AreEdits}
use Rattle.ipg_app_tree.specs.Editing.{Turns, Allows, EditsSay, Edits, edited_by, kept_by, kept_behind, before, answer_line, tree_of, edits_said}
use Rattle.ipg_app_text.specs.Said.{Said}
use Rattle.ipg_app_reply_laws.proofs.Classical.{Somehow, some, ◌>>=◌, by, middle}
use Rattle.ipg_app_reply_laws.proofs.Meanings.{means}
use Rattle.ipg_app_reply_laws.proofs.Fresh.{IsGlobal, AreGlobal, either, all_taken, all_dropped, fresh, fresh_global}

-- ---- keys of global rules stay such

module _ (g : Grammar) where
  pub no_keys : AreGlobal g []
  no_keys key h = absurd h

  both : (xs ys : List Key) → AreGlobal g xs → AreGlobal g ys → AreGlobal g (xs ++ ys)
  both xs ys a b key h = by (either g xs ys key h) (a key) (b key)

  one_more : (one : Key) (xs : List Key) → IsGlobal g one → AreGlobal g xs → AreGlobal g (one ∷ xs)
  one_more one xs is all key (inl e) = subst (IsGlobal g) e is
  one_more one xs is all key (inr h) = all key h

  perhaps : (b : Bool) (one : Key) (xs : List Key) → IsGlobal g one → AreGlobal g xs → AreGlobal g (cond b (one ∷ xs) xs)
  perhaps true one xs is all = one_more one xs is all
  perhaps false one xs is all = all

  stay : (from : ℕ) (keys : List Key) → AreGlobal g keys → AreGlobal g (keys_that_stay from keys)
  stay from [] all = no_keys
  stay from (key ∷ keys) all =
      perhaps (nat_le key.to from) key (keys_that_stay from keys) (all key (inl refl)) (stay from keys (λ other h. all other (inr h)))

  move : (from to new : ℕ) (keys : List Key) → AreGlobal g keys → AreGlobal g (keys_that_move from to new keys)
  move from to new [] all = no_keys
  move from to new (key ∷ keys) all =
      perhaps (is_behind from to key) (moved_key from to new key) (keys_that_move from to new keys) (all key (inl refl))
      (move from to new keys (λ other h. all other (inr h)))

  kept_on : (edit : Edit) (keys : List Key) → AreGlobal g keys → AreGlobal g (kept_by edit keys)
  kept_on edit keys all =
      both (keys_that_stay edit.from keys) (keys_that_move edit.from edit.to (length edit.with) keys) (stay edit.from keys all)
      (move edit.from edit.to (length edit.with) keys all)

  behind : (answer : Result Tree Stop) (keys kept : List Key) → AreGlobal g keys → AreGlobal g kept → AreGlobal g (kept_behind answer keys kept)
  behind (Ok tree) keys kept a b = both keys kept a b
  behind (Err NoTree) keys kept a b = both keys kept a b
  behind (Err OutOfRange) keys kept a b = no_keys
  behind (Err Deep) keys kept a b = no_keys

-- ---- an edited input is one

all_joined : (P : ℕ → Type 0) (xs ys : List ℕ) → AllByRecursion P xs → AllByRecursion P ys → AllByRecursion P (xs ++ ys)
all_joined P [] ys a b = b
all_joined P (x ∷ xs) ys a b = (a.0, all_joined P xs ys a.1 b)

edited_input : (input : List ℕ) (edit : Edit) → IsInput input → AllByRecursion (λ b. b < 256) edit.with → Allows input edit → IsInput (edited_by input edit)
edited_input input edit is bytes allows = record {
  size = allows.small;
  bytes = all_joined (λ b. b < 256) (take edit.from input) (edit.with ++ drop edit.to input) (all_taken (λ b. b < 256) edit.from input is.bytes)
      (all_joined (λ b. b < 256) edit.with (drop edit.to input) bytes (all_dropped (λ b. b < 256) edit.to input is.bytes));
}

-- ---- one answer after another

module _ (ends : EndsAsMeant) (are_known : KeysAreKnown) (over : CountsOver) (none_run : NoneWhereFirstKept)
    (g : Grammar) (good : Good g) (total : Total g) where
  pub record Turn (input : List ℕ) (kept : List Key) : Type 0 where
    pub answer : Result Tree Stop
    pub keys : List Key
    pub turns : Turns g input kept answer keys
    pub global : AreGlobal g keys

  turn : (input : List ℕ) → IsInput input → (kept : List Key) → AreGlobal g kept → Somehow (Turn input kept)
  turn input is kept all = do
    let m = means g good total input is
    keys ← fresh g good total input is ends are_known over none_run m.0 m.1 kept all
    some (record {
      answer = m.0;
      keys = keys.0;
      turns = record { means = m.1; fresh = keys.1 };
      global = fresh_global g good input m.1.height kept keys.0 keys.1;
    })

  edits_say : (k : ℕ) (input : List ℕ) → IsInput input → (kept : List Key) → AreGlobal g kept → (edits : List Edit) → AreEdits edits
      → Somehow ((said : Result (List ℕ) ℕ) × EditsSay g k input kept edits said)
  edits_say k input is kept all [] are = do
    t ← turn input is kept all
    some (Ok (answer_line k t.answer t.keys ++ tree_of g t.answer), (t.answer, t.keys, t.turns, refl))
  edits_say k input is kept all (edit ∷ edits) are = do
    t ← turn input is kept all
    allowed ← middle (Allows input edit)
    by allowed (λ allows. do
      rest ← edits_say (k + 1) (edited_by input edit) (edited_input input edit is are.0.with_bytes allows)
          (kept_by edit (kept_behind t.answer t.keys kept)) (kept_on g edit (kept_behind t.answer t.keys kept) (behind g t.answer t.keys kept t.global all))
          edits are.1
      some (before (answer_line k t.answer t.keys) rest.0, (t.answer, t.keys, t.turns, inr (allows, (rest.0, rest.1, refl)))))
        (λ no. some (Err k, (t.answer, t.keys, t.turns, inl (no, refl))))

  pub edits : (input : List ℕ) → IsInput input → (script : List Edit) → AreEdits script → Somehow ((said : Said) × Edits g input script said)
  edits input is script are = do
    text ← edits_say 0 input is [] (no_keys g) script are
    some (edits_said text.0, record { text = text.0; say = text.1; is = refl })
