-- Of an input that a script edits one thing is said.
use Rattle.std.proofs.Common.{◌≡◌, ◌≢◌, ℕ, ◌+◌, ◌≤◌, ◌⊎◌, inl, inr, List, [], ◌∷◌, ◌++◌, length, min, ◌-◌, ◌^◌, Result, Ok, Err, refl, sym, ap, ◌∙◌, subst}
use Rattle.ipg_core.specs.Grammar.{Grammar}
use Rattle.ipg_core.specs.Laws.{HeightsAgree}
use Rattle.ipg_core.specs.Meaning.{den}
use Rattle.ipg_core.specs.Run.{Stop, NoTree, OutOfRange, Deep}
use Rattle.ipg_core.specs.Tree.{Tree}
use Rattle.ipg_mach_moves.specs.Moves.{Key, Known}
use Rattle.ipg_mach_count_laws.specs.Counts.{Has}
use Rattle.ipg_mach_count_laws.specs.Kept.{AreAmong, AreSame, AreKnown, keys_of}
use Rattle.ipg_mach_count_laws.specs.Laws.{FreshAtAnyHeight, OneFresh, KeysAreKnown}
use Rattle.ipg_edit_laws.specs.Known.{known_after, KeysAfterAreKnown}
use Rattle.ipg_edit_script.specs.declared.script.Edit.{Edit}
use Rattle.ipg_app_tree.specs.Editing.{Turns, EditsSay, answer_line, counted, words_of, tree_of, kept_behind, kept_by, edited_by, before, edits_said}
use Rattle.ipg_app.specs.Laws.{OneEdits}
use Rattle.ipg_app.proofs.OneParse.{one_answer}

-- ---- sets of keys

joined_left : (keys kept : List Key) (key : Key) → Has keys key → Has (keys ++ kept) key
joined_left [] kept key h = absurd h
joined_left (one ∷ keys) kept key (inl e) = inl e
joined_left (one ∷ keys) kept key (inr h) = inr (joined_left keys kept key h)

joined_right : (keys kept : List Key) (key : Key) → Has kept key → Has (keys ++ kept) key
joined_right [] kept key h = h
joined_right (one ∷ keys) kept key h = inr (joined_right keys kept key h)

either : (keys kept : List Key) (key : Key) → Has (keys ++ kept) key → Has keys key ⊎ Has kept key
either [] kept key h = inr h
either (one ∷ keys) kept key (inl e) = inl (inl e)
either (one ∷ keys) kept key (inr h) = elim (either keys kept key h) [ inl left ↦ inl (inr left) | inr right ↦ inr right ]

joined_among : (keys kept more others : List Key) → AreAmong keys more → AreAmong kept others → AreAmong (keys ++ kept) (more ++ others)
joined_among keys kept more others p q key h = elim (either keys kept key h) [
  | inl left ↦ joined_left more others key (p key left)
  | inr right ↦ joined_right more others key (q key right)
]

joined : (keys kept more others : List Key) → AreSame keys more → AreSame kept others → AreSame (keys ++ kept) (more ++ others)
joined keys kept more others p q = (joined_among keys kept more others p.0 q.0, joined_among more others keys kept p.1 q.1)

-- some answer of each key
abbrev some_known : List Key → Known
some_known [] = []
some_known (key ∷ keys) = (key, Err NoTree) ∷ some_known keys

their_keys : (keys : List Key) → keys_of (some_known keys) ≡ keys
their_keys [] = refl
their_keys (key ∷ keys) = ap (λ l. key ∷ l) (their_keys keys)

known_too : (known : Known) (keys same : List Key) → AreKnown known keys → AreSame keys same → AreKnown known same
known_too known keys same h p key = (λ found. p.0 key ((h key).0 found), λ has. (h key).1 (p.1 key has))

known_same : (known : Known) (keys same : List Key) → AreKnown known keys → AreKnown known same → AreSame keys same
known_same known keys same h k = (λ key has. (k key).0 ((h key).1 has), λ key has. (h key).0 ((k key).1 has))

module _ (are_known : KeysAreKnown) (after : KeysAfterAreKnown) where
  -- the same keys are kept of the same keys
  kept_same : (edit : Edit) (keys same : List Key) → edit.from ≤ edit.to → AreSame keys same → AreSame (kept_by edit keys) (kept_by edit same)
  kept_same edit keys same valid p =
      let known = some_known keys in
      let h : AreKnown known keys = subst (AreKnown known) (their_keys keys) (are_known known) in
      let n = length edit.with in
      known_same (known_after edit.from edit.to n known) (kept_by edit keys) (kept_by edit same) (after edit.from edit.to n known keys valid h)
      (after edit.from edit.to n known same valid (known_too known keys same h p))

  behind_same : (what : Result Tree Stop) (keys kept more others : List Key) → AreSame keys more → AreSame kept others
      → AreSame (kept_behind what keys kept) (kept_behind what more others)
  behind_same (Ok tree) keys kept more others p q = joined keys kept more others p q
  behind_same (Err NoTree) keys kept more others p q = joined keys kept more others p q
  behind_same (Err OutOfRange) keys kept more others p q = (λ key h. h, λ key h. h)
  behind_same (Err Deep) keys kept more others p q = (λ key h. h, λ key h. h)

  module _ (heights : HeightsAgree) (any_height : FreshAtAnyHeight) (one_fresh : OneFresh) (g : Grammar) where
    -- one answer, and one set of keys that have to run
    record IsOneTurn (what other : Result Tree Stop) (keys same : List Key) : Type 0 where
      pub answer : what ≡ other
      pub set : AreSame keys same
      pub number : length keys ≡ length same

    one_turn : (input : List ℕ) (kept others : List Key) (what other : Result Tree Stop) (keys same : List Key) → AreSame kept others
        → Turns g input kept what keys → Turns g input others other same → IsOneTurn what other keys same
    one_turn input kept others what other keys same p t u =
        let settled : den g t.means.height 0 input [] ≢ Err Deep = subst (λ a. a ≢ Err Deep) (sym t.means.is) t.means.settled in
        let there : den g u.means.height 0 input [] ≢ Err Deep = subst (λ a. a ≢ Err Deep) (sym u.means.is) u.means.settled in
        let fresh = any_height g input t.means.height u.means.height kept keys settled there t.fresh in
        let one = one_fresh g input u.means.height kept others keys same p fresh.0 u.fresh in
        record { answer = one_answer heights g input what other t.means u.means; set = one.0; number = one.1 }

    one_line : (k : ℕ) (what other : Result Tree Stop) (keys same : List Key) → IsOneTurn what other keys same
        → answer_line k what keys ≡ answer_line k other same
    one_line k what other keys same one =
        ap (λ a. answer_line k a keys) one.answer ∙ ap (λ n. counted k (words_of other) (min n (2 ^ 64 - 1))) one.number

    say_one : (edits : List Edit) (k : ℕ) (input : List ℕ) (kept others : List Key) (a b : Result (List ℕ) ℕ) → AreSame kept others
        → EditsSay g k input kept edits a → EditsSay g k input others edits b → a ≡ b
    say_one [] k input kept others a b p (what, keys, t, e) (other, same, u, f) =
        let one = one_turn input kept others what other keys same p t u in
        e ∙ ap (λ l. Ok (l ++ tree_of g what)) (one_line k what other keys same one)
        ∙ ap (λ x. Ok (answer_line k other same ++ tree_of g x)) one.answer ∙ sym f
    say_one (edit ∷ edits) k input kept others a b p (what, keys, t, inl (out, e)) (other, same, u, inl (gone, f)) = e ∙ sym f
    say_one (edit ∷ edits) k input kept others a b p (what, keys, t, inl (out, e)) (other, same, u, inr (allows, more)) = absurd (out allows)
    say_one (edit ∷ edits) k input kept others a b p (what, keys, t, inr (allows, more)) (other, same, u, inl (out, e)) = absurd (out allows)
    say_one (edit ∷ edits) k input kept others a b p (what, keys, t, inr (allows, (rest, h, e))) (other, same, u, inr (also, (remains, i, f))) =
        let one = one_turn input kept others what other keys same p t u in
        let behind : AreSame (kept_behind what keys kept) (kept_behind other same others) =
        subst (λ x. AreSame (kept_behind what keys kept) (kept_behind x same others)) one.answer (behind_same what keys kept same others one.set p) in
        let through = kept_same edit (kept_behind what keys kept) (kept_behind other same others) allows.within.valid behind in
        let rests : rest ≡ remains =
        say_one edits (k + 1) (edited_by input edit) (kept_by edit (kept_behind what keys kept)) (kept_by edit (kept_behind other same others))
        rest remains through h i in
        e ∙ ap (λ l. before l rest) (one_line k what other keys same one) ∙ ap (before (answer_line k other same)) rests ∙ sym f

  pub one_edits : HeightsAgree → FreshAtAnyHeight → OneFresh → OneEdits
  one_edits heights any_height one_fresh g input edits one other h k =
      h.is ∙ ap edits_said (say_one heights any_height one_fresh g edits 0 input [] [] h.text k.text (λ key has. has, λ key has. has) h.say k.say) ∙ sym k.is
