-- What a memo holds through an edit is what stays known.
use Rattle.std.proofs.Common.{◌≡◌, ◌≢◌, ℕ, ◌+◌, ◌-◌, ◌≤◌, ◌^◌, refl, sym, ap, ◌∙◌, subst, arith, List, length, Option, Some, None, Result}
use Rattle.std.proofs.Common.{◌⊎◌, inl, inr}
use Rattle.std.specs.FinMap as map
use Rattle.ipg_core.specs.Tree.{Tree}
use Rattle.ipg_core.specs.Run.{Stop}
use Rattle.ipg_core.specs.Within.{TreeWithin}
use Rattle.ipg_mach_moves.specs.Moves as moves
use Rattle.ipg_mach_moves.specs.Moves.{Known, find}
use Rattle.ipg_mach_nodes.specs.Stored.{Stored, Source}
use Rattle.ipg_memo.specs.declared.memo.Key.{Key}
use Rattle.ipg_memo.specs.declared.memo.Entry.{Entry}
use Rattle.ipg_memo.specs.declared.memo.Entry.TheVariants as entry
use Rattle.ipg_memo.specs.Keyed.{Entries}
use Rattle.ipg_memo.specs.Moved.{IsBehind, IsThere, CameFrom, IsMoved, raised}
use Rattle.ipg_mach.specs.Known.{key_of, IsEntryOf, IsKnown}
use Rattle.ipg_edit_laws.specs.Edited.{IsEditOf}
use Rattle.ipg_edit_laws.specs.Laws.{EarlierTreesStay, LaterTreesMove, edited_source}
use Rattle.ipg_edit_laws.specs.Known as laws
use Rattle.ipg_edit_laws.specs.Known.{moved_key, known_after, KnownStays, KnownMoves, NothingElse, OneOrigin}

abbrev Answer : Type 0
Answer = Result Tree Stop

abbrev code_of : moves.Key → Key
code_of key = record { rule = key.rule; from = key.from; to = key.to }

module _ (src : Source) (st : Stored) where
  -- what is known of a key has an entry, and the other way round
  entry_had : (key : Key) (held : Option Entry) (found : Option Answer) (answer : Answer) → found ≡ Some answer → IsEntryOf src st key held found
      → (one : Entry) × (held ≡ Some one)
  entry_had key (Some one) found answer e is = (one, refl)
  entry_had key None None answer e is = absurd (cc)
  entry_had key None (Some other) answer e is = absurd is

  answer_had : (key : Key) (held : Option Entry) (found : Option Answer) (one : Entry) → held ≡ Some one → IsEntryOf src st key held found
      → (answer : Answer) × (found ≡ Some answer)
  answer_had key held (Some answer) one e is = (answer, refl)
  answer_had key None None one e is = absurd (cc)
  answer_had key (Some entry.NoTree) None one e is = absurd is
  answer_had key (Some (entry.Node id)) None one e is = absurd is

module _ (src : Source) (st : Stored) (from to : ℕ) (with : List ℕ) (edit : IsEditOf src.input from to) where
  abbrev there : Source
  there = edited_source src from to with

  early_entry : EarlierTreesStay → (key : Key) (one : Entry) (answer : Answer) → key.from ≤ key.to → key.to ≤ from
      → IsEntryOf src st key (Some one) (Some answer) → IsEntryOf there st key (Some one) (Some answer)
  early_entry stay key entry.NoTree answer ordered early is = is
  early_entry stay key (entry.Node id) answer ordered early is =
      (is.0, is.1, stay src st from to key.from key.to with id is.0 edit ordered early is.3 is.2, is.3)

  late_entry : LaterTreesMove → (key : Key) (one : Entry) (answer : Answer) → key.from ≤ key.to → to ≤ key.from
      → IsEntryOf src st key (Some one) (Some answer) → IsEntryOf there st (raised from to (length with) key) (Some one) (Some answer)
  late_entry move key entry.NoTree answer ordered late is = is
  late_entry move key (entry.Node id) answer ordered late is =
      let valid = edit.valid in
      let long : key.to - key.from ≡ key.to + length with - (to - from) - (key.from + length with - (to - from)) = omega arith in (
        is.0,
        is.1,
        move src st from to key.from key.to with id is.0 edit late ordered is.3 is.2,
        subst (λ n. TreeWithin n is.0) long is.3,
      )

module _ (early : EarlierTreesStay) (late : LaterTreesMove) (stays : KnownStays) (goes : KnownMoves) (only : NothingElse) (one_origin : OneOrigin)
    (src : Source) (st : Stored) (from to : ℕ) (with : List ℕ) (edit : IsEditOf src.input from to) (old new : Entries)
    (is_moved : IsMoved from to (length with) old new) (known : Known) (holds : IsKnown src st (Some old) (Some known))
    (small : length src.input + length with - (to - from) ≤ 2 ^ 30)
    (inside : (key : moves.Key) → find known key ≢ None → (key.from ≤ key.to) × (key.to ≤ length src.input)) where
  later : Known
  later = known_after from to (length with) known

  is_some : (key : moves.Key) (answer : Answer) → find known key ≡ Some answer → find known key ≢ None
  is_some key answer e none = cc

  behind : (key : moves.Key) (answer : Answer) → find known key ≡ Some answer → laws.IsBehind from to key → IsBehind from to (length with) (code_of key)
  behind key answer e b =
      let in_it = inside key (is_some key answer e) in
      let valid = edit.valid in
      let ends = edit.inside in
      let begins = b.begins in
      record { begins = b.begins; ordered = b.ordered; past = b.past; fits = omega (arith, small, in_it.1) }

  -- what was known of a key that moved
  abbrev Origin : moves.Key → Answer → Type 0
  Origin key answer = (was : moves.Key) × laws.IsBehind from to was × (moved_key from to (length with) was ≡ key) × (find known was ≡ Some answer)

  is_there : (key : Key) (one : Entry) → (map.get new key ≡ Some one) ⊎ IsThere from key old new → map.get new key ≢ None
  is_there key one (inl has) none = cc
  is_there key one (inr there) none = let has = there.has in cc

  -- an entry is there where an answer is known
  has_entry_by : (key : Key) (answer : Answer) → ((key.to ≤ from) × (find known (key_of key) ≡ Some answer)) ⊎ Origin (key_of key) answer
      → map.get new key ≢ None
  has_entry_by key answer (inl h) none =
      let had = entry_had src st key (map.get old key) (find known (key_of key)) answer h.1 (holds key) in
      let kept = is_moved.kept key had.0 had.1 h.0 in cc
  has_entry_by key answer (inr h) none =
      let was = code_of h.0 in
      let had = entry_had src st was (map.get old was) (find known h.0) answer h.3 (holds was) in
      is_there (raised from to (length with) was) had.0 (is_moved.moved was had.0 had.1 (behind h.0 answer h.3 h.1))
      (ap (map.get new) (ap code_of h.2) ∙ none)

  has_entry : (key : Key) (answer : Answer) → find later (key_of key) ≡ Some answer → map.get new key ≢ None
  unfolding later
  has_entry key answer e = has_entry_by key answer (only from to (length with) known (key_of key) answer edit.valid e)

  -- what is known of a key that has an entry, which was there before the edit
  stayed : (key : Key) (one : Entry) (answer : Answer) → find known (key_of key) ≡ Some answer → key.to ≤ from → map.get old key ≡ Some one
      → IsEntryOf (edited_source src from to with) st key (Some one) (Some answer)
  stayed key one answer e early_key had =
      let is = subst (λ found. IsEntryOf src st key (Some one) found) e (subst (λ held. IsEntryOf src st key held (find known (key_of key))) had (holds key)) in
      early_entry src st from to with edit early key one answer (inside (key_of key) (is_some (key_of key) answer e)).0 early_key is

  went : (was : Key) (one : Entry) (answer : Answer) → find known (key_of was) ≡ Some answer → was.from ≤ was.to → to ≤ was.from
      → map.get old was ≡ Some one → IsEntryOf (edited_source src from to with) st (raised from to (length with) was) (Some one) (Some answer)
  went was one answer e ordered late_key had =
      let is = subst (λ found. IsEntryOf src st was (Some one) found) e (subst (λ held. IsEntryOf src st was held (find known (key_of was))) had (holds was)) in
      late_entry src st from to with edit late was one answer ordered late_key is

  same_entry : (key : Key) (one other : Entry) → map.get new key ≡ Some one → map.get new key ≡ Some other → other ≡ one
  same_entry key one other first second = cc

  -- an entry of a key that moved, by what is known of it now
  moved_entry_by : (was : Key) (one : Entry) (answer found : Answer) → map.get new (raised from to (length with) was) ≡ Some one
      → map.get old was ≡ Some one → find known (key_of was) ≡ Some answer → IsBehind from to (length with) was
      → (((raised from to (length with) was).to ≤ from) × (find known (key_of (raised from to (length with) was)) ≡ Some found))
      ⊎ Origin (key_of (raised from to (length with) was)) found
      → IsEntryOf (edited_source src from to with) st (raised from to (length with) was) (Some one) (Some found)
  moved_entry_by was one answer found here had e b (inl h) =
      let key = raised from to (length with) was in
      let before = entry_had src st key (map.get old key) (find known (key_of key)) found h.1 (holds key) in
      let same = same_entry key one before.0 here (is_moved.kept key before.0 before.1 h.0) in
      subst (λ o. IsEntryOf (edited_source src from to with) st key (Some o) (Some found)) same (stayed key before.0 found h.1 h.0 before.1)
  moved_entry_by was one answer found here had e b (inr h) =
      let origin = one_origin from to (length with) h.0 (key_of was) edit.valid h.1
      (record { begins = b.begins; ordered = b.ordered; past = b.past }) h.2 in
      went was one found (ap (find known) (sym origin) ∙ h.3) b.ordered b.begins had

  there_is : (key : Key) (found : Option Answer) → find later (key_of key) ≡ found → find later (key_of key) ≢ None
      → (answer : Answer) × (found ≡ Some answer)
  there_is key (Some answer) e some = (answer, refl)
  there_is key None e some = absurd (some e)

  by_entry : (key : Key) (one : Entry) (found : Option Answer) → map.get new key ≡ Some one → find later (key_of key) ≡ found
      → ((key.to ≤ from) × (map.get old key ≡ Some one))
      ⊎ CameFrom from to (length with) key one old
      → IsEntryOf (edited_source src from to with) st key (Some one) found
  unfolding later
  by_entry key one found here e (inl h) =
      let known_of_it = answer_had src st key (map.get old key) (find known (key_of key)) one h.1 (holds key) in
      let now = stays from to (length with) known (key_of key) known_of_it.0 h.0 known_of_it.1 in
      subst (λ f. IsEntryOf (edited_source src from to with) st key (Some one) f) (sym now ∙ e)
      (stayed key one known_of_it.0 known_of_it.1 h.0 h.1)
  by_entry key one found here e (inr h) =
      let was = h.was in
      let b = h.behind in
      let known_of_it = answer_had src st was (map.get old was) (find known (key_of was)) one h.had (holds was) in
      let some = goes from to (length with) known (key_of was) edit.valid (record { begins = b.begins; ordered = b.ordered; past = b.past })
      (is_some (key_of was) known_of_it.0 known_of_it.1) in
      let now = there_is (raised from to (length with) was) _ refl some in
      let is = only from to (length with) known (key_of (raised from to (length with) was)) now.0 edit.valid now.1 in
      let entry_there = moved_entry_by was one known_of_it.0 now.0 (ap (map.get new) h.here ∙ here) h.had known_of_it.1 b is in
      subst (λ f. IsEntryOf (edited_source src from to with) st key (Some one) f) e
      (subst (λ k. IsEntryOf (edited_source src from to with) st k (Some one) (find later (key_of k))) h.here
      (subst (λ f. IsEntryOf (edited_source src from to with) st (raised from to (length with) was) (Some one) f) (sym now.1) entry_there))

  by_case : (key : Key) (held : Option Entry) (found : Option Answer) → map.get new key ≡ held → find later (key_of key) ≡ found
      → IsEntryOf (edited_source src from to with) st key held found
  by_case key None None here e = tt
  by_case key None (Some answer) here e = absurd (has_entry key answer e here)
  by_case key (Some one) found here e = by_entry key one found here e (is_moved.only key one here)

  pub holds_later : IsKnown (edited_source src from to with) st (Some new) (Some (known_after from to (length with) known))
  unfolding later
  holds_later key = by_case key (map.get new key) (find (known_after from to (length with) known) (key_of key)) refl refl
