-- What a session knows through an edit.
use Rattle.std.proofs.Common.{◌≡◌, ◌≢◌, ℕ, ◌+◌, ◌-◌, ◌≤◌, ◌^◌, refl, sym, ap, ◌∙◌, subst, arith, List, length, Option, Some, None, Result}
use Rattle.std.proofs.Common.{◌⊎◌, inl, inr}
use Rattle.std.specs.FinMap as map
use Rattle.ipg_core.specs.Grammar.{Grammar}
use Rattle.ipg_core.specs.Tree.{Tree}
use Rattle.ipg_core.specs.Run.{Stop}
use Rattle.ipg_mach_moves.specs.Moves.{Key, find}
use Rattle.ipg_mach_count_laws.specs.Counts.{Has}
use Rattle.ipg_mach_count_laws.specs.Kept.{AreKnown}
use Rattle.ipg_memo.specs.declared.memo.Key as code
use Rattle.ipg_memo.specs.declared.memo.Entry.{Entry}
use Rattle.ipg_memo.specs.Keyed.{Entries, key_cmp}
use Rattle.ipg_memo.specs.Moved.{IsMoved}
use Rattle.ipg_table.specs.Rows.{Rows}
use Rattle.ipg_mach.specs.Known.{IsKnown}
use Rattle.ipg_mach.specs.Stage.{source}
use Rattle.ipg_edit_laws.specs.Edited.{edited, IsEditOf}
use Rattle.ipg_edit_laws.specs.Laws.{EarlierTreesStay, LaterTreesMove, EditedLength}
use Rattle.ipg_edit_laws.specs.Known as laws
use Rattle.ipg_edit_laws.specs.Known.{moved_key, known_after, keys_after, KnownStays, KnownMoves, NothingElse, OneOrigin, KeysAfterAreKnown}
use Rattle.ipg_edit_laws.specs.Known.{StaysRightToKnow}
use Rattle.ipg_edit.specs.Session.{Seen, Holding, Knows}
use Rattle.ipg_edit.specs.Edits.{IsAllowed, AreMoved, IsEdited, StaysKnown}
use Rattle.ipg_edit.proofs.Keeping as keeping

-- the laws that an edit stands on
pub record Laws : Type 0 where
  pub early : EarlierTreesStay
  pub late : LaterTreesMove
  pub long : EditedLength
  pub stays : KnownStays
  pub goes : KnownMoves
  pub only : NothingElse
  pub origin : OneOrigin
  pub keys : KeysAfterAreKnown
  pub right : StaysRightToKnow

-- nothing is left of nothing
none : Entries
none = map.empty

has_none : (key : code.Key) (one : Entry) → map.get none key ≡ Some one → ⊥
unfolding none
has_none key one e = let empty : map.get none key ≡ None = map.get-empty key_cmp key in cc

pub nothing_moved : (from to new : ℕ) → (let empty : Entries = map.empty in IsMoved from to new empty empty)
unfolding none
nothing_moved from to new = record {
  kept = λ key one e. absurd (has_none key one e);
  moved = λ key one e. absurd (has_none key one e);
  only = λ key one e. absurd (has_none key one e);
}

-- what is tested of an edit allows it
pub is_allowed : EditedLength → (s with : List ℕ) (from to n : ℕ) → n ≡ length s
    → (from ≤ to) × (to ≤ n) × (n + length with - (to - from) ≤ 2 ^ 30) → IsAllowed s from to with
is_allowed long s with from to n size tests =
    let within : IsEditOf s from to = record { valid = tests.0; inside = let inside = tests.1 in omega (arith, size, inside) } in
    record { within = within; small = let room = tests.2 in let all = long s with from to within in omega (arith, size, room, all) }

pub is_tested : EditedLength → (s with : List ℕ) (from to n : ℕ) → n ≡ length s → IsAllowed s from to with
    → (from ≤ to) × (to ≤ n) × (n + length with - (to - from) ≤ 2 ^ 30)
is_tested long s with from to n size allowed =
    let valid = allowed.within.valid in
    let inside = allowed.within.inside in
    let small = allowed.small in
    let all = long s with from to allowed.within in (valid, omega (arith, size, inside), omega (arith, size, all, small))

module _ (l : Laws) (g : Grammar) (kept : List Key) (t : Rows) (s : List ℕ) (h : Holding) (k : Knows g kept (record { tables = t; input = s; holding = h }))
    (from to : ℕ) (with : List ℕ) (allowed : IsAllowed s from to with) where
  is_kept : (key : Key) → find k.known key ≢ None → Has kept key
  is_kept key some = (k.are key).0 some

  some_of : (key : Key) (answer : Result Tree Stop) → find k.known key ≡ Some answer → find k.known key ≢ None
  some_of key answer e none = cc

  in_input : (key : Key) → find k.known key ≢ None → (key.from ≤ key.to) × (key.to ≤ length s)
  in_input key some = k.inside key (is_kept key some)

  long : length (edited s from to with) ≡ length s + length with - (to - from)
  long = l.long s with from to allowed.within

  inside_by : (key : Key) (answer : Result Tree Stop) → ((key.to ≤ from) × (find k.known key ≡ Some answer))
      ⊎ ((was : Key) × laws.IsBehind from to was × (moved_key from to (length with) was ≡ key) × (find k.known was ≡ Some answer))
      → (key.from ≤ key.to) × (key.to ≤ length (edited s from to with))
  inside_by key answer (inl is) =
      let has = in_input key (some_of key answer is.1) in
      let valid = allowed.within.valid in
      let ends = allowed.within.inside in
      let size = long in
      let early = is.0 in (has.0, omega (arith, size, early, valid, ends))
  inside_by key answer (inr is) =
      let has = in_input is.0 (some_of is.0 answer is.3) in
      let valid = allowed.within.valid in
      let ends = allowed.within.inside in
      let size = long in
      let begins = is.1.begins in
      let ordered = has.0 in
      let within = has.1 in
      subst (λ (k : Key). (k.from ≤ k.to) × (k.to ≤ length (edited s from to with))) is.2
      (omega (arith, valid, begins, ordered), omega (arith, size, valid, begins, ordered, within))

  found_by : (key : Key) (found : Option (Result Tree Stop)) → find (known_after from to (length with) k.known) key ≡ found → found ≢ None
      → (key.from ≤ key.to) × (key.to ≤ length (edited s from to with))
  found_by key None e some = absurd (some refl)
  found_by key (Some answer) e some = inside_by key answer (l.only from to (length with) k.known key answer allowed.within.valid e)

  are_later : AreKnown (known_after from to (length with) k.known) (keys_after from to (length with) kept)
  are_later = l.keys from to (length with) k.known kept allowed.within.valid k.are

  holds_by : (old later : Option Entries) → IsKnown (source t s) h.store old (Some k.known) → AreMoved from to (length with) old later
      → IsKnown (source t (edited s from to with)) h.store later (Some (known_after from to (length with) k.known))
  holds_by (Some old) (Some later) holds moved =
      keeping.holds_later l.early l.late l.stays l.goes l.only l.origin (source t s) h.store from to with allowed.within old later moved k.known holds
      (let size = long in let small = allowed.small in omega (arith, size, small)) in_input
  holds_by (Some old) None holds moved = absurd moved
  holds_by None later holds moved = absurd holds

  pub knows_later : (memo : Option Entries) → AreMoved from to (length with) h.memo memo
      → Knows g (keys_after from to (length with) kept)
      (record { tables = t; input = edited s from to with; holding = record { store = h.store; memo = memo; shown = None } })
  knows_later memo moved = record {
    stand = k.stand;
    good = k.good;
    inside = λ key has. found_by key _ refl ((are_later key).1 has);
    known = known_after from to (length with) k.known;
    are = are_later;
    right = l.right g s with from to k.known allowed.within k.right;
    holds = holds_by h.memo memo k.holds moved;
  }

-- what is put in place of the input and of the entries is what an edit makes of a session
pub is_edited : StaysKnown → (from to : ℕ) (with : List ℕ) (t : Rows) (s : List ℕ) (h : Holding) (lent made later : List ℕ) (memo : Option Entries)
    (held : Holding) → IsAllowed s from to with → lent ≡ s → made ≡ edited lent from to with → later ≡ made
    → AreMoved from to (length with) h.memo memo → held ≡ record { store = h.store; memo = memo; shown = None }
    → IsEdited from to with (record { tables = t; input = s; holding = h }) (record { tables = t; input = later; holding = held })
is_edited law from to with t s h lent made later memo held allowed same is put moved holds =
    let old : Seen = record { tables = t; input = s; holding = h } in
    let new : Seen = record { tables = t; input = edited s from to with; holding = record { store = h.store; memo = memo; shown = None } } in
    let input : later ≡ edited s from to with = put ∙ is ∙ ap (λ x. edited x from to with) same in
    let all : new ≡ record { tables = t; input = later; holding = held } = (λ i. record { tables = t; input = sym input i; holding = sym holds i }) in
    subst (IsEdited from to with old) all (record {
      tables = refl;
      input = refl;
      shown = refl;
      knows = λ grammar kept k. law.knows grammar kept t s h from to with memo k allowed moved;
    })
