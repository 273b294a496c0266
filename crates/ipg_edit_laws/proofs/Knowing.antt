-- What an edit leaves of answers that are known.
use Rattle.std.proofs.Common.{◌≡◌, ◌≢◌, ℕ, ◌≤◌, refl, sym, ap, ◌∙◌, subst, arith, List, [], ◌∷◌, ◌++◌, length, Option, Some, None, Result, Bool, true}
use Rattle.std.proofs.Common.{false, ◌⊎◌, inl, inr, if◌then◌else◌, ◌&&◌, nat_le}
use Rattle.std.proofs.lemmas.Bool.{and_parts, eqb-true, eq-eqb, leb-true, le-leb}
use Rattle.std.specs.List.{AllByRecursion}
use Rattle.ipg_core.specs.Grammar.{Grammar, rule_at, holder_of}
use Rattle.ipg_core.specs.Part.{part}
use Rattle.ipg_core.specs.Tree.{Tree}
use Rattle.ipg_core.specs.Run.{Stop}
use Rattle.ipg_core.specs.Meaning.{den}
use Rattle.ipg_mach_moves.specs.Moves.{Key, Known, find, same_key}
use Rattle.ipg_mach_moves.specs.Laws.{IsRight}
use Rattle.ipg_edit_laws.specs.Edited.{edited, IsEditOf, moved}
use Rattle.ipg_edit_laws.specs.Laws.{EarlierBytesStay, LaterBytesMove}
use Rattle.ipg_edit_laws.specs.Known.{moved_key, IsBehind, is_behind, that_stay, that_move, known_after, KnownStays, KnownMoves, NothingElse}
use Rattle.ipg_mach_count_laws.specs.Counts.{Has}
use Rattle.ipg_mach_count_laws.specs.Kept.{AreKnown}
use Rattle.ipg_edit_laws.specs.Known.{keys_that_stay, keys_that_move, keys_after, OneOrigin, KeysAfterAreKnown, StaysRightToKnow}

abbrev Answer : Type 0
Answer = Result Tree Stop

-- ---- tests of keys

same_by : (a b : Key) → same_key a b ≡ true → a ≡ b
same_by a b e =
    let outer = and_parts _ _ e in
    let inner = and_parts _ _ outer.0 in
    let rule : a.rule ≡ b.rule = eqb-true _ _ inner.0 in
    let from : a.from ≡ b.from = eqb-true _ _ inner.1 in
    let to : a.to ≡ b.to = eqb-true _ _ outer.1 in
    (λ i. record { rule = rule i; from = from i; to = to i })

same_self : (a : Key) → same_key a a ≡ true
same_self a = (λ i. eq-eqb a.rule a.rule refl i && eq-eqb a.from a.from refl i && eq-eqb a.to a.to refl i)

behind_by : (from to : ℕ) (key : Key) → is_behind from to key ≡ true → IsBehind from to key
behind_by from to key e =
    let outer = and_parts _ _ e in
    let inner = and_parts _ _ outer.0 in
    record { begins = leb-true _ _ inner.0; ordered = leb-true _ _ inner.1; past = leb-true _ _ outer.1 }

is_behind_of : (from to : ℕ) (key : Key) → IsBehind from to key → is_behind from to key ≡ true
is_behind_of from to key h = (λ i. le-leb _ _ h.begins i && le-leb _ _ h.ordered i && le-leb _ _ h.past i)

-- ---- one list behind another

abbrev or_else : Option Answer → Option Answer → Option Answer
or_else (Some a) other = Some a
or_else None other = other

find_by : (b : Bool) (a : Answer) (mine other : Option Answer) → (if b then Some a else or_else mine other) ≡ or_else (if b then Some a else mine) other
find_by true a mine other = refl
find_by false a mine other = refl

find_joined : (xs ys : Known) (key : Key) → find (xs ++ ys) key ≡ or_else (find xs key) (find ys key)
find_joined [] ys key = refl
find_joined (x ∷ xs) ys key =
    ap (λ more. if same_key x.0 key then Some x.1 else more) (find_joined xs ys key) ∙ find_by (same_key x.0 key) x.1 (find xs key) (find ys key)

-- ---- what stays

module _ (from : ℕ) where
  stay_in : (entry : Key × Answer) (known : Known) (key : Key) (b c : Bool) → nat_le entry.0.to from ≡ b → same_key entry.0 key ≡ c → key.to ≤ from
      → find (that_stay from known) key ≡ find known key
      → find (if b then entry ∷ that_stay from known else that_stay from known) key ≡ (if c then Some entry.1 else find known key)
  stay_in entry known key true c e same early h = ap (λ t. if t then Some entry.1 else find (that_stay from known) key) same
      ∙ ap (λ more. if c then Some entry.1 else more) h
  stay_in entry known key false true e same early h =
      let one = same_by entry.0 key same in
      let late = le-leb entry.0.to from (subst (λ (k : Key). k.to ≤ from) (sym one) early) in absurd (cc)
  stay_in entry known key false false e same early h = h

  find_stays : (known : Known) (key : Key) → key.to ≤ from → find (that_stay from known) key ≡ find known key
  find_stays [] key early = refl
  find_stays (entry ∷ known) key early = stay_in entry known key _ _ refl refl early (find_stays known key early)

  stays_only_by : (entry : Key × Answer) (known : Known) (key : Key) (answer : Answer) (b c : Bool) → nat_le entry.0.to from ≡ b → same_key entry.0 key ≡ c
      → find (if b then entry ∷ that_stay from known else that_stay from known) key ≡ Some answer
      → (find (that_stay from known) key ≡ Some answer → key.to ≤ from) → key.to ≤ from
  stays_only_by entry known key answer true true e same is rest = subst (λ (k : Key). k.to ≤ from) (same_by entry.0 key same) (leb-true entry.0.to from e)
  stays_only_by entry known key answer true false e same is rest =
      rest (sym (ap (λ t. if t then Some entry.1 else find (that_stay from known) key) same) ∙ is)
  stays_only_by entry known key answer false c e same is rest = rest is

  stays_only : (known : Known) (key : Key) (answer : Answer) → find (that_stay from known) key ≡ Some answer → key.to ≤ from
  stays_only [] key answer is = absurd (cc)
  stays_only (entry ∷ known) key answer is = stays_only_by entry known key answer _ _ refl refl is (stays_only known key answer)

-- ---- what moves

module _ (from to new : ℕ) (ordered : from ≤ to) where
  one_place : (a b : ℕ) → to ≤ a → to ≤ b → moved from to new a ≡ moved from to new b → a ≡ b
  one_place a b first second e = omega (arith, ordered)

  one_key : (a b : Key) → IsBehind from to a → IsBehind from to b → moved_key from to new a ≡ moved_key from to new b → a ≡ b
  one_key a b ha hb e =
      let begins_a = ha.begins in
      let begins_b = hb.begins in
      let ordered_a = ha.ordered in
      let ordered_b = hb.ordered in
      let rule : a.rule ≡ b.rule = ap (λ (k : Key). k.rule) e in
      let starts : a.from ≡ b.from = one_place a.from b.from begins_a begins_b (ap (λ (k : Key). k.from) e) in
      let ends : a.to ≡ b.to = one_place a.to b.to (omega arith) (omega arith) (ap (λ (k : Key). k.to) e) in
      (λ i. record { rule = rule i; from = starts i; to = ends i })

  move_in : (entry : Key × Answer) (known : Known) (key : Key) (b c d : Bool) → is_behind from to entry.0 ≡ b → same_key entry.0 key ≡ c
      → same_key (moved_key from to new entry.0) (moved_key from to new key) ≡ d → IsBehind from to key
      → find (that_move from to new known) (moved_key from to new key) ≡ find known key
      → find (if b then (moved_key from to new entry.0, entry.1) ∷ that_move from to new known else that_move from to new known) (moved_key from to new key)
      ≡ (if c then Some entry.1 else find known key)
  move_in entry known key true true true e same same_there behind h = ap
      (λ t. if t then Some entry.1 else find (that_move from to new known) (moved_key from to new key)) same_there
  move_in entry known key true true false e same same_there behind h =
      let again = ap (λ k. same_key (moved_key from to new k) (moved_key from to new key)) (same_by entry.0 key same)
      ∙ same_self (moved_key from to new key) in absurd (cc)
  move_in entry known key true false true e same same_there behind h =
      let one = one_key entry.0 key (behind_by from to entry.0 e) behind (same_by _ _ same_there) in
      let again = ap (λ k. same_key k key) one ∙ same_self key in absurd (cc)
  move_in entry known key true false false e same same_there behind h =
      ap (λ t. if t then Some entry.1 else find (that_move from to new known) (moved_key from to new key)) same_there ∙ h
  move_in entry known key false true d e same same_there behind h =
      let one = same_by entry.0 key same in
      let again = ap (is_behind from to) one ∙ is_behind_of from to key behind in absurd (cc)
  move_in entry known key false false d e same same_there behind h = h

  find_moves : (known : Known) (key : Key) → IsBehind from to key → find (that_move from to new known) (moved_key from to new key) ≡ find known key
  find_moves [] key behind = refl
  find_moves (entry ∷ known) key behind = move_in entry known key _ _ _ refl refl refl behind (find_moves known key behind)

  -- what is known of a key among what moves was known of another
  pub record Moved (known : Known) (key : Key) : Type 0 where
    pub was : Key
    pub behind : IsBehind from to was
    pub is : moved_key from to new was ≡ key

  among_by : (entry : Key × Answer) (known : Known) (key : Key) (answer : Answer) (b c : Bool) → is_behind from to entry.0 ≡ b
      → same_key (moved_key from to new entry.0) key ≡ c
      → find (if b then (moved_key from to new entry.0, entry.1) ∷ that_move from to new known else that_move from to new known) key ≡ Some answer
      → (find (that_move from to new known) key ≡ Some answer → Moved known key) → Moved (entry ∷ known) key
  among_by entry known key answer true true e same is rest = record { was = entry.0; behind = behind_by from to entry.0 e; is = same_by _ _ same }
  among_by entry known key answer true false e same is rest =
      let found = rest (sym (ap (λ t. if t then Some entry.1 else find (that_move from to new known) key) same) ∙ is) in
      record { was = found.was; behind = found.behind; is = found.is }
  among_by entry known key answer false c e same is rest =
      let found = rest is in record { was = found.was; behind = found.behind; is = found.is }

  among : (known : Known) (key : Key) (answer : Answer) → find (that_move from to new known) key ≡ Some answer → Moved known key
  among [] key answer is = absurd (cc)
  among (entry ∷ known) key answer is = among_by entry known key answer _ _ refl refl is (among known key answer)

-- ---- laws

pub known_stays : KnownStays
known_stays from to new known key answer early is =
    find_joined (that_stay from known) (that_move from to new known) key
    ∙ ap (λ found. or_else found (find (that_move from to new known) key)) (find_stays from known key early ∙ is)

not_none : (mine other : Option Answer) → other ≢ None → or_else mine other ≢ None
not_none (Some a) other some e = cc
not_none None other some e = some e

pub known_moves : KnownMoves
known_moves from to new known key ordered behind some e =
    not_none (find (that_stay from known) (moved_key from to new key)) (find (that_move from to new known) (moved_key from to new key))
    (λ none. some (sym (find_moves from to new ordered known key behind) ∙ none))
    (sym (find_joined (that_stay from known) (that_move from to new known) (moved_key from to new key)) ∙ e)

else_by : (from to new : ℕ) (known : Known) (key : Key) (answer : Answer) (mine : Option Answer) → from ≤ to → find (that_stay from known) key ≡ mine
    → or_else mine (find (that_move from to new known) key) ≡ Some answer
    → ((key.to ≤ from) × (find known key ≡ Some answer))
    ⊎ ((was : Key) × IsBehind from to was × (moved_key from to new was ≡ key) × (find known was ≡ Some answer))
else_by from to new known key answer (Some one) ordered stays is =
    let early = stays_only from known key one stays in
    inl (early, sym (find_stays from known key early) ∙ stays ∙ is)
else_by from to new known key answer None ordered stays is =
    let found = among from to new ordered known key answer is in
    inr (
      found.was,
      found.behind,
      found.is,
      sym (find_moves from to new ordered known found.was found.behind) ∙ ap (find (that_move from to new known)) found.is ∙ is,
    )

pub nothing_else : NothingElse
nothing_else from to new known key answer ordered is =
    else_by from to new known key answer _ ordered refl (sym (find_joined (that_stay from known) (that_move from to new known) key) ∙ is)

pub one_origin : OneOrigin
one_origin from to new one other ordered first second = one_key from to new ordered one other first second

-- ---- keys

joined_by : (x : Key) (xs ys : List Key) (key : Key) → Has xs key ⊎ Has ys key → Has (x ∷ xs) key ⊎ Has ys key
joined_by x xs ys key (inl h) = inl (inr h)
joined_by x xs ys key (inr h) = inr h

has_joined : (xs ys : List Key) (key : Key) → Has (xs ++ ys) key → Has xs key ⊎ Has ys key
has_joined [] ys key h = inr h
has_joined (x ∷ xs) ys key (inl is) = inl (inl is)
has_joined (x ∷ xs) ys key (inr h) = joined_by x xs ys key (has_joined xs ys key h)

has_first : (xs ys : List Key) (key : Key) → Has xs key → Has (xs ++ ys) key
has_first [] ys key h = absurd h
has_first (x ∷ xs) ys key (inl is) = inl is
has_first (x ∷ xs) ys key (inr h) = inr (has_first xs ys key h)

has_second : (xs ys : List Key) (key : Key) → Has ys key → Has (xs ++ ys) key
has_second [] ys key h = h
has_second (x ∷ xs) ys key h = inr (has_second xs ys key h)

-- what is among those that stay
stay_from_by : (from : ℕ) (one : Key) (keys : List Key) (key : Key) (b : Bool) → nat_le one.to from ≡ b
    → Has (if b then one ∷ keys_that_stay from keys else keys_that_stay from keys) key
    → (Has (keys_that_stay from keys) key → Has keys key × (key.to ≤ from)) → Has (one ∷ keys) key × (key.to ≤ from)
stay_from_by from one keys key true e (inl is) rest = (inl is, subst (λ (k : Key). k.to ≤ from) is (leb-true one.to from e))
stay_from_by from one keys key true e (inr h) rest = let more = rest h in (inr more.0, more.1)
stay_from_by from one keys key false e h rest = let more = rest h in (inr more.0, more.1)

stay_from : (from : ℕ) (keys : List Key) (key : Key) → Has (keys_that_stay from keys) key → Has keys key × (key.to ≤ from)
stay_from from [] key h = absurd h
stay_from from (one ∷ keys) key h = stay_from_by from one keys key _ refl h (stay_from from keys key)

stay_to_by : (from : ℕ) (one : Key) (keys : List Key) (key : Key) (b : Bool) → nat_le one.to from ≡ b → Has (one ∷ keys) key → key.to ≤ from
    → (Has keys key → Has (keys_that_stay from keys) key) → Has (if b then one ∷ keys_that_stay from keys else keys_that_stay from keys) key
stay_to_by from one keys key true e (inl is) early rest = inl is
stay_to_by from one keys key true e (inr h) early rest = inr (rest h)
stay_to_by from one keys key false e (inl is) early rest =
    let late = le-leb one.to from (subst (λ (k : Key). k.to ≤ from) (sym is) early) in absurd (cc)
stay_to_by from one keys key false e (inr h) early rest = rest h

stay_to : (from : ℕ) (keys : List Key) (key : Key) → Has keys key → key.to ≤ from → Has (keys_that_stay from keys) key
stay_to from [] key h early = absurd h
stay_to from (one ∷ keys) key h early = stay_to_by from one keys key _ refl h early (λ more. stay_to from keys key more early)

-- what is among those that move
pub record Origin (from to new : ℕ) (keys : List Key) (key : Key) : Type 0 where
  pub was : Key
  pub had : Has keys was
  pub behind : IsBehind from to was
  pub is : moved_key from to new was ≡ key

move_from_by : (from to new : ℕ) (one : Key) (keys : List Key) (key : Key) (b : Bool) → is_behind from to one ≡ b
    → Has (if b then moved_key from to new one ∷ keys_that_move from to new keys else keys_that_move from to new keys) key
    → (Has (keys_that_move from to new keys) key → Origin from to new keys key) → Origin from to new (one ∷ keys) key
move_from_by from to new one keys key true e (inl is) rest = record { was = one; had = inl refl; behind = behind_by from to one e; is = is }
move_from_by from to new one keys key true e (inr h) rest =
    let more = rest h in record { was = more.was; had = inr more.had; behind = more.behind; is = more.is }
move_from_by from to new one keys key false e h rest =
    let more = rest h in record { was = more.was; had = inr more.had; behind = more.behind; is = more.is }

move_from : (from to new : ℕ) (keys : List Key) (key : Key) → Has (keys_that_move from to new keys) key → Origin from to new keys key
move_from from to new [] key h = absurd h
move_from from to new (one ∷ keys) key h = move_from_by from to new one keys key _ refl h (move_from from to new keys key)

move_to_by : (from to new : ℕ) (one : Key) (keys : List Key) (was : Key) (b : Bool) → is_behind from to one ≡ b → Has (one ∷ keys) was → IsBehind from to was
    → (Has keys was → Has (keys_that_move from to new keys) (moved_key from to new was))
    → Has (if b then moved_key from to new one ∷ keys_that_move from to new keys else keys_that_move from to new keys) (moved_key from to new was)
move_to_by from to new one keys was true e (inl is) behind rest = inl (ap (moved_key from to new) is)
move_to_by from to new one keys was true e (inr h) behind rest = inr (rest h)
move_to_by from to new one keys was false e (inl is) behind rest =
    let again = ap (is_behind from to) is ∙ is_behind_of from to was behind in absurd (cc)
move_to_by from to new one keys was false e (inr h) behind rest = rest h

move_to : (from to new : ℕ) (keys : List Key) (was : Key) → Has keys was → IsBehind from to was
    → Has (keys_that_move from to new keys) (moved_key from to new was)
move_to from to new [] was h behind = absurd h
move_to from to new (one ∷ keys) was h behind = move_to_by from to new one keys was _ refl h behind (λ more. move_to from to new keys was more behind)

-- an answer is known, or none is
answer_by : (found : Option Answer) → found ≢ None → (answer : Answer) × (found ≡ Some answer)
answer_by (Some answer) some = (answer, refl)
answer_by None some = absurd (some refl)

some_by : (found : Option Answer) (answer : Answer) → found ≡ Some answer → found ≢ None
some_by found answer is none = cc

module _ (from to new : ℕ) (known : Known) (kept : List Key) (ordered : from ≤ to) (are : AreKnown known kept) (key : Key) where
  known_by : (answer : Answer) → ((key.to ≤ from) × (find known key ≡ Some answer))
      ⊎ ((was : Key) × IsBehind from to was × (moved_key from to new was ≡ key) × (find known was ≡ Some answer)) → Has (keys_after from to new kept) key
  known_by answer (inl h) =
      has_first (keys_that_stay from kept) _ key (stay_to from kept key ((are key).0 (some_by (find known key) answer h.1)) h.0)
  known_by answer (inr h) =
      has_second (keys_that_stay from kept) (keys_that_move from to new kept) key
      (subst (Has (keys_that_move from to new kept)) h.2 (move_to from to new kept h.0 ((are h.0).0 (some_by (find known h.0) answer h.3)) h.1))

  stayed_by : Has kept key × (key.to ≤ from) → find (known_after from to new known) key ≢ None
  stayed_by h =
      let had = answer_by (find known key) ((are key).1 h.0) in
      some_by _ had.0 (known_stays from to new known key had.0 h.1 had.1)

  moved_by : Origin from to new kept key → find (known_after from to new known) key ≢ None
  moved_by o =
      subst (λ k. find (known_after from to new known) k ≢ None) o.is (known_moves from to new known o.was ordered o.behind ((are o.was).1 o.had))

  kept_by : Has (keys_that_stay from kept) key ⊎ Has (keys_that_move from to new kept) key → find (known_after from to new known) key ≢ None
  kept_by (inl h) = stayed_by (stay_from from kept key h)
  kept_by (inr h) = moved_by (move_from from to new kept key h)

pub keys_after_are_known : KeysAfterAreKnown
keys_after_are_known from to new known kept ordered are key = (
  λ some.
      let had = answer_by (find (known_after from to new known) key) some in
      known_by from to new known kept ordered are key had.0 (nothing_else from to new known key had.0 ordered had.1),
  λ has. kept_by from to new known kept ordered are key (has_joined (keys_that_stay from kept) (keys_that_move from to new kept) key has),
)

-- ---- what is right to know

module _ (g : Grammar) (s t : List ℕ) where
  right_there : (key there : Key) (answer : Answer) → there.rule ≡ key.rule → part t there.from there.to ≡ part s key.from key.to
      → IsRight g s (key, answer) → IsRight g t (there, answer)
  right_there key there answer rule bytes right = record {
    global = subst (λ r. holder_of (rule_at g r) ≡ None) (sym rule) right.global;
    height = right.height;
    is = (λ i. den g right.height (rule i) (bytes i) []) ∙ right.is;
    settled = right.settled;
  }

  all_joined : (xs ys : Known) → AllByRecursion (IsRight g t) xs → AllByRecursion (IsRight g t) ys → AllByRecursion (IsRight g t) (xs ++ ys)
  all_joined [] ys first second = second
  all_joined (x ∷ xs) ys first second = (first.0, all_joined xs ys first.1 second)

module _ (earlier : EarlierBytesStay) (later : LaterBytesMove) (g : Grammar) (input with : List ℕ) (from to : ℕ) (edit : IsEditOf input from to) where
  abbrev there : List ℕ
  there = edited input from to with

  stay_right_by : (entry : Key × Answer) (known : Known) (b : Bool) → nat_le entry.0.to from ≡ b → IsRight g input entry
      → AllByRecursion (IsRight g there) (that_stay from known) → AllByRecursion (IsRight g there)
      (if b then entry ∷ that_stay from known else that_stay from known)
  stay_right_by entry known true e right rest =
      (right_there g input there entry.0 entry.0 entry.1 refl (earlier input with from to entry.0.from entry.0.to edit (leb-true _ _ e)) right, rest)
  stay_right_by entry known false e right rest = rest

  stay_right : (known : Known) → AllByRecursion (IsRight g input) known → AllByRecursion (IsRight g there) (that_stay from known)
  stay_right [] all = tt
  stay_right (entry ∷ known) all = stay_right_by entry known _ refl all.0 (stay_right known all.1)

  move_right_by : (entry : Key × Answer) (known : Known) (b : Bool) → is_behind from to entry.0 ≡ b → IsRight g input entry
      → AllByRecursion (IsRight g there) (that_move from to (length with) known)
      → AllByRecursion (IsRight g there)
      (if b then (moved_key from to (length with) entry.0, entry.1) ∷ that_move from to (length with) known else that_move from to (length with) known)
  move_right_by entry known true e right rest =
      let behind = behind_by from to entry.0 e in (
        right_there g input there entry.0 (moved_key from to (length with) entry.0) entry.1 refl
            (later input with from to entry.0.from entry.0.to edit behind.begins) right,
        rest,
      )
  move_right_by entry known false e right rest = rest

  move_right : (known : Known) → AllByRecursion (IsRight g input) known → AllByRecursion (IsRight g there) (that_move from to (length with) known)
  move_right [] all = tt
  move_right (entry ∷ known) all = move_right_by entry known _ refl all.0 (move_right known all.1)

pub stays_right_to_know : EarlierBytesStay → LaterBytesMove → StaysRightToKnow
stays_right_to_know earlier later g input with from to known edit right =
    all_joined g input (edited input from to with) (that_stay from known) (that_move from to (length with) known)
    (stay_right earlier later g input with from to edit known right) (move_right earlier later g input with from to edit known right)
