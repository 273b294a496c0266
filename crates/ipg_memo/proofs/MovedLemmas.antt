-- Entries are moved one after another.
use Rattle.std.proofs.Common.{◌≡◌, ℕ, ◌+◌, ◌-◌, ◌<◌, ◌≤◌, ◌⊎◌, inl, inr, Bool, true, false, cond, refl, sym, ap, subst, ◌∙◌, arith}
use Rattle.std.specs.Prelude.{Option, None, Some, is_some}
use Rattle.std.specs.FinMap.{get, insert, empty, get-insert, get-empty}
use Rattle.ipg_memo.specs.declared.memo.Key.{Key}
use Rattle.ipg_memo.specs.declared.memo.Entry.{Entry}
use Rattle.ipg_memo.specs.Keyed.{Entries, key_cmp}
use Rattle.ipg_memo.specs.Ways.{same_key}
use Rattle.ipg_memo.specs.Moved.{raised, IsBehind, IsMoved, IsThere, IsThereOrPut, CameFrom}
use Rattle.ipg_memo.proofs.KeyedLemmas.{keys_total, same_test}
use Rattle.ipg_memo.proofs.WayLemmas.{same_self, same_means}
use Rattle.ipg_memo.proofs.RowLemmas.{same_some}

get_of : (m : Entries) (k : Key) (v : Entry) (q : Key) → get (insert m k v) q ≡ cond (same_key q k) (Some v) (get m q)
get_of m k v q = get-insert keys_total m k v q ∙ ap (λ b. cond b (Some v) (get m q)) (same_test q k)

get_here : (m : Entries) (k : Key) (v : Entry) → get (insert m k v) k ≡ Some v
get_here m k v = get_of m k v k ∙ ap (λ b. cond b (Some v) (get m k)) (same_self k)

get_other : (m : Entries) (k : Key) (v : Entry) (q : Key) → (q ≡ k → ⊥) → get (insert m k v) q ≡ get m q
get_other m k v q ne = get_of m k v q ∙ by (same_key q k) refl where
  by : (b : Bool) → same_key q k ≡ b → cond b (Some v) (get m q) ≡ get m q
  by true e = absurd (ne (same_means q k e))
  by false e = refl

inserted : (m : Entries) (k : Key) (v : Entry) (q : Key) (x : Entry) → get (insert m k v) q ≡ Some x
    → ((q ≡ k) × (v ≡ x)) ⊎ ((q ≡ k → ⊥) × (get m q ≡ Some x))
inserted m k v q x h = by (same_key q k) refl (sym (get_of m k v q) ∙ h) where
  by : (b : Bool) → same_key q k ≡ b → cond b (Some v) (get m q) ≡ Some x → ((q ≡ k) × (v ≡ x)) ⊎ ((q ≡ k → ⊥) × (get m q ≡ Some x))
  by true e f = inl (same_means q k e, same_some v x f)
  by false e f = inr ((λ g. let yes = ap (λ (p : Key). same_key p k) g ∙ same_self k in absurd (cc)), f)

same_or : (q k : Key) → (q ≡ k) ⊎ (q ≡ k → ⊥)
same_or q k = by (same_key q k) refl where
  by : (b : Bool) → same_key q k ≡ b → (q ≡ k) ⊎ (q ≡ k → ⊥)
  by true e = inl (same_means q k e)
  by false e = inr (λ g. let yes = ap (λ (p : Key). same_key p k) g ∙ same_self k in absurd (cc))

-- a key that a map has no entry of is none that it has one of
has_differs : (m : Entries) (k q : Key) (x : Entry) → get m k ≡ None → get m q ≡ Some x → q ≡ k → ⊥
has_differs m k q x none some e = let f = sym (ap (get m) e) ∙ some in absurd (cc)

module _ (from to with : ℕ) (old new : Entries) (key : Key) (entry : Entry) (fresh : get old key ≡ None) (is : IsMoved from to with old new) where
  -- an entry that came from another key came from it still
  still_came : (q : Key) (x : Entry) → CameFrom from to with q x old → CameFrom from to with q x (insert old key entry)
  still_came q x c = record {
    was = c.was;
    behind = c.behind;
    here = c.here;
    had = get_other old key entry c.was (has_differs old key c.was x fresh c.had) ∙ c.had;
  }

  -- the entry stays, as its key ends before the edit
  pub keeps_one : key.to ≤ from → IsMoved from to with (insert old key entry) (insert new key entry)
  keeps_one ends = record {
    kept = λ q x h le. elim (inserted old key entry q x h) [
      | inl s ↦ ap (get (insert new key entry)) s.0 ∙ get_here new key entry ∙ ap Some s.1
      | inr o ↦ get_other new key entry q o.0 ∙ is.kept q x o.1 le
    ];
    moved = λ q x h b. elim (inserted old key entry q x h) [
      | inl s ↦ let e : q.to ≡ key.to = ap (λ (k : Key). k.to) s.0 in let past = b.past in absurd (omega (arith, e, ends, past))
      | inr o ↦ elim (is.moved q x o.1 b) [
        | inl m ↦ elim (same_or (raised from to with q) key) [
          | inl s ↦ inr (record {
            ends = subst (λ (k : Key). k.to ≤ from) (sym s) ends;
            entry = entry;
            had = ap (get (insert old key entry)) s ∙ get_here old key entry;
            has = ap (get (insert new key entry)) s ∙ get_here new key entry;
          })
          | inr ne ↦ inl (get_other new key entry (raised from to with q) ne ∙ m)
        ]
        | inr t ↦ let ne = has_differs old key (raised from to with q) t.entry fresh t.had in inr (record {
          ends = t.ends;
          entry = t.entry;
          had = get_other old key entry (raised from to with q) ne ∙ t.had;
          has = get_other new key entry (raised from to with q) ne ∙ t.has;
        })
      ]
    ];
    only = λ q x h. elim (inserted new key entry q x h) [
      | inl s ↦ inl (subst (λ (k : Key). k.to ≤ from) (sym s.0) ends, ap (get (insert old key entry)) s.0 ∙ get_here old key entry ∙ ap Some s.1)
      | inr o ↦ elim (is.only q x o.1) [
        | inl k ↦ inl (k.0, get_other old key entry q o.0 ∙ k.1)
        | inr c ↦ inr (still_came q x c)
      ]
    ];
  }

  -- the entry moves, to where the new map has none
  pub moves_one : IsBehind from to with key → get new (raised from to with key) ≡ None
      → IsMoved from to with (insert old key entry) (insert new (raised from to with key) entry)
  moves_one behind free = record {
    kept = λ q x h le. elim (inserted old key entry q x h) [
      | inl s ↦ let e : q.to ≡ key.to = ap (λ (k : Key). k.to) s.0 in let past = behind.past in absurd (omega (arith, e, past, le))
      | inr o ↦ let m = is.kept q x o.1 le in get_other new at entry q (has_differs new at q x free m) ∙ m
    ];
    moved = λ q x h b. elim (inserted old key entry q x h) [
      | inl s ↦ inl (ap (λ (k : Key). get (insert new at entry) (raised from to with k)) s.0 ∙ get_here new at entry ∙ ap Some s.1)
      | inr o ↦ elim (is.moved q x o.1 b) [
        | inl m ↦ inl (get_other new at entry (raised from to with q) (has_differs new at (raised from to with q) x free m) ∙ m)
        | inr t ↦ inr (record {
          ends = t.ends;
          entry = t.entry;
          had = get_other old key entry (raised from to with q) (has_differs old key (raised from to with q) t.entry fresh t.had) ∙ t.had;
          has = get_other new at entry (raised from to with q) (has_differs new at (raised from to with q) t.entry free t.has) ∙ t.has;
        })
      ]
    ];
    only = λ q x h. elim (inserted new at entry q x h) [
      | inl s ↦ inr (record {
        was = key;
        behind = behind;
        here = sym s.0;
        had = get_here old key entry ∙ ap Some s.1;
      })
      | inr o ↦ elim (is.only q x o.1) [
        | inl k ↦ inl (k.0, get_other old key entry q (has_differs old key q x fresh k.1) ∙ k.1)
        | inr c ↦ inr (still_came q x c)
      ]
    ];
  } where
    at : Key
    at = raised from to with key

  -- the new map stays: the entry lies across the edit, or its key has one at its new place
  pub leaves_one : from < key.to → (IsBehind from to with key → IsThere from (raised from to with key) old new)
      → IsMoved from to with (insert old key entry) new
  leaves_one past there = record {
    kept = λ q x h le. elim (inserted old key entry q x h) [
      | inl s ↦ let e : q.to ≡ key.to = ap (λ (k : Key). k.to) s.0 in absurd (omega (arith, e, past, le))
      | inr o ↦ is.kept q x o.1 le
    ];
    moved = λ q x h b. elim (inserted old key entry q x h) [
      | inl s ↦ inr (subst (λ (k : Key). IsThere from (raised from to with k) (insert old key entry) new) (sym s.0)
          (still_there (raised from to with key) (there (subst (IsBehind from to with) s.0 b))))
      | inr o ↦ elim (is.moved q x o.1 b) [
        | inl m ↦ inl m
        | inr t ↦ inr (still_there (raised from to with q) t)
      ]
    ];
    only = λ q x h. elim (is.only q x h) [
      | inl k ↦ inl (k.0, get_other old key entry q (has_differs old key q x fresh k.1) ∙ k.1)
      | inr c ↦ inr (still_came q x c)
    ];
  } where
    still_there : (q : Key) → IsThere from q old new → IsThere from q (insert old key entry) new
    still_there q t = record {
      ends = t.ends;
      entry = t.entry;
      had = get_other old key entry q (has_differs old key q t.entry fresh t.had) ∙ t.had;
      has = t.has;
    }

  -- where the new map has an entry of the raised key, it is one that was kept
  pub there_by : from ≤ to → IsBehind from to with key → (x : Entry) → get new (raised from to with key) ≡ Some x
      → IsThere from (raised from to with key) old new
  there_by ordered behind x has = elim (is.only (raised from to with key) x has) [
    | inl k ↦ record { ends = k.0; entry = x; had = k.1; has = has }
    | inr c ↦ absurd (has_differs old key c.was x fresh c.had
        (same_raised c.was key c.behind.begins behind.begins c.behind.ordered behind.ordered ordered c.here))
  ] where
    same_raised : (a b : Key) → to ≤ a.from → to ≤ b.from → a.from ≤ a.to → b.from ≤ b.to → from ≤ to → raised from to with a ≡ raised from to with b → a ≡ b
    same_raised a b h k l m n e =
        let r : a.rule ≡ b.rule = ap (λ (k : Key). k.rule) e in
        let f : a.from + with - (to - from) ≡ b.from + with - (to - from) = ap (λ (k : Key). k.from) e in
        let t : a.to + with - (to - from) ≡ b.to + with - (to - from) = ap (λ (k : Key). k.to) e in
        let ff : a.from ≡ b.from = omega (arith, f, h, k, n) in
        let tt' : a.to ≡ b.to = omega (arith, t, h, k, l, m, n) in
        λ i. record { rule = r i; from = ff i; to = tt' i }

  -- so where it is put unless it is there
  pub put_or_left : from ≤ to → from < key.to → IsBehind from to with key → (later : Entries) → IsThereOrPut (raised from to with key) entry new later
      → IsMoved from to with (insert old key entry) later
  put_or_left ordered past behind later (inl is_there) =
      subst (IsMoved from to with (insert old key entry)) (sym is_there.1)
      (leaves_one past (λ b. there_by ordered b is_there.0.0 is_there.0.1))
  put_or_left ordered past behind later (inr free) = subst (IsMoved from to with (insert old key entry)) (sym free.1) (moves_one behind free.0)

-- no entries move to none
pub none_moved : (from to with : ℕ) → IsMoved from to with empty empty
none_moved from to with = record {
  kept = λ q x h le. h;
  moved = λ q x h b. absurd (none_in q x h);
  only = λ q x h. absurd (none_in q x h);
} where
  none_in : (q : Key) (x : Entry) → get {R = key_cmp} empty q ≡ Some x → ⊥
  none_in q x h = let e = sym (get-empty key_cmp q) ∙ h in absurd (cc)

pub some_from : (o : Option Entry) → is_some o ≡ true → (x : Entry) × (o ≡ Some x)
some_from None e = absurd (cc)
some_from (Some x) e = (x, refl)

pub none_from : (o : Option Entry) → is_some o ≡ false → o ≡ None
none_from None e = refl
none_from (Some x) e = absurd (cc)
