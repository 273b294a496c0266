-- Which chunk holds an item, and how the items of all chunks change with one of them.
use Rattle.std.proofs.Common.{◌≡◌, ℕ, zero, suc, ◌+◌, ◌*◌, ◌/◌, ◌%◌, ◌<◌, ◌≤◌, List, [], ◌∷◌, ◌++◌, inl}
use Rattle.std.proofs.Common.{inr, length, get_or, refl, sym, ◌∙◌, ap, subst, arith, length-append}
use Rattle.std.specs.Prelude.{None, slice_get, slice_set}
use Rattle.std.proofs.lemmas.List.{append-nil, append_assoc}
use Rattle.std.proofs.lemmas.Option.{slice_get_past, slice_get_within, slice_get_cases}
use Rattle.ipg_memo.specs.Filled.{Filled}
use Rattle.ipg_memo.specs.Chunks.{joined, ArePacked, spare_in}

module _ {X : Type 0} where
  pub get_left : (xs ys : List X) (i : ℕ) → i < length xs → slice_get (xs ++ ys) i ≡ slice_get xs i
  get_left [] ys i lt = absurd (omega arith)
  get_left (x ∷ xs) ys zero lt = refl
  get_left (x ∷ xs) ys (suc i) lt = get_left xs ys i (omega arith)

  pub get_right : (xs ys : List X) (i j : ℕ) → i ≡ length xs + j → slice_get (xs ++ ys) i ≡ slice_get ys j
  get_right [] ys i j e = let at : i ≡ j = omega (arith, e) in ap (slice_get ys) at
  get_right (x ∷ xs) ys zero j e = absurd (omega (arith, e))
  get_right (x ∷ xs) ys (suc i) j e = get_right xs ys i j (omega (arith, e))

  pub set_left : (xs ys : List X) (i : ℕ) (x : X) → i < length xs → slice_set (xs ++ ys) i x ≡ slice_set xs i x ++ ys
  set_left [] ys i x lt = absurd (omega arith)
  set_left (y ∷ xs) ys zero x lt = refl
  set_left (y ∷ xs) ys (suc i) x lt = ap (λ l. y ∷ l) (set_left xs ys i x (omega arith))

  pub set_right : (xs ys : List X) (i j : ℕ) (x : X) → i ≡ length xs + j → slice_set (xs ++ ys) i x ≡ xs ++ slice_set ys j x
  set_right [] ys i j x e = let at : i ≡ j = omega (arith, e) in ap (λ n. slice_set ys n x) at
  set_right (y ∷ xs) ys zero j x e = absurd (omega (arith, e))
  set_right (y ∷ xs) ys (suc i) j x e = ap (λ l. y ∷ l) (set_right xs ys i j x (omega (arith, e)))

module _ {T : Type 0} where
  pub bounded : (xs : List (Filled T)) → ArePacked xs → length (joined xs) ≤ length xs * 8192
  bounded [] h = omega arith
  bounded (x ∷ []) h = omega (arith, length-append x.items [], h)
  bounded (x ∷ y ∷ xs) h = omega (arith, length-append x.items (joined (y ∷ xs)), h.0, bounded (y ∷ xs) h.1)

  found_in : (xs : List (Filled T)) (d : Filled T) (k i : ℕ) → ArePacked xs → k < length xs → i < 8192
      → slice_get (joined xs) (k * 8192 + i) ≡ slice_get (get_or xs k d).items i
  found_in [] d k i h lt w = absurd (omega arith)
  found_in (x ∷ []) d zero i h lt w =
      let at : 0 * 8192 + i ≡ i = omega arith in ap (slice_get (x.items ++ [])) at ∙ ap (λ l. slice_get l i) (append-nil x.items)
  found_in (x ∷ []) d (suc k) i h lt w = absurd (omega arith)
  found_in (x ∷ y ∷ xs) d zero i h lt w =
      let at : 0 * 8192 + i ≡ i = omega arith in
      ap (slice_get (x.items ++ joined (y ∷ xs))) at ∙ get_left x.items (joined (y ∷ xs)) i (omega (arith, h.0))
  found_in (x ∷ y ∷ xs) d (suc k) i h lt w =
      get_right x.items (joined (y ∷ xs)) (suc k * 8192 + i) (k * 8192 + i) (omega (arith, h.0)) ∙ found_in (y ∷ xs) d k i h.1 (omega arith) w

  -- the item of a place
  pub found : (xs : List (Filled T)) (chunk : Filled T) (p : ℕ) → ArePacked xs → p / 8192 < length xs → chunk ≡ get_or xs (p / 8192) chunk
      → slice_get chunk.items (p % 8192) ≡ slice_get (joined xs) p
  found xs chunk p h within here =
      let place : p / 8192 * 8192 + p % 8192 ≡ p = omega arith in
      let small : p % 8192 < 8192 = omega arith in
      ap (λ (c : Filled T). slice_get c.items (p % 8192)) here ∙ sym (found_in xs chunk (p / 8192) (p % 8192) h within small) ∙ ap (slice_get (joined xs)) place

  pub beyond : (xs : List (Filled T)) (p : ℕ) → ArePacked xs → length xs ≤ p / 8192 → None ≡ slice_get (joined xs) p
  beyond xs p h le = sym (slice_get_past (joined xs) p (omega (arith, bounded xs h, le)))

  pub lies : (xs : List (Filled T)) (p : ℕ) → ArePacked xs → p < length (joined xs) → p / 8192 < length xs
  lies xs p h lt = omega (arith, bounded xs h, lt)

  pub lies_in : (xs : List (Filled T)) (chunk : Filled T) (p : ℕ) → ArePacked xs → p < length (joined xs) → chunk ≡ get_or xs (p / 8192) chunk
      → p % 8192 < length chunk.items
  lies_in xs chunk p h lt here = elim (slice_get_cases (joined xs) p).1 [
    | inl some ↦ slice_get_within chunk.items (p % 8192) some.0 (found xs chunk p h (lies xs p h lt) here ∙ some.2)
    | inr past ↦ let le = past.0 in absurd (omega (arith, le, lt))
  ]

  set_in : (xs : List (Filled T)) (d c : Filled T) (k i : ℕ) (item : T) → ArePacked xs → k < length xs → i < length (get_or xs k d).items
      → c.items ≡ slice_set (get_or xs k d).items i item → joined (slice_set xs k c) ≡ slice_set (joined xs) (k * 8192 + i) item
  set_in [] d c k i item h lt w e = absurd (omega arith)
  set_in (x ∷ []) d c zero i item h lt w e =
      let at : i ≡ 0 * 8192 + i = omega arith in
      append-nil c.items ∙ e ∙ ap (λ l. slice_set l i item) (sym (append-nil x.items)) ∙ ap (λ n. slice_set (x.items ++ []) n item) at
  set_in (x ∷ []) d c (suc k) i item h lt w e = absurd (omega arith)
  set_in (x ∷ y ∷ xs) d c zero i item h lt w e =
      let at : i ≡ 0 * 8192 + i = omega arith in
      ap (λ l. l ++ joined (y ∷ xs)) e ∙ sym (set_left x.items (joined (y ∷ xs)) i item w) ∙ ap (λ n. slice_set (x.items ++ joined (y ∷ xs)) n item) at
  set_in (x ∷ y ∷ xs) d c (suc k) i item h lt w e =
      ap (λ l. x.items ++ l) (set_in (y ∷ xs) d c k i item h.1 (omega arith) w e)
      ∙ sym (set_right x.items (joined (y ∷ xs)) (suc k * 8192 + i) (k * 8192 + i) item (omega (arith, h.0)))

  -- one item is another
  pub set_as : (xs : List (Filled T)) (old new : Filled T) (p : ℕ) (item : T) → ArePacked xs → p < length (joined xs) → old ≡ get_or xs (p / 8192) old
      → new.items ≡ slice_set old.items (p % 8192) item → joined (slice_set xs (p / 8192) new) ≡ slice_set (joined xs) p item
  set_as xs old new p item h lt here e =
      let place : p / 8192 * 8192 + p % 8192 ≡ p = omega arith in
      let within = lies_in xs old p h lt here in
      let long = ap (λ (c : Filled T). length c.items) here in
      set_in xs old new (p / 8192) (p % 8192) item h (lies xs p h lt) (omega (arith, within, long))
      (e ∙ ap (λ (c : Filled T). slice_set c.items (p % 8192) item) here)
      ∙ ap (λ n. slice_set (joined xs) n item) place

  packed_in : (xs : List (Filled T)) (d c : Filled T) (k : ℕ) → ArePacked xs → k < length xs → length c.items ≡ length (get_or xs k d).items
      → ArePacked (slice_set xs k c)
  packed_in [] d c k h lt e = absurd (omega arith)
  packed_in (x ∷ []) d c zero h lt e = omega (arith, h, e)
  packed_in (x ∷ []) d c (suc k) h lt e = absurd (omega arith)
  packed_in (x ∷ y ∷ xs) d c zero h lt e = (e ∙ h.0, h.1)
  packed_in (x ∷ y ∷ xs) d c (suc zero) h lt e = (h.0, packed_in (y ∷ xs) d c zero h.1 (omega arith) e)
  packed_in (x ∷ y ∷ xs) d c (suc (suc k)) h lt e = (h.0, packed_in (y ∷ xs) d c (suc k) h.1 (omega arith) e)

  pub packed_as : (xs : List (Filled T)) (old new : Filled T) (k : ℕ) → ArePacked xs → k < length xs → old ≡ get_or xs k old
      → length new.items ≡ length old.items → ArePacked (slice_set xs k new)
  packed_as xs old new k h lt here e = packed_in xs old new k h lt (e ∙ ap (λ (c : Filled T). length c.items) here)

  pushed_in : (xs : List (Filled T)) (d c : Filled T) (k : ℕ) (more : List T) → suc k ≡ length xs → c.items ≡ (get_or xs k d).items ++ more
      → joined (slice_set xs k c) ≡ joined xs ++ more
  pushed_in [] d c k more last e = absurd (omega (arith, last))
  pushed_in (x ∷ []) d c zero more last e = append-nil c.items ∙ e ∙ ap (λ l. l ++ more) (sym (append-nil x.items))
  pushed_in (x ∷ []) d c (suc k) more last e = absurd (omega (arith, last))
  pushed_in (x ∷ y ∷ xs) d c zero more last e = absurd (omega (arith, last))
  pushed_in (x ∷ y ∷ xs) d c (suc k) more last e =
      ap (λ l. x.items ++ l) (pushed_in (y ∷ xs) d c k more (omega (arith, last)) e) ∙ sym (append_assoc x.items (joined (y ∷ xs)) more)

  -- items more in the last chunk
  pub pushed_as : (xs : List (Filled T)) (old new : Filled T) (k : ℕ) (more : List T) → suc k ≡ length xs → old ≡ get_or xs k old
      → new.items ≡ old.items ++ more → joined (slice_set xs k new) ≡ joined xs ++ more
  pushed_as xs old new k more last here e = pushed_in xs old new k more last (e ∙ ap (λ (c : Filled T). c.items ++ more) here)

  pub packed_pushed : (xs : List (Filled T)) (c : Filled T) (k : ℕ) → suc k ≡ length xs → ArePacked xs → length c.items ≤ 8192
      → ArePacked (slice_set xs k c)
  packed_pushed [] c k last h le = absurd (omega (arith, last))
  packed_pushed (x ∷ []) c zero last h le = le
  packed_pushed (x ∷ []) c (suc k) last h le = absurd (omega (arith, last))
  packed_pushed (x ∷ y ∷ xs) c zero last h le = absurd (omega (arith, last))
  packed_pushed (x ∷ y ∷ xs) c (suc zero) last h le = (h.0, packed_pushed (y ∷ xs) c zero (omega (arith, last)) h.1 le)
  packed_pushed (x ∷ y ∷ xs) c (suc (suc k)) last h le = (h.0, packed_pushed (y ∷ xs) c (suc k) (omega (arith, last)) h.1 le)

  last_in : (xs : List (Filled T)) (d : Filled T) (k : ℕ) → suc k ≡ length xs → spare_in xs ≡ (get_or xs k d).spare
  last_in [] d k last = absurd (omega (arith, last))
  last_in (x ∷ []) d zero last = refl
  last_in (x ∷ []) d (suc k) last = absurd (omega (arith, last))
  last_in (x ∷ y ∷ xs) d zero last = absurd (omega (arith, last))
  last_in (x ∷ y ∷ xs) d (suc k) last = last_in (y ∷ xs) d k (omega (arith, last))

  -- the room is that of the last chunk
  pub last_spare : (xs : List (Filled T)) (chunk : Filled T) (k : ℕ) → suc k ≡ length xs → chunk ≡ get_or xs k chunk → spare_in xs ≡ chunk.spare
  last_spare xs chunk k last here = last_in xs chunk k last ∙ sym (ap (λ (c : Filled T). c.spare) here)

  pub none_spare : (xs : List (Filled T)) → length xs ≡ 0 → spare_in xs ≡ 0
  none_spare [] e = refl
  none_spare (x ∷ xs) e = absurd (omega (arith, e))

  pub some_chunk : (xs : List (Filled T)) → 1 ≤ spare_in xs → 1 ≤ length xs
  some_chunk [] h = absurd (omega (arith, h))
  some_chunk (x ∷ xs) h = omega arith

  pub spare_set : (xs : List (Filled T)) (c : Filled T) (k : ℕ) → suc k ≡ length xs → spare_in (slice_set xs k c) ≡ c.spare
  spare_set [] c k last = absurd (omega (arith, last))
  spare_set (x ∷ []) c zero last = refl
  spare_set (x ∷ []) c (suc k) last = absurd (omega (arith, last))
  spare_set (x ∷ y ∷ xs) c zero last = absurd (omega (arith, last))
  spare_set (x ∷ y ∷ xs) c (suc zero) last = spare_set (y ∷ xs) c zero (omega (arith, last))
  spare_set (x ∷ y ∷ xs) c (suc (suc k)) last = spare_set (y ∷ xs) c (suc k) (omega (arith, last))

  -- the last chunk may get more room
  pub grown_joined : (xs : List (Filled T)) (old new : Filled T) (k : ℕ) → suc k ≡ length xs → old ≡ get_or xs k old → new.items ≡ old.items
      → joined (slice_set xs k new) ≡ joined xs
  grown_joined xs old new k last here e = pushed_as xs old new k [] last here (e ∙ sym (append-nil old.items)) ∙ append-nil (joined xs)

  -- the last chunk is full, if there is one
  abbrev pub IsShut : List (Filled T) → Type 0
  IsShut [] = Unit {0}
  IsShut (x ∷ []) = 8192 ≤ length x.items
  IsShut (x ∷ y ∷ xs) = IsShut (y ∷ xs)

  pub shut_none : (xs : List (Filled T)) → length xs ≡ 0 → IsShut xs
  shut_none [] e = tt
  shut_none (x ∷ xs) e = absurd (omega (arith, e))

  shut_in : (xs : List (Filled T)) (d : Filled T) (k : ℕ) → suc k ≡ length xs → 8192 ≤ length (get_or xs k d).items → IsShut xs
  shut_in [] d k last h = absurd (omega (arith, last))
  shut_in (x ∷ []) d zero last h = h
  shut_in (x ∷ []) d (suc k) last h = absurd (omega (arith, last))
  shut_in (x ∷ y ∷ xs) d zero last h = absurd (omega (arith, last))
  shut_in (x ∷ y ∷ xs) d (suc k) last h = shut_in (y ∷ xs) d k (omega (arith, last)) h

  pub shut_last : (xs : List (Filled T)) (chunk : Filled T) (k : ℕ) → suc k ≡ length xs → chunk ≡ get_or xs k chunk → 8192 ≤ length chunk.items → IsShut xs
  shut_last xs chunk k last here h = let long = ap (λ (c : Filled T). length c.items) here in shut_in xs chunk k last (omega (arith, h, long))

  -- a chunk more, without items
  opened_in : (xs : List (Filled T)) (c : Filled T) → c.items ≡ [] → joined (xs ++ c ∷ []) ≡ joined xs
  opened_in [] c e = append-nil c.items ∙ e
  opened_in (x ∷ xs) c e = ap (λ l. x.items ++ l) (opened_in xs c e)

  packed_more : (xs : List (Filled T)) (c : Filled T) → ArePacked xs → IsShut xs → length c.items ≡ 0 → ArePacked (xs ++ c ∷ [])
  packed_more [] c h full e = omega (arith, e)
  packed_more (x ∷ []) c h full e = (omega (arith, h, full), omega (arith, e))
  packed_more (x ∷ y ∷ xs) c h full e = (h.0, packed_more (y ∷ xs) c h.1 full e)

  spare_more : (xs : List (Filled T)) (c : Filled T) → spare_in (xs ++ c ∷ []) ≡ c.spare
  spare_more [] c = refl
  spare_more (x ∷ []) c = refl
  spare_more (x ∷ y ∷ xs) c = spare_more (y ∷ xs) c

  pub opened_as : (xs all : List (Filled T)) (c : Filled T) → all ≡ xs ++ c ∷ [] → c.items ≡ [] → joined all ≡ joined xs
  opened_as xs all c e f = ap joined e ∙ opened_in xs c f

  pub packed_opened : (xs all : List (Filled T)) (c : Filled T) → all ≡ xs ++ c ∷ [] → c.items ≡ [] → ArePacked xs → IsShut xs → ArePacked all
  packed_opened xs all c e f h full = subst ArePacked (sym e) (packed_more xs c h full (ap length f))

  pub spare_opened : (xs all : List (Filled T)) (c : Filled T) → all ≡ xs ++ c ∷ [] → 1 ≤ c.spare → 1 ≤ spare_in all
  spare_opened xs all c e some = let more = ap spare_in e ∙ spare_more xs c in omega (arith, more, some)
