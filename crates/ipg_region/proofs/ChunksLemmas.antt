-- Which chunk holds an item, and how the items of all chunks change with the last one.
use Rattle.std.proofs.Common.{◌≡◌, ℕ, zero, suc, ◌+◌, ◌-◌, ◌*◌, ◌/◌, ◌%◌, ◌<◌, ◌≤◌, List, [], ◌∷◌, ◌++◌, Option, length}
use Rattle.std.proofs.Common.{get_or, take, refl, sym, ◌∙◌, ap, arith, subst, length-append}
use Rattle.std.specs.Prelude.{slice_get}
use Rattle.std.specs.List.{AllByRecursion}
use Rattle.std.proofs.lemmas.List.{append-nil, append_assoc, take-append-le}
use Rattle.ipg_region.specs.Filled.{Filled}
use Rattle.ipg_region.specs.Chunks.{joined, IsFull}
use Rattle.ipg_region.proofs.StackLemmas.{take_over, slice_get-append-left, slice_get_over}

module _ {T : Type 0} where
  -- the items of the last chunk are the last items
  joined_last : (xs : List (Filled T)) (x : Filled T) → joined (xs ++ x ∷ []) ≡ joined xs ++ x.items
  joined_last [] x = append-nil x.items
  joined_last (y ∷ xs) x = ap (λ items. y.items ++ items) (joined_last xs x) ∙ sym (append_assoc y.items (joined xs) x.items)

  pub length_joined : (xs : List (Filled T)) → AllByRecursion IsFull xs → length (joined xs) ≡ length xs * 8192
  length_joined [] h = refl
  length_joined (x ∷ xs) h = omega (arith, length-append x.items (joined xs), h.0, length_joined xs h.1)

  -- how many items there are
  pub counted : (xs : List (Filled T)) (rest items : List T) (n k : ℕ) → AllByRecursion IsFull xs → joined xs ++ rest ≡ items → n ≡ length xs
      → k ≡ length rest → n * 8192 + k ≡ length items
  counted xs rest items n k h is blocks own =
      omega (arith, sym (ap length is), length-append (joined xs) rest, length_joined xs h, blocks, own)

  found_in : (xs : List (Filled T)) (d : Filled T) (k i : ℕ) → AllByRecursion IsFull xs → k < length xs → i < 8192
      → slice_get (joined xs) (k * 8192 + i) ≡ slice_get (get_or xs k d).items i
  found_in [] d k i h lt w = absurd (omega arith)
  found_in (x ∷ xs) d zero i h lt w =
      let at : 0 * 8192 + i ≡ i = omega arith in
      ap (slice_get (x.items ++ joined xs)) at ∙ slice_get-append-left x.items (joined xs) i (omega (arith, h.0))
  found_in (x ∷ xs) d (suc k) i h lt w =
      let at : (suc k * 8192 + i) - length x.items ≡ k * 8192 + i = omega (arith, h.0) in
      slice_get_over x.items (joined xs) (suc k * 8192 + i) (omega (arith, h.0)) ∙ ap (slice_get (joined xs)) at
      ∙ found_in xs d k i h.1 (omega arith) w

  -- the item of a place in a full chunk
  pub found : (xs : List (Filled T)) (chunk : Filled T) (rest : List T) (p b i : ℕ) (answer : Option T) → AllByRecursion IsFull xs → b ≡ p / 8192
      → i ≡ p % 8192 → b < length xs → chunk ≡ get_or xs b chunk → answer ≡ slice_get chunk.items i
      → answer ≡ slice_get (joined xs ++ rest) p
  found xs chunk rest p b i answer h block at within here is =
      let place : b * 8192 + i ≡ p = omega (arith, block, at) in
      let small : i < 8192 = omega (arith, at) in
      let lies : p < length (joined xs) = omega (arith, length_joined xs h, place, small, within) in
      is ∙ ap (λ (c : Filled T). slice_get c.items i) here ∙ sym (found_in xs chunk b i h within small) ∙ ap (slice_get (joined xs)) place
      ∙ sym (slice_get-append-left (joined xs) rest p lies)

  -- and of one in the last chunk
  pub found_last : (xs : List (Filled T)) (rest : List T) (p n : ℕ) (answer : Option T) → AllByRecursion IsFull xs → n ≡ length xs * 8192 → n ≤ p
      → answer ≡ slice_get rest (p - n) → answer ≡ slice_get (joined xs ++ rest) p
  found_last xs rest p n answer h blocks behind is =
      let before : length (joined xs) ≡ n = omega (arith, length_joined xs h, blocks) in
      is ∙ ap (λ m. slice_get rest (p - m)) (sym before) ∙ sym (slice_get_over (joined xs) rest p (omega (arith, before, behind)))

  pub opened : (xs all : List (Filled T)) (last : Filled T) (none : List T) → all ≡ xs ++ last ∷ [] → none ≡ [] → joined all ++ none ≡ joined xs ++ last.items
  opened xs all last none e empty = ap (λ items. joined all ++ items) empty ∙ append-nil (joined all) ∙ ap joined e ∙ joined_last xs last

  all_before : (xs : List (Filled T)) (x : Filled T) → AllByRecursion IsFull (xs ++ x ∷ []) → AllByRecursion IsFull xs
  all_before [] x h = tt
  all_before (y ∷ xs) x h = (h.0, all_before xs x h.1)

  -- the chunks before the last full one are full
  pub full_before : (all xs : List (Filled T)) (x : Filled T) → all ≡ xs ++ x ∷ [] → AllByRecursion IsFull all → AllByRecursion IsFull xs
  full_before all xs x e h = all_before xs x (subst (AllByRecursion IsFull) e h)

  -- a cut before the last chunk does not touch what it holds
  pub cut_before : (all xs : List (Filled T)) (x : Filled T) (rest : List T) (to : ℕ) → all ≡ xs ++ x ∷ [] → AllByRecursion IsFull all
      → to < length all * 8192
      → take to (joined xs ++ x.items) ≡ take to (joined all ++ rest)
  cut_before all xs x rest to e h within =
      ap (take to) (sym (joined_last xs x) ∙ ap joined (sym e))
      ∙ sym (take-append-le to (joined all) rest (omega (arith, length_joined all h, within)))

  -- a cut in the last chunk leaves the full ones alone
  pub cut_last : (xs : List (Filled T)) (last kept : List T) (n to : ℕ) → AllByRecursion IsFull xs → n ≡ length xs * 8192 → n ≤ to
      → kept ≡ take (to - n) last → joined xs ++ kept ≡ take to (joined xs ++ last)
  cut_last xs last kept n to h blocks behind is =
      let before : length (joined xs) ≡ n = omega (arith, length_joined xs h, blocks) in
      ap (λ items. joined xs ++ items) (is ∙ ap (λ m. take (to - m) last) (sym before))
      ∙ sym (take_over (joined xs) last to (omega (arith, before, behind)))
