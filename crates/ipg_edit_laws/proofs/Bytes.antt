-- The bytes of parts under an edit.
use Rattle.std.proofs.Common.{◌≡◌, ℕ, ◌+◌, ◌-◌, ◌<◌, ◌≤◌, inl, inr, List, [], ◌++◌, length, take, drop, refl, ap, ◌∙◌, sym, arith, length-append}
use Rattle.std.proofs.lemmas.List.{length-take-le, length-drop, take-take, take_at, drop-drop, drop_at, drop-take}
use Rattle.std.proofs.lemmas.Bool.{cases_lt}
use Rattle.ipg_core.specs.Part.{part}
use Rattle.ipg_edit_laws.specs.Edited.{edited, IsEditOf, moved}
use Rattle.ipg_edit_laws.specs.Laws.{EditedLength, EarlierBytesStay, LaterBytesMove}

pub edited_length : EditedLength
edited_length input with from to is =
    let kept : length (take from input) ≡ from = length-take-le from input (let e : from ≤ length input = omega (arith, is.valid, is.inside) in e) in
    let all : length (edited input from to with) ≡ length (take from input) + (length with + length (drop to input)) =
    length-append (take from input) (with ++ drop to input) ∙ ap (λ n. length (take from input) + n) (length-append with (drop to input)) in
    let rest = length-drop to input in
    omega (arith, all, kept, rest, is.valid, is.inside)

-- a part of a part
pub part_in : (s : List ℕ) (at n l r : ℕ) → l ≤ r → r ≤ n → part (part s at (at + n)) l r ≡ part s (at + l) (at + r)
part_in s at n l r valid inside =
    let size : at + n - at ≡ l + (n - l) = omega (arith, valid, inside) in
    let width : r - l ≡ at + r - (at + l) = omega arith in
    ap (λ k. take (r - l) (drop l (take k (drop at s)))) size
    ∙ ap (λ bs. take (r - l) bs) (drop-take l (n - l) (drop at s))
    ∙ take-take (r - l) (n - l) (drop l (drop at s)) (let e : r - l ≤ n - l = omega (arith, inside) in e)
    ∙ ap (λ bs. take (r - l) bs) (drop-drop l at s)
    ∙ ap (λ k. take k (drop (at + l) s)) width

-- what is in the first n bytes, whatever comes after them
part_of_front : (s : List ℕ) (n a b : ℕ) → a ≤ b → b ≤ n → part (take n s) a b ≡ part s a b
part_of_front s n a b valid inside =
    let size : n ≡ a + (n - a) = omega (arith, valid, inside) in
    ap (λ k. take (b - a) (drop a (take k s))) size
    ∙ ap (λ bs. take (b - a) bs) (drop-take a (n - a) s)
    ∙ take-take (b - a) (n - a) (drop a s) (let e : b - a ≤ n - a = omega (arith, inside) in e)

no_bytes : (s : List ℕ) (a b : ℕ) → b ≤ a → part s a b ≡ []
no_bytes s a b less = let none : b - a ≡ 0 = omega (arith, less) in ap (λ k. take k (drop a s)) none

-- parts whose ends are before their beginnings
backward : (s t : List ℕ) (a b c d : ℕ) → b ≤ a → d ≤ c → part s a b ≡ part t c d
backward s t a b c d less also = no_bytes s a b less ∙ sym (no_bytes t c d also)

le_of : {b a : ℕ} → b < a → b ≤ a
le_of less = omega (arith, less)

module _ (input with : List ℕ) (from to : ℕ) (is : IsEditOf input from to) where
  kept : length (take from input) ≡ from
  kept = length-take-le from input (let e : from ≤ length input = omega (arith, is.valid, is.inside) in e)

  -- the bytes before the edit
  front : take from (edited input from to with) ≡ take from input
  front = take_at (take from input) (with ++ drop to input) from kept

  earlier : (a b : ℕ) → a ≤ b → b ≤ from → part (edited input from to with) a b ≡ part input a b
  earlier a b valid before =
      sym (part_of_front (edited input from to with) from a b valid before) ∙ ap (λ bs. part bs a b) front ∙ part_of_front input from a b valid before

  -- the bytes behind it
  back : drop (from + length with) (edited input from to with) ≡ drop to input
  back = sym (drop-drop (length with) from (edited input from to with))
      ∙ ap (λ bs. drop (length with) bs) (drop_at (take from input) (with ++ drop to input) from kept)
      ∙ drop_at with (drop to input) (length with) refl

  later : (a b : ℕ) → to ≤ a → a ≤ b
      → part (edited input from to with) (moved from to (length with) a) (moved from to (length with) b) ≡ part input a b
  later a b behind valid =
      let place : moved from to (length with) a ≡ from + length with + (a - to) = omega (arith, behind, is.valid) in
      let width : moved from to (length with) b - moved from to (length with) a ≡ b - a = omega (arith, behind, valid, is.valid) in
      let first : to + (a - to) ≡ a = omega (arith, behind) in
      ap (λ k. take k (drop (moved from to (length with) a) (edited input from to with))) width
      ∙ ap (λ k. take (b - a) (drop k (edited input from to with))) place
      ∙ ap (λ bs. take (b - a) bs) (sym (drop-drop (a - to) (from + length with) (edited input from to with))
      ∙ ap (λ bs. drop (a - to) bs) back
      ∙ drop-drop (a - to) to input
      ∙ ap (λ k. drop k input) first)

pub earlier_bytes_stay : EarlierBytesStay
earlier_bytes_stay input with from to a b is before = elim (cases_lt b a) [
  | inl less ↦ backward (edited input from to with) input a b a b (le_of less) (le_of less)
  | inr valid ↦ earlier input with from to is a b valid before
]

pub later_bytes_move : LaterBytesMove
later_bytes_move input with from to a b is behind = elim (cases_lt b a) [
  | inl less ↦
      backward (edited input from to with) input (moved from to (length with) a) (moved from to (length with) b) a b
      (let e : moved from to (length with) b ≤ moved from to (length with) a = omega (arith, less) in e) (le_of less)
  | inr valid ↦ later input with from to is a b behind valid
]
