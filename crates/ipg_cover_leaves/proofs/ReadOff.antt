-- Bytes that are read off the page.
use Rattle.std.proofs.Common.{◌≡◌, ℕ, zero, suc, ◌<◌, ◌≤◌, List, [], ◌∷◌, length, map, take, Option, Some, None, arith, refl, ap, sym, ◌∙◌}
use Rattle.std.specs.Prelude.{slice_get}
use Rattle.std.proofs.lemmas.List.{take_all}
use Rattle.ipg_cover_leaves.specs.Back.{IsGap, IsPut}
use Rattle.ipg_cover_leaves.specs.Page.{Holds, AreBytes}

abbrev Cells : Type 0
Cells = List (Option ℕ)

held : (bytes : List ℕ) (i b : ℕ) → slice_get bytes i ≡ Some b → slice_get (map Some bytes) i ≡ Some (Some b)
held [] i b is = absurd (cc)
held (x ∷ bytes) zero b is = ap Some is
held (x ∷ bytes) (suc i) b is = held bytes i b is

length_held : (bytes : List ℕ) → length (map Some bytes) ≡ length bytes
length_held [] = refl
length_held (x ∷ bytes) = ap suc (length_held bytes)

within_take : (cells : Cells) (n i : ℕ) → i < n → slice_get (take n cells) i ≡ slice_get cells i
within_take [] zero i less = refl
within_take [] (suc n) i less = refl
within_take (x ∷ cells) zero i less = absurd (omega arith)
within_take (x ∷ cells) (suc n) zero less = refl
within_take (x ∷ cells) (suc n) (suc i) less = within_take cells n i (omega arith)

record Byte (bytes : List ℕ) (i : ℕ) : Type 0 where
  byte : ℕ
  there : slice_get bytes i ≡ Some byte

byte_at : (bytes : List ℕ) (i : ℕ) → i < length bytes → Byte bytes i
byte_at [] i less = absurd (omega arith)
byte_at (x ∷ bytes) zero less = record { byte = x; there = refl }
byte_at (x ∷ bytes) (suc i) less = let rest = byte_at bytes i (omega arith) in record { byte = rest.byte; there = rest.there }

length_take : (cells : Cells) (n : ℕ) → n ≤ length cells → length (take n cells) ≡ n
length_take [] zero less = refl
length_take [] (suc n) less = absurd (omega arith)
length_take (x ∷ cells) zero less = refl
length_take (x ∷ cells) (suc n) less = ap suc (length_take cells n (omega arith))

module _ (cells : Cells) (clash : Option ℕ) (all : List (ℕ × ℕ)) (holds : Holds cells clash all) (bytes : List ℕ) (at : ℕ)
    (read : map Some bytes ≡ take at cells) where
  put_before : at ≤ length cells → (place : ℕ) → place < at → IsPut all place
  put_before within place less =
      let one = byte_at bytes place (omega (arith, less, sym (length_held bytes) ∙ ap length read ∙ length_take cells at within)) in (
        one.byte,
        holds.was_put place one.byte
            (sym (within_take cells at place less) ∙ sym (ap (λ these. slice_get these place) read) ∙ held bytes place one.byte one.there),
      )

  pub is_gap : at < length cells → slice_get cells at ≡ Some None → IsGap all (length cells) at
  is_gap less empty = record {
    within = less;
    bare = λ put. let there = holds.is_held at put.0 put.1 in let both = sym empty ∙ there.1 in absurd (cc);
    before = put_before (omega (arith, less));
  }

  pub are_bytes : length cells ≤ at → AreBytes all (length cells) bytes
  are_bytes past =
      let whole = read ∙ take_all at cells past in
      record {
        long = sym (length_held bytes) ∙ ap length whole;
        each = λ place b there. holds.was_put place b (sym (ap (λ these. slice_get these place) whole) ∙ held bytes place b there);
      }
