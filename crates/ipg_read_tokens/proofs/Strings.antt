-- A string, item after item.
use Rattle.std.proofs.Common.{◌≡◌, ℕ, zero, suc, ◌+◌, ◌-◌, ◌≤◌, ◌<◌, List, [], ◌∷◌, ◌++◌, Option, Some, None, drop, length, get_or, arith, refl, ap, ◌∙◌, sym}
use Rattle.std.proofs.lemmas.List.{append_assoc, drop-drop}
use Rattle.ipg_read_tokens.proofs.Values.{next_item}
use Rattle.ipg_read_tokens.specs.Lexical.{Quoted, quoted, item, with_item, after_bytes}
use Rattle.ipg_read_tokens.specs.declared.string.Item.TheVariants.{End, Byte, Bad}

pub skip_quoted : (skip : ℕ) (bs : List ℕ) → quoted skip bs ≡ quoted 0 (drop skip bs)
skip_quoted zero bs = refl
skip_quoted (suc k) [] = refl
skip_quoted (suc k) (b ∷ bs) = skip_quoted k bs

-- nothing before it
pub after_none : (o : Option Quoted) → o ≡ after_bytes [] 0 o
after_none (Some q) = ap (λ w. Some (record { bytes = q.bytes; width = w })) (let e : q.width ≡ q.width + 0 = omega arith in e)
after_none None = refl

pub after_both : (bs cs : List ℕ) (m n : ℕ) (o : Option Quoted) → after_bytes bs m (after_bytes cs n o) ≡ after_bytes (bs ++ cs) (m + n) o
after_both bs cs m n (Some q) =
    let widths : q.width + n + m ≡ q.width + (m + n) = omega arith in
    ap (λ t. Some (record { bytes = t; width = q.width + n + m })) (sym (append_assoc bs cs q.bytes))
    ∙ ap (λ w. Some (record { bytes = bs ++ cs ++ q.bytes; width = w })) widths
after_both bs cs m n None = refl

-- one item more
pub quoted_byte : (b c n : ℕ) (bs : List ℕ) → item b bs ≡ Byte c n → quoted 0 (b ∷ bs) ≡ after_bytes (c ∷ []) n (quoted 0 (drop (n - 1) bs))
quoted_byte b c n bs is = ap (λ i. with_item i (λ more. quoted more bs)) is ∙ ap (after_bytes (c ∷ []) n) (skip_quoted (n - 1) bs)

pub quoted_bad : (b : ℕ) (bs : List ℕ) → item b bs ≡ Bad → quoted 0 (b ∷ bs) ≡ None
quoted_bad b bs is = ap (λ i. with_item i (λ more. quoted more bs)) is

pub quoted_end : (b : ℕ) (bs : List ℕ) → item b bs ≡ End → quoted 0 (b ∷ bs) ≡ Some (record { bytes = []; width = 1 })
quoted_end b bs is = ap (λ i. with_item i (λ more. quoted more bs)) is

pub string_step : (after bytes : List ℕ) (at c n : ℕ) → 1 ≤ n → at < length after → item (get_or after at 0) (drop (at + 1) after) ≡ Byte c n
    → quoted 0 after ≡ after_bytes bytes at (quoted 0 (drop at after))
    → quoted 0 after ≡ after_bytes (bytes ++ (c ∷ [])) (at + n) (quoted 0 (drop (at + n) after))
string_step after bytes at c n some within is so_far =
    let count : at + 1 + (n - 1) ≡ at + n = omega arith in
    let rest : drop (n - 1) (drop (at + 1) after) ≡ drop (at + n) after = drop-drop (n - 1) (at + 1) after ∙ ap (λ k. drop k after) count in
    so_far
    ∙ ap (λ xs. after_bytes bytes at (quoted 0 xs)) (next_item after at 0 within)
    ∙ ap (after_bytes bytes at) (quoted_byte (get_or after at 0) c n (drop (at + 1) after) is)
    ∙ after_both bytes (c ∷ []) at n (quoted 0 (drop (n - 1) (drop (at + 1) after)))
    ∙ ap (λ xs. after_bytes (bytes ++ (c ∷ [])) (at + n) (quoted 0 xs)) rest
