-- The classes of bytes are apart: what a byte of one class begins.
use Rattle.std.proofs.Common.{◌≡◌, ℕ, Bool, true, false, ◌&&◌, List, [], ◌∷◌, Option, Some, None, refl, ap, ◌∙◌, arith, sym, true≢false, ◌⊎◌}
use Rattle.std.specs.Prelude.{◌==◌, bytes_eq, if◌then◌else◌}
use Rattle.std.proofs.lemmas.Slice.Eq.{bytes_eq-Decides}
use Rattle.std.proofs.lemmas.Bool.Decides.{nat_tests}
use Rattle.ipg_ast.specs.Canonical.{spelling}
use Rattle.ipg_ast.specs.declared.token.Reserved.{Reserved}
use Rattle.ipg_ast.specs.declared.token.Reserved.TheVariants as reserved
use Rattle.ipg_ast.specs.declared.token.TokenKind.{TokenKind}
use Rattle.ipg_ast.specs.declared.token.TokenKind.TheVariants.{Name, Word}
use Rattle.ipg_read_tokens.specs.declared.front.Front.TheVariants.{Blank}
use Rattle.ipg_read_tokens.specs.declared.class.Class.TheVariants.{White, Naming}
use Rattle.ipg_read_tokens.specs.Lexical.{in_class, run, is_white, is_letter, is_digit, is_prefixed, is_single, is_pair}
use Rattle.ipg_read_tokens.specs.Lexical.{front_at, name_front, number_front, symbol_front, reserved as all_reserved, reserved_of, spelled, word, word_or}
use Rattle.ipg_read_tokens.specs.Shaped.{is_free, is_name}

pub both : (a b : Bool) → (a && b) ≡ true → (a ≡ true) × (b ≡ true)
both true b e = (refl, e)
both false b e = absurd (true≢false (sym e))

pub choose : {A : Type 0} (P : A → Type 0) (c : Bool) (x y : A) → (c ≡ true → P x) → (c ≡ false → P y) → P (if c then x else y)
choose P c x y f g =
    (elim c as (λ v. (v ≡ true → P x) → (v ≡ false → P y) → P (if v then x else y)) [ true ↦ λ h k. h refl | false ↦ λ h k. k refl ]) f g

pub white_front : (b : ℕ) (bs : List ℕ) → is_white b ≡ true → front_at b bs ≡ Blank (run White (b ∷ bs))
white_front b bs white = rw white refl

pub letter_front : (b : ℕ) (bs : List ℕ) → is_letter b ≡ true → front_at b bs ≡ name_front (b ∷ bs)
letter_front b bs e =
    let white : is_white b ≡ false = grind (arith, nat_tests) in
    let comment : (b == 35) ≡ false = grind (arith, nat_tests) in
    rw (white, comment, e) refl

pub digit_front : (b : ℕ) (bs : List ℕ) → is_digit b ≡ true → front_at b bs ≡ number_front (b ∷ bs)
digit_front b bs e =
    let white : is_white b ≡ false = grind (arith, nat_tests) in
    let comment : (b == 35) ≡ false = grind (arith, nat_tests) in
    let letter : is_letter b ≡ false = grind (arith, nat_tests) in
    rw (white, comment, letter, e) refl

pub single_front_at : (b : ℕ) (bs : List ℕ) → is_single b ≡ true → front_at b bs ≡ symbol_front b bs
single_front_at b bs e =
    let white : is_white b ≡ false = grind (arith, nat_tests) in
    let comment : (b == 35) ≡ false = grind (arith, nat_tests) in
    let letter : is_letter b ≡ false = grind (arith, nat_tests) in
    let digit : is_digit b ≡ false = grind (arith, nat_tests) in
    let quote : (b == 34) ≡ false = grind (arith, nat_tests) in
    rw (white, comment, letter, digit, quote) refl

pub pair_single : (a b : ℕ) → is_pair a b ≡ true → is_single a ≡ true
pair_single a b e = grind (arith, nat_tests)

pub no_pair : (a b : ℕ) → (b ≡ 32 ⊎ b ≡ 10) → is_pair a b ≡ false
no_pair a b e = grind (arith, nat_tests)

pub gap_naming : (b : ℕ) → (b ≡ 32 ⊎ b ≡ 10) → in_class Naming b ≡ false
gap_naming b e = grind (arith, nat_tests)

-- ---- reserved words

pub word_named : (w : Reserved) → is_name (spelling w) ≡ true
word_named reserved.For = refl
word_named reserved.To = refl
word_named reserved.Do = refl
word_named reserved.Switch = refl
word_named reserved.Case = refl
word_named reserved.Else = refl
word_named reserved.Where = refl
word_named reserved.Start = refl
word_named reserved.End = refl
word_named reserved.Eoi = refl
word_named reserved.Tok = refl
word_named reserved.Many = refl

pub word_spelled : (w : Reserved) → word (spelling w) ≡ Word w
word_spelled reserved.For = refl
word_spelled reserved.To = refl
word_spelled reserved.Do = refl
word_spelled reserved.Switch = refl
word_spelled reserved.Case = refl
word_spelled reserved.Else = refl
word_spelled reserved.Where = refl
word_spelled reserved.Start = refl
word_spelled reserved.End = refl
word_spelled reserved.Eoi = refl
word_spelled reserved.Tok = refl
word_spelled reserved.Many = refl

spelled_so : (ws : List Reserved) (name : List ℕ) (w : Reserved) → spelled ws name ≡ Some w → name ≡ spelling w
spelled_so [] name w e = absurd (cc)
spelled_so (x ∷ ws) name w e =
    choose (λ o. o ≡ Some w → name ≡ spelling w) (bytes_eq name (spelling x)) (Some x) (spelled ws name)
    (λ is e. (bytes_eq-Decides name (spelling x)).0 is ∙ ap spelling (let same : x ≡ w = cc in same)) (λ no e. spelled_so ws name w e) e

-- what a name stands for
pub name_or_word : (name : List ℕ) (P : TokenKind → Type 0) → (is_free (reserved_of name) ≡ true → P (Name name))
    → ((w : Reserved) → name ≡ spelling w → P (Word w)) → P (word name)
name_or_word name P free taken = by (reserved_of name) refl
  where
    by : (o : Option Reserved) → reserved_of name ≡ o → P (word_or o name)
    by None e = free (ap is_free e)
    by (Some w) e = taken w (spelled_so all_reserved name w e)

pub free_name : (name : List ℕ) → is_free (reserved_of name) ≡ true → word name ≡ Name name
free_name name free = by (reserved_of name) free
  where
    by : (o : Option Reserved) → is_free o ≡ true → word_or o name ≡ Name name
    by None free = refl
    by (Some w) free = absurd (true≢false (sym free))

pub no_mark : (a b : ℕ) (bs : List ℕ) → (b == 120) ≡ false → is_prefixed (a ∷ b ∷ bs) ≡ false
no_mark a b [] e = refl
no_mark a b (c ∷ bs) e = grind (arith, nat_tests)

pub not_mark : (b : ℕ) → is_digit b ≡ true → (b == 120) ≡ false
not_mark b digit = grind (arith, nat_tests)
