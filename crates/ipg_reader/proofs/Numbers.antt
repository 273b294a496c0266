-- Numbers and texts are read exactly.
use Rattle.std.proofs.Common.{◌≡◌, ℕ, ℤ, pos, negsuc, zero, suc, ◌-◌, ◌^◌, ◌<◌, ◌≤◌, Bool, true, false, cond, ltb, List, [], ◌∷◌, ◌++◌}
use Rattle.std.proofs.Common.{length, get_or, take, drop, Ok, Err, refl, sym, ap, subst, ◌∙◌, append-nil, append_assoc, arith, inl, inr, SFits}
use Rattle.std.specs.Int.{w32, w64, from_le_bytes, to_le_bytes, cast_signed, cast_unsigned}
use Rattle.std.proofs.lemmas.Bool.{cases_lt, ltb-true, ltb-false, le-ltb}
use Rattle.std.proofs.Math.Facts.{to_z-neg}
use Rattle.std.proofs.lemmas.Int.{to_z_pos, of_z-to_z, to_z-of_z}
use Rattle.std.proofs.lemmas.List.{take_at, drop_at, take-append-drop, length-append, length-take}
use Rattle.std.proofs.lemmas.Nat.{le_bytes_4, le_bytes_8, from_le_bytes-to_le_bytes_4, from_le_bytes-to_le_bytes_8}
use Rattle.ipg_reader.specs.Found.{Found, ◌>>=◌, bytes_at, number_at, signed_at, text_at}
use Rattle.ipg_reader.specs.Exact.{AreBytes, IsAnswer, IsSteady, IsExact}
use Rattle.ipg_reader.specs.Laws.{IsShort, IsLong, IsSigned, IsText, short_text, long_text, signed_text, counted_text}
use Rattle.ipg_reader.specs.Laws.{ShortAreExact, LongAreExact, SignedAreExact, TextsAreExact}
use Rattle.ipg_reader.specs.Steadily.{no_error, chained}
use Rattle.ipg_reader.specs.Chains.{same_found, bind_ok, left_are, exact_made}

-- ---- so many bytes

abbrev zeros : ℕ → List ℕ
zeros zero = []
zeros (suc n) = 0 ∷ zeros n

zeros_are : (n : ℕ) → AreBytes (zeros n)
zeros_are zero = tt
zeros_are (suc n) = (omega arith, zeros_are n)

zeros_length : (n : ℕ) → length (zeros n) ≡ n
zeros_length zero = refl
zeros_length (suc n) = ap suc (zeros_length n)

pub bytes_found : (n : ℕ) (xs more : List ℕ) → length xs ≡ n → bytes_at n (xs ++ more) ≡ Ok (xs, more)
bytes_found n xs more size =
    let long : ltb (length (xs ++ more)) n ≡ false = le-ltb _ _ (omega (arith, length-append xs more)) in
    rw (long, take_at xs more n size, drop_at xs more n size) refl

all_found : (n : ℕ) (xs : List ℕ) → length xs ≡ n → bytes_at n xs ≡ Ok (xs, [])
all_found n xs size = ap (bytes_at n) (sym (append-nil xs)) ∙ bytes_found n xs [] size

bytes_answer : (n : ℕ) (bytes : List ℕ) (b : Bool) → ltb (length bytes) n ≡ b
    → IsAnswer (bytes_at n) bytes (cond b (Err []) (Ok (take n bytes, drop n bytes)))
bytes_answer n bytes true short = record {
  taken = bytes;
  splits = sym (append-nil bytes);
  stays = tt;
  others = zeros (n - length bytes);
  are_bytes = zeros_are (n - length bytes);
  value = bytes ++ zeros (n - length bytes);
  found =
      let less : length bytes < n = ltb-true _ _ short in
      all_found n (bytes ++ zeros (n - length bytes))
      (omega (arith, less, length-append bytes (zeros (n - length bytes)), zeros_length (n - length bytes)));
}
bytes_answer n bytes false long =
    let some : n ≤ length bytes = ltb-false _ _ long in
    record {
      taken = take n bytes;
      splits = sym (take-append-drop n bytes);
      again = λ more. bytes_found n (take n bytes) more (omega (arith, some, length-take n bytes));
    }

pub bytes_steadily : (n : ℕ) → IsSteady (bytes_at n)
bytes_steadily n = record {
  each = λ bytes. bytes_answer n bytes (ltb (length bytes) n) refl;
  some = zeros n;
  are_bytes = zeros_are n;
  value = zeros n;
  found = all_found n (zeros n) (zeros_length n);
}

-- so many bytes, as they are
abbrev pub HasSize : ℕ → List ℕ → Type 0
HasSize n xs = (length xs ≡ n) × AreBytes xs

front : (xs ys : List ℕ) → AreBytes (xs ++ ys) → AreBytes xs
front [] ys are = tt
front (x ∷ xs) ys are = (are.0, front xs ys are.1)

bytes_cut : (n : ℕ) (bytes left xs : List ℕ) (b : Bool) → ltb (length bytes) n ≡ b → AreBytes bytes
    → ◌≡◌ {A = Found (List ℕ)} (cond b (Err []) (Ok (take n bytes, drop n bytes))) (Ok (xs, left)) → HasSize n xs × (bytes ≡ xs ++ left)
bytes_cut n bytes left xs true short are e = absurd (no_error [] (xs, left) e)
bytes_cut n bytes left xs false long are e =
    let some : n ≤ length bytes = ltb-false _ _ long in
    subst (λ y. HasSize n y.0 × (bytes ≡ y.0 ++ y.1)) (same_found (take n bytes, drop n bytes) (xs, left) e) (
      (omega (arith, some, length-take n bytes), front (take n bytes) (drop n bytes) (subst AreBytes (sym (take-append-drop n bytes)) are)),
      sym (take-append-drop n bytes),
    )

pub exact_bytes : (n : ℕ) → IsExact (HasSize n) (λ xs. xs) (bytes_at n)
exact_bytes n = record {
  steady = bytes_steadily n;
  sound = λ bytes left xs are e. bytes_cut n bytes left xs (ltb (length bytes) n) refl are e;
  again = λ xs more is. bytes_found n xs more is.0;
}

-- ---- numbers

at : (xs : List ℕ) → AreBytes xs → (i : ℕ) → get_or xs i 0 < 256
at [] are i = omega arith
at (x ∷ xs) are zero = are.0
at (x ∷ xs) are (suc i) = at xs are.1 i

-- the bytes of a number are bytes, and as many
bytes_of_short : (n : ℕ) → n < 2 ^ 32 → HasSize 4 (to_le_bytes w32 n)
bytes_of_short n small = (refl, (omega arith, (omega arith, (omega arith, (omega arith, tt)))))

pub short_exact : ShortAreExact
short_exact = exact_made (from_le_bytes w32) (HasSize 4) IsShort (λ xs. xs) short_text (bytes_at 4) (exact_bytes 4)
    (λ xs is. let fits = at xs is.1 in omega (arith, fits 0, fits 1, fits 2, fits 3))
    (λ xs is. le_bytes_4 xs _ is.0 (at xs is.1) refl)
    (λ n small. (to_le_bytes w32 n, bytes_of_short n small, from_le_bytes-to_le_bytes_4 n small))

bytes_of_long : (n : ℕ) → n < 2 ^ 64 → HasSize 8 (to_le_bytes w64 n)
bytes_of_long n small = (refl, (omega arith, (omega arith, (omega arith, (omega arith, (omega arith, (omega arith, (omega arith, (omega arith, tt)))))))))

pub long_exact : LongAreExact
long_exact = exact_made (from_le_bytes w64) (HasSize 8) IsLong (λ xs. xs) long_text (bytes_at 8) (exact_bytes 8)
    (λ xs is. let fits = at xs is.1 in omega (arith, fits 0, fits 1, fits 2, fits 3, fits 4, fits 5, fits 6, fits 7))
    (λ xs is. le_bytes_8 xs _ is.0 (at xs is.1) refl)
    (λ n small. (to_le_bytes w64 n, bytes_of_long n small, from_le_bytes-to_le_bytes_8 n small))

-- ---- with a sign

signed_is : (n : ℕ) → n < 2 ^ 64 → IsSigned (cast_signed w64 n)
signed_is n small = elim (cases_lt n (2 ^ 63)) [
  | inl low ↦ subst IsSigned (sym (to_z_pos w64 n low)) low
  | inr high ↦
      let k : ℕ = 2 ^ 64 - suc n in
      let under : k < 2 ^ 63 = omega (arith, high, small) in
      let is : n ≡ 2 ^ 64 - suc k = omega (arith, small) in
      subst IsSigned (sym (ap (cast_signed w64) is ∙ to_z-neg w64 k under)) under
]

bits_are : (z : ℤ) → IsSigned z → cast_unsigned w64 z < 2 ^ 64
bits_are (pos n) is = omega (arith, is)
bits_are (negsuc n) is = omega (arith, is)

fits : (z : ℤ) → IsSigned z → SFits w64 z
fits (pos n) is = record { sfits = is }
fits (negsuc n) is = record { sfits = is }

pub signed_exact : SignedAreExact
unfolding signed_at
signed_exact = exact_made (cast_signed w64) IsLong IsSigned long_text signed_text (number_at w64) long_exact
    signed_is
    (λ n small. ap long_text (of_z-to_z w64 n small))
    (λ z is. (cast_unsigned w64 z, bits_are z is, to_z-of_z w64 z (fits z is)))

-- ---- texts

text_sound : (bytes left text : List ℕ) → AreBytes bytes → text_at bytes ≡ Ok (text, left) → IsText text × (bytes ≡ counted_text text ++ left)
unfolding text_at
text_sound bytes left text are e =
    let (n, is, ends) = bind_ok (number_at w64 bytes) (λ n. bytes_at n.0 n.1) (text, left) e in
    let count = long_exact.sound bytes n.1 n.0 are is in
    let told = (exact_bytes n.0).sound n.1 left text (left_are bytes (long_text n.0) n.1 are count.1) ends in
    let size = sym told.0.0 in (
      (subst (λ k. k < 2 ^ 64) size count.0, told.0.1),
      count.1 ∙ ap (λ k. long_text k ++ n.1) size ∙ ap (λ l. long_text (length text) ++ l) told.1
          ∙ sym (append_assoc (long_text (length text)) text left),
    )

text_again : (text more : List ℕ) → IsText text → text_at (counted_text text ++ more) ≡ Ok (text, more)
unfolding text_at
text_again text more is =
    ap (λ w. number_at w64 w >>= λ n. bytes_at n.0 n.1) (append_assoc (long_text (length text)) text more)
    ∙ ap (λ o. o >>= λ n. bytes_at n.0 n.1) (long_exact.again (length text) (text ++ more) is.0)
    ∙ bytes_found (length text) text more refl

text_steadily : IsSteady text_at
unfolding text_at
text_steadily = chained (number_at w64) bytes_at long_exact.steady bytes_steadily

pub texts_exact : TextsAreExact
texts_exact = record { steady = text_steadily; sound = text_sound; again = text_again }
