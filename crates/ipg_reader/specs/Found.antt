-- What a reader finds of bytes: a value and the bytes behind it, or the bytes from the first fault on.
use Rattle.std.specs.Prelude.{◌≡◌, ℕ, ℤ, zero, suc, ◌-◌, List, [], ◌∷◌, length, take, drop, slice_get, Option, Some, None, Result, Ok, Err}
use Rattle.std.specs.Prelude.{nat_lt, if◌then◌else◌}
use Rattle.std.specs.Int.{Width, w64, byte_len, from_le_bytes, cast_signed}
use Rattle.ipg_reader.specs.declared.fault.Halt.{Halt}
use Rattle.ipg_reader.specs.declared.fault.Halt.TheVariants.{Here, Memory}
use Rattle.ipg_reader.specs.declared.fault.Fault.{Fault}
use Rattle.ipg_reader.specs.declared.fault.Fault.TheVariants as fault

abbrev pub Found : Type 0 → Type 0
Found A = Result (A × List ℕ) (List ℕ)

infixl 10 ◌>>=◌
abbrev pub ◌>>=◌ : {A B : Type 0} → Found A → (A × List ℕ → Found B) → Found B
(Ok x) >>= f = f x
(Err left) >>= f = Err left

-- a reader's answer, seen by a view, is what there is to find, unless memory ran out
abbrev pub Shows : {X A : Type 0} → (X → A) → Found A → List ℕ → Result X Halt → Type 0
Shows view found left (Ok x) = found ≡ Ok (view x, left)
Shows view found left (Err Here) = found ≡ Err left
Shows view found left (Err Memory) = Unit {0}

abbrev pub Gives : {A : Type 0} → Found A → List ℕ → Result A Halt → Type 0
Gives found left answer = Shows (λ a. a) found left answer

-- ---- one value

-- a byte that is a place in the table: what stands there
abbrev pub on_tag : {T : Type 0} → Option T → ℕ → List ℕ → Found T
on_tag (Some t) b bytes = Ok (t, bytes)
on_tag None b bytes = Err (b ∷ bytes)

abbrev pub tag_at : {T : Type 0} → List T → List ℕ → Found T
tag_at table [] = Err []
tag_at table (b ∷ bytes) = on_tag (slice_get table b) b bytes

-- so many bytes
abbrev pub bytes_at : ℕ → List ℕ → Found (List ℕ)
bytes_at n bytes = if nat_lt (length bytes) n then Err [] else Ok (take n bytes, drop n bytes)

-- ---- values behind one another

-- a value made of what is read
abbrev pub made : {A B : Type 0} → (A → B) → (List ℕ → Found A) → List ℕ → Found B
made make read bytes = read bytes >>= λ x. Ok (make x.0, x.1)

-- a second one behind the first, which may tell how to read it
abbrev pub chain : {A B : Type 0} → (List ℕ → Found A) → (A → List ℕ → Found B) → List ℕ → Found B
chain first second bytes = first bytes >>= λ x. second x.0 x.1

abbrev pub both : {A B : Type 0} → (List ℕ → Found A) → (List ℕ → Found B) → List ℕ → Found (A × B)
both first second bytes = first bytes >>= λ x. second x.1 >>= λ y. Ok ((x.0, y.0), y.1)

-- so many
abbrev pub items_at : {A : Type 0} → (List ℕ → Found A) → ℕ → List ℕ → Found (List A)
items_at read zero bytes = Ok ([], bytes)
items_at read (suc n) bytes = read bytes >>= λ x. items_at read n x.1 >>= λ xs. Ok (x.0 ∷ xs.0, xs.1)

-- ---- numbers and texts

abbrev pub number_at : Width → List ℕ → Found ℕ
number_at w = made (from_le_bytes w) (bytes_at (byte_len w))

unfoldable pub signed_at : List ℕ → Found ℤ
signed_at = made (cast_signed w64) (number_at w64)

unfoldable pub text_at : List ℕ → Found (List ℕ)
text_at = chain (number_at w64) bytes_at

-- a count, and as many
unfoldable pub list_at : {A : Type 0} → (List ℕ → Found A) → List ℕ → Found (List A)
list_at read = chain (number_at w64) (items_at read)

-- ---- all of the bytes

-- the value, if nothing is left; else how many bytes stand before the first at fault
abbrev pub whole_of : {A : Type 0} → List ℕ → Found A → Result A ℕ
whole_of text (Ok (a, [])) = Ok a
whole_of text (Ok (a, b ∷ left)) = Err (length text - length (b ∷ left))
whole_of text (Err left) = Err (length text - length left)

abbrev pub Ends : {A : Type 0} → Result A ℕ → Result A Fault → Type 0
Ends settled (Ok a) = settled ≡ Ok a
Ends settled (Err (fault.At at)) = settled ≡ Err at
Ends settled (Err fault.Memory) = Unit {0}
