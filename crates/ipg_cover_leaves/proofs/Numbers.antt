-- A number that was read off bytes is written as these.
use Rattle.std.proofs.Common.{◌≡◌, ◌≢◌, ℕ, zero, suc, ◌^◌, ◌<◌, ◌≤◌, List, [], ◌∷◌, ◌++◌, length, take, Some, None, Bool, true, false}
use Rattle.std.proofs.Common.{pos, get_or, arith, refl, ap, ap₂, sym, ◌∙◌, subst, nat_lt, if◌then◌else◌}
use Rattle.std.specs.Int.{w16, w32, from_le_bytes, from_be_bytes, to_le_bytes, to_be_bytes}
use Rattle.std.proofs.lemmas.Bool.{ltb-false}
use Rattle.std.proofs.lemmas.Nat.{le_bytes_2, le_bytes_4, be_bytes_2, be_bytes_4}
use Rattle.ipg_core.specs.declared.grammar.Primitive.{Primitive}
use Rattle.ipg_core.specs.declared.grammar.Primitive.TheVariants.{U8, U16LE, U16BE, U32LE, U32BE, U64LE, U64BE, Bytes}
use Rattle.ipg_core.specs.Touch.{width}
use Rattle.ipg_core.specs.Meaning.{halves}
use Rattle.ipg_core.specs.Holds.{IsNumber}
use Rattle.ipg_cover_leaves.specs.Bytes.{below, both, written, number_bytes}
use Rattle.ipg_cover_leaves.specs.Laws.{AreBytes}
use Rattle.ipg_cover_leaves.proofs.Places.{one_byte}

small : (bytes : List ℕ) → AreBytes bytes → (i : ℕ) → get_or bytes i 0 < 256
small [] h i = omega arith
small (b ∷ bytes) h zero = h.0
small (b ∷ bytes) h (suc i) = small bytes h.1 i

below_by : (limit n : ℕ) (b : Bool) → nat_lt n limit ≡ b → n < limit → (if b then Some n else None) ≡ Some n
below_by limit n true e less = refl
below_by limit n false e less = absurd (omega (arith, less, ltb-false n limit e))

below_is : (limit n : ℕ) → n < limit → below limit (pos n) ≡ Some n
below_is limit n less = below_by limit n (nat_lt n limit) refl less

-- two bytes and four, below 256
record Two (bytes : List ℕ) : Type 0 where
  pub a : ℕ
  pub b : ℕ
  pub rest : List ℕ
  pub is : bytes ≡ a ∷ b ∷ rest
  pub small : AreBytes (a ∷ b ∷ [])

two : (bytes : List ℕ) → 2 ≤ length bytes → AreBytes bytes → Two bytes
two [] enough h = absurd (omega (arith, enough))
two (a ∷ []) enough h = absurd (omega (arith, enough))
two (a ∷ b ∷ rest) enough h = record { a = a; b = b; rest = rest; is = refl; small = (h.0, (h.1.0, tt)) }

record Four (bytes : List ℕ) : Type 0 where
  pub a : ℕ
  pub b : ℕ
  pub c : ℕ
  pub d : ℕ
  pub rest : List ℕ
  pub is : bytes ≡ a ∷ b ∷ c ∷ d ∷ rest
  pub small : AreBytes (a ∷ b ∷ c ∷ d ∷ [])
  pub more : AreBytes rest

four : (bytes : List ℕ) → 4 ≤ length bytes → AreBytes bytes → Four bytes
four [] enough h = absurd (omega (arith, enough))
four (a ∷ []) enough h = absurd (omega (arith, enough))
four (a ∷ b ∷ []) enough h = absurd (omega (arith, enough))
four (a ∷ b ∷ c ∷ []) enough h = absurd (omega (arith, enough))
four (a ∷ b ∷ c ∷ d ∷ rest) enough h =
    record { a = a; b = b; c = c; d = d; rest = rest; is = refl; small = (h.0, (h.1.0, (h.1.1.0, (h.1.1.1.0, tt)))); more = h.1.1.1.1 }

-- ---- each primitive

abbrev IsWritten : Primitive → List ℕ → Type 0
IsWritten prim bytes = number_bytes prim (pos (halves prim bytes).0) (pos (halves prim bytes).1) ≡ Some (take (width prim) bytes)

one_is : (a : ℕ) (rest : List ℕ) → a < 256 → IsWritten U8 (a ∷ rest)
one_is a rest p = ap₂ (both (written U8)) (below_is 1 0 (omega arith)) (below_is (2 ^ 8) a (omega (arith, p))) ∙ ap Some (sym (one_byte a p))

module _ (a b : ℕ) (rest : List ℕ) (s : AreBytes (a ∷ b ∷ [])) where
  two_le : IsWritten U16LE (a ∷ b ∷ rest)
  two_le =
      let p = s.0 in let q = s.1.0 in
      ap₂ (both (written U16LE)) (below_is 1 0 (omega arith)) (below_is (2 ^ 16) (from_le_bytes w16 (a ∷ b ∷ [])) (omega (arith, p, q)))
      ∙ ap Some (le_bytes_2 (a ∷ b ∷ []) _ refl (small (a ∷ b ∷ []) s) refl)

  two_be : IsWritten U16BE (a ∷ b ∷ rest)
  two_be =
      let p = s.0 in let q = s.1.0 in
      ap₂ (both (written U16BE)) (below_is 1 0 (omega arith)) (below_is (2 ^ 16) (from_be_bytes w16 (a ∷ b ∷ [])) (omega (arith, p, q)))
      ∙ ap Some (be_bytes_2 (a ∷ b ∷ []) _ refl (small (a ∷ b ∷ []) s) refl)

module _ (a b c d : ℕ) (s : AreBytes (a ∷ b ∷ c ∷ d ∷ [])) where
  abbrev these : List ℕ
  these = a ∷ b ∷ c ∷ d ∷ []

  le_less : from_le_bytes w32 these < 2 ^ 32
  le_less = let p = s.0 in let q = s.1.0 in let r = s.1.1.0 in let t = s.1.1.1.0 in omega (arith, p, q, r, t)

  be_less : from_be_bytes w32 these < 2 ^ 32
  be_less = let p = s.0 in let q = s.1.0 in let r = s.1.1.0 in let t = s.1.1.1.0 in omega (arith, p, q, r, t)

  le_back : to_le_bytes w32 (from_le_bytes w32 these) ≡ these
  le_back = le_bytes_4 these _ refl (small these s) refl

  be_back : to_be_bytes w32 (from_be_bytes w32 these) ≡ these
  be_back = be_bytes_4 these _ refl (small these s) refl

  four_le : (rest : List ℕ) → IsWritten U32LE (a ∷ b ∷ c ∷ d ∷ rest)
  four_le rest =
      ap₂ (both (written U32LE)) (below_is 1 0 (omega arith)) (below_is (2 ^ 32) (from_le_bytes w32 these) le_less) ∙ ap Some le_back

  four_be : (rest : List ℕ) → IsWritten U32BE (a ∷ b ∷ c ∷ d ∷ rest)
  four_be rest =
      ap₂ (both (written U32BE)) (below_is 1 0 (omega arith)) (below_is (2 ^ 32) (from_be_bytes w32 these) be_less) ∙ ap Some be_back

module _ (a b c d : ℕ) (s : AreBytes (a ∷ b ∷ c ∷ d ∷ [])) (e f g h : ℕ) (t : AreBytes (e ∷ f ∷ g ∷ h ∷ [])) (rest : List ℕ) where
  eight_le : IsWritten U64LE (a ∷ b ∷ c ∷ d ∷ e ∷ f ∷ g ∷ h ∷ rest)
  eight_le =
      ap₂ (both (written U64LE)) (below_is (2 ^ 32) (from_le_bytes w32 (e ∷ f ∷ g ∷ h ∷ [])) (le_less e f g h t))
      (below_is (2 ^ 32) (from_le_bytes w32 (a ∷ b ∷ c ∷ d ∷ [])) (le_less a b c d s))
      ∙ ap Some (ap₂ (λ xs ys. xs ++ ys) (le_back a b c d s) (le_back e f g h t))

  eight_be : IsWritten U64BE (a ∷ b ∷ c ∷ d ∷ e ∷ f ∷ g ∷ h ∷ rest)
  eight_be =
      ap₂ (both (written U64BE)) (below_is (2 ^ 32) (from_be_bytes w32 (a ∷ b ∷ c ∷ d ∷ [])) (be_less a b c d s))
      (below_is (2 ^ 32) (from_be_bytes w32 (e ∷ f ∷ g ∷ h ∷ [])) (be_less e f g h t))
      ∙ ap Some (ap₂ (λ xs ys. xs ++ ys) (be_back a b c d s) (be_back e f g h t))

enough_more : (bytes : List ℕ) (f : Four bytes) → 8 ≤ length bytes → 4 ≤ length f.rest
enough_more bytes f enough = omega (arith, enough, ap length f.is)

is_written : (prim : Primitive) (bytes : List ℕ) → prim ≢ Bytes → width prim ≤ length bytes → AreBytes bytes → IsWritten prim bytes
is_written U8 [] number enough h = absurd (omega (arith, enough))
is_written U8 (a ∷ rest) number enough h = one_is a rest h.0
is_written U16LE bytes number enough h = let t = two bytes enough h in subst (IsWritten U16LE) (sym t.is) (two_le t.a t.b t.rest t.small)
is_written U16BE bytes number enough h = let t = two bytes enough h in subst (IsWritten U16BE) (sym t.is) (two_be t.a t.b t.rest t.small)
is_written U32LE bytes number enough h = let t = four bytes enough h in subst (IsWritten U32LE) (sym t.is) (four_le t.a t.b t.c t.d t.small t.rest)
is_written U32BE bytes number enough h = let t = four bytes enough h in subst (IsWritten U32BE) (sym t.is) (four_be t.a t.b t.c t.d t.small t.rest)
is_written U64LE bytes number enough h =
    let t = four bytes (omega (arith, enough)) h in let u = four t.rest (enough_more bytes t enough) t.more in
    subst (IsWritten U64LE) (sym (t.is ∙ ap (λ rest. t.a ∷ t.b ∷ t.c ∷ t.d ∷ rest) u.is)) (eight_le t.a t.b t.c t.d t.small u.a u.b u.c u.d u.small u.rest)
is_written U64BE bytes number enough h =
    let t = four bytes (omega (arith, enough)) h in let u = four t.rest (enough_more bytes t enough) t.more in
    subst (IsWritten U64BE) (sym (t.is ∙ ap (λ rest. t.a ∷ t.b ∷ t.c ∷ t.d ∷ rest) u.is)) (eight_be t.a t.b t.c t.d t.small u.a u.b u.c u.d u.small u.rest)
is_written Bytes bytes number enough h = absurd (number refl)

pub read_and_written : (prim : Primitive) (bytes : List ℕ) (high low : ℕ) → IsNumber prim bytes high low → AreBytes bytes
    → number_bytes prim (pos high) (pos low) ≡ Some (take (width prim) bytes)
read_and_written prim bytes high low is h =
    ap₂ (λ (m n : ℕ). number_bytes prim (pos m) (pos n)) (sym is.is_high) (sym is.is_low) ∙ is_written prim bytes is.number is.enough h
