-- Leaves of a tree agree, and answers are one.
use Rattle.std.proofs.Common.{◌≡◌, ℕ, zero, suc, ◌<◌, List, [], ◌∷◌, length, Some, ◌⊎◌, inl, inr, arith, refl, ap, sym, ◌∙◌, subst, get_or}
use Rattle.std.specs.Prelude.{slice_get}
use Rattle.std.specs.List.{All, AllByRecursion, Contains}
use Rattle.std.proofs.lemmas.Option.{slice_get_within, slice_get-get_or, get_or_from_slice_get}
use Rattle.ipg_cover_leaves.specs.declared.leaf.Leaf.{Leaf}
use Rattle.ipg_cover_leaves.specs.declared.fault.PutFault.{PutFault}
use Rattle.ipg_cover_leaves.specs.declared.fault.PutFault.TheVariants.{Value, Outside, Clash, Gap, Memory}
use Rattle.ipg_cover_leaves.specs.Bytes.{puts}
use Rattle.ipg_cover_leaves.specs.Back.{HasBytes, IsInside, IsFirstNot, Agrees, IsPut, IsClash, IsGap, Agree, IsBack, IsPutFault}
use Rattle.ipg_cover_leaves.specs.Leaves.{leaves_of}
use Rattle.ipg_cover_leaves.specs.Laws.{LeavesAgree, InputComesBack, AnswersAreOne}
use Rattle.ipg_cover_leaves.proofs.Sitting.{IsOf, leaf_sits, leaves_sit, leaves_are_of}

all_of : (P Q : Leaf → Type 0) → ((leaf : Leaf) → P leaf → Q leaf) → (leaves : List Leaf) → AllByRecursion P leaves → All Q leaves
all_of P Q go [] h k d less = absurd (omega (arith, less))
all_of P Q go (leaf ∷ leaves) h zero d less = go leaf h.0
all_of P Q go (leaf ∷ leaves) h (suc k) d less = all_of P Q go leaves h.1 k d (omega (arith, less))

same_lists : (xs ys : List ℕ) → length xs ≡ length ys → ((i b : ℕ) → slice_get xs i ≡ Some b → slice_get ys i ≡ Some b) → xs ≡ ys
same_lists [] [] long each = refl
same_lists [] (y ∷ ys) long each = absurd (omega (arith, long))
same_lists (x ∷ xs) [] long each = absurd (omega (arith, long))
same_lists (x ∷ xs) (y ∷ ys) long each =
    let here = each 0 x refl in
    let first : y ≡ x = cc in
    ap (λ z. z ∷ xs) (sym first) ∙ ap (λ zs. y ∷ zs) (same_lists xs ys (omega (arith, long)) (λ i b e. each (suc i) b e))

module _ (s : List ℕ) (leaves : List Leaf) (of : AllByRecursion (IsOf s) leaves) where
  one_byte : (at b c : ℕ) → Contains (puts leaves) (at, b) → Contains (puts leaves) (at, c) → b ≡ c
  one_byte at b c p q = let one = leaves_sit s leaves of (at, b) p in let other = leaves_sit s leaves of (at, c) q in cc

  agree : Agree leaves (length s)
  agree = (
    (
      all_of (IsOf s) HasBytes (λ leaf is. (is.bytes, is.is)) leaves of,
      all_of (IsOf s) (IsInside (length s)) (λ leaf is put there. slice_get_within s put.0 put.1 (leaf_sits s leaf is put there)) leaves of,
    ),
    one_byte,
  )

pub leaves_agree : LeavesAgree
leaves_agree s one bytes holds within = agree s (leaves_of one) (leaves_are_of s one holds bytes)

pub input_comes_back : InputComesBack
input_comes_back s one back bytes holds within is =
    same_lists back s is.long (λ i b e. leaves_sit s (leaves_of one) (leaves_are_of s one holds bytes) (i, b) (is.each i b e))

-- ---- one answer

module _ (leaves : List Leaf) where
  not_all : (Is : Leaf → Type 0) (n : ℕ) → All Is leaves → IsFirstNot Is leaves n → ⊥
  not_all Is n all first =
      first.not (subst Is (get_or_from_slice_get leaves n first.leaf first.leaf first.there)
      (all n first.leaf (slice_get_within leaves n first.leaf first.there)))

  order : (a b : ℕ) → (a ≡ b) ⊎ ((a < b) ⊎ (b < a))
  order zero zero = inl refl
  order zero (suc b) = inr (inl (omega arith))
  order (suc a) zero = inr (inr (omega arith))
  order (suc a) (suc b) = elim (order a b) [
    | inl e ↦ inl (ap suc e)
    | inr other ↦ elim other [ inl less ↦ inr (inl (omega (arith, less))) | inr more ↦ inr (inr (omega (arith, more))) ]
  ]

  never_before : (Is : Leaf → Type 0) (a b : ℕ) → IsFirstNot Is leaves a → IsFirstNot Is leaves b → a < b → ⊥
  never_before Is a b one other less = one.not (other.before a one.leaf less one.there)

  one_first : (Is : Leaf → Type 0) (a b : ℕ) → IsFirstNot Is leaves a → IsFirstNot Is leaves b → a ≡ b
  one_first Is a b one other = elim (order a b) [
    | inl e ↦ e
    | inr apart ↦ elim apart [ inl less ↦ absurd (never_before Is a b one other less) | inr more ↦ absurd (never_before Is b a other one more) ]
  ]

  no_clash : (at : ℕ) → Agrees (puts leaves) at → IsClash (puts leaves) at → ⊥
  no_clash at agrees clash = clash.differ (agrees clash.one clash.other clash.is_one clash.is_other)

  one_clash : (a b : ℕ) → IsClash (puts leaves) a → IsClash (puts leaves) b → a ≡ b
  one_clash a b one other = elim (order a b) [
    | inl e ↦ e
    | inr apart ↦ elim apart [ inl less ↦ absurd (no_clash a (other.before a less) one) | inr more ↦ absurd (no_clash b (one.before b more) other) ]
  ]

  module _ (len : ℕ) where
    one_gap : (a b : ℕ) → IsGap (puts leaves) len a → IsGap (puts leaves) len b → a ≡ b
    one_gap a b one other = elim (order a b) [
      | inl e ↦ e
      | inr apart ↦ elim apart [ inl less ↦ absurd (one.bare (other.before a less)) | inr more ↦ absurd (other.bare (one.before b more)) ]
    ]

    put_at : (bytes : List ℕ) → IsBack leaves len bytes → (at : ℕ) → at < len → IsPut (puts leaves) at
    put_at bytes is at less = (get_or bytes at 0, is.each at _ (slice_get-get_or bytes at 0 (omega (arith, less, is.long))))

    never_both : (bytes : List ℕ) (fault : PutFault) → IsBack leaves len bytes → IsPutFault leaves len fault → fault ≡ Memory
    never_both bytes (Value n) is first = absurd (not_all HasBytes n is.agree.0.0 first)
    never_both bytes (Outside n) is first = absurd (not_all (IsInside len) n is.agree.0.1 first.1)
    never_both bytes (Clash at) is first = absurd (no_clash at (is.agree.1 at) first.1)
    never_both bytes (Gap at) is first = absurd (first.1.bare (put_at bytes is at first.1.within))
    never_both bytes Memory is first = refl

    same_byte : (bytes other : List ℕ) → IsBack leaves len bytes → IsBack leaves len other → (i b : ℕ) → slice_get bytes i ≡ Some b → slice_get other i ≡ Some b
    same_byte bytes other is too i b e =
        let less : i < length other = omega (arith, slice_get_within bytes i b e, is.long, too.long) in
        let there = slice_get-get_or other i 0 less in
        there ∙ ap Some (sym (is.agree.1 i b (get_or other i 0) (is.each i b e) (too.each i _ there)))

    one_back : (bytes other : List ℕ) → IsBack leaves len bytes → IsBack leaves len other → bytes ≡ other
    one_back bytes other is too = same_lists bytes other (is.long ∙ sym too.long) (same_byte bytes other is too)

    abbrev One : PutFault → PutFault → Type 0
    One fault other = (fault ≡ Memory) ⊎ (other ≡ Memory) ⊎ (fault ≡ other)

    one_fault : (fault other : PutFault) → IsPutFault leaves len fault → IsPutFault leaves len other → One fault other
    one_fault Memory other p q = inl refl
    one_fault (Value a) Memory p q = inr (inl refl)
    one_fault (Outside a) Memory p q = inr (inl refl)
    one_fault (Clash a) Memory p q = inr (inl refl)
    one_fault (Gap a) Memory p q = inr (inl refl)
    one_fault (Value a) (Value b) p q = inr (inr (ap Value (one_first HasBytes a b p q)))
    one_fault (Value a) (Outside b) p q = absurd (not_all HasBytes a q.0 p)
    one_fault (Value a) (Clash b) p q = absurd (not_all HasBytes a q.0.0 p)
    one_fault (Value a) (Gap b) p q = absurd (not_all HasBytes a q.0.0.0 p)
    one_fault (Outside a) (Value b) p q = absurd (not_all HasBytes b p.0 q)
    one_fault (Outside a) (Outside b) p q = inr (inr (ap Outside (one_first (IsInside len) a b p.1 q.1)))
    one_fault (Outside a) (Clash b) p q = absurd (not_all (IsInside len) a q.0.1 p.1)
    one_fault (Outside a) (Gap b) p q = absurd (not_all (IsInside len) a q.0.0.1 p.1)
    one_fault (Clash a) (Value b) p q = absurd (not_all HasBytes b p.0.0 q)
    one_fault (Clash a) (Outside b) p q = absurd (not_all (IsInside len) b p.0.1 q.1)
    one_fault (Clash a) (Clash b) p q = inr (inr (ap Clash (one_clash a b p.1 q.1)))
    one_fault (Clash a) (Gap b) p q = absurd (no_clash a (q.0.1 a) p.1)
    one_fault (Gap a) (Value b) p q = absurd (not_all HasBytes b p.0.0.0 q)
    one_fault (Gap a) (Outside b) p q = absurd (not_all (IsInside len) b p.0.0.1 q.1)
    one_fault (Gap a) (Clash b) p q = absurd (no_clash b (p.0.1 b) q.1)
    one_fault (Gap a) (Gap b) p q = inr (inr (ap Gap (one_gap a b p.1 q.1)))

pub answers_are_one : AnswersAreOne
answers_are_one leaves len = record { never_both = never_both leaves len; one_back = one_back leaves len; one_fault = one_fault leaves len }
