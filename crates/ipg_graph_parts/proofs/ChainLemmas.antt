-- The links of a chain, from the end of the list down.
use Rattle.std.proofs.Common.{◌≡◌, ℕ, ◌+◌, ◌<◌, ◌≤◌, ◌^◌, List, Option, Some, None, length, get_or, set}
use Rattle.std.proofs.Common.{sym, subst, inl, inr, arith, get_or-set_same, get_or-set_other, length-set}
use Rattle.std.specs.List.{All}
use Rattle.std.proofs.lemmas.Bool.{cases_eq}
use Rattle.ipg_graph_parts.specs.Chain.{Keys, key, left_from, IsPlace, IsFirst, IsLinked}

-- the place at hand has another key
first-lower : (k : Keys) (v low : ℕ) (place : Option ℕ) → (key k low ≡ v → ⊥) → IsFirst k v (low + 1) place → IsFirst k v low place
first-lower k v low None other h = record {
  here = tt;
  none = λ j from inside before is. elim (cases_eq j low) [
    | inl e ↦ other (subst (λ i. key k i ≡ v) e is)
    | inr ne ↦ h.none j (omega arith) inside tt is
  ];
}
first-lower k v low (Some place) other h = record {
  here = (omega (arith, h.here.0), h.here.1);
  none = λ j from inside before is. elim (cases_eq j low) [
    | inl e ↦ other (subst (λ i. key k i ≡ v) e is)
    | inr ne ↦ h.none j (omega arith) inside before is
  ];
}

pub linked-none : (k : Keys) (firsts nexts : List (Option ℕ)) → length k.keys < 2 ^ 32 → All (λ v. v < k.limit) k.keys → length firsts ≡ k.limit
    → length nexts ≡ length k.keys → ((v : ℕ) → get_or firsts v None ≡ None) → IsLinked k firsts nexts (length k.keys)
linked-none k firsts nexts few inside f n none = record {
  few = few;
  inside = inside;
  firsts_len = f;
  nexts_len = n;
  first = λ v below. rw (none v) record { here = tt; none = λ j from under before is. absurd (omega arith) };
  next = λ i from below. absurd (omega arith);
}

pub linked-at : (k : Keys) (firsts nexts : List (Option ℕ)) (at v : ℕ) → at < length k.keys → key k at ≡ v → v < k.limit → IsLinked k firsts nexts (at + 1)
    → IsLinked k (set firsts v (Some at)) (set nexts at (get_or firsts v None)) at
linked-at k firsts nexts at v inside is below h =
    let vin : v < length firsts = omega (arith, h.firsts_len) in
    let ain : at < length nexts = omega (arith, h.nexts_len) in
    record {
      few = h.few;
      inside = h.inside;
      firsts_len = rw length-set h.firsts_len;
      nexts_len = rw length-set h.nexts_len;
      first = λ w under. elim (cases_eq w v) [
        | inl e ↦ subst (λ u. IsFirst k u at (get_or (set firsts v (Some at)) u None)) (sym e)
            (rw (get_or-set_same firsts v (Some at) None vin)
            record { here = (omega arith, (inside, is)); none = λ j from within to same. absurd (omega arith) })
        | inr ne ↦ rw (get_or-set_other firsts v w (Some at) None ne) (first-lower k w at _ (λ same. ne (omega (arith, same, is))) (h.first w under))
      ];
      next = λ i from under. elim (cases_eq i at) [
        | inl e ↦ subst (λ j. IsFirst k (key k j) (j + 1) (get_or (set nexts at (get_or firsts v None)) j None)) (sym e)
            (rw (get_or-set_same nexts at (get_or firsts v None) None ain, is) (h.first v below))
        | inr ne ↦ rw (get_or-set_other nexts at i (get_or firsts v None) None ne) (h.next i (omega arith) under)
      ];
    }

-- ---- from one place to the next

pub place-weaker : (k : Keys) (v low : ℕ) (next : Option ℕ) → IsPlace k v low next → IsPlace k v 0 next
place-weaker k v low None h = tt
place-weaker k v low (Some place) h = (omega arith, h.1)

pub left-less : (k : Keys) (v place : ℕ) (old next : Option ℕ) → old ≡ Some place → IsPlace k v 0 old → IsPlace k v (place + 1) next
    → left_from (length k.keys) next < left_from (length k.keys) old
left-less k v place old None is at h = rw is (let here = subst (IsPlace k v 0) is at in omega (arith, here.1.0))
left-less k v place old (Some next) is at h = rw is (omega (arith, h.0, h.1.0))

pub left-bound : (k : Keys) (v : ℕ) (next : Option ℕ) → left_from (length k.keys) next ≤ length k.keys
left-bound k v None = omega arith
left-bound k v (Some next) = omega arith

pub place-after : (k other : Keys) (v place : ℕ) (old next : Option ℕ) → other ≡ k → old ≡ Some place → IsPlace k v 0 old
    → IsFirst other (key other place) (place + 1) next → IsPlace k v (place + 1) next
place-after k other v place old next same is at first =
    let here = subst (IsPlace k v 0) is at in
    let behind = subst (λ l. IsFirst l (key l place) (place + 1) next) same first in
    (subst (λ u. IsFirst k u (place + 1) next) here.1.1 behind).here
