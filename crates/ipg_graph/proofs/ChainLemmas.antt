-- The links of a chain, from the end of the list down.
use Rattle.std.proofs.Common.{◌≡◌, ℕ, ◌+◌, ◌<◌, ◌≤◌, ◌^◌, List, length, get_or, set, sym, subst, inl, inr, arith, get_or-set_same, get_or-set_other, length-set}
use Rattle.std.proofs.lemmas.Bool.{cases_eq}
use Rattle.ipg_graph.specs.Chain.{Keys, key, IsFirst, IsLinked}

-- the place at hand has another key
first-lower : (k : Keys) (v low place : ℕ) → (key k low ≡ v → ⊥) → IsFirst k v (low + 1) place → IsFirst k v low place
first-lower k v low place other h = record {
  from = omega (arith, h.from);
  within = h.within;
  none = λ j from below is. elim (cases_eq j low) [ inl e ↦ other (subst (λ i. key k i ≡ v) e is) | inr ne ↦ h.none j (omega arith) below is ];
  here = h.here;
}

pub linked-none : (k : Keys) (firsts nexts : List ℕ) → length k.keys < 2 ^ 32 → length firsts ≡ k.limit → length nexts ≡ length k.keys
    → ((v : ℕ) → v < k.limit → get_or firsts v 0 ≡ length k.keys) → IsLinked k firsts nexts (length k.keys)
linked-none k firsts nexts small f n none = record {
  small = small;
  firsts_len = f;
  nexts_len = n;
  first = λ v below. rw (none v below) record {
    from = omega arith;
    within = omega arith;
    none = λ j from under is. absurd (omega arith);
    here = λ h. absurd (omega arith);
  };
  next = λ i from below is_key. absurd (omega arith);
}

-- a place with no key
pub linked-past : (k : Keys) (firsts nexts : List ℕ) (at : ℕ) → k.limit ≤ key k at → IsLinked k firsts nexts (at + 1) → IsLinked k firsts nexts at
linked-past k firsts nexts at past h = record {
  small = h.small;
  firsts_len = h.firsts_len;
  nexts_len = h.nexts_len;
  first = λ v below. first-lower k v at _ (λ is. omega arith) (h.first v below);
  next = λ i from below is_key. elim (cases_eq i at) [
    | inl e ↦ absurd (let no : key k at < k.limit = subst (λ i. key k i < k.limit) e is_key in omega arith)
    | inr ne ↦ h.next i (omega arith) below is_key
  ];
}

-- a place with a key
pub linked-at : (k : Keys) (firsts nexts : List ℕ) (at v : ℕ) → at < length k.keys → key k at ≡ v → v < k.limit → IsLinked k firsts nexts (at + 1)
    → IsLinked k (set firsts v at) (set nexts at (get_or firsts v 0)) at
linked-at k firsts nexts at v inside is below h =
    let vin : v < length firsts = omega (arith, h.firsts_len) in
    let ain : at < length nexts = omega (arith, h.nexts_len) in
    record {
      small = h.small;
      firsts_len = rw length-set h.firsts_len;
      nexts_len = rw length-set h.nexts_len;
      first = λ w under. elim (cases_eq w v) [
        | inl e ↦ subst (λ u. IsFirst k u at (get_or (set firsts v at) u 0)) (sym e) (rw (get_or-set_same firsts v at 0 vin) record {
          from = omega arith;
          within = omega arith;
          none = λ j from to same. absurd (omega arith);
          here = λ _. is;
        })
        | inr ne ↦ rw (get_or-set_other firsts v w at 0 ne) (first-lower k w at _ (λ same. ne (omega (arith, same, is))) (h.first w under))
      ];
      next = λ i from under is_key. elim (cases_eq i at) [
        | inl e ↦ subst (λ j. IsFirst k (key k j) (j + 1) (get_or (set nexts at (get_or firsts v 0)) j 0)) (sym e)
            (rw (get_or-set_same nexts at (get_or firsts v 0) 0 ain, is) (h.first v below))
        | inr ne ↦ rw (get_or-set_other nexts at i (get_or firsts v 0) 0 ne) (h.next i (omega arith) under is_key)
      ];
    }
