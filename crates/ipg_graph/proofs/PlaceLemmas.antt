-- Moves of a search that pass no cycle.
use Rattle.std.proofs.Common.{◌≡◌, ℕ, ◌+◌, ◌<◌, ◌≤◌, List, [], ◌∷◌, ◌++◌, refl, sym, ap, ◌∙◌, subst, inl, inr, arith, append_assoc}
use Rattle.std.proofs.lemmas.Bool.{cases_eq, cases_order}
use Rattle.ipg_graph.specs.Graph.{Graph}
use Rattle.ipg_graph.specs.Cycle.{StandsUpTo, StandsBefore}
use Rattle.ipg_graph.specs.Walk.{Now, Fresh, Closed, step, run, IsBarren}
use Rattle.ipg_graph.specs.Place.{IsSame, IsBehind}
use Rattle.ipg_graph.proofs.WalkLemmas.{run-closed}

pub same-refl : (g : Graph) (p : List ℕ) → IsSame g p p
same-refl g p = record { on = λ c _ h. h; back = λ c _ h. h }

pub same-trans : (g : Graph) (p q r : List ℕ) → IsSame g p q → IsSame g q r → IsSame g p r
same-trans g p q r a b = record { on = λ c is h. b.on c is (a.on c is h); back = λ c is h. a.back c is (b.back c is h) }

pub upto-refl : (c : List ℕ) → StandsUpTo c c
upto-refl [] = tt
upto-refl (x ∷ c) = inr (refl, upto-refl c)

-- from k to k' at the end of p, over edges from which nothing closes
skip-on : (g : Graph) (k k' : ℕ) → (p c : List ℕ) (now : Now) → ((j : ℕ) → k ≤ j → j < k' → IsBarren g (step g (run g now p) j)) → run g now c ≡ Closed
    → StandsUpTo (p ++ k ∷ []) c → StandsUpTo (p ++ k' ∷ []) c
unfolding run
skip-on g k k' [] [] now barren closed h = h
skip-on g k k' [] (y ∷ c) now barren closed h =
    let le : k ≤ y = elim h [ inl lt ↦ omega arith | inr e ↦ omega (arith, e.0) ] in
    elim (cases_order k' y) [
      | inl e ↦ inr (e, tt)
      | inr (inl lt) ↦ inl lt
      | inr (inr gt) ↦ absurd ((barren y le gt).never c closed)
    ]
skip-on g k k' (x ∷ p) [] now barren closed h = h
skip-on g k k' (x ∷ p) (y ∷ c) now barren closed h = elim h [
  | inl lt ↦ inl lt
  | inr e ↦ inr (e.0, skip-on g k k' p c (step g now x) barren (subst (λ z. run g (step g now z) c ≡ Closed) (sym e.0) closed) e.1)
]

skip-back : (k k' : ℕ) → k ≤ k' → (p c : List ℕ) → StandsUpTo (p ++ k' ∷ []) c → StandsUpTo (p ++ k ∷ []) c
skip-back k k' le [] [] h = h
skip-back k k' le [] (y ∷ c) h = elim h [
  | inl lt ↦ inl (omega arith)
  | inr e ↦ elim (cases_eq k y) [ inl same ↦ inr (same, tt) | inr ne ↦ inl (omega (arith, e.0)) ]
]
skip-back k k' le (x ∷ p) [] h = h
skip-back k k' le (x ∷ p) (y ∷ c) h = elim h [ inl lt ↦ inl lt | inr e ↦ inr (e.0, skip-back k k' le p c e.1) ]

pub same-skip : (g : Graph) (p : List ℕ) (k k' : ℕ) → k ≤ k' → ((j : ℕ) → k ≤ j → j < k' → IsBarren g (step g (run g Fresh p) j))
    → IsSame g (p ++ k ∷ []) (p ++ k' ∷ [])
same-skip g p k k' le barren = record {
  on = λ c closed h. skip-on g k k' p c Fresh barren closed h;
  back = λ c closed h. skip-back k k' le p c h;
}

-- behind the edge k, which does not close
push-on : (g : Graph) (k : ℕ) → (p c : List ℕ) (now : Now) → (step g (run g now p) k ≡ Closed → ⊥) → run g now c ≡ Closed → StandsUpTo (p ++ k ∷ []) c
    → StandsUpTo (p ++ (k ∷ 0 ∷ [])) c
unfolding run
push-on g k [] [] now goes closed h = h
push-on g k [] (y ∷ []) now goes closed h = elim h [
  | inl lt ↦ inl lt
  | inr e ↦ absurd (goes (ap (step g now) e.0 ∙ closed))
]
push-on g k [] (y ∷ z ∷ c) now goes closed h = elim h [
  | inl lt ↦ inl lt
  | inr e ↦ inr (e.0, elim (cases_eq 0 z) [ inl same ↦ inr (same, tt) | inr ne ↦ inl (omega arith) ])
]
push-on g k (x ∷ p) [] now goes closed h = h
push-on g k (x ∷ p) (y ∷ c) now goes closed h = elim h [
  | inl lt ↦ inl lt
  | inr e ↦ inr (e.0, push-on g k p c (step g now x) goes (subst (λ z. run g (step g now z) c ≡ Closed) (sym e.0) closed) e.1)
]

push-back : (k k' : ℕ) (p c : List ℕ) → StandsUpTo (p ++ (k ∷ k' ∷ [])) c → StandsUpTo (p ++ k ∷ []) c
push-back k k' [] [] h = h
push-back k k' [] (y ∷ c) h = elim h [ inl lt ↦ inl lt | inr e ↦ inr (e.0, tt) ]
push-back k k' (x ∷ p) [] h = h
push-back k k' (x ∷ p) (y ∷ c) h = elim h [ inl lt ↦ inl lt | inr e ↦ inr (e.0, push-back k k' p c e.1) ]

pub same-push : (g : Graph) (p : List ℕ) (k k' : ℕ) → (step g (run g Fresh p) k ≡ Closed → ⊥)
    → ((j : ℕ) → j < k' → IsBarren g (step g (run g Fresh (p ++ k ∷ [])) j)) → IsSame g (p ++ k ∷ []) ((p ++ k ∷ []) ++ k' ∷ [])
same-push g p k k' goes barren =
    same-trans g _ _ _
    (record {
      on = λ c closed h. rw append_assoc (push-on g k p c Fresh goes closed h);
      back = λ c closed h. push-back k 0 p c (rw append_assoc at h);
    })
    (same-skip g (p ++ k ∷ []) 0 k' (omega arith) (λ j _ below. barren j below))

-- back from behind the edge j, where nothing from k on closes
pop-on : (g : Graph) (j k : ℕ) → (p c : List ℕ) (now : Now) → ((i : ℕ) → k ≤ i → IsBarren g (step g (run g now (p ++ j ∷ [])) i)) → run g now c ≡ Closed
    → StandsUpTo (p ++ (j ∷ k ∷ [])) c → StandsUpTo (p ++ (j + 1) ∷ []) c
unfolding run
pop-on g j k [] [] now barren closed h = h
pop-on g j k [] (y ∷ c) now barren closed h = elim h [
  | inl lt ↦ elim (cases_eq (j + 1) y) [ inl same ↦ inr (same, tt) | inr ne ↦ inl (omega arith) ]
  | inr e ↦ absurd (last c (subst (λ z. run g (step g now z) c ≡ Closed) (sym e.0) closed) e.1)
]
  where
    last : (c : List ℕ) → run g (step g now j) c ≡ Closed → StandsUpTo (k ∷ []) c → ⊥
    last [] closed h = h
    last (z ∷ c) closed h =
        let le : k ≤ z = elim h [ inl lt ↦ omega arith | inr e ↦ omega (arith, e.0) ] in
        (barren z le).never c closed
pop-on g j k (x ∷ p) [] now barren closed h = h
pop-on g j k (x ∷ p) (y ∷ c) now barren closed h = elim h [
  | inl lt ↦ inl lt
  | inr e ↦ inr (e.0, pop-on g j k p c (step g now x) barren (subst (λ z. run g (step g now z) c ≡ Closed) (sym e.0) closed) e.1)
]

pop-back : (j k : ℕ) (p c : List ℕ) → StandsUpTo (p ++ (j + 1) ∷ []) c → StandsUpTo (p ++ (j ∷ k ∷ [])) c
pop-back j k [] [] h = h
pop-back j k [] (y ∷ c) h = elim h [ inl lt ↦ inl (omega arith) | inr e ↦ inl (omega (arith, e.0)) ]
pop-back j k (x ∷ p) [] h = h
pop-back j k (x ∷ p) (y ∷ c) h = elim h [ inl lt ↦ inl lt | inr e ↦ inr (e.0, pop-back j k p c e.1) ]

pub same-pop : (g : Graph) (p : List ℕ) (j k k' : ℕ) → j < k' → ((i : ℕ) → k ≤ i → IsBarren g (step g (run g Fresh (p ++ j ∷ [])) i))
    → ((i : ℕ) → j < i → i < k' → IsBarren g (step g (run g Fresh p) i)) → IsSame g ((p ++ j ∷ []) ++ k ∷ []) (p ++ k' ∷ [])
same-pop g p j k k' after barren skipped =
    same-trans g _ _ _
    (record {
      on = λ c closed h. pop-on g j k p c Fresh barren closed (rw append_assoc at h);
      back = λ c closed h. rw append_assoc (pop-back j k p c h);
    })
    (same-skip g p (j + 1) k' (omega arith) (λ i from below. skipped i (omega arith) below))

-- behind a cycle, the next place at its end
next-on : (g : Graph) (j : ℕ) → (p c : List ℕ) (now : Now) → step g (run g now p) j ≡ Closed → run g now c ≡ Closed → StandsBefore (p ++ j ∷ []) c
    → StandsUpTo (p ++ (j + 1) ∷ []) c
unfolding run
next-on g j [] [] now found closed h = h
next-on g j [] (y ∷ c) now found closed h = elim h [
  | inl lt ↦ elim (cases_eq (j + 1) y) [ inl same ↦ inr (same, tt) | inr ne ↦ inl (omega arith) ]
  | inr e ↦ absurd (last c (subst (λ s. run g s c ≡ Closed) (ap (step g now) (sym e.0) ∙ found) closed) e.1)
]
  where
    last : (c : List ℕ) → run g Closed c ≡ Closed → StandsBefore [] c → ⊥
    last [] closed h = h
    last (z ∷ c) closed h = run-closed g z c closed
next-on g j (x ∷ p) [] now found closed h = h
next-on g j (x ∷ p) (y ∷ c) now found closed h = elim h [
  | inl lt ↦ inl lt
  | inr e ↦ inr (e.0, next-on g j p c (step g now x) found (subst (λ z. run g (step g now z) c ≡ Closed) (sym e.0) closed) e.1)
]

next-back : (j : ℕ) (p c : List ℕ) → StandsUpTo (p ++ (j + 1) ∷ []) c → StandsBefore (p ++ j ∷ []) c
next-back j [] [] h = h
next-back j [] (y ∷ c) h = elim h [ inl lt ↦ inl (omega arith) | inr e ↦ inl (omega (arith, e.0)) ]
next-back j (x ∷ p) [] h = h
next-back j (x ∷ p) (y ∷ c) h = elim h [ inl lt ↦ inl lt | inr e ↦ inr (e.0, next-back j p c e.1) ]

pub behind-found : (g : Graph) (p : List ℕ) (j k' : ℕ) → step g (run g Fresh p) j ≡ Closed → j < k'
    → ((i : ℕ) → j < i → i < k' → IsBarren g (step g (run g Fresh p) i)) → IsBehind g (p ++ j ∷ []) (p ++ k' ∷ [])
behind-found g p j k' found after skipped =
    let skip : IsSame g (p ++ (j + 1) ∷ []) (p ++ k' ∷ []) = same-skip g p (j + 1) k' (omega arith) (λ i from below. skipped i (omega arith) below) in
    record {
      on = λ c closed h. skip.on c closed (next-on g j p c Fresh found closed h);
      back = λ c closed h. next-back j p c (skip.back c closed h);
    }
