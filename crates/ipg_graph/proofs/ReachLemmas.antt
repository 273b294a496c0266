-- Marks that spread against the edges.
use Rattle.std.proofs.Common.{◌≡◌, ℕ, zero, suc, ◌+◌, ◌-◌, ◌*◌, ◌<◌, ◌≤◌, ◌⊎◌, List, [], ◌∷◌, ◌++◌, Bool, true, false, not, ◌&&◌, ltb, length}
use Rattle.std.proofs.Common.{get_or, set, replicate, refl, sym, ap, ◌∙◌, subst, inl, inr, arith, get_or-set_same, length-set, vec_capacity}
use Rattle.std.specs.List.{All, Contains}
use Rattle.std.proofs.lemmas.List.Elements.{All-push, All-nil, Contains-push, Contains-push_cases, Contains-append_left}
use Rattle.std.proofs.lemmas.List.{length_push, get_or_default}
use Rattle.std.proofs.lemmas.Bool.{cases_eq, cases_lt, and_from, lt-ltb, not_from_false, false≢true, and_cases, not-false, and_parts, not-true, ltb-true}
use Rattle.ipg_graph.specs.Graph.{Graph, caller, callee, IsWhole}
use Rattle.ipg_graph.specs.Chain.{IsFirst, callees_of}
use Rattle.ipg_graph.specs.Marks.{marked, IsUnseen, IsMarked}
use Rattle.ipg_graph.specs.Walk.{is_free}
use Rattle.ipg_graph.specs.Reach.{Counts, IsScanned, IsClosed, IsSpreading, Spreads, IsMarking, IsSized}
use Rattle.ipg_graph.specs.declared.reach.Reach.{Reach}
use Rattle.ipg_graph.proofs.MarksLemmas.{marked-set, unseen-in, marked-le}
use Rattle.ipg_graph.proofs.GraphLemmas.{live-in}

marked-more : (marks : List Bool) (u v : ℕ) → IsMarked marks v → IsMarked (set marks u true) v
marked-more [] u v h = h
marked-more (b ∷ marks) zero zero h = refl
marked-more (b ∷ marks) zero (suc v) h = h
marked-more (b ∷ marks) (suc u) zero h = h
marked-more (b ∷ marks) (suc u) (suc v) h = marked-more marks u v h

marked-new : (marks : List Bool) (u v : ℕ) → IsMarked (set marks u true) v → IsMarked marks v ⊎ (u ≡ v)
marked-new [] u v h = inl h
marked-new (b ∷ marks) zero zero h = inr refl
marked-new (b ∷ marks) zero (suc v) h = inl h
marked-new (b ∷ marks) (suc u) zero h = inl h
marked-new (b ∷ marks) (suc u) (suc v) h = elim (marked-new marks u v h) [ inl is ↦ inl is | inr e ↦ inr (ap suc e) ]

pub marked-self : (marks : List Bool) (u : ℕ) → u < length marks → IsMarked (set marks u true) u
marked-self marks u h = get_or-set_same marks u true false h

pub spreads-refl : (g : Graph) (marks : List Bool) (stack : List ℕ) → All (λ v. v < g.rules) stack → Spreads g marks marks stack stack
spreads-refl g marks stack inside = record {
  inside = inside;
  grown = omega arith;
  balance = refl;
  kept = λ v h. h;
  fresh = λ v h. inl h;
  waits = λ v h. h;
}

pub spreads-mark : (g : Graph) (old new : List Bool) (waiting more : List ℕ) (u : ℕ) → IsUnseen new u → u < g.rules → Spreads g old new waiting more
    → Spreads g old (set new u true) waiting (more ++ u ∷ [])
spreads-mark g old new waiting more u free inside h = record {
  inside = All-push (λ v. v < g.rules) more u h.inside inside;
  grown = omega (arith, marked-set new u free, h.grown);
  balance = omega (arith, marked-set new u free, length_push more u, h.balance);
  kept = λ v is. marked-more new u v (h.kept v is);
  fresh = λ v is. elim (marked-new new u v is) [
    | inl was ↦ elim (h.fresh v was) [ inl o ↦ inl o | inr w ↦ inr (Contains-append_left more (u ∷ []) v w) ]
    | inr e ↦ inr (subst (Contains (more ++ u ∷ [])) e (Contains-push more u))
  ];
  waits = λ v w. Contains-append_left more (u ∷ []) v (h.waits v w);
}

pub scanned-none : (g : Graph) (start : ℕ) (seen marks : List Bool) (v first : ℕ) → IsFirst (callees_of g) v 0 first → v < g.rules
    → IsScanned g start seen marks v first
scanned-none g start seen marks v first h inside = record { callers = λ e below is counts. absurd (h.none e (omega arith) below is) }

pub scanned-grows : (g : Graph) (start : ℕ) (seen old new : List Bool) (v below : ℕ) → ((u : ℕ) → IsMarked old u → IsMarked new u)
    → IsScanned g start seen old v below → IsScanned g start seen new v below
scanned-grows g start seen old new v below kept h = record { callers = λ e lt is counts. kept _ (h.callers e lt is counts) }

-- the next edge, once the caller at hand is marked where it counts
pub marking-next : (g : Graph) (start : ℕ) (seen old new : List Bool) (waiting more : List ℕ) (v edge next : ℕ) → IsWhole g → edge < length g.callers
    → callee g edge ≡ v → IsFirst (callees_of g) v (edge + 1) next → (Counts g start seen edge → IsMarked new (caller g edge)) → Spreads g old new waiting more
    → IsScanned g start seen new v edge → IsMarking g start seen old new waiting more v next
marking-next g start seen old new waiting more v edge next whole in' at first done spreads scanned = record {
  within = omega (arith, first.within, whole.same);
  here = λ lt. first.here (omega (arith, whole.same));
  spreads = spreads;
  scanned = record {
    callers = λ e below is counts. elim (cases_eq e edge) [
      | inl same ↦ rw same (done (rw same at counts))
      | inr ne ↦ elim (cases_lt e edge) [
        | inl lt ↦ scanned.callers e lt is counts
        | inr ge ↦ absurd (first.none e (omega arith) below is)
      ]
    ];
  };
}

-- what the test of a caller says
pub is-new : (start : ℕ) (seen marks : List Bool) (v : ℕ) → v < length marks → (is_free start seen v && not (get_or marks v false)) ≡ true
    → (start < v) × (IsUnseen seen v × IsUnseen marks v)
is-new start seen marks v in' h =
    let both = and_parts (is_free start seen v) (not (get_or marks v false)) h in
    let free = and_parts (ltb start v) (not (get_or seen v true)) both.0 in
    (ltb-true start v free.0, (not-true _ free.1, get_or_default marks v true false in' ∙ not-true _ both.1))

pub is-old : (g : Graph) (start : ℕ) (seen marks : List Bool) (e : ℕ) → (is_free start seen (caller g e) && not (get_or marks (caller g e) false)) ≡ false
    → Counts g start seen e → IsMarked marks (caller g e)
is-old g start seen marks e h counts =
    elim (and_cases (is_free start seen (caller g e)) (not (get_or marks (caller g e) false)) h) [
      | inl not_free ↦ absurd
          (false≢true (sym not_free ∙ and_from (ltb start (caller g e)) (not (get_or seen (caller g e) true)) (lt-ltb start (caller g e) counts.above)
          (not_from_false _ counts.unseen)))
      | inr marked ↦ not-false _ marked
    ]

pub spreading-start : (g : Graph) (start : ℕ) (seen : List Bool) (n : ℕ) → start < g.rules → IsSpreading g start seen (replicate n false) (start ∷ [])
spreading-start g start seen n inside = record {
  inside = All-push (λ v. v < g.rules) [] start (All-nil (λ v. v < g.rules)) inside;
  bound = omega arith;
  at_start = inl (Contains-push [] start);
  at_marks = λ v h. absurd (unmarked n v h);
}
  where
    unmarked : (n v : ℕ) → IsMarked (replicate n false) v → ⊥
    unmarked zero v h = false≢true h
    unmarked (suc n) zero h = false≢true h
    unmarked (suc n) (suc v) h = unmarked n v h

pub spreading-step : (g : Graph) (start : ℕ) (seen old new : List Bool) (stack rest more : List ℕ) (v : ℕ) → stack ≡ rest ++ v ∷ []
    → IsSpreading g start seen old stack → Spreads g old new rest more → IsScanned g start seen new v (length g.callers) → IsSpreading g start seen new more
spreading-step g start seen old new stack rest more v popped was h scanned = record {
  inside = h.inside;
  bound = omega (arith, h.balance, was.bound, ap length popped, length_push rest v);
  at_start = still start was.at_start;
  at_marks = λ u is. elim (h.fresh u is) [ inl old_mark ↦ still u (was.at_marks u old_mark) | inr w ↦ inl w ];
}
  where
    still : (u : ℕ) → Contains stack u ⊎ IsScanned g start seen old u (length g.callers) → Contains more u ⊎ IsScanned g start seen new u (length g.callers)
    still u (inl w) = elim (Contains-push_cases rest v u (subst (λ s. Contains s u) popped w)) [
      | inl left ↦ inl (h.waits u left)
      | inr e ↦ inr (subst (λ x. IsScanned g start seen new x (length g.callers)) e scanned)
    ]
    still u (inr s) = inr (scanned-grows g start seen old new u (length g.callers) h.kept s)

pub spreading-end : (g : Graph) (start : ℕ) (seen marks : List Bool) → length seen ≡ g.rules → IsSpreading g start seen marks [] → IsClosed g start seen marks
spreading-end g start seen marks flags h = record {
  callers = λ e counts to.
      let in' : e < length g.callers = live-in g e (omega (arith, unseen-in seen (caller g e) counts.unseen, flags)) in
      elim to [
        | inl back ↦ elim h.at_start [ inl none ↦ absurd (omega (arith, none.1)) | inr s ↦ s.callers e in' back counts ]
        | inr is ↦ elim (h.at_marks (callee g e) is) [ inl none ↦ absurd (omega (arith, none.1)) | inr s ↦ s.callers e in' refl counts ]
      ];
}

-- there is room for one more
pub unseen-room : (marks : List Bool) (u : ℕ) → IsUnseen marks u → marked marks < length marks
unseen-room marks u h = omega (arith, marked-set marks u h, marked-le (set marks u true), length-set marks u true)

pub sized-mark : (rules : ℕ) (old new : Reach) (u : ℕ) → new.marks.items ≡ set old.marks.items u true → vec_capacity old.stack ≤ vec_capacity new.stack
    → IsSized rules old → IsSized rules new
sized-mark rules old new u marks room h = record { flags = rw (marks, length-set) h.flags; room = omega (arith, h.room) }

-- the caller of an edge, marked where the test says so
pub marking-mark : (g : Graph) (start : ℕ) (seen old new marks : List Bool) (waiting more stack : List ℕ) (v edge next u : ℕ) → IsWhole g
    → edge < length g.callers → u ≡ caller g edge → u < g.rules → IsFirst (callees_of g) v (edge + 1) next → IsUnseen new u → marks ≡ set new u true
    → stack ≡ more ++ u ∷ [] → IsMarking g start seen old new waiting more v edge → IsMarking g start seen old marks waiting stack v next
marking-mark g start seen old new marks waiting more stack v edge next u whole in' at inside first free marks_is stack_is h =
    rw (marks_is, stack_is)
    (marking-next g start seen old (set new u true) waiting (more ++ u ∷ []) v edge next whole in' (h.here in') first
    (λ _. rw (← at) (marked-self new u (unseen-in new u free)))
    (spreads-mark g old new waiting more u free inside h.spreads)
    (scanned-grows g start seen new (set new u true) v edge (marked-more new u) h.scanned))

pub spreading-less : (g : Graph) (old new : List Bool) (stack rest more : List ℕ) (v rules : ℕ) → stack ≡ rest ++ v ∷ [] → Spreads g old new rest more
    → length new ≡ rules → length more + 2 * (rules - marked new) < length stack + 2 * (rules - marked old)
spreading-less g old new stack rest more v rules popped h flags =
    omega (arith, h.balance, h.grown, marked-le new, ap length popped, length_push rest v)
