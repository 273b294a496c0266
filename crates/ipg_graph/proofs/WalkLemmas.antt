-- Walks edge by edge: what a step does, what can never close, and what a step came from.
use Rattle.std.proofs.Common.{◌≡◌, ℕ, ◌<◌, ◌≤◌, ◌⊎◌, List, [], ◌∷◌, ◌++◌, Bool, true, false, cond, not}
use Rattle.std.proofs.Common.{◌&&◌, ltb, get_or, set, refl, sym, ap, ◌∙◌, subst, inl, inr, arith}
use Rattle.std.proofs.lemmas.Bool.{cases_eq, cases_lt, cases_Bool, cond-true, cond-false, eq-eqb, ne_eqb, lt-ltb, le-ltb, and_from, not_from_false, false≢true}
use Rattle.ipg_graph.specs.Graph.{Graph, caller, callee, IsLive}
use Rattle.ipg_graph.specs.Marks.{IsUnseen, IsMarked, Grows}
use Rattle.ipg_graph.specs.Walk.{Now, Fresh, Open, Closed, Lost, blank, enter, step, run, IsBarren}
use Rattle.ipg_graph.specs.Reach.{Counts, IsClosed}
use Rattle.ipg_graph.proofs.MarksLemmas.{grows-set, grows-trans}

pub run-append : (g : Graph) (now : Now) (p q : List ℕ) → run g now (p ++ q) ≡ run g (run g now p) q
unfolding run
run-append g now [] q = refl
run-append g now (e ∷ p) q = run-append g (step g now e) p q

pub run-push : (g : Graph) (now : Now) (p : List ℕ) (e : ℕ) → run g now (p ++ e ∷ []) ≡ step g (run g now p) e
unfolding run
run-push g now p e = run-append g now p (e ∷ [])

pub run-lost : (g : Graph) (c : List ℕ) → run g Lost c ≡ Closed → ⊥
unfolding run step
run-lost g [] h = cc
run-lost g (e ∷ c) h = run-lost g c h

pub barren-lost : (g : Graph) → IsBarren g Lost
barren-lost g = record { never = λ c h. run-lost g c h }

pub barren-is : (g : Graph) (a b : Now) → a ≡ b → IsBarren g b → IsBarren g a
barren-is g a b e h = subst (IsBarren g) (sym e) h

-- nothing follows a cycle
pub run-closed : (g : Graph) (e : ℕ) (c : List ℕ) → run g Closed (e ∷ c) ≡ Closed → ⊥
unfolding run step
run-closed g e c h = run-lost g c h

-- over an edge to v
pub enter-closed : (g : Graph) (start : ℕ) (seen : List Bool) (v : ℕ) → v ≡ start → enter g start seen v ≡ Closed
unfolding enter
enter-closed g start seen v e = cond-true _ _ _ (eq-eqb v start e)

pub enter-open : (g : Graph) (start : ℕ) (seen : List Bool) (v : ℕ) → start < v → IsUnseen seen v → enter g start seen v ≡ Open start v (set seen v true)
unfolding enter
enter-open g start seen v above unseen =
    cond-false _ _ _ (ne_eqb v start (λ e. omega arith))
    ∙ cond-true _ _ _ (and_from _ _ (lt-ltb start v above) (not_from_false _ unseen))

pub enter-below : (g : Graph) (start : ℕ) (seen : List Bool) (v : ℕ) → v < start → enter g start seen v ≡ Lost
unfolding enter
enter-below g start seen v below =
    cond-false _ _ _ (ne_eqb v start (λ e. omega arith))
    ∙ ap (λ b. cond (b && not (get_or seen v true)) (Open start v (set seen v true)) Lost) (le-ltb start v (omega arith))

pub enter-seen : (g : Graph) (start : ℕ) (seen : List Bool) (v : ℕ) → (v ≡ start → ⊥) → get_or seen v true ≡ true → enter g start seen v ≡ Lost
unfolding enter
enter-seen g start seen v ne is =
    cond-false _ _ _ (ne_eqb v start ne)
    ∙ (ap (λ b. cond (ltb start v && not b) (Open start v (set seen v true)) Lost) is
    ∙ elim (ltb start v) as (λ b. cond (b && false) (Open start v (set seen v true)) Lost ≡ Lost) [ true ↦ refl | false ↦ refl ])

-- what an open state came from
pub record IsEntered (g : Graph) (start : ℕ) (seen : List Bool) (v tip : ℕ) (to : List Bool) : Type 0 where
  pub tip_is : v ≡ tip
  pub above : start < tip
  pub unseen : IsUnseen seen tip
  pub flags : to ≡ set seen tip true

pub data Kinds (g : Graph) (start : ℕ) (seen : List Bool) (v : ℕ) : Type 0 where
  Closing : v ≡ start → enter g start seen v ≡ Closed → Kinds g start seen v
  Opening : start < v → IsUnseen seen v → enter g start seen v ≡ Open start v (set seen v true) → Kinds g start seen v
  Losing : enter g start seen v ≡ Lost → Kinds g start seen v

pub kinds : (g : Graph) (start : ℕ) (seen : List Bool) (v : ℕ) → Kinds g start seen v
kinds g start seen v = elim (cases_eq v start) [
  | inl e ↦ Closing e (enter-closed g start seen v e)
  | inr ne ↦ elim (cases_lt start v) [
    | inr le ↦ Losing (enter-below g start seen v (omega arith))
    | inl lt ↦ elim (cases_Bool (get_or seen v true)) [
      | inl is ↦ Losing (enter-seen g start seen v ne is)
      | inr is ↦ Opening lt is (enter-open g start seen v lt is)
    ]
  ]
]

pub step-at : (g : Graph) (start tip : ℕ) (seen : List Bool) (e : ℕ) → caller g e ≡ tip → step g (Open start tip seen) e ≡ enter g start seen (callee g e)
unfolding step
step-at g start tip seen e is = cond-true _ _ _ (eq-eqb (caller g e) tip is)

pub step-off : (g : Graph) (start tip : ℕ) (seen : List Bool) (e : ℕ) → (caller g e ≡ tip → ⊥) → step g (Open start tip seen) e ≡ Lost
unfolding step
step-off g start tip seen e ne = cond-false _ _ _ (ne_eqb (caller g e) tip ne)

pub step-first : (g : Graph) (e : ℕ) → IsLive g e → step g Fresh e ≡ enter g (caller g e) (blank g) (callee g e)
unfolding step
step-first g e live = cond-true _ _ _ (lt-ltb (caller g e) g.rules live)

pub step-dead : (g : Graph) (e : ℕ) → g.rules ≤ caller g e → step g Fresh e ≡ Lost
unfolding step
step-dead g e past = cond-false _ _ _ (le-ltb (caller g e) g.rules past)

-- no way leads back from a vertex that is not marked
pub no-way : (g : Graph) (start : ℕ) (seen marks : List Bool) → IsClosed g start seen marks → (c : List ℕ) (v : ℕ) (later : List Bool) → Grows seen later
    → start < v → IsUnseen seen v → get_or marks v false ≡ false → run g (Open start v later) c ≡ Closed → ⊥
unfolding run
no-way g start seen marks closed [] v later grows above unseen unmarked h = cc
no-way g start seen marks closed (e ∷ c) v later grows above unseen unmarked h =
    elim (cases_eq (caller g e) v) [
      | inr ne ↦ run-lost g c (subst (λ s. run g s c ≡ Closed) (step-off g start v later e ne) h)
      | inl at ↦
          let counts : Counts g start seen e = record { above = rw at above; unseen = rw at unseen } in
          let h' : run g (enter g start later (callee g e)) c ≡ Closed = subst (λ s. run g s c ≡ Closed) (step-at g start v later e at) h in
          let marked : ((callee g e ≡ start) ⊎ IsMarked marks (callee g e)) → ⊥ = λ to. false≢true (sym unmarked ∙ (rw (← at) (closed.callers e counts to))) in
          elim (kinds g start later (callee g e)) [
            | Losing is ↦ run-lost g c (subst (λ s. run g s c ≡ Closed) is h')
            | Closing same is ↦ marked (inl same)
            | Opening over free is ↦ elim (cases_Bool (get_or marks (callee g e) false)) [
              | inl is ↦ marked (inr is)
              | inr un ↦ no-way g start seen marks closed c (callee g e) (set later (callee g e) true)
                  (grows-trans _ _ _ grows (grows-set later (callee g e))) over (grows.kept (callee g e) free) un
                  (subst (λ s. run g s c ≡ Closed) is h')
            ]
          ]
    ]
