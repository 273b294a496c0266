-- What a search closes is a simple cycle, and each simple cycle is closed.
use Rattle.std.proofs.Common.{◌≡◌, ◌≢◌, ℕ, zero, suc, ◌<◌, ◌≤◌, ◌⊎◌, List, [], ◌∷◌, map, Bool, true, false, length, get_or}
use Rattle.std.proofs.Common.{set, refl, sym, ap, ◌∙◌, subst, inl, inr, arith, length-set, get_or-set_other}
use Rattle.std.proofs.lemmas.List.{length-replicate, get_or-replicate}
use Rattle.std.specs.List.{All}
use Rattle.std.proofs.lemmas.List.Elements.{All-nil, All-cons, All-head, All-tail, All-weaker, All-map}
use Rattle.std.proofs.lemmas.Bool.{cases_eq, cases_lt, true≢false}
use Rattle.ipg_graph.specs.Graph.{Graph, caller, callee, IsLive}
use Rattle.ipg_graph.specs.Cycle.{LeadsTo, AreApart, IsSimpleCycle}
use Rattle.ipg_graph.specs.Marks.{IsUnseen}
use Rattle.ipg_graph.specs.Walk.{Fresh, Open, Closed, Lost, blank, enter, step, run, Closes}
use Rattle.ipg_graph.proofs.MarksLemmas.{unseen-in, grows-set}
use Rattle.ipg_graph.proofs.WalkLemmas.{run-lost, run-closed, kinds, Closing, Opening, Losing, step-at}
use Rattle.ipg_graph.proofs.WalkLemmas.{step-off, step-first, step-dead, enter-closed, enter-open}

-- f leads on from a vertex that may still be visited
abbrev Ahead : Graph → ℕ → List Bool → ℕ → Type 0
Ahead g start seen f = (start < caller g f) × IsUnseen seen (caller g f)

-- what is known of the rest of a cycle, from the edge e on
record Rest (g : Graph) (start tip : ℕ) (seen : List Bool) (e : ℕ) (c : List ℕ) : Type 0 where
  pub at : caller g e ≡ tip
  pub live : All (IsLive g) (e ∷ c)
  pub walk : LeadsTo g start (e ∷ c)
  pub ahead : All (Ahead g start seen) c
  pub apart : AreApart (map (caller g) (e ∷ c))

-- the tip is the start, or was seen
abbrev IsTaken : ℕ → ℕ → List Bool → Type 0
IsTaken start tip seen = (tip ≡ start) ⊎ (get_or seen tip true ≡ true)

taken-apart : (g : Graph) (start tip : ℕ) (seen : List Bool) (f : ℕ) → IsTaken start tip seen → Ahead g start seen f → tip ≡ caller g f → ⊥
taken-apart g start tip seen f (inl e) ahead same = omega (arith, ahead.0, e, same)
taken-apart g start tip seen f (inr is) ahead same = true≢false (sym is ∙ subst (IsUnseen seen) (sym same) ahead.1)

set-taken : (seen : List Bool) (v : ℕ) → get_or (set seen v true) v true ≡ true
set-taken [] v = refl
set-taken (b ∷ seen) zero = refl
set-taken (b ∷ seen) (suc v) = set-taken seen v

rest : (g : Graph) (start : ℕ) (c : List ℕ) (e tip : ℕ) (seen : List Bool) → length seen ≡ g.rules → tip < g.rules → IsTaken start tip seen
    → run g (Open start tip seen) (e ∷ c) ≡ Closed → Rest g start tip seen e c
unfolding run
rest g start [] e tip seen flags inside taken h =
    elim (cases_eq (caller g e) tip) [
      | inr ne ↦ absurd (let is : Lost ≡ Closed = sym (step-off g start tip seen e ne) ∙ h in cc)
      | inl at ↦
          let h' : enter g start seen (callee g e) ≡ Closed = sym (step-at g start tip seen e at) ∙ h in
          elim (kinds g start seen (callee g e)) [
            | Losing is ↦ absurd (let no : Lost ≡ Closed = sym is ∙ h' in cc)
            | Opening _ _ is ↦ absurd (let no : Open start (callee g e) (set seen (callee g e) true) ≡ Closed = sym is ∙ h' in cc)
            | Closing back _ ↦ record {
              at = at;
              live = All-cons (IsLive g) e [] (rw at inside) (All-nil (IsLive g));
              walk = back;
              ahead = All-nil (Ahead g start seen);
              apart = (All-nil (λ y. caller g e ≢ y), tt);
            }
          ]
    ]
rest g start (f ∷ c) e tip seen flags inside taken h =
    elim (cases_eq (caller g e) tip) [
      | inr ne ↦ absurd (run-lost g (f ∷ c) (subst (λ s. run g s (f ∷ c) ≡ Closed) (step-off g start tip seen e ne) h))
      | inl at ↦
          let v = callee g e in
          let h' : run g (enter g start seen v) (f ∷ c) ≡ Closed = subst (λ s. run g s (f ∷ c) ≡ Closed) (step-at g start tip seen e at) h in
          elim (kinds g start seen v) [
            | Losing is ↦ absurd (run-lost g (f ∷ c) (subst (λ s. run g s (f ∷ c) ≡ Closed) is h'))
            | Closing _ is ↦ absurd (run-closed g f c (subst (λ s. run g s (f ∷ c) ≡ Closed) is h'))
            | Opening above free is ↦
                let r : Rest g start v (set seen v true) f c = rest g start c f v (set seen v true)
                (length-set seen v true ∙ flags) (omega (arith, unseen-in seen v free, flags)) (inr (set-taken seen v))
                (subst (λ s. run g s (f ∷ c) ≡ Closed) is h') in
                let ahead : All (Ahead g start seen) (f ∷ c) =
                All-cons (Ahead g start seen) f c (rw r.at (above, free))
                (All-weaker (Ahead g start (set seen v true)) (Ahead g start seen) (λ k a. (a.0, (grows-set seen v).kept (caller g k) a.1)) c r.ahead) in
                record {
                  at = at;
                  live = All-cons (IsLive g) e (f ∷ c) (rw at inside) r.live;
                  walk = (sym r.at, r.walk);
                  ahead = ahead;
                  apart = (
                    All-map (λ y. caller g e ≢ y) (caller g) (f ∷ c)
                        (All-weaker (Ahead g start seen) (λ k. caller g e ≢ caller g k) (λ k a same. taken-apart g start tip seen k taken a (sym at ∙ same))
                        (f ∷ c) ahead),
                    r.apart,
                  );
                }
          ]
    ]

-- the edges ahead stay so, as the vertex v of none of them is visited
ahead-on : (g : Graph) (start : ℕ) (seen : List Bool) (v : ℕ) (c : List ℕ) → All (Ahead g start seen) c → All (λ y. v ≢ y) (map (caller g) c)
    → All (Ahead g start (set seen v true)) c
ahead-on g start seen v [] ahead apart = All-nil (Ahead g start (set seen v true))
ahead-on g start seen v (f ∷ c) ahead apart =
    let a = All-head (Ahead g start seen) f c ahead in
    let ne : v ≢ caller g f = All-head (λ y. v ≢ y) (caller g f) (map (caller g) c) apart in
    All-cons (Ahead g start (set seen v true)) f c
    (a.0, get_or-set_other seen v (caller g f) true true (λ same. ne (sym same)) ∙ a.1)
    (ahead-on g start seen v c (All-tail (Ahead g start seen) f c ahead) (All-tail (λ y. v ≢ y) (caller g f) (map (caller g) c) apart))

closing : (g : Graph) (start : ℕ) (c : List ℕ) (e : ℕ) (seen : List Bool) → LeadsTo g start (e ∷ c) → AreApart (map (caller g) (e ∷ c))
    → All (Ahead g start seen) c → run g (Open start (caller g e) seen) (e ∷ c) ≡ Closed
unfolding run
closing g start [] e seen walk apart ahead = step-at g start (caller g e) seen e refl ∙ enter-closed g start seen (callee g e) walk
closing g start (f ∷ c) e seen walk apart ahead =
    let a = All-head (Ahead g start seen) f c ahead in
    let v = caller g f in
    let goes : step g (Open start (caller g e) seen) e ≡ Open start v (set seen v true) =
    step-at g start (caller g e) seen e refl ∙ (ap (enter g start seen) walk.0 ∙ enter-open g start seen v a.0 a.1) in
    subst (λ s. run g s (f ∷ c) ≡ Closed) (sym goes)
    (closing g start c f (set seen v true) walk.1 apart.1 (ahead-on g start seen v c (All-tail (Ahead g start seen) f c ahead) apart.1.0))

ahead-first : (g : Graph) (start : ℕ) (c : List ℕ) → All (IsLive g) c → All (λ f. start ≤ caller g f) c → All (λ y. start ≢ y) (map (caller g) c)
    → All (Ahead g start (blank g)) c
ahead-first g start [] live least apart = All-nil (Ahead g start (blank g))
ahead-first g start (f ∷ c) live least apart =
    let le : start ≤ caller g f = All-head (λ k. start ≤ caller g k) f c least in
    let ne : start ≢ caller g f = All-head (λ y. start ≢ y) (caller g f) (map (caller g) c) apart in
    All-cons (Ahead g start (blank g)) f c
    (omega arith, get_or-replicate g.rules (caller g f) false true (All-head (IsLive g) f c live))
    (ahead-first g start c (All-tail (IsLive g) f c live) (All-tail (λ k. start ≤ caller g k) f c least)
    (All-tail (λ y. start ≢ y) (caller g f) (map (caller g) c) apart))

-- the first edge, from its own caller
begin : (g : Graph) (e : ℕ) → IsLive g e → step g (Open (caller g e) (caller g e) (blank g)) e ≡ step g Fresh e
begin g e live = step-at g (caller g e) (caller g e) (blank g) e refl ∙ sym (step-first g e live)

pub simple-closes : (g : Graph) (c : List ℕ) → IsSimpleCycle g c → Closes g c
unfolding run
simple-closes g [] h = absurd h.walk
simple-closes g (e ∷ c) h =
    let live : IsLive g e = All-head (IsLive g) e c h.live in
    subst (λ s. run g s c ≡ Closed) (begin g e live)
    (closing g (caller g e) c e (blank g) h.walk h.once
    (ahead-first g (caller g e) c (All-tail (IsLive g) e c h.live) h.least h.once.0))

pub closes-simple : (g : Graph) (c : List ℕ) → Closes g c → IsSimpleCycle g c
unfolding run
closes-simple g [] h = absurd (let no : Fresh ≡ Closed = h in cc)
closes-simple g (e ∷ c) h = elim (cases_lt (caller g e) g.rules) [
  | inr dead ↦ absurd (run-lost g c (subst (λ s. run g s c ≡ Closed) (step-dead g e dead) h))
  | inl live ↦
      let r : Rest g (caller g e) (caller g e) (blank g) e c = rest g (caller g e) c e (caller g e) (blank g)
      (length-replicate g.rules false) live (inl refl) (subst (λ s. run g s c ≡ Closed) (sym (begin g e live)) h) in
      record {
        live = r.live;
        walk = r.walk;
        once = r.apart;
        least = All-weaker (Ahead g (caller g e) (blank g)) (λ f. caller g e ≤ caller g f) (λ f a. omega (arith, a.0)) c r.ahead;
      }
]
