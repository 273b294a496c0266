-- A whole run has every simple cycle.
use Rattle.std.proofs.Common.{◌≡◌, ℕ, ◌⊎◌, List, [], ◌∷◌, refl, ap, ◌∙◌, subst, inl, inr, arith}
use Rattle.std.specs.List.{All, Contains}
use Rattle.std.proofs.lemmas.List.Elements.{All-nil, All-cons, All-weaker, Contains-append_left, Contains-append_right, Contains-push}
use Rattle.ipg_graph.specs.Graph.{Graph}
use Rattle.ipg_graph.specs.Cycle.{IsSimpleCycle, StandsUpTo, StandsBefore}
use Rattle.ipg_graph.specs.Answers.{Spot, Start, At, IsAfter, IsRun, IsAscending, RunsAreWhole}

upto-cases : (c d : List ℕ) → StandsUpTo c d → (c ≡ d) ⊎ StandsBefore c d
upto-cases [] [] h = inl refl
upto-cases [] (y ∷ d) h = inr tt
upto-cases (x ∷ c) [] h = absurd h
upto-cases (x ∷ c) (y ∷ d) (inl lt) = inr (inl lt)
upto-cases (x ∷ c) (y ∷ d) (inr e) = elim (upto-cases c d e.1) [
  | inl same ↦ inl (ap (λ v. v ∷ c) e.0 ∙ ap (λ l. y ∷ l) same)
  | inr before ↦ inr (inr (e.0, before))
]

before-trans : (a b c : List ℕ) → StandsBefore a b → StandsBefore b c → StandsBefore a c
before-trans a b [] f h = h
before-trans a [] (z ∷ c) f h = absurd f
before-trans [] (y ∷ b) (z ∷ c) f h = tt
before-trans (x ∷ a) (y ∷ b) (z ∷ c) (inl f) (inl h) = inl (omega arith)
before-trans (x ∷ a) (y ∷ b) (z ∷ c) (inl f) (inr h) = inl (omega (arith, h.0))
before-trans (x ∷ a) (y ∷ b) (z ∷ c) (inr f) (inl h) = inl (omega (arith, f.0))
before-trans (x ∷ a) (y ∷ b) (z ∷ c) (inr f) (inr h) = inr (f.0 ∙ h.0, before-trans a b c f.1 h.1)

run-after : (g : Graph) (cs : List (List ℕ)) (last : List ℕ) → IsRun g (At last) cs → All (StandsBefore last) cs
run-after g [] last h = All-nil (StandsBefore last)
run-after g (c ∷ cs) last h = All-cons (StandsBefore last) c cs h.0.after
    (All-weaker (StandsBefore c) (StandsBefore last) (λ d later. before-trans last c d h.0.after later) cs (run-after g cs c h.1))

run-every : (g : Graph) (cs : List (List ℕ)) (from : Spot) → IsRun g from cs → (d : List ℕ) → IsSimpleCycle g d → IsAfter from d → Contains cs d
run-every g [] from h d is after = absurd (h.none d is after)
run-every g (c ∷ cs) from h d is after = elim (upto-cases c d (h.0.first d is after)) [
  | inl same ↦ subst (Contains (c ∷ cs)) same (Contains-append_left (c ∷ []) cs c (Contains-push [] c))
  | inr before ↦ Contains-append_right (c ∷ []) cs d (run-every g cs (At c) h.1 d is before)
]

run-only : (g : Graph) (cs : List (List ℕ)) (from : Spot) → IsRun g from cs → All (IsSimpleCycle g) cs
run-only g [] from h = All-nil (IsSimpleCycle g)
run-only g (c ∷ cs) from h = All-cons (IsSimpleCycle g) c cs h.0.cycle (run-only g cs (At c) h.1)

run-ascending : (g : Graph) (cs : List (List ℕ)) (from : Spot) → IsRun g from cs → IsAscending cs
run-ascending g [] from h = tt
run-ascending g (c ∷ cs) from h = (run-after g cs c h.1, run-ascending g cs (At c) h.1)

pub runs-are-whole : RunsAreWhole
runs-are-whole g cs h = record {
  every = λ d is. run-every g cs Start h d is tt;
  only = run-only g cs Start h;
  ascending = run-ascending g cs Start h;
}
