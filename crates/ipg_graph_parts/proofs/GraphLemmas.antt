-- The ends of edges of which none is dead.
use Rattle.std.proofs.Common.{◌≡◌, ℕ, suc, ◌<◌, ◌≤◌, ◌^◌, List, [], ◌∷◌, ◌++◌, length, get_or, drop, refl, sym, ap, subst, ◌∙◌, inl, inr, arith, append-nil}
use Rattle.std.specs.List.{All}
use Rattle.std.proofs.lemmas.List.{get_or_past, drop_all}
use Rattle.std.proofs.lemmas.List.Elements.{All-nil, All-cons, All-head, All-tail, All-get_or, All-weaker}
use Rattle.std.proofs.lemmas.Bool.{cases_lt}
use Rattle.ipg_graph.specs.declared.edge.Edge.{Edge}
use Rattle.ipg_graph.specs.Graph.{ends, graph_of, IsInside, IsWhole}

pub length-ends : (rules : ℕ) (end : Edge → ℕ) (edges : List Edge) → length (ends rules end edges []) ≡ length edges
length-ends rules end [] = refl
length-ends rules end (e ∷ edges) = ap suc (length-ends rules end edges)

pub all-ends : (rules : ℕ) (end : Edge → ℕ) (edges : List Edge) → All (λ e. end e < rules) edges → All (λ v. v < rules) (ends rules end edges [])
all-ends rules end [] all = All-nil (λ v. v < rules)
all-ends rules end (e ∷ edges) all =
    All-cons (λ v. v < rules) (end e) (ends rules end edges []) (All-head (λ e. end e < rules) e edges all)
    (all-ends rules end edges (All-tail (λ e. end e < rules) e edges all))

pub ends-done : (rules : ℕ) (end : Edge → ℕ) (edges : List Edge) (done : List ℕ) (i : ℕ) → length edges ≤ i
    → done ++ ends rules end (drop i edges) [] ≡ ends rules end edges [] → done ≡ ends rules end edges []
ends-done rules end edges done i past h =
    sym (append-nil done) ∙ subst (λ left. done ++ ends rules end left [] ≡ ends rules end edges []) (drop_all i edges past) h

other-end : (rules : ℕ) (end other : Edge → ℕ) (edges : List Edge) (i : ℕ) → All (λ e. other e < rules) edges
    → get_or (ends rules end edges []) i rules < rules → get_or (ends rules other edges []) i rules < rules
other-end rules end other edges i all live = elim (cases_lt i (length edges)) [
  | inl lt ↦ All-get_or (λ v. v < rules) (ends rules other edges []) i rules (omega (arith, lt, length-ends rules other edges))
      (all-ends rules other edges all)
  | inr past ↦ absurd
      (let same : get_or (ends rules end edges []) i rules ≡ rules =
      get_or_past (ends rules end edges []) i rules (omega (arith, past, length-ends rules end edges)) in omega arith)
]

pub whole : (rules : ℕ) (edges : List Edge) → length edges < 2 ^ 32 → All (IsInside rules) edges → IsWhole (graph_of rules edges [])
whole rules edges few all = record {
  few = rw length-ends few;
  same = length-ends rules (λ e. e.callee) edges ∙ sym (length-ends rules (λ e. e.caller) edges);
  inside = λ i live. other-end rules (λ e. e.caller) (λ e. e.callee) edges i
      (All-weaker (IsInside rules) (λ e. e.callee < rules) (λ e is. is.1) edges all) live;
  both = λ i live. other-end rules (λ e. e.callee) (λ e. e.caller) edges i (All-weaker (IsInside rules) (λ e. e.caller < rules) (λ e is. is.0) edges all) live;
}
