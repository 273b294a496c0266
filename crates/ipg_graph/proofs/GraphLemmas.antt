-- What holds of the ends of edges.
use Rattle.std.proofs.Common.{◌≡◌, ℕ, zero, suc, ◌+◌, ◌<◌, ◌≤◌, ◌^◌, List, [], ◌∷◌, ◌++◌, Bool, true, false, cond}
use Rattle.std.proofs.Common.{length, get_or, drop, refl, sym, ap, ◌∙◌, inl, inr, arith, append_assoc}
use Rattle.std.specs.List.{All}
use Rattle.std.proofs.lemmas.List.{append-nil, get_or_past, drop_all, drop_more}
use Rattle.std.proofs.lemmas.List.Elements.{All-head, All-tail}
use Rattle.std.proofs.lemmas.Bool.{cases_lt}
use Rattle.ipg_graph.specs.declared.edge.Edge.{Edge}
use Rattle.ipg_graph.specs.Graph.{Graph, caller, IsLive, ends, graph_of, IsInside, IsWhole}

pub length-ends : (rules : ℕ) (end : Edge → ℕ) (edges : List Edge) (dead : List Bool) → length (ends rules end edges dead) ≡ length edges
length-ends rules end [] dead = refl
length-ends rules end (e ∷ edges) [] = ap suc (length-ends rules end edges [])
length-ends rules end (e ∷ edges) (d ∷ dead) = ap suc (length-ends rules end edges dead)

-- both ends are rules, or neither is
ends-both : (rules : ℕ) (f h : Edge → ℕ) → ((e : Edge) → IsInside rules e → h e < rules) → (edges : List Edge) (dead : List Bool) (i : ℕ)
    → All (IsInside rules) edges → get_or (ends rules f edges dead) i rules < rules → get_or (ends rules h edges dead) i rules < rules
ends-both rules f h inside [] dead i all lt = lt
ends-both rules f h inside (e ∷ edges) [] zero all lt = inside e (All-head (IsInside rules) e edges all)
ends-both rules f h inside (e ∷ edges) [] (suc i) all lt = ends-both rules f h inside edges [] i (All-tail (IsInside rules) e edges all) lt
ends-both rules f h inside (e ∷ edges) (true ∷ dead) zero all lt = lt
ends-both rules f h inside (e ∷ edges) (false ∷ dead) zero all lt = inside e (All-head (IsInside rules) e edges all)
ends-both rules f h inside (e ∷ edges) (d ∷ dead) (suc i) all lt = ends-both rules f h inside edges dead i (All-tail (IsInside rules) e edges all) lt

pub whole-graph_of : (rules : ℕ) (edges : List Edge) (dead : List Bool) → length edges < 2 ^ 32 → All (IsInside rules) edges
    → IsWhole (graph_of rules edges dead)
whole-graph_of rules edges dead few all = record {
  few = rw length-ends few;
  same = length-ends rules (λ e. e.callee) edges dead ∙ sym (length-ends rules (λ e. e.caller) edges dead);
  inside = λ i live. ends-both rules (λ e. e.caller) (λ e. e.callee) (λ e is. is.1) edges dead i all live;
  both = λ i live. ends-both rules (λ e. e.callee) (λ e. e.caller) (λ e is. is.0) edges dead i all live;
}

pub live-in : (g : Graph) (e : ℕ) → IsLive g e → e < length g.callers
live-in g e live = elim (cases_lt e (length g.callers)) [
  | inl lt ↦ lt
  | inr past ↦ absurd (let same : caller g e ≡ g.rules = get_or_past g.callers e g.rules past in omega arith)
]

-- one more edge's end, in a loop over both lists
pub ends-none : (rules : ℕ) (end : Edge → ℕ) (edges : List Edge) (dead : List Bool)
    → [] ++ ends rules end (drop 0 edges) (drop 0 dead) ≡ ends rules end edges dead
ends-none rules end [] dead = refl
ends-none rules end (e ∷ edges) [] = refl
ends-none rules end (e ∷ edges) (d ∷ dead) = refl

pub ends-more : (rules : ℕ) (end : Edge → ℕ) (edges : List Edge) (dead : List Bool) (made : List ℕ) (i : ℕ) (e : Edge) (d : Bool) (n : ℕ) → i < length edges
    → length dead ≡ length edges → e ≡ get_or edges i e → d ≡ get_or dead i d → n ≡ cond d rules (end e) → made ++ ends rules end (drop i edges) (drop i dead)
    ≡ ends rules end edges dead → (made ++ n ∷ []) ++ ends rules end (drop (i + 1) edges) (drop (i + 1) dead) ≡ ends rules end edges dead
ends-more rules end edges dead made i e d n in' flags at flag is so =
    let step : ends rules end (drop i edges) (drop i dead) ≡ n ∷ ends rules end (drop (i + 1) edges) (drop (i + 1) dead) =
    rw (drop_more edges i e in', drop_more dead i d (omega (arith, flags)), ← at, ← flag)
    (ap (λ m. m ∷ ends rules end (drop (i + 1) edges) (drop (i + 1) dead)) (sym is)) in
    append_assoc made (n ∷ []) _ ∙ (ap (λ l. made ++ l) (sym step) ∙ so)

pub ends-all : (rules : ℕ) (end : Edge → ℕ) (edges : List Edge) (dead : List Bool) (made : List ℕ) (i : ℕ) → length edges ≤ i
    → made ++ ends rules end (drop i edges) (drop i dead) ≡ ends rules end edges dead → made ≡ ends rules end edges dead
ends-all rules end edges dead made i past so =
    sym (append-nil made) ∙ (ap (λ l. made ++ ends rules end l (drop i dead)) (sym (drop_all i edges past)) ∙ so)
