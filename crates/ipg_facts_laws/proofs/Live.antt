-- The edges of a good grammar that aren't dead, as a graph.
use Rattle.std.proofs.Common.{◌≡◌, ℕ, zero, suc, ◌<◌, ◌^◌, List, [], ◌∷◌, Bool, true, false, length, get_or, refl, sym, ap, ◌∙◌, subst, Some}
use Rattle.std.specs.Prelude.{slice_get, slice_index_or}
use Rattle.std.specs.List.{AllByRecursion}
use Rattle.ipg_graph.specs.declared.edge.Edge.{Edge}
use Rattle.ipg_graph.specs.Graph.{ends, graph_of, IsInside, IsWhole}

length-ends : (rules : ℕ) (end : Edge → ℕ) (edges : List Edge) (dead : List Bool) → length (ends rules end edges dead) ≡ length edges
length-ends rules end [] dead = refl
length-ends rules end (e ∷ edges) [] = ap suc (length-ends rules end edges [])
length-ends rules end (e ∷ edges) (d ∷ dead) = ap suc (length-ends rules end edges dead)

-- both ends are rules, or neither is
both-ends : (rules : ℕ) (f h : Edge → ℕ) → ((e : Edge) → IsInside rules e → h e < rules) → (edges : List Edge) (dead : List Bool) (i : ℕ)
    → AllByRecursion (IsInside rules) edges → get_or (ends rules f edges dead) i rules < rules → get_or (ends rules h edges dead) i rules < rules
both-ends rules f h inside [] dead i all lt = lt
both-ends rules f h inside (e ∷ edges) [] zero all lt = inside e all.0
both-ends rules f h inside (e ∷ edges) [] (suc i) all lt = both-ends rules f h inside edges [] i all.1 lt
both-ends rules f h inside (e ∷ edges) (true ∷ dead) zero all lt = lt
both-ends rules f h inside (e ∷ edges) (false ∷ dead) zero all lt = inside e all.0
both-ends rules f h inside (e ∷ edges) (d ∷ dead) (suc i) all lt = both-ends rules f h inside edges dead i all.1 lt

pub whole : (rules : ℕ) (edges : List Edge) (dead : List Bool) → length edges < 2 ^ 32 → AllByRecursion (IsInside rules) edges
    → IsWhole (graph_of rules edges dead)
whole rules edges dead few all = record {
  few = rw length-ends few;
  same = length-ends rules (λ e. e.callee) edges dead ∙ sym (length-ends rules (λ e. e.caller) edges dead);
  inside = λ i live. both-ends rules (λ e. e.caller) (λ e. e.callee) (λ e is. is.1) edges dead i all live;
  both = λ i live. both-ends rules (λ e. e.callee) (λ e. e.caller) (λ e is. is.0) edges dead i all live;
}

-- an end of an edge that isn't dead
pub end_of : (rules : ℕ) (end : Edge → ℕ) (edges : List Edge) (dead : List Bool) (i : ℕ) (e : Edge) → slice_get edges i ≡ Some e
    → slice_index_or dead i false ≡ false
    → get_or (ends rules end edges dead) i rules ≡ end e
end_of rules end [] dead i e at d = absurd (cc)
end_of rules end (f ∷ edges) [] zero e at d = let same : f ≡ e = cc in ap end same
end_of rules end (f ∷ edges) [] (suc i) e at d = end_of rules end edges [] i e at refl
end_of rules end (f ∷ edges) (true ∷ dead) zero e at d = absurd (cc)
end_of rules end (f ∷ edges) (false ∷ dead) zero e at d = let same : f ≡ e = cc in ap end same
end_of rules end (f ∷ edges) (g ∷ dead) (suc i) e at d = end_of rules end edges dead i e at d

pub inside_at : (rules : ℕ) (edges : List Edge) (i : ℕ) (e : Edge) → slice_get edges i ≡ Some e → AllByRecursion (IsInside rules) edges → IsInside rules e
inside_at rules [] i e at all = absurd (cc)
inside_at rules (f ∷ edges) zero e at all = let same : f ≡ e = cc in subst (IsInside rules) same all.0
inside_at rules (f ∷ edges) (suc i) e at all = inside_at rules edges i e at all.1
