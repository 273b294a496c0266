-- The edges of a switch: those of its cases, and that of `else`.
use Rattle.std.proofs.Common.{◌≡◌, ℕ, ◌+◌, List, [], ◌∷◌, ◌++◌, length, sym, ap, ◌∙◌, append_assoc, append-nil, arith}
use Rattle.std.specs.List.{flat_map}
use Rattle.ipg_facts_edges.specs.Edges.{numbered}

pub with_last : {A C B : Type 0} (f : ℕ → A → List B) (g : C → A) (n : ℕ) (cases : List C) (other : A)
    → numbered n (λ b c. f b (g c)) cases ++ f (n + length cases) other ≡ numbered n f (flat_map (λ c. g c ∷ []) cases ++ other ∷ [])
with_last f g n [] other = ap (λ m. f m other) (let e : n + 0 ≡ n = omega arith in e) ∙ sym (append-nil (f n other))
with_last f g n (c ∷ cases) other =
    append_assoc (f n (g c)) (numbered (n + 1) (λ b c. f b (g c)) cases) (f (n + length (c ∷ cases)) other)
    ∙ ap (λ m. f n (g c) ++ (numbered (n + 1) (λ b c. f b (g c)) cases ++ f m other)) (let e : n + length (c ∷ cases) ≡ n + 1 + length cases = omega arith in e)
    ∙ ap (λ es. f n (g c) ++ es) (with_last f g (n + 1) cases other)
