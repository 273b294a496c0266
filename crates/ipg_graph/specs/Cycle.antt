-- Simple cycles, and their lexicographic order.
use Rattle.std.specs.Prelude.{◌≡◌, ℕ, ◌<◌, ◌≤◌, ◌⊎◌, List, [], ◌∷◌, ◌≢◌, map, All}
use Rattle.ipg_graph.specs.Graph.{Graph, caller, callee, IsLive}

-- the edges lead one into the next, and the last one to the vertex
abbrev pub LeadsTo : Graph → ℕ → List ℕ → Type 0
LeadsTo g v [] = ⊥
LeadsTo g v (e ∷ []) = callee g e ≡ v
LeadsTo g v (e ∷ f ∷ c) = (callee g e ≡ caller g f) × LeadsTo g v (f ∷ c)

-- each edge's callee is the caller of the next, and the last callee is the first caller
abbrev pub IsClosedWalk : Graph → List ℕ → Type 0
IsClosedWalk g [] = ⊥
IsClosedWalk g (e ∷ c) = LeadsTo g (caller g e) (e ∷ c)

-- the first caller has the least number
abbrev pub StartsLeast : Graph → List ℕ → Type 0
StartsLeast g [] = ⊥
StartsLeast g (e ∷ c) = All (λ f. caller g e ≤ caller g f) c

-- no number occurs twice
abbrev pub AreApart : List ℕ → Type 0
AreApart [] = Unit {0}
AreApart (x ∷ xs) = All (λ y. x ≢ y) xs × AreApart xs

pub record IsSimpleCycle (g : Graph) (c : List ℕ) : Type 0 where
  pub live : All (IsLive g) c
  pub walk : IsClosedWalk g c
  pub once : AreApart (map (caller g) c)
  pub least : StartsLeast g c

-- lexicographic order: c stands before d, or is d
abbrev pub StandsUpTo : List ℕ → List ℕ → Type 0
StandsUpTo [] d = Unit {0}
StandsUpTo (x ∷ c) [] = ⊥
StandsUpTo (x ∷ c) (y ∷ d) = (x < y) ⊎ ((x ≡ y) × StandsUpTo c d)

-- c stands before d
abbrev pub StandsBefore : List ℕ → List ℕ → Type 0
StandsBefore c [] = ⊥
StandsBefore [] (y ∷ d) = Unit {0}
StandsBefore (x ∷ c) (y ∷ d) = (x < y) ⊎ ((x ≡ y) × StandsBefore c d)
