-- A cycle stays simple where the ends of its edges stay.
use Rattle.std.proofs.Common.{◌≡◌, ℕ, ◌<◌, ◌≤◌, List, [], ◌∷◌, map, refl, sym, ap, subst, ◌∙◌, arith}
use Rattle.std.specs.List.{AllByRecursion}
use Rattle.std.proofs.lemmas.List.Elements.{All-from_recursion, recursion_from_All}
use Rattle.ipg_graph.specs.Graph.{Graph, caller, callee, IsLive}
use Rattle.ipg_graph.specs.Cycle.{IsSimpleCycle, LeadsTo, IsClosedWalk, AreApart, StartsLeast}

-- the edge has the same ends in both
abbrev pub SameEnds : Graph → Graph → ℕ → Type 0
SameEnds g h e = (caller g e ≡ caller h e) × (callee g e ≡ callee h e)

below : (a b m n : ℕ) → a ≡ b → m ≡ n → a < m → b < n
below a b m n e f l = omega arith

up_to : (a b m n : ℕ) → a ≡ b → m ≡ n → a ≤ m → b ≤ n
up_to a b m n e f l = omega arith

module _ (g h : Graph) (rules : g.rules ≡ h.rules) where
  leads : (v w : ℕ) (c : List ℕ) → v ≡ w → AllByRecursion (SameEnds g h) c → LeadsTo g v c → LeadsTo h w c
  leads v w [] e same l = absurd l
  leads v w (a ∷ []) e same l = sym same.0.1 ∙ l ∙ e
  leads v w (a ∷ b ∷ c) e same l = (sym same.0.1 ∙ l.0 ∙ same.1.0.0, leads v w (b ∷ c) e same.1 l.1)

  walks : (c : List ℕ) → AllByRecursion (SameEnds g h) c → IsClosedWalk g c → IsClosedWalk h c
  walks [] same w = w
  walks (a ∷ c) same w = leads (caller g a) (caller h a) (a ∷ c) same.0.0 same w

  callers : (c : List ℕ) → AllByRecursion (SameEnds g h) c → map (caller g) c ≡ map (caller h) c
  callers [] same = refl
  callers (a ∷ c) same = ap (λ v. v ∷ map (caller g) c) same.0.0 ∙ ap (λ vs. caller h a ∷ vs) (callers c same.1)

  live : (c : List ℕ) → AllByRecursion (SameEnds g h) c → AllByRecursion (IsLive g) c → AllByRecursion (IsLive h) c
  live [] same l = tt
  live (a ∷ c) same l = (below _ _ _ _ same.0.0 rules l.0, live c same.1 l.1)

  least : (v w : ℕ) (c : List ℕ) → v ≡ w → AllByRecursion (SameEnds g h) c → AllByRecursion (λ f. v ≤ caller g f) c → AllByRecursion (λ f. w ≤ caller h f) c
  least v w [] e same l = tt
  least v w (a ∷ c) e same l = (up_to _ _ _ _ e same.0.0 l.0, least v w c e same.1 l.1)

  starts : (c : List ℕ) → AllByRecursion (SameEnds g h) c → StartsLeast g c → StartsLeast h c
  starts [] same l = l
  starts (a ∷ c) same l =
      All-from_recursion (λ f. caller h a ≤ caller h f) c
      (least (caller g a) (caller h a) c same.0.0 same.1 (recursion_from_All (λ f. caller g a ≤ caller g f) c l))

  pub still_simple : (c : List ℕ) → AllByRecursion (SameEnds g h) c → IsSimpleCycle g c → IsSimpleCycle h c
  still_simple c same simple = record {
    live = All-from_recursion (IsLive h) c (live c same (recursion_from_All (IsLive g) c simple.live));
    walk = walks c same simple.walk;
    once = subst AreApart (callers c same) simple.once;
    least = starts c same simple.least;
  }
