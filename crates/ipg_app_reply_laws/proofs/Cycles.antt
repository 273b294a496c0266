-- Of lists of at most so many numbers for which something is so, there is a first one in lexicographic order; simple cycles are such.
use Rattle.std.proofs.Common.{◌≡◌, ◌≢◌, ℕ, zero, suc, ◌<◌, ◌≤◌, ◌||◌, inl, inr, eqb, sym, ap, ◌∙◌, subst, arith, List, [], ◌∷◌, length, map, true, false}
use Rattle.std.specs.List.{AllByRecursion, IsDistinct, list_any}
use Rattle.std.proofs.lemmas.Bool.{ne_eqb, true≢false}
use Rattle.std.proofs.lemmas.Bool.Decides.{eqb_tells}
use Rattle.std.proofs.lemmas.List.{length-map}
use Rattle.std.proofs.lemmas.List.Elements.{recursion_from_All}
use Rattle.std.proofs.lemmas.Map.Steps.{length-le_from_distinct_below}
use Rattle.ipg_graph.specs.Graph.{Graph, caller, IsLive}
use Rattle.ipg_graph.specs.Cycle.{IsSimpleCycle, StandsBefore, AreApart}
use Rattle.ipg_app_reply_laws.proofs.Classical.{Somehow, some, ◌>>=◌, by, middle, First, first_of}

-- ---- the first list

pub record FirstList (P : List ℕ → Type 0) : Type 0 where
  pub list : List ℕ
  pub holds : P list
  pub before : (other : List ℕ) → P other → StandsBefore other list → ⊥

abbrev IsShort : (List ℕ → Type 0) → ℕ → Type 0
IsShort P n = (c : List ℕ) → P c → length c ≤ n

abbrev Begins : (List ℕ → Type 0) → ℕ → Type 0
Begins P x = (c : List ℕ) × P (x ∷ c)

none_before : (P : List ℕ → Type 0) (f : First (Begins P)) (rest : FirstList (λ c. P (f.at ∷ c))) → (P [] → ⊥)
    → (other : List ℕ) → P other → StandsBefore other (f.at ∷ rest.list) → ⊥
none_before P f rest empty [] p h = empty p
none_before P f rest empty (y ∷ other) p (inl less) = f.before y less (other, p)
none_before P f rest empty (y ∷ other) p (inr same) = rest.before other (subst (λ x. P (x ∷ other)) same.0 p) same.1

nothing_before : (P : List ℕ → Type 0) (other : List ℕ) → P other → StandsBefore other [] → ⊥
nothing_before P other p h = h

pub first_list : (n : ℕ) (P : List ℕ → Type 0) → IsShort P n → (c : List ℕ) → P c → Somehow (FirstList P)
first_list n P short [] p = some (record { list = []; holds = p; before = nothing_before P })
first_list zero P short (x ∷ c) p = absurd (let no = short (x ∷ c) p in omega (arith, no))
first_list (suc n) P short (x ∷ c) p = do
  empty ← middle (P [])
  by empty (λ q. some (record { list = []; holds = q; before = nothing_before P })) (λ not. do
    f ← first_of (Begins P) x (c, p)
    rest ← first_list n (λ d. P (f.at ∷ d)) (λ d q. let le = short (f.at ∷ d) q in omega (arith, le)) f.holds.0 f.holds.1
    some (record { list = f.at ∷ rest.list; holds = rest.holds; before = none_before P f rest not }))

-- ---- simple cycles are no longer than there are rules

all_weaker : {X : Type 0} (P Q : X → Type 0) → ((x : X) → P x → Q x) → (xs : List X) → AllByRecursion P xs → AllByRecursion Q xs
all_weaker P Q f [] h = tt
all_weaker P Q f (x ∷ xs) h = (f x h.0, all_weaker P Q f xs h.1)

distinct : (xs : List ℕ) → AreApart xs → IsDistinct eqb xs
unfolding IsDistinct
distinct [] h = tt
distinct (x ∷ xs) h =
    (all_weaker (λ y. x ≢ y) (λ y. eqb x y ≡ false) (λ y ne. ne_eqb x y ne) xs (recursion_from_All (λ y. x ≢ y) xs h.0), distinct xs h.1)

member_below : (n q : ℕ) (xs : List ℕ) → AllByRecursion (λ x. x < n) xs → list_any (eqb q) xs ≡ true → q < n
member_below n q [] h e = absurd (true≢false (sym e))
member_below n q (x ∷ xs) h e = elim (eqb_tells q x) [
  | inl same ↦ subst (λ y. y < n) (sym same.1) h.0
  | inr other ↦ member_below n q xs h.1 (sym (ap (λ b. b || list_any (eqb q) xs) other.0) ∙ e)
]

few : (n : ℕ) (xs : List ℕ) → AreApart xs → AllByRecursion (λ x. x < n) xs → length xs ≤ n
few n xs apart all = length-le_from_distinct_below xs n (distinct xs apart) (λ q e. member_below n q xs all e)

callers_below : (g : Graph) (c : List ℕ) → AllByRecursion (IsLive g) c → AllByRecursion (λ x. x < g.rules) (map (caller g) c)
callers_below g [] h = tt
callers_below g (e ∷ c) h = (h.0, callers_below g c h.1)

pub cycles_short : (g : Graph) (c : List ℕ) → IsSimpleCycle g c → length c ≤ g.rules
cycles_short g c h =
    subst (λ n. n ≤ g.rules) (length-map c (caller g))
    (few g.rules (map (caller g) c) h.once (callers_below g c (recursion_from_All (IsLive g) c h.live)))
