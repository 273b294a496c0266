-- Leaves cover each place of a part, or a gap formula has a solution.
use Rattle.std.proofs.Common.{◌≡◌, ℕ, zero, suc, ◌+◌, ◌-◌, ◌<◌, ◌≤◌, refl, sym, subst, arith, List, [], ◌∷◌, length, drop}
use Rattle.std.proofs.Common.{Some, Ok, ◌⊎◌, inl, inr, Bool, true, false, nat_lt, nat_le}
use Rattle.std.specs.Prelude.{slice_get}
use Rattle.std.specs.List.{AllByRecursion}
use Rattle.std.proofs.lemmas.List.{length-take, length-drop}
use Rattle.std.proofs.lemmas.Bool.Decides.{nat_tests}
use Rattle.std.proofs.lemmas.Option.{slice_get_within}
use Rattle.ipg_core.specs.Grammar.{Grammar}
use Rattle.ipg_core.specs.Part.{part}
use Rattle.ipg_core.specs.Tree.{Tree, Kid, Sub, Token, Number, Raw, Array, Many, kids_of}
use Rattle.ipg_core.specs.Touch.{width}
use Rattle.ipg_core.specs.Environment.{Values}
use Rattle.ipg_core.specs.Run.{Asked}
use Rattle.ipg_core.specs.Meaning.{kids_done, node_of, rule_on, den}
use Rattle.ipg_core.specs.MustTouch.{Marks, AreLimit}
use Rattle.ipg_core.specs.Good.{Good}
use Rattle.ipg_core.specs.Grown.{IsInput, Grown}
use Rattle.ipg_core.specs.Total.{Fits}
use Rattle.ipg_core.specs.Within.{TreeWithin, KidWithin, KidsWithin}
use Rattle.ipg_core.specs.Laws.{LiesWithin, HoldsItsBytes, AskedFits, AsksWhatFits}
use Rattle.ipg_graph.specs.declared.edge.Edge.{Edge}
use Rattle.ipg_facts_edges.specs.Edges.{edges_of}
use Rattle.ipg_facts_laws.specs.Ends.{IsEdgeCall, CallsAreEdges}
use Rattle.ipg_facts_laws.specs.Missed.{IsOutside, Misses, AllMissedSolve}
use Rattle.ipg_cover_leaves.specs.Covers.{IsAmong, TreeCovers, KidCovers, KidsCover, CoveredIsPut}
use Rattle.ipg_cover_laws.specs.Reaches.{Reaches, itself, further}
use Rattle.ipg_cover_laws.specs.Missed.{GapBelow, MissedPlacesSolve}
use Rattle.ipg_cover_laws.proofs.Results.{Answers, IsKnown}
use Rattle.ipg_cover_laws.proofs.Alternatives.{rule_there, TreeOf, tree_of}

-- ---- where a place lies

among_by : (low high : Bool) (from n place : ℕ) → nat_le from place ≡ low → nat_lt place (from + n) ≡ high
    → IsAmong from n place ⊎ IsOutside from (from + n) place
among_by true true from n place e f = inl (record { begun = grind (arith, nat_tests); ends = grind (arith, nat_tests) })
among_by false high from n place e f = inr (inl (grind (arith, nat_tests)))
among_by true false from n place e f = inr (inr (grind (arith, nat_tests)))

among : (from n place : ℕ) → IsAmong from n place ⊎ IsOutside from (from + n) place
among from n place = among_by (nat_le from place) (nat_lt place (from + n)) from n place refl refl

part_length : (s : List ℕ) (from to : ℕ) → from ≤ to → to ≤ length s → length (part s from to) ≡ to - from
part_length s from to h k = omega (arith, length-take (to - from) (drop from s), length-drop from s)

-- ---- rules that calls lead to

-- what the callee leads to, the caller does
pub reached_by : (g : Grammar) (number : ℕ) (e : Edge) (last : ℕ) → slice_get (edges_of g) number ≡ Some e → Reaches g e.callee last → Reaches g e.caller last
reached_by g number e last is itself = further number e is itself
reached_by g number e last is (further m other at before) = further m other at (reached_by g number e other.caller is before)

below_call : (g : Grammar) (marks : Marks) (number : ℕ) (e : Edge) (r callee : ℕ) → slice_get (edges_of g) number ≡ Some e → e.caller ≡ r → e.callee ≡ callee
    → GapBelow g marks callee → GapBelow g marks r
below_call g marks number e r callee is from to gap = record {
  at = gap.at;
  reached = subst (λ q. Reaches g q gap.at.0) from (reached_by g number e gap.at.0 is (subst (λ q. Reaches g q gap.at.0) (sym to) gap.reached));
  rule = gap.rule;
  alt = gap.alt;
  is_at = gap.is_at;
  size = gap.size;
  place = gap.place;
  inside = gap.inside;
  small = gap.small;
  solves = gap.solves;
}

-- ---- results

-- a tree on the part from `from` to `to` covers each place of it, or `Else` holds
abbrev pub CoversAll : Type 0 → ℕ → ℕ → Tree → Type 0
CoversAll Else from to tree = (place : ℕ) → from ≤ place → place < to → TreeCovers (place - from) tree ⊎ Else

module _ (Else : Type 0) (n place : ℕ) where
  -- a result covers the place, or misses it
  abbrev IsSeen : Kid → Type 0
  IsSeen k = KidCovers place k ⊎ (Misses place k ⊎ Else)

  sub_seen : (from to : ℕ) (tree : Tree) → CoversAll Else from to tree → IsAmong from (to - from) place ⊎ IsOutside from (from + (to - from)) place → from ≤ to
      → IsSeen (Sub from to tree)
  sub_seen from to tree covers (inr (inl h)) le = inr (inl (inl h))
  sub_seen from to tree covers (inr (inr h)) le = inr (inl (inr (omega arith)))
  sub_seen from to tree covers (inl h) le =
      let begun = h.begun in let ends = h.ends in
      elim (covers place begun (omega arith)) [ inl c ↦ inl (begun, c) | inr other ↦ inr (inr other) ]

  bytes_seen : (k : Kid) (from m : ℕ) → (IsAmong from m place → KidCovers place k) → (IsOutside from (from + m) place → Misses place k)
      → IsAmong from m place ⊎ IsOutside from (from + m) place → IsSeen k
  bytes_seen k from m h g (inl c) = inl (h c)
  bytes_seen k from m h g (inr c) = inr (inl (g c))

  raw_outside : (from to m : ℕ) → m ≡ to - from → from ≤ to → IsOutside from (from + m) place → IsOutside from to place
  raw_outside from to m e le (inl h) = inl h
  raw_outside from to m e le (inr h) = inr (omega arith)

  kid_seen : (k : Kid) → IsKnown (CoversAll Else) k → KidWithin n k → IsSeen k
  kid_seen (Sub from to tree) known within = sub_seen from to tree known (among from (to - from) place) within.0.valid
  kid_seen (Token from to bytes) known within =
      bytes_seen (Token from to bytes) from (length bytes) (λ c. c) (λ c. c) (among from (length bytes) place)
  kid_seen (Number from to prim high low) known within =
      bytes_seen (Number from to prim high low) from (width prim) (λ c. c) (λ c. c) (among from (width prim) place)
  kid_seen (Raw from to bytes) known within =
      bytes_seen (Raw from to bytes) from (length bytes) (λ c. c) (raw_outside from to (length bytes) within.1 within.0.valid)
      (among from (length bytes) place)
  kid_seen (Array one items) known within = inr (inl tt)
  kid_seen (Many one items) known within = inr (inl tt)

  -- some result covers the place, or all miss it
  abbrev AreSeen : List Kid → Type 0
  AreSeen ks = KidsCover place (kids_of ks) ⊎ (AllByRecursion (Misses place) ks ⊎ Else)

  more_seen : (k : Kid) (ks : List Kid) → IsSeen k → AreSeen ks → AreSeen (k ∷ ks)
  more_seen k ks (inl c) rest = inl (inl c)
  more_seen k ks (inr one) (inl c) = inl (inr c)
  more_seen k ks (inr (inr other)) (inr rest) = inr (inr other)
  more_seen k ks (inr (inl m)) (inr (inr other)) = inr (inr other)
  more_seen k ks (inr (inl m)) (inr (inl ms)) = inr (inl (m, ms))

  kids_seen : (ks : List Kid) → AllByRecursion (IsKnown (CoversAll Else)) ks → KidsWithin n (kids_of ks) → AreSeen ks
  kids_seen [] known within = inr (inl tt)
  kids_seen (k ∷ ks) known within = more_seen k ks (kid_seen k known.0 within.0) (kids_seen ks known.1 within.1)

-- ---- trees

all_two : {X : Type 0} (A B C : X → Type 0) (xs : List X) → ((x : X) → A x → B x → C x) → AllByRecursion A xs → AllByRecursion B xs → AllByRecursion C xs
all_two A B C [] h a b = tt
all_two A B C (x ∷ xs) h a b = (h x a.0 b.0, all_two A B C xs h a.1 b.1)

module _ (asks : AsksWhatFits) (edges : CallsAreEdges) (lies : LiesWithin) (solve : AllMissedSolve) (g : Grammar) (good : Good g) (marks : Marks)
    (limit : AreLimit g marks) where
  abbrev CoversTo : ℕ → Type 0
  CoversTo h = (r : ℕ) (s : List ℕ) (outer : Values) (tree : Tree) → IsInput s → Grown g r s outer → den g h r s outer ≡ Ok tree
      → (place : ℕ) → place < length s → TreeCovers place tree ⊎ GapBelow g marks r

  module _ (h : ℕ) (before : CoversTo h) (r : ℕ) (s : List ℕ) (outer : Values) (tree : Tree) (input : IsInput s) (grown : Grown g r s outer)
      (is : den g (suc h) r s outer ≡ Ok tree) where
    abbrev Else : Type 0
    Else = GapBelow g marks r

    answer : (rule_on (den g h) g r s outer).answer ≡ Ok tree
    unfolding den
    answer = is

    fits : Fits g r s outer
    fits =
        let there = rule_there (den g h) g r s outer tree answer in
        record { rule = slice_get_within g.rules r there.0 there.1; input = input; grown = grown }

    or_below : (asked : Asked) (place : ℕ) (t : Tree) → IsEdgeCall g h r s outer asked → TreeCovers place t ⊎ GapBelow g marks asked.callee
        → TreeCovers place t ⊎ Else
    or_below asked place t edge (inl c) = inl c
    or_below asked place t edge (inr gap) = inr (below_call g marks edge.number edge.edge r asked.callee edge.at edge.caller edge.callee gap)

    call_covers : (asked : Asked) → AskedFits g s asked → IsEdgeCall g h r s outer asked → Answers (den g h) s (CoversAll Else) asked
    call_covers asked fit edge t e place begun ends =
        let n = part_length s asked.from asked.to fit.valid fit.inside in
        or_below asked (place - asked.from) t edge
        (before asked.callee (part s asked.from asked.to) asked.outer t fit.fits.input fit.fits.grown e (place - asked.from) (omega arith))

    all_cover : AllByRecursion (Answers (den g h) s (CoversAll Else)) (rule_on (den g h) g r s outer).asked
    all_cover =
        all_two (AskedFits g s) (IsEdgeCall g h r s outer) (Answers (den g h) s (CoversAll Else)) _ call_covers (asks g h r s outer good fits)
        (edges g h r s outer)

    of : TreeOf (CoversAll Else) g h r s outer tree
    of = tree_of (CoversAll Else) g h r s outer tree (record { answer = answer; asks = all_cover })

    abbrev results : List Kid
    results = kids_done of.end.state.done

    within : KidsWithin (length s) (kids_of results)
    unfolding node_of
    within = (subst (TreeWithin (length s)) (sym of.is) (lies g (suc h) r s outer tree is)).2

    covered : (place : ℕ) → KidsCover place (kids_of results) → TreeCovers place tree
    unfolding node_of
    covered place c = subst (TreeCovers place) of.is c

    solved : (place : ℕ) → place < length s → AllByRecursion (Misses place) results → GapBelow g marks r
    solved place lt missed = record {
      at = (r, of.number);
      reached = itself;
      rule = of.end.rule;
      alt = of.end.alt;
      is_at = of.end.is_at;
      size = length s;
      place = place;
      inside = lt;
      small = input.size;
      solves = solve g marks (r, of.number) s outer h place good limit input grown lt of.end missed;
    }

    by_results : (place : ℕ) → place < length s → AreSeen Else (length s) place results → TreeCovers place tree ⊎ Else
    by_results place lt (inl c) = inl (covered place c)
    by_results place lt (inr (inl missed)) = inr (solved place lt missed)
    by_results place lt (inr (inr gap)) = inr gap

    covers_next : (place : ℕ) → place < length s → TreeCovers place tree ⊎ Else
    covers_next place lt = by_results place lt (kids_seen Else (length s) place results of.known within)

  none : {P : Type 0} (r : ℕ) (s : List ℕ) (outer : Values) (tree : Tree) → den g 0 r s outer ≡ Ok tree → P
  unfolding den
  none r s outer tree e = absurd (cc)

  covers : (h : ℕ) → CoversTo h
  covers zero r s outer tree input grown is = none r s outer tree is
  covers (suc h) r s outer tree input grown is = covers_next h (covers h) r s outer tree input grown is

pub missed_places_solve : AsksWhatFits → CallsAreEdges → LiesWithin → AllMissedSolve → HoldsItsBytes → CoveredIsPut → MissedPlacesSolve
missed_places_solve asks edges lies solve holds put g marks height rule s outer tree place good limit input grown is lt =
    elim (covers asks edges lies solve g good marks limit height rule s outer tree input grown is place lt) [
      | inl c ↦ inl (put s tree place input.bytes (holds g height rule s outer tree is) c)
      | inr gap ↦ inr gap
    ]
