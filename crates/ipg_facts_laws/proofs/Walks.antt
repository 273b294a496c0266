-- A walk of as many edges as there are vertices holds a simple cycle.
use Rattle.std.proofs.Common.{◌≡◌, ◌≢◌, ℕ, suc, ◌<◌, ◌≤◌, ◌⊎◌, List, [], ◌∷◌, ◌++◌, map, length, refl, sym, ap, ◌∙◌, subst, inl, inr, arith}
use Rattle.std.specs.List.{AllByRecursion, Contains}
use Rattle.std.proofs.lemmas.Bool.{cases_eq, cases_lt}
use Rattle.std.proofs.lemmas.List.{map-append, length-map}
use Rattle.std.proofs.lemmas.List.Elements.{All-from_recursion, recursion_from_All, All-contains_itself, Contains-append_left, Contains-append_right}
use Rattle.ipg_graph.specs.Graph.{Graph, caller, callee, IsLive, IsWhole}
use Rattle.ipg_graph.specs.Cycle.{LeadsTo}
use Rattle.ipg_facts_laws.specs.Walks.{Leads, HoldsCycle, LongWalksHoldCycles}
use Rattle.ipg_facts_laws.proofs.Apart.{Apart, are_apart, apart_front, apart_swap, few}
use Rattle.ipg_facts_laws.proofs.Lists.{all_front, all_back, all_join, all_map, all_weaker}

-- the first part of a walk that comes to u
record Back (g : Graph) (u start : ℕ) (walk : List ℕ) : Type 0 where
  pub part : List ℕ
  pub rest : List ℕ
  pub splits : walk ≡ part ++ rest
  pub some : 0 < length part
  pub leads : Leads g start part u

further : (g : Graph) (u start e : ℕ) (walk : List ℕ) → caller g e ≡ start → Back g u (callee g e) walk → Back g u start (e ∷ walk)
further g u start e walk from b = record {
  part = e ∷ b.part;
  rest = b.rest;
  splits = ap (λ w. e ∷ w) b.splits;
  some = let s : 0 < suc (length b.part) = omega arith in s;
  leads = (from, b.leads);
}

back : (g : Graph) (u v start : ℕ) (walk : List ℕ) → Leads g start walk v → Back g u start walk ⊎ AllByRecursion (λ e. u ≢ callee g e) walk
back g u v start [] h = inr tt
back g u v start (e ∷ walk) h = elim (cases_eq u (callee g e)) [
  | inl same ↦ inl (record { part = e ∷ []; rest = walk; splits = refl; some = (let s : 0 < 1 = omega arith in s); leads = (h.0, sym same) })
  | inr other ↦ elim (back g u v (callee g e) walk h.1) [
    | inl b ↦ inl (further g u start e walk h.0 b)
    | inr none ↦ inr (other, none)
  ]
]

-- a closed part of a walk that comes to no vertex twice
record Circle (g : Graph) (walk : List ℕ) : Type 0 where
  pub vertex : ℕ
  pub part : List ℕ
  pub some : 0 < length part
  pub leads : Leads g vertex part vertex
  pub live : AllByRecursion (IsLive g) part
  pub apart : Apart (map (callee g) part)
  pub among : AllByRecursion (Contains walk) part

later : (g : Graph) (e : ℕ) (walk : List ℕ) → Circle g walk → Circle g (e ∷ walk)
later g e walk c = record {
  vertex = c.vertex;
  part = c.part;
  some = c.some;
  leads = c.leads;
  live = c.live;
  apart = c.apart;
  among = all_weaker (Contains walk) (Contains (e ∷ walk)) (λ x h. Contains-append_right (e ∷ []) walk x h) c.part c.among;
}

begun : (g : Graph) (u : ℕ) (walk : List ℕ) → AllByRecursion (IsLive g) walk → Apart (map (callee g) walk) → Back g u u walk → Circle g walk
begun g u walk live apart b =
    let itself = recursion_from_All (Contains b.part) b.part (All-contains_itself b.part) in
    let among = all_weaker (Contains b.part) (Contains (b.part ++ b.rest)) (λ x h. Contains-append_left b.part b.rest x h) b.part itself in
    record {
      vertex = u;
      part = b.part;
      some = b.some;
      leads = b.leads;
      live = all_front (IsLive g) b.part b.rest (subst (AllByRecursion (IsLive g)) b.splits live);
      apart = apart_front (map (callee g) b.part) (map (callee g) b.rest)
          (subst Apart (map-append (callee g) b.part b.rest) (subst (λ w. Apart (map (callee g) w)) b.splits apart));
      among = subst (λ w. AllByRecursion (Contains w) b.part) (sym b.splits) among;
    }

-- the vertices of a walk are apart, or it holds such a part
circle_or_apart : (g : Graph) (u v : ℕ) (walk : List ℕ) → AllByRecursion (IsLive g) walk → Leads g u walk v → Circle g walk ⊎ Apart (u ∷ map (callee g) walk)
circle_or_apart g u v [] live h = inr (tt, tt)
circle_or_apart g u v (e ∷ walk) live h = elim (circle_or_apart g (callee g e) v walk live.1 h.1) [
  | inl c ↦ inl (later g e walk c)
  | inr apart ↦ elim (back g u v u (e ∷ walk) h) [
    | inl b ↦ inl (begun g u (e ∷ walk) live apart b)
    | inr none ↦ inr (all_map (λ y. u ≢ y) (callee g) (e ∷ walk) none, apart)
  ]
]

-- a list parted before an edge whose caller is least
record Least (g : Graph) (part : List ℕ) : Type 0 where
  pub before : List ℕ
  pub edge : ℕ
  pub behind : List ℕ
  pub splits : part ≡ before ++ edge ∷ behind
  pub least : AllByRecursion (λ f. caller g edge ≤ caller g f) part

least : (g : Graph) (e : ℕ) (part : List ℕ) → Least g (e ∷ part)
least g e [] = record { before = []; edge = e; behind = []; splits = refl; least = ((let s : caller g e ≤ caller g e = omega arith in s), tt) }
least g e (f ∷ part) =
    let r = least g f part in
    elim (cases_lt (caller g r.edge) (caller g e)) [
      | inl less ↦ record {
        before = e ∷ r.before;
        edge = r.edge;
        behind = r.behind;
        splits = ap (λ w. e ∷ w) r.splits;
        least = ((let s : caller g r.edge ≤ caller g e = omega (arith, less) in s), r.least);
      }
      | inr le ↦ record {
        before = [];
        edge = e;
        behind = f ∷ part;
        splits = refl;
        least = (
          (let s : caller g e ≤ caller g e = omega arith in s),
          all_weaker (λ k. caller g r.edge ≤ caller g k) (λ k. caller g e ≤ caller g k)
              (λ k h. let s : caller g e ≤ caller g k = omega (arith, le, h) in s) (f ∷ part) r.least,
        );
      }
    ]

record Via (g : Graph) (u : ℕ) (xs ys : List ℕ) (v : ℕ) : Type 0 where
  pub between : ℕ
  pub first : Leads g u xs between
  pub second : Leads g between ys v

leads_split : (g : Graph) (u v : ℕ) (xs ys : List ℕ) → Leads g u (xs ++ ys) v → Via g u xs ys v
leads_split g u v [] ys h = record { between = u; first = refl; second = h }
leads_split g u v (e ∷ xs) ys h =
    let r = leads_split g (callee g e) v xs ys h.1 in
    record { between = r.between; first = (h.0, r.first); second = r.second }

pub leads_join : (g : Graph) (u m v : ℕ) (xs ys : List ℕ) → Leads g u xs m → Leads g m ys v → Leads g u (xs ++ ys) v
leads_join g u m v [] ys h k = subst (λ x. Leads g x ys v) (sym h) k
leads_join g u m v (e ∷ xs) ys h k = (h.0, leads_join g (callee g e) m v xs ys h.1 k)

leads_to : (g : Graph) (u v e : ℕ) (c : List ℕ) → Leads g u (e ∷ c) v → LeadsTo g v (e ∷ c)
leads_to g u v e [] h = h.1
leads_to g u v e (f ∷ c) h = (sym h.1.0, leads_to g (callee g e) v f c h.1)

callees_are : (g : Graph) (u v e : ℕ) (c : List ℕ) → Leads g u (e ∷ c) v → map (callee g) (e ∷ c) ≡ map (caller g) c ++ v ∷ []
callees_are g u v e [] h = ap (λ x. x ∷ []) h.1
callees_are g u v e (f ∷ c) h = ap (λ x. x ∷ map (callee g) (f ∷ c)) (sym h.1.0) ∙ ap (λ xs. caller g f ∷ xs) (callees_are g (callee g e) v f c h.1)

-- a closed walk that comes to no vertex twice leaves none twice
callers_apart : (g : Graph) (u e : ℕ) (c : List ℕ) → Leads g u (e ∷ c) u → Apart (map (callee g) (e ∷ c)) → Apart (map (caller g) (e ∷ c))
callers_apart g u e c h apart =
    let turned = apart_swap (map (caller g) c) (u ∷ []) (subst Apart (callees_are g u u e c h) apart) in
    subst (λ x. Apart (x ∷ map (caller g) c)) (sym h.0) turned

-- begun at its least caller, it is a simple cycle
turned : (g : Graph) (walk : List ℕ) (c : Circle g walk) → Least g c.part → HoldsCycle g walk
turned g walk c l =
    let whole : List ℕ = l.edge ∷ (l.behind ++ l.before) in
    let via = leads_split g c.vertex c.vertex l.before (l.edge ∷ l.behind) (subst (λ w. Leads g c.vertex w c.vertex) l.splits c.leads) in
    let closed : Leads g via.between whole via.between = leads_join g via.between c.vertex via.between (l.edge ∷ l.behind) l.before via.second via.first in
    let parted : Apart (map (callee g) l.before ++ map (callee g) (l.edge ∷ l.behind)) =
    subst Apart (map-append (callee g) l.before (l.edge ∷ l.behind)) (subst (λ w. Apart (map (callee g) w)) l.splits c.apart) in
    let apart : Apart (map (callee g) whole) =
    subst Apart (sym (map-append (callee g) (l.edge ∷ l.behind) l.before)) (apart_swap (map (callee g) l.before) (map (callee g) (l.edge ∷ l.behind)) parted) in
    record {
      cycle = whole;
      simple = record {
        live = All-from_recursion (IsLive g) whole (turn (IsLive g) c.live);
        walk = subst (λ v. LeadsTo g v whole) (sym closed.0) (leads_to g via.between via.between l.edge (l.behind ++ l.before) closed);
        once = are_apart (map (caller g) whole) (callers_apart g via.between l.edge (l.behind ++ l.before) closed apart);
        least = All-from_recursion (λ f. caller g l.edge ≤ caller g f) (l.behind ++ l.before) (turn (λ f. caller g l.edge ≤ caller g f) l.least).1;
      };
      among = All-from_recursion (Contains walk) whole (turn (Contains walk) c.among);
    }
  where
    turn : (P : ℕ → Type 0) → AllByRecursion P c.part → AllByRecursion P ((l.edge ∷ l.behind) ++ l.before)
    turn P all =
        let both = subst (AllByRecursion P) l.splits all in
        all_join P (l.edge ∷ l.behind) l.before (all_back P l.before (l.edge ∷ l.behind) both) (all_front P l.before (l.edge ∷ l.behind) both)

some_least : (g : Graph) (part : List ℕ) → 0 < length part → Least g part
some_least g [] some = absurd (let s : ⊥ = omega (arith, some) in s)
some_least g (e ∷ part) some = least g e part

callees_below : (g : Graph) → IsWhole g → (walk : List ℕ) → AllByRecursion (IsLive g) walk → AllByRecursion (λ x. x < g.rules) (map (callee g) walk)
callees_below g whole walk live =
    all_map (λ x. x < g.rules) (callee g) walk (all_weaker (IsLive g) (λ e. callee g e < g.rules) (λ e is. whole.inside e is) walk live)

pub long_walks_hold_cycles : LongWalksHoldCycles
long_walks_hold_cycles g u v walk whole start is long = elim (circle_or_apart g u v walk is.live is.leads) [
  | inl c ↦ turned g walk c (some_least g c.part c.some)
  | inr apart ↦ absurd (
      let size = few g.rules (u ∷ map (callee g) walk) apart (start, callees_below g whole walk is.live) in
      let s : ⊥ = omega (arith, size, length-map walk (callee g), long) in s)
]
