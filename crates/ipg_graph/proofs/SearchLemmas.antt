-- The search's moves, over plain walks.
use Rattle.std.proofs.Common.{◌≡◌, ℕ, ◌<◌, ◌≤◌, ◌⊎◌, List, [], ◌∷◌, ◌++◌, Bool, true, false, not, ◌&&◌, ltb}
use Rattle.std.proofs.Common.{length, get_or, set, replicate, refl, sym, ap, ◌∙◌, subst, inl, inr, arith}
use Rattle.std.proofs.lemmas.Bool.{cases_eq, cases_lt, false≢true, and_cases, and_from, lt-ltb, not_from_false}
use Rattle.std.proofs.lemmas.List.{get_or_past, length_push}
use Rattle.ipg_graph.specs.Graph.{Graph, caller, callee, IsLive, IsWhole}
use Rattle.ipg_graph.specs.Chain.{IsFirst, callers_of}
use Rattle.ipg_graph.specs.Marks.{IsUnseen, marked, Grows}
use Rattle.ipg_graph.specs.Cycle.{StandsUpTo}
use Rattle.ipg_graph.specs.Walk.{Now, Fresh, Open, Closed, Lost, blank, is_free, enter, step, run, Closes, IsBarren, state_of}
use Rattle.ipg_graph.specs.Place.{IsSame, IsBehind}
use Rattle.ipg_graph.specs.Reach.{IsClosed}
use Rattle.ipg_graph.proofs.MarksLemmas.{set-back, grows-set, marked-set}
use Rattle.ipg_graph.proofs.GraphLemmas.{live-in}
use Rattle.ipg_graph.proofs.WalkLemmas.{run-push, run-lost, barren-lost, barren-is, kinds, Closing, Opening}
use Rattle.ipg_graph.proofs.WalkLemmas.{Losing, step-at, step-off, step-first, step-dead, no-way}
use Rattle.ipg_graph.proofs.PlaceLemmas.{same-skip, same-push, same-pop, behind-found}

pub state-open : (p : List ℕ) (start tip : ℕ) (seen : List Bool) → 0 < length p → state_of p start tip seen ≡ Open start tip seen
state-open [] start tip seen h = absurd (omega arith)
state-open (x ∷ p) start tip seen h = refl

pub state-push : (p : List ℕ) (e start tip : ℕ) (seen : List Bool) → state_of (p ++ e ∷ []) start tip seen ≡ Open start tip seen
state-push [] e start tip seen = refl
state-push (x ∷ p) e start tip seen = refl

pub closed-grows : (g : Graph) (start : ℕ) (seen later marks : List Bool) → Grows seen later → IsClosed g start seen marks → IsClosed g start later marks
closed-grows g start seen later marks grows h = record {
  callers = λ e counts to. h.callers e (record { above = counts.above; unseen = grows.kept (caller g e) counts.unseen }) to;
}

-- nothing is set
pub unmarked : (flags : List Bool) → marked flags ≡ 0 → flags ≡ replicate (length flags) false
unmarked [] h = refl
unmarked (true ∷ flags) h = absurd (omega (arith, h))
unmarked (false ∷ flags) h = ap (λ l. false ∷ l) (unmarked flags h)

-- over an edge: what an open state came from
record Entered (start : ℕ) (seen : List Bool) (v to tip : ℕ) (flags : List Bool) : Type 0 where
  pub start_is : start ≡ to
  pub tip_is : v ≡ tip
  pub unseen : IsUnseen seen tip
  pub flags_are : flags ≡ set seen tip true

entered : (g : Graph) (start : ℕ) (seen : List Bool) (v to tip : ℕ) (flags : List Bool) → enter g start seen v ≡ Open to tip flags
    → Entered start seen v to tip flags
entered g start seen v to tip flags h = elim (kinds g start seen v) [
  | Closing _ is ↦ cc
  | Losing is ↦ cc
  | Opening above free is ↦
      let same : v ≡ tip = cc in
      record {
        start_is = cc;
        tip_is = same;
        unseen = subst (IsUnseen seen) same free;
        flags_are = let f : set seen v true ≡ flags = cc in sym f ∙ ap (λ u. set seen u true) same;
      }
]

record Before (g : Graph) (x : Now) (e start tip : ℕ) (flags : List Bool) : Type 0 where
  pub seen : List Bool
  pub tip_is : callee g e ≡ tip
  pub unseen : IsUnseen seen tip
  pub flags_are : flags ≡ set seen tip true
  pub was : (x ≡ Open start (caller g e) seen) ⊎ (x ≡ Fresh)

before : (g : Graph) (x : Now) (e start tip : ℕ) (flags : List Bool) → step g x e ≡ Open start tip flags → Before g x e start tip flags
unfolding step
before g Fresh e start tip flags h = elim (cases_lt (caller g e) g.rules) [
  | inl live ↦
      let i = entered g (caller g e) (blank g) (callee g e) start tip flags (sym (step-first g e live) ∙ h) in
      record { seen = blank g; tip_is = i.tip_is; unseen = i.unseen; flags_are = i.flags_are; was = inr refl }
  | inr dead ↦ absurd (let is : Lost ≡ Open start tip flags = sym (step-dead g e dead) ∙ h in cc)
]
before g (Open from at seen) e start tip flags h = elim (cases_eq (caller g e) at) [
  | inl same ↦
      let i = entered g from seen (callee g e) start tip flags (sym (step-at g from at seen e same) ∙ h) in
      record {
        seen = seen;
        tip_is = i.tip_is;
        unseen = i.unseen;
        flags_are = i.flags_are;
        was = inl (ap (λ v. Open v at seen) i.start_is ∙ ap (λ v. Open start v seen) (sym same));
      }
  | inr ne ↦ absurd (let is : Lost ≡ Open start tip flags = sym (step-off g from at seen e ne) ∙ h in cc)
]
before g Closed e start tip flags h = absurd (let is : Lost ≡ Open start tip flags = h in cc)
before g Lost e start tip flags h = absurd (let is : Lost ≡ Open start tip flags = h in cc)

enter-begun : (g : Graph) (start : ℕ) (seen : List Bool) (v : ℕ) → enter g start seen v ≡ Fresh → ⊥
enter-begun g start seen v h = elim (kinds g start seen v) [ Closing _ is ↦ cc | Opening _ _ is ↦ cc | Losing is ↦ cc ]

step-begun : (g : Graph) (x : Now) (e : ℕ) → step g x e ≡ Fresh → ⊥
unfolding step
step-begun g Fresh e h = elim (cases_lt (caller g e) g.rules) [
  | inl live ↦ enter-begun g _ _ _ (sym (step-first g e live) ∙ h)
  | inr dead ↦ (let is : Lost ≡ Fresh = sym (step-dead g e dead) ∙ h in cc)
]
step-begun g (Open from at seen) e h = elim (cases_eq (caller g e) at) [
  | inl same ↦ enter-begun g _ _ _ (sym (step-at g from at seen e same) ∙ h)
  | inr ne ↦ (let is : Lost ≡ Fresh = sym (step-off g from at seen e ne) ∙ h in cc)
]
step-begun g Closed e h = let is : Lost ≡ Fresh = h in cc
step-begun g Lost e h = let is : Lost ≡ Fresh = h in cc

run-begun : (g : Graph) (p : List ℕ) (x : Now) → (x ≡ Fresh → ⊥) → run g x p ≡ Fresh → ⊥
unfolding run
run-begun g [] x ne h = ne h
run-begun g (e ∷ p) x ne h = run-begun g p (step g x e) (step-begun g x e) h

-- a walk, one edge shorter
pub record Came (g : Graph) (p : List ℕ) (e start tip : ℕ) (flags : List Bool) : Type 0 where
  pub tip_is : callee g e ≡ tip
  pub unseen : IsUnseen (set flags tip false) tip
  pub flags_are : flags ≡ set (set flags tip false) tip true
  pub runs : run g Fresh p ≡ state_of p start (caller g e) (set flags tip false)

pub came : (g : Graph) (p : List ℕ) (e start tip : ℕ) (flags : List Bool) → run g Fresh (p ++ e ∷ []) ≡ Open start tip flags → Came g p e start tip flags
unfolding run
came g p e start tip flags h =
    let b = before g (run g Fresh p) e start tip flags (sym (run-push g Fresh p e) ∙ h) in
    let back : set flags tip false ≡ b.seen = ap (λ l. set l tip false) b.flags_are ∙ set-back b.seen tip b.unseen in
    record {
      tip_is = b.tip_is;
      unseen = subst (λ l. IsUnseen l tip) (sym back) b.unseen;
      flags_are = b.flags_are ∙ ap (λ l. set l tip true) (sym back);
      runs = shorter p b.seen back b.was;
    }
  where
    shorter : (p : List ℕ) (seen : List Bool) → set flags tip false ≡ seen → (run g Fresh p ≡ Open start (caller g e) seen) ⊎ (run g Fresh p ≡ Fresh)
        → run g Fresh p ≡ state_of p start (caller g e) (set flags tip false)
    shorter [] seen back was = refl
    shorter (x ∷ p) seen back (inl is) = is ∙ ap (Open start (caller g e)) (sym back)
    shorter (x ∷ p) seen back (inr is) = absurd (run-begun g p (step g Fresh x) (step-begun g Fresh x) is)

-- the moves pass no cycle
pub same-past : (g : Graph) (p : List ℕ) (x : Now) (k k' : ℕ) → run g Fresh p ≡ x → k < k' → IsBarren g (step g x k)
    → ((j : ℕ) → k < j → j < k' → step g x j ≡ Lost) → IsSame g (p ++ k ∷ []) (p ++ k' ∷ [])
same-past g p x k k' runs lt barren skipped = same-skip g p k k' (omega arith) (λ j from below.
    elim (cases_eq j k) [
      | inl e ↦ rw (runs, e) barren
      | inr ne ↦ rw runs (barren-is g _ _ (skipped j (omega arith) below) (barren-lost g))
    ])

pub same-enter : (g : Graph) (p : List ℕ) (k k' start tip : ℕ) (seen : List Bool) → run g Fresh (p ++ k ∷ []) ≡ Open start tip seen
    → IsFirst (callers_of g) tip 0 k' → IsSame g (p ++ k ∷ []) ((p ++ k ∷ []) ++ k' ∷ [])
same-enter g p k k' start tip seen runs first = same-push g p k k'
    (λ closed. let is : Closed ≡ Open start tip seen = sym closed ∙ (sym (run-push g Fresh p k) ∙ runs) in cc)
    (λ j below. rw runs (barren-is g _ _ (step-off g start tip seen j (first.none j (omega arith) below)) (barren-lost g)))

pub same-back : (g : Graph) (p : List ℕ) (x : Now) (j k k' start tip : ℕ) (seen : List Bool) → run g Fresh (p ++ j ∷ []) ≡ Open start tip seen → tip < g.rules
    → ((i : ℕ) → k ≤ i → caller g i ≡ g.rules) → run g Fresh p ≡ x → j < k' → ((i : ℕ) → j < i → i < k' → step g x i ≡ Lost)
    → IsSame g ((p ++ j ∷ []) ++ k ∷ []) (p ++ k' ∷ [])
same-back g p x j k k' start tip seen long inside past runs lt skipped = same-pop g p j k k' lt
    (λ i from. rw long (barren-is g _ _ (step-off g start tip seen i (λ is. omega (arith, past i from, is, inside))) (barren-lost g)))
    (λ i from below. rw runs (barren-is g _ _ (skipped i from below) (barren-lost g)))

-- past the last edge there is no cycle
pub none-past : (g : Graph) (k : ℕ) → ((i : ℕ) → k ≤ i → caller g i ≡ g.rules) → (c : List ℕ) → Closes g c → StandsUpTo (k ∷ []) c → ⊥
unfolding run
none-past g k past [] closes h = h
none-past g k past (y ∷ c) closes h =
    let from : k ≤ y = elim h [ inl lt ↦ omega arith | inr e ↦ omega (arith, e.0) ] in
    run-lost g c (subst (λ s. run g s c ≡ Closed) (step-dead g y (omega (arith, past y from))) closes)

-- at the root the flags are blank, and the first edge sets the start
pub tries-first : (g : Graph) (p : List ℕ) (start tip : ℕ) (seen : List Bool) (e : ℕ) → p ≡ [] → length p ≡ marked seen → length seen ≡ g.rules → IsLive g e
    → caller g e ≡ start → step g (state_of p start tip seen) e ≡ enter g start seen (callee g e)
tries-first g p start tip seen e root count flags live is =
    let none : marked seen ≡ 0 = sym count ∙ ap length root in
    let clear : blank g ≡ seen = ap (λ n. replicate n false) (sym flags) ∙ sym (unmarked seen none) in
    ap (λ l. step g (state_of l start tip seen) e) root
    ∙ (step-first g e live ∙ (ap (λ v. enter g v (blank g) (callee g e)) is ∙ ap (λ l. enter g start l (callee g e)) clear))

pub runs-first : (g : Graph) (p : List ℕ) (start tip : ℕ) (seen : List Bool) → p ≡ [] → run g Fresh p ≡ state_of p start tip seen
unfolding run
runs-first g p start tip seen root = subst (λ l. run g Fresh l ≡ state_of l start tip seen) (sym root) refl

-- an edge over which nothing closes
pub barren-past : (g : Graph) (start : ℕ) (seen marks : List Bool) (v : ℕ) → IsClosed g start seen marks → (v ≡ start → ⊥)
    → (is_free start seen v && get_or marks v false) ≡ false → IsBarren g (enter g start seen v)
barren-past g start seen marks v closed ne test = elim (kinds g start seen v) [
  | Closing e _ ↦ absurd (ne e)
  | Losing is ↦ barren-is g _ _ is (barren-lost g)
  | Opening above free is ↦ barren-is g _ _ is record {
    never = λ c h.
        no-way g start seen marks closed c v (set seen v true) (grows-set seen v) above free
        (elim (and_cases (is_free start seen v) (get_or marks v false) test) [
          | inl not_free ↦ absurd (false≢true (sym not_free ∙ and_from (ltb start v) (not (get_or seen v true)) (lt-ltb start v above) (not_from_false _ free)))
          | inr un ↦ un
        ]) h;
  }
]

-- a dead edge is tried at the root alone
pub dead-lost : (g : Graph) (p : List ℕ) (start tip : ℕ) (seen : List Bool) (e : ℕ) → (0 < length p → caller g e ≡ tip) → (0 < length p → tip < g.rules)
    → g.rules ≤ caller g e → step g (state_of p start tip seen) e ≡ Lost
dead-lost g [] start tip seen e at inside dead = step-dead g e dead
dead-lost g (x ∷ p) start tip seen e at inside dead = absurd (omega (arith, at (omega arith), inside (omega arith)))

pub past-end : (g : Graph) (i : ℕ) → length g.callers ≤ i → caller g i ≡ g.rules
past-end g i past = get_or_past g.callers i g.rules past

-- what stands after the last edge is taken off a walk
pub record WalksBack (g : Graph) (p : List ℕ) (e start tip : ℕ) (flags : List Bool) : Type 0 where
  pub live : IsLive g e
  pub inside : e < length g.callers
  pub long : run g Fresh (p ++ e ∷ []) ≡ Open start tip flags
  pub runs : run g Fresh p ≡ state_of p start (caller g e) (set flags tip false)
  pub count : length p ≡ marked (set flags tip false)

pub walks-back : (g : Graph) (path p : List ℕ) (e start tip : ℕ) (flags : List Bool) → IsWhole g → path ≡ p ++ e ∷ []
    → run g Fresh path ≡ state_of path start tip flags → length path ≡ marked flags → tip < g.rules → WalksBack g p e start tip flags
walks-back g path p e start tip flags whole popped runs count inside =
    let long : run g Fresh (p ++ e ∷ []) ≡ Open start tip flags =
    subst (λ l. run g Fresh l ≡ state_of l start tip flags) popped runs ∙ state-push p e start tip flags in
    let a = came g p e start tip flags long in
    let live : IsLive g e = whole.both e (subst (λ v. v < g.rules) (sym a.tip_is) inside) in
    record {
      live = live;
      inside = live-in g e live;
      long = long;
      runs = a.runs;
      count = omega (arith, count, ap length popped, length_push p e, ap marked a.flags_are, marked-set (set flags tip false) tip a.unseen);
    }

-- behind a found cycle, on the walk without its last edge
pub same-behind : (g : Graph) (p : List ℕ) (x : Now) (e next : ℕ) → run g Fresh p ≡ x → step g x e ≡ Closed → e < next
    → ((j : ℕ) → e < j → j < next → step g x j ≡ Lost) → IsBehind g (p ++ e ∷ []) (p ++ next ∷ [])
same-behind g p x e next runs closes after skipped = behind-found g p e next
    (ap (λ y. step g y e) runs ∙ closes) after
    (λ j from below. rw runs (barren-is g _ _ (skipped j from below) (barren-lost g)))
