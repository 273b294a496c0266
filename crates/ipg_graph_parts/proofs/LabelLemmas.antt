-- A label that spreads along edges.
use Rattle.std.proofs.Common.{◌≡◌, ℕ, zero, suc, ◌+◌, ◌<◌, ◌≤◌, ◌⊎◌, List, [], ◌∷◌, ◌++◌, Option, Some, None, if◌then◌else◌, length}
use Rattle.std.proofs.Common.{get_or, set, refl, sym, ap, subst, ◌∙◌, inl, inr, arith, get_or-set_same, get_or-set_other, length-set}
use Rattle.std.specs.List.{Contains}
use Rattle.std.proofs.lemmas.List.Elements.{All-push, All-nil, All-pop, All-weaker, Contains-push, Contains-push_cases, Contains-append_left}
use Rattle.std.proofs.lemmas.List.{length_push, get_or_past}
use Rattle.std.proofs.lemmas.Option.{none-some}
use Rattle.std.proofs.lemmas.Bool.{cases_eq, cases_lt, eq-eqb, ne_eqb}
use Rattle.ipg_graph.specs.Graph.{Graph, caller, callee, IsLive, IsWhole}
use Rattle.ipg_graph_parts.specs.Chain.{Keys, key, IsFirst, IsPlace, callers_of, callees_of}
use Rattle.ipg_graph_parts.specs.Way.{Leads}
use Rattle.ipg_graph_parts.specs.Labels.{Field, label, other, others, work, IsLabelled, IsOpen, Keeps, IsFilled, IsLeft, IsSpreading, IsSearch, field_of}
use Rattle.ipg_graph_parts.specs.declared.labels.Search as code
use Rattle.ipg_graph_parts.proofs.WayLemmas.{to_self, over, along}

-- ---- labels that are put

pub labelled-in : (labels : List (Option ℕ)) (r v : ℕ) → IsLabelled labels r v → v < length labels
labelled-in [] r v h = absurd (none-some r h)
labelled-in (l ∷ labels) r zero h = omega arith
labelled-in (l ∷ labels) r (suc v) h = omega (arith, labelled-in labels r v h)

pub labelled-self : (labels : List (Option ℕ)) (r u : ℕ) → u < length labels → IsLabelled (set labels u (Some r)) r u
labelled-self labels r u below = get_or-set_same labels u (Some r) None below

pub labelled-kept : (labels : List (Option ℕ)) (r u v : ℕ) → IsLabelled labels r v → IsLabelled (set labels u (Some r)) r v
labelled-kept labels r u v h = elim (cases_eq v u) [
  | inl e ↦ subst (IsLabelled (set labels u (Some r)) r) (sym e) (labelled-self labels r u (subst (λ x. x < length labels) e (labelled-in labels r v h)))
  | inr ne ↦ get_or-set_other labels u v (Some r) None ne ∙ h
]

labelled-new : (labels : List (Option ℕ)) (r u v : ℕ) → IsLabelled (set labels u (Some r)) r v → (v ≡ u) ⊎ IsLabelled labels r v
labelled-new labels r u v h = elim (cases_eq v u) [
  | inl e ↦ inl e
  | inr ne ↦ inr (sym (get_or-set_other labels u v (Some r) None ne) ∙ h)
]

pub keeps-refl : (r : ℕ) (labels : List (Option ℕ)) → Keeps r labels labels
keeps-refl r labels = record { kept = λ v. inr refl }

pub keeps-put : (r u : ℕ) (labels : List (Option ℕ)) → u < length labels → Keeps r labels (set labels u (Some r))
keeps-put r u labels below = record {
  kept = λ v. elim (cases_eq v u) [
    | inl e ↦ inl (subst (IsLabelled (set labels u (Some r)) r) (sym e) (labelled-self labels r u below))
    | inr ne ↦ inr (get_or-set_other labels u v (Some r) None ne)
  ];
}

pub keeps-over : (r : ℕ) (a b c : List (Option ℕ)) → Keeps r a b → Keeps r b c → Keeps r a c
keeps-over r a b c h k = record {
  kept = λ v. elim (k.kept v) [
    | inl new ↦ inl new
    | inr same ↦ elim (h.kept v) [ inl new ↦ inl (same ∙ new) | inr was ↦ inr (same ∙ was) ]
  ];
}

-- ---- what is left to do

other-self : (r : ℕ) → other r (Some r) ≡ 0
other-self r = ap (λ b. if b then 0 else 1) (eq-eqb r r refl)

other-else : (r : ℕ) (l : Option ℕ) → (l ≡ Some r → ⊥) → other r l ≡ 1
other-else r None new = refl
other-else r (Some l) new = ap (λ b. if b then 0 else 1) (ne_eqb l r (λ e. new (ap Some e)))

pub others-put : (r u : ℕ) (labels : List (Option ℕ)) → (IsLabelled labels r u → ⊥) → u < length labels → others r (set labels u (Some r)) + 1 ≡ others r labels
others-put r u [] new below = absurd (omega arith)
others-put r zero (l ∷ labels) new below = omega (arith, other-self r, other-else r l new)
others-put r (suc u) (l ∷ labels) new below = omega (arith, others-put r u labels new (omega arith))

pub work-put : (r u : ℕ) (labels : List (Option ℕ)) (waiting : List ℕ) → (IsLabelled labels r u → ⊥) → u < length labels
    → work r (set labels u (Some r)) (waiting ++ u ∷ []) ≤ work r labels waiting
work-put r u labels waiting new below = omega (arith, others-put r u labels new below, length_push waiting u)

-- ---- the search

live-in : (g : Graph) (e : ℕ) → IsLive g e → e < length g.callers
live-in g e live = elim (cases_lt e (length g.callers)) [
  | inl lt ↦ lt
  | inr past ↦ absurd (let same : caller g e ≡ g.rules = get_or_past g.callers e g.rules past in omega arith)
]

left-from : (k : Keys) (v low e : ℕ) (next : Option ℕ) → IsFirst k v low next → low ≤ e → e < length k.keys → key k e ≡ v → IsLeft next e
left-from k v low e None first from inside is = first.none e from inside tt is
left-from k v low e (Some next) first from inside is = elim (cases_lt e next) [
  | inl lt ↦ absurd (first.none e from inside lt is)
  | inr ge ↦ ge
]

pub begun : (f : Field) (labels : List (Option ℕ)) → length labels ≡ f.graph.rules → f.root < f.graph.rules → IsOpen f f.root
    → ((v : ℕ) → IsLabelled labels f.root v → ⊥) → IsSpreading f (set labels f.root (Some f.root)) (f.root ∷ []) f.root None
begun f labels sized root start fresh = record {
  sized = length-set labels f.root (Some f.root) ∙ sized;
  start = here;
  here = here;
  marked = All-push (IsLabelled (set labels f.root (Some f.root)) f.root) [] f.root (All-nil _) here;
  only = λ v is. elim (labelled-new labels f.root f.root v is) [
    | inl e ↦ (subst (IsOpen f) (sym e) start, subst (Leads f.graph f.root) (sym e) (to_self f.graph f.root))
    | inr was ↦ absurd (fresh v was)
  ];
  done = λ e live is to. elim (labelled-new labels f.root f.root (caller f.graph e) is) [
    | inl at ↦ inr (inl (subst (Contains (f.root ∷ [])) (sym at) (Contains-push [] f.root)))
    | inr was ↦ absurd (fresh (caller f.graph e) was)
  ];
}
  where
    here : IsLabelled (set labels f.root (Some f.root)) f.root f.root
    here = labelled-self labels f.root f.root (omega arith)

pub popped : (f : Field) (labels : List (Option ℕ)) (stack rest : List ℕ) (last rule : ℕ) → stack ≡ rest ++ rule ∷ []
    → IsSpreading f labels stack last None → IsSpreading f labels rest rule (Some 0)
popped f labels stack rest last rule is h = record {
  sized = h.sized;
  start = h.start;
  here = (All-pop (IsLabelled labels f.root) stack rest (Some rule) is h.marked).1;
  marked = (All-pop (IsLabelled labels f.root) stack rest (Some rule) is h.marked).0;
  only = h.only;
  done = λ e live at to. elim (h.done e live at to) [
    | inl done ↦ inl done
    | inr (inl waits) ↦ elim (Contains-push_cases rest rule (caller f.graph e) (subst (λ s. Contains s (caller f.graph e)) is waits)) [
      | inl still ↦ inr (inl still)
      | inr now ↦ inr (inr (sym now, omega arith))
    ]
    | inr (inr none) ↦ absurd none.1
  ];
}

pub at_first : (f : Field) (labels : List (Option ℕ)) (waiting : List ℕ) (rule : ℕ) (next : Option ℕ) → IsFirst (callers_of f.graph) rule 0 next
    → IsSpreading f labels waiting rule (Some 0) → IsSpreading f labels waiting rule next
at_first f labels waiting rule next first h = record {
  sized = h.sized;
  start = h.start;
  here = h.here;
  marked = h.marked;
  only = h.only;
  done = λ e live at to. elim (h.done e live at to) [
    | inl done ↦ inl done
    | inr (inl waits) ↦ inr (inl waits)
    | inr (inr left) ↦ inr (inr (left.0, left-from (callers_of f.graph) rule 0 e next first left.1 (live-in f.graph e live) left.0))
  ];
}

-- the edge at hand leads to a rule that has the label now, or isn't open
pub tried : (f : Field) (labels : List (Option ℕ)) (waiting : List ℕ) (rule edge : ℕ) (next : Option ℕ) → IsFirst (callers_of f.graph) rule (edge + 1) next
    → (IsOpen f (callee f.graph edge) → IsLabelled labels f.root (callee f.graph edge)) → IsSpreading f labels waiting rule (Some edge)
    → IsSpreading f labels waiting rule next
tried f labels waiting rule edge next first now h = record {
  sized = h.sized;
  start = h.start;
  here = h.here;
  marked = h.marked;
  only = h.only;
  done = λ e live at to. elim (h.done e live at to) [
    | inl done ↦ inl done
    | inr (inl waits) ↦ inr (inl waits)
    | inr (inr left) ↦ elim (cases_eq e edge) [
      | inl same ↦ inl (subst (λ d. IsLabelled labels f.root (callee f.graph d)) (sym same) (now (subst (λ d. IsOpen f (callee f.graph d)) same to)))
      | inr ne ↦ inr
          (inr (left.0, left-from (callers_of f.graph) rule (edge + 1) e next first (omega (arith, left.1, ne)) (live-in f.graph e live) left.0))
    ]
  ];
}

-- the rule to which the edge at hand leads gets the label
pub put : (f : Field) (labels : List (Option ℕ)) (waiting : List ℕ) (rule edge u : ℕ) → IsLive f.graph edge → caller f.graph edge ≡ rule
    → u ≡ callee f.graph edge → IsOpen f u → u < length labels → IsSpreading f labels waiting rule (Some edge)
    → IsSpreading f (set labels u (Some f.root)) (waiting ++ u ∷ []) rule (Some edge)
put f labels waiting rule edge u live from to free below h = record {
  sized = length-set labels u (Some f.root) ∙ h.sized;
  start = kept f.root h.start;
  here = kept rule h.here;
  marked = All-push (IsLabelled new f.root) waiting u (All-weaker (IsLabelled labels f.root) (IsLabelled new f.root) kept waiting h.marked)
      (labelled-self labels f.root u below);
  only = λ v is. elim (labelled-new labels f.root u v is) [
    | inl e ↦ (subst (IsOpen f) (sym e) free, subst (Leads f.graph f.root) (sym to ∙ sym e) way)
    | inr was ↦ h.only v was
  ];
  done = λ e on is open_to. elim (labelled-new labels f.root u (caller f.graph e) is) [
    | inl at ↦ inr (inl (subst (Contains (waiting ++ u ∷ [])) (sym at) (Contains-push waiting u)))
    | inr was ↦ elim (h.done e on was open_to) [
      | inl done ↦ inl (kept (callee f.graph e) done)
      | inr (inl waits) ↦ inr (inl (Contains-append_left waiting (u ∷ []) (caller f.graph e) waits))
      | inr (inr left) ↦ inr (inr left)
    ]
  ];
}
  where
    new : List (Option ℕ)
    new = set labels u (Some f.root)

    kept : (v : ℕ) → IsLabelled labels f.root v → IsLabelled (set labels u (Some f.root)) f.root v
    kept v is = labelled-kept labels f.root u v is

    way : Leads f.graph f.root (callee f.graph edge)
    way = over f.graph f.root rule (callee f.graph edge) (h.only rule h.here).1 (along f.graph edge rule live from)

pub filled : (f : Field) (labels : List (Option ℕ)) (waiting : List ℕ) (rule : ℕ) → length waiting ≡ 0 → IsSpreading f labels waiting rule None
    → IsFilled f labels
filled f labels waiting rule empty h = record {
  sized = h.sized;
  start = h.start;
  only = h.only;
  closed = λ e live at to. elim (h.done e live at to) [
    | inl done ↦ done
    | inr (inl none) ↦ absurd (omega (arith, none.1, empty))
    | inr (inr none) ↦ absurd none.1
  ];
}

-- ---- the edge at hand

pub edge-live : (s : code.Search) (labels : List (Option ℕ)) (waiting : List ℕ) (rule edge : ℕ) (next : Option ℕ)
    → IsSpreading (field_of s) labels waiting rule next → IsPlace s.from.now rule 0 (Some edge) → IsLive (field_of s).graph edge
edge-live s labels waiting rule edge next h place = omega (arith, place.1.1, labelled-in labels s.root rule h.here, h.sized)

pub edge-to : (s : code.Search) (edge u : ℕ) → IsSearch s → u ≡ key s.to.now edge → u ≡ callee (field_of s).graph edge
edge-to s edge u search is = is ∙ ap (λ n. get_or s.to.now.keys edge n) search.limit

pub to-inside : (s : code.Search) (labels : List (Option ℕ)) (waiting : List ℕ) (rule edge u : ℕ) (next : Option ℕ) → IsSearch s → u ≡ key s.to.now edge
    → next ≡ Some edge → IsPlace s.from.now rule 0 next → IsSpreading (field_of s) labels waiting rule next
    → (u < length s.fence.now) × (u < length labels)
to-inside s labels waiting rule edge u next search is at place h =
    let live = edge-live s labels waiting rule edge next h (subst (IsPlace s.from.now rule 0) at place) in
    let inside = search.whole.inside edge live in
    let to = edge-to s edge u search is in
    (omega (arith, inside, to, search.fence), omega (arith, inside, to, h.sized))

pub step-new : (s : code.Search) (labels : List (Option ℕ)) (waiting : List ℕ) (rule edge u : ℕ) (old next : Option ℕ) → IsSearch s
    → u ≡ key s.to.now edge → old ≡ Some edge → IsPlace s.from.now rule 0 old → IsFirst s.from.now (key s.from.now edge) (edge + 1) next
    → IsOpen (field_of s) u → IsSpreading (field_of s) labels waiting rule old
    → IsSpreading (field_of s) (set labels u (Some s.root)) (waiting ++ u ∷ []) rule next
step-new s labels waiting rule edge u old next search is at place first free h =
    let here = subst (IsPlace s.from.now rule 0) at place in
    let live = edge-live s labels waiting rule edge old h here in
    let to = edge-to s edge u search is in
    let below = (to-inside s labels waiting rule edge u old search is at place h).1 in
    tried (field_of s) (set labels u (Some s.root)) (waiting ++ u ∷ []) rule edge next
    (subst (λ v. IsFirst s.from.now v (edge + 1) next) here.1.1 first)
    (λ _. subst (IsLabelled (set labels u (Some s.root)) s.root) to (labelled-self labels s.root u below))
    (put (field_of s) labels waiting rule edge u live here.1.1 to free below (subst (IsSpreading (field_of s) labels waiting rule) at h))

pub step-old : (s : code.Search) (labels : List (Option ℕ)) (waiting : List ℕ) (rule edge u : ℕ) (old next : Option ℕ) → IsSearch s
    → u ≡ key s.to.now edge → old ≡ Some edge → IsPlace s.from.now rule 0 old → IsFirst s.from.now (key s.from.now edge) (edge + 1) next
    → (IsOpen (field_of s) u → IsLabelled labels s.root u) → IsSpreading (field_of s) labels waiting rule old
    → IsSpreading (field_of s) labels waiting rule next
step-old s labels waiting rule edge u old next search is at place first done h =
    let here = subst (IsPlace s.from.now rule 0) at place in
    let to = edge-to s edge u search is in
    tried (field_of s) labels waiting rule edge next (subst (λ v. IsFirst s.from.now v (edge + 1) next) here.1.1 first)
    (subst (λ v. IsOpen (field_of s) v → IsLabelled labels s.root v) to done) (subst (IsSpreading (field_of s) labels waiting rule) at h)

pub between : (f : Field) (labels : List (Option ℕ)) (waiting : List ℕ) (rule : ℕ) → IsSpreading f labels waiting rule None
    → IsSpreading f labels waiting f.root None
between f labels waiting rule h = record {
  sized = h.sized;
  start = h.start;
  here = h.start;
  marked = h.marked;
  only = h.only;
  done = λ e live at to. elim (h.done e live at to) [
    | inl done ↦ inl done
    | inr (inl waits) ↦ inr (inl waits)
    | inr (inr none) ↦ absurd none.1
  ];
}

-- ---- searches in a graph

pub search-of : (s : code.Search) (g : Graph) → s.from.now ≡ callers_of g → s.to.now ≡ callees_of g → IsWhole g → length s.fence.now ≡ g.rules
    → s.root < g.rules → label s.fence.now s.root ≡ s.«open» → IsSearch s
search-of s g from to whole fence root start = record {
  whole = rw (from, to) whole;
  limit = ap (λ k. k.limit) to ∙ sym (ap (λ k. k.limit) from);
  fence = fence ∙ sym (ap (λ k. k.limit) from);
  root = subst (λ k. s.root < k.limit) (sym from) root;
  start = start;
}

pub field-is : (s : code.Search) (g : Graph) (fence : List (Option ℕ)) → s.from.now ≡ callers_of g → s.to.now ≡ callees_of g → s.fence.now ≡ fence
    → field_of s ≡ record { graph = g; fence = fence; open_label = s.«open»; root = s.root }
field-is s g fence from to same = rw (from, to, same) refl
