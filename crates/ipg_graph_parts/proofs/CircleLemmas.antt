-- The edges of circles are those with both ends in one part.
use Rattle.std.proofs.Common.{◌≡◌, ℕ, zero, suc, ◌<◌, List, [], ◌∷◌, ◌++◌, Option, Bool, true}
use Rattle.std.proofs.Common.{false, length, get_or, refl, sym, ap, subst, ◌∙◌, inl, inr, arith}
use Rattle.std.specs.List.{All}
use Rattle.std.proofs.lemmas.List.{get_or_past, get_or_push, get_or_append_left, length_push}
use Rattle.std.proofs.lemmas.List.Elements.{All-nil, All-cons, All-head, All-tail, All-get_or, All-weaker}
use Rattle.std.proofs.lemmas.Bool.{cases_eq, cases_lt, false≢true}
use Rattle.ipg_graph.specs.declared.edge.Edge.{Edge}
use Rattle.ipg_graph.specs.Graph.{Graph, caller, callee, ends, graph_of, IsInside, IsLive}
use Rattle.ipg_graph.specs.Cycle.{LeadsTo}
use Rattle.ipg_graph_parts.specs.Cyclic.{IsFlagged, IsCircle, IsOnCircle}
use Rattle.ipg_graph_parts.specs.Way.{IsWay, Leads, IsTied}
use Rattle.ipg_graph_parts.specs.Labels.{label, IsLabelled}
use Rattle.ipg_graph_parts.specs.Parts.{IsParted, AreFlags}
use Rattle.ipg_graph_parts.proofs.WayLemmas.{to_self, over, along}
use Rattle.ipg_graph_parts.proofs.GraphLemmas.{length-ends, all-ends}

-- ---- flags, one after another

pub no-flags : (g : Graph) (names : List (Option ℕ)) → AreFlags g names []
no-flags g names = record { set = λ e below. absurd (omega arith); unset = λ e below. absurd (omega arith) }

pub end-at : (rules : ℕ) (end : Edge → ℕ) (edges : List Edge) (i : ℕ) (d : Edge) → i < length edges
    → get_or (ends rules end edges []) i rules ≡ end (get_or edges i d)
end-at rules end [] i d below = absurd (omega arith)
end-at rules end (e ∷ edges) zero d below = refl
end-at rules end (e ∷ edges) (suc i) d below = end-at rules end edges i d (omega arith)

pub flag-more : (g : Graph) (names : List (Option ℕ)) (flags : List Bool) (flag : Bool) (at : ℕ) → length flags ≡ at
    → (flag ≡ true → label names (caller g at) ≡ label names (callee g at)) → (label names (caller g at) ≡ label names (callee g at) → flag ≡ true)
    → AreFlags g names flags → AreFlags g names (flags ++ flag ∷ [])
flag-more g names flags flag at len set unset h = record {
  set = λ e below is. elim (cases_eq e at) [
    | inl last ↦ subst (λ x. label names (caller g x) ≡ label names (callee g x)) (sym last)
        (set (sym (get_or_push flags flag false e (len ∙ sym last)) ∙ is))
    | inr ne ↦ let before : e < length flags = omega (arith, below, len, ne, length_push flags flag) in
        h.set e before (sym (get_or_append_left flags (flag ∷ []) false e before) ∙ is)
  ];
  unset = λ e below same. elim (cases_eq e at) [
    | inl last ↦ get_or_push flags flag false e (len ∙ sym last) ∙ unset (subst (λ x. label names (caller g x) ≡ label names (callee g x)) last same)
    | inr ne ↦ let before : e < length flags = omega (arith, below, len, ne, length_push flags flag) in
        get_or_append_left flags (flag ∷ []) false e before ∙ h.unset e before same
  ];
}

pub flag-next : (rules : ℕ) (edges : List Edge) (names slice : List (Option ℕ)) (flags : List Bool) (flag : Bool) (at : ℕ) (d : Edge) → at < length edges
    → length flags ≡ at → slice ≡ names → (flag ≡ true → label slice (get_or edges at d).caller ≡ label slice (get_or edges at d).callee)
    → (label slice (get_or edges at d).caller ≡ label slice (get_or edges at d).callee → flag ≡ true) → AreFlags (graph_of rules edges []) names flags
    → AreFlags (graph_of rules edges []) names (flags ++ flag ∷ [])
flag-next rules edges names slice flags flag at d below len is set unset h =
    let g = graph_of rules edges [] in
    let edge = get_or edges at d in
    let from : caller g at ≡ edge.caller = end-at rules (λ e. e.caller) edges at d below in
    let to : callee g at ≡ edge.callee = end-at rules (λ e. e.callee) edges at d below in
    flag-more g names flags flag at len
    (λ on. ap (label names) from ∙ (subst (λ l. label l edge.caller ≡ label l edge.callee) is (set on) ∙ sym (ap (label names) to)))
    (λ same. unset (subst (λ l. label l edge.caller ≡ label l edge.callee) (sym is) (sym (ap (label names) from) ∙ (same ∙ ap (label names) to))))
    h

-- ---- an edge of a circle ties its ends

home : (g : Graph) (v e : ℕ) (rest : List ℕ) → All (IsLive g) (e ∷ rest) → LeadsTo g v (e ∷ rest) → Leads g (callee g e) v
home g v e [] live to = ([], to)
home g v e (f ∷ rest) live to =
    let after = All-tail (IsLive g) e (f ∷ rest) live in
    subst (λ x. Leads g x v) (sym to.0)
    (over g (caller g f) (callee g f) v (along g f (caller g f) (All-head (IsLive g) f rest after) refl) (home g v f rest after to.1))

abbrev Ties : Graph → ℕ → Type 0
Ties g e = IsLive g e × IsTied g (caller g e) (callee g e)

ties : (g : Graph) (v e : ℕ) (rest : List ℕ) → All (IsLive g) (e ∷ rest) → LeadsTo g v (e ∷ rest) → Leads g v (caller g e) → All (Ties g) (e ∷ rest)
ties g v e [] live to from =
    let now = All-head (IsLive g) e [] live in
    All-cons (Ties g) e [] (now, (along g e (caller g e) now refl, over g (callee g e) v (caller g e) (home g v e [] live to) from)) (All-nil (Ties g))
ties g v e (f ∷ rest) live to from =
    let now = All-head (IsLive g) e (f ∷ rest) live in
    let after = All-tail (IsLive g) e (f ∷ rest) live in
    let next = subst (Leads g v) to.0 (over g v (caller g e) (callee g e) from (along g e (caller g e) now refl)) in
    All-cons (Ties g) e (f ∷ rest) (now, (along g e (caller g e) now refl, over g (callee g e) v (caller g e) (home g v e (f ∷ rest) live to) from))
    (ties g v f rest after to.1 next)

live-in : (g : Graph) (e : ℕ) → IsLive g e → e < length g.callers
live-in g e live = elim (cases_lt e (length g.callers)) [
  | inl lt ↦ lt
  | inr past ↦ absurd (let same : caller g e ≡ g.rules = get_or_past g.callers e g.rules past in omega arith)
]

one-part : (g : Graph) (names : List (Option ℕ)) (u v : ℕ) → IsParted g names → u < g.rules → IsTied g u v → label names u ≡ label names v
one-part g names u v parted inside tied =
    let in' = parted.all u inside in
    in'.1 ∙ sym (parted.whole in'.0 u v in'.1 tied)

pub every : (g : Graph) (names : List (Option ℕ)) (flags : List Bool) → IsParted g names → AreFlags g names flags → length flags ≡ length g.callers
    → (circle : List ℕ) → IsCircle g circle → All (IsFlagged flags) circle
every g names flags parted are len [] is = absurd is.1
every g names flags parted are len (e ∷ rest) is =
    All-weaker (Ties g) (IsFlagged flags)
    (λ f t. are.unset f (omega (arith, len, live-in g f t.0)) (one-part g names (caller g f) (callee g f) parted t.0 t.1)) (e ∷ rest)
    (ties g (caller g e) e rest is.0 is.1 (to_self g (caller g e)))

-- ---- an edge within a part begins a circle

closes : (g : Graph) (e v : ℕ) (way : List ℕ) → IsWay g (callee g e) v way → LeadsTo g v (e ∷ way)
closes g e v [] is = is
closes g e v (f ∷ way) is = (sym is.1.0, closes g f v way is.1.1)

live-way : (g : Graph) (u v : ℕ) (way : List ℕ) → IsWay g u v way → All (IsLive g) way
live-way g u v [] is = All-nil (IsLive g)
live-way g u v (e ∷ way) is = All-cons (IsLive g) e way is.0 (live-way g (callee g e) v way is.1.1)

pub live-of : (rules : ℕ) (edges : List Edge) (e : ℕ) → All (IsInside rules) edges → e < length edges → IsLive (graph_of rules edges []) e
live-of rules edges e all below =
    All-get_or (λ v. v < rules) (ends rules (λ e. e.caller) edges []) e rules (omega (arith, below, length-ends rules (λ e. e.caller) edges))
    (all-ends rules (λ e. e.caller) edges (All-weaker (IsInside rules) (λ e. e.caller < rules) (λ e is. is.0) edges all))

flag-in : (flags : List Bool) (e : ℕ) → IsFlagged flags e → e < length flags
flag-in flags e is = elim (cases_lt e (length flags)) [
  | inl lt ↦ lt
  | inr past ↦ absurd (false≢true (sym (get_or_past flags e false past) ∙ is))
]

pub only : (rules : ℕ) (edges : List Edge) (names : List (Option ℕ)) (flags : List Bool) → All (IsInside rules) edges
    → IsParted (graph_of rules edges []) names → AreFlags (graph_of rules edges []) names flags → length flags ≡ length edges
    → (e : ℕ) → IsFlagged flags e → IsOnCircle (graph_of rules edges []) e
only rules edges names flags all parted are len e is =
    let g = graph_of rules edges [] in
    let below = flag-in flags e is in
    let live = live-of rules edges e all (omega (arith, below, len)) in
    let from = parted.all (caller g e) live in
    let to : IsLabelled names from.0 (callee g e) = sym (are.set e below is) ∙ from.1 in
    let way = over g (callee g e) from.0 (caller g e) (parted.tied from.0 (callee g e) to).1 (parted.tied from.0 (caller g e) from.1).0 in
    (way.0, (All-cons (IsLive g) e way.0 live (live-way g (callee g e) (caller g e) way.0 way.1), closes g e (caller g e) way.0 way.1))
