-- Where no simple cycle of edges is reached on parts of one length, the height falls with the part's length and the path of edges at it.
use Rattle.std.proofs.Common.{◌≡◌, ℕ, zero, suc, ◌+◌, ◌-◌, ◌*◌, ◌^◌, ◌<◌, ◌≤◌, List, [], ◌∷◌, ◌++◌, length, take, drop, Bool, true, false, Some, refl}
use Rattle.std.proofs.Common.{sym, ap, ◌∙◌, subst, inl, inr, arith, length-append}
use Rattle.std.specs.Prelude.{slice_get, slice_index_or, option_to_list, Contains}
use Rattle.std.specs.List.{AllByRecursion}
use Rattle.std.proofs.lemmas.Bool.{cases_lt}
use Rattle.std.proofs.lemmas.List.Elements.{recursion_from_All}
use Rattle.std.proofs.lemmas.List.{length-take-le, length-drop}
use Rattle.std.proofs.Math.Seq.{take-length}
use Rattle.std.proofs.Math.Nat.{mul-le-mul_right}
use Rattle.ipg_core.specs.Grammar.{Grammar}
use Rattle.ipg_core.specs.Part.{part}
use Rattle.ipg_core.specs.Environment.{Values}
use Rattle.ipg_core.specs.Run.{Asked}
use Rattle.ipg_core.specs.Meaning.{den}
use Rattle.ipg_core.specs.Good.{Good}
use Rattle.ipg_core.specs.Grown.{Grown}
use Rattle.ipg_core.specs.Total.{Fits, height_for}
use Rattle.ipg_core.specs.Laws.{AskedFits, AsksWhatFits}
use Rattle.ipg_graph.specs.declared.edge.Edge.{Edge}
use Rattle.ipg_graph.specs.Graph.{Graph, IsLive, IsInside, IsWhole}
use Rattle.ipg_facts_edges.specs.Edges.{edges_of}
use Rattle.ipg_facts_laws.specs.Reached.{ReachedOn}
use Rattle.ipg_facts_laws.specs.Laws.{EdgesAreFew, EdgesAreInside}
use Rattle.ipg_facts_laws.specs.Walks.{IsWalk}
use Rattle.ipg_facts_laws.specs.Along.{edges_at, live_edges, DeadAreNeverReached, CyclesAreNeverReached}
use Rattle.ipg_facts_laws.specs.Ends.{IsEdgeCall, EndsWithoutCycles}
use Rattle.ipg_facts_laws.proofs.Settled.{Settled}
use Rattle.ipg_facts_laws.proofs.Lists.{all_join}
use Rattle.ipg_facts_laws.proofs.Follows.{Settles, on_follows}
use Rattle.ipg_facts_laws.proofs.Walks.{long_walks_hold_cycles, leads_join}
use Rattle.ipg_facts_laws.proofs.Edges.{contained, calls_are_edges}
use Rattle.ipg_facts_laws.proofs.Live.{whole, end_of, inside_at}

-- ---- parts

-- a part is shorter, or all there is
data Size (s : List ℕ) (from to : ℕ) : Type 0 where
  shorter : length (part s from to) < length s → Size s from to
  all : from ≡ 0 → to ≡ length s → part s from to ≡ s → Size s from to

part_length : (s : List ℕ) (from to : ℕ) → from ≤ to → to ≤ length s → length (part s from to) ≡ to - from
part_length s from to valid inside =
    let rest = length-drop from s in length-take-le (to - from) (drop from s) (omega (arith, valid, inside, rest))

whole_part : (s : List ℕ) (from to : ℕ) → from ≡ 0 → to ≡ length s → part s from to ≡ s
whole_part s from to first last =
    let all : to - 0 ≡ length s = omega (arith, last) in
    ap (λ n. part s n to) first ∙ ap (λ n. take n s) all ∙ take-length s

size_of : (s : List ℕ) (from to : ℕ) → from ≤ to → to ≤ length s → Size s from to
size_of s from to valid inside = elim (cases_lt (to - from) (length s)) [
  | inl less ↦ shorter (subst (λ n. n < length s) (sym (part_length s from to valid inside)) less)
  | inr more ↦
      let first : from ≡ 0 = omega (arith, valid, inside, more) in
      let last : to ≡ length s = omega (arith, valid, inside, more) in
      all first last (whole_part s from to first last)
]

-- ---- heights

fewer : (m n rules : ℕ) → m < n → m * rules + rules ≤ n * rules
fewer m n rules lt = let le = mul-le-mul_right {m = m + 1} {n = n} rules (omega (arith, lt)) in omega (arith, le)

-- ---- paths

-- an edge that is reached on a part of n bytes
record IsReached (g : Grammar) (n number : ℕ) : Type 0 where
  edge : Edge
  at : slice_get (edges_of g) number ≡ Some edge
  on : ReachedOn g n edge

-- the edges of these numbers are reached
all_reached : (g : Grammar) (n : ℕ) (numbers : List ℕ) → AllByRecursion (IsReached g n) numbers → AllByRecursion (ReachedOn g n) (edges_at g numbers)
all_reached g n [] h = tt
all_reached g n (e ∷ numbers) h =
    let first : IsReached g n e = h.0 in
    all_join (ReachedOn g n) (option_to_list (slice_get (edges_of g) e)) _
    (subst (λ o. AllByRecursion (ReachedOn g n) (option_to_list o)) (sym first.at) (first.on, tt)) (all_reached g n numbers h.1)

-- a path of edges that are reached on parts of n bytes, to the rule r
record Path (g : Grammar) (dead : List Bool) (n r : ℕ) : Type 0 where
  start : ℕ
  walk : List ℕ
  inside : start < length g.rules
  is_walk : IsWalk (live_edges g dead) start walk r
  reached : AllByRecursion (IsReached g n) walk

no_path : (g : Grammar) (dead : List Bool) (n r : ℕ) → r < length g.rules → Path g dead n r
no_path g dead n r lt = record { start = r; walk = []; inside = lt; is_walk = record { live = tt; leads = refl }; reached = tt }

module _ (g : Grammar) (dead : List Bool) (good : Good g) (never : DeadAreNeverReached g dead) (no_cycle : CyclesAreNeverReached g dead)
    (few : length (edges_of g) < 2 ^ 32) (inside : AllByRecursion (IsInside (length g.rules)) (edges_of g)) where
  abbrev graph : Graph
  graph = live_edges g dead

  is_whole : IsWhole graph
  is_whole = whole (length g.rules) (edges_of g) dead few inside

  -- a path has fewer edges than there are rules
  short : (n r : ℕ) (p : Path g dead n r) → length p.walk < length g.rules
  short n r p = elim (cases_lt (length p.walk) (length g.rules)) [
    | inl less ↦ less
    | inr long ↦
        let c = long_walks_hold_cycles graph p.start r p.walk is_whole p.inside p.is_walk long in
        let among = recursion_from_All (Contains p.walk) c.cycle c.among in
        absurd (no_cycle c.cycle n c.simple (all_reached g n c.cycle (those c.cycle among)))
  ]
    where
      those : (numbers : List ℕ) → AllByRecursion (Contains p.walk) numbers → AllByRecursion (IsReached g n) numbers
      those [] h = tt
      those (e ∷ numbers) h = (contained (IsReached g n) p.walk e p.reached h.0, those numbers h.1)

  -- an edge that is reached isn't dead
  is_alive : (n number : ℕ) → IsReached g n number → (b : Bool) → slice_index_or dead number false ≡ b → slice_index_or dead number false ≡ false
  is_alive n number i true e = absurd (never number n i.edge i.at e i.on)
  is_alive n number i false e = e

  -- one edge more
  longer : (n r callee : ℕ) (p : Path g dead n r) (number : ℕ) (i : IsReached g n number) → i.edge.caller ≡ r → i.edge.callee ≡ callee → Path g dead n callee
  longer n r callee p number i from to =
      let alive = is_alive n number i _ refl in
      let starts = end_of (length g.rules) (λ e. e.caller) (edges_of g) dead number i.edge i.at alive in
      let comes = end_of (length g.rules) (λ e. e.callee) (edges_of g) dead number i.edge i.at alive in
      let lt = inside_at (length g.rules) (edges_of g) number i.edge i.at inside in
      record {
        start = p.start;
        walk = p.walk ++ number ∷ [];
        inside = p.inside;
        is_walk = record {
          live = all_join (IsLive graph) p.walk _ p.is_walk.live (subst (λ k. k < length g.rules) (sym starts) lt.0, tt);
          leads = leads_join graph p.start r callee p.walk (number ∷ []) p.is_walk.leads (starts ∙ from, comes ∙ to);
        };
        reached = all_join (IsReached g n) p.walk _ p.reached (i, tt);
      }

  -- what is left of the height, with the path at this length, suffices
  abbrev SettlesAt : ℕ → Type 0
  SettlesAt h = (r : ℕ) (s : List ℕ) (outer : Values) → Fits g r s outer → (p : Path g dead (length s) r)
      → length s * length g.rules + length g.rules ≤ h + length p.walk → Settled (den g h r s outer)

  module _ (h : ℕ) (before : SettlesAt h) (r : ℕ) (s : List ℕ) (outer : Values) (fits : Fits g r s outer) (p : Path g dead (length s) r)
      (enough : length s * length g.rules + length g.rules ≤ suc h + length p.walk) where
    on_shorter : (callee : ℕ) (t : List ℕ) (out : Values) → Fits g callee t out → length t < length s → Settled (den g h callee t out)
    unfolding no_path
    on_shorter callee t out fit lt =
        before callee t out fit (no_path g dead (length t) callee fit.rule)
        (let a = fewer (length t) (length s) (length g.rules) lt in let b = short (length s) r p in
        let e : length t * length g.rules + length g.rules ≤ h + 0 = omega (arith, a, b, enough) in e)

    on_whole : (callee : ℕ) (out : Values) → Fits g callee s out → (number : ℕ) (i : IsReached g (length s) number) → i.edge.caller ≡ r
        → i.edge.callee ≡ callee → Settled (den g h callee s out)
    unfolding longer
    on_whole callee out fit number i from to =
        before callee s out fit (longer (length s) r callee p number i from to)
        (let a = length-append p.walk (number ∷ []) in
        let e : length s * length g.rules + length g.rules ≤ h + length (p.walk ++ number ∷ []) = omega (arith, a, enough) in e)

    one_call : (asked : Asked) → AskedFits g s asked → IsEdgeCall g h r s outer asked → Settles (den g h) s asked
    one_call asked fit is = sized (size_of s asked.from asked.to fit.valid fit.inside)
      where
        sized : Size s asked.from asked.to → Settles (den g h) s asked
        sized (shorter lt) = on_shorter asked.callee _ asked.outer fit.fits lt
        sized (all first last same) =
            let i : IsReached g (length s) is.number = record {
              edge = is.edge;
              at = is.at;
              on = record {
                part = s;
                input = fits.input;
                size = refl;
                outer = outer;
                grown = subst (λ k. Grown g k s outer) (sym is.caller) fits.grown;
                height = h;
                reached = is.reached first last;
              };
            } in
            subst (λ t. Settled (den g h asked.callee t asked.outer)) (sym same)
            (on_whole asked.callee asked.outer (subst (λ t. Fits g asked.callee t asked.outer) same fit.fits) is.number i is.caller is.callee)

    each_call : (log : List Asked) → AllByRecursion (AskedFits g s) log → AllByRecursion (IsEdgeCall g h r s outer) log
        → AllByRecursion (Settles (den g h) s) log
    each_call [] fit is = tt
    each_call (asked ∷ log) fit is = (one_call asked fit.0 is.0, each_call log fit.1 is.1)

  settles : AsksWhatFits → (h : ℕ) → SettlesAt h
  unfolding den
  settles asks zero r s outer fits p enough = absurd (let b = short (length s) r p in let e : ⊥ = omega (arith, b, enough) in e)
  settles asks (suc h) r s outer fits p enough =
      (on_follows (den g h) (den g h) g r s outer).settles
      (each_call h (settles asks h) r s outer fits p enough _ (asks g h r s outer good fits) (calls_are_edges g h r s outer))

pub ends_without_cycles : AsksWhatFits → EdgesAreFew → EdgesAreInside → EndsWithoutCycles
unfolding no_path
ends_without_cycles asks few inside g dead good never no_cycle r s outer fits =
    let path = no_path g dead (length s) r fits.rule in
    (settles g dead good never no_cycle (few g good) (inside g good) asks (height_for g s) r s outer fits path (omega arith)).not_deep
