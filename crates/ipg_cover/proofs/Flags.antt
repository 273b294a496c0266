-- Flags of rules, set one after another.
use Rattle.std.proofs.Common.{◌≡◌, ℕ, zero, suc, ◌+◌, ◌<◌, refl, sym, ap, ◌∙◌, subst, arith, List, [], ◌∷◌, Bool, true, false, length}
use Rattle.std.proofs.Common.{true≢false, ◌⊎◌, inl, inr, take, get_or}
use Rattle.std.specs.Prelude.{slice_set, slice_get, slice_index_or, replicate, Contains, ◌||◌, Some}
use Rattle.std.specs.List.{AllByRecursion}
use Rattle.std.proofs.lemmas.List.{take_more}
use Rattle.std.proofs.lemmas.List.Elements.{Contains-append_cases}
use Rattle.ipg_core.specs.MustTouch.{Marks, is_marked}
use Rattle.ipg_core.specs.Grammar.{Grammar}
use Rattle.ipg_graph.specs.declared.edge.Edge.{Edge}
use Rattle.ipg_facts_edges.specs.Edges.{edges_of}
use Rattle.ipg_cover.specs.Reach.{Leads, first, called, AreReached}
use Rattle.ipg_cover.specs.Pass.{AreSound, AreClosed, IsFollowed, Stepped, Passed, unset}

set_here : (flags : Marks) (u : ℕ) → u < length flags → is_marked (slice_set flags u true) u ≡ true
set_here [] u lt = absurd (omega arith)
set_here (f ∷ flags) zero lt = refl
set_here (f ∷ flags) (suc u) lt = set_here flags u (omega arith)

set_keeps : (flags : Marks) (u v : ℕ) → is_marked flags v ≡ true → is_marked (slice_set flags u true) v ≡ true
set_keeps [] u v h = h
set_keeps (f ∷ flags) zero zero h = refl
set_keeps (f ∷ flags) zero (suc v) h = h
set_keeps (f ∷ flags) (suc u) zero h = h
set_keeps (f ∷ flags) (suc u) (suc v) h = set_keeps flags u v h

was_set : (flags : Marks) (u v : ℕ) → is_marked (slice_set flags u true) v ≡ true → (u ≡ v) ⊎ (is_marked flags v ≡ true)
was_set [] u v h = inr h
was_set (f ∷ flags) zero zero h = inl refl
was_set (f ∷ flags) zero (suc v) h = inr h
was_set (f ∷ flags) (suc u) zero h = inr h
was_set (f ∷ flags) (suc u) (suc v) h = later (was_set flags u v h)
  where
    later : (u ≡ v) ⊎ (is_marked flags v ≡ true) → (suc u ≡ suc v) ⊎ (is_marked flags v ≡ true)
    later (inl e) = inl (ap suc e)
    later (inr k) = inr k

pub set_size : (flags : Marks) (u : ℕ) → length (slice_set flags u true) ≡ length flags
set_size [] u = refl
set_size (f ∷ flags) zero = refl
set_size (f ∷ flags) (suc u) = ap suc (set_size flags u)

fewer_unset : (flags : Marks) (u : ℕ) → u < length flags → is_marked flags u ≡ false → unset (slice_set flags u true) < unset flags
fewer_unset [] u lt h = absurd (omega arith)
fewer_unset (true ∷ flags) zero lt h = absurd (true≢false h)
fewer_unset (false ∷ flags) zero lt h = omega arith
fewer_unset (true ∷ flags) (suc u) lt h = fewer_unset flags u (omega arith) h
fewer_unset (false ∷ flags) (suc u) lt h = let less = fewer_unset flags u (omega arith) h in omega arith

none_set : (n v : ℕ) → is_marked (replicate n false) v ≡ true → ⊥
none_set zero v h = true≢false (sym h)
none_set (suc n) zero h = true≢false (sym h)
none_set (suc n) (suc v) h = none_set n v h

pub step_size : (new : Bool) (old : Marks) (e : Edge) (flags : Marks) → Stepped new old e flags → length flags ≡ length old
step_size true old e flags s = ap length s.0 ∙ set_size old e.callee
step_size false old e flags s = ap length s.0

pub step_keeps : (new : Bool) (old : Marks) (e : Edge) (flags : Marks) → Stepped new old e flags → (k : ℕ) → is_marked old k ≡ true
    → is_marked flags k ≡ true
step_keeps true old e flags s k h = ap (λ fs. is_marked fs k) s.0 ∙ set_keeps old e.callee k h
step_keeps false old e flags s k h = ap (λ fs. is_marked fs k) s.0 ∙ h

pub step_sound : (new : Bool) (old : Marks) (e : Edge) (flags : Marks) → Stepped new old e flags → (edges : List Edge) → Contains edges e
    → AreSound edges old → AreSound edges flags
step_sound true old e flags s edges m sound = λ k h. one k (was_set old e.callee k (ap (λ fs. is_marked fs k) (sym s.0) ∙ h))
  where
    one : (k : ℕ) → (e.callee ≡ k) ⊎ (is_marked old k ≡ true) → Leads edges k
    one k (inl same) = subst (Leads edges) same (called e m (sound e.caller s.1))
    one k (inr h) = sound k h
step_sound false old e flags s edges m sound = λ k h. sound k (ap (λ fs. is_marked fs k) (sym s.0) ∙ h)

-- ---- a pass

only_one : {X : Type 0} (x y : X) → Contains (x ∷ []) y → y ≡ x
only_one x y m = one m.0 m.1 m.2
  where
    one : (k : ℕ) → k < 1 → slice_index_or (x ∷ []) k y ≡ y → y ≡ x
    one zero lt e = sym e
    one (suc k) lt e = absurd (omega arith)

so_far : {X : Type 0} (xs : List X) (i : ℕ) (d x : X) → i < length xs → Contains (take (i + 1) xs) x → Contains (take i xs) x ⊎ (x ≡ get_or xs i d)
so_far xs i d x lt m = choose (Contains-append_cases (take i xs) (get_or xs i d ∷ []) x (subst (λ ys. Contains ys x) (take_more xs i d lt) m))
  where
    choose : Contains (take i xs) x ⊎ Contains (get_or xs i d ∷ []) x → Contains (take i xs) x ⊎ (x ≡ get_or xs i d)
    choose (inl k) = inl k
    choose (inr k) = inr (only_one (get_or xs i d) x k)

get_or-any : {X : Type 0} (xs : List X) (i : ℕ) (d e : X) → i < length xs → get_or xs i d ≡ get_or xs i e
get_or-any [] i d e lt = absurd (omega arith)
get_or-any (x ∷ xs) zero d e lt = refl
get_or-any (x ∷ xs) (suc i) d e lt = get_or-any xs i d e (omega arith)

pub is_there : {X : Type 0} (xs : List X) (i : ℕ) (d : X) → i < length xs → Contains xs (get_or xs i d)
is_there xs i d lt = (i, lt, get_or-any xs i (get_or xs i d) d lt)

followed : (edges : List Edge) (i : ℕ) (d : Edge) (flags : Marks) → i < length edges → IsFollowed flags (get_or edges i d) → AreClosed (take i edges) flags
    → AreClosed (take (i + 1) edges) flags
followed edges i d flags lt here closed e m = one (so_far edges i d e lt m)
  where
    one : Contains (take i edges) e ⊎ (e ≡ get_or edges i d) → IsFollowed flags e
    one (inl k) = closed e k
    one (inr same) = subst (IsFollowed flags) (sym same) here

pub passed_next : (more new : Bool) (edges : List Edge) (i : ℕ) (d : Edge) (begun old flags : Marks) → i < length edges → (get_or edges i d).callee < length old
    → Stepped new old (get_or edges i d) flags → Passed more (take i edges) begun old → Passed (more || new) (take (i + 1) edges) begun flags
passed_next true true edges i d begun old flags lt room s h =
    let less = fewer_unset old (get_or edges i d).callee room s.2 in
    let same : unset flags ≡ unset (slice_set old (get_or edges i d).callee true) = ap unset s.0 in omega arith
passed_next true false edges i d begun old flags lt room s h = let same : unset flags ≡ unset old = ap unset s.0 in omega arith
passed_next false true edges i d begun old flags lt room s h =
    let less = fewer_unset old (get_or edges i d).callee room s.2 in
    let same : unset flags ≡ unset (slice_set old (get_or edges i d).callee true) = ap unset s.0 in
    let first_same : unset old ≡ unset begun = ap unset h.0 in omega arith
passed_next false false edges i d begun old flags lt room s h = (
  s.0 ∙ h.0,
  followed edges i d flags lt (subst (λ fs. IsFollowed fs (get_or edges i d)) (sym s.0) s.1) (subst (AreClosed (take i edges)) (sym s.0) h.1),
)

pub none_passed : (flags : Marks) → Passed false [] flags flags
none_passed flags = (refl, λ e m. absurd (let lt = m.1 in omega arith))

pub passed_closed : (more : Bool) (edges : List Edge) (begun flags : Marks) → more ≡ false → Passed more edges begun flags → AreClosed edges flags
passed_closed true edges begun flags e h = absurd (true≢false e)
passed_closed false edges begun flags e h = h.1

pub passed_fewer : (more : Bool) (edges : List Edge) (begun flags : Marks) → more ≡ true → Passed more edges begun flags → unset flags < unset begun
passed_fewer true edges begun flags e h = h
passed_fewer false edges begun flags e h = absurd (true≢false (sym e))

pub callee_below : (n : ℕ) (edges : List Edge) (i : ℕ) (d : Edge) → i < length edges → AllByRecursion (λ (e : Edge). (e.caller < n) × (e.callee < n)) edges
    → ((get_or edges i d).caller < n) × ((get_or edges i d).callee < n)
callee_below n [] i d lt h = absurd (omega arith)
callee_below n (e ∷ edges) zero d lt h = h.0
callee_below n (e ∷ edges) (suc i) d lt h = callee_below n edges i d (omega arith) h.1

-- ---- all that is reached

pub some_rule : {A : Type 0} (rules : List A) (rule : A) → slice_get rules 0 ≡ Some rule → 0 < length rules
some_rule [] rule e = absurd (cc)
some_rule (r ∷ rules) rule e = omega arith

pub begun_here : (n : ℕ) → 0 < n → is_marked (slice_set (replicate n false) 0 true) 0 ≡ true
begun_here zero lt = absurd (omega arith)
begun_here (suc n) lt = refl

pub begun_sound : (edges : List Edge) (n : ℕ) → AreSound edges (slice_set (replicate n false) 0 true)
begun_sound edges n rule h = one (was_set (replicate n false) 0 rule h)
  where
    one : (0 ≡ rule) ⊎ (is_marked (replicate n false) rule ≡ true) → Leads edges rule
    one (inl e) = subst (Leads edges) e first
    one (inr k) = absurd (none_set n rule k)

all_marked : (edges : List Edge) (flags : Marks) → is_marked flags 0 ≡ true → AreClosed edges flags → (rule : ℕ) → Leads edges rule
    → is_marked flags rule ≡ true
all_marked edges flags here closed rule first = here
all_marked edges flags here closed rule (called e m leads) = closed e m (all_marked edges flags here closed e.caller leads)

pub are_reached : (g : Grammar) (flags : Marks) → length flags ≡ length g.rules → AreSound (edges_of g) flags → is_marked flags 0 ≡ true
    → AreClosed (edges_of g) flags → AreReached g flags
are_reached g flags size sound here closed = record { size = size; exact = λ rule. (sound rule, all_marked (edges_of g) flags here closed rule) }
