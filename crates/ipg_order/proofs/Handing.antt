-- Flags that are handed on, one after another.
use Rattle.std.proofs.Common.{◌≡◌, ℕ, zero, suc, ◌+◌, ◌*◌, ◌<◌, refl, sym, ap, ◌∙◌, subst, arith, List, [], ◌∷◌, Bool, true, false, length}
use Rattle.std.proofs.Common.{true≢false, ◌⊎◌, inl, inr, take, get_or}
use Rattle.std.specs.Prelude.{slice_set, slice_index_or, Contains, ◌||◌}
use Rattle.std.specs.List.{AllByRecursion}
use Rattle.std.proofs.lemmas.List.{take_more}
use Rattle.std.proofs.lemmas.List.Elements.{Contains-append_cases}
use Rattle.ipg_core.specs.MustTouch.{Marks, is_marked}
use Rattle.ipg_order.specs.declared.closure.Hand.{Hand}
use Rattle.ipg_order.specs.Closure.{flag, Reached, direct, handed, AreSound, AreReached, IsHandedOn, AreHandedOn, Stepped, unset}
use Rattle.ipg_order.proofs.Going.{set_keeps, was_set, set_size, fewer_unset}

pub step_size : (new : Bool) (old : Marks) (from to : ℕ) (flags : Marks) → Stepped new old from to flags → length flags ≡ length old
step_size true old from to flags s = ap length s.0 ∙ set_size old to
step_size false old from to flags s = ap length s.0

pub step_keeps : (new : Bool) (old : Marks) (from to : ℕ) (flags : Marks) → Stepped new old from to flags → (k : ℕ) → is_marked old k ≡ true
    → is_marked flags k ≡ true
step_keeps true old from to flags s k h = ap (λ fs. is_marked fs k) s.0 ∙ set_keeps old to k h
step_keeps false old from to flags s k h = ap (λ fs. is_marked fs k) s.0 ∙ h

pub step_sound : (new : Bool) (old : Marks) (hand : Hand) (column : ℕ) (flags : Marks) → column < 256
    → Stepped new old (flag hand.callee column) (flag hand.caller column) flags
    → (keys : List ℕ) (hands : List Hand) → Contains hands hand → AreSound keys hands old → AreSound keys hands flags
step_sound true old hand column flags lt s keys hands m sound = λ k h. one k (was_set old (flag hand.caller column) k (ap (λ fs. is_marked fs k) (sym s.0) ∙ h))
  where
    one : (k : ℕ) → (flag hand.caller column ≡ k) ⊎ (is_marked old k ≡ true) → Reached keys hands k
    one k (inl e) = subst (Reached keys hands) e (handed hand column m lt (sound (flag hand.callee column) s.1))
    one k (inr h) = sound k h
step_sound false old hand column flags lt s keys hands m sound = λ k h. sound k (ap (λ fs. is_marked fs k) (sym s.0) ∙ h)

-- a pass along the columns of a row: nothing was set so far, and these columns are handed on; or something was
pub Passing : Bool → Hand → ℕ → Marks → Marks → Type 0
Passing true hand columns old flags = unset flags < unset old
Passing false hand columns old flags = (flags ≡ old) × IsHandedOn columns hand flags

one_more : (hand : Hand) (column : ℕ) (flags : Marks)
    → (is_marked flags (flag hand.callee column) ≡ true → is_marked flags (flag hand.caller column) ≡ true) → IsHandedOn column hand flags
    → IsHandedOn (column + 1) hand flags
one_more hand column flags here so_far c lt h = by_order (below_or_same c column lt)
  where
    below_or_same : (c column : ℕ) → c < column + 1 → (c < column) ⊎ (c ≡ column)
    below_or_same c column lt = grind arith

    by_order : (c < column) ⊎ (c ≡ column) → is_marked flags (flag hand.caller c) ≡ true
    by_order (inl below) = so_far c below h
    by_order (inr same) = ap (λ n. is_marked flags (flag hand.caller n)) same ∙ here (ap (λ n. is_marked flags (flag hand.callee n)) (sym same) ∙ h)

pub passing_next : (more new : Bool) (hand : Hand) (column : ℕ) (first old flags : Marks) → flag hand.caller column < length old
    → Stepped new old (flag hand.callee column) (flag hand.caller column) flags
    → Passing more hand column first old → Passing (more || new) hand (column + 1) first flags
unfolding Passing
passing_next true true hand column first old flags lt s h =
    let less = fewer_unset old (flag hand.caller column) lt s.2 in let same : unset flags ≡ unset (slice_set old (flag hand.caller column) true) =
    ap unset s.0 in omega arith
passing_next true false hand column first old flags lt s h = let same : unset flags ≡ unset old = ap unset s.0 in omega arith
passing_next false true hand column first old flags lt s h =
    let less = fewer_unset old (flag hand.caller column) lt s.2 in
    let same : unset flags ≡ unset (slice_set old (flag hand.caller column) true) = ap unset s.0 in
    let first_same : unset old ≡ unset first = ap unset h.0 in omega arith
passing_next false false hand column first old flags lt s h = (
  s.0 ∙ h.0,
  one_more hand column flags
      (subst (λ fs. is_marked fs (flag hand.callee column) ≡ true → is_marked fs (flag hand.caller column) ≡ true) (sym s.0) s.1)
      (subst (IsHandedOn column hand) (sym s.0) h.1),
)

pub nothing_passed : (hand : Hand) (flags : Marks) → Passing false hand 0 flags flags
unfolding Passing
nothing_passed hand flags = (refl, λ c lt. absurd (omega arith))

pub passed_closed : (more : Bool) (hand : Hand) (columns : ℕ) (first flags : Marks) → more ≡ false → Passing more hand columns first flags
    → (flags ≡ first) × IsHandedOn columns hand flags
unfolding Passing
passed_closed true hand columns first flags e h = absurd (true≢false e)
passed_closed false hand columns first flags e h = h

pub passed_fewer : (more : Bool) (hand : Hand) (columns : ℕ) (first flags : Marks) → more ≡ true → Passing more hand columns first flags
    → unset flags < unset first
unfolding Passing
passed_fewer true hand columns first flags e h = h
passed_fewer false hand columns first flags e h = absurd (true≢false (sym e))

-- ---- a pass over all hands

pub PassingAll : Bool → List Hand → Marks → Marks → Type 0
PassingAll true hands old flags = unset flags < unset old
PassingAll false hands old flags = (flags ≡ old) × AreHandedOn hands flags

-- what a row came to
pub record Handed (new : Bool) (hand : Hand) (old flags : Marks) : Type 0 where
  pub closed : new ≡ false → (flags ≡ old) × IsHandedOn 256 hand flags
  pub fewer : new ≡ true → unset flags < unset old

pub all_next : (more new : Bool) (before : List Hand) (hand : Hand) (after : List Hand) (first old flags : Marks)
    → ((h : Hand) → Contains after h → Contains before h ⊎ (h ≡ hand))
    → Handed new hand old flags → PassingAll more before first old → PassingAll (more || new) after first flags
unfolding PassingAll
all_next true true before hand after first old flags m s h = let less = s.fewer refl in omega arith
all_next true false before hand after first old flags m s h = let same : unset flags ≡ unset old = ap unset (s.closed refl).0 in omega arith
all_next false true before hand after first old flags m s h = let less = s.fewer refl in let same : unset old ≡ unset first = ap unset h.0 in omega arith
all_next false false before hand after first old flags m s h =
    let same = (s.closed refl).0 in
    (same ∙ h.0, λ other k. one other (m other k))
  where
    one : (other : Hand) → Contains before other ⊎ (other ≡ hand) → IsHandedOn 256 other flags
    one other (inl k) = subst (IsHandedOn 256 other) (sym (s.closed refl).0) (h.1 other k)
    one other (inr e) = subst (λ x. IsHandedOn 256 x flags) (sym e) (s.closed refl).1

pub none_passed : (flags : Marks) → PassingAll false [] flags flags
unfolding PassingAll
none_passed flags = (refl, λ hand m. absurd (let lt = m.1 in omega arith))

pub all_closed : (more : Bool) (hands : List Hand) (first flags : Marks) → more ≡ false → PassingAll more hands first flags → AreHandedOn hands flags
unfolding PassingAll
all_closed true hands first flags e h = absurd (true≢false e)
all_closed false hands first flags e h = h.1

pub all_fewer : (more : Bool) (hands : List Hand) (first flags : Marks) → more ≡ true → PassingAll more hands first flags → unset flags < unset first
unfolding PassingAll
all_fewer true hands first flags e h = h
all_fewer false hands first flags e h = absurd (true≢false (sym e))

-- ---- closed flags that hold the keys are all that is reached

pub reached : (keys : List ℕ) (hands : List Hand) (flags : Marks) → ((k : ℕ) → Contains keys k → is_marked flags k ≡ true) → AreHandedOn hands flags
    → (k : ℕ) → Reached keys hands k → is_marked flags k ≡ true
reached keys hands flags holds closed k (direct _ m) = holds k m
reached keys hands flags holds closed k (handed hand column m lt r) =
    closed hand m column lt (reached keys hands flags holds closed (flag hand.callee column) r)

pub are_reached : (rows : ℕ) (keys : List ℕ) (hands : List Hand) (flags : Marks) → length flags ≡ rows * 256 → AreSound keys hands flags
    → ((k : ℕ) → Contains keys k → is_marked flags k ≡ true) → AreHandedOn hands flags → AreReached rows keys hands flags
are_reached rows keys hands flags size sound holds closed = record { size = size; exact = λ k. (sound k, reached keys hands flags holds closed k) }

-- ---- what is gone over so far

pub only_one : {X : Type 0} (x y : X) → Contains (x ∷ []) y → y ≡ x
only_one x y m = one m.0 m.1 m.2
  where
    one : (k : ℕ) → k < 1 → slice_index_or (x ∷ []) k y ≡ y → y ≡ x
    one zero lt e = sym e
    one (suc k) lt e = absurd (omega arith)

pub so_far : {X : Type 0} (xs : List X) (i : ℕ) (d x : X) → i < length xs → Contains (take (i + 1) xs) x → Contains (take i xs) x ⊎ (x ≡ get_or xs i d)
so_far xs i d x lt m = choose (Contains-append_cases (take i xs) (get_or xs i d ∷ []) x (subst (λ ys. Contains ys x) (take_more xs i d lt) m))
  where
    choose : Contains (take i xs) x ⊎ Contains (get_or xs i d ∷ []) x → Contains (take i xs) x ⊎ (x ≡ get_or xs i d)
    choose (inl k) = inl k
    choose (inr k) = inr (only_one (get_or xs i d) x k)

get_or-any : {X : Type 0} (xs : List X) (i : ℕ) (d e : X) → i < length xs → get_or xs i d ≡ get_or xs i e
get_or-any [] i d e lt = absurd (omega arith)
get_or-any (x ∷ xs) zero d e lt = refl
get_or-any (x ∷ xs) (suc i) d e lt = get_or-any xs i d e (omega arith)

pub each_below : (n : ℕ) (xs : List ℕ) (i d : ℕ) → i < length xs → AllByRecursion (λ x. x < n) xs → get_or xs i d < n
each_below n [] i d lt h = absurd (omega arith)
each_below n (x ∷ xs) zero d lt h = h.0
each_below n (x ∷ xs) (suc i) d lt h = each_below n xs i d (omega arith) h.1

pub is_there : {X : Type 0} (xs : List X) (i : ℕ) (d : X) → i < length xs → Contains xs (get_or xs i d)
is_there xs i d lt = (i, lt, get_or-any xs i (get_or xs i d) d lt)
