-- Items taken one after another.
use Rattle.std.proofs.Common.{◌≡◌, ℕ, zero, suc, ◌<◌, refl, sym, ap, ◌∙◌, subst, arith, List, [], ◌∷◌, ◌++◌, Bool, true, false, length, true≢false}
use Rattle.std.proofs.Common.{◌⊎◌, inl, inr}
use Rattle.std.specs.Prelude.{slice_set, replicate, ◌||◌, nat_eq}
use Rattle.std.proofs.lemmas.Bool.Decides.{nat_tests}
use Rattle.ipg_core.specs.MustTouch.{Marks, is_marked}
use Rattle.ipg_core.specs.Order.{is_taken, IsProvided, IsNext, InOrder}
use Rattle.ipg_order.specs.Stuck.{IsEnd, EndsAt}
use Rattle.ipg_order.specs.Closure.{unset}
use Rattle.ipg_order.specs.Needs.{Listed, IsReady, IsFirstReady, IsFirstFree}

-- what is taken after an order
abbrev pub taken_after : List ℕ → List ℕ → List ℕ
taken_after taken [] = taken
taken_after taken (u ∷ order) = taken_after (u ∷ taken) order

-- each item of the order is next when it is taken
abbrev pub Goes : (ℕ → ℕ → Type 0) → ℕ → List ℕ → List ℕ → Type 0
Goes provides n taken [] = Unit {0}
Goes provides n taken (u ∷ order) = IsNext provides n taken u × Goes provides n (u ∷ taken) order

pub taken_more : (taken order : List ℕ) (u : ℕ) → taken_after taken (order ++ u ∷ []) ≡ u ∷ taken_after taken order
taken_more taken [] u = refl
taken_more taken (v ∷ order) u = taken_more (v ∷ taken) order u

pub goes_more : (provides : ℕ → ℕ → Type 0) (n : ℕ) (taken order : List ℕ) (u : ℕ) → Goes provides n taken order
    → IsNext provides n (taken_after taken order) u → Goes provides n taken (order ++ u ∷ [])
goes_more provides n taken [] u h k = (k, tt)
goes_more provides n taken (v ∷ order) u h k = (h.0, goes_more provides n (v ∷ taken) order u h.1 k)

pub goes_whole : (provides : ℕ → ℕ → Type 0) (n : ℕ) (taken order : List ℕ) → Goes provides n taken order
    → ((u : ℕ) → u < n → is_taken (taken_after taken order) u ≡ true) → InOrder provides n taken order
goes_whole provides n taken [] h k = k
goes_whole provides n taken (v ∷ order) h k = (h.0, goes_whole provides n (v ∷ taken) order h.1 k)

pub goes_stuck : (provides : ℕ → ℕ → Type 0) (n : ℕ) (taken order : List ℕ) (u : ℕ) → Goes provides n taken order
    → IsEnd provides n (taken_after taken order) u → EndsAt provides n taken order u
goes_stuck provides n taken [] u h k = k
goes_stuck provides n taken (v ∷ order) u h k = (h.0, goes_stuck provides n (v ∷ taken) order u h.1 k)

-- ---- flags that show what is taken

taken_by : (u v : ℕ) (taken : List ℕ) (b : Bool) → nat_eq u v ≡ b → (b || is_taken taken v) ≡ true → (u ≡ v) ⊎ (is_taken taken v ≡ true)
taken_by u v taken true e h = inl (grind (arith, nat_tests))
taken_by u v taken false e h = inr h

here_by : (u v : ℕ) (taken : List ℕ) (b : Bool) → nat_eq u v ≡ b → u ≡ v → (b || is_taken taken v) ≡ true
here_by u v taken true e h = refl
here_by u v taken false e h = absurd (grind (arith, nat_tests))

there_by : (v : ℕ) (taken : List ℕ) (b : Bool) → is_taken taken v ≡ true → (b || is_taken taken v) ≡ true
there_by v taken true h = refl
there_by v taken false h = h

pub set_here : (flags : Marks) (u : ℕ) → u < length flags → is_marked (slice_set flags u true) u ≡ true
set_here [] u lt = absurd (omega arith)
set_here (f ∷ flags) zero lt = refl
set_here (f ∷ flags) (suc u) lt = set_here flags u (omega arith)

pub set_keeps : (flags : Marks) (u v : ℕ) → is_marked flags v ≡ true → is_marked (slice_set flags u true) v ≡ true
set_keeps [] u v h = h
set_keeps (f ∷ flags) zero zero h = refl
set_keeps (f ∷ flags) zero (suc v) h = h
set_keeps (f ∷ flags) (suc u) zero h = h
set_keeps (f ∷ flags) (suc u) (suc v) h = set_keeps flags u v h

pub was_set : (flags : Marks) (u v : ℕ) → is_marked (slice_set flags u true) v ≡ true → (u ≡ v) ⊎ (is_marked flags v ≡ true)
was_set [] u v h = inr h
was_set (f ∷ flags) zero zero h = inl refl
was_set (f ∷ flags) zero (suc v) h = inr h
was_set (f ∷ flags) (suc u) zero h = inr h
was_set (f ∷ flags) (suc u) (suc v) h = later (was_set flags u v h)
  where
    later : (u ≡ v) ⊎ (is_marked flags v ≡ true) → (suc u ≡ suc v) ⊎ (is_marked flags v ≡ true)
    later (inl e) = inl (ap suc e)
    later (inr k) = inr k

pub record Shows (flags : Marks) (taken : List ℕ) : Type 0 where
  pub only : (v : ℕ) → is_marked flags v ≡ true → is_taken taken v ≡ true
  pub all : (v : ℕ) → is_taken taken v ≡ true → is_marked flags v ≡ true

pub shows_none : (flags : Marks) → ((v : ℕ) → is_marked flags v ≡ true → ⊥) → Shows flags []
shows_none flags none = record { only = λ v h. absurd (none v h); all = λ v h. absurd (true≢false (sym h)) }

pub shows_more : (flags : Marks) (taken : List ℕ) (u : ℕ) → u < length flags → Shows flags taken → Shows (slice_set flags u true) (u ∷ taken)
shows_more flags taken u lt h = record {
  only = λ v k. one v (was_set flags u v k);
  all = λ v k. two v (taken_by u v taken _ refl k);
}
  where
    one : (v : ℕ) → (u ≡ v) ⊎ (is_marked flags v ≡ true) → is_taken (u ∷ taken) v ≡ true
    one v (inl e) = here_by u v taken _ refl e
    one v (inr k) = there_by v taken _ (h.only v k)

    two : (v : ℕ) → (u ≡ v) ⊎ (is_taken taken v ≡ true) → is_marked (slice_set flags u true) v ≡ true
    two v (inl e) = subst (λ w. is_marked (slice_set flags u true) w ≡ true) e (set_here flags u lt)
    two v (inr k) = set_keeps flags u v (h.all v k)

-- ---- ready items are the next ones

not_taken : (flags : Marks) (taken : List ℕ) (v : ℕ) → Shows flags taken → is_marked flags v ≡ false → is_taken taken v ≡ false
not_taken flags taken v h e = false_by (is_taken taken v) refl
  where
    false_by : (b : Bool) → is_taken taken v ≡ b → b ≡ false
    false_by true k = sym (h.all v k) ∙ e
    false_by false k = refl

not_marked : (flags : Marks) (taken : List ℕ) (v : ℕ) → Shows flags taken → is_taken taken v ≡ false → is_marked flags v ≡ false
not_marked flags taken v h e = false_by (is_marked flags v) refl
  where
    false_by : (b : Bool) → is_marked flags v ≡ b → b ≡ false
    false_by true k = sym (h.only v k) ∙ e
    false_by false k = refl

ready : (needs : List (List ℕ)) (flags : Marks) (taken : List ℕ) (w : ℕ) → Shows flags taken → w < length needs → is_taken taken w ≡ false
    → IsProvided (Listed needs) taken w → IsReady needs flags w
ready needs flags taken w h lt fresh provided = record { below = lt; fresh = not_marked flags taken w h fresh; provided = λ v k. h.all v (provided v k) }

pub is_next : (needs : List (List ℕ)) (flags : Marks) (taken : List ℕ) (u : ℕ) → Shows flags taken → IsFirstReady needs flags u
    → IsNext (Listed needs) (length needs) taken u
is_next needs flags taken u h first = record {
  below = first.ready.below;
  fresh = not_taken flags taken u h first.ready.fresh;
  provided = λ v k. h.only v (first.ready.provided v k);
  least = λ w lt fresh provided. first.least w lt (ready needs flags taken w h (let a = first.ready.below in omega arith) fresh provided);
}

pub is_end : (needs : List (List ℕ)) (flags : Marks) (taken : List ℕ) (u : ℕ) → Shows flags taken → length flags ≡ length needs
    → ((w : ℕ) → IsReady needs flags w → ⊥) → IsFirstFree flags u → IsEnd (Listed needs) (length needs) taken u
is_end needs flags taken u h same none first = record {
  below = let a = first.below in omega arith;
  fresh = not_taken flags taken u h first.fresh;
  least = λ w lt. h.only w (first.least w lt);
  none_next = λ w next. none w (ready needs flags taken w h next.below next.fresh next.provided);
}

pub fewer_unset : (flags : Marks) (u : ℕ) → u < length flags → is_marked flags u ≡ false → unset (slice_set flags u true) < unset flags
fewer_unset [] u lt h = absurd (omega arith)
fewer_unset (true ∷ flags) zero lt h = absurd (true≢false h)
fewer_unset (false ∷ flags) zero lt h = omega arith
fewer_unset (true ∷ flags) (suc u) lt h = fewer_unset flags u (omega arith) h
fewer_unset (false ∷ flags) (suc u) lt h = let less = fewer_unset flags u (omega arith) h in omega arith

pub set_size : (flags : Marks) (u : ℕ) → length (slice_set flags u true) ≡ length flags
set_size [] u = refl
set_size (f ∷ flags) zero = refl
set_size (f ∷ flags) (suc u) = ap suc (set_size flags u)

pub none_set : (n v : ℕ) → is_marked (replicate n false) v ≡ true → ⊥
none_set zero v h = true≢false (sym h)
none_set (suc n) zero h = true≢false (sym h)
none_set (suc n) (suc v) h = none_set n v h
