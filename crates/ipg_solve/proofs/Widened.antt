-- What decides a formula in the box of its own variables decides it in the box with more of them.
use Rattle.std.proofs.Common.{◌≡◌, ℕ, zero, suc, ◌+◌, ◌-◌, ◌^◌, ◌<◌, ◌≤◌, max, Bool, true, false, cond, ◌&&◌, ◌||◌, nat_le, nat_lt, inl, inr, ℤ, pos}
use Rattle.std.proofs.Common.{◌+ℤ◌, ◌*ℤ◌, List, [], ◌∷◌, ◌++◌, map, length, take, drop, refl, sym, ◌∙◌, ap, subst, arith, length-append, length-drop}
use Rattle.std.proofs.Common.{append_assoc, take-append-drop}
use Rattle.std.specs.Prelude.{Option, None, Some, slice_get, option_and_then, int_le, ◌≤ℤ◌}
use Rattle.std.specs.List.{AllByRecursion}
use Rattle.std.specs.Option.{option_map}
use Rattle.std.specs.Prelude.{unwrap_or}
use Rattle.std.proofs.lemmas.Bool.{cases_lt}
use Rattle.std.proofs.lemmas.Int.{ints}
use Rattle.std.proofs.lemmas.List.{length-map, length-take-le, append-nil}
use Rattle.std.proofs.lemmas.Option.{slice_get-map, slice_get_within}
use borrow.Author.Tests.{ltb-true, ltb-false}
use Rattle.ipg_lin.specs.Form.{Form, Assignment, sum_at, terms_width}
use Rattle.ipg_lin.specs.Formula.{holds_at, holds_step, every, some, greatest, width, width_step}
use Rattle.ipg_lin.specs.declared.formula.Formula.{Formula}
use Rattle.ipg_lin.specs.declared.formula.Formula.TheVariants as formula
use Rattle.ipg_lin.specs.Members.{by_members, folds-Atom, folds-All, folds-Any}
use Rattle.ipg_lin.specs.Formula.{assigned}
use Rattle.ipg_lin.specs.declared.formula.Boxed.{Boxed}
use Rattle.ipg_cert.specs.Facts.{Fact, bound_facts, facts_of}
use Rattle.ipg_cert.specs.Checks.{atom_in, plus_times, zero_form, sum_from, weighted_sum, is_absurd, combines, checks, root_facts}
use Rattle.ipg_cert.specs.declared.refutation.Refutation.{Refutation}
use Rattle.ipg_cert.specs.declared.refutation.Step.TheVariants.{Combine}
use Rattle.ipg_solve.specs.declared.decision.Decision.TheVariants.{Refuted}
use Rattle.ipg_solve.specs.declared.domain.Domain.{Domain}
use Rattle.ipg_solve.specs.Decides.{Solves}
use Rattle.ipg_solve.specs.Differences.{IsShort}
use Rattle.ipg_solve.specs.Cuts.{start_domains}
use Rattle.ipg_solve.specs.Domains.{AreFull}
use Rattle.ipg_solve.specs.Edges.{entries_of}
use Rattle.ipg_solve.specs.Widened.{moved, with_lows}
use Rattle.ipg_solve.proofs.Parts.{start_length, start_at, bounds_length}

-- ---- assignments that agree on the formula's variables

abbrev Agree : ℕ → Assignment → Assignment → Type 0
Agree n u v = (x : ℕ) → x < n → u x ≡ v x

abbrev IsSame : Formula → Type 0
IsSame f = (n : ℕ) (u v : Assignment) → width f ≤ n → Agree n u v → holds_at u f ≡ holds_at v f

sums_same : (n : ℕ) (u v : Assignment) (terms : List (ℕ × ℤ)) → terms_width terms ≤ n → Agree n u v → sum_at u terms ≡ sum_at v terms
sums_same n u v [] w agree = refl
sums_same n u v (t ∷ terms) w agree = ap (λ z. (t.1 *ℤ z) +ℤ sum_at u terms) (agree t.0 (omega arith))
    ∙ ap (λ z. (t.1 *ℤ v t.0) +ℤ z) (sums_same n u v terms (omega arith) agree)

every_same : (fs : List Formula) → AllByRecursion IsSame fs → (n : ℕ) (u v : Assignment) → greatest (map width fs) ≤ n → Agree n u v
    → every (map (holds_at u) fs) ≡ every (map (holds_at v) fs)
every_same [] each n u v w agree = refl
every_same (f ∷ fs) each n u v w agree = ap (λ b. b && every (map (holds_at u) fs)) (each.0 n u v (omega arith) agree)
    ∙ ap (λ b. holds_at v f && b) (every_same fs each.1 n u v (omega arith) agree)

some_same : (fs : List Formula) → AllByRecursion IsSame fs → (n : ℕ) (u v : Assignment) → greatest (map width fs) ≤ n → Agree n u v
    → some (map (holds_at u) fs) ≡ some (map (holds_at v) fs)
some_same [] each n u v w agree = refl
some_same (f ∷ fs) each n u v w agree = ap (λ b. b || some (map (holds_at u) fs)) (each.0 n u v (omega arith) agree)
    ∙ ap (λ b. holds_at v f || b) (some_same fs each.1 n u v (omega arith) agree)

on_atom : (form : Form) → IsSame (formula.Atom form)
on_atom form n u v w agree =
    folds-Atom Bool (holds_step u) form
    ∙ ap (λ z. int_le (z +ℤ form.constant) (pos 0)) (sums_same n u v form.terms (subst (λ k. k ≤ n) (folds-Atom ℕ width_step form) w) agree)
    ∙ sym (folds-Atom Bool (holds_step v) form)

on_all : (fs : List Formula) → AllByRecursion IsSame fs → IsSame (formula.All fs)
on_all fs each n u v w agree = folds-All Bool (holds_step u) fs ∙ every_same fs each n u v (subst (λ k. k ≤ n) (folds-All ℕ width_step fs) w) agree
    ∙ sym (folds-All Bool (holds_step v) fs)

on_any : (fs : List Formula) → AllByRecursion IsSame fs → IsSame (formula.Any fs)
on_any fs each n u v w agree = folds-Any Bool (holds_step u) fs ∙ some_same fs each n u v (subst (λ k. k ≤ n) (folds-Any ℕ width_step fs) w) agree
    ∙ sym (folds-Any Bool (holds_step v) fs)

pub holds_same : (f : Formula) → IsSame f
holds_same = by_members IsSame on_atom on_all on_any

-- ---- facts that come in between others

pub bound_facts-append : (x : ℕ) (front back : List (ℤ × ℤ)) → bound_facts x (front ++ back) ≡ bound_facts x front ++ bound_facts (x + length front) back
bound_facts-append x [] back = ap (λ n. bound_facts n back) (omega arith)
bound_facts-append x (b ∷ front) back =
    ap (λ fs. bound_facts x (b ∷ []) ++ fs) (bound_facts-append (x + 1) front back)
    ∙ ap (λ n. bound_facts x (b ∷ front) ++ bound_facts n back) (omega arith)

get_front : {X : Type 0} (front back more : List X) (n : ℕ) → n < length front → slice_get (front ++ back) n ≡ slice_get (front ++ more) n
get_front [] back more n h = absurd (omega arith)
get_front (x ∷ front) back more zero h = refl
get_front (x ∷ front) back more (suc n) h = get_front front back more n (omega arith)

get_back : {X : Type 0} (front back more : List X) (n m : ℕ) → length front ≤ n → m ≡ n + length more
    → slice_get (front ++ (more ++ back)) m ≡ slice_get (front ++ back) n
get_back [] back [] n m h e = ap (slice_get back) (omega arith)
get_back [] back (y ∷ more) n zero h e = absurd (omega arith)
get_back [] back (y ∷ more) n (suc m) h e = get_back [] back more n m (omega arith) (omega arith)
get_back (x ∷ front) back more zero m h e = absurd (omega arith)
get_back (x ∷ front) back more (suc n) zero h e = absurd (omega arith)
get_back (x ∷ front) back more (suc n) (suc m) h e = get_back front back more n m (omega arith) (omega arith)

-- ---- sums of facts under other numbers

next_same : (o : Option Form) (k l : Form → Option Form) → ((form : Form) → k form ≡ l form) → option_and_then k o ≡ option_and_then l o
next_same None k l same = refl
next_same (Some form) k l same = same form

sum_moved : (fs gs : List Fact) (to : ℕ → ℕ) → ((n : ℕ) → slice_get fs (to n) ≡ slice_get gs n) → (sum : Form) (numbers : List ℕ)
    → sum_from fs sum (entries_of (map to numbers)) ≡ sum_from gs sum (entries_of numbers)
sum_moved fs gs to same sum [] = refl
sum_moved fs gs to same sum (n ∷ numbers) =
    ap (λ o. option_and_then (λ form. sum_from fs (plus_times 1 form sum) (entries_of (map to numbers))) (atom_in o)) (same n)
    ∙ next_same (atom_in (slice_get gs n)) (λ form. sum_from fs (plus_times 1 form sum) (entries_of (map to numbers)))
    (λ form. sum_from gs (plus_times 1 form sum) (entries_of numbers))
    (λ form. sum_moved fs gs to same (plus_times 1 form sum) numbers)

pub combines_moved : (fs gs : List Fact) (to : ℕ → ℕ) → ((n : ℕ) → slice_get fs (to n) ≡ slice_get gs n) → (numbers : List ℕ)
    → combines (entries_of (map to numbers)) fs ≡ combines (entries_of numbers) gs
combines_moved fs gs to same numbers =
    let count : length (entries_of (map to numbers)) ≡ length (entries_of numbers) =
    length-map (map to numbers) (λ (n : ℕ). (1, n)) ∙ length-map numbers to ∙ sym (length-map numbers (λ (n : ℕ). (1, n))) in
    ap (λ k. nat_le 1 k && (nat_le k (2 ^ 21) && is_absurd (weighted_sum fs (entries_of (map to numbers))))) count
    ∙ ap (λ o. nat_le 1 (length (entries_of numbers)) && (nat_le (length (entries_of numbers)) (2 ^ 21) && is_absurd o))
    (sum_moved fs gs to same zero_form numbers)

-- ---- the box with more variables

get_take : {X : Type 0} (xs : List X) (w x : ℕ) → x < w → slice_get (take w xs) x ≡ slice_get xs x
get_take xs zero x h = absurd (omega arith)
get_take [] (suc w) x h = refl
get_take (y ∷ xs) (suc w) zero h = refl
get_take (y ∷ xs) (suc w) (suc x) h = get_take xs w x (omega arith)

get_drop : {X : Type 0} (xs : List X) (w k : ℕ) → slice_get (drop w xs) k ≡ slice_get xs (w + k)
get_drop xs zero k = ap (slice_get xs) (omega arith)
get_drop [] (suc w) k = refl
get_drop (y ∷ xs) (suc w) k = let e : suc (w + k) ≡ suc w + k = omega arith in get_drop xs w k ∙ ap (slice_get (y ∷ xs)) e

get_past : {X : Type 0} (xs ys : List X) (k : ℕ) → slice_get (xs ++ ys) (length xs + k) ≡ slice_get ys k
get_past [] ys k = ap (slice_get ys) (omega arith)
get_past (x ∷ xs) ys k = let e : suc (length xs) + k ≡ suc (length xs + k) = omega arith in ap (slice_get (x ∷ (xs ++ ys))) e ∙ get_past xs ys k

-- the value of a variable behind the others is its least one
low_past : (values : List ℤ) (bounds : List (ℤ × ℤ)) (x : ℕ) (low high : ℤ) → length values ≤ x → slice_get bounds x ≡ Some (low, high)
    → assigned (with_lows bounds values) x ≡ low
low_past values bounds x low high past at =
    let k = x - length values in
    let e : length values + k ≡ x = omega arith in
    ap (assigned (with_lows bounds values)) (sym e)
    ∙ ap (λ o. unwrap_or o (pos 0)) (get_past values (map (λ (b : ℤ × ℤ). b.0) (drop (length values) bounds)) k
    ∙ slice_get-map (λ (b : ℤ × ℤ). b.0) (drop (length values) bounds) k
    ∙ ap (option_map (λ (b : ℤ × ℤ). b.0)) (get_drop bounds (length values) k ∙ ap (slice_get bounds) e ∙ at))

value_front : (values more : List ℤ) (x : ℕ) → x < length values → assigned values x ≡ assigned (values ++ more) x
value_front values more x within = ap (λ o. unwrap_or o (pos 0)) (ap (λ vs. slice_get vs x) (sym (append-nil values)) ∙ get_front values [] more x within)

pub widened_solves : (f : Formula) (box front : Boxed) (values : List ℤ) → front.bounds ≡ take (width f) box.bounds → width f ≤ length box.bounds
    → AreFull (start_domains 0 box.bounds) → Solves f front values → Solves f box (with_lows box.bounds values)
widened_solves f box front values is within full solves =
    let w = width f in
    let n : length values ≡ w = solves.0 ∙ ap length is ∙ length-take-le w box.bounds within in
    let more : List ℤ = map (λ (b : ℤ × ℤ). b.0) (drop (length values) box.bounds) in (
      length-append values more ∙ ap (λ k. length values + k) (length-map (drop (length values) box.bounds) (λ (b : ℤ × ℤ). b.0)
          ∙ length-drop (length values) box.bounds) ∙ omega (arith, n),
      λ x low high at.
          elim (cases_lt x w) [
            | inl below ↦
                let lies = solves.1 x low high (ap (λ bs. slice_get bs x) is ∙ get_take box.bounds w x below ∙ at) in
                let same : assigned values x ≡ assigned (values ++ more) x = value_front values more x (omega (arith, n)) in
                (subst (λ z. low ≤ℤ z) same lies.0, subst (λ z. z ≤ℤ high) same lies.1)
            | inr past ↦
                let value = low_past values box.bounds x low high (omega (arith, n)) at in
                let inside : x < length (start_domains 0 box.bounds) = omega (arith, start_length 0 box.bounds, slice_get_within box.bounds x (low, high) at) in
                let order : low ≤ℤ high = subst (λ (s : Domain). s.low ≤ℤ s.high) (start_at 0 box.bounds x (low, high) at) (full x inside) in
                (omega (arith, ints, value), omega (arith, ints, value, order))
          ],
      sym (holds_same f w (assigned values) (assigned (values ++ more)) (omega arith) (λ x below. value_front values more x (omega (arith, n)))) ∙ solves.2,
    )

fact_moved : (f : Formula) (box front : Boxed) (w kept more : ℕ) → front.bounds ≡ take w box.bounds → w ≤ length box.bounds → kept ≡ w + w
    → more ≡ (length box.bounds - w) + (length box.bounds - w) → (n : ℕ)
    → slice_get (root_facts f box) (moved kept more n) ≡ slice_get (root_facts f front) n
fact_moved f box front w kept more is within kept_is more_is n =
    let first : List Fact = bound_facts 0 (take w box.bounds) in
    let others : List Fact = bound_facts (0 + length (take w box.bounds)) (drop w box.bounds) in
    let size : length (take w box.bounds) ≡ w = length-take-le w box.bounds within in
    let k : length first ≡ kept = bounds_length 0 (take w box.bounds) ∙ omega (arith, size) in
    let m : length others ≡ more = bounds_length (0 + length (take w box.bounds)) (drop w box.bounds) ∙ omega (arith, length-drop w box.bounds) in
    let whole : root_facts f box ≡ first ++ (others ++ facts_of f) =
    ap (λ bs. bound_facts 0 bs ++ facts_of f) (sym (take-append-drop w box.bounds))
    ∙ ap (λ fs. fs ++ facts_of f) (bound_facts-append 0 (take w box.bounds) (drop w box.bounds)) ∙ append_assoc first others (facts_of f) in
    let part : first ++ facts_of f ≡ root_facts f front = ap (λ bs. bound_facts 0 bs ++ facts_of f) (sym is) in
    ap (λ fs. slice_get fs (moved kept more n)) whole
    ∙ elim (nat_lt n kept) as (λ b. nat_lt n kept ≡ b → slice_get (first ++ (others ++ facts_of f)) (cond b n (n + more)) ≡ slice_get (first ++ facts_of f) n) [
      | true ↦ λ e. get_front first (others ++ facts_of f) (facts_of f) n (omega (arith, k, ltb-true n kept e))
      | false ↦ λ e. get_back first (facts_of f) others n (n + more) (omega (arith, k, ltb-false n kept e)) (omega (arith, m))
    ] refl
    ∙ ap (λ fs. slice_get fs n) part

pub widened_checks : (f : Formula) (box front : Boxed) (w kept more : ℕ) (facts : List ℕ) (r : Refutation) → front.bounds ≡ take w box.bounds
    → w ≤ length box.bounds → kept ≡ w + w → more ≡ (length box.bounds - w) + (length box.bounds - w)
    → combines (entries_of facts) (root_facts f front) ≡ true → r ≡ record { steps = Combine (entries_of (map (moved kept more) facts)) ∷ [] }
    → checks f box r ≡ true
widened_checks f box front w kept more facts r is within kept_is more_is holds made =
    ap (checks f box) made
    ∙ ap (λ b. b && true) (combines_moved (root_facts f box) (root_facts f front) (moved kept more)
    (fact_moved f box front w kept more is within kept_is more_is) facts ∙ holds)

pub widened_short : (w kept more : ℕ) (facts : List ℕ) (r : Refutation) → length facts ≤ w + 1
    → r ≡ record { steps = Combine (entries_of (map (moved kept more) facts)) ∷ [] } → IsShort (max 1 w) (Refuted r)
widened_short w kept more facts r few made =
    let entries : List (ℕ × ℕ) = entries_of (map (moved kept more) facts) in
    let count : length entries ≡ length facts = length-map (map (moved kept more) facts) (λ (n : ℕ). (1, n)) ∙ length-map facts (moved kept more) in
    (entries, ap (λ (s : Refutation). s.steps) made, omega (arith, count))
