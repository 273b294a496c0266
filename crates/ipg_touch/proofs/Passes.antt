-- One rule more of a pass.
use Rattle.std.proofs.Common.{◌≡◌, ℕ, zero, suc, ◌+◌, ◌<◌, refl, sym, ap, ◌∙◌, subst, arith, List, [], ◌∷◌, Some, Bool, true}
use Rattle.std.proofs.Common.{false, length, true≢false, ◌⊎◌, inl, inr}
use Rattle.std.specs.Prelude.{slice_get, slice_set, ◌||◌}
use Rattle.std.proofs.lemmas.Option.{slice_get_within}
use Rattle.ipg_core.specs.declared.grammar.CoreRule.{CoreRule}
use Rattle.ipg_core.specs.Grammar.{Grammar}
use Rattle.ipg_core.specs.MustTouch.{Marks, is_marked, all_marked, round}
use Rattle.ipg_touch.specs.Pass.{AreBelow, AreSound, AreClosed, Marking, unmarked}
use Rattle.ipg_touch.proofs.Rounds.{rise, next_marks}

-- ---- marks with one set

set_size : (marks : Marks) (r : ℕ) → length (slice_set marks r true) ≡ length marks
set_size [] r = refl
set_size (m ∷ marks) zero = refl
set_size (m ∷ marks) (suc r) = ap suc (set_size marks r)

-- what is marked then was marked before, or is the one
was_marked : (marks : Marks) (r s : ℕ) → is_marked (slice_set marks r true) s ≡ true → (is_marked marks s ≡ true) ⊎ (r ≡ s)
was_marked [] r s h = inl h
was_marked (m ∷ marks) zero zero h = inr refl
was_marked (m ∷ marks) zero (suc s) h = inl h
was_marked (m ∷ marks) (suc r) zero h = inl h
was_marked (m ∷ marks) (suc r) (suc s) h = later (was_marked marks r s h)
  where
    later : (is_marked marks s ≡ true) ⊎ (r ≡ s) → (is_marked marks s ≡ true) ⊎ (suc r ≡ suc s)
    later (inl k) = inl k
    later (inr e) = inr (ap suc e)

fewer_unmarked : (marks : Marks) (r : ℕ) → r < length marks → is_marked marks r ≡ false → unmarked (slice_set marks r true) < unmarked marks
fewer_unmarked [] r lt h = absurd (omega arith)
fewer_unmarked (true ∷ marks) zero lt h = absurd (true≢false h)
fewer_unmarked (false ∷ marks) zero lt h = omega arith
fewer_unmarked (true ∷ marks) (suc r) lt h = fewer_unmarked marks r (omega arith) h
fewer_unmarked (false ∷ marks) (suc r) lt h = let less = fewer_unmarked marks r (omega arith) h in omega arith

-- ---- a pass as far as rule i

-- nothing is marked so far, and the rules so far are closed; or something is
pub Passing : Bool → List CoreRule → ℕ → Marks → Marks → Type 0
Passing true rules i old marks = unmarked marks < unmarked old
Passing false rules i old marks = (marks ≡ old) × ((r : ℕ) (rule : CoreRule) → r < i → slice_get rules r ≡ Some rule
    → all_marked marks rule.alts ≡ true → is_marked marks r ≡ true)

pub sound_next : (g : Grammar) (new : Bool) (old marks : Marks) (r : ℕ) (rule : CoreRule) → slice_get g.rules r ≡ Some rule
    → Marking new old r rule.alts marks → AreSound g old → AreSound g marks
sound_next g true old marks r rule e m sound =
    let below : AreBelow old (round g (suc sound.rounds)) = λ s h. rise g sound.rounds s (sound.below s h) in
    record {
      size = ap length m.0 ∙ set_size old r ∙ sound.size;
      rounds = suc sound.rounds;
      below = λ s h. one s (was_marked old r s (ap (λ ms. is_marked ms s) (sym m.0) ∙ h));
    }
  where
    one : (s : ℕ) → (is_marked old s ≡ true) ⊎ (r ≡ s) → is_marked (round g (suc sound.rounds)) s ≡ true
    one s (inl h) = rise g sound.rounds s (sound.below s h)
    one s (inr same) = subst (λ n. is_marked (round g (suc sound.rounds)) n ≡ true) same (next_marks g old sound.rounds r rule sound.below e m.2)
sound_next g false old marks r rule e m sound = subst (AreSound g) (sym m.0) sound

rest_closed : (rules : List CoreRule) (marks : Marks) (r : ℕ) (rule : CoreRule) → slice_get rules r ≡ Some rule
    → (all_marked marks rule.alts ≡ true → is_marked marks r ≡ true)
    → ((s : ℕ) (other : CoreRule) → s < r → slice_get rules s ≡ Some other → all_marked marks other.alts ≡ true → is_marked marks s ≡ true)
    → (s : ℕ) (other : CoreRule) → s < r + 1 → slice_get rules s ≡ Some other → all_marked marks other.alts ≡ true → is_marked marks s ≡ true
rest_closed rules marks r rule e here so_far s other lt f h = by_order (below_or_same s r lt)
  where
    below_or_same : (s r : ℕ) → s < r + 1 → (s < r) ⊎ (s ≡ r)
    below_or_same s r lt = grind arith

    by_order : (s < r) ⊎ (s ≡ r) → is_marked marks s ≡ true
    by_order (inl below) = so_far s other below f h
    by_order (inr same) =
        let one : other ≡ rule = let g = sym f ∙ ap (slice_get rules) same ∙ e in cc in
        ap (is_marked marks) same ∙ here (ap (λ (x : CoreRule). all_marked marks x.alts) (sym one) ∙ h)

pub passing_next : (rules : List CoreRule) (more new : Bool) (first old marks : Marks) (r : ℕ) (rule : CoreRule) → slice_get rules r ≡ Some rule
    → r < length old → Marking new old r rule.alts marks
    → Passing more rules r first old → Passing (more || new) rules (r + 1) first marks
unfolding Passing
passing_next rules true true first old marks r rule e lt m h =
    let less = fewer_unmarked old r lt m.1 in let same : unmarked marks ≡ unmarked (slice_set old r true) = ap unmarked m.0 in omega arith
passing_next rules true false first old marks r rule e lt m h = let same : unmarked marks ≡ unmarked old = ap unmarked m.0 in omega arith
passing_next rules false true first old marks r rule e lt m h =
    let less = fewer_unmarked old r lt m.1 in
    let same : unmarked marks ≡ unmarked (slice_set old r true) = ap unmarked m.0 in
    let first_same : unmarked old ≡ unmarked first = ap unmarked h.0 in omega arith
passing_next rules false false first old marks r rule e lt m h = (
  m.0 ∙ h.0,
  rest_closed rules marks r rule e
      (subst (λ ms. all_marked ms rule.alts ≡ true → is_marked ms r ≡ true) (sym m.0) m.1)
      (subst (λ ms. (s : ℕ) (other : CoreRule) → s < r → slice_get rules s ≡ Some other → all_marked ms other.alts ≡ true
      → is_marked ms s ≡ true) (sym m.0) h.1),
)

-- a pass that marked nothing leaves closed marks, and one that marked something fewer to mark
pub passed_closed : (rules : List CoreRule) (more : Bool) (first marks : Marks) → more ≡ false → Passing more rules (length rules) first marks
    → AreClosed rules marks
unfolding Passing
passed_closed rules true first marks e h = absurd (true≢false e)
passed_closed rules false first marks e h = λ r rule f. h.1 r rule (slice_get_within rules r rule f) f

pub passed_fewer : (rules : List CoreRule) (more : Bool) (i : ℕ) (first marks : Marks) → more ≡ true → Passing more rules i first marks
    → unmarked marks < unmarked first
unfolding Passing
passed_fewer rules true i first marks e h = h
passed_fewer rules false i first marks e h = absurd (true≢false (sym e))

pub nothing_passed : (rules : List CoreRule) (marks : Marks) → Passing false rules 0 marks marks
unfolding Passing
nothing_passed rules marks = (refl, λ r rule lt. absurd (omega arith))
