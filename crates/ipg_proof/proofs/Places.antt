-- Entries one after another: where each so far is in place, what is left decides.
use Rattle.std.proofs.Common.{◌≡◌, ◌≢◌, ℕ, ◌+◌, ◌≤◌, ◌<◌, List, [], ◌∷◌, length, Bool, true, false, Some, refl, ap, ◌∙◌, subst, inl, inr, arith}
use Rattle.std.proofs.Common.{rules, set, map, Option, MatchBool, MatchOption}
use Rattle.ipg_cert.specs.declared.refutation.Refutation.{Refutation}
use Rattle.ipg_graph.specs.Graph.{Graph}
use Rattle.ipg_graph.specs.Cycle.{StandsUpTo}
use Rattle.ipg_graph.specs.Answers.{Listing, Spot, Start, At, IsNext, IsRun, last_of}
use Rattle.ipg_graph.specs.Lending.{AnswersWith}
use Rattle.ipg_proof.specs.Seen.{Takes}
use Rattle.ipg_proof.specs.Places.{IsDue, Rise, IsFirstOff, IsFirstOther}
use Rattle.ipg_proof.specs.Calls.{with_set}

-- the dead edges that are left, from number n on and not before `low`, decide on all
pub record Rising (edges low n : ℕ) (left dead : List ℕ) : Type 0 where
  pub rise : Rise edges low left → Rise edges 0 dead
  pub off : (at : ℕ) → IsFirstOff edges low n left at → IsFirstOff edges 0 0 dead at

pub rising_none : (edges : ℕ) (dead : List ℕ) → Rising edges 0 0 dead dead
rising_none edges dead = record { rise = λ r. r; off = λ at o. o }

pub rising_more : (edges low n e : ℕ) (left dead : List ℕ) → low ≤ e → e < edges → Rising edges low n (e ∷ left) dead → Rising edges (e + 1) (n + 1) left dead
rising_more edges low n e left dead from below rising = record {
  rise = λ r. rising.rise ((from, below), r);
  off = λ at o. rising.off at (inr ((from, below), o));
}

pub rising_off : (edges low n e : ℕ) (left dead : List ℕ) → (IsDue edges low e → ⊥) → Rising edges low n (e ∷ left) dead → IsFirstOff edges 0 0 dead n
rising_off edges low n e left dead off rising = rising.off n (inl (off, refl))

-- the cycles that are left, from number n on, decide on all
pub record Running (first now : Listing) (from n : ℕ) (left cycles : List (List ℕ)) : Type 0 where
  pub run : IsRun now.graph now.at left → IsRun first.graph first.at cycles
  pub other : (at : ℕ) → IsFirstOther now.graph now.at n left at → IsFirstOther first.graph first.at from cycles at

pub running_none : (first : Listing) (from n : ℕ) (cycles : List (List ℕ)) → n ≡ from → Running first first from n cycles cycles
running_none first from n cycles e = record {
  run = λ r. r;
  other = λ at o. subst (λ k. IsFirstOther first.graph first.at k cycles at) e o;
}

pub running_more : (first now next : Listing) (from n m : ℕ) (c : List ℕ) (left cycles : List (List ℕ)) → IsNext now.graph now.at c
    → next.graph ≡ now.graph → next.at ≡ At c → m ≡ n + 1
    → Running first now from n (c ∷ left) cycles → Running first next from m left cycles
running_more first now next from n m c left cycles is graph at one running = record {
  run = λ r. running.run (is, subst (λ g. IsRun g (At c) left) graph (subst (λ s. IsRun next.graph s left) at r));
  other = λ k o. running.other k (inr (
    is,
    subst (λ i. IsFirstOther now.graph (At c) i left k) one
        (subst (λ g. IsFirstOther g (At c) m left k) graph (subst (λ s. IsFirstOther next.graph s m left k) at o)),
  ));
}

pub running_other : (first now : Listing) (from n : ℕ) (c : List ℕ) (left cycles : List (List ℕ)) → (IsNext now.graph now.at c → ⊥)
    → Running first now from n (c ∷ left) cycles → IsFirstOther first.graph first.at from cycles n
running_other first now from n c left cycles off running = running.other n (inl (off, refl))

pub running_missing : (first now : Listing) (from n : ℕ) (c : List ℕ) (cycles : List (List ℕ)) → IsNext now.graph now.at c
    → Running first now from n [] cycles → IsFirstOther first.graph first.at from cycles n
running_missing first now from n c cycles is running = running.other n ((λ none. none.none c is.cycle is.after), refl)

-- the order is one
upto_both : (c d : List ℕ) → StandsUpTo c d → StandsUpTo d c → c ≡ d
upto_both [] [] h k = refl
upto_both [] (y ∷ d) h k = absurd k
upto_both (x ∷ c) [] h k = absurd h
upto_both (x ∷ c) (y ∷ d) (inl h) (inl k) = absurd (let e : ⊥ = omega (arith, h, k) in e)
upto_both (x ∷ c) (y ∷ d) (inl h) (inr k) = absurd (let e : ⊥ = omega (arith, h, k.0) in e)
upto_both (x ∷ c) (y ∷ d) (inr h) (inl k) = absurd (let e : ⊥ = omega (arith, h.0, k) in e)
upto_both (x ∷ c) (y ∷ d) (inr h) (inr k) = ap (λ v. v ∷ c) h.0 ∙ ap (λ l. y ∷ l) (upto_both c d h.1 k.1)

-- there is one next cycle
pub next_one : (g : Graph) (from : Spot) (c d : List ℕ) → IsNext g from c → IsNext g from d → c ≡ d
next_one g from c d is other = upto_both c d (is.first d other.cycle other.after) (other.first c is.cycle is.after)

length_set : (flags : List Bool) (e : ℕ) → length (set flags e true) ≡ length flags
length_set flags e = search rules

pub length_with_set : (places : List ℕ) (flags : List Bool) → length (with_set flags places) ≡ length flags
length_with_set [] flags = refl
length_with_set (e ∷ places) flags = length_with_set places (set flags e true) ∙ length_set flags e

-- the next cycle is this one, or it is another
pub takes_due : (old new : Listing) (due c : List ℕ) (b : Bool) → AnswersWith old new (Some due) → MatchBool b (due ≡ c) (due ≢ c) → Takes old new c b
takes_due old new due c true is same =
    let at : last_of new.at ≡ c = is.1.0 ∙ same in
    (subst (IsNext old.graph old.at) at is.1.1.next, is.0, is.1.1.at ∙ ap At at)
takes_due old new due c false is differs =
    λ next. differs (next_one old.graph old.at due c (subst (IsNext old.graph old.at) is.1.0 is.1.1.next) next)

-- the cycles that are listed are those of another name for the same graph
pub renamed : (graph given : Graph) (from : Spot) (n m : ℕ) (listed cycles : List (List ℕ × Refutation)) (r : Option ℕ) → graph ≡ given → from ≡ Start
    → n ≡ m → listed ≡ cycles
    → MatchOption r (IsRun graph from (map (λ entry. entry.0) listed)) (λ at. IsFirstOther graph from n (map (λ entry. entry.0) listed) at)
    → MatchOption r (IsRun given Start (map (λ entry. entry.0) cycles)) (λ at. IsFirstOther given Start m (map (λ entry. entry.0) cycles) at)
renamed graph given from n m listed cycles r same start one all h =
    let Is : Graph → Spot → ℕ → List (List ℕ × Refutation) → Type 0 =
    λ g s k es. MatchOption r (IsRun g s (map (λ entry. entry.0) es)) (λ at. IsFirstOther g s k (map (λ entry. entry.0) es) at) in
    subst (Is given Start m) all (subst (λ k. Is given Start k listed) one (subst (λ s. Is given s n listed) start (subst (λ g. Is g from n listed) same h)))
