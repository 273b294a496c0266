-- Evaluations without a memo that come from one highest call to another and meet only failures that are settled.
use Rattle.std.proofs.Common.{◌≡◌, ℕ, ◌+◌, refl, sym, ap, ◌∙◌, subst, List, [], ◌++◌, Option, Some, None}
use Rattle.ipg_mach_moves.specs.Moves.{OpenCall, Highest, Evaluation, Tally, move, moves}
use Rattle.ipg_mach_failures.specs.declared.failure.Failure.{Failure}
use Rattle.ipg_mach_failures.specs.declared.story.Call.{Call}
use Rattle.ipg_mach_failures.specs.declared.story.Story.{Story}
use Rattle.ipg_mach_failures.specs.declared.values.Valued.{Valued}
use Rattle.ipg_mach_failures.specs.Chain.{calls_in}
use Rattle.ipg_mach_failures.specs.Furthest.{Furthest, highest_fails, highest_reads, story_with, in_front, stories, furthest_with}
use Rattle.ipg_mach_failure_laws.proofs.Settled.{IsSettledIfAny, AreSettled, all_stay, all_both, settles_itself}
use Rattle.ipg_mach_failure_laws.proofs.Stays.{moves_more, stories_more}

-- an evaluation without a memo
abbrev pub bare : List OpenCall → Highest → Tally → Evaluation
bare lower highest tally = record { lower = lower; highest = highest; known = None; tally = tally }

-- it moves so, whatever has been counted
abbrev pub MovesTo : List OpenCall → Highest → List OpenCall → Highest → Type 0
MovesTo lower highest low next = (tally : Tally) → (later : Tally) × (move (bare lower highest tally) ≡ bare low next later)

pub record Leads (f : Furthest) (lower : List OpenCall) (highest : Highest) (low : List OpenCall) (next : Highest) (tally : Tally) : Type 0 where
  pub count : ℕ
  pub later : Tally
  pub is : moves count (bare lower highest tally) ≡ bare low next later
  pub met : AreSettled f (stories count (bare lower highest tally))

abbrev pub LeadsTo : Furthest → List OpenCall → Highest → List OpenCall → Highest → Type 0
LeadsTo f lower highest low next = (tally : Tally) → Leads f lower highest low next tally

pub leads_stay : (f : Furthest) (lower : List OpenCall) (highest : Highest) → LeadsTo f lower highest lower highest
unfolding moves stories
leads_stay f lower highest tally = record { count = 0; later = tally; is = refl; met = tt }

pub leads_more : (f : Furthest) (x : Option Story) (lower : List OpenCall) (highest : Highest) (low : List OpenCall) (next : Highest)
    → LeadsTo f lower highest low next → LeadsTo (furthest_with f x) lower highest low next
leads_more f x lower highest low next leads tally =
    let one = leads tally in record { count = one.count; later = one.later; is = one.is; met = all_stay f x _ one.met }

pub leads_both : (f : Furthest) (lower : List OpenCall) (highest : Highest) (mid : List OpenCall) (middle : Highest) (low : List OpenCall) (next : Highest)
    → LeadsTo f lower highest mid middle → LeadsTo f mid middle low next → LeadsTo f lower highest low next
leads_both f lower highest mid middle low next first second tally =
    let one = first tally in
    let two = second one.later in
    let e = bare lower highest tally in
    record {
      count = one.count + two.count;
      later = two.later;
      is = moves_more one.count two.count e ∙ ap (moves two.count) one.is ∙ two.is;
      met =
          subst (AreSettled f) (sym (stories_more one.count two.count e ∙ ap (λ m. stories one.count e ++ stories two.count m) one.is))
          (all_both f _ _ one.met two.met);
    }

front_settled : (f : Furthest) (calls : List Call) (read : Failure → List Valued) (failure : Option Failure) → IsSettledIfAny f failure
    → AreSettled f (in_front (story_with calls read failure) [])
front_settled f calls read None h = tt
front_settled f calls read (Some failure) h = (h, tt)

-- one move
pub leads_by : (f : Furthest) (lower : List OpenCall) (highest : Highest) (low : List OpenCall) (next : Highest) → MovesTo lower highest low next
    → IsSettledIfAny f (highest_fails highest) → LeadsTo f lower highest low next
unfolding moves stories
leads_by f lower highest low next goes settled tally =
    let met = front_settled f (calls_in lower) (highest_reads highest) (highest_fails highest) settled in
    record { count = 1; later = (goes tally).0; is = (goes tally).1; met = met }

-- what a highest call meets is settled from then on
pub settled_now : (f : Furthest) (calls : List Call) (read : Failure → List Valued) (failure : Option Failure)
    → IsSettledIfAny (furthest_with f (story_with calls read failure)) failure
settled_now f calls read None = tt
settled_now f calls read (Some failure) = settles_itself f _
