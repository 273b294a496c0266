-- An evaluation with a memo beside one without: at each call to which the first comes the second does, and they tell the same.
use Rattle.std.proofs.Common.{◌≡◌, append-nil, ℕ, zero, suc, ◌+◌, refl, sym, ap, ◌∙◌, subst, List, [], Option, Some, None}
use Rattle.ipg_core.specs.Grammar.{Grammar}
use Rattle.ipg_mach_moves.specs.Moves.{OpenCall, Highest, Known, Evaluation, Tally, move, moves, opening, ended}
use Rattle.ipg_mach_failures.specs.declared.story.Story.{Story}
use Rattle.ipg_mach_failures.specs.Chain.{calls_in}
use Rattle.ipg_mach_failures.specs.Furthest.{Furthest, highest_fails, highest_reads, story_with, stories, none_met, furthest_with, furthest_from, furthest}
use Rattle.ipg_mach_failures.specs.Laws.{NoneBehindEnd}
use Rattle.ipg_mach_failure_laws.specs.Laws.{IsToldAs, ToldAlikeByMemo}
use Rattle.ipg_mach_count_laws.specs.Standing.{CallsSit, StandsThere}
use Rattle.ipg_mach_failure_laws.proofs.Settled.{same_told, both_told, others_told, from_front, from_both}
use Rattle.ipg_mach_failure_laws.proofs.Stays.{moves_more, stories_more, met_once}
use Rattle.ipg_mach_failure_laws.proofs.Leads.{bare, Leads, leads_stay}
use Rattle.ipg_mach_failure_laws.proofs.Known.{Start, Sits, begun}
use Rattle.ipg_mach_failure_laws.proofs.Open.{begun_is}
use Rattle.ipg_mach_failure_laws.proofs.Step.{memoed, Stands, Steps, steps}

module _ (g : Grammar) (s : List ℕ) where
  -- n moves with a memo and some without come to the same calls, and what is told of both is alike if it was before
  pub record Follows (n : ℕ) (f other : Furthest) (lower : List OpenCall) (highest : Highest) (known : Known) (tally before : Tally) : Type 0 where
    pub low : List OpenCall
    pub next : Highest
    pub later : Known
    pub counted : Tally
    pub goes : moves n (memoed lower highest known tally) ≡ memoed low next later counted
    pub count : ℕ
    pub behind : Tally
    pub is : moves count (bare lower highest before) ≡ bare low next behind
    pub alike :
        IsToldAs (furthest_from f (stories n (memoed lower highest known tally)))
        (furthest_from other (stories count (bare lower highest before)))
    pub found : Furthest
    pub stands : Stands g s found low next later

  module _ (f other : Furthest) (lower : List OpenCall) (highest : Highest) (known : Known) (tally before : Tally)
      (step : Steps g s f lower highest known tally) where
    abbrev x : Option Story
    x = story_with (calls_in lower) (highest_reads highest) (highest_fails highest)

    -- the first move without a memo, and those behind it
    abbrev first : (later : Tally) × (move (bare lower highest before) ≡ bare step.mid step.middle later)
    first = step.first before

    abbrev middle : Evaluation
    middle = bare step.mid step.middle first.0

    abbrev leads : Leads (furthest_with f x) step.mid step.middle step.low step.next first.0
    leads = step.leads first.0

    abbrev so_far : Furthest
    so_far = furthest_from (furthest_with other x) (stories leads.count middle)

    told_with : (n : ℕ) → furthest_from f (stories (suc n) (memoed lower highest known tally))
        ≡ furthest_from (furthest_with f x) (stories n (memoed step.low step.next step.later step.counted))
    unfolding stories
    told_with n = from_front f x _ ∙ ap (λ e. furthest_from (furthest_with f x) (stories n e)) step.goes

    told_without : (k : ℕ) → furthest_from other (stories (suc (leads.count + k)) (bare lower highest before))
        ≡ furthest_from so_far (stories k (bare step.low step.next leads.later))
    unfolding stories
    told_without k =
        from_front other x _
        ∙ ap (λ e. furthest_from (furthest_with other x) (stories (leads.count + k) e)) first.1
        ∙ ap (furthest_from (furthest_with other x)) (stories_more leads.count k middle)
        ∙ from_both (furthest_with other x) (stories leads.count middle) (stories k (moves leads.count middle))
        ∙ ap (λ e. furthest_from so_far (stories k e)) leads.is

    goes_with : (n : ℕ) → moves (suc n) (memoed lower highest known tally) ≡ moves n (memoed step.low step.next step.later step.counted)
    unfolding moves
    goes_with n = ap (moves n) step.goes

    goes_without : (k : ℕ) → moves (suc (leads.count + k)) (bare lower highest before) ≡ moves k (bare step.low step.next leads.later)
    unfolding moves
    goes_without k = ap (moves (leads.count + k)) first.1 ∙ moves_more leads.count k middle ∙ ap (moves k) leads.is

    follows_one : (n : ℕ) → Follows n (furthest_with f x) so_far step.low step.next step.later step.counted leads.later
        → Follows (suc n) f other lower highest known tally before
    follows_one n rest = record {
      low = rest.low;
      next = rest.next;
      later = rest.later;
      counted = rest.counted;
      goes = goes_with n ∙ rest.goes;
      count = suc (leads.count + rest.count);
      behind = rest.behind;
      is = goes_without rest.count ∙ rest.is;
      alike =
          subst (λ a. IsToldAs a (furthest_from other (stories (suc (leads.count + rest.count)) (bare lower highest before)))) (sym (told_with n))
          (subst (IsToldAs _) (sym (told_without rest.count)) rest.alike);
      found = rest.found;
      stands = rest.stands;
    }

    -- those behind the first move change nothing of what is told
    alike_after : IsToldAs f other → IsToldAs (furthest_with f x) so_far
    alike_after alike = others_told (stories leads.count middle) (furthest_with f x) (furthest_with other x) leads.met (both_told f other x alike)

  follows : CallsSit → StandsThere → (n : ℕ) (f other : Furthest) (lower : List OpenCall) (highest : Highest) (known : Known) (tally before : Tally)
      → Stands g s f lower highest known
      → IsToldAs f other → Follows n f other lower highest known tally before
  unfolding moves stories
  follows sit there zero f other lower highest known tally before stands alike = record {
    low = lower;
    next = highest;
    later = known;
    counted = tally;
    goes = refl;
    count = 0;
    behind = before;
    is = refl;
    alike = alike;
    found = f;
    stands = stands;
  }
  follows sit there (suc n) f other lower highest known tally before stands alike =
      let step = steps g s sit there f lower highest known tally stands in
      follows_one f other lower highest known tally before step n
      (follows sit there n _ _ step.low step.next step.later step.counted _ step.stands (alike_after f other lower highest known tally before step alike))

  -- ---- from the first rule on the whole input

  abbrev pub whole : Start
  whole = record { rule = 0; from = 0; bytes = s; outer = [] }

  whole_sits : Sits g s whole
  whole_sits = record { stands = record { rest = []; is = append-nil s }; plain = λ global. refl }

  opens : Stands g s none_met [] (begun g s whole) []
  opens = record {
    start = whole;
    sits = whole_sits;
    is = begun_is g s whole whole_sits;
    began = λ lower. leads_stay none_met lower _;
    stack = tt;
    knows = tt;
  }

  abbrev pub one : Tally
  one = record { bodies = 1; hits = 0; deepest = 1 }

  pub beside : CallsSit → StandsThere → (n : ℕ) → Follows n none_met none_met [] (begun g s whole) [] one one
  beside sit there n = follows sit there n none_met none_met [] (begun g s whole) [] one one opens (same_told none_met)

pub told_alike_by_memo : CallsSit → StandsThere → NoneBehindEnd → ToldAlikeByMemo
unfolding opening
told_alike_by_memo sit there none g s n m answer other ends also =
    let it = beside g s sit there n in
    let so : ended (moves it.count (opening g s None)) ≡ Some answer = ap ended it.is ∙ sym (ap ended it.goes) ∙ ends in
    subst (λ met. IsToldAs (furthest (stories n (opening g s (Some [])))) (furthest met)) (met_once none it.count m (opening g s None) answer other so also)
    it.alike
