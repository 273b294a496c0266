-- A move with a memo, and the moves without one that come to the same highest call.
use Rattle.std.proofs.Common.{◌≡◌, ℕ, ◌+◌, refl, sym, ap, ◌∙◌, subst, List, [], ◌∷◌, Option, Some, None, Result, Ok, Err, length}
use Rattle.ipg_core.specs.Grammar.{Grammar, rule_at, holder_of}
use Rattle.ipg_core.specs.Tree.{Tree}
use Rattle.ipg_core.specs.Run.{Stop, NoTree, OutOfRange, Deep, Asked}
use Rattle.ipg_mach_moves.specs.Moves.{Key, OpenCall, Highest, Works, Holds, Known, Evaluation, Tally, one_opened, one_known, find, learned, opened, turned}
use Rattle.ipg_mach_moves.specs.Moves.{always, silent, at_hand, asked_part, asked_key, asks, works, move}
use Rattle.ipg_mach_failures.specs.declared.story.Story.{Story}
use Rattle.ipg_mach_failures.specs.Chain.{calls_in}
use Rattle.ipg_mach_failures.specs.Failing.{call_fails}
use Rattle.ipg_mach_failures.specs.Values.{values_of}
use Rattle.ipg_mach_failures.specs.Furthest.{Furthest, highest_fails, highest_reads, story_with, furthest_with}
use Rattle.ipg_mach_count_laws.specs.Standing.{CallsSit, StandsThere}
use Rattle.ipg_mach_failure_laws.proofs.Leads.{bare, MovesTo, LeadsTo, leads_stay, leads_more, leads_both, leads_by, settled_now}
use Rattle.ipg_mach_failure_laws.proofs.Known.{Start, start_of, start_at, start_same, GoesDown, begun, Sits, Began, KnowsAll, knows_more, found}
use Rattle.ipg_mach_failure_laws.proofs.Known.{knows_learned}
use Rattle.ipg_mach_failure_laws.proofs.Open.{Is, turned_is, begun_is, asked_sits, Stack, stack_more}

-- an evaluation with a memo
abbrev pub memoed : List OpenCall → Highest → Known → Tally → Evaluation
memoed lower highest known tally = record { lower = lower; highest = highest; known = Some known; tally = tally }

-- what the answer of its call makes of an open call
abbrev pub told : OpenCall → Result Tree Stop → Highest
told c answer = turned c (at_hand (always answer) c).answer

-- ---- single moves

pub quiet_bare : (c : OpenCall) (lower : List OpenCall) → (at_hand silent c).asked ≡ []
    → MovesTo lower (Works c) lower (turned c (at_hand silent c).answer)
unfolding move
quiet_bare c lower none tally = (tally, ap (works (bare lower (Works c) tally) c (at_hand silent c).answer) none)

pub quiet_memo : (c : OpenCall) (lower : List OpenCall) (known : Known) (tally : Tally) → (at_hand silent c).asked ≡ []
    → move (memoed lower (Works c) known tally) ≡ memoed lower (turned c (at_hand silent c).answer) known tally
unfolding move
quiet_memo c lower known tally none = ap (works (memoed lower (Works c) known tally) c (at_hand silent c).answer) none

down_bare : (c : OpenCall) (lower : List OpenCall) (key : Key) (answer : Result Tree Stop) → GoesDown answer
    → MovesTo (c ∷ lower) (Holds key answer) lower (told c answer)
unfolding move
down_bare c lower key (Ok tree) down tally = (tally, refl)
down_bare c lower key (Err NoTree) down tally = (tally, refl)
down_bare c lower key (Err OutOfRange) down tally = absurd down
down_bare c lower key (Err Deep) down tally = (tally, refl)

down_memo : (c : OpenCall) (lower : List OpenCall) (key : Key) (answer : Result Tree Stop) (known : Known) (tally : Tally) → GoesDown answer
    → move (memoed (c ∷ lower) (Holds key answer) known tally)
    ≡ memoed lower (told c answer) (learned (holder_of (rule_at c.frame.grammar key.rule)) known key answer) tally
unfolding move
down_memo c lower key (Ok tree) known tally down = refl
down_memo c lower key (Err NoTree) known tally down = refl
down_memo c lower key (Err OutOfRange) known tally down = absurd down
down_memo c lower key (Err Deep) known tally down = refl

module _ (g : Grammar) (s : List ℕ) where
  module _ (c : OpenCall) (lower : List OpenCall) (ask : Asked) (more : List Asked) (asked : (at_hand silent c).asked ≡ ask ∷ more) where
    opens_bare : c.frame.grammar ≡ g → MovesTo lower (Works c) (c ∷ lower) (begun g s (start_of c ask))
    unfolding move
    opens_bare grammar tally =
        let later = one_opened tally (holder_of (rule_at c.frame.grammar ask.callee)) (length lower + 2) in (
          later,
          ap (works (bare lower (Works c) tally) c (at_hand silent c).answer) asked
              ∙ ap (λ h. bare (c ∷ lower) (opened h ask.callee (asked_part c ask) (c.from + ask.from) ask.outer) later) grammar,
        )

    pub opens_memo : c.frame.grammar ≡ g → (known : Known) (tally : Tally) → find known (asked_key c ask) ≡ None
        → (later : Tally) × (move (memoed lower (Works c) known tally) ≡ memoed (c ∷ lower) (begun g s (start_of c ask)) known later)
    unfolding move
    opens_memo grammar known tally new =
        let later = one_opened tally (holder_of (rule_at c.frame.grammar ask.callee)) (length lower + 2) in (
          later,
          ap (works (memoed lower (Works c) known tally) c (at_hand silent c).answer) asked
              ∙ ap (asks (memoed lower (Works c) known tally) c ask) new
              ∙ ap (λ h. memoed (c ∷ lower) (opened h ask.callee (asked_part c ask) (c.from + ask.from) ask.outer) known later) grammar,
        )

    pub known_memo : (known : Known) (tally : Tally) (answer : Result Tree Stop) → find known (asked_key c ask) ≡ Some answer
        → move (memoed lower (Works c) known tally) ≡ memoed lower (told c answer) known (one_known tally)
    unfolding move
    known_memo known tally answer has =
        ap (works (memoed lower (Works c) known tally) c (at_hand silent c).answer) asked
        ∙ ap (asks (memoed lower (Works c) known tally) c ask) has

  -- ---- what holds along the moves

  -- what is known, and how each call that is open came to where it stands
  pub record Stands (f : Furthest) (lower : List OpenCall) (highest : Highest) (known : Known) : Type 0 where
    pub start : Start
    pub sits : Sits g s start
    pub is : Is g s start highest
    pub began : Began g s f start highest
    pub stack : Stack g s f start lower
    pub knows : KnowsAll g s f known

  abbrev pub with_now : Furthest → List OpenCall → Highest → Furthest
  with_now f lower highest = furthest_with f (story_with (calls_in lower) (highest_reads highest) (highest_fails highest))

  -- behind a move with the memo; a move without it, and others that meet only failures that are settled, come to the same
  pub record Steps (f : Furthest) (lower : List OpenCall) (highest : Highest) (known : Known) (tally : Tally) : Type 0 where
    pub low : List OpenCall
    pub next : Highest
    pub later : Known
    pub counted : Tally
    pub goes : move (memoed lower highest known tally) ≡ memoed low next later counted
    pub mid : List OpenCall
    pub middle : Highest
    pub first : MovesTo lower highest mid middle
    pub leads : LeadsTo (with_now f lower highest) mid middle low next
    pub stands : Stands (with_now f lower highest) low next later

  module _ (sit : CallsSit) (there : StandsThere) (f : Furthest) where
    -- a call that goes on in its place
    began_on : (a : Start) (f : Furthest) (highest next : Highest) → Began g s f a highest → ((lower : List OpenCall) → LeadsTo f lower highest lower next)
        → Began g s f a next
    began_on a f highest next began leads lower = leads_both f lower _ lower _ lower _ (began lower) (leads lower)

    began_more : (a : Start) (x : Option Story) (highest : Highest) → Began g s f a highest → Began g s (furthest_with f x) a highest
    began_more a x highest began lower = leads_more f x lower _ lower _ (began lower)

    module _ (c : OpenCall) (lower : List OpenCall) (known : Known) (tally : Tally) (stands : Stands f lower (Works c) known) where
      abbrev x : Option Story
      x = story_with (calls_in lower) (values_of c) (call_fails c)

      -- a term at hand that makes no call
      quiet_steps : (at_hand silent c).asked ≡ [] → Steps f lower (Works c) known tally
      quiet_steps none = record {
        low = lower;
        next = turned c (at_hand silent c).answer;
        later = known;
        counted = tally;
        goes = quiet_memo c lower known tally none;
        mid = lower;
        middle = turned c (at_hand silent c).answer;
        first = quiet_bare c lower none;
        leads = leads_stay _ lower _;
        stands = record {
          start = stands.start;
          sits = stands.sits;
          is = turned_is g s stands.start c _ stands.is;
          began =
              began_on stands.start (furthest_with f x) (Works c) _ (began_more stands.start x (Works c) stands.began)
              (λ l. leads_by _ l (Works c) l _ (quiet_bare c l none) (settled_now f (calls_in lower) (values_of c) (call_fails c)));
          stack = stack_more g s f x stands.start lower stands.stack;
          knows = knows_more g s f x known stands.knows;
        };
      }

      module _ (ask : Asked) (more : List Asked) (asked : (at_hand silent c).asked ≡ ask ∷ more) where
        abbrev callee : Start
        callee = start_of c ask

        callee_sits : Sits g s callee
        callee_sits = asked_sits g s sit stands.start c ask more stands.is asked

        -- above whatever calls, it comes to the opening of what it calls
        rises : (l : List OpenCall) → LeadsTo (furthest_with f x) l (begun g s stands.start) (c ∷ l) (begun g s callee)
        rises l =
            leads_both (furthest_with f x) l _ l (Works c) (c ∷ l) _ (began_more stands.start x (Works c) stands.began l)
            (leads_by _ l (Works c) (c ∷ l) _ (opens_bare c l ask more asked stands.is.grammar) (settled_now f (calls_in lower) (values_of c) (call_fails c)))

        open_steps : find known (asked_key c ask) ≡ None → Steps f lower (Works c) known tally
        open_steps new =
            let goes = opens_memo c lower ask more asked stands.is.grammar known tally new in
            record {
              low = c ∷ lower;
              next = begun g s callee;
              later = known;
              counted = goes.0;
              goes = goes.1;
              mid = c ∷ lower;
              middle = begun g s callee;
              first = opens_bare c lower ask more asked stands.is.grammar;
              leads = leads_stay _ (c ∷ lower) _;
              stands = record {
                start = callee;
                sits = callee_sits;
                is = begun_is g s callee callee_sits;
                began = λ l. leads_stay _ l _;
                stack = (
                  stands.start,
                  record { sits = stands.sits; is = stands.is; rises = rises },
                  stack_more g s f x stands.start lower stands.stack,
                );
                knows = knows_more g s f x known stands.knows;
              };
            }

        -- without a memo a call that is known is opened, and comes to its answer
        module _ (answer : Result Tree Stop) (has : find known (asked_key c ask) ≡ Some answer) where
          abbrev f_now : Furthest
          f_now = furthest_with f x

          comes : (l : List OpenCall) → LeadsTo f_now (c ∷ l) (begun g s callee) l (told c answer)
          comes l =
              let entry = found g s f known (asked_key c ask) answer stands.knows has in
              let same : start_at g s (asked_key c ask) ≡ callee = start_same g s there callee callee_sits entry.global in
              leads_both f_now (c ∷ l) _ (c ∷ l) (Holds (asked_key c ask) answer) l _
              (subst (λ a. LeadsTo f_now (c ∷ l) (begun g s a) (c ∷ l) (Holds (asked_key c ask) answer)) same
              (leads_more f x (c ∷ l) _ (c ∷ l) _ (entry.began (c ∷ l))))
              (leads_by f_now (c ∷ l) (Holds (asked_key c ask) answer) l _ (down_bare c l (asked_key c ask) answer entry.down) tt)

          known_steps : Steps f lower (Works c) known tally
          known_steps = record {
            low = lower;
            next = told c answer;
            later = known;
            counted = one_known tally;
            goes = known_memo c lower ask more asked known tally answer has;
            mid = c ∷ lower;
            middle = begun g s callee;
            first = opens_bare c lower ask more asked stands.is.grammar;
            leads = comes lower;
            stands = record {
              start = stands.start;
              sits = stands.sits;
              is = turned_is g s stands.start c _ stands.is;
              began = λ l. leads_both f_now l _ (c ∷ l) (begun g s callee) l _ (rises l) (comes l);
              stack = stack_more g s f x stands.start lower stands.stack;
              knows = knows_more g s f x known stands.knows;
            };
          }

        ask_steps : (answer : Option (Result Tree Stop)) → find known (asked_key c ask) ≡ answer → Steps f lower (Works c) known tally
        ask_steps None new = open_steps new
        ask_steps (Some answer) has = known_steps answer has

      work_steps : (asked : List Asked) → (at_hand silent c).asked ≡ asked → Steps f lower (Works c) known tally
      work_steps [] none = quiet_steps none
      work_steps (ask ∷ more) asked = ask_steps ask more asked _ refl

    -- an answer goes to the call below
    down_steps : (key : Key) (answer : Result Tree Stop) (c : OpenCall) (lower : List OpenCall) (known : Known) (tally : Tally)
        → Stands f (c ∷ lower) (Holds key answer) known → GoesDown answer → Steps f (c ∷ lower) (Holds key answer) known tally
    down_steps key answer c lower known tally stands down =
        let below = stands.stack.0 in
        let waits = stands.stack.1 in
        let moves : (l : List OpenCall) → LeadsTo f (c ∷ l) (Holds key answer) l (told c answer) =
        λ l. leads_by f (c ∷ l) (Holds key answer) l _ (down_bare c l key answer down) tt in
        record {
          low = lower;
          next = told c answer;
          later = learned (holder_of (rule_at c.frame.grammar key.rule)) known key answer;
          counted = tally;
          goes = down_memo c lower key answer known tally down;
          mid = lower;
          middle = told c answer;
          first = down_bare c lower key answer down;
          leads = leads_stay f lower _;
          stands = record {
            start = below;
            sits = waits.sits;
            is = turned_is g s below c _ waits.is;
            began = λ l.
                leads_both f l _ (c ∷ l) (begun g s stands.start) l _ (waits.rises l)
                (leads_both f (c ∷ l) _ (c ∷ l) (Holds key answer) l _ (stands.began (c ∷ l)) (moves l));
            stack = stands.stack.2;
            knows =
                subst (λ h. KnowsAll g s f (learned (holder_of (rule_at h key.rule)) known key answer)) (sym waits.is.grammar)
                (knows_learned g s there f stands.start known key answer stands.knows stands.sits stands.is down stands.began);
          };
        }

    -- where it has ended
    end_steps : (key : Key) (answer : Result Tree Stop) (lower : List OpenCall) (known : Known) (tally : Tally) → Stands f lower (Holds key answer) known
        → move (memoed lower (Holds key answer) known tally) ≡ memoed lower (Holds key answer) known tally
        → MovesTo lower (Holds key answer) lower (Holds key answer) → Steps f lower (Holds key answer) known tally
    end_steps key answer lower known tally stands goes first = record {
      low = lower;
      next = Holds key answer;
      later = known;
      counted = tally;
      goes = goes;
      mid = lower;
      middle = Holds key answer;
      first = first;
      leads = leads_stay f lower _;
      stands = stands;
    }

    pub steps : (lower : List OpenCall) (highest : Highest) (known : Known) (tally : Tally) → Stands f lower highest known → Steps f lower highest known tally
    unfolding move
    steps lower (Works c) known tally stands = work_steps c lower known tally stands _ refl
    steps lower (Holds key (Err OutOfRange)) known tally stands = end_steps key _ lower known tally stands refl (λ t. (t, refl))
    steps [] (Holds key (Ok tree)) known tally stands = end_steps key _ [] known tally stands refl (λ t. (t, refl))
    steps [] (Holds key (Err NoTree)) known tally stands = end_steps key _ [] known tally stands refl (λ t. (t, refl))
    steps [] (Holds key (Err Deep)) known tally stands = end_steps key _ [] known tally stands refl (λ t. (t, refl))
    steps (c ∷ lower) (Holds key (Ok tree)) known tally stands = down_steps key (Ok tree) c lower known tally stands tt
    steps (c ∷ lower) (Holds key (Err NoTree)) known tally stands = down_steps key (Err NoTree) c lower known tally stands tt
    steps (c ∷ lower) (Holds key (Err Deep)) known tally stands = down_steps key (Err Deep) c lower known tally stands tt
