-- Open calls, each with the call that it began as.
use Rattle.std.proofs.Common.{◌≡◌, ℕ, ◌+◌, refl, ap, ◌∙◌, List, [], ◌∷◌, drop, Option, Result, Ok, Err, length}
use Rattle.ipg_core.specs.declared.grammar.CoreAlt.{CoreAlt}
use Rattle.ipg_core.specs.Grammar.{Grammar, rule_at, holder_of}
use Rattle.ipg_core.specs.Run.{Stop, NoTree, OutOfRange, Deep, Asked}
use Rattle.ipg_core.specs.Meaning.{Frame, State, start}
use Rattle.ipg_mach_moves.specs.Moves.{Outside, OpenCall, Highest, Works, Holds, Advance, Inside, Past}
use Rattle.ipg_mach_moves.specs.Moves.{key_at, runs_on, begins, alts_of, turned, silent, at_hand}
use Rattle.ipg_mach_failures.specs.declared.story.Story.{Story}
use Rattle.ipg_mach_failures.specs.Furthest.{Furthest, furthest_with}
use Rattle.ipg_mach_count_laws.specs.Standing.{StandsAt, CallsSit}
use Rattle.ipg_mach_failure_laws.proofs.Leads.{LeadsTo, leads_more}
use Rattle.ipg_mach_failure_laws.proofs.Known.{Start, key_of, start_of, begun, Sits}

module _ (g : Grammar) (s : List ℕ) where
  -- an open call that began so
  pub record IsCall (a : Start) (c : OpenCall) : Type 0 where
    pub grammar : c.frame.grammar ≡ g
    pub key : key_at c.frame c.from ≡ key_of a
    pub stands : StandsAt s c.from c.frame.bytes

  abbrev pub Is : Start → Highest → Type 0
  Is a (Works c) = IsCall a c
  Is a (Holds key answer) = key ≡ key_of a

  runs_is : (a : Start) (c : OpenCall) (state : State) (left : List ℕ) → IsCall a c → Is a (runs_on c state left)
  runs_is a c state [] is = is.key
  runs_is a c state (u ∷ left) is = record { grammar = is.grammar; key = is.key; stands = is.stands }

  begins_is : (a : Start) (f : Frame) (from : ℕ) (alts : List CoreAlt) → f.grammar ≡ g → key_at f from ≡ key_of a → StandsAt s from f.bytes
      → Is a (begins f from alts)
  begins_is a f from [] grammar key stands = key
  begins_is a f from (alt ∷ alts) grammar key stands =
      let fresh = start (length alt.terms) in
      let c : OpenCall = record { frame = f; from = from; terms = alt.terms; alts = alts; state = fresh; left = []; entry = Outside } in
      runs_is a c fresh alt.order (record { grammar = grammar; key = key; stands = stands })

  pub turned_is : (a : Start) (c : OpenCall) (answer : Result Advance Stop) → IsCall a c → Is a (turned c answer)
  turned_is a c (Ok (Inside entry)) is = record { grammar = is.grammar; key = is.key; stands = is.stands }
  turned_is a c (Ok (Past state)) is = runs_is a c state (drop 1 c.left) is
  turned_is a c (Err NoTree) is = begins_is a (record c.frame { alt = c.frame.alt + 1 }) c.from c.alts is.grammar is.key is.stands
  turned_is a c (Err OutOfRange) is = is.key
  turned_is a c (Err Deep) is = is.key

  pub begun_is : (a : Start) → Sits g s a → Is a (begun g s a)
  begun_is a sits =
      begins_is a (record { grammar = g; rule = a.rule; alt = 0; bytes = a.bytes; outer = a.outer }) a.from (alts_of (rule_at g a.rule)) refl refl sits.stands

  -- what an open call makes sits in the input too
  pub asked_sits : CallsSit → (a : Start) (c : OpenCall) (ask : Asked) (more : List Asked) → IsCall a c → (at_hand silent c).asked ≡ ask ∷ more
      → Sits g s (start_of c ask)
  asked_sits sit a c ask more is asked =
      let callee = sit s c ask more is.stands asked in
      record {
        stands = callee.0;
        plain = λ global. callee.1 (ap (λ h. holder_of (rule_at h ask.callee)) is.grammar ∙ global);
      }

  -- ---- the calls below

  -- a call that waits for one: from its own opening an evaluation without a memo comes to the opening of that one
  pub record Waits (f : Furthest) (a : Start) (c : OpenCall) (below : Start) : Type 0 where
    pub sits : Sits g s below
    pub is : IsCall below c
    pub rises : (lower : List OpenCall) → LeadsTo f lower (begun g s below) (c ∷ lower) (begun g s a)

  abbrev pub Stack : Furthest → Start → List OpenCall → Type 0
  Stack f a [] = Unit {0}
  Stack f a (c ∷ lower) = (below : Start) × Waits f a c below × Stack f below lower

  pub stack_more : (f : Furthest) (x : Option Story) (a : Start) (lower : List OpenCall) → Stack f a lower → Stack (furthest_with f x) a lower
  stack_more f x a [] stack = tt
  stack_more f x a (c ∷ lower) stack =
      let waits = stack.1 in (
        stack.0,
        record {
          sits = waits.sits;
          is = waits.is;
          rises = λ l. leads_more f x l _ (c ∷ l) _ (waits.rises l);
        },
        stack_more f x stack.0 lower stack.2,
      )
