-- What is known of a call: how an evaluation without a memo comes to its answer.
use Rattle.std.proofs.Common.{◌≡◌, ℕ, ◌+◌, refl, sym, ap, ◌∙◌, subst, List, [], ◌∷◌, Option, Some, None, Result, Ok, Err, Bool, true, false, cond, length}
use Rattle.std.proofs.lemmas.Bool.{and_parts, eqb-true}
use Rattle.std.specs.List.{AllByRecursion}
use Rattle.ipg_core.specs.Grammar.{Grammar, rule_at, holder_of}
use Rattle.ipg_core.specs.Part.{part}
use Rattle.ipg_core.specs.Tree.{Tree}
use Rattle.ipg_core.specs.Environment.{Values}
use Rattle.ipg_core.specs.Run.{Stop, NoTree, OutOfRange, Deep, Asked}
use Rattle.ipg_mach_moves.specs.Moves.{Key, OpenCall, Highest, Holds, Known, same_key, find, learned, opened, asked_part}
use Rattle.ipg_mach_failures.specs.declared.story.Story.{Story}
use Rattle.ipg_mach_failures.specs.Furthest.{Furthest, furthest_with}
use Rattle.ipg_mach_count_laws.specs.Standing.{StandsAt, StandsThere}
use Rattle.ipg_mach_failure_laws.proofs.Leads.{LeadsTo, leads_more}

-- a call of a rule on bytes that begin at `from` in the input
pub record Start : Type 0 where
  pub rule : ℕ
  pub from : ℕ
  pub bytes : List ℕ
  pub outer : Values

abbrev pub key_of : Start → Key
key_of a = record { rule = a.rule; from = a.from; to = a.from + length a.bytes }

-- the call that an open call makes
abbrev pub start_of : OpenCall → Asked → Start
start_of c ask = record { rule = ask.callee; from = c.from + ask.from; bytes = asked_part c ask; outer = ask.outer }

-- an answer within range, which goes to the call below
abbrev pub GoesDown : {A : Type 0} → Result A Stop → Type 0
GoesDown (Ok a) = Unit {0}
GoesDown (Err NoTree) = Unit {0}
GoesDown (Err OutOfRange) = ⊥
GoesDown (Err Deep) = Unit {0}

same_by : (a b : Key) → same_key a b ≡ true → a ≡ b
same_by a b e =
    let outer = and_parts _ _ e in
    let inner = and_parts _ _ outer.0 in
    (λ i. record { rule = eqb-true a.rule b.rule inner.0 i; from = eqb-true a.from b.from inner.1 i; to = eqb-true a.to b.to outer.1 i })

module _ (g : Grammar) (s : List ℕ) where
  abbrev pub begun : Start → Highest
  begun a = opened g a.rule a.bytes a.from a.outer

  -- the call of a global rule that a key stands for
  abbrev pub start_at : Key → Start
  start_at key = record { rule = key.rule; from = key.from; bytes = part s key.from key.to; outer = [] }

  -- it is on bytes of the input, and a global rule is passed no attributes
  pub record Sits (a : Start) : Type 0 where
    pub stands : StandsAt s a.from a.bytes
    pub plain : holder_of (rule_at g a.rule) ≡ None → a.outer ≡ []

  pub start_same : StandsThere → (a : Start) → Sits a → holder_of (rule_at g a.rule) ≡ None → start_at (key_of a) ≡ a
  start_same there a sits global =
      ap (λ (bytes : List ℕ). record { rule = a.rule; from = a.from; bytes = bytes; outer = [] }) (there s a.from a.bytes sits.stands)
      ∙ ap (λ (outer : Values). record { rule = a.rule; from = a.from; bytes = a.bytes; outer = outer }) (sym (sits.plain global))

  -- from its opening an evaluation without a memo comes to this, above whatever calls, and meets only failures that are settled
  abbrev pub Began : Furthest → Start → Highest → Type 0
  Began f a highest = (lower : List OpenCall) → LeadsTo f lower (begun a) lower highest

  -- so it comes to an answer that is known
  pub record Knows (f : Furthest) (entry : Key × Result Tree Stop) : Type 0 where
    pub global : holder_of (rule_at g entry.0.rule) ≡ None
    pub down : GoesDown entry.1
    pub began : Began f (start_at entry.0) (Holds entry.0 entry.1)

  abbrev pub KnowsAll : Furthest → Known → Type 0
  KnowsAll f known = AllByRecursion (Knows f) known

  pub knows_more : (f : Furthest) (x : Option Story) (known : Known) → KnowsAll f known → KnowsAll (furthest_with f x) known
  knows_more f x [] knows = tt
  knows_more f x (entry ∷ known) knows = (
    record {
      global = knows.0.global;
      down = knows.0.down;
      began = λ lower. leads_more f x lower _ lower _ (knows.0.began lower);
    },
    knows_more f x known knows.1,
  )

  found_by : (f : Furthest) (entry : Key × Result Tree Stop) (known : Known) (key : Key) (answer : Result Tree Stop) (b : Bool) → same_key entry.0 key ≡ b
      → cond b (Some entry.1) (find known key) ≡ Some answer → Knows f entry → (find known key ≡ Some answer → Knows f (key, answer))
      → Knows f (key, answer)
  found_by f entry known key answer true same e knows rest =
      let is : entry.1 ≡ answer = cc in
      subst (λ a. Knows f (key, a)) is (subst (λ k. Knows f (k, entry.1)) (same_by entry.0 key same) knows)
  found_by f entry known key answer false same e knows rest = rest e

  pub found : (f : Furthest) (known : Known) (key : Key) (answer : Result Tree Stop) → KnowsAll f known → find known key ≡ Some answer
      → Knows f (key, answer)
  found f [] key answer knows e = absurd (cc)
  found f (entry ∷ known) key answer knows e = found_by f entry known key answer _ refl e knows.0 (found f known key answer knows.1)

  learned_by : (f : Furthest) (holder : Option (ℕ × ℕ)) (known : Known) (key : Key) (answer : Result Tree Stop) → KnowsAll f known
      → (holder ≡ None → Knows f (key, answer)) → KnowsAll f (learned holder known key answer)
  learned_by f None known key answer knows more = (more refl, knows)
  learned_by f (Some holder) known key answer knows more = knows

  -- the answer of a call that has come to it
  pub knows_learned : StandsThere → (f : Furthest) (a : Start) (known : Known) (key : Key) (answer : Result Tree Stop)
      → KnowsAll f known → Sits a → key ≡ key_of a
      → GoesDown answer → Began f a (Holds key answer) → KnowsAll f (learned (holder_of (rule_at g key.rule)) known key answer)
  knows_learned stands f a known key answer knows sits is down began =
      learned_by f (holder_of (rule_at g key.rule)) known key answer knows (λ global. record { global = global; down = down; began = there global })
    where
      there : holder_of (rule_at g key.rule) ≡ None → Began f (start_at key) (Holds key answer)
      there global =
          let rule : key.rule ≡ a.rule = ap (λ (k : Key). k.rule) is in
          let same : a ≡ start_at key =
          sym (ap start_at is ∙ start_same stands a sits (subst (λ r. holder_of (rule_at g r) ≡ None) rule global)) in
          subst (λ b. Began f b (Holds key answer)) same began
