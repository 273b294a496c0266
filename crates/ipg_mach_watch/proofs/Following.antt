-- A move opens a call, or takes one away, or neither; so the calls that wait are known by how many there are.
use Rattle.std.proofs.Common.{◌≡◌, ℕ, ◌+◌, ◌<◌, refl, sym, ap, ◌∙◌, arith, List, [], ◌∷◌, ◌++◌, ◌-◌, take, length, Option, Some, None, Result, Ok, Err}
use Rattle.std.proofs.lemmas.Option.{same_Some, none-some}
use Rattle.std.proofs.lemmas.List.{length-append}
use Rattle.std.proofs.Math.Seq.{take-append_seam}
use Rattle.ipg_core.specs.Tree.{Tree}
use Rattle.ipg_core.specs.Run.{Stop, NoTree, OutOfRange, Deep, Asked, stop}
use Rattle.ipg_mach_moves.specs.Moves.{OpenCall, Highest, Works, Holds, Key, Evaluation, Advance, silent, first_left, at_hand, asked_key, known_of}
use Rattle.ipg_mach_moves.specs.Moves.{asks, works, returns, move_by, move}
use Rattle.ipg_mach_failures.specs.declared.story.Call.{Call}
use Rattle.ipg_mach_failures.specs.Chain.{call_of, calls_in, calls_of}
use Rattle.ipg_mach_watch.specs.Found.{at_work, worked}

-- what a move makes of the calls that wait
data Follows (e : Evaluation) (lower : List OpenCall) : Type 0 where
  Same : lower ≡ e.lower → Follows e lower
  Opens : (c : OpenCall) → (u : ℕ) → (rest : List ℕ) → e.highest ≡ Works c → c.left ≡ u ∷ rest → lower ≡ c ∷ e.lower → Follows e lower
  Returns : (c : OpenCall) → e.lower ≡ c ∷ lower → Follows e lower

-- a call that asks has a term left
asks_at : (c : OpenCall) (left : List ℕ) (ask : Asked) (more : List Asked) → c.left ≡ left → (first_left silent c left).asked ≡ ask ∷ more
    → (u : ℕ) × (rest : List ℕ) × (c.left ≡ u ∷ rest)
unfolding stop
asks_at c [] ask more is asked = absurd (cc)
asks_at c (u ∷ rest) ask more is asked = (u, rest, is)

by_known : (e : Evaluation) (c : OpenCall) (ask : Asked) (more : List Asked) (known : Option (Result Tree Stop)) → e.highest ≡ Works c
    → (at_hand silent c).asked ≡ ask ∷ more → Follows e (asks e c ask known).lower
by_known e c ask more (Some answer) is asked = Same refl
by_known e c ask more None is asked = let at = asks_at c c.left ask more refl asked in Opens c at.0 at.1 is at.2 refl

by_asked : (e : Evaluation) (c : OpenCall) (answer : Result Advance Stop) (asked : List Asked) → e.highest ≡ Works c
    → (at_hand silent c).asked ≡ asked → Follows e (works e c answer asked).lower
by_asked e c answer [] is asks = Same refl
by_asked e c answer (ask ∷ more) is asks = by_known e c ask more (known_of e.known (asked_key c ask)) is asks

by_lower : (e : Evaluation) (key : Key) (answer : Result Tree Stop) (lower : List OpenCall) → e.lower ≡ lower
    → Follows e (returns e key answer lower).lower
by_lower e key answer [] is = Same refl
by_lower e key answer (c ∷ lower) is = Returns c is

by_highest : (e : Evaluation) (highest : Highest) → e.highest ≡ highest → Follows e (move_by e highest).lower
by_highest e (Works c) is = by_asked e c (at_hand silent c).answer (at_hand silent c).asked is refl
by_highest e (Holds key (Err OutOfRange)) is = Same refl
by_highest e (Holds key (Ok tree)) is = by_lower e key (Ok tree) e.lower refl
by_highest e (Holds key (Err NoTree)) is = by_lower e key (Err NoTree) e.lower refl
by_highest e (Holds key (Err Deep)) is = by_lower e key (Err Deep) e.lower refl

follows : (e : Evaluation) → Follows e (move e).lower
unfolding move
follows e = by_highest e e.highest refl

-- ---- by how many there are

but_last : (calls : List Call) (call : Call) → take (length (calls ++ call ∷ []) - 1) (calls ++ call ∷ []) ≡ calls
but_last calls call =
    let one : length (call ∷ []) ≡ 1 = refl in
    let long : length (calls ++ call ∷ []) - 1 ≡ length calls = omega (arith, length-append calls (call ∷ []), one) in
    ap (λ n. take n (calls ++ call ∷ [])) long ∙ take-append_seam calls (call ∷ [])

works_at : (last : Option Call) (c : OpenCall) (u : ℕ) (rest left : List ℕ) → left ≡ u ∷ rest → at_work last c left ≡ Some (call_of c)
works_at last c u rest [] is = absurd (cc)
works_at last c u rest (v ∷ left) is = refl

module _ (e : Evaluation) (lower : List OpenCall) where
  more_by : Follows e lower → length e.lower < length lower → (last : Option Call)
      → (c : OpenCall) × (worked last e.highest ≡ Some (call_of c)) × (calls_in lower ≡ calls_of e ++ call_of c ∷ [])
  more_by (Same same) more last = absurd (let n = ap length same in omega (arith, n, more))
  more_by (Opens c u rest is left opens) more last = (c, ap (worked last) is ∙ works_at last c u rest c.left left, ap calls_in opens)
  more_by (Returns c is) more last = absurd (let n = ap length is in omega (arith, n, more))

  less_by : Follows e lower → length lower < length e.lower → (c : OpenCall) × (calls_of e ≡ calls_in lower ++ call_of c ∷ [])
  less_by (Same same) less = absurd (let n = ap length same in omega (arith, n, less))
  less_by (Opens c u rest is left opens) less = absurd (let n = ap length opens in omega (arith, n, less))
  less_by (Returns c is) less = (c, ap calls_in is)

  same_by : Follows e lower → length lower ≡ length e.lower → calls_in lower ≡ calls_of e
  same_by (Same same) count = ap calls_in same
  same_by (Opens c u rest is left opens) count = absurd (let n = ap length opens in omega (arith, n, count))
  same_by (Returns c is) count = absurd (let n = ap length is in omega (arith, n, count))

module _ (e : Evaluation) (last : Option Call) (before after : ℕ) (is_before : before ≡ length e.lower + 1) (is_after : after ≡ length (move e).lower + 1)
    (calls : List Call) (is : calls ≡ calls_of e) where
  pub pushed : before < after → (call : Call) → Some call ≡ worked last e.highest → calls ++ call ∷ [] ≡ calls_of (move e)
  pushed more call works =
      let one = more_by e (move e).lower (follows e) (omega (arith, is_before, is_after, more)) last in
      let same : call ≡ call_of one.0 = same_Some call (call_of one.0) (works ∙ one.1) in
      ap (λ cs. cs ++ call ∷ []) is ∙ ap (λ c. calls_of e ++ c ∷ []) same ∙ sym one.2

  pub some_pushed : before < after → None ≡ worked last e.highest → ⊥
  some_pushed more works =
      let one = more_by e (move e).lower (follows e) (omega (arith, is_before, is_after, more)) last in
      none-some (call_of one.0) (works ∙ one.1)

  pub popped : after < before → take (length calls - 1) calls ≡ calls_of (move e)
  popped less =
      let one = less_by e (move e).lower (follows e) (omega (arith, is_before, is_after, less)) in
      ap (λ cs. take (length cs - 1) cs) (is ∙ one.1) ∙ but_last (calls_of (move e)) (call_of one.0)

  pub kept : before ≡ after → calls ≡ calls_of (move e)
  kept same = is ∙ sym (same_by e (move e).lower (follows e) (omega (arith, is_before, is_after, same)))
