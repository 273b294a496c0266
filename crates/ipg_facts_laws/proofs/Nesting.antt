-- Where a height suffices, a larger one makes the same calls, and they nest as deep.
use Rattle.std.proofs.Common.{◌≡◌, ℕ, zero, suc, ◌≤◌, List, [], ◌∷◌, max, None, refl, sym, ap, ◌∙◌, subst, inl, inr, arith}
use Rattle.std.specs.List.{AllByRecursion}
use Rattle.std.proofs.Math.Nat.{max-le}
use Rattle.std.proofs.lemmas.Bool.{cases_lt}
use Rattle.std.proofs.lemmas.Option.{slice_get_within}
use Rattle.ipg_core.specs.Grammar.{Grammar, holder_of, rule_at}
use Rattle.ipg_core.specs.Part.{part}
use Rattle.ipg_core.specs.Environment.{Values}
use Rattle.ipg_core.specs.Run.{Asked, Run}
use Rattle.ipg_core.specs.Meaning.{rule_on, den}
use Rattle.ipg_core.specs.Good.{Good}
use Rattle.ipg_core.specs.Grown.{IsInput, GrownUnder}
use Rattle.ipg_core.specs.Total.{Fits, height_for}
use Rattle.ipg_core.specs.Laws.{HeightsAgree}
use Rattle.ipg_facts_laws.specs.Nest.{greatest_by, nest}
use Rattle.ipg_facts_laws.specs.Ends.{RunsAgree, NestsAgree, NestsWithinHeight, InputsNestWithinHeight}
use Rattle.ipg_facts_laws.proofs.Settled.{Settled}
use Rattle.ipg_facts_laws.proofs.Follows.{Settles, Agrees, on_follows}

-- what a logged call nests
abbrev nested : Grammar → ℕ → List ℕ → Asked → ℕ
nested g h s asked = nest g h asked.callee (part s asked.from asked.to) asked.outer

greatest_within : (f : Asked → ℕ) (n : ℕ) (log : List Asked) → AllByRecursion (λ asked. f asked ≤ n) log → greatest_by f log ≤ n
greatest_within f n [] h = omega arith
greatest_within f n (asked ∷ log) h = max-le h.0 (greatest_within f n log h.1)

all_so : (Q : Asked → Type 0) → ((asked : Asked) → Q asked) → (log : List Asked) → AllByRecursion Q log
all_so Q h [] = tt
all_so Q h (asked ∷ log) = (h asked, all_so Q h log)

-- no deeper than the height at hand
within_height : (g : Grammar) (h r : ℕ) (s : List ℕ) (outer : Values) → nest g h r s outer ≤ h
unfolding nest
within_height g zero r s outer = omega arith
within_height g (suc h) r s outer =
    let each = all_so _ (λ asked. within_height g h asked.callee (part s asked.from asked.to) asked.outer) _ in
    let b = greatest_within _ h (rule_on (den g h) g r s outer).asked each in
    omega (arith, b)

-- ---- larger heights

agree : HeightsAgree → (g : Grammar) (low high : ℕ) (s : List ℕ) (log : List Asked) → low ≤ high → AllByRecursion (Settles (den g low) s) log
    → AllByRecursion (Agrees (den g low) (den g high) s) log
agree heights g low high s [] le h = tt
agree heights g low high s (asked ∷ log) le h =
    let one : Settles (den g low) s asked = h.0 in
    (heights g low high asked.callee (part s asked.from asked.to) asked.outer le one.not_deep, agree heights g low high s log le h.1)

pub runs_agree : HeightsAgree → RunsAgree
runs_agree heights g low high r s outer le settled =
    let follows = on_follows (den g low) (den g high) g r s outer in
    follows.same (agree heights g low high s _ le (follows.each (record { not_deep = settled })))

greatest_same : (f f' : Asked → ℕ) (log : List Asked) → AllByRecursion (λ asked. f asked ≡ f' asked) log → greatest_by f log ≡ greatest_by f' log
greatest_same f f' [] h = refl
greatest_same f f' (asked ∷ log) h = ap (λ n. max n (greatest_by f log)) h.0 ∙ ap (λ n. max (f' asked) n) (greatest_same f f' log h.1)

module _ (runs : RunsAgree) (g : Grammar) where
  abbrev NestsAlike : ℕ → ℕ → Type 0
  NestsAlike low high = (r : ℕ) (s : List ℕ) (outer : Values) → Settled (den g low r s outer) → nest g high r s outer ≡ nest g low r s outer

  each_alike : (low high : ℕ) → NestsAlike low high → (s : List ℕ) (log : List Asked) → AllByRecursion (Settles (den g low) s) log
      → AllByRecursion (λ asked. nested g high s asked ≡ nested g low s asked) log
  each_alike low high alike s [] h = tt
  each_alike low high alike s (asked ∷ log) h = (alike asked.callee (part s asked.from asked.to) asked.outer h.0, each_alike low high alike s log h.1)

  alike : (low high : ℕ) → low ≤ high → NestsAlike low high
  unfolding nest den
  alike zero high le r s outer settled = absurd (settled.not_deep refl)
  alike (suc low) zero le r s outer settled = absurd (omega (arith, le))
  alike (suc low) (suc high) le r s outer settled =
      let same = runs g low high r s outer (omega (arith, le)) settled.not_deep in
      let each = (on_follows (den g low) (den g high) g r s outer).each settled in
      let log = (rule_on (den g low) g r s outer).asked in
      ap (λ (run : Run _). suc (greatest_by (nested g high s) run.asked)) same
      ∙ ap suc (greatest_same _ _ log (each_alike low high (alike low high (omega (arith, le))) s log each))

pub nests_agree : RunsAgree → NestsAgree
nests_agree runs g low high r s outer le settled = alike runs g low high le r s outer (record { not_deep = settled })

pub nests_within_height : NestsAgree → NestsWithinHeight
nests_within_height agree g total h r s outer fits = elim (cases_lt h (height_for g s)) [
  | inl less ↦ let w = within_height g h r s outer in let e : nest g h r s outer ≤ height_for g s = omega (arith, w, less) in e
  | inr more ↦
      let same = agree g (height_for g s) h r s outer more (total r s outer fits) in
      subst (λ n. n ≤ height_for g s) (sym same) (within_height g (height_for g s) r s outer)
]

-- the first rule may be asked for an input
first_fits : (g : Grammar) → Good g → (s : List ℕ) → IsInput s → Fits g 0 s []
first_fits g good s input =
    let first = good.well_formed.first in
    let global : holder_of (rule_at g 0) ≡ None = ap holder_of first.1 ∙ first.2 in
    record {
      rule = slice_get_within g.rules 0 first.0 first.1;
      input = input;
      grown = subst (λ o. GrownUnder g o 0 s []) (sym global) refl;
    }

pub inputs_nest_within_height : NestsWithinHeight → InputsNestWithinHeight
inputs_nest_within_height nests g good total h s input = nests g total h 0 s [] (first_fits g good s input)
