-- A place that each result of an alternative misses solves its gap formula.
use Rattle.std.proofs.Common.{◌≡◌, ℕ, zero, suc, ◌<◌, ◌≤◌, ◌^◌, sym, ap, ◌∙◌, subst, arith, List, [], ◌∷◌, ◌++◌, length, Some, None}
use Rattle.std.proofs.Common.{Option, pos}
use Rattle.std.specs.Prelude.{unwrap_or, ◌<ℤ◌, flat_map}
use Rattle.std.specs.List.{AllByRecursion}
use Rattle.std.proofs.lemmas.Int.{ints}
use Rattle.ipg_core.specs.Grammar.{Grammar, rule_at}
use Rattle.ipg_core.specs.Tree.{Kid}
use Rattle.ipg_core.specs.Environment.{Environment, Values, Done, done_at}
use Rattle.ipg_core.specs.Meaning.{environment, kids_done}
use Rattle.ipg_core.specs.MustTouch.{Marks}
use Rattle.ipg_core.specs.Grown.{IsInput}
use Rattle.ipg_core.specs.Laws.{LiesWithin, TouchingTouches}
use Rattle.ipg_facts_forms.specs.declared.fact.Fact.{Fact}
use Rattle.ipg_facts.specs.declared.edition.Edition.TheVariants.{Later}
use Rattle.ipg_facts_variables.specs.Variable.{whole, caller_side}
use Rattle.ipg_facts_forms.specs.Form.{leq, less}
use Rattle.ipg_facts.specs.Reading.{Scope, length_of, nought}
use Rattle.ipg_facts.specs.Keep.{opening, holder_facts, alt_at}
use Rattle.ipg_facts_forms.specs.Numbers.{variables_in, variables_of, all_of}
use Rattle.ipg_facts.specs.Gap.{point_side, point, gap_terms, is_place, gap_facts, rule_gap, gap}
use Rattle.ipg_facts_laws.specs.Known.{AreSo, Stands}
use Rattle.ipg_facts_laws.specs.Laws.{Solves}
use Rattle.ipg_facts_laws.specs.Finished.{frame_at, Finished, IsNumber, FitsEnd}
use Rattle.ipg_facts_laws.specs.Missed.{Misses, SolvesGap, AllMissedSolve}
use Rattle.ipg_facts_laws.proofs.Forms.{so_append, so_leq, so_less}
use Rattle.ipg_facts_laws.proofs.Relate.{stands_nought, stands_length}
use Rattle.ipg_facts_laws.proofs.Numbering.{variable_at, first_stays, solved_by}
use Rattle.ipg_facts_laws.proofs.Holders.{alt_is}
use Rattle.ipg_facts_laws.proofs.Seconds.{facts_second}
use Rattle.ipg_facts_laws.proofs.Misses.{stands_point, terms_missed}
use Rattle.ipg_facts_laws.proofs.Finished.{finished_fit}

-- ---- the facts hold

missed_at : (P : Kid → Type 0) (done : List (Option Done)) (u : ℕ) (d : Done) → AllByRecursion P (kids_done done) → done_at done u ≡ Some d → P d.kid
missed_at P [] u d h e = absurd (cc)
missed_at P (None ∷ ds) zero d h e = absurd (cc)
missed_at P (None ∷ ds) (suc u) d h e = missed_at P ds u d h e
missed_at P (Some x ∷ ds) zero d h e = let same : x ≡ d = cc in subst (λ (y : Done). P y.kid) same h.0
missed_at P (Some x ∷ ds) (suc u) d h e = missed_at P ds u d h.1 e

small : (place n : ℕ) → place < n → n ≤ 2 ^ 30 → IsNumber (pos place)
small place n lt le = (omega (arith, ints), omega (arith, ints))

module _ (g : Grammar) (marks : Marks) (at : ℕ × ℕ) (s : List ℕ) (outer : Values) (height place : ℕ) (input : IsInput s) (within : place < length s)
    (end : Finished g at s outer height) (missed : AllByRecursion (Misses place) (kids_done end.state.done))
    (fit : FitsEnd g marks at s outer height end (pos place)) where
  abbrev scope : Scope
  scope = opening g marks Later caller_side end.alt

  abbrev env : Environment
  env = environment (frame_at g at s outer) end.state None

  size : env.eoi ≤ 2 ^ 30
  unfolding environment
  size = input.size

  in_part : pos place <ℤ pos env.eoi
  unfolding environment
  in_part = omega (arith, ints, within)

  each : (u : ℕ) (d : Done) → done_at env.done u ≡ Some d → Misses place d.kid
  unfolding environment
  each u d e = missed_at (Misses place) end.state.done u d missed e

  length_stands : Stands fit.values (length_of scope) (pos env.eoi)
  length_stands = stands_length fit.values scope env fit.fits

  place_so : AreSo fit.values (is_place scope)
  unfolding is_place
  place_so =
      so_append fit.values (leq nought point) (less point (length_of scope))
      (so_leq fit.values nought point (pos 0) (pos place) (stands_nought fit.values) (stands_point fit.values place fit.place) (omega (arith, ints)))
      (so_less fit.values point (length_of scope) (pos place) (pos env.eoi) (stands_point fit.values place fit.place) length_stands in_part)

  all_so : AreSo fit.values (gap_facts g marks end.rule.holder end.alt)
  unfolding gap_facts
  all_so =
      so_append fit.values (is_place scope) (holder_facts g marks end.rule.holder end.alt ++ gap_terms scope end.alt.order) place_so
      (so_append fit.values (holder_facts g marks end.rule.holder end.alt) (gap_terms scope end.alt.order) fit.holder
      (terms_missed fit.values place fit.place env size each scope fit.fits end.alt.order fit.ran))

  these_facts : rule_gap g marks (rule_at g at.0) (alt_at g at) ≡ gap_facts g marks end.rule.holder end.alt
  unfolding rule_gap
  these_facts =
      ap (λ o. rule_gap g marks o (alt_at g at)) end.is_at.is_rule
      ∙ ap (λ o. rule_gap g marks (Some end.rule) o) (alt_is g at end.rule end.alt end.is_at)

  its_place : variable_at (variables_of (gap_facts g marks end.rule.holder end.alt)) 1 ≡ whole point_side
  its_place = ap (λ variable. unwrap_or variable (whole caller_side)) (facts_second g marks end.rule.holder end.alt)

  its_length : variable_at (variables_of (gap_facts g marks end.rule.holder end.alt)) 0 ≡ whole caller_side
  unfolding variables_of
  its_length = first_stays (flat_map variables_in (gap_facts g marks end.rule.holder end.alt)) [] (whole caller_side)

  solution : SolvesGap g marks at (length s) place
  unfolding gap
  solution =
      let these : List Fact = gap_facts g marks end.rule.holder end.alt in
      record {
        values = λ x. fit.values (variable_at (variables_of these) x);
        solves = subst (λ fs. Solves (λ x. fit.values (variable_at (variables_of these) x)) (all_of fs)) (sym these_facts)
            (solved_by fit.values these fit.ranged all_so);
        is_length = ap fit.values its_length ∙ fit.size;
        is_place = ap fit.values its_place ∙ fit.place;
      }

pub all_missed_solve : LiesWithin → TouchingTouches → AllMissedSolve
all_missed_solve lies must g marks at s outer height place good limit input grown within end missed =
    solution g marks at s outer height place input within end missed
    (finished_fit lies must g marks at s outer height (pos place) good limit input grown
    (small place (length s) within input.size) end)
