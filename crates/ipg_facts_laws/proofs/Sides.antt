-- Values for the variables of an alternative at a moment, of its holder, and of a place on a side of its own.
use Rattle.std.proofs.Common.{◌≡◌, ℕ, ◌≤◌, ◌^◌, refl, ap, ◌∙◌, subst, arith, List, length, Option, Some, Bool, true, false}
use Rattle.std.proofs.Common.{if◌then◌else◌, ℤ, pos}
use Rattle.std.specs.Prelude.{◌≤ℤ◌}
use Rattle.std.proofs.lemmas.Int.{ints}
use Rattle.ipg_num.specs.Number.{limited}
use Rattle.ipg_num.specs.declared.op.Answer.TheVariants.{Val}
use Rattle.ipg_core.specs.declared.grammar.CoreAlt.{CoreAlt}
use Rattle.ipg_core.specs.declared.grammar.CoreRule.{CoreRule}
use Rattle.ipg_core.specs.Grammar.{Grammar, holder_of}
use Rattle.ipg_core.specs.Environment.{Environment, Values, value_at}
use Rattle.ipg_core.specs.Meaning.{State, environment}
use Rattle.ipg_core.specs.MustTouch.{Marks, AreLimit}
use Rattle.ipg_core.specs.Good.{AltAt, Good}
use Rattle.ipg_core.specs.Grown.{IsInput, GrownUnder, Grown}
use Rattle.ipg_core.specs.Laws.{LiesWithin, TouchingTouches}
use Rattle.ipg_facts_variables.specs.declared.variable.Quantity.{Quantity}
use Rattle.ipg_facts_variables.specs.declared.variable.Quantity.TheVariants.{Whole, Attribute}
use Rattle.ipg_facts_variables.specs.declared.variable.Variable.{Variable}
use Rattle.ipg_facts_variables.specs.Variable.{whole, attribute, caller_side, holder_side, same_variable}
use Rattle.ipg_facts.specs.Keep.{holder_facts}
use Rattle.ipg_facts.specs.Gap.{point_side}
use Rattle.ipg_facts_laws.specs.Valued.{Valuation}
use Rattle.ipg_facts_laws.specs.Known.{AreSo, Fits}
use Rattle.ipg_facts_laws.specs.Laws.{IsInRange}
use Rattle.ipg_facts_laws.specs.Finished.{IsNumber}
use Rattle.ipg_facts_laws.proofs.Valuing.{or_zero, small, clamped, clamped_is, of_quantity, variable_of, values_of, are_numbers}
use Rattle.ipg_facts_laws.proofs.Works.{first_scope, at_work, Results, work_fits}
use Rattle.ipg_facts_laws.proofs.Holders.{Holder, holder_of_call}

in_length : (n : ℕ) (z : ℤ) → z ≡ pos n → n ≤ 2 ^ 30 → (pos 0 ≤ℤ z) × (z ≤ℤ pos 1073741824)
in_length n z is h = (omega (arith, ints), omega (arith, ints))

-- values at which an alternative's variables fit its state and item, its holder's facts hold, and the place is z
pub record Sides (g : Grammar) (marks : Marks) (at : ℕ × ℕ) (rule : CoreRule) (alt : CoreAlt) (s : List ℕ) (outer : Values) (end : State) (item : Option ℤ)
    (z : ℤ) : Type 0 where
  pub values : Valuation
  pub ranged : IsInRange values
  pub fits : Fits values (first_scope g marks caller_side alt) (environment (at_work g at s outer) end item)
  pub holder : AreSo values (holder_facts g marks rule.holder alt)
  pub size : values (whole caller_side) ≡ pos (length s)
  pub place : values (whole point_side) ≡ z

module _ (lies : LiesWithin) (must : TouchingTouches) (g : Grammar) (good : Good g) (marks : Marks) (limit : AreLimit g marks) (at : ℕ × ℕ) (rule : CoreRule)
    (alt : CoreAlt) (is_at : AltAt g rule alt at) (s : List ℕ) (input : IsInput s) (outer : Values) (grown : Grown g at.0 s outer) where
  held_by : Holder g marks rule.holder alt s outer
  held_by =
      holder_of_call lies must g good marks limit rule.holder at.0 s outer (subst (λ o. GrownUnder g o at.0 s outer) (ap holder_of is_at.is_rule) grown) rule
      at.1 alt is_at

  module _ (end : State) (item : Option ℤ) (results : Results marks (length g.names) alt (length s) end) (z : ℤ)
      (is_number : IsNumber z) where
    abbrev env : Environment
    env = environment (at_work g at s outer) end item

    values : Valuation
    values variable = if same_variable variable (whole point_side) then z else values_of env held_by.env variable

    agrees : (quantity : Quantity) → values (variable_of caller_side quantity) ≡ clamped (of_quantity env quantity)
    unfolding values values_of same_variable
    agrees quantity = refl

    holder_agrees : (quantity : Quantity) → values (variable_of holder_side quantity) ≡ clamped (of_quantity held_by.env quantity)
    unfolding values values_of same_variable
    holder_agrees quantity = refl

    outer_is : (a : ℕ) (y : ℤ) → value_at outer a ≡ Some y → limited y ≡ Val y → values (attribute holder_side a) ≡ y
    outer_is a y there n =
        holder_agrees (Attribute a) ∙ ap (λ own. clamped (or_zero (value_at own a))) held_by.own ∙ ap (λ o. clamped (or_zero o)) there ∙ clamped_is y n

    it_fits : Fits values (first_scope g marks caller_side alt) env
    it_fits = work_fits g good marks at alt s input outer caller_side end item results values agrees outer_is

    part_is : env.eoi ≡ length s
    unfolding environment
    part_is = refl

    size_is : values (whole caller_side) ≡ pos (length s)
    size_is = it_fits.length ∙ ap pos part_is

    holder_size_is : values (whole holder_side) ≡ pos held_by.env.eoi
    holder_size_is = holder_agrees Whole ∙ clamped_is (pos held_by.env.eoi) (small held_by.env.eoi held_by.size)

    number_if : (variable : Variable) (b : Bool) → IsNumber (if b then z else values_of env held_by.env variable)
    number_if variable true = is_number
    number_if variable false = are_numbers env held_by.env variable

    numbers : (variable : Variable) → IsNumber (values variable)
    unfolding values
    numbers variable = number_if variable (same_variable variable (whole point_side))

    place_is : values (whole point_side) ≡ z
    unfolding values same_variable
    place_is = refl

    pub sides : Sides g marks at rule alt s outer end item z
    sides = record {
      values = values;
      ranged = record {
        caller = in_length (length s) (values (whole caller_side)) size_is input.size;
        holder = in_length held_by.env.eoi (values (whole holder_side)) holder_size_is held_by.size;
        number = numbers;
      };
      fits = it_fits;
      holder = held_by.so values holder_agrees env part_is it_fits;
      size = size_is;
      place = place_is;
    }
