-- Where an input stopped being what a grammar wants, for a person: what it came to, and the furthest failures.
use Rattle.std.specs.Prelude.{ℕ, ◌+◌, ◌-◌, ℤ, List, [], ◌∷◌, ◌++◌, codes, decimal, drop, take, flat_map, length, nat_eq, nat_lt, slice_get}
use Rattle.std.specs.Prelude.{Bool, false, ◌&&◌, Option, None, Some, is_some, if◌then◌else◌}
use Rattle.std.specs.Fmt.{signed_decimal}
use Rattle.ipg_ast.specs.declared.grammar.Grammar.{Grammar}
use Rattle.ipg_ast.specs.declared.grammar.Term.{Term}
use Rattle.ipg_mach_failures.specs.declared.failure.Cause.{Cause}
use Rattle.ipg_mach_failures.specs.declared.failure.Cause.TheVariants.{Differs, CutShort, NoInterval, IsZero, NoValue}
use Rattle.ipg_mach_failures.specs.declared.failure.Failure.{Failure}
use Rattle.ipg_mach_failures.specs.declared.story.Call.{Call}
use Rattle.ipg_mach_failures.specs.declared.story.Story.{Story}
use Rattle.ipg_mach_failures.specs.declared.values.Valued.{Valued}
use Rattle.ipg_app_explain.specs.declared.furthest.Ending.{Ending}
use Rattle.ipg_app_explain.specs.declared.furthest.Ending.TheVariants.{Tree, NoTree, Range}
use Rattle.ipg_app_explain.specs.Bytes.{bytes_words, counted, extent}
use Rattle.ipg_app_explain.specs.Named.{alternatives, is_many, rule_name, size_of, wanted_of}
use Rattle.ipg_app_explain.specs.Spot.{place_line, spot_lines}
use Rattle.ipg_app_explain.specs.Terms.{term_at, term_place, call_place}
use Rattle.ipg_app_explain.specs.Values.{values_line}

-- a text under a name, the grammar that it reads as, and an input
pub record Subject : Type 0 where
  pub name : List ℕ
  pub text : List ℕ
  pub grammar : Grammar
  pub input : List ℕ

-- what it came to, in a line
abbrev pub end_line : Ending → List ℕ
end_line Tree = codes "parsed\n"
end_line NoTree = codes "no parse\n"
end_line (Range call) = codes "range\n"

-- ---- what was wanted, and what stands there

-- what is wanted at a byte
abbrev pub wanted_at : ℕ → List ℕ → List ℕ
wanted_at at what = codes "Wanted at byte " ++ (decimal at ++ (codes ": " ++ what))

abbrev pub common_words : ℕ → List ℕ
common_words agreed = codes ", with " ++ (counted agreed ++ codes " in common.\n")

abbrev pub found_words : List ℕ → ℕ → List ℕ
found_words found agreed = codes ". There stands " ++ (bytes_words found ++ common_words agreed)

abbrev pub stands : List ℕ → ℕ → List ℕ
stands found agreed = if nat_eq (length found) 0 then codes ". The part ends there.\n" else found_words found agreed

-- at most so many bytes of the input, from a byte up to the end of a part
abbrev pub found_at : List ℕ → (from to count : ℕ) → List ℕ
found_at input from to count = take count (drop from (take to input))

abbrev pub short_words : ℕ → ℕ → List ℕ
short_words width left = codes ", " ++ (counted width ++ (codes ". Left: " ++ (counted left ++ codes ".\n")))

abbrev pub from_words : ℤ → List ℕ
from_words from = codes " on [" ++ signed_decimal from

abbrev pub to_words : ℤ → List ℕ
to_words to = codes ", " ++ (signed_decimal to ++ codes "]")

abbrev pub part_words : ℕ → List ℕ
part_words size = codes ", in a part of " ++ (counted size ++ codes ".\n")

abbrev pub interval_words : List ℕ → ℤ → ℤ → ℕ → List ℕ
interval_words what from to size = codes "Wanted: " ++ (what ++ (from_words from ++ (to_words to ++ part_words size)))

abbrev pub differs_words : List ℕ → Failure → Term → ℕ → List ℕ
differs_words input f term agreed =
    wanted_at (f.place - agreed) (wanted_of f.branch term)
    ++ stands (found_at input (f.place - agreed) f.to (size_of f.branch term)) agreed

abbrev pub cut_words : Failure → Term → ℕ → List ℕ
cut_words f term left = wanted_at (f.place - left) (wanted_of f.branch term) ++ short_words (size_of f.branch term) left

-- what is said where nothing is wanted of the input
abbrev pub plain_words : Cause → List ℕ
plain_words (Differs agreed) = []
plain_words (CutShort left) = []
plain_words (NoInterval from to) = []
plain_words IsZero = codes "The test is 0.\n"
plain_words NoValue = codes "An expression of this term has no value.\n"

-- why a term failed
abbrev pub cause_words : List ℕ → Failure → Term → Cause → List ℕ
cause_words input f term (Differs agreed) = differs_words input f term agreed
cause_words input f term (CutShort left) = cut_words f term left
cause_words input f term (NoInterval from to) = interval_words (wanted_of f.branch term) from to (f.to - f.from)
cause_words input f term IsZero = plain_words IsZero
cause_words input f term NoValue = plain_words NoValue

abbrev pub why_line : List ℕ → Failure → Option Term → List ℕ
why_line input f None = []
why_line input f (Some term) = cause_words input f term f.cause

-- ---- what comes of it

abbrev pub no_tree_words : Bool → List ℕ
no_tree_words in_many = if in_many then codes " has no tree here, and the repetition ends.\n" else codes " has no tree here.\n"

abbrev pub next_words : List ℕ → List ℕ
next_words name = codes "The next alternative of " ++ (name ++ codes " is tried.\n")

-- an alternative is left of the rule of this name, or none
abbrev pub rule_words : List ℕ → Bool → Bool → List ℕ
rule_words name is_left in_many =
    if is_left then next_words name else name ++ no_tree_words in_many

-- ---- calls, and how many there are

-- the call that is open nearest below
abbrev pub nearest : List Call → Option Call
nearest calls = slice_get calls (length calls - 1)

abbrev pub gap_words : ℕ → List ℕ
gap_words n = codes ".. " ++ (decimal n ++ codes " more calls ..\n")

abbrev pub gap_line : ℕ → List ℕ
gap_line n = if nat_eq n 0 then [] else gap_words n

abbrev pub item_words : Option ℕ → List ℕ
item_words None = 10 ∷ []
item_words (Some n) = codes ", item " ++ (decimal n ++ 10 ∷ [])

abbrev pub more_words : ℕ → List ℕ
more_words n = if nat_eq n 0 then [] else codes ", and " ++ (decimal n ++ codes " more")

abbrev pub heading_words : ℕ → ℕ → List ℕ
heading_words others more = if nat_eq (others + more) 0 then codes "The furthest failure is at byte " else codes "The furthest failures are at byte "

abbrev pub end_mark : ℕ → ℕ → List ℕ
end_mark place size = if nat_eq place size then codes ", the end of the input" else []

abbrev pub place_words : (place size more : ℕ) → List ℕ
place_words place size more = decimal place ++ (end_mark place size ++ (more_words more ++ codes ".\n"))

-- where they are
abbrev pub heading : List ℕ → List Story → ℕ → List ℕ
heading input [] more = codes "No term failed.\n"
heading input (one ∷ told) more = heading_words (length told) more ++ place_words one.failure.place (length input) more

module _ (s : Subject) where
  -- an item of a repetition ends it; else the next alternative is tried, or the call has no tree
  abbrev pub then_line : Failure → Bool → Bool → List ℕ
  then_line f ends in_many =
      if ends then codes "The repetition ends here.\n"
      else rule_words (rule_name s.grammar f.rule) (nat_lt f.alt (alternatives s.grammar f.rule - 1)) in_many

  abbrev pub term_of : Call → Option Term
  term_of c = term_at s.grammar c.rule c.alt c.term

  abbrev pub is_in_many : Option Call → Bool
  is_in_many None = false
  is_in_many (Some call) = is_many (term_of call)

  abbrev pub call_words : (rule from to : ℕ) → List ℕ
  call_words rule from to = codes "in " ++ (rule_name s.grammar rule ++ 32 ∷ extent from to)

  abbrev pub at_place : Option ℕ → List ℕ
  at_place None = 10 ∷ []
  at_place (Some at) = codes " at " ++ place_line s.name s.text at

  -- an open call, and where its term at hand stands
  abbrev pub call_line : Call → List ℕ
  call_line c = call_words c.rule c.from c.to ++ at_place (term_place s.grammar c.rule c.alt c.term)

  abbrev pub chain : List Call → ℕ → List ℕ
  chain calls left_out = flat_map call_line (take 4 calls) ++ (gap_line left_out ++ flat_map call_line (drop 4 calls))

  -- the call that failed
  abbrev pub last_line : Failure → List ℕ
  last_line f = call_words f.rule f.from f.to ++ item_words f.item

  -- ---- the whole

  abbrev pub spot_at : Option ℕ → List ℕ
  spot_at None = []
  spot_at (Some at) = spot_lines s.name s.text at

  abbrev pub failed_term : Failure → Option Term
  failed_term f = term_at s.grammar f.rule f.alt f.term

  -- where a value left 64 bits
  abbrev pub range_lines : Ending → List ℕ
  range_lines Tree = []
  range_lines NoTree = []
  range_lines (Range c) =
      spot_at (term_place s.grammar c.rule c.alt c.term) ++ (codes "A value leaves 64 bits here.\n" ++ (call_words c.rule c.from c.to ++ 10 ∷ []))

-- the names of attributes by their numbers
module _ (s : Subject) (names : List (List ℕ)) where
  -- where, why, what it read, and what comes of it
  abbrev pub failure_lines : Failure → List Valued → Bool → List ℕ
  failure_lines f values in_many =
      spot_at s (call_place s.grammar f.rule f.alt f.term f.branch)
      ++ (why_line s.input f (failed_term s f)
      ++ (values_line s.grammar names f values ++ then_line s f (is_many (failed_term s f) && is_some f.item) in_many))

  abbrev pub story_lines : Story → List ℕ
  story_lines one =
      10 ∷ (failure_lines one.failure one.values (is_in_many s (nearest one.calls)) ++ (chain s one.calls one.left_out ++ last_line s one.failure))

  -- what it came to, and the furthest failures
  abbrev pub told_of : Ending → List Story → (more : ℕ) → List ℕ
  told_of end told more = end_line end ++ (range_lines s end ++ (heading s.input told more ++ flat_map story_lines told))
