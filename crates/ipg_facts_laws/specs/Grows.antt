-- An environment that goes on: what was there stays.
use Rattle.std.specs.Prelude.{◌≡◌, ℕ, Bool, true, Some, ℤ}
use Rattle.ipg_core.specs.declared.grammar.CoreField.{CoreField}
use Rattle.ipg_core.specs.declared.grammar.Sym.{Sym}
use Rattle.ipg_core.specs.Environment.{Environment, value_at, done_at, items_so_far, seen, field_of_item}
use Rattle.ipg_core.specs.Eval as core
use Rattle.ipg_core.specs.Eval.{greatest_end}
use Rattle.ipg_core.specs.Mention.{Mention, SeenOf, ItemOf, AfterOf, OwnOf, OuterOf, FieldOf, LoopOf}

-- attributes, results and items stay; behind the arrays and repetitions that have ended nothing is added
pub record Grows (has_ended : ℕ → Bool) (env later : Environment) : Type 0 where
  pub eoi : later.eoi ≡ env.eoi
  pub own : (a : ℕ) (z : ℤ) → value_at env.own a ≡ Some z → value_at later.own a ≡ Some z
  pub outer : (a : ℕ) (z : ℤ) → value_at env.outer a ≡ Some z → value_at later.outer a ≡ Some z
  pub turn : (z : ℤ) → env.item ≡ Some z → later.item ≡ Some z
  pub results : (term : ℕ) (sym : Sym) (f : CoreField) (z : ℤ) → seen env.names sym f (done_at env.done term) ≡ Some z
      → seen later.names sym f (done_at later.done term) ≡ Some z
  pub items : (term : ℕ) (f : CoreField) (i z : ℤ) → field_of_item env.names f (core.item_at (items_so_far (done_at env.done term)) i) ≡ Some z
      → field_of_item later.names f (core.item_at (items_so_far (done_at later.done term)) i) ≡ Some z
  pub ended : (term : ℕ) → has_ended term ≡ true → greatest_end (items_so_far (done_at later.done term)) ≡ greatest_end (items_so_far (done_at env.done term))

-- each place behind items that is mentioned is behind ones that have ended
abbrev pub IsSettled : (ℕ → Bool) → Mention → Type 0
IsSettled has_ended (AfterOf term) = has_ended term ≡ true
IsSettled has_ended (SeenOf term sym) = Unit {0}
IsSettled has_ended (ItemOf term) = Unit {0}
IsSettled has_ended (OwnOf a) = Unit {0}
IsSettled has_ended (OuterOf a) = Unit {0}
IsSettled has_ended (FieldOf a) = Unit {0}
IsSettled has_ended LoopOf = Unit {0}
