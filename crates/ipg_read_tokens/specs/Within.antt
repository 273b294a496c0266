-- What functions inside the crate promise each other: a front takes a byte at least, and no more than there are.
use Rattle.std.specs.Prelude.{ℕ, ◌≤◌, Option, Some, None}
use Rattle.ipg_read_tokens.specs.declared.front.Front.{Front}
use Rattle.ipg_read_tokens.specs.declared.front.Front.TheVariants.{Nothing, Blank, Large, Token as Begins}
use Rattle.ipg_read_tokens.specs.declared.string.Item.{Item}
use Rattle.ipg_read_tokens.specs.declared.string.Item.TheVariants.{End, Byte, Bad}

abbrev pub TakesWithin : Front → ℕ → Type 0
TakesWithin Nothing m = Unit {0}
TakesWithin (Blank n) m = (1 ≤ n) × (n ≤ m)
TakesWithin (Large n) m = (1 ≤ n) × (n ≤ m)
TakesWithin (Begins kind n) m = (1 ≤ n) × (n ≤ m)

-- how many bytes a front takes, where one begins
abbrev pub width_of : Front → Option ℕ
width_of Nothing = None
width_of (Blank n) = Some n
width_of (Large n) = Some n
width_of (Begins kind n) = Some n

abbrev pub WidthWithin : Option ℕ → ℕ → Type 0
WidthWithin None m = Unit {0}
WidthWithin (Some n) m = (1 ≤ n) × (n ≤ m)

abbrev pub ItemWithin : Item → ℕ → Type 0
ItemWithin End m = Unit {0}
ItemWithin (Byte b n) m = (1 ≤ n) × (n ≤ m)
ItemWithin Bad m = Unit {0}
