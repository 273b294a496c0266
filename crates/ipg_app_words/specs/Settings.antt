-- The values of options, and of a number of parts.
use Rattle.std.specs.Prelude.{ℕ, ◌-◌, ◌^◌, List, ◌&&◌, nat_le, codes, bytes_eq, Option, Some, None, if◌then◌else◌}
use Rattle.std.specs.Str.Parse.{digits_value}
use Rattle.clap.specs.ValueTests.{is_numeral}
use Rattle.ipg_app_words.specs.declared.asking.Memo.{Memo}
use Rattle.ipg_app_words.specs.declared.asking.Memo.TheVariants.{On, Off}

-- `on` or `off`; on where nothing is said
abbrev pub memo_in : Option (List ℕ) → Option Memo
memo_in None = Some On
memo_in (Some text) = if bytes_eq text (codes "on") then Some On else (if bytes_eq text (codes "off") then Some Off else None)

abbrev pub default_mib : ℕ
default_mib = 512

abbrev pub most_mib : ℕ
most_mib = 4096

abbrev pub within : ℕ → ℕ → ℕ → Option ℕ
within least most n = if nat_le least n && nat_le n most then Some n else None

-- a number from the least to the most, in decimal digits without a sign
abbrev pub number_in : ℕ → ℕ → List ℕ → Option ℕ
number_in least most text = if is_numeral text then within least most (digits_value 10 text) else None

-- the default where nothing is said
abbrev pub mib_in : Option (List ℕ) → Option ℕ
mib_in None = Some default_mib
mib_in (Some text) = number_in 1 most_mib text

abbrev pub most_count : ℕ
most_count = 2 ^ 32 - 1

-- a number from 0 to the most
abbrev pub count_in : List ℕ → Option ℕ
count_in text = number_in 0 most_count text
