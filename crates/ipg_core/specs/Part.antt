-- Parts of a list of bytes, and the intervals that pick them.
use Rattle.std.specs.Prelude.{ℕ, ◌-◌, List, take, drop, Option, Some, None, ℤ, pos, negsuc, nat_le, ◌&&◌, if◌then◌else◌}

-- the bytes of s at the places from l up to, and not including, r
abbrev pub part : List ℕ → ℕ → ℕ → List ℕ
part s l r = take (r - l) (drop l s)

-- the ends of an interval as places of a part of n bytes, where it is valid: 0 ≤ l ≤ r ≤ n
abbrev pub interval : ℕ → ℤ → ℤ → Option (ℕ × ℕ)
interval n (pos l) (pos r) = if nat_le l r && nat_le r n then Some (l, r) else None
interval n (negsuc l) r = None
interval n (pos l) (negsuc r) = None
