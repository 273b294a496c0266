-- Where the way of a key begins, and to which side it turns.
use Rattle.std.specs.Prelude.{ℕ, ◌+◌, ◌-◌, ◌*◌, ◌/◌, ◌%◌, ◌^◌}
use Rattle.ipg_memo.specs.declared.memo.Key.{Key}

-- what a key's numbers are mixed to: the same for keys that differ in the last three bits of their places alone
unfoldable pub mixed : Key → ℕ
mixed key = key.from / 8 * 11400714819323198485 + key.to / 8 * 14686920831342365939 + key.rule * 14029467366897019727

-- the head of a key: one of sixteen in a line
unfoldable pub home : ℕ → Key → ℕ
home heads key = mixed key / 2 ^ 32 % 2 ^ 32 * (heads / 16) / 2 ^ 32 * 16 + (key.from + 2 * key.to + mixed key / 2 ^ 12) % 16

-- the cell under a row that a key goes to, by a bit of each of its numbers; so many bits are left
unfoldable pub side : Key → ℕ → ℕ
side key left = key.rule / 2 ^ (32 - left) % 2 * 4 + key.from / 2 ^ (32 - left) % 2 * 2 + key.to / 2 ^ (32 - left) % 2
