-- An edit of an input: the bytes from one place up to another are replaced.
use Rattle.std.specs.Prelude.{ℕ, ◌+◌, ◌-◌, ◌≤◌, List, ◌++◌, length, take, drop}

abbrev pub edited : List ℕ → ℕ → ℕ → List ℕ → List ℕ
edited input from to with = take from input ++ (with ++ drop to input)

-- the edit lies in the input
pub record IsEditOf (input : List ℕ) (from to : ℕ) : Type 0 where
  pub valid : from ≤ to
  pub inside : to ≤ length input

-- where a place at or behind the edit comes to lie: raised by so many new bytes, less those that went
abbrev pub moved : ℕ → ℕ → ℕ → ℕ → ℕ
moved from to new place = place + new - (to - from)
