-- What open calls have come to: results of terms, attributes and items, those of a call on top of those of the calls below it.
use Rattle.std.specs.Prelude.{◌≡◌, ℕ, ◌-◌, ◌≤◌, List, [], length, take, drop, Option, ℤ}
use Rattle.ipg_mach_nodes.specs.declared.kid.Kid.{Kid}
use Rattle.ipg_mach_slot.specs.declared.now.Done.{Done}
use Rattle.ipg_mach.specs.declared.piles.Bases.{Bases}

pub record Piled : Type 0 where
  pub done : List (Option Done)
  pub own : List (ℕ × ℤ)
  pub items : List Kid

abbrev pub nothing : Piled
nothing = record { done = []; own = []; items = [] }

-- the rows between two places
abbrev pub between : {A : Type 0} → List A → ℕ → ℕ → List A
between xs from to = take (to - from) (drop from xs)

-- where a call's begin
pub record IsBase (p : Piled) (b : Bases) : Type 0 where
  pub done : b.done ≤ length p.done
  pub own : b.own ≤ length p.own
  pub items : b.items ≤ length p.items

-- what the calls below have come to
abbrev pub below : Piled → Bases → Piled
below p b = record { done = take b.done p.done; own = take b.own p.own; items = take b.items p.items }

-- what the call itself has come to
abbrev pub above : Piled → Bases → Piled
above p b = record { done = drop b.done p.done; own = drop b.own p.own; items = drop b.items p.items }

-- the tops
pub record AreTops (p : Piled) (b : Bases) : Type 0 where
  pub done : b.done ≡ length p.done
  pub own : b.own ≡ length p.own
  pub items : b.items ≡ length p.items

-- the call has come to this, and those below to the same as before
pub record Turns (old new : Piled) (b : Bases) (to : Piled) : Type 0 where
  pub base : IsBase new b
  pub below : below new b ≡ below old b
  pub above : above new b ≡ to
