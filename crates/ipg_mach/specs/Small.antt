-- A place in a pile is a number of 32 bits.
use Rattle.std.specs.Prelude.{◌<◌, ◌^◌, length}
use Rattle.ipg_mach.specs.declared.piles.Piles.TheInside.{Inside}

module _ {A : Type 0} where
  pub record AreSmall (a : Inside A) : Type 0 where
    pub done : length a.done.items < 2 ^ 32
    pub own : length a.own.items < 2 ^ 32
    pub items : length a.items.items < 2 ^ 32
