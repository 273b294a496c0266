-- Highest calls that don't hold Deep, and those behind which no call is made.
use Rattle.std.proofs.Common.{◌≡◌, ◌≢◌, refl, List, [], Result, Ok, Err, ◌⊎◌, inl, inr}
use Rattle.ipg_core.specs.Tree.{Tree}
use Rattle.ipg_core.specs.Run.{Stop, NoTree, OutOfRange, Deep, Asked}
use Rattle.ipg_mach_moves.specs.Moves.{Key, Highest, Works, Holds}

pub deep_or_not : (answer : Result Tree Stop) → (answer ≡ Err Deep) ⊎ (answer ≢ Err Deep)
deep_or_not (Ok tree) = inr (λ e. cc)
deep_or_not (Err NoTree) = inr (λ e. cc)
deep_or_not (Err OutOfRange) = inr (λ e. cc)
deep_or_not (Err Deep) = inl refl

abbrev pub NotDeep : Highest → Type 0
NotDeep (Works c) = Unit {0}
NotDeep (Holds key (Ok tree)) = Unit {0}
NotDeep (Holds key (Err NoTree)) = Unit {0}
NotDeep (Holds key (Err OutOfRange)) = Unit {0}
NotDeep (Holds key (Err Deep)) = ⊥

abbrev pub IsLast : Result Tree Stop → Highest → List Asked → Type 0
IsLast answer (Works c) asked = Unit {0}
IsLast answer (Holds key (Ok tree)) asked = Unit {0}
IsLast answer (Holds key (Err NoTree)) asked = Unit {0}
IsLast answer (Holds key (Err OutOfRange)) asked = (asked ≡ []) × (answer ≡ Err OutOfRange)
IsLast answer (Holds key (Err Deep)) asked = Unit {0}

pub not_deep : (key : Key) (answer : Result Tree Stop) → answer ≢ Err Deep → NotDeep (Holds key answer)
not_deep key (Ok tree) settled = tt
not_deep key (Err NoTree) settled = tt
not_deep key (Err OutOfRange) settled = tt
not_deep key (Err Deep) settled = settled refl

pub is_last : (key : Key) (answer : Result Tree Stop) → IsLast answer (Holds key answer) []
is_last key (Ok tree) = tt
is_last key (Err NoTree) = tt
is_last key (Err OutOfRange) = (refl, refl)
is_last key (Err Deep) = tt
