-- What stands after a call that hands out the cycle it found.
use Rattle.std.specs.Prelude.{◌≡◌, ⊤, List, ℕ, Option, Some, None}
use Rattle.std.specs.Borrow.{follows_so, Fml, MutBor, Bor}
use Rattle.std.specs.Option.{option_copied}
use mathlib.Core.Option.{none}
use Rattle.ipg_graph.specs.Answers.{Listing, IsLastAnswer, IsNextAnswer, last_of}
use Rattle.ipg_graph.specs.contracts.cycles.Cycles.{the_row}

-- the answer is the next simple cycle, or there is none
abbrev pub AnswersWith : Listing → Listing → Option (List ℕ) → Type 0
AnswersWith old new None = (new.graph ≡ old.graph) × IsLastAnswer old new
AnswersWith old new (Some c) = (new.graph ≡ old.graph) × ((last_of new.at ≡ c) × IsNextAnswer old new)

-- and the listing goes on from it
abbrev pub LendsAnswer : MutBor Listing → Option (Bor (List ℕ)) → Fml
LendsAnswer s r = follows_so the_row the_row s.ghost_name none (λ _ _. ⊤) (λ v. AnswersWith s.now v (option_copied r))
