-- Moves one after another, and what they end with.
use Rattle.std.proofs.Common.{◌≡◌, ℕ, zero, suc, refl, Option, Some, None, Result, List, inl, inr}
use Rattle.ipg_core.specs.Grammar.{Grammar}
use Rattle.ipg_core.specs.Tree.{Tree}
use Rattle.ipg_core.specs.Run.{Stop}
use Rattle.ipg_mach_moves.specs.Moves.{Evaluation, Known, Tally, moves, move, ended}
use Rattle.ipg_mach_moves.specs.Laws.{AreRight}
use Rattle.ipg_mach_nodes.specs.Stored.{Source}
use Rattle.ipg_mach.specs.declared.machine.Remember.{Remember}
use Rattle.ipg_mach.specs.declared.machine.Remember.TheVariants.{Nothing, Answers}
use Rattle.ipg_mach.specs.declared.machine.Turn.TheVariants.{Done}
use Rattle.ipg_mach.specs.Outcome.{Ends, Evaluates}
use Rattle.ipg_mach.specs.Stage.{Stage, IsAt}
use Rattle.ipg_mach.specs.Turning.{known_at, turn_of}
use Rattle.ipg_mach.specs.Verdict.{ComesTo}

pub one_more : (n : ℕ) (e : Evaluation) → moves (suc n) e ≡ move (moves n e)
unfolding moves
one_more zero e = refl
one_more (suc n) e = one_more n (move e)

done_by : (ends : Option (Result Tree Stop)) → Done ≡ turn_of ends → (answer : Result Tree Stop) × (ends ≡ Some answer)
done_by None e = absurd (cc)
done_by (Some answer) e = (answer, refl)

-- so many moves, with which it has ended
pub done : (src : Source) (s : Stage) (e : Evaluation) (n : ℕ) → IsAt src s (moves n e) → Done ≡ turn_of (ended (moves n e)) → Ends src s e
done src s e n at turn = let one = done_by (ended (moves n e)) turn in record { moved = n; answer = one.0; at = at; ends = one.1 }

-- nothing that is remembered at first is wrong
pub knows_nothing : (g : Grammar) (s : List ℕ) (remember : Remember) → AreRight g s (known_at remember)
knows_nothing g s Nothing = tt
knows_nothing g s Answers = tt

-- so the first rule had to run
pub evaluates : (g : Grammar) (s : List ℕ) (remember : Remember) (answer : Result Tree Stop) (tally : Tally) (later : Option Known)
    → ComesTo g s (known_at remember) answer tally later → Evaluates g s (known_at remember) answer tally
evaluates g s Nothing answer tally later (inl was) = let e = was.kept in absurd (cc)
evaluates g s Answers answer tally later (inl was) = let e = was.kept in absurd (cc)
evaluates g s remember answer tally later (inr ran) = record { moved = ran.moved; ends = ran.ends; counts = ran.counts }
