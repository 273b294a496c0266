-- What the highest call holds tells whether the evaluation has ended, and with what.
use Rattle.std.proofs.Common.{◌≡◌, ◌≢◌, ◌<◌, arith, refl, sym, ap, ◌∙◌, List, [], ◌∷◌, length, Some, None, Bool, true, false}
use Rattle.std.specs.Prelude.{nat_eq, if◌then◌else◌}
use Rattle.std.proofs.lemmas.Bool.{eqb-true}
use Rattle.ipg_mach_moves.specs.Moves.{Evaluation, ended}
use Rattle.ipg_mach_nodes.specs.Stored.{Source}
use Rattle.ipg_mach.specs.declared.frame.HeldAnswer.{HeldAnswer}
use Rattle.ipg_mach.specs.declared.frame.HeldAnswer.TheVariants as held
use Rattle.ipg_mach.specs.declared.ended.Ended.{Ended}
use Rattle.ipg_mach.specs.declared.ended.Ended.TheVariants as ended_by
use Rattle.ipg_mach.specs.Ended.{ending_of}
use Rattle.ipg_mach.specs.Stage.{Stage, IsAt}
use Rattle.ipg_mach.proofs.Stepping as stepping

-- an answer without its tree
abbrev pub kind : HeldAnswer → Ended
kind (held.Node id) = ended_by.Tree
kind held.NoTree = ended_by.NoTree
kind held.Range = ended_by.Range

none_left : {A : Type 0} (xs : List A) → nat_eq (length xs) 0 ≡ true → xs ≡ []
none_left [] e = refl
none_left (x ∷ xs) e = let none : length (x ∷ xs) ≡ 0 = eqb-true (length (x ∷ xs)) 0 e in absurd (omega (arith, none))

some_left : {A : Type 0} (xs : List A) → nat_eq (length xs) 0 ≡ false → 0 < length xs
some_left [] e = absurd (cc)
some_left (x ∷ xs) e = omega arith

module _ (src : Source) (s : Stage) (e : Evaluation) (at : IsAt src s e) where
  pub goes : s.top.answer ≡ None → None ≡ ending_of (ended e)
  goes none = sym (ap ending_of (stepping.goes src s e at none))

  pub ranged : s.top.answer ≡ Some held.Range → Some ended_by.Range ≡ ending_of (ended e)
  ranged some = sym (ap ending_of (stepping.ranged src s e at some))

  lowest : (one : HeldAnswer) → s.top.answer ≡ Some one → s.frames ≡ [] → ending_of (ended e) ≡ Some (kind one)
  lowest (held.Node id) some frames =
      let it = stepping.lowest_holds src s e at (held.Node id) some frames in
      ap ending_of (it.1 ∙ ap (λ a. Some a) it.2.1)
  lowest held.NoTree some frames =
      let it = stepping.lowest_holds src s e at held.NoTree some frames in
      ap ending_of (it.1 ∙ ap (λ a. Some a) it.2)
  lowest held.Range some frames = sym (ranged some)

  below_by : (one : HeldAnswer) → s.top.answer ≡ Some one → one ≢ held.Range → (b : Bool) → nat_eq (length s.frames) 0 ≡ b
      → ending_of (ended e) ≡ (if b then Some (kind one) else None)
  below_by one some sound true is = lowest one some (none_left s.frames is)
  below_by one some sound false is = ap ending_of (stepping.still_waits src s e at one some sound (some_left s.frames is))

  pub below : (one : HeldAnswer) → s.top.answer ≡ Some one → one ≢ held.Range
      → (if nat_eq (length s.frames) 0 then Some (kind one) else None) ≡ ending_of (ended e)
  below one some sound = sym (below_by one some sound (nat_eq (length s.frames) 0) refl)
