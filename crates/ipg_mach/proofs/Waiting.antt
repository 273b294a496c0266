-- Calls that wait, and go on.
use Rattle.std.proofs.Common.{◌≡◌, refl, sym, subst, List, ◌∷◌, None, Result}
use Rattle.ipg_core.specs.Tree.{Tree}
use Rattle.ipg_core.specs.Run.{Stop}
use Rattle.ipg_mach_moves.specs.Moves.{OpenCall, Key}
use Rattle.ipg_mach_nodes.specs.Stored.{Source, before}
use Rattle.ipg_mach_node.specs.Laws.{BeforeBefore, GrowsFromBefore, ItemsStay, ResultsStay}
use Rattle.ipg_table.specs.Rows.{Rows}
use Rattle.ipg_mach.specs.Piled.{below}
use Rattle.ipg_mach.specs.declared.frame.Frame.{Frame}
use Rattle.ipg_mach.specs.Calls.{Shown, IsHolding, IsWorking, IsWaiting, Wait, items_in, size_of}
use Rattle.ipg_mach.proofs.Stores.{mark_below, before_below}

module _ (before_before : BeforeBefore) (grows : GrowsFromBefore) (items_stay : ItemsStay) (results_stay : ResultsStay)
    (t : Rows) (src : Source) (s : Shown) (lower : List OpenCall) (c : OpenCall) where
  resumed_by : (key : Key) (answer : Result Tree Stop) (frames : List Frame) → IsHolding t src s frames (c ∷ lower) key answer
      → (caller : Frame) (rest : List Frame) → IsWaiting t src (before s.store s.frame.mark) caller s.piles s.frame.from s.frame.to c
      → Wait t src (before (before s.store s.frame.mark) caller.mark) rest (below s.piles caller.base) caller.from caller.to lower
      → IsWorking t src (record s { frame = caller; answer = None }) rest lower c
  resumed_by key answer frames holds caller rest waits more =
      let grown = grows s.store s.frame.mark holds.mark in
      let was = waits.is_open in
      record {
        at_work = record {
          answer = refl;
          base = waits.base;
          mark = mark_below s.store s.frame.mark caller.mark waits.mark;
          is_open = record {
            call = was.call;
            alternative = was.alternative;
            left = was.left;
            count = was.count;
            attrs = was.attrs;
            done = results_stay src (before s.store s.frame.mark) s.store caller.from (size_of caller) _ _ grown was.done;
            have = items_stay src (before s.store s.frame.mark) s.store caller.from (size_of caller) _ (items_in c.entry) grown was.have;
          };
          wait = subst (λ st. Wait t src st rest (below s.piles caller.base) caller.from caller.to lower)
              (before_below before_before s.store s.frame.mark caller.mark waits.mark) more;
        };
        entry = waits.entry;
      }

  pub resumed : (key : Key) (answer : Result Tree Stop) (frames : List Frame) (holds : IsHolding t src s frames (c ∷ lower) key answer)
      → (caller : Frame) (rest : List Frame) → rest ≡ holds.wait.1 → caller ≡ holds.wait.0
      → IsWorking t src (record s { frame = caller; answer = None }) rest lower c
  resumed key answer frames holds caller rest e f =
      let wait = holds.wait in
      subst (λ frame. IsWorking t src (record s { frame = frame; answer = None }) rest lower c) (sym f)
      (subst (λ frames. IsWorking t src (record s { frame = wait.0; answer = None }) frames lower c) (sym e)
      (resumed_by key answer frames holds wait.0 wait.1 wait.3 wait.4))
