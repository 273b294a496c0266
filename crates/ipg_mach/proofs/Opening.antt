-- A call that is to be made is ready to begin its first alternative.
use Rattle.std.proofs.Common.{◌≡◌, ℕ, ◌≤◌, arith, sym, ap, ◌∙◌, subst, List, length, Bor}
use Rattle.std.proofs.lemmas.List.{take_all}
use Rattle.ipg_core.specs.Meaning as meaning
use Rattle.ipg_mach_moves.specs.Moves.{OpenCall}
use Rattle.ipg_mach_nodes.specs.declared.store.Mark.{Mark}
use Rattle.ipg_mach_nodes.specs.Stored.{Source, IsEnd}
use Rattle.ipg_table.specs.declared.row.Instr.{Instr}
use Rattle.ipg_table.specs.Rows.{Rows}
use Rattle.ipg_mach_term.specs.declared.entry.TermEntry.TheVariants.{Outside}
use Rattle.ipg_mach.specs.Piled.{Piled, AreTops, below, between}
use Rattle.ipg_mach.specs.declared.frame.Frame.{Frame}
use Rattle.ipg_mach.specs.declared.frame.NewCall.{NewCall}
use Rattle.ipg_mach.specs.declared.piles.Bases.{Bases}
use Rattle.ipg_mach.specs.Calls.{Shown, IsNew, IsReady, Wait}
use Rattle.ipg_mach.proofs.Remembering.{before_end, end_is_mark}

same_piles : (a b : Piled) → a.done ≡ b.done → a.own ≡ b.own → a.items ≡ b.items → a ≡ b
same_piles a b d o i =
    ap (λ x. let p : Piled = record { done = x; own = a.own; items = a.items } in p) d
    ∙ ap (λ x. let p : Piled = record { done = b.done; own = x; items = a.items } in p) o
    ∙ ap (λ x. let p : Piled = record { done = b.done; own = b.own; items = x } in p) i

below_tops : (p : Piled) (b : Bases) → AreTops p b → below p b ≡ p
below_tops p b tops =
    same_piles (below p b) p (take_all b.done p.done (let e = tops.done in omega arith)) (take_all b.own p.own (let e = tops.own in omega arith))
    (take_all b.items p.items (let e = tops.items in omega arith))

module _ (t : Rows) (src : Source) (s : Shown) (frames : List Frame) (lower : List OpenCall) (new : NewCall) (f : meaning.Frame) (from : ℕ)
    (is : IsNew t src s frames lower new f from) (left : Bor (List Instr)) (base : Bases) (mark : Mark) where
  abbrev pub fresh : Frame
  fresh = record {
    rule = new.rule;
    alt = 0;
    from = new.from;
    to = new.to;
    left = left;
    entry = Outside;
    outer = new.outer;
    base = base;
    mark = mark;
  }

  pub ready : AreTops s.piles base → IsEnd s.store mark → IsReady t src (record s { frame = fresh }) frames lower f from
  ready tops end =
      let under = sym (below_tops s.piles base tops) in
      record {
        answer = is.answer;
        base = record {
          done = let e = tops.done in omega arith;
          own = let e = tops.own in omega arith;
          items = let e = tops.items in omega arith;
        };
        mark = end_is_mark s.store mark end;
        call = record {
          syms = is.syms;
          tables = is.tables;
          rule = is.rule;
          alt = is.first;
          begins = is.begins;
          ordered = is.ordered;
          inside = is.inside;
          bytes = is.bytes;
          outer = subst (λ (p : Piled). f.outer ≡ between p.own new.outer.from new.outer.to) under is.outer;
          outer_inside = subst (λ (p : Piled). new.outer.to ≤ length p.own) under is.outer_inside;
        };
        wait = subst (λ st. Wait t src st frames (below s.piles base) new.from new.to lower) (sym (before_end s.store mark end))
            (subst (λ p. Wait t src s.store frames p new.from new.to lower) under is.wait);
      }
