-- What is remembered stands in what is kept for it.
use Rattle.std.proofs.Common.{◌≡◌, ℕ, arith, refl, sym, ap, subst, Option, Some, None, Result}
use Rattle.std.proofs.lemmas.List.{take_all}
use Rattle.ipg_core.specs.Tree.{Tree}
use Rattle.ipg_core.specs.Run.{Stop}
use Rattle.ipg_core.specs.Grammar.{Grammar, rule_at, holder_of}
use Rattle.ipg_memo.specs.declared.memo.Key.{Key}
use Rattle.ipg_memo.specs.declared.memo.Entry.{Entry}
use Rattle.ipg_memo.specs.declared.memo.Entry.TheVariants as entry
use Rattle.ipg_memo.specs.Keyed.{Entries}
use Rattle.ipg_mach_moves.specs.Moves.{Known, learn, learned}
use Rattle.ipg_mach_nodes.specs.declared.store.Mark.{Mark}
use Rattle.ipg_mach_nodes.specs.Stored.{Stored, Source, IsMark, IsEnd, before}
use Rattle.ipg_mach_nodes.specs.Laws.{TreesStay}
use Rattle.ipg_mach_node.specs.Laws.{GrowsFromBefore}
use Rattle.ipg_mach.specs.Known.{IsEntryOf, IsKnown, key_of}
use Rattle.ipg_mach.specs.Stage.{IsRaised, Remembers}
use Rattle.ipg_mach.proofs.Knowing as knowing
use Rattle.ipg_mach.proofs.Stores.{same_stored}

pub before_end : (st : Stored) (mark : Mark) → IsEnd st mark → before st mark ≡ st
before_end st mark end =
    same_stored (before st mark) st (take_all mark.nodes.place st.nodes (let e = end.nodes in omega arith))
    (take_all mark.kids.place st.kids (let e = end.kids in omega arith)) (take_all mark.attrs.place st.attrs (let e = end.attrs in omega arith))

pub end_is_mark : (st : Stored) (mark : Mark) → IsEnd st mark → IsMark st mark
end_is_mark st mark end = record {
  nodes = let e = end.nodes in omega arith;
  kids = let e = end.kids in omega arith;
  attrs = let e = end.attrs in omega arith;
}

module _ (stay : TreesStay) (grows : GrowsFromBefore) (src : Source) (st : Stored) (memo after : Option Entries) (known more : Option Known) (key : Key)
    (answer : Result Tree Stop) (floor : Mark) (mark : IsMark st floor) where
  pub remembers : (one : Entry) (raised : Mark) → IsRaised st floor one raised
      → ((at : Stored) → IsKnown src at memo known → IsEntryOf src at key (Some one) (Some answer) → IsKnown src at after more)
      → IsKnown src (before st floor) memo known → IsEntryOf src st key (Some one) (Some answer) → Remembers src st raised after more
  remembers entry.NoTree raised is learns knows here =
      subst (λ m. Remembers src st m after more) (sym is) (record { mark = mark; holds = learns (before st floor) knows here })
  remembers (entry.Node id) raised end learns knows here = record {
    mark = end_is_mark st raised end;
    holds = subst (λ at. IsKnown src at after more) (sym (before_end st raised end))
        (learns st (knowing.known_stays stay src (before st floor) st (grows st floor mark) memo known knows) here);
  }

-- the answer of a local rule isn't learned
pub not_learned : (g : Grammar) (known : Option Known) (key : Key) (answer : Result Tree Stop) (place : ℕ × ℕ)
    → holder_of (rule_at g key.rule) ≡ Some place → learn g known (key_of key) answer ≡ known
not_learned g None key answer place e = refl
not_learned g (Some known) key answer place e = ap (λ h. Some (learned h known (key_of key) answer)) e

-- without a memo nothing is
pub nothing_learned : (g : Grammar) (src : Source) (at : Stored) (memo : Option Entries) (known : Option Known) (key : Key) (answer : Result Tree Stop)
    → memo ≡ None → IsKnown src at memo known → IsKnown src at memo (learn g known (key_of key) answer)
nothing_learned g src at None None key answer e knows = tt
nothing_learned g src at None (Some known) key answer e knows = absurd knows
nothing_learned g src at (Some entries) known key answer e knows = absurd (cc)
