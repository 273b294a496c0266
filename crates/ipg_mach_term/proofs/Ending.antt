-- What was found ends by the end of its interval.
use Rattle.std.proofs.Common.{◌≡◌, ℕ, ◌+◌, ◌-◌, ◌≤◌, refl, sym, ap, ◌∙◌, subst, arith, List, [], ◌∷◌, Option, Some, None, Bool, true, false, cond}
use Rattle.std.proofs.Common.{if◌then◌else◌, length, ℤ, nat_le, nat_eq}
use Rattle.std.specs.Prelude.{IfOk, IfSome}
use Rattle.std.proofs.lemmas.Bool.{leb-true}
use Rattle.ipg_core.specs.declared.grammar.Sym.{Sym}
use Rattle.ipg_core.specs.declared.grammar.Sym.TheVariants.{Text, Prim, Rule}
use Rattle.ipg_core.specs.declared.grammar.Primitive.{Primitive}
use Rattle.ipg_core.specs.declared.grammar.Primitive.TheVariants.{Bytes}
use Rattle.ipg_core.specs.Tree as tree
use Rattle.ipg_core.specs.Tree.{Tree, Node}
use Rattle.ipg_core.specs.Touch.{width, untouched, first_of, ends_of, moved}
use Rattle.ipg_core.specs.Within.{TreeWithin, KidWithin}
use Rattle.ipg_core.specs.Environment.{Values}
use Rattle.ipg_core.specs.Run.{Stop, NoTree, Asked, Run, finish, stop, after, go_on, ◌>>=◌, some_of}
use Rattle.ipg_core.specs.Meaning.{Frame, Place, ask, token_on, number_on, symbol_on, item_end, item_on}
use Rattle.ipg_mach_moves.specs.Moves.{silent}
use Rattle.ipg_mach_nodes.specs.Stored.{Stored, Source}
use Rattle.ipg_mach_slot.specs.declared.found.Found.{Found}
use Rattle.ipg_mach_slot.specs.declared.found.Found.TheVariants as found
use Rattle.ipg_mach_slot.specs.Found.{IsFound}
use Rattle.ipg_mach_term.specs.declared.entry.TermEntry.{TermEntry}
use Rattle.ipg_mach_term.specs.declared.entry.TermEntry.TheVariants as entry
use Rattle.ipg_mach_term.specs.Advance.{SubEndsBy}
use Rattle.ipg_mach_term.specs.Parts.{FoundEndsBy}

-- a tree that a call gives

sub_ends : (from to r : ℕ) (one : Tree) → from ≤ to → to ≤ r → TreeWithin (to - from) one → (ends_of (tree.Sub from to one)).end ≤ r
unfolding moved
sub_ends from to r (Node rule size attrs start end kids) a b h = let c = h.1.ends in omega arith

pub sub_ends_by : SubEndsBy
sub_ends_by (entry.Turns at r) from to one a b h = sub_ends from to r one a b h
sub_ends_by entry.Outside from to one a b h = tt
sub_ends_by (entry.Items left item) from to one a b h = tt

-- where no repetition was entered there is no such end

pub outside_ends : (x : Found) (run : Run tree.Kid) → FoundEndsBy entry.Outside x run
outside_ends (found.Kid k) run = λ one e. tt
outside_ends (found.Call rule from to) run = tt
outside_ends found.NoTree run = tt
outside_ends found.Range run = tt

array_ends : (left : ℕ) (z : ℤ) (x : Found) (run : Run tree.Kid) → FoundEndsBy (entry.Items left z) x run
array_ends left z (found.Kid k) run = λ one e. tt
array_ends left z (found.Call rule from to) run = tt
array_ends left z found.NoTree run = tt
array_ends left z found.Range run = tt

pub inside_ends : (e : TermEntry) (left : ℕ) (z : ℤ) (x : Found) (run : Run tree.Kid) → e ≡ entry.Items left z → FoundEndsBy e x run
inside_ends e left z x run is = subst (λ y. FoundEndsBy y x run) (sym is) (array_ends left z x run)

-- where the interval of a child ends

abbrev to_of : tree.Kid → ℕ
to_of (tree.Sub from to sub) = to
to_of (tree.Token from to bytes) = to
to_of (tree.Number from to prim high low) = to
to_of (tree.Raw from to bytes) = to
to_of (tree.Array name items) = 0
to_of (tree.Many name items) = 0

chosen_end : (n w : ℕ) (b : Bool) → (if b then untouched n else record { start = 0; end = w }).end ≤ w
unfolding untouched
chosen_end n w true = omega arith
chosen_end n w false = omega arith

first_end : (n w : ℕ) → (first_of n w).end ≤ w
unfolding first_of
first_end n w = chosen_end n w (nat_eq w 0)

ends_by_to : (n : ℕ) (k : tree.Kid) → KidWithin n k → (ends_of k).end ≤ to_of k
unfolding moved
ends_by_to n (tree.Sub from to sub) h = sub_ends from to to sub h.0.valid (omega arith) h.1
ends_by_to n (tree.Token from to bytes) h = let a = h.0.valid in omega (arith, h.1, first_end (to - from) (length bytes))
ends_by_to n (tree.Number from to prim high low) h = let a = h.0.valid in omega (arith, h.1, first_end (to - from) (width prim))
ends_by_to n (tree.Raw from to bytes) h = omega arith
ends_by_to n (tree.Array name items) h = omega arith
ends_by_to n (tree.Many name items) h = omega arith

-- an item of a repetition

-- where the first of the calls ends its part
abbrev first_to : List Asked → ℕ
first_to [] = 0
first_to (ask ∷ asked) = ask.to

-- a run whose call, or whose child, ends by r
record StaysBy (r : ℕ) (run : Run tree.Kid) : Type 0 where
  asks : first_to run.asked ≤ r
  gives : IfOk run.answer (λ k. to_of k ≤ r)

by_finish : (r : ℕ) (k : tree.Kid) → to_of k ≤ r → StaysBy r (finish k)
unfolding finish
by_finish r k h = record { asks = omega arith; gives = h }

by_stop : (r : ℕ) (why : Stop) → StaysBy r (stop why)
unfolding stop
by_stop r why = record { asks = omega arith; gives = tt }

by_either : (r : ℕ) (b : Bool) (x y : Run tree.Kid) → StaysBy r x → StaysBy r y → StaysBy r (if b then x else y)
by_either r true x y p q = p
by_either r false x y p q = q

by_some : (r : ℕ) (opt : Option ℕ) (go : ℕ → Run tree.Kid) → IfSome opt (λ end. end ≤ r) → ((end : ℕ) → end ≤ r → StaysBy r (go end))
    → StaysBy r (some_of opt >>= go)
unfolding finish stop ◌>>=◌ after go_on
by_some r (Some end) go h by = by end h
by_some r None go h by = by_stop r NoTree

number_end : (r end : ℕ) (b : Bool) → nat_le end r ≡ b → IfSome (cond b (Some end) None) (λ end. end ≤ r)
number_end r end true e = leb-true _ _ e
number_end r end false e = tt

end_by : (p r : ℕ) (one : Sym) → IfSome (item_end p r one) (λ end. end ≤ r)
end_by p r (Text token) = omega arith
end_by p r (Rule callee) = omega arith
end_by p r (Prim Bytes) = omega arith
end_by p r (Prim prim) = number_end r (p + width prim) _ refl

module _ (f : Frame) (place : Place) (own : Values) (p r : ℕ) where
  number_by : (end : ℕ) (bytes : List ℕ) (prim : Primitive) → end ≤ r → StaysBy r (number_on p end bytes prim)
  unfolding number_on
  number_by end bytes prim h = by_either r _ _ _ (by_stop r NoTree) (by_finish r _ h)

  symbol_by : (one : Sym) (end : ℕ) → end ≤ r → StaysBy r (symbol_on silent f place own p end one)
  unfolding token_on ask finish stop ◌>>=◌ after go_on
  symbol_by (Text token) end h = by_either r _ _ _ (by_finish r (tree.Token p end token) h) (by_stop r NoTree)
  symbol_by (Prim Bytes) end h = by_finish r (tree.Raw p end _) h
  symbol_by (Prim prim) end h = number_by end _ prim h
  symbol_by (Rule callee) end h = record { asks = h; gives = tt }

  item_by : (one : Sym) → StaysBy r (item_on silent f place own p r one)
  unfolding item_on
  item_by one = by_some r (item_end p r one) _ (end_by p r one) (symbol_by one)

  -- what was found for an item
  pub turn_ends : (one : Sym) (src : Source) (st : Stored) (at : ℕ) (x : Found) → IsFound src st at f own x (item_on silent f place own p r one)
      → FoundEndsBy (entry.Turns p r) x (item_on silent f place own p r one)
  unfolding finish
  turn_ends one src st at (found.Kid k) h =
      λ item e. let within = subst (λ (x : Run tree.Kid). IfOk x.answer (KidWithin (length f.bytes))) (sym h.is ∙ e) h.within in
      let by = subst (StaysBy r) e (item_by one) in
      omega (arith, ends_by_to (length f.bytes) item within, by.gives)
  turn_ends one src st at (found.Call rule from to) h = let a = (item_by one).asks in let b = ap first_to h.is_asked in let c = h.is_to in omega arith
  turn_ends one src st at found.NoTree h = tt
  turn_ends one src st at found.Range h = tt
