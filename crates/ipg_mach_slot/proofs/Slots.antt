-- A slot comes to what its parts do, once they are known.
use Rattle.std.proofs.Common.{◌≡◌, ℕ, ℤ, sym, ap, ◌∙◌, subst, Option, Some, None, length}
use Rattle.ipg_num.specs.declared.op.Answer.TheVariants.{Val, Fail, Range}
use Rattle.ipg_core.specs.declared.grammar.CoreSlot.{CoreSlot}
use Rattle.ipg_core.specs.declared.grammar.Sym.{Sym}
use Rattle.ipg_core.specs.Environment.{Values}
use Rattle.ipg_core.specs.Part.{interval}
use Rattle.ipg_core.specs.Tree as tree
use Rattle.ipg_core.specs.Run.{NoTree, OutOfRange, Run, finish, stop, after, go_on, ◌>>=◌, value_of, some_of}
use Rattle.ipg_core.specs.Meaning.{Frame, Place, State, value_in, symbol_on, slot_on, item_end, item_on}
use Rattle.ipg_mach_nodes.specs.Stored.{Stored, Source}
use Rattle.ipg_mach_slot.specs.declared.found.Found.{Found}
use Rattle.ipg_mach_slot.specs.declared.found.Found.TheVariants as found
use Rattle.ipg_mach_slot.specs.Found.{IsFound, slot_between, slot_from}
use Rattle.ipg_mach_moves.specs.Moves.{silent}

-- a run that begins with a value, or with none

pub bind_value : {A : Type 0} (run : Run ℤ) (z : ℤ) (go : ℤ → Run A) → run ≡ value_of (Val z) → (run >>= go) ≡ go z
unfolding finish ◌>>=◌ after go_on
bind_value run z go e = ap (λ r. r >>= go) e

pub bind_fail : {A : Type 0} (run : Run ℤ) (go : ℤ → Run A) → run ≡ value_of Fail → (run >>= go) ≡ stop NoTree
unfolding stop ◌>>=◌ after go_on
bind_fail run go e = ap (λ r. r >>= go) e

pub bind_range : {A : Type 0} (run : Run ℤ) (go : ℤ → Run A) → run ≡ value_of Range → (run >>= go) ≡ stop OutOfRange
unfolding stop ◌>>=◌ after go_on
bind_range run go e = ap (λ r. r >>= go) e

pub bind_some : {A B : Type 0} (opt : Option A) (a : A) (go : A → Run B) → opt ≡ Some a → (some_of opt >>= go) ≡ go a
unfolding finish ◌>>=◌ after go_on
bind_some opt a go e = ap (λ o. some_of o >>= go) e

pub bind_none : {A B : Type 0} (opt : Option A) (go : A → Run B) → opt ≡ None → (some_of opt >>= go) ≡ stop NoTree
unfolding stop ◌>>=◌ after go_on
bind_none opt go e = ap (λ o. some_of o >>= go) e

-- numbers as the code hands them on
pub same_ends : (n size : ℕ) (l low r high : ℤ) (found : Option (ℕ × ℕ)) → n ≡ size → low ≡ l → high ≡ r → found ≡ interval size low high
    → interval n l r ≡ found
same_ends n size l low r high found a b d e = ap (λ m. interval m l r) a ∙ ap (λ x. interval size x r) (sym b) ∙ ap (interval size low) (sym d) ∙ sym e

module _ (src : Source) (st : Stored) (at : ℕ) (f : Frame) (place : Place) (state : State) where
  abbrev Is : Found → Run tree.Kid → Type 0
  Is x run = IsFound src st at f state.own x run

  pub same : (x : Found) (run other : Run tree.Kid) → run ≡ other → Is x other → Is x run
  same x run other e h = subst (Is x) (sym e) h

  pub between : (slot : CoreSlot) (from to : ℤ) (ends : ℕ × ℕ) (x : Found) → interval (length f.bytes) from to ≡ Some ends
      → Is x (symbol_on silent f place state.own ends.0 ends.1 slot.sym) → Is x (slot_between f place state slot from to)
  between slot from to ends x e h = same x _ _ (bind_some (interval (length f.bytes) from to) ends _ e) h

  pub between_same : (slot : CoreSlot) (from low to high : ℤ) (x : Found) → low ≡ from → high ≡ to
      → Is x (slot_between f place state slot low high) → Is x (slot_between f place state slot from to)
  between_same slot from low to high x a b h =
      subst (λ z. Is x (slot_between f place state slot z to)) a (subst (λ z. Is x (slot_between f place state slot low z)) b h)

  pub not_between : (slot : CoreSlot) (from to : ℤ) → interval (length f.bytes) from to ≡ None → Is found.NoTree (slot_between f place state slot from to)
  not_between slot from to e = bind_none (interval (length f.bytes) from to) _ e

  module _ (item : Option ℤ) (slot : CoreSlot) where
    pub from_value : (from to : ℤ) (x : Found) → value_in f state item slot.to ≡ value_of (Val to) → Is x (slot_between f place state slot from to)
        → Is x (slot_from f place state item slot from)
    from_value from to x e h = same x _ _ (bind_value _ to _ e) h

    pub from_fail : (from : ℤ) → value_in f state item slot.to ≡ value_of Fail → Is found.NoTree (slot_from f place state item slot from)
    from_fail from e = bind_fail _ _ e

    pub from_range : (from : ℤ) → value_in f state item slot.to ≡ value_of Range → Is found.Range (slot_from f place state item slot from)
    from_range from e = bind_range _ _ e

    pub on_value : (from : ℤ) (x : Found) → value_in f state item slot.from ≡ value_of (Val from) → Is x (slot_from f place state item slot from)
        → Is x (slot_on silent f place state item slot)
    unfolding slot_on
    on_value from x e h = same x _ _ (bind_value _ from _ e) h

    pub on_fail : value_in f state item slot.from ≡ value_of Fail → Is found.NoTree (slot_on silent f place state item slot)
    unfolding slot_on
    on_fail e = bind_fail _ _ e

    pub on_range : value_in f state item slot.from ≡ value_of Range → Is found.Range (slot_on silent f place state item slot)
    unfolding slot_on
    on_range e = bind_range _ _ e

-- an item of a repetition
module _ (src : Source) (st : Stored) (at : ℕ) (f : Frame) (place : Place) (own : Values) (from to : ℕ) (one : Sym) where
  pub turn_to : (end : ℕ) (x : Found) → item_end from to one ≡ Some end → IsFound src st at f own x (symbol_on silent f place own from end one)
      → IsFound src st at f own x (item_on silent f place own from to one)
  unfolding item_on
  turn_to end x e h = subst (IsFound src st at f own x) (sym (bind_some (item_end from to one) end _ e)) h

  pub no_turn : item_end from to one ≡ None → IsFound src st at f own found.NoTree (item_on silent f place own from to one)
  unfolding item_on
  no_turn e = bind_none (item_end from to one) _ e
