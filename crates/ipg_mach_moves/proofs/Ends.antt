-- An item of a repetition that touches a byte ends further on, within the interval.
use Rattle.std.proofs.Common.{◌≡◌, ℕ, ◌+◌, ◌-◌, ◌<◌, ◌≤◌, refl, ap, arith, subst, List, Option, Some, None, Result, Ok, Err, Bool, true, false}
use Rattle.std.proofs.Common.{if◌then◌else◌, length, take, drop}
use Rattle.std.specs.Prelude.{nat_eq, nat_le, bytes_eq}
use Rattle.std.proofs.lemmas.List.{length-take}
use Rattle.std.proofs.lemmas.Bool.{leb-true, ltb-true, ltb-false}
use Rattle.std.proofs.lemmas.Slice.Eq.{bytes_eq-Decides}
use Rattle.ipg_core.specs.declared.grammar.Primitive.{Primitive}
use Rattle.ipg_core.specs.declared.grammar.Primitive.TheVariants.{Bytes}
use Rattle.ipg_core.specs.declared.grammar.Sym.{Sym}
use Rattle.ipg_core.specs.declared.grammar.Sym.TheVariants.{Text, Prim, Rule}
use Rattle.ipg_core.specs.Grammar.{Grammar, rule_at, holder_of}
use Rattle.ipg_core.specs.Part.{part}
use Rattle.ipg_core.specs.Tree.{Tree, Node, Kid, Sub, Token, Number}
use Rattle.ipg_core.specs.Touch.{width, touches, untouched, moved, first_of, ends_of}
use Rattle.ipg_core.specs.Environment.{Values}
use Rattle.ipg_core.specs.Run.{Stop, Run, finish, stop, after, go_on, ◌>>=◌, some_of}
use Rattle.ipg_core.specs.Meaning.{Call, Frame, Place, outer_for, ask, token_on, number_on, primitive_on, symbol_on, item_end, item_on, den}
use Rattle.ipg_core.specs.Within.{TreeWithin}
use Rattle.ipg_core.specs.Laws.{LiesWithin}

-- a result stands on an interval
pub record On (from to : ℕ) (item : Kid) : Type 0 where
  pub starts : from ≤ (ends_of item).start
  pub ends : (ends_of item).end ≤ to

record AllOn (from to : ℕ) (answer : Result Kid Stop) : Type 0 where
  each : (item : Kid) → answer ≡ Ok item → On from to item

none_on : {from to : ℕ} (why : Stop) → AllOn from to (Err why)
none_on why = record { each = λ item e. absurd (cc) }

one_on : {from to : ℕ} (item : Kid) → On from to item → AllOn from to (Ok item)
one_on {from} {to} item on = record { each = λ other e. let same : item ≡ other = cc in subst (On from to) same on }

first_ends : (n w : ℕ) (b : Bool) → nat_eq w 0 ≡ b → (first_of n w).end ≤ w
unfolding first_of untouched
first_ends n w true e = rw e (omega arith)
first_ends n w false e = rw e (omega arith)

part_short : (s : List ℕ) (from to : ℕ) → length (part s from to) ≤ to - from
part_short s from to = omega (arith, length-take (to - from) (drop from s))

fits : (bytes token : List ℕ) → bytes_eq token (take (length token) bytes) ≡ true → length token ≤ length bytes
fits bytes token e =
    let same : length token ≡ length (take (length token) bytes) = ap length ((bytes_eq-Decides token (take (length token) bytes)).0 e) in
    omega (arith, length-take (length token) bytes)

token_stands : (from to : ℕ) (token : List ℕ) → from ≤ to → length token ≤ to - from → On from to (Token from to token)
unfolding moved
token_stands from to token h k = let e = first_ends (to - from) (length token) _ refl in record { starts = omega arith; ends = omega arith }

number_stands : (from to : ℕ) (prim : Primitive) (high low : ℕ) → from ≤ to → width prim ≤ to - from → On from to (Number from to prim high low)
unfolding moved
number_stands from to prim high low h k = let e = first_ends (to - from) (width prim) _ refl in record { starts = omega arith; ends = omega arith }

sub_stands : (from to n : ℕ) (tree : Tree) → from ≤ to → n ≤ to - from → TreeWithin n tree → On from to (Sub from to tree)
unfolding moved
sub_stands from to n (Node rule size attrs start end kids) h k within = let e = within.1.ends in record { starts = omega arith; ends = omega arith }

chosen_on : (from to : ℕ) (b : Bool) (x y : Run Kid) → (b ≡ true → AllOn from to x.answer) → (b ≡ false → AllOn from to y.answer)
    → AllOn from to (if b then x else y).answer
chosen_on from to true x y h k = h refl
chosen_on from to false x y h k = k refl

token_answers : (from to : ℕ) (bytes token : List ℕ) → from ≤ to → length bytes ≤ to - from → AllOn from to (token_on from to bytes token).answer
unfolding token_on finish stop
token_answers from to bytes token h k =
    chosen_on from to _ _ _
    (λ e. one_on _ (token_stands from to token h (let w = fits bytes token e in omega arith)))
    (λ e. none_on _)

number_answers : (from to : ℕ) (bytes : List ℕ) (prim : Primitive) → from ≤ to → length bytes ≤ to - from → AllOn from to (number_on from to bytes prim).answer
unfolding number_on finish stop
number_answers from to bytes prim h k =
    chosen_on from to _ _ _ (λ e. none_on _)
    (λ e. one_on _ (number_stands from to prim _ _ h (let w : width prim ≤ length bytes = ltb-false _ _ e in omega arith)))

primitive_answers : (from to : ℕ) (bytes : List ℕ) (prim : Primitive) → from ≤ to → length bytes ≤ to - from
    → AllOn from to (primitive_on from to bytes prim).answer
unfolding finish
primitive_answers from to bytes Bytes h k = one_on _ (record { starts = omega arith; ends = omega arith })
primitive_answers from to bytes prim h k = number_answers from to bytes prim h k

-- a call's trees lie within their parts
pub record LieWithin (call : Call) : Type 0 where
  pub within : (r : ℕ) (s : List ℕ) (outer : Values) (tree : Tree) → call r s outer ≡ Ok tree → TreeWithin (length s) tree

module _ (call : Call) (lies : LieWithin call) (f : Frame) where
  sub_answers : (from to n : ℕ) (answer : Result Tree Stop) → from ≤ to → n ≤ to - from → ((tree : Tree) → answer ≡ Ok tree → TreeWithin n tree)
      → AllOn from to (go_on answer (λ tree. finish (Sub from to tree))).answer
  unfolding go_on finish stop
  sub_answers from to n (Ok tree) h k within = one_on _ (sub_stands from to n tree h k (within tree refl))
  sub_answers from to n (Err why) h k within = none_on why

  symbol_answers : (p : Place) (own : Values) (from to : ℕ) (one : Sym) → from ≤ to → AllOn from to (symbol_on call f p own from to one).answer
  unfolding ask ◌>>=◌ after
  symbol_answers p own from to (Text token) h = token_answers from to _ token h (part_short f.bytes from to)
  symbol_answers p own from to (Prim prim) h = primitive_answers from to _ prim h (part_short f.bytes from to)
  symbol_answers p own from to (Rule callee) h =
      sub_answers from to _ _ h (part_short f.bytes from to)
      (lies.within callee (part f.bytes from to) (outer_for f own (holder_of (rule_at f.grammar callee))))

  -- an item's interval lies in that of its repetition
  record Lies (from to : ℕ) (end : Option ℕ) : Type 0 where
    each : (place : ℕ) → end ≡ Some place → (from ≤ place) × (place ≤ to)

  lies_some : (from to end : ℕ) → from ≤ end → end ≤ to → Lies from to (Some end)
  lies_some from to end h k = record { each = λ place e. let same : end ≡ place = cc in (omega arith, omega arith) }

  number_end : (from to w : ℕ) (b : Bool) → nat_le (from + w) to ≡ b → Lies from to (if b then Some (from + w) else None)
  number_end from to w true e = lies_some from to (from + w) (omega arith) (leb-true _ _ e)
  number_end from to w false e = record { each = λ place e. absurd (cc) }

  end_lies : (from to : ℕ) (one : Sym) → from ≤ to → Lies from to (item_end from to one)
  end_lies from to (Text token) h = lies_some from to to h (omega arith)
  end_lies from to (Rule callee) h = lies_some from to to h (omega arith)
  end_lies from to (Prim Bytes) h = lies_some from to to h (omega arith)
  end_lies from to (Prim prim) h = number_end from to (width prim) _ refl

  wider : (from end to : ℕ) (answer : Result Kid Stop) → end ≤ to → AllOn from end answer → AllOn from to answer
  wider from end to answer h on = record { each = λ item e. let one = on.each item e in record { starts = one.starts; ends = let x = one.ends in omega arith } }

  ended_answers : (p : Place) (own : Values) (from to : ℕ) (one : Sym) (end : Option ℕ) → Lies from to end
      → AllOn from to (some_of end >>= λ place. symbol_on call f p own from place one).answer
  unfolding ◌>>=◌ after go_on finish stop
  ended_answers p own from to one None lie = none_on _
  ended_answers p own from to one (Some place) lie = let at = lie.each place refl in wider from place to _ at.1 (symbol_answers p own from place one at.0)

  item_answers : (p : Place) (own : Values) (from to : ℕ) (one : Sym) → from ≤ to → AllOn from to (item_on call f p own from to one).answer
  unfolding item_on
  item_answers p own from to one h = ended_answers p own from to one (item_end from to one) (end_lies from to one h)

  pub item_moves_on : (p : Place) (own : Values) (from to : ℕ) (one : Sym) (item : Kid) → from ≤ to → (item_on call f p own from to one).answer ≡ Ok item
      → touches (ends_of item) ≡ true → (from < (ends_of item).end) × ((ends_of item).end ≤ to)
  item_moves_on p own from to one item h e t =
      let on = (item_answers p own from to one h).each item e in
      let a = on.starts in let b : (ends_of item).start < (ends_of item).end = ltb-true _ _ t in (omega arith, on.ends)

pub den_lies : LiesWithin → (g : Grammar) (h : ℕ) → LieWithin (den g h)
den_lies lies g h = record { within = λ r s outer tree e. lies g h r s outer tree e }
