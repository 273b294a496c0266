-- What a slot, a switch, an array or a repetition came to: results of their symbols on valid intervals.
use Rattle.std.proofs.Common.{◌≡◌, ℕ, zero, suc, ◌+◌, ◌-◌, ◌≤◌, refl, sym, ap, ◌∙◌, subst, arith, List, [], ◌∷◌, ◌++◌, length, take, drop, Option}
use Rattle.std.proofs.Common.{Some, None, Result, Ok, Err, Bool, true, false, if◌then◌else◌, ℤ, pos, ◌+ℤ◌}
use Rattle.std.specs.Prelude.{nat_eq, nat_lt, nat_le, bytes_eq}
use Rattle.std.specs.List.{AllByRecursion}
use Rattle.std.proofs.lemmas.List.{length-take, length-drop, length-append}
use Rattle.std.proofs.lemmas.Bool.{ltb-true, ltb-false, leb-true}
use Rattle.std.proofs.lemmas.Bool.Decides.{nat_tests}
use Rattle.std.proofs.lemmas.Slice.Eq.{bytes_eq-Decides}
use Rattle.ipg_num.specs.declared.op.Answer.TheVariants.{Val}
use Rattle.ipg_core.specs.declared.grammar.Primitive.{Primitive}
use Rattle.ipg_core.specs.declared.grammar.Primitive.TheVariants.{U8, U16LE, U16BE, U32LE, U32BE, U64LE, U64BE, Bytes}
use Rattle.ipg_core.specs.declared.grammar.Sym.{Sym}
use Rattle.ipg_core.specs.declared.grammar.Sym.TheVariants.{Text, Prim, Rule}
use Rattle.ipg_core.specs.declared.grammar.CoreExpr.{CoreExpr}
use Rattle.ipg_core.specs.declared.grammar.CoreSlot.{CoreSlot}
use Rattle.ipg_core.specs.Grammar.{Grammar, rule_at, holder_of}
use Rattle.ipg_core.specs.Part.{part, interval}
use Rattle.ipg_core.specs.Tree.{Tree, Node, Kid, Sub, Token, Number, Raw, Array, Many as Repetition, attrs_of, kids_of}
use Rattle.ipg_core.specs.Touch.{width, touches, untouched, moved, first_of, tree_ends, ends_of}
use Rattle.ipg_core.specs.MustTouch.{AreLimit, is_marked}
use Rattle.ipg_core.specs.Within.{TreeWithin, AreEnds}
use Rattle.ipg_core.specs.Environment.{Environment, Values}
use Rattle.ipg_core.specs.Eval.{eval, is_zero}
use Rattle.ipg_core.specs.Run.{Stop, NoTree, OutOfRange, Deep, Run, finish, stop, after, some_of}
use Rattle.ipg_core.specs.Meaning.{Call, Frame, State, Place, environment, value_in, outer_for, halves, ask, token_on, number_on, primitive_on}
use Rattle.ipg_core.specs.Meaning.{symbol_on, slot_on, items_on, with_kid, item_end, item_on, kept, many_on, turns, repetition_on, pick_on, den}
use Rattle.ipg_core.specs.Good.{Good}
use Rattle.ipg_core.specs.Laws.{LiesWithin, TouchingTouches}
use Rattle.ipg_facts.specs.Reading.{least_width}
use Rattle.ipg_facts_laws.specs.Known.{AreRanged, IsTreeOf, IsResult}
use Rattle.ipg_facts_laws.specs.Ran.{IsValid, Chosen}
use Rattle.ipg_facts_laws.proofs.Runs.{some_is, finish_is, stop_is, in_state, went, ends_are}
use Rattle.ipg_facts_laws.proofs.Trees.{AreNamed, den_node}
use Rattle.ipg_facts_laws.proofs.Halves.{AreBytes, bytes_of_drop, bytes_of_take, halves_ranged}

-- ---- what calls answer

-- each tree is of its rule on its part, and its attributes have numbers below that of the names
pub record AreGood (marks : List Bool) (names : ℕ) (call : Call) : Type 0 where
  pub tree : (r : ℕ) (s : List ℕ) (outer : Values) (tree : Tree) → call r s outer ≡ Ok tree → IsTreeOf marks r (length s) tree
  pub named : (r : ℕ) (s : List ℕ) (outer : Values) (tree : Tree) → call r s outer ≡ Ok tree → AreNamed names (attrs_of tree)

ends_within : (n : ℕ) (tree : Tree) → TreeWithin n tree → AreEnds n (tree_ends tree).start (tree_ends tree).end
ends_within n (Node rule size attrs start end kids) h = h.1

pub are_good : LiesWithin → TouchingTouches → (g : Grammar) → Good g → (marks : List Bool) → AreLimit g marks → (h : ℕ)
    → AreGood marks (length g.names) (den g h)
are_good lies must g good marks limit h = record {
  tree = λ r s outer tree e.
      let node = den_node g good h r s outer tree e in
      let within = ends_within (length s) tree (lies g h r s outer tree e) in
      record {
        rule = node.rule;
        starts = within.starts;
        ends = within.ends;
        must = λ m. must g h r s outer tree good ((limit.exact r).0 m) e;
        none = node.none;
      };
  named = λ r s outer tree e. (den_node g good h r s outer tree e).named;
}

-- ---- results of symbols

abbrev pub KidNamed : ℕ → Kid → Type 0
KidNamed names (Sub from to tree) = AreNamed names (attrs_of tree)
KidNamed names (Token from to bytes) = Unit {0}
KidNamed names (Number from to prim high low) = Unit {0}
KidNamed names (Raw from to bytes) = Unit {0}
KidNamed names (Array one items) = Unit {0}
KidNamed names (Repetition one items) = Unit {0}

pub record IsKid (marks : List Bool) (names : ℕ) (one : Sym) (l r : ℕ) (k : Kid) : Type 0 where
  pub result : IsResult marks one l r k
  pub named : KidNamed names k

-- a slot's result
pub record SlotCame (marks : List Bool) (names : ℕ) (env : Environment) (slot : CoreSlot) (k : Kid) : Type 0 where
  pub valid : IsValid env slot.from slot.to
  pub kid : IsKid marks names slot.sym valid.l valid.r k

-- a switch's
abbrev pub PickCame : List Bool → ℕ → Environment → List (CoreExpr × CoreSlot) → CoreSlot → Kid → Type 0
PickCame marks names env [] other k = SlotCame marks names env other k
PickCame marks names env (c ∷ cases) other k =
    (x : ℤ) × (eval c.0 env ≡ Val x) × Chosen (is_zero x) (SlotCame marks names env c.1 k) (PickCame marks names env cases other k)

-- an item in a part of that length
pub record IsItem (marks : List Bool) (names eoi : ℕ) (one : Sym) (k : Kid) : Type 0 where
  pub l : ℕ
  pub r : ℕ
  pub order : l ≤ r
  pub inside : r ≤ eoi
  pub kid : IsKid marks names one l r k

chosen_finish : (b : Bool) (a k : Kid) → (if b then finish a else stop NoTree).answer ≡ Ok k → (b ≡ true) × (a ≡ k)
chosen_finish true a k e = (refl, finish_is a k e)
chosen_finish false a k e = stop_is NoTree k e

chosen_stop : (b : Bool) (a k : Kid) → (if b then stop NoTree else finish a).answer ≡ Ok k → (b ≡ false) × (a ≡ k)
chosen_stop true a k e = stop_is NoTree k e
chosen_stop false a k e = (refl, finish_is a k e)

part_length : (s : List ℕ) (from to : ℕ) → from ≤ to → to ≤ length s → length (part s from to) ≡ to - from
part_length s from to h k = omega (arith, length-take (to - from) (drop from s), length-drop from s)

fits_token : (bytes token : List ℕ) → bytes_eq token (take (length token) bytes) ≡ true → length token ≤ length bytes
fits_token bytes token e =
    let same : length token ≡ length (take (length token) bytes) = ap length ((bytes_eq-Decides token (take (length token) bytes)).0 e) in
    omega (arith, length-take (length token) bytes)

number_result : (marks : List Bool) (prim : Primitive) (l r high low : ℕ) → (prim ≡ Bytes → ⊥) → width prim ≤ r - l → AreRanged prim high low
    → IsResult marks (Prim prim) l r (Number l r prim high low)
number_result marks U8 l r high low other h k = (refl, refl, refl, h, k)
number_result marks U16LE l r high low other h k = (refl, refl, refl, h, k)
number_result marks U16BE l r high low other h k = (refl, refl, refl, h, k)
number_result marks U32LE l r high low other h k = (refl, refl, refl, h, k)
number_result marks U32BE l r high low other h k = (refl, refl, refl, h, k)
number_result marks U64LE l r high low other h k = (refl, refl, refl, h, k)
number_result marks U64BE l r high low other h k = (refl, refl, refl, h, k)
number_result marks Bytes l r high low other h k = absurd (other refl)

-- ---- the ends of a result on [l, r]

first_ends : (w l r : ℕ) (b : Bool) → nat_eq w 0 ≡ b → l ≤ r → w ≤ r - l
    → ((moved l (first_of (r - l) w)).start + w ≤ r) × (w ≤ (moved l (first_of (r - l) w)).end) × ((moved l (first_of (r - l) w)).end ≤ r)
unfolding moved first_of untouched
first_ends w l r true e h k = let none : w ≡ 0 = grind (arith, nat_tests) in rw e (omega arith, omega arith, omega arith)
first_ends w l r false e h k = rw e (omega arith, omega arith, omega arith)

abbrev pub HasEnds : ℕ → ℕ → Kid → Type 0
HasEnds least r k = ((ends_of k).start + least ≤ r) × (least ≤ (ends_of k).end) × ((ends_of k).end ≤ r)

number_ends : (prim p : Primitive) (l r from to high low : ℕ) → l ≤ r → (from ≡ l) × (to ≡ r) × (p ≡ prim) × (width prim ≤ r - l) × AreRanged prim high low
    → HasEnds (width prim) r (Number from to p high low)
number_ends prim p l r from to high low h e =
    subst (λ q. HasEnds (width prim) r (Number from to q high low)) (sym e.2)
    (subst (λ n. HasEnds (width prim) r (Number n to prim high low)) (sym e.0)
    (subst (λ n. HasEnds (width prim) r (Number l n prim high low)) (sym e.1) (first_ends (width prim) l r _ refl h e.3)))

rule_ends : (marks : List Bool) (callee l r from to : ℕ) (tree : Tree) (b : Bool) → is_marked marks callee ≡ b → l ≤ r → from ≡ l
    → IsTreeOf marks callee (r - l) tree
    → HasEnds (if b then 1 else 0) r (Sub from to tree)
unfolding moved
rule_ends marks callee l r from to tree true m h e is =
    let a = is.ends in let t = ltb-true _ _ (is.must m) in (omega arith, omega arith, omega arith)
rule_ends marks callee l r from to tree false m h e is = let a = is.ends in let s = is.starts in (omega arith, omega arith, omega arith)

pub result_ends : (marks : List Bool) (one : Sym) (l r : ℕ) (k : Kid) → l ≤ r → IsResult marks one l r k → HasEnds (least_width marks (Some one)) r k
result_ends marks (Text bytes) l r (Token from to token) h e =
    subst (λ n. HasEnds 0 r (Token n to token)) (sym e.0)
    (subst (λ n. HasEnds 0 r (Token l n token)) (sym e.1)
    (subst (λ bs. HasEnds 0 r (Token l r bs)) (sym e.2)
    (let n = first_ends (length bytes) l r _ refl h e.3 in let a = n.0 in let b = n.1 in let c = n.2 in (omega arith, omega arith, n.2))))
result_ends marks (Prim U8) l r (Number from to p high low) h e = number_ends U8 p l r from to high low h e
result_ends marks (Prim U16LE) l r (Number from to p high low) h e = number_ends U16LE p l r from to high low h e
result_ends marks (Prim U16BE) l r (Number from to p high low) h e = number_ends U16BE p l r from to high low h e
result_ends marks (Prim U32LE) l r (Number from to p high low) h e = number_ends U32LE p l r from to high low h e
result_ends marks (Prim U32BE) l r (Number from to p high low) h e = number_ends U32BE p l r from to high low h e
result_ends marks (Prim U64LE) l r (Number from to p high low) h e = number_ends U64LE p l r from to high low h e
result_ends marks (Prim U64BE) l r (Number from to p high low) h e = number_ends U64BE p l r from to high low h e
result_ends marks (Prim Bytes) l r (Raw from to bytes) h e = let a : from ≡ l = e.0 in let b : to ≡ r = e.1 in (omega arith, omega arith, omega arith)
result_ends marks (Rule callee) l r (Sub from to tree) h e = rule_ends marks callee l r from to tree _ refl h e.0 e.2
result_ends marks _ l r _ h e = absurd e

-- an item's interval lies in that of its repetition
number_end : (from end to w : ℕ) (b : Bool) → nat_le (from + w) to ≡ b → from ≤ to → (if b then Some (from + w) else None) ≡ Some end
    → (from ≤ end) × (end ≤ to)
number_end from end to w true t h e = let same : from + w ≡ end = cc in let le : from + w ≤ to = leb-true _ _ t in (omega arith, omega arith)
number_end from end to w false t h e = absurd (cc)

whole_end : (from end to : ℕ) → from ≤ to → (let A = Option ℕ in let a : A = Some to in let b : A = Some end in a ≡ b) → (from ≤ end) × (end ≤ to)
whole_end from end to h e = let same : to ≡ end = cc in (omega arith, omega arith)

ends_inside : (from end to : ℕ) (one : Sym) → from ≤ to → item_end from to one ≡ Some end → (from ≤ end) × (end ≤ to)
ends_inside from end to (Text token) h e = whole_end from end to h e
ends_inside from end to (Rule callee) h e = whole_end from end to h e
ends_inside from end to (Prim Bytes) h e = whole_end from end to h e
ends_inside from end to (Prim prim) h e = number_end from end to (width prim) _ refl h e

module _ (marks : List Bool) (names : ℕ) (call : Call) (good : AreGood marks names call) (f : Frame) (input : AreBytes f.bytes) where
  abbrev size : ℕ
  size = length f.bytes

  part_bytes : (from to : ℕ) → AreBytes (part f.bytes from to)
  part_bytes from to = bytes_of_take (to - from) (drop from f.bytes) (bytes_of_drop from f.bytes input)

  module _ (from to : ℕ) (valid : from ≤ to) (inside : to ≤ size) (k : Kid) where
    token_came : (token : List ℕ) → (token_on from to (part f.bytes from to) token).answer ≡ Ok k → IsKid marks names (Text token) from to k
    unfolding token_on
    token_came token e =
        let c = chosen_finish (bytes_eq token (take (length token) (part f.bytes from to))) (Token from to token) k e in
        let n : length token ≤ to - from = let a = fits_token (part f.bytes from to) token c.0 in let b = part_length f.bytes from to valid inside in
        omega arith in
        subst (IsKid marks names (Text token) from to) c.1 (record { result = (refl, refl, refl, n); named = tt })

    number_came : (prim : Primitive) → (prim ≡ Bytes → ⊥) → (number_on from to (part f.bytes from to) prim).answer ≡ Ok k
        → IsKid marks names (Prim prim) from to k
    unfolding number_on
    number_came prim other e =
        let bytes : List ℕ = part f.bytes from to in
        let h : ℕ × ℕ = halves prim bytes in
        let c = chosen_stop (nat_lt (length bytes) (width prim)) (Number from to prim h.0 h.1) k e in
        let n : width prim ≤ to - from = let a = ltb-false _ _ c.0 in let b = part_length f.bytes from to valid inside in omega arith in
        subst (IsKid marks names (Prim prim) from to) c.1
        (record { result = number_result marks prim from to h.0 h.1 other n (halves_ranged prim bytes (part_bytes from to)); named = tt })

    primitive_came : (prim : Primitive) → (primitive_on from to (part f.bytes from to) prim).answer ≡ Ok k → IsKid marks names (Prim prim) from to k
    primitive_came U8 e = number_came U8 (λ q. cc) e
    primitive_came U16LE e = number_came U16LE (λ q. cc) e
    primitive_came U16BE e = number_came U16BE (λ q. cc) e
    primitive_came U32LE e = number_came U32LE (λ q. cc) e
    primitive_came U32BE e = number_came U32BE (λ q. cc) e
    primitive_came U64LE e = number_came U64LE (λ q. cc) e
    primitive_came U64BE e = number_came U64BE (λ q. cc) e
    primitive_came Bytes e = subst (IsKid marks names (Prim Bytes) from to) (finish_is _ k e) (record { result = (refl, refl); named = tt })

    symbol_came : (p : Place) (own : Values) (one : Sym) → (symbol_on call f p own from to one).answer ≡ Ok k → IsKid marks names one from to k
    unfolding ask
    symbol_came p own (Text token) e = token_came token e
    symbol_came p own (Prim prim) e = primitive_came prim e
    symbol_came p own (Rule callee) e =
        let outer : Values = outer_for f own (holder_of (rule_at f.grammar callee)) in
        let w = went (ask call f p callee from to outer) _ k e in
        let n = part_length f.bytes from to valid inside in
        let tree = subst (λ m. IsTreeOf marks callee m w.value) n (good.tree callee (part f.bytes from to) outer w.value w.first) in
        subst (IsKid marks names (Rule callee) from to) (finish_is (Sub from to w.value) k w.rest)
        (record { result = (refl, refl, tree); named = good.named callee (part f.bytes from to) outer w.value w.first })

  pub slot_came : (p : Place) (state : State) (item : Option ℤ) (slot : CoreSlot) (k : Kid) → (slot_on call f p state item slot).answer ≡ Ok k
      → SlotCame marks names (environment f state item) slot k
  unfolding slot_on environment
  slot_came p state item slot k e =
      let a = went (value_in f state item slot.from) _ k e in
      let b = went (value_in f state item slot.to) _ k a.rest in
      let c = went (some_of (interval size a.value b.value)) _ k b.rest in
      let ends = ends_are size a.value b.value c.value (some_is _ c.value c.first) in
      record {
        valid = record {
          l = c.value.0;
          r = c.value.1;
          is_left = in_state f state item slot.from a.value a.first ∙ ap Val ends.left;
          is_right = in_state f state item slot.to b.value b.first ∙ ap Val ends.right;
          order = ends.order;
          inside = ends.inside;
        };
        kid = symbol_came c.value.0 c.value.1 ends.order ends.inside k p state.own slot.sym c.rest;
      }

  chosen_came : (p : Place) (state : State) (c : CoreExpr × CoreSlot) (cases : List (CoreExpr × CoreSlot)) (other : CoreSlot) (k : Kid) (rest : Run Kid)
      (b : Bool)
      → (rest.answer ≡ Ok k → PickCame marks names (environment f state None) cases other k)
      → (if b then rest else slot_on call f p state None c.1).answer ≡ Ok k
      → Chosen b (SlotCame marks names (environment f state None) c.1 k) (PickCame marks names (environment f state None) cases other k)
  chosen_came p state c cases other k rest true h e = h e
  chosen_came p state c cases other k rest false h e = slot_came p state None c.1 k e

  pub pick_came : (p : Place) (state : State) (cases : List (CoreExpr × CoreSlot)) (other : CoreSlot) (k : Kid)
      → (pick_on call f p state cases other).answer ≡ Ok k
      → PickCame marks names (environment f state None) cases other k
  unfolding pick_on
  pick_came p state [] other k e = slot_came p state None other k e
  pick_came p state (c ∷ cases) other k e =
      let w = went (value_in f state None c.0) _ k e in (
        w.value,
        in_state f state None c.0 w.value w.first,
        chosen_came p state c cases other k (pick_on call f (record p { branch = p.branch + 1 }) state cases other) (is_zero w.value)
            (pick_came (record p { branch = p.branch + 1 }) state cases other k) w.rest,
      )

  abbrev pub AreItems : Sym → List Kid → Type 0
  AreItems one items = AllByRecursion (IsItem marks names size one) items

  pub item_more : (one : Sym) (items : List Kid) (k : Kid) → AreItems one items → IsItem marks names size one k → AreItems one (items ++ k ∷ [])
  item_more one [] k h i = (i, tt)
  item_more one (first ∷ items) k h i = (h.0, item_more one items k h.1 i)

  pub slot_item : (p : Place) (state : State) (item : Option ℤ) (slot : CoreSlot) (k : Kid) → (slot_on call f p state item slot).answer ≡ Ok k
      → IsItem marks names size slot.sym k
  unfolding environment
  slot_item p state item slot k e =
      let came = slot_came p state item slot k e in
      record { l = came.valid.l; r = came.valid.r; order = came.valid.order; inside = came.valid.inside; kid = came.kid }

  -- as many items as there were turns
  pub record ItemsCame (one : Sym) (n : ℕ) (items more : List Kid) : Type 0 where
    pub are : AreItems one more
    pub count : length more ≡ length items + n

  pub items_came : (term : ℕ) (state : State) (slot : CoreSlot) (n : ℕ) (i : ℤ) (items more : List Kid) → AreItems slot.sym items
      → (items_on call f term state slot n i items).answer ≡ Ok more → ItemsCame slot.sym n items more
  unfolding items_on
  items_came term state slot zero i items more h e =
      let same : items ≡ more = finish_is items more e in
      record { are = subst (AreItems slot.sym) same h; count = sym (ap length same) ∙ (let q : length items ≡ length items + 0 = omega arith in q) }
  items_came term state slot (suc n) i items more h e =
      let here : State = with_kid state term false (Array slot.sym (kids_of items)) in
      let w = went (slot_on call f (record { term = term; branch = 0 }) here (Some i) slot) _ more e in
      let next = items_came term state slot n (i +ℤ pos 1) (items ++ w.value ∷ []) more
      (item_more slot.sym items w.value h (slot_item _ here (Some i) slot w.value w.first)) w.rest in
      record {
        are = next.are;
        count = let a = next.count in let b : length (items ++ w.value ∷ []) ≡ length items + 1 = length-append items (w.value ∷ []) in omega arith;
      }

  by_touch : (P : Type 0) (b : Bool) (items more : List Kid) (next : Run (List Kid)) → (items ≡ more → P) → (next.answer ≡ Ok more → P)
      → (if b then next else finish items).answer ≡ Ok more → P
  by_touch P true items more next h k e = k e
  by_touch P false items more next h k e = h (finish_is items more e)

  -- an item of a repetition, kept or not
  keep_came : (P : Type 0) (answer : Result Kid Stop) (items : List Kid) (go : ℕ → List Kid → Run (List Kid)) (more : List Kid) → (items ≡ more → P)
      → ((one : Kid) → answer ≡ Ok one → (go (ends_of one).end (items ++ one ∷ [])).answer ≡ Ok more → P) → (kept answer items go).answer ≡ Ok more → P
  unfolding kept
  keep_came P (Ok one) items go more h k e = by_touch P (touches (ends_of one)) items more (go (ends_of one).end (items ++ one ∷ [])) h (k one refl) e
  keep_came P (Err NoTree) items go more h k e = h (finish_is items more e)
  keep_came P (Err OutOfRange) items go more h k e = stop_is OutOfRange more e
  keep_came P (Err Deep) items go more h k e = stop_is Deep more e

  item_came : (p : Place) (own : Values) (from to : ℕ) (one : Sym) (k : Kid) → from ≤ to → to ≤ size → (item_on call f p own from to one).answer ≡ Ok k
      → (end : ℕ) × (from ≤ end) × (end ≤ to) × IsKid marks names one from end k
  unfolding item_on
  item_came p own from to one k valid inside e =
      let w = went (some_of (item_end from to one)) _ k e in
      let i = ends_inside from w.value to one valid (some_is _ w.value w.first) in
      let le : w.value ≤ to = i.1 in
      (w.value, i.0, i.1, symbol_came from w.value i.0 (omega arith) k p own one w.rest)

  many_came : (p : Place) (own : Values) (one : Sym) (n from to : ℕ) (items more : List Kid) → from ≤ to → to ≤ size → AreItems one items
      → (many_on call f p own one n from to items).answer ≡ Ok more → AreItems one more
  unfolding many_on after
  many_came p own one zero from to items more valid inside h e = subst (AreItems one) (finish_is items more e) h
  many_came p own one (suc n) from to items more valid inside h e =
      keep_came (AreItems one more) (item_on call f p own from to one).answer items _ more (λ same. subst (AreItems one) same h)
      (λ k came rest.
      let i = item_came p own from to one k valid inside came in
      let le : i.0 ≤ to = i.2 in
      let ends : (ends_of k).end ≤ i.0 = (result_ends marks one from i.0 k i.1 i.3.result).2 in
      many_came p own one n (ends_of k).end to (items ++ k ∷ []) more (omega arith) inside
      (item_more one items k h (record { l = from; r = i.0; order = i.1; inside = omega arith; kid = i.3 })) rest) e

  -- a repetition's interval and items
  pub record ManyCame (env : Environment) (slot : CoreSlot) (items : List Kid) : Type 0 where
    pub valid : IsValid env slot.from slot.to
    pub are : AreItems slot.sym items

  pub repetition_came : (p : Place) (state : State) (slot : CoreSlot) (items : List Kid) → (repetition_on call f p state slot).answer ≡ Ok items
      → ManyCame (environment f state None) slot items
  unfolding repetition_on environment
  repetition_came p state slot items e =
      let a = went (value_in f state None slot.from) _ items e in
      let b = went (value_in f state None slot.to) _ items a.rest in
      let c = went (some_of (interval size a.value b.value)) _ items b.rest in
      let ends = ends_are size a.value b.value c.value (some_is _ c.value c.first) in
      record {
        valid = record {
          l = c.value.0;
          r = c.value.1;
          is_left = in_state f state None slot.from a.value a.first ∙ ap Val ends.left;
          is_right = in_state f state None slot.to b.value b.first ∙ ap Val ends.right;
          order = ends.order;
          inside = ends.inside;
        };
        are = many_came p state.own slot.sym (turns c.value.0 c.value.1) c.value.0 c.value.1 [] items ends.order ends.inside tt c.rest;
      }
