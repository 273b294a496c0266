-- A tree lies within its part.
use Rattle.std.proofs.Common.{◌≡◌, ℕ, zero, suc, ◌+◌, ◌-◌, ◌*◌, ◌<◌, ◌≤◌, refl, sym, ap, ◌∙◌, subst, arith, List, [], ◌∷◌, ◌++◌, Option, Some, None}
use Rattle.std.proofs.Common.{Result, Ok, Bool, true, false, cond, if◌then◌else◌, length, take, drop, min, max, ℤ, pos, negsuc, ◌+ℤ◌, ◌-ℤ◌}
use Rattle.std.specs.Prelude.{slice_get, slice_set, replicate, nat_le, nat_lt, nat_eq, bytes_eq, ◌&&◌}
use Rattle.std.specs.List.{AllByRecursion}
use Rattle.std.proofs.lemmas.List.{length-take, length-drop}
use Rattle.std.proofs.lemmas.Bool.{leb-true, ltb-false, and_parts}
use Rattle.std.proofs.lemmas.Slice.Eq.{bytes_eq-Decides}
use Rattle.ipg_core.specs.declared.grammar.Primitive.{Primitive}
use Rattle.ipg_core.specs.declared.grammar.Primitive.TheVariants.{U8, U16LE, U16BE, U32LE, U32BE, U64LE, U64BE, Bytes}
use Rattle.ipg_core.specs.declared.grammar.Sym.{Sym}
use Rattle.ipg_core.specs.declared.grammar.Sym.TheVariants.{Text, Prim, Rule}
use Rattle.ipg_core.specs.declared.grammar.CoreExpr.{CoreExpr}
use Rattle.ipg_core.specs.declared.grammar.CoreSlot.{CoreSlot}
use Rattle.ipg_core.specs.declared.grammar.CoreTerm.{CoreTerm}
use Rattle.ipg_core.specs.declared.grammar.CoreTerm.TheVariants.{Slot, Set, Test, Repeat, Many, Pick}
use Rattle.ipg_core.specs.declared.grammar.CoreAlt.{CoreAlt}
use Rattle.ipg_core.specs.declared.grammar.CoreRule.{CoreRule}
use Rattle.ipg_core.specs.Grammar.{Grammar, rule_at, holder_of}
use Rattle.ipg_core.specs.Part.{part, interval}
use Rattle.ipg_core.specs.Tree.{Tree, Node, Kid, Sub, Token, Number, Raw, Array, Many as Repetition, Kids, no_kids, kid, kids_of}
use Rattle.ipg_core.specs.Touch.{width, Ends, touches, untouched, moved, first_of, tree_ends, ends_of, together, kids_touch, kid_touches}
use Rattle.ipg_core.specs.Environment.{Values, Done}
use Rattle.ipg_core.specs.Eval.{is_zero}
use Rattle.ipg_core.specs.Run.{Stop, NoTree, Deep, Run, finish, stop, some_of}
use Rattle.ipg_core.specs.Meaning.{Call, Frame, State, Place, value_in, outer_for, ask, token_on, number_on, primitive_on, symbol_on}
use Rattle.ipg_core.specs.Meaning.{slot_on, items_on, times, item_end, item_on, many_on, turns, repetition_on, pick_on, with_kid, with_value}
use Rattle.ipg_core.specs.Meaning.{term_on, terms_on, start, kids_done, node_of, alt_on, alts_on, rule_run, rule_on, den}
use Rattle.ipg_core.specs.Within.{IsInterval, AreEnds, TreeWithin, KidWithin, KidsWithin}
use Rattle.ipg_core.specs.Laws.{LiesWithin}
use Rattle.ipg_core.proofs.Yields.{Yields, yields_err, yields_finish, yields_stop, yields_some, yields_then}
use Rattle.ipg_core.proofs.Yields.{yields_bind, yields_else, yields_chosen, yields_kept}

-- ---- intervals and parts

abbrev pair : ℕ → ℕ → ℕ × ℕ
pair l r = (l, r)

same_interval : (n l r from to : ℕ) → l ≤ r → r ≤ n → pair l r ≡ pair from to → IsInterval n from to
same_interval n l r from to h k e =
    let a : l ≡ from = ap (λ (p : ℕ × ℕ). p.0) e in
    let b : r ≡ to = ap (λ (p : ℕ × ℕ). p.1) e in
    record { valid = omega arith; inside = omega arith }

chosen_interval : (n l r from to : ℕ) (b : Bool) → (nat_le l r && nat_le r n) ≡ b → cond {A = Option (ℕ × ℕ)} b (Some (l, r)) None ≡ Some (from, to)
    → IsInterval n from to
chosen_interval n l r from to true t e =
    let tests = and_parts (nat_le l r) (nat_le r n) t in
    let same : pair l r ≡ pair from to = cc in
    same_interval n l r from to (leb-true _ _ tests.0) (leb-true _ _ tests.1) same
chosen_interval n l r from to false t e = absurd (cc)

pub valid : (n : ℕ) (l r : ℤ) (from to : ℕ) → interval n l r ≡ Some (from, to) → IsInterval n from to
valid n (pos l) (pos r) from to e = chosen_interval n l r from to _ refl e
valid n (negsuc l) r from to e = absurd (cc)
valid n (pos l) (negsuc r) from to e = absurd (cc)

pub part_length : (s : List ℕ) (from to : ℕ) → IsInterval (length s) from to → length (part s from to) ≡ to - from
part_length s from to i = let a = i.valid in let b = i.inside in omega (arith, length-take (to - from) (drop from s), length-drop from s)

fits_token : (bytes token : List ℕ) → bytes_eq token (take (length token) bytes) ≡ true → length token ≤ length bytes
fits_token bytes token e =
    let same : length token ≡ length (take (length token) bytes) = ap length ((bytes_eq-Decides token (take (length token) bytes)).0 e) in
    omega (arith, length-take (length token) bytes)

-- ---- ends

-- a child that stands on an interval of a part of n bytes
pub record StandsOn (n from to : ℕ) (k : Kid) : Type 0 where
  pub within : KidWithin n k
  pub starts : from ≤ (ends_of k).start
  pub ends : (ends_of k).end ≤ to

tree_ends_within : (n : ℕ) (tree : Tree) → TreeWithin n tree → AreEnds n (tree_ends tree).start (tree_ends tree).end
tree_ends_within n (Node rule size attrs start end kids) h = h.1

sub_stands : (n from to : ℕ) (tree : Tree) → IsInterval n from to → TreeWithin (to - from) tree → StandsOn n from to (Sub from to tree)
unfolding moved
sub_stands n from to tree i h =
    let a = i.valid in let b = tree_ends_within (to - from) tree h in let c = b.ends in
    record { within = (i, h); starts = omega arith; ends = omega arith }

first_ends : (n w : ℕ) (b : Bool) → nat_eq w 0 ≡ b → w ≤ n → AreEnds n (first_of n w).start (first_of n w).end
unfolding first_of untouched
first_ends n w true e h = rw e (record { starts = omega arith; ends = omega arith })
first_ends n w false e h = rw e (record { starts = omega arith; ends = h })

moved_ends : (n from to : ℕ) (e : Ends) → IsInterval n from to → AreEnds (to - from) e.start e.end
    → (from ≤ (moved from e).start) × ((moved from e).end ≤ to) × AreEnds n (moved from e).start (moved from e).end
unfolding moved
moved_ends n from to e i h =
    let a = i.valid in let b = i.inside in let c = h.starts in let d = h.ends in
    (omega arith, omega arith, record { starts = omega arith; ends = omega arith })

token_stands : (n from to : ℕ) (token : List ℕ) → IsInterval n from to → length token ≤ to - from → StandsOn n from to (Token from to token)
token_stands n from to token i h =
    let m = moved_ends n from to _ i (first_ends (to - from) (length token) _ refl h) in
    record { within = (i, h); starts = m.0; ends = m.1 }

number_stands : (n from to : ℕ) (prim : Primitive) (high low : ℕ) → IsInterval n from to → width prim ≤ to - from
    → StandsOn n from to (Number from to prim high low)
number_stands n from to prim high low i h =
    let m = moved_ends n from to _ i (first_ends (to - from) (width prim) _ refl h) in
    record { within = (i, h); starts = m.0; ends = m.1 }

raw_stands : (n from to : ℕ) (bytes : List ℕ) → IsInterval n from to → length bytes ≡ to - from → StandsOn n from to (Raw from to bytes)
raw_stands n from to bytes i h = record { within = (i, h); starts = omega arith; ends = omega arith }

-- ---- what children touch together

ends_within : (n : ℕ) (k : Kid) → KidWithin n k → AreEnds n (ends_of k).start (ends_of k).end
ends_within n (Sub from to tree) h = (moved_ends n from to (tree_ends tree) h.0 (tree_ends_within (to - from) tree h.1)).2
ends_within n (Token from to bytes) h = (moved_ends n from to _ h.0 (first_ends (to - from) (length bytes) _ refl h.1)).2
ends_within n (Number from to prim high low) h = (moved_ends n from to _ h.0 (first_ends (to - from) (width prim) _ refl h.1)).2
ends_within n (Raw from to bytes) h = let a = h.0.valid in let b = h.0.inside in record { starts = omega arith; ends = omega arith }
ends_within n (Array sym items) h = record { starts = omega arith; ends = omega arith }
ends_within n (Repetition sym items) h = record { starts = omega arith; ends = omega arith }

together_by : (n : ℕ) (a b : Ends) (s t : Bool) → touches a ≡ s → touches b ≡ t → AreEnds n a.start a.end → AreEnds n b.start b.end
    → AreEnds n (together a b).start (together a b).end
unfolding together
together_by n a b true true p q h k = let u = h.starts in let v = h.ends in let w = k.ends in rw (p, q) (record { starts = omega arith; ends = omega arith })
together_by n a b true false p q h k = rw (p, q) h
together_by n a b false t p q h k = rw p k

mutual
  kids_ends : (n : ℕ) (ks : Kids) (none : Ends) → KidsWithin n ks → AreEnds n none.start none.end
      → AreEnds n (kids_touch ks none).start (kids_touch ks none).end
  kids_ends n no_kids none h k = k
  kids_ends n (kid one ks) none h k = together_by n _ _ _ _ refl refl (kid_ends n one none h.0 k) (kids_ends n ks none h.1 k)

  kid_ends : (n : ℕ) (one : Kid) (none : Ends) → KidWithin n one → AreEnds n none.start none.end
      → AreEnds n (kid_touches one none).start (kid_touches one none).end
  kid_ends n (Sub from to tree) none h k = ends_within n (Sub from to tree) h
  kid_ends n (Token from to bytes) none h k = ends_within n (Token from to bytes) h
  kid_ends n (Number from to prim high low) none h k = ends_within n (Number from to prim high low) h
  kid_ends n (Raw from to bytes) none h k = ends_within n (Raw from to bytes) h
  kid_ends n (Array sym items) none h k = kids_ends n items none h k
  kid_ends n (Repetition sym items) none h k = kids_ends n items none h k

-- ---- lists of children, and results of terms

all_within : (n : ℕ) (items : List Kid) → AllByRecursion (KidWithin n) items → KidsWithin n (kids_of items)
all_within n [] h = tt
all_within n (one ∷ items) h = (h.0, all_within n items h.1)

push_within : (n : ℕ) (items : List Kid) (one : Kid) → AllByRecursion (KidWithin n) items → KidWithin n one → AllByRecursion (KidWithin n) (items ++ one ∷ [])
push_within n [] one h k = (k, tt)
push_within n (first ∷ items) one h k = (h.0, push_within n items one h.1 k)

abbrev DoneWithin : ℕ → Option Done → Type 0
DoneWithin n None = Unit {0}
DoneWithin n (Some d) = KidWithin n d.kid

fresh_within : (n terms : ℕ) → AllByRecursion (DoneWithin n) (replicate terms None)
fresh_within n zero = tt
fresh_within n (suc terms) = (tt, fresh_within n terms)

set_within : (n : ℕ) (done : List (Option Done)) (term : ℕ) (d : Done) → AllByRecursion (DoneWithin n) done → KidWithin n d.kid
    → AllByRecursion (DoneWithin n) (slice_set done term (Some d))
set_within n [] term d h k = h
set_within n (one ∷ done) zero d h k = (k, h.1)
set_within n (one ∷ done) (suc term) d h k = (h.0, set_within n done term d h.1 k)

done_within : (n : ℕ) (done : List (Option Done)) → AllByRecursion (DoneWithin n) done → AllByRecursion (KidWithin n) (kids_done done)
done_within n [] h = tt
done_within n (None ∷ done) h = done_within n done h.1
done_within n (Some d ∷ done) h = (h.0, done_within n done h.1)

-- ---- the evaluator, where its calls answer with trees within their parts

pub record WithinCalls (call : Call) : Type 0 where
  pub within : (r : ℕ) (s : List ℕ) (outer : Values) → Yields (TreeWithin (length s)) (call r s outer)

yields_within : {n from to : ℕ} {answer : Result Kid Stop} → Yields (StandsOn n from to) answer → Yields (KidWithin n) answer
yields_within h = record { holds = λ k e. (h.holds k e).within }

yields_wider : {n from end to : ℕ} {answer : Result Kid Stop} → Yields (StandsOn n from end) answer → end ≤ to → Yields (StandsOn n from to) answer
yields_wider h w = record { holds = λ k e. let on = h.holds k e in record { within = on.within; starts = on.starts; ends = let a = on.ends in omega arith } }

-- an item's interval lies in that of its repetition
same_end : (n from r end to : ℕ) → IsInterval n from to → from ≤ r → r ≤ to → (let A = Option ℕ in let a : A = Some r in let b : A = Some end in a ≡ b)
    → IsInterval n from end × (end ≤ to)
same_end n from r end to i h k e = let same : r ≡ end = cc in let a = i.inside in (record { valid = omega arith; inside = omega arith }, omega arith)

number_end : (n from end to w : ℕ) (b : Bool) → nat_le (from + w) to ≡ b → IsInterval n from to → cond b (Some (from + w)) None ≡ Some end
    → IsInterval n from end × (end ≤ to)
number_end n from end to w true t i e = same_end n from (from + w) end to i (omega arith) (leb-true _ _ t) e
number_end n from end to w false t i e = absurd (cc)

pub item_interval : {n : ℕ} (from end to : ℕ) (sym : Sym) → IsInterval n from to → item_end from to sym ≡ Some end → IsInterval n from end × (end ≤ to)
item_interval {n} from end to (Text token) i e = same_end n from to end to i i.valid (omega arith) e
item_interval {n} from end to (Rule callee) i e = same_end n from to end to i i.valid (omega arith) e
item_interval {n} from end to (Prim Bytes) i e = same_end n from to end to i i.valid (omega arith) e
item_interval {n} from end to (Prim prim) i e = number_end n from end to (width prim) _ refl i e

module _ (call : Call) (calls : WithinCalls call) (f : Frame) where
  abbrev size : ℕ
  size = length f.bytes

  token_yields : (from to : ℕ) (token : List ℕ) → IsInterval size from to
      → Yields (StandsOn size from to) (token_on from to (part f.bytes from to) token).answer
  unfolding token_on
  token_yields from to token i =
      yields_chosen _ _ _
      (λ e. yields_finish _
      (token_stands size from to token i (let a = fits_token (part f.bytes from to) token e in let b = part_length f.bytes from to i in omega arith)))
      (λ e. yields_stop NoTree)

  number_yields : (from to : ℕ) (prim : Primitive) → IsInterval size from to
      → Yields (StandsOn size from to) (number_on from to (part f.bytes from to) prim).answer
  unfolding number_on
  number_yields from to prim i =
      yields_chosen _ _ _ (λ e. yields_stop NoTree)
      (λ e. yields_finish _
      (number_stands size from to prim _ _ i
      (let a : width prim ≤ length (part f.bytes from to) = ltb-false _ _ e in let b = part_length f.bytes from to i in omega arith)))

  primitive_yields : (from to : ℕ) (prim : Primitive) → IsInterval size from to
      → Yields (StandsOn size from to) (primitive_on from to (part f.bytes from to) prim).answer
  primitive_yields from to Bytes i = yields_finish _ (raw_stands size from to _ i (part_length f.bytes from to i))
  primitive_yields from to prim i = number_yields from to prim i

  symbol_yields : (p : Place) (own : Values) (from to : ℕ) (sym : Sym) → IsInterval size from to
      → Yields (StandsOn size from to) (symbol_on call f p own from to sym).answer
  unfolding ask
  symbol_yields p own from to (Text token) i = token_yields from to token i
  symbol_yields p own from to (Prim prim) i = primitive_yields from to prim i
  symbol_yields p own from to (Rule callee) i =
      yields_bind _ _ (calls.within callee (part f.bytes from to) (outer_for f own (holder_of (rule_at f.grammar callee))))
      (λ tree h. yields_finish _ (sub_stands size from to tree i (subst (λ n. TreeWithin n tree) (part_length f.bytes from to i) h)))

  slot_yields : (p : Place) (state : State) (item : Option ℤ) (slot : CoreSlot) → Yields (KidWithin size) (slot_on call f p state item slot).answer
  unfolding slot_on
  slot_yields p state item slot =
      yields_then _ _ (λ from _. yields_then _ _ (λ to _.
      yields_bind _ _ (yields_some (interval size from to)) (λ ends e.
      yields_within (symbol_yields p state.own ends.0 ends.1 slot.sym (valid size from to ends.0 ends.1 e)))))

  items_yield : (term : ℕ) (state : State) (slot : CoreSlot) (n : ℕ) (i : ℤ) (items : List Kid) → AllByRecursion (KidWithin size) items
      → Yields (AllByRecursion (KidWithin size)) (items_on call f term state slot n i items).answer
  unfolding items_on
  items_yield term state slot zero i items h = yields_finish items h
  items_yield term state slot (suc n) i items h =
      yields_bind _ _ (slot_yields _ _ (Some i) slot)
      (λ item k. items_yield term state slot n (i +ℤ pos 1) (items ++ item ∷ []) (push_within size items item h k))

  pub item_yields : (p : Place) (own : Values) (from to : ℕ) (sym : Sym) → IsInterval size from to
      → Yields (StandsOn size from to) (item_on call f p own from to sym).answer
  unfolding item_on
  item_yields p own from to sym i =
      yields_bind _ _ (yields_some (item_end from to sym)) (λ end e.
      let j = item_interval from end to sym i e in yields_wider (symbol_yields p own from end sym j.0) j.1)

  many_yields : (p : Place) (own : Values) (sym : Sym) (n from to : ℕ) (items : List Kid) → IsInterval size from to → AllByRecursion (KidWithin size) items
      → Yields (AllByRecursion (KidWithin size)) (many_on call f p own sym n from to items).answer
  unfolding many_on
  many_yields p own sym zero from to items i h = yields_finish items h
  many_yields p own sym (suc n) from to items i h =
      yields_kept _ items _ h (λ item e t.
      let on = (item_yields p own from to sym i).holds item e in
      many_yields p own sym n (ends_of item).end to (items ++ item ∷ []) (record { valid = on.ends; inside = i.inside })
      (push_within size items item h on.within))

  pick_yields : (p : Place) (state : State) (cases : List (CoreExpr × CoreSlot)) (other : CoreSlot)
      → Yields (KidWithin size) (pick_on call f p state cases other).answer
  unfolding pick_on
  pick_yields p state [] other = slot_yields p state None other
  pick_yields p state (c ∷ cases) other =
      yields_then _ _ (λ x _. yields_chosen (is_zero x) _ _ (λ _. pick_yields (record p { branch = p.branch + 1 }) state cases other)
      (λ _. slot_yields p state None c.1))

  abbrev StateWithin : State → Type 0
  StateWithin state = AllByRecursion (DoneWithin size) state.done

  kid_done : (state : State) (u : ℕ) (is_switch : Bool) (k : Kid) → StateWithin state → KidWithin size k → StateWithin (with_kid state u is_switch k)
  unfolding with_kid
  kid_done state u is_switch k h w = set_within size state.done u _ h w

  value_done : (state : State) (attr : ℕ) (z : ℤ) → StateWithin state → StateWithin (with_value state attr z)
  unfolding with_value
  value_done state attr z h = h

  repetition_yields : (p : Place) (state : State) (slot : CoreSlot) → Yields (AllByRecursion (KidWithin size)) (repetition_on call f p state slot).answer
  unfolding repetition_on
  repetition_yields p state slot =
      yields_then _ _ (λ l _. yields_then _ _ (λ r _.
      yields_bind _ _ (yields_some (interval size l r)) (λ ends e.
      many_yields p state.own slot.sym (turns ends.0 ends.1) ends.0 ends.1 [] (valid size l r ends.0 ends.1 e) tt)))

  term_yields : (state : State) (u : ℕ) (term : Option CoreTerm) → StateWithin state → Yields StateWithin (term_on call f state u term).answer
  term_yields state u None h = yields_stop NoTree
  term_yields state u (Some (Slot slot)) h = yields_bind _ _ (slot_yields _ state None slot) (λ k w. yields_finish _ (kid_done state u false k h w))
  term_yields state u (Some (Set attr e)) h = yields_then _ _ (λ z _. yields_finish _ (value_done state attr z h))
  term_yields state u (Some (Test e)) h = yields_then _ _ (λ z _. yields_chosen (is_zero z) _ _ (λ _. yields_stop NoTree) (λ _. yields_finish state h))
  term_yields state u (Some (Repeat first last sym from to)) h =
      yields_then _ _ (λ a _. yields_then _ _ (λ b _.
      yields_bind _ _ (items_yield u state (record { sym = sym; from = from; to = to }) (times (b -ℤ a)) a [] tt)
      (λ items w. yields_finish _ (kid_done state u false (Array sym (kids_of items)) h (all_within size items w)))))
  term_yields state u (Some (Many sym from to)) h =
      yields_bind _ _ (repetition_yields _ state _)
      (λ items w. yields_finish _ (kid_done state u false (Repetition sym (kids_of items)) h (all_within size items w)))
  term_yields state u (Some (Pick cases other)) h = yields_bind _ _ (pick_yields _ state cases other) (λ k w. yields_finish _ (kid_done state u true k h w))

  terms_yield : (terms : List CoreTerm) (order : List ℕ) (state : State) → StateWithin state → Yields StateWithin (terms_on call f terms order state).answer
  unfolding terms_on
  terms_yield terms [] state h = yields_finish state h
  terms_yield terms (u ∷ order) state h = yields_bind _ _ (term_yields state u (slice_get terms u) h) (λ next k. terms_yield terms order next k)

  node_within : (terms : List CoreTerm) (state : State) → StateWithin state → TreeWithin size (node_of f terms state)
  unfolding node_of untouched
  node_within terms state h =
      let kids = all_within size (kids_done state.done) (done_within size state.done h) in
      (refl, kids_ends size _ _ kids (record { starts = omega arith; ends = omega arith }), kids)

  alt_yields : (alt : CoreAlt) → Yields (TreeWithin size) (alt_on call f alt).answer
  unfolding alt_on
  alt_yields alt =
      yields_bind _ _ (terms_yield alt.terms alt.order (start (length alt.terms)) (fresh_within size (length alt.terms)))
      (λ state h. yields_finish _ (node_within alt.terms state h))

alts_yield : (call : Call) → WithinCalls call → (f : Frame) (alts : List CoreAlt) → Yields (TreeWithin (length f.bytes)) (alts_on call f alts).answer
unfolding alts_on
alts_yield call calls f [] = yields_stop NoTree
alts_yield call calls f (alt ∷ alts) = yields_else _ _ (alt_yields call calls f alt) (alts_yield call calls (record f { alt = f.alt + 1 }) alts)

rule_yields : (call : Call) → WithinCalls call → (f : Frame) (rule : Option CoreRule) → Yields (TreeWithin (length f.bytes)) (rule_run call f rule).answer
rule_yields call calls f None = yields_stop NoTree
rule_yields call calls f (Some rule) = alts_yield call calls f rule.alts

pub den_within : (g : Grammar) (h : ℕ) → WithinCalls (den g h)
unfolding den rule_on
den_within g zero = record { within = λ r s outer. yields_err Deep }
den_within g (suc h) =
    record { within = λ r s outer. rule_yields (den g h) (den_within g h) (record { grammar = g; rule = r; alt = 0; bytes = s; outer = outer }) (rule_at g r) }

pub lies_within : LiesWithin
lies_within g h r s outer tree e = ((den_within g h).within r s outer).holds tree e
