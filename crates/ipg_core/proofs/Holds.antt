-- A tree holds bytes of its part.
use Rattle.std.proofs.Common.{◌≡◌, ◌≢◌, ℕ, zero, suc, ◌+◌, ◌<◌, ◌≤◌, refl, sym, ap, ◌∙◌, arith, List, [], ◌∷◌, ◌++◌, Option, Some, None, Bool, true, false}
use Rattle.std.proofs.Common.{Result, Ok, length, take, ℤ, pos, ◌+ℤ◌, ◌-ℤ◌}
use Rattle.std.specs.Prelude.{slice_get, slice_set, replicate, nat_lt, bytes_eq}
use Rattle.std.specs.List.{AllByRecursion}
use Rattle.std.proofs.lemmas.Bool.{ltb-false}
use Rattle.std.proofs.lemmas.Slice.Eq.{bytes_eq-Decides}
use Rattle.ipg_core.specs.declared.grammar.Primitive.{Primitive}
use Rattle.ipg_core.specs.declared.grammar.Primitive.TheVariants.{U8, U16LE, U16BE, U32LE, U32BE, U64LE, U64BE, Bytes}
use Rattle.ipg_core.specs.declared.grammar.Sym.{Sym}
use Rattle.ipg_core.specs.declared.grammar.Sym.TheVariants.{Text, Prim, Rule}
use Rattle.ipg_core.specs.declared.grammar.CoreExpr.{CoreExpr}
use Rattle.ipg_core.specs.declared.grammar.CoreSlot.{CoreSlot}
use Rattle.ipg_core.specs.declared.grammar.CoreTerm.{CoreTerm}
use Rattle.ipg_core.specs.declared.grammar.CoreTerm.TheVariants.{Slot, Set, Test, Repeat, Many, Pick}
use Rattle.ipg_core.specs.declared.grammar.CoreAlt.{CoreAlt}
use Rattle.ipg_core.specs.declared.grammar.CoreRule.{CoreRule}
use Rattle.ipg_core.specs.Grammar.{Grammar, rule_at, holder_of}
use Rattle.ipg_core.specs.Part.{part, interval}
use Rattle.ipg_core.specs.Tree.{Tree, Kid, Sub, Token, Number, Raw, Array, Many as Repetition, Kids, no_kids, kid, kids_of}
use Rattle.ipg_core.specs.Touch.{width, ends_of}
use Rattle.ipg_core.specs.Environment.{Values, Done}
use Rattle.ipg_core.specs.Eval.{is_zero}
use Rattle.ipg_core.specs.Run.{Stop, NoTree, Deep, Run, finish, stop, some_of}
use Rattle.ipg_core.specs.Meaning.{Call, Frame, State, Place, value_in, outer_for, ask, halves, token_on, number_on, primitive_on, symbol_on}
use Rattle.ipg_core.specs.Meaning.{slot_on, items_on, times, item_end, item_on, many_on, turns, repetition_on, pick_on, with_kid, with_value}
use Rattle.ipg_core.specs.Meaning.{term_on, terms_on, start, kids_done, node_of, alt_on, alts_on, rule_run, rule_on, den}
use Rattle.ipg_core.specs.Holds.{IsNumber, TreeHolds, KidHolds, KidsHold}
use Rattle.ipg_core.specs.Laws.{HoldsItsBytes}
use Rattle.ipg_core.proofs.Yields.{Yields, yields_err, yields_finish, yields_stop, yields_some, yields_then}
use Rattle.ipg_core.proofs.Yields.{yields_bind, yields_else, yields_chosen, yields_kept}

abbrev All : List ℕ → List Kid → Type 0
All s items = AllByRecursion (KidHolds s) items

all_hold : (s : List ℕ) (items : List Kid) → All s items → KidsHold s (kids_of items)
all_hold s [] h = tt
all_hold s (one ∷ items) h = (h.0, all_hold s items h.1)

push_holds : (s : List ℕ) (items : List Kid) (one : Kid) → All s items → KidHolds s one → All s (items ++ one ∷ [])
push_holds s [] one h k = (k, tt)
push_holds s (first ∷ items) one h k = (h.0, push_holds s items one h.1 k)

abbrev DoneHolds : List ℕ → Option Done → Type 0
DoneHolds s None = Unit {0}
DoneHolds s (Some d) = KidHolds s d.kid

fresh_holds : (s : List ℕ) (terms : ℕ) → AllByRecursion (DoneHolds s) (replicate terms None)
fresh_holds s zero = tt
fresh_holds s (suc terms) = (tt, fresh_holds s terms)

set_holds : (s : List ℕ) (done : List (Option Done)) (term : ℕ) (d : Done) → AllByRecursion (DoneHolds s) done → KidHolds s d.kid
    → AllByRecursion (DoneHolds s) (slice_set done term (Some d))
set_holds s [] term d h k = h
set_holds s (one ∷ done) zero d h k = (k, h.1)
set_holds s (one ∷ done) (suc term) d h k = (h.0, set_holds s done term d h.1 k)

done_hold : (s : List ℕ) (done : List (Option Done)) → AllByRecursion (DoneHolds s) done → All s (kids_done done)
done_hold s [] h = tt
done_hold s (None ∷ done) h = done_hold s done h.1
done_hold s (Some d ∷ done) h = (h.0, done_hold s done h.1)

-- the evaluator's calls answer with trees that hold bytes of their parts
record HoldingCalls (call : Call) : Type 0 where
  pub holds : (r : ℕ) (s : List ℕ) (outer : Values) → Yields (TreeHolds s) (call r s outer)

module _ (call : Call) (calls : HoldingCalls call) (f : Frame) where
  token_yields : (from to : ℕ) (token : List ℕ) → Yields (KidHolds f.bytes) (token_on from to (part f.bytes from to) token).answer
  unfolding token_on
  token_yields from to token =
      yields_chosen _ _ _ (λ e. yields_finish _ (sym ((bytes_eq-Decides token (take (length token) (part f.bytes from to))).0 e))) (λ e. yields_stop NoTree)

  number_holds : (from to : ℕ) (prim : Primitive) → prim ≢ Bytes → width prim ≤ length (part f.bytes from to)
      → (let h = halves prim (part f.bytes from to) in KidHolds f.bytes (Number from to prim h.0 h.1))
  number_holds from to prim number enough = record { number = number; enough = enough; is_high = refl; is_low = refl }

  number_yields : (from to : ℕ) (prim : Primitive) → prim ≢ Bytes → Yields (KidHolds f.bytes) (number_on from to (part f.bytes from to) prim).answer
  unfolding number_on
  number_yields from to prim number =
      yields_chosen _ _ _ (λ e. yields_stop NoTree)
      (λ e. yields_finish _ (number_holds from to prim number (ltb-false _ _ e)))

  primitive_yields : (from to : ℕ) (prim : Primitive) → Yields (KidHolds f.bytes) (primitive_on from to (part f.bytes from to) prim).answer
  primitive_yields from to Bytes = yields_finish _ refl
  primitive_yields from to U8 = number_yields from to U8 (λ e. cc)
  primitive_yields from to U16LE = number_yields from to U16LE (λ e. cc)
  primitive_yields from to U16BE = number_yields from to U16BE (λ e. cc)
  primitive_yields from to U32LE = number_yields from to U32LE (λ e. cc)
  primitive_yields from to U32BE = number_yields from to U32BE (λ e. cc)
  primitive_yields from to U64LE = number_yields from to U64LE (λ e. cc)
  primitive_yields from to U64BE = number_yields from to U64BE (λ e. cc)

  symbol_yields : (p : Place) (own : Values) (from to : ℕ) (sym : Sym) → Yields (KidHolds f.bytes) (symbol_on call f p own from to sym).answer
  unfolding ask
  symbol_yields p own from to (Text token) = token_yields from to token
  symbol_yields p own from to (Prim prim) = primitive_yields from to prim
  symbol_yields p own from to (Rule callee) =
      yields_bind _ _ (calls.holds callee (part f.bytes from to) (outer_for f own (holder_of (rule_at f.grammar callee)))) (λ tree h. yields_finish _ h)

  slot_yields : (p : Place) (state : State) (item : Option ℤ) (slot : CoreSlot) → Yields (KidHolds f.bytes) (slot_on call f p state item slot).answer
  unfolding slot_on
  slot_yields p state item slot =
      yields_then _ _ (λ from _. yields_then _ _ (λ to _. yields_then _ _ (λ ends _. symbol_yields p state.own ends.0 ends.1 slot.sym)))

  items_yield : (term : ℕ) (state : State) (slot : CoreSlot) (n : ℕ) (i : ℤ) (items : List Kid) → All f.bytes items
      → Yields (All f.bytes) (items_on call f term state slot n i items).answer
  unfolding items_on
  items_yield term state slot zero i items h = yields_finish items h
  items_yield term state slot (suc n) i items h =
      yields_bind _ _ (slot_yields _ _ (Some i) slot)
      (λ item k. items_yield term state slot n (i +ℤ pos 1) (items ++ item ∷ []) (push_holds f.bytes items item h k))

  item_yields : (p : Place) (own : Values) (from to : ℕ) (sym : Sym) → Yields (KidHolds f.bytes) (item_on call f p own from to sym).answer
  unfolding item_on
  item_yields p own from to sym = yields_then _ _ (λ end _. symbol_yields p own from end sym)

  many_yields : (p : Place) (own : Values) (sym : Sym) (n from to : ℕ) (items : List Kid) → All f.bytes items
      → Yields (All f.bytes) (many_on call f p own sym n from to items).answer
  unfolding many_on
  many_yields p own sym zero from to items h = yields_finish items h
  many_yields p own sym (suc n) from to items h =
      yields_kept _ items _ h (λ item e t.
      many_yields p own sym n (ends_of item).end to (items ++ item ∷ []) (push_holds f.bytes items item h ((item_yields p own from to sym).holds item e)))

  pick_yields : (p : Place) (state : State) (cases : List (CoreExpr × CoreSlot)) (other : CoreSlot)
      → Yields (KidHolds f.bytes) (pick_on call f p state cases other).answer
  unfolding pick_on
  pick_yields p state [] other = slot_yields p state None other
  pick_yields p state (c ∷ cases) other =
      yields_then _ _ (λ x _. yields_chosen (is_zero x) _ _ (λ _. pick_yields (record p { branch = p.branch + 1 }) state cases other)
      (λ _. slot_yields p state None c.1))

  abbrev StateHolds : State → Type 0
  StateHolds state = AllByRecursion (DoneHolds f.bytes) state.done

  kid_done : (state : State) (u : ℕ) (is_switch : Bool) (k : Kid) → StateHolds state → KidHolds f.bytes k → StateHolds (with_kid state u is_switch k)
  unfolding with_kid
  kid_done state u is_switch k h w = set_holds f.bytes state.done u _ h w

  value_done : (state : State) (attr : ℕ) (z : ℤ) → StateHolds state → StateHolds (with_value state attr z)
  unfolding with_value
  value_done state attr z h = h

  repetition_yields : (p : Place) (state : State) (slot : CoreSlot) → Yields (All f.bytes) (repetition_on call f p state slot).answer
  unfolding repetition_on
  repetition_yields p state slot =
      yields_then _ _ (λ l _. yields_then _ _ (λ r _.
      yields_then _ _ (λ ends _. many_yields p state.own slot.sym (turns ends.0 ends.1) ends.0 ends.1 [] tt)))

  term_yields : (state : State) (u : ℕ) (term : Option CoreTerm) → StateHolds state → Yields StateHolds (term_on call f state u term).answer
  term_yields state u None h = yields_stop NoTree
  term_yields state u (Some (Slot slot)) h = yields_bind _ _ (slot_yields _ state None slot) (λ k w. yields_finish _ (kid_done state u false k h w))
  term_yields state u (Some (Set attr e)) h = yields_then _ _ (λ z _. yields_finish _ (value_done state attr z h))
  term_yields state u (Some (Test e)) h = yields_then _ _ (λ z _. yields_chosen (is_zero z) _ _ (λ _. yields_stop NoTree) (λ _. yields_finish state h))
  term_yields state u (Some (Repeat first last sym from to)) h =
      yields_then _ _ (λ a _. yields_then _ _ (λ b _.
      yields_bind _ _ (items_yield u state (record { sym = sym; from = from; to = to }) (times (b -ℤ a)) a [] tt)
      (λ items w. yields_finish _ (kid_done state u false (Array sym (kids_of items)) h (all_hold f.bytes items w)))))
  term_yields state u (Some (Many sym from to)) h =
      yields_bind _ _ (repetition_yields _ state _)
      (λ items w. yields_finish _ (kid_done state u false (Repetition sym (kids_of items)) h (all_hold f.bytes items w)))
  term_yields state u (Some (Pick cases other)) h = yields_bind _ _ (pick_yields _ state cases other) (λ k w. yields_finish _ (kid_done state u true k h w))

  terms_yield : (terms : List CoreTerm) (order : List ℕ) (state : State) → StateHolds state → Yields StateHolds (terms_on call f terms order state).answer
  unfolding terms_on
  terms_yield terms [] state h = yields_finish state h
  terms_yield terms (u ∷ order) state h = yields_bind _ _ (term_yields state u (slice_get terms u) h) (λ next k. terms_yield terms order next k)

  node_holds : (terms : List CoreTerm) (state : State) → StateHolds state → TreeHolds f.bytes (node_of f terms state)
  unfolding node_of
  node_holds terms state h = all_hold f.bytes (kids_done state.done) (done_hold f.bytes state.done h)

  alt_yields : (alt : CoreAlt) → Yields (TreeHolds f.bytes) (alt_on call f alt).answer
  unfolding alt_on
  alt_yields alt =
      yields_bind _ _ (terms_yield alt.terms alt.order (start (length alt.terms)) (fresh_holds f.bytes (length alt.terms)))
      (λ state h. yields_finish _ (node_holds alt.terms state h))

alts_yield : (call : Call) → HoldingCalls call → (f : Frame) (alts : List CoreAlt) → Yields (TreeHolds f.bytes) (alts_on call f alts).answer
unfolding alts_on
alts_yield call calls f [] = yields_stop NoTree
alts_yield call calls f (alt ∷ alts) = yields_else _ _ (alt_yields call calls f alt) (alts_yield call calls (record f { alt = f.alt + 1 }) alts)

rule_yields : (call : Call) → HoldingCalls call → (f : Frame) (rule : Option CoreRule) → Yields (TreeHolds f.bytes) (rule_run call f rule).answer
rule_yields call calls f None = yields_stop NoTree
rule_yields call calls f (Some rule) = alts_yield call calls f rule.alts

den_holds : (g : Grammar) (h : ℕ) → HoldingCalls (den g h)
unfolding den rule_on
den_holds g zero = record { holds = λ r s outer. yields_err Deep }
den_holds g (suc h) =
    record { holds = λ r s outer. rule_yields (den g h) (den_holds g h) (record { grammar = g; rule = r; alt = 0; bytes = s; outer = outer }) (rule_at g r) }

pub holds_its_bytes : HoldsItsBytes
holds_its_bytes g h r s outer tree e = ((den_holds g h).holds r s outer).holds tree e
