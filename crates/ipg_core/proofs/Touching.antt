-- A tree of a rule that must touch does.
use Rattle.std.proofs.Common.{◌≡◌, ℕ, zero, suc, ◌+◌, ◌-◌, ◌<◌, ◌≤◌, refl, sym, ap, ◌∙◌, subst, arith, List, [], ◌∷◌, ◌++◌, Option, Some, None}
use Rattle.std.proofs.Common.{Result, Ok, Bool, true, false, cond, if◌then◌else◌, length, min, max, map, ℤ, true≢false, ◌⊎◌, inl, inr}
use Rattle.std.specs.Prelude.{option_map, slice_get, slice_set, replicate, nat_eq, nat_lt, ◌&&◌, ◌||◌}
use Rattle.std.proofs.lemmas.Bool.Decides.{nat_tests}
use Rattle.std.proofs.lemmas.List.{length-replicate}
use Rattle.std.proofs.lemmas.Option.{slice_get-map}
use Rattle.std.proofs.lemmas.Bool.{ltb-true, lt-ltb, and_parts}
use Rattle.ipg_core.specs.declared.grammar.Primitive.{Primitive}
use Rattle.ipg_core.specs.declared.grammar.Primitive.TheVariants.{U8, U16LE, U16BE, U32LE, U32BE, U64LE, U64BE, Bytes}
use Rattle.ipg_core.specs.declared.grammar.Sym.{Sym}
use Rattle.ipg_core.specs.declared.grammar.Sym.TheVariants.{Text, Prim, Rule}
use Rattle.ipg_core.specs.declared.grammar.CoreExpr.{CoreExpr}
use Rattle.ipg_core.specs.declared.grammar.CoreSlot.{CoreSlot}
use Rattle.ipg_core.specs.declared.grammar.CoreTerm.{CoreTerm}
use Rattle.ipg_core.specs.declared.grammar.CoreTerm.TheVariants.{Slot, Set, Test, Repeat, Many, Pick}
use Rattle.ipg_core.specs.declared.grammar.CoreAlt.{CoreAlt}
use Rattle.ipg_core.specs.declared.grammar.CoreRule.{CoreRule}
use Rattle.ipg_core.specs.Grammar.{Grammar, rule_at, holder_of}
use Rattle.ipg_core.specs.Part.{part, interval}
use Rattle.ipg_core.specs.Tree.{Tree, Node, Kid, Sub, Token, Number, Raw, Array, Many as Repetition, Kids, no_kids, kid, kids_of}
use Rattle.ipg_core.specs.Touch.{width, Ends, touches, untouched, moved, first_of, tree_ends, ends_of, together, kids_touch, kid_touches}
use Rattle.ipg_core.specs.Environment.{Values, Done}
use Rattle.ipg_core.specs.Eval.{is_zero}
use Rattle.ipg_core.specs.Run.{NoTree, Deep, Run, some_of}
use Rattle.ipg_core.specs.Meaning.{Call, Frame, State, Place, outer_for, ask, halves, token_on, number_on, primitive_on, symbol_on, slot_on, pick_on}
use Rattle.ipg_core.specs.Meaning.{with_kid, with_value, term_on, terms_on, start, kids_done, node_of, alt_on, alts_on, rule_run, rule_on, den}
use Rattle.ipg_core.specs.Order.{is_taken, InOrder, Provides}
use Rattle.ipg_core.specs.Good.{AltAt, IsOrdered, Good}
use Rattle.ipg_core.specs.MustTouch.{Marks, or_false, is_marked, sym_marked, cases_marked, term_marked, some_marked, all_marked, next_round, round, MustTouch}
use Rattle.ipg_core.specs.Laws.{TouchingTouches}
use Rattle.ipg_core.proofs.Yields.{Yields, yields_err, yields_finish, yields_stop, yields_then, yields_bind, yields_else, yields_chosen}

-- ---- what touches together

abbrev Touching : Ends → Type 0
Touching e = touches e ≡ true

moved_touches : (l : ℕ) (e : Ends) → Touching e → Touching (moved l e)
unfolding moved
moved_touches l e h = let a = ltb-true _ _ h in lt-ltb _ _ (omega arith)

first_by : (n w : ℕ) (b : Bool) → nat_eq w 0 ≡ b → 0 < w → Touching (first_of n w)
unfolding first_of untouched
first_by n w true e h = absurd (let none : w ≡ 0 = grind (arith, nat_tests) in omega arith)
first_by n w false e h = rw e (lt-ltb 0 w h)

first_touches : (n w : ℕ) → 0 < w → Touching (first_of n w)
first_touches n w h = first_by n w _ refl h

together_first : (a b : Ends) (t : Bool) → touches b ≡ t → Touching a → Touching (together a b)
unfolding together
together_first a b true p h = let u = ltb-true _ _ h in rw (h, p) (lt-ltb _ _ (omega arith))
together_first a b false p h = rw (h, p) h

together_second : (a b : Ends) (t : Bool) → touches a ≡ t → Touching b → Touching (together a b)
unfolding together
together_second a b true p h = together_first a b _ refl p
together_second a b false p h = rw p h

one_touches : (k : Kid) (none : Ends) → Touching (ends_of k) → Touching (kid_touches k none)
one_touches (Sub from to tree) none h = h
one_touches (Token from to bytes) none h = h
one_touches (Number from to prim high low) none h = h
one_touches (Raw from to bytes) none h = h
one_touches (Array item items) none h = absurd (true≢false (sym h))
one_touches (Repetition item items) none h = absurd (true≢false (sym h))

-- ---- results of terms: the term u has one that touches

abbrev HasTouched : Option (Option Done) → Type 0
HasTouched None = ⊥
HasTouched (Some None) = ⊥
HasTouched (Some (Some d)) = Touching (ends_of d.kid)

done_touches : (done : List (Option Done)) (u : ℕ) (none : Ends) → HasTouched (slice_get done u) → Touching (kids_touch (kids_of (kids_done done)) none)
done_touches [] u none h = elim h [ ]
done_touches (None ∷ done) zero none h = elim h [ ]
done_touches (Some d ∷ done) zero none h = together_first _ _ _ refl (one_touches d.kid none h)
done_touches (None ∷ done) (suc u) none h = done_touches done u none h
done_touches (Some d ∷ done) (suc u) none h = together_second _ _ _ refl (done_touches done u none h)

set_here : (done : List (Option Done)) (u : ℕ) (d : Done) → u < length done → Touching (ends_of d.kid) → HasTouched (slice_get (slice_set done u (Some d)) u)
set_here [] u d lt h = absurd (omega arith)
set_here (one ∷ done) zero d lt h = h
set_here (one ∷ done) (suc u) d lt h = set_here done u d (omega arith) h

set_there : (done : List (Option Done)) (u v : ℕ) (d : Done) → (u ≡ v → ⊥) → HasTouched (slice_get done v)
    → HasTouched (slice_get (slice_set done u (Some d)) v)
set_there [] u v d other h = h
set_there (one ∷ done) zero zero d other h = absurd (other refl)
set_there (one ∷ done) zero (suc v) d other h = h
set_there (one ∷ done) (suc u) zero d other h = h
set_there (one ∷ done) (suc u) (suc v) d other h = set_there done u v d (λ e. other (ap suc e)) h

set_length : (done : List (Option Done)) (u : ℕ) (d : Option Done) → length (slice_set done u d) ≡ length done
set_length [] u d = refl
set_length (one ∷ done) zero d = refl
set_length (one ∷ done) (suc u) d = ap suc (set_length done u d)

-- ---- the evaluator, where trees of marked rules touch

record KidTouches (k : Kid) : Type 0 where
  touching : Touching (ends_of k)

record TreeTouches (tree : Tree) : Type 0 where
  touching : Touching (tree_ends tree)

record TouchingCalls (marks : Marks) (call : Call) : Type 0 where
  touching : (r : ℕ) (s : List ℕ) (outer : Values) → is_marked marks r ≡ true → Yields TreeTouches (call r s outer)

module _ (marks : Marks) (call : Call) (calls : TouchingCalls marks call) (f : Frame) where
  token_kid : (from to : ℕ) (token : List ℕ) → 0 < length token → KidTouches (Token from to token)
  token_kid from to token h = record { touching = moved_touches from _ (first_touches (to - from) (length token) h) }

  number_kid : (from to : ℕ) (prim : Primitive) (high low : ℕ) → 0 < width prim → KidTouches (Number from to prim high low)
  number_kid from to prim high low h = record { touching = moved_touches from _ (first_touches (to - from) (width prim) h) }

  token_touches : (from to : ℕ) (token : List ℕ) → 0 < length token → Yields KidTouches (token_on from to (part f.bytes from to) token).answer
  unfolding token_on
  token_touches from to token h =
      yields_chosen _ _ _ (λ e. yields_finish _ (token_kid from to token h)) (λ e. yields_stop NoTree)

  number_touches : (from to : ℕ) (prim : Primitive) → 0 < width prim → Yields KidTouches (number_on from to (part f.bytes from to) prim).answer
  unfolding number_on
  number_touches from to prim h =
      yields_chosen (nat_lt (length (part f.bytes from to)) (width prim)) _ _ (λ e. yields_stop NoTree)
      (λ e. yields_finish _ (number_kid from to prim (halves prim (part f.bytes from to)).0 (halves prim (part f.bytes from to)).1 h))

  primitive_touches : (from to : ℕ) (prim : Primitive) → 0 < width prim → Yields KidTouches (primitive_on from to (part f.bytes from to) prim).answer
  primitive_touches from to Bytes h = absurd (omega arith)
  primitive_touches from to prim h = number_touches from to prim h

  symbol_touches : (p : Place) (own : Values) (from to : ℕ) (item : Sym) → sym_marked marks item ≡ true
      → Yields KidTouches (symbol_on call f p own from to item).answer
  unfolding ask
  symbol_touches p own from to (Text token) h = token_touches from to token (ltb-true _ _ h)
  symbol_touches p own from to (Prim prim) h = primitive_touches from to prim (ltb-true _ _ h)
  symbol_touches p own from to (Rule callee) h =
      yields_bind _ _ (calls.touching callee (part f.bytes from to) (outer_for f own (holder_of (rule_at f.grammar callee))) h)
      (λ tree t. yields_finish _ (record { touching = moved_touches from (tree_ends tree) t.touching }))

  slot_touches : (p : Place) (state : State) (item : Option ℤ) (slot : CoreSlot) → sym_marked marks slot.sym ≡ true
      → Yields KidTouches (slot_on call f p state item slot).answer
  unfolding slot_on
  slot_touches p state item slot h =
      yields_then _ _ (λ from _. yields_then _ _ (λ to _. yields_then _ _ (λ ends _. symbol_touches p state.own ends.0 ends.1 slot.sym h)))

  pick_touches : (p : Place) (state : State) (cases : List (CoreExpr × CoreSlot)) (other : CoreSlot) → cases_marked marks cases ≡ true
      → sym_marked marks other.sym ≡ true → Yields KidTouches (pick_on call f p state cases other).answer
  unfolding pick_on
  pick_touches p state [] other h k = slot_touches p state None other k
  pick_touches p state (c ∷ cases) other h k =
      let each = and_parts (sym_marked marks c.1.sym) (cases_marked marks cases) h in
      yields_then _ _ (λ x _. yields_chosen (is_zero x) _ _
      (λ _. pick_touches (record p { branch = p.branch + 1 }) state cases other each.1 k) (λ _. slot_touches p state None c.1 each.0))

  -- a state with room for each term, in which the term u has touched if it was taken
  record IsOnTheWay (terms u : ℕ) (taken : Bool) (state : State) : Type 0 where
    size : length state.done ≡ terms
    touched : taken ≡ true → HasTouched (slice_get state.done u)

  -- the result of the term v, which touches where v is u
  kid_on_the_way : (terms u v : ℕ) (b taken is_switch : Bool) (state : State) (k : Kid) → u < terms → nat_eq v u ≡ b → IsOnTheWay terms u taken state
      → (v ≡ u → KidTouches k)
      → IsOnTheWay terms u (b || taken) (with_kid state v is_switch k)
  unfolding with_kid
  kid_on_the_way terms u v true taken is_switch state k lt e h t =
      let same : v ≡ u = grind (arith, nat_tests) in
      let room : v < length state.done = let a = h.size in omega arith in
      let d : Done = record { is_switch = is_switch; kid = k } in
      record {
        size = set_length state.done v (Some d) ∙ h.size;
        touched = λ _. subst (λ n. HasTouched (slice_get (slice_set state.done v (Some d)) n)) same
            (set_here state.done v d room (t same).touching);
      }
  kid_on_the_way terms u v false taken is_switch state k lt e h t =
      let other : v ≡ u → ⊥ = grind (arith, nat_tests) in
      let d : Done = record { is_switch = is_switch; kid = k } in
      record { size = set_length state.done v (Some d) ∙ h.size; touched = λ p. set_there state.done v u d other (h.touched p) }

  -- a term without a result, which isn't u
  skip_on_the_way : (terms u v : ℕ) (b taken : Bool) (state next : State) → nat_eq v u ≡ b → next.done ≡ state.done → IsOnTheWay terms u taken state
      → (v ≡ u → ⊥) → IsOnTheWay terms u (b || taken) next
  skip_on_the_way terms u v true taken state next e d h t = absurd (t (grind (arith, nat_tests)))
  skip_on_the_way terms u v false taken state next e d h t =
      record { size = ap length d ∙ h.size; touched = λ p. subst (λ done. HasTouched (slice_get done u)) (sym d) (h.touched p) }

  abbrev MarkedAt : List CoreTerm → ℕ → Type 0
  MarkedAt terms u = (term : CoreTerm) × (slice_get terms u ≡ Some term) × (term_marked marks term ≡ true)

  marked_term : (terms : List CoreTerm) (u v : ℕ) (term : CoreTerm) → MarkedAt terms u → slice_get terms v ≡ Some term → v ≡ u → term_marked marks term ≡ true
  marked_term terms u v term m e same = let one : term ≡ m.0 = cc in subst (λ t. term_marked marks t ≡ true) (sym one) m.2

  term_on_the_way : (terms : List CoreTerm) (u v : ℕ) (taken : Bool) (state : State) (term : Option CoreTerm) → MarkedAt terms u → u < length terms
      → slice_get terms v ≡ term
      → IsOnTheWay (length terms) u taken state → Yields (IsOnTheWay (length terms) u (nat_eq v u || taken)) (term_on call f state v term).answer
  unfolding with_value
  term_on_the_way terms u v taken state None m lt e h = yields_stop NoTree
  term_on_the_way terms u v taken state (Some (Slot slot)) m lt e h =
      yields_then _ _ (λ k q. yields_finish _ (kid_on_the_way _ u v _ taken false state k lt refl h
      (λ same. (slot_touches _ state None slot (marked_term terms u v _ m e same)).holds k q)))
  term_on_the_way terms u v taken state (Some (Set attr x)) m lt e h =
      yields_then _ _ (λ z _. yields_finish _ (skip_on_the_way _ u v _ taken state _ refl refl h (λ same. true≢false (sym (marked_term terms u v _ m e same)))))
  term_on_the_way terms u v taken state (Some (Test x)) m lt e h =
      yields_then _ _ (λ z _. yields_chosen (is_zero z) _ _ (λ _. yields_stop NoTree)
      (λ _. yields_finish _ (skip_on_the_way _ u v _ taken state _ refl refl h (λ same. true≢false (sym (marked_term terms u v _ m e same))))))
  term_on_the_way terms u v taken state (Some (Repeat first last item from to)) m lt e h =
      yields_then _ _ (λ a _. yields_then _ _ (λ b _. yields_then _ _ (λ items _.
      yields_finish _ (kid_on_the_way _ u v _ taken false state _ lt refl h (λ same. absurd (true≢false (sym (marked_term terms u v _ m e same))))))))
  term_on_the_way terms u v taken state (Some (Many item from to)) m lt e h =
      yields_then _ _ (λ items _.
      yields_finish _ (kid_on_the_way _ u v _ taken false state _ lt refl h (λ same. absurd (true≢false (sym (marked_term terms u v _ m e same))))))
  term_on_the_way terms u v taken state (Some (Pick cases other)) m lt e h =
      yields_then _ _ (λ k q. yields_finish _ (kid_on_the_way _ u v _ taken true state k lt refl h
      (λ same. let each = and_parts (cases_marked marks cases) (sym_marked marks other.sym) (marked_term terms u v _ m e same) in
      (pick_touches _ state cases other each.0 each.1).holds k q)))

  -- the order takes u in the end
  terms_on_the_way : (provides : ℕ → ℕ → Type 0) (terms : List CoreTerm) (u : ℕ) (taken order : List ℕ) (state : State) → MarkedAt terms u → u < length terms
      → InOrder provides (length terms) taken order → IsOnTheWay (length terms) u (is_taken taken u) state
      → Yields (λ s. IsOnTheWay (length terms) u true s) (terms_on call f terms order state).answer
  unfolding terms_on
  terms_on_the_way provides terms u taken [] state m lt o h = yields_finish state (subst (λ b. IsOnTheWay (length terms) u b state) (o u lt) h)
  terms_on_the_way provides terms u taken (v ∷ order) state m lt o h =
      yields_bind _ _ (term_on_the_way terms u v (is_taken taken u) state (slice_get terms v) m lt refl h)
      (λ next k. terms_on_the_way provides terms u (v ∷ taken) order next m lt o.1 k)

  fresh_on_the_way : (terms u : ℕ) → IsOnTheWay terms u false (start terms)
  fresh_on_the_way terms u = record { size = length-replicate terms None; touched = λ p. absurd (true≢false (sym p)) }

  abbrev MarkedPlace : List CoreTerm → Type 0
  MarkedPlace terms = (u : ℕ) × MarkedAt terms u × (u < length terms)

  marked_later : (term : CoreTerm) (terms : List CoreTerm) → MarkedPlace terms → MarkedPlace (term ∷ terms)
  marked_later term terms m = let lt = m.2 in (suc m.0, m.1, omega arith)

  marked_from : (term : CoreTerm) (terms : List CoreTerm) (b : Bool) → term_marked marks term ≡ b → (b || some_marked marks terms) ≡ true
      → (some_marked marks terms ≡ true → MarkedPlace terms) → MarkedPlace (term ∷ terms)
  marked_from term terms true e h more = (zero, (term, refl, e), omega arith)
  marked_from term terms false e h more = marked_later term terms (more h)

  marked_place : (terms : List CoreTerm) → some_marked marks terms ≡ true → MarkedPlace terms
  marked_place [] h = absurd (true≢false (sym h))
  marked_place (term ∷ terms) h = marked_from term terms _ refl h (marked_place terms)

  alt_touches : (provides : ℕ → ℕ → Type 0) (alt : CoreAlt) → InOrder provides (length alt.terms) [] alt.order → some_marked marks alt.terms ≡ true
      → Yields TreeTouches (alt_on call f alt).answer
  unfolding alt_on node_of
  alt_touches provides alt o h =
      let m = marked_place alt.terms h in
      yields_bind _ _ (terms_on_the_way provides alt.terms m.0 [] alt.order (start (length alt.terms)) m.1 m.2 o (fresh_on_the_way _ m.0))
      (λ state k. yields_finish _ (record { touching = done_touches state.done m.0 _ (k.touched refl) }))

-- the alternatives from the one at hand on run all of their terms
abbrev AreOrdered : Frame → List CoreAlt → Type 0
AreOrdered f alts = (k : ℕ) (alt : CoreAlt) → slice_get alts k ≡ Some alt → IsOrdered f.grammar (f.rule, f.alt + k) alt

ordered_first : (f : Frame) (alt : CoreAlt) (alts : List CoreAlt) → AreOrdered f (alt ∷ alts) → IsOrdered f.grammar (f.rule, f.alt) alt
ordered_first f alt alts o = subst (λ k. IsOrdered f.grammar (f.rule, k) alt) (let e : f.alt + 0 ≡ f.alt = omega arith in e) (o zero alt refl)

ordered_rest : (f : Frame) (alt : CoreAlt) (alts : List CoreAlt) → AreOrdered f (alt ∷ alts) → AreOrdered (record f { alt = f.alt + 1 }) alts
ordered_rest f alt alts o k other e = subst (λ n. IsOrdered f.grammar (f.rule, n) other) (let e : f.alt + suc k ≡ (f.alt + 1) + k = omega arith in e)
    (o (suc k) other e)

alts_touch : (marks : Marks) (call : Call) → TouchingCalls marks call → (f : Frame) (alts : List CoreAlt) → AreOrdered f alts → all_marked marks alts ≡ true
    → Yields TreeTouches (alts_on call f alts).answer
unfolding alts_on
alts_touch marks call calls f [] o h = yields_stop NoTree
alts_touch marks call calls f (alt ∷ alts) o h =
    let each = and_parts (some_marked marks alt.terms) (all_marked marks alts) h in
    yields_else _ _ (alt_touches marks call calls f (Provides f.grammar (f.rule, f.alt) alt.terms) alt (ordered_first f alt alts o) each.0)
    (alts_touch marks call calls (record f { alt = f.alt + 1 }) alts (ordered_rest f alt alts o) each.1)

-- a rule that a round marks
abbrev AltsMarked : Marks → Option CoreRule → Type 0
AltsMarked marks None = ⊥
AltsMarked marks (Some rule) = all_marked marks rule.alts ≡ true

marked_alts : (marks : Marks) (rule : Option CoreRule) → or_false (option_map (λ r. all_marked marks r.alts) rule) ≡ true → AltsMarked marks rule
marked_alts marks None h = absurd (true≢false (sym h))
marked_alts marks (Some rule) h = h

rule_touches : (marks : Marks) (call : Call) → TouchingCalls marks call → (f : Frame) → f.alt ≡ 0 → (rule : Option CoreRule) → rule_at f.grammar f.rule ≡ rule
    → Good f.grammar → AltsMarked marks rule → Yields TreeTouches (rule_run call f rule).answer
rule_touches marks call calls f first None e good h = yields_stop NoTree
rule_touches marks call calls f first (Some rule) e good h =
    alts_touch marks call calls f rule.alts
    (λ k alt q. subst (λ n. IsOrdered f.grammar (f.rule, n) alt) (let s : k ≡ f.alt + k = omega arith in s)
    (good.ordered (f.rule, k) rule alt (record { is_rule = e; is_alt = q }))) h

unmarked : (rule : Option CoreRule) → or_false (option_map (λ (r : CoreRule). false) rule) ≡ true → ⊥
unmarked None h = true≢false (sym h)
unmarked (Some rule) h = true≢false (sym h)

den_touches : (g : Grammar) → Good g → (k h : ℕ) → TouchingCalls (round g k) (den g h)
unfolding den rule_on round
den_touches g good k zero = record { touching = λ r s outer m. yields_err Deep }
den_touches g good zero (suc h) =
    record { touching = λ r s outer m. absurd (unmarked (slice_get g.rules r) (sym (ap or_false (slice_get-map (λ (rule : CoreRule). false) g.rules r)) ∙ m)) }
den_touches g good (suc k) (suc h) = record {
  touching = λ r s outer m.
      rule_touches (round g k) (den g h) (den_touches g good k h) (record { grammar = g; rule = r; alt = 0; bytes = s; outer = outer }) refl
      (rule_at g r) refl good
      (marked_alts (round g k) (rule_at g r) (sym (ap or_false (slice_get-map (λ (rule : CoreRule). all_marked (round g k) rule.alts) g.rules r)) ∙ m));
}

pub touching_touches : TouchingTouches
touching_touches g h r s outer tree good must e = (((den_touches g good must.rounds h).touching r s outer must.marked).holds tree e).touching
