-- How far an alternative has come: what its state says of the terms that have run, and that it goes on.
use Rattle.std.proofs.Common.{◌≡◌, ℕ, zero, suc, ◌<◌, refl, sym, ap, ◌∙◌, subst, arith, List, [], ◌∷◌, ◌++◌, length, Option, Some, None, Bool, true}
use Rattle.std.proofs.Common.{false, true≢false, if◌then◌else◌, ℤ, pos, negsuc, ◌⊎◌, inl, inr}
use Rattle.std.specs.Prelude.{nat_eq, slice_get, slice_set, replicate, ◌||◌}
use Rattle.std.proofs.lemmas.Bool.Decides.{nat_tests}
use Rattle.std.proofs.lemmas.List.{length-replicate}
use Rattle.ipg_core.specs.declared.grammar.CoreTerm.{CoreTerm}
use Rattle.ipg_core.specs.declared.grammar.CoreField.{CoreField}
use Rattle.ipg_core.specs.declared.grammar.Sym.{Sym}
use Rattle.ipg_core.specs.Tree.{Kid, no_kids, items_of}
use Rattle.ipg_core.specs.Environment.{Done, Values, value_at, done_at, items_so_far, seen, field_of_item}
use Rattle.ipg_core.specs.Eval as core
use Rattle.ipg_core.specs.Eval.{greatest_end}
use Rattle.ipg_core.specs.Meaning.{Frame, State, start, with_kid, with_value, environment}
use Rattle.ipg_core.specs.Order.{Sets, is_taken}
use Rattle.ipg_facts.specs.Reading.{item_of}
use Rattle.ipg_facts_laws.specs.Grows.{Grows}
use Rattle.ipg_facts_laws.proofs.Results.{KidNamed}
use Rattle.ipg_facts_laws.proofs.Items.{ItemsOf}

-- ---- results and values that are added

abbrev SetCase : List (Option Done) → ℕ → ℕ → Done → Type 0
SetCase done u t d = ((t ≡ u) × (done_at (slice_set done u (Some d)) t ≡ Some d)) ⊎ ((t ≡ u → ⊥) × (done_at (slice_set done u (Some d)) t ≡ done_at done t))

deeper : (x : Option Done) (done : List (Option Done)) (u t : ℕ) (d : Done) → SetCase done u t d → SetCase (x ∷ done) (suc u) (suc t) d
deeper x done u t d (inl e) = inl (ap suc e.0, e.1)
deeper x done u t d (inr e) = inr (λ (same : suc t ≡ suc u). e.0 (omega arith), e.1)

done_set : (done : List (Option Done)) (u t : ℕ) (d : Done) → u < length done → SetCase done u t d
done_set [] u t d lt = absurd (omega arith)
done_set (x ∷ done) zero zero d lt = inl (refl, refl)
done_set (x ∷ done) zero (suc t) d lt = inr (λ (e : suc t ≡ 0). omega arith, refl)
done_set (x ∷ done) (suc u) zero d lt = inr (λ (e : 0 ≡ suc u). omega arith, refl)
done_set (x ∷ done) (suc u) (suc t) d lt = deeper x done u t d (done_set done u t d (omega arith))

set_length : (done : List (Option Done)) (u : ℕ) (d : Option Done) → length (slice_set done u d) ≡ length done
set_length [] u d = refl
set_length (x ∷ done) zero d = refl
set_length (x ∷ done) (suc u) d = ap suc (set_length done u d)

more_by : (b a : ℕ) (y z : ℤ) (own rest : Values) (t : Bool) → (value_at own a ≡ Some z → value_at (own ++ rest) a ≡ Some z)
    → (if t then Some y else value_at own a) ≡ Some z → (if t then Some y else value_at (own ++ rest) a) ≡ Some z
more_by b a y z own rest true h e = e
more_by b a y z own rest false h e = h e

pub value_more : (own rest : Values) (a : ℕ) (z : ℤ) → value_at own a ≡ Some z → value_at (own ++ rest) a ≡ Some z
value_more [] rest a z e = absurd (cc)
value_more (v ∷ own) rest a z e = more_by v.0 a v.1 z own rest (nat_eq v.0 a) (value_more own rest a z) e

pub same_nat : (n : ℕ) → nat_eq n n ≡ true
same_nat n = grind (arith, nat_tests)

new_by : (b a : ℕ) (y z : ℤ) (own : Values) (t : Bool) → (value_at own a ≡ None → value_at (own ++ (a, z) ∷ []) a ≡ Some z)
    → (if t then Some y else value_at own a) ≡ None → (if t then Some y else value_at (own ++ (a, z) ∷ []) a) ≡ Some z
new_by b a y z own true h e = absurd (cc)
new_by b a y z own false h e = h e

value_new : (own : Values) (a : ℕ) (z : ℤ) → value_at own a ≡ None → value_at (own ++ (a, z) ∷ []) a ≡ Some z
value_new [] a z e = ap (λ t. if t then Some z else None) (same_nat a)
value_new (v ∷ own) a z e = new_by v.0 a v.1 z own (nat_eq v.0 a) (value_new own a z) e

one_by : (b a : ℕ) (y z : ℤ) (t : Bool) → nat_eq b a ≡ t → (if t then Some y else None) ≡ Some z → b ≡ a
one_by b a y z true t e = grind (arith, nat_tests)
one_by b a y z false t e = absurd (cc)

or_by : (b a : ℕ) (x y z : ℤ) (own : Values) (c : ℕ) (t : Bool) → (value_at (own ++ (b, y) ∷ []) a ≡ Some z → (value_at own a ≡ Some z) ⊎ (b ≡ a))
    → (if t then Some x else value_at (own ++ (b, y) ∷ []) a) ≡ Some z → ((if t then Some x else value_at own a) ≡ Some z) ⊎ (b ≡ a)
or_by b a x y z own c true h e = inl e
or_by b a x y z own c false h e = h e

value_or : (own : Values) (b a : ℕ) (y z : ℤ) → value_at (own ++ (b, y) ∷ []) a ≡ Some z → (value_at own a ≡ Some z) ⊎ (b ≡ a)
value_or [] b a y z e = inr (one_by b a y z _ refl e)
value_or (v ∷ own) b a y z e = or_by b a v.1 y z own v.0 (nat_eq v.0 a) (value_or own b a y z) e

-- ---- states

-- the results and attributes of these terms are those of a state
pub record Later (taken : List ℕ) (state next : State) : Type 0 where
  pub own : (a : ℕ) (z : ℤ) → value_at state.own a ≡ Some z → value_at next.own a ≡ Some z
  pub done : (t : ℕ) → is_taken taken t ≡ true → done_at next.done t ≡ done_at state.done t

pub stays_same : (taken : List ℕ) (state : State) → Later taken state state
stays_same taken state = record { own = λ a z e. e; done = λ t e. refl }

pub or_taken : (b c : Bool) → c ≡ true → b || c ≡ true
or_taken true c e = refl
or_taken false c e = e

pub later_later : (taken : List ℕ) (u : ℕ) (state next last : State) → Later taken state next → Later (u ∷ taken) next last → Later taken state last
later_later taken u state next last h k = record {
  own = λ a z e. k.own a z (h.own a z e);
  done = λ t e. k.done t (or_taken (nat_eq u t) (is_taken taken t) e) ∙ h.done t e;
}

pub onward : (taken : List ℕ) (state next last : State) → Later taken state next → Later taken next last → Later taken state last
onward taken state next last h k = record { own = λ a z e. k.own a z (h.own a z e); done = λ t e. k.done t e ∙ h.done t e }

module _ (marks : List Bool) (names : ℕ) (terms : List CoreTerm) where
  -- what holds of a state in which these terms have run, in a part of that length
  pub record Stands (eoi : ℕ) (taken : List ℕ) (state : State) : Type 0 where
    pub size : length state.done ≡ length terms
    pub fresh : (t : ℕ) → is_taken taken t ≡ false → done_at state.done t ≡ None
    pub sets : (a : ℕ) (z : ℤ) → value_at state.own a ≡ Some z → (v : ℕ) × Sets terms v a × (is_taken taken v ≡ true)
    pub items : (t : ℕ) → ItemsOf marks names eoi (item_of (slice_get terms t)) (items_so_far (done_at state.done t))
    pub named : (t : ℕ) (d : Done) → done_at state.done t ≡ Some d → KidNamed names d.kid

  done_none : (n t : ℕ) → done_at (replicate n None) t ≡ None
  done_none zero t = refl
  done_none (suc n) zero = refl
  done_none (suc n) (suc t) = done_none n t

  pub stands_first : (eoi : ℕ) → Stands eoi [] (start (length terms))
  stands_first eoi = record {
    size = length-replicate (length terms) None;
    fresh = λ t e. done_none (length terms) t;
    sets = λ a z e. absurd (cc);
    items = λ t. subst (λ d. ItemsOf marks names eoi (item_of (slice_get terms t)) (items_so_far d)) (sym (done_none (length terms) t)) tt;
    named = λ t d e. absurd (let none = done_none (length terms) t in cc);
  }

  -- a state goes on
  pub record Next (eoi : ℕ) (taken : List ℕ) (u : ℕ) (state next : State) : Type 0 where
    pub stands : Stands eoi (u ∷ taken) next
    pub later : Later taken state next

  fresh_parts : (b c : Bool) → b || c ≡ false → (b ≡ false) × (c ≡ false)
  fresh_parts true c e = absurd (true≢false e)
  fresh_parts false c e = (refl, e)

  not_same : (u t : ℕ) → nat_eq u t ≡ false → t ≡ u → ⊥
  not_same u t e same = grind (arith, nat_tests)

  not_taken : (taken : List ℕ) (u t : ℕ) → is_taken taken u ≡ false → is_taken taken t ≡ true → t ≡ u → ⊥
  not_taken taken u t e f same = true≢false (sym f ∙ ap (is_taken taken) same ∙ e)

  pub taken_first : (taken : List ℕ) (u : ℕ) → is_taken (u ∷ taken) u ≡ true
  taken_first taken u = ap (λ b. b || is_taken taken u) (same_nat u)

  module _ (eoi : ℕ) (taken : List ℕ) (u : ℕ) (fresh : is_taken taken u ≡ false) (state : State) (stands : Stands eoi taken state) where
    -- a term without a result, and with no attribute
    pub skip_next : Next eoi taken u state state
    skip_next = record {
      stands = record {
        size = stands.size;
        fresh = λ t e. stands.fresh t (fresh_parts (nat_eq u t) (is_taken taken t) e).1;
        sets = λ a z e. let s = stands.sets a z e in (s.0, s.1, or_taken (nat_eq u s.0) (is_taken taken s.0) s.2);
        items = stands.items;
        named = stands.named;
      };
      later = stays_same taken state;
    }

    module _ (is_switch : Bool) (k : Kid) (place : u < length terms) (items : ItemsOf marks names eoi (item_of (slice_get terms u)) (items_of k))
        (named : KidNamed names k) where
      abbrev result : Done
      result = record { is_switch = is_switch; kid = k }

      abbrev with_result : List (Option Done)
      with_result = slice_set state.done u (Some result)

      room : u < length state.done
      room = let a = stands.size in omega arith

      fresh_still : (t : ℕ) → (t ≡ u → ⊥) → is_taken taken t ≡ false → SetCase state.done u t result → done_at with_result t ≡ None
      fresh_still t other e (inl c) = absurd (other c.0)
      fresh_still t other e (inr c) = c.1 ∙ stands.fresh t e

      items_still : (t : ℕ) → SetCase state.done u t result → ItemsOf marks names eoi (item_of (slice_get terms t)) (items_so_far (done_at with_result t))
      items_still t (inl c) =
          subst (λ d. ItemsOf marks names eoi (item_of (slice_get terms t)) (items_so_far d)) (sym c.1)
          (subst (λ n. ItemsOf marks names eoi (item_of (slice_get terms n)) (items_of k)) (sym c.0) items)
      items_still t (inr c) = subst (λ d. ItemsOf marks names eoi (item_of (slice_get terms t)) (items_so_far d)) (sym c.1) (stands.items t)

      named_still : (t : ℕ) (d : Done) → SetCase state.done u t result → done_at with_result t ≡ Some d → KidNamed names d.kid
      named_still t d (inl c) e = let same : result ≡ d = cc in subst (λ (x : Done). KidNamed names x.kid) same named
      named_still t d (inr c) e = stands.named t d (sym c.1 ∙ e)

      done_still : (t : ℕ) → is_taken taken t ≡ true → SetCase state.done u t result → done_at with_result t ≡ done_at state.done t
      done_still t e (inl c) = absurd (not_taken taken u t fresh e c.0)
      done_still t e (inr c) = c.1

      set_here : SetCase state.done u u result → done_at with_result u ≡ Some result
      set_here (inl c) = c.1
      set_here (inr c) = absurd (c.0 refl)

      pub kid_there : done_at (with_kid state u is_switch k).done u ≡ Some result
      unfolding with_kid
      kid_there = set_here (done_set state.done u u result room)

      pub kid_next : Next eoi taken u state (with_kid state u is_switch k)
      unfolding with_kid
      kid_next = record {
        stands = record {
          size = set_length state.done u (Some result) ∙ stands.size;
          fresh = λ t e.
              let parts = fresh_parts (nat_eq u t) (is_taken taken t) e in
              fresh_still t (not_same u t parts.0) parts.1 (done_set state.done u t result room);
          sets = λ a z e. let s = stands.sets a z e in (s.0, s.1, or_taken (nat_eq u s.0) (is_taken taken s.0) s.2);
          items = λ t. items_still t (done_set state.done u t result room);
          named = λ t d e. named_still t d (done_set state.done u t result room) e;
        };
        later = record { own = λ a z e. e; done = λ t e. done_still t e (done_set state.done u t result room) };
      }

    module _ (attr : ℕ) (z : ℤ) (sets : Sets terms u attr) (once : (v : ℕ) → Sets terms v attr → v ≡ u) where
      none_by : (o : Option ℤ) → value_at state.own attr ≡ o → value_at state.own attr ≡ None
      none_by None e = e
      none_by (Some y) e =
          let s = stands.sets attr y e in absurd (not_taken taken u s.0 fresh s.2 (once s.0 s.1))

      pub value_there : value_at (with_value state attr z).own attr ≡ Some z
      unfolding with_value
      value_there = value_new state.own attr z (none_by (value_at state.own attr) refl)

      sets_still : (a : ℕ) (y : ℤ) → (value_at state.own a ≡ Some y) ⊎ (attr ≡ a) → (v : ℕ) × Sets terms v a × (is_taken (u ∷ taken) v ≡ true)
      sets_still a y (inl e) = let s = stands.sets a y e in (s.0, s.1, or_taken (nat_eq u s.0) (is_taken taken s.0) s.2)
      sets_still a y (inr e) = (u, subst (Sets terms u) e sets, taken_first taken u)

      pub value_next : Next eoi taken u state (with_value state attr z)
      unfolding with_value
      value_next = record {
        stands = record {
          size = stands.size;
          fresh = λ t e. stands.fresh t (fresh_parts (nat_eq u t) (is_taken taken t) e).1;
          sets = λ a y e. sets_still a y (value_or state.own attr a z y e);
          items = stands.items;
          named = stands.named;
        };
        later = record { own = λ a y e. value_more state.own ((attr, z) ∷ []) a y e; done = λ t e. refl };
      }

  -- ---- the environment goes on as the state does

  results_stay : (f : Frame) (taken : List ℕ) (eoi : ℕ) (state last : State) → Stands eoi taken state → Later taken state last
      → (t : ℕ) (b : Bool) → is_taken taken t ≡ b → (symbol : Sym) (field : CoreField) (z : ℤ)
      → seen f.grammar.names symbol field (done_at state.done t) ≡ Some z → seen f.grammar.names symbol field (done_at last.done t) ≡ Some z
  results_stay f taken eoi state last stands later t true e symbol field z h = ap (seen f.grammar.names symbol field) (later.done t e) ∙ h
  results_stay f taken eoi state last stands later t false e symbol field z h = absurd (let none = stands.fresh t e in cc)

  no_item : (f : Frame) (field : CoreField) (i z : ℤ) → field_of_item f.grammar.names field (core.item_at no_kids i) ≡ Some z → ⊥
  no_item f field (pos n) z e = cc
  no_item f field (negsuc n) z e = cc

  items_stay : (f : Frame) (taken : List ℕ) (eoi : ℕ) (state last : State) → Stands eoi taken state → Later taken state last
      → (t : ℕ) (b : Bool) → is_taken taken t ≡ b → (field : CoreField) (i z : ℤ)
      → field_of_item f.grammar.names field (core.item_at (items_so_far (done_at state.done t)) i) ≡ Some z
      → field_of_item f.grammar.names field (core.item_at (items_so_far (done_at last.done t)) i) ≡ Some z
  items_stay f taken eoi state last stands later t true e field i z h =
      ap (λ d. field_of_item f.grammar.names field (core.item_at (items_so_far d) i)) (later.done t e) ∙ h
  items_stay f taken eoi state last stands later t false e field i z h =
      absurd (no_item f field i z (ap (λ d. field_of_item f.grammar.names field (core.item_at (items_so_far d) i)) (sym (stands.fresh t e)) ∙ h))

  pub env_grows : (f : Frame) (taken : List ℕ) (state last : State) (item : Option ℤ) → Stands (length f.bytes) taken state → Later taken state last
      → Grows (is_taken taken) (environment f state None) (environment f last item)
  unfolding environment
  env_grows f taken state last item stands later = record {
    eoi = refl;
    own = later.own;
    outer = λ a z e. e;
    turn = λ z e. absurd (cc);
    results = λ t symbol field z e. results_stay f taken (length f.bytes) state last stands later t (is_taken taken t) refl symbol field z e;
    items = λ t field i z e. items_stay f taken (length f.bytes) state last stands later t (is_taken taken t) refl field i z e;
    ended = λ t e. ap (λ d. greatest_end (items_so_far d)) (later.done t e);
  }
