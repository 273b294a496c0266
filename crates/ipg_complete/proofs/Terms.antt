-- The completed terms of an alternative, each beside the term as written.
use Rattle.std.proofs.Common.{◌≡◌, ℕ, zero, suc, ◌+◌, ◌<◌, refl, sym, ap, subst, ◌∙◌, arith, List, [], ◌∷◌, Option, Some, None, map, length}
use Rattle.std.specs.Prelude.{slice_get, option_map, sum_by}
use Rattle.std.specs.List.{AllByRecursion}
use Rattle.std.proofs.lemmas.List.{length-map}
use Rattle.std.proofs.lemmas.List.Sums.{sum_by-cons}
use Rattle.std.proofs.lemmas.Option.{slice_get-map}
use Rattle.ipg_core.specs.declared.grammar.Sym.{Sym}
use Rattle.ipg_core.specs.declared.grammar.Sym.TheVariants.{Text}
use Rattle.ipg_core.specs.declared.grammar.CoreField.TheVariants.{End}
use Rattle.ipg_core.specs.declared.grammar.CoreExpr.{CoreExpr}
use Rattle.ipg_core.specs.declared.grammar.CoreExpr.TheVariants.{Seen, After}
use Rattle.ipg_core.specs.declared.grammar.CoreTerm.{CoreTerm}
use Rattle.ipg_core.specs.declared.grammar.CoreTerm.TheVariants as core
use Rattle.ipg_core.specs.Grammar.{Grammar}
use Rattle.ipg_core.specs.Mention.{Mention, SeenOf, ItemOf, AfterOf, OwnOf, OuterOf, FieldOf, LoopOf, mentions, EachSym}
use Rattle.ipg_core.specs.Order.{Sets}
use Rattle.ipg_core.specs.Good.{HasItems, IsSlotOrSwitch, IsSym, IsGoodMention, IsGoodShape, slots_in}
use Rattle.ipg_names.specs.declared.named.NamedSlot.{NamedSlot}
use Rattle.ipg_names.specs.declared.named.NamedTerm.{NamedTerm}
use Rattle.ipg_names.specs.declared.named.NamedTerm.TheVariants as named
use Rattle.ipg_names.specs.Bare.{bare_case, bare_term}
use Rattle.ipg_complete.specs.Completion.{behind, case_of, term_of, terms_from}
use Rattle.ipg_complete.proofs.Lists.{written, all_more}
use Rattle.ipg_complete.proofs.Mentions.{mentions_end, mentions_after}

-- ---- one term

pub each_more : (P Q : Sym → Type 0) (term : CoreTerm) → ((s : Sym) → P s → Q s) → EachSym P term → EachSym Q term
each_more P Q (core.Slot slot) f h = f slot.sym h
each_more P Q (core.Set attr e) f h = tt
each_more P Q (core.Test e) f h = tt
each_more P Q (core.Repeat first last item from to) f h = f item h
each_more P Q (core.Many item from to) f h = f item h
each_more P Q (core.Pick cases other) f h = (all_more (λ c. P c.1.sym) (λ c. Q c.1.sym) cases (λ c p. f c.1.sym p) h.0, f other.sym h.1)

abbrev Pair : Type 0
Pair = CoreExpr × NamedSlot

cases_syms : (P : Sym → Type 0) (left : CoreExpr) (cases : List Pair) → AllByRecursion (λ c. P c.1.sym) (map bare_case cases)
    → AllByRecursion (λ c. P c.1.sym) (map (case_of left) cases)
cases_syms P left [] h = tt
cases_syms P left (c ∷ cases) h = (h.0, cases_syms P left cases h.1)

pub same_syms : (P : Sym → Type 0) (left : CoreExpr) (t : NamedTerm) → EachSym P (bare_term t) → EachSym P (term_of left t)
same_syms P left (named.Slot slot) h = h
same_syms P left (named.Set attr value) h = h
same_syms P left (named.Test cond) h = h
same_syms P left (named.Repeat first last item from to) h = h
same_syms P left (named.Many item place) h = h
same_syms P left (named.Pick cases other) h = (cases_syms P left cases h.0, h.1)

pub same_shape : (g g' : Grammar) (left : CoreExpr) (t : NamedTerm) → length g.names ≡ length g'.names → IsGoodShape g (bare_term t)
    → IsGoodShape g' (term_of left t)
same_shape g g' left (named.Slot slot) e h = h
same_shape g g' left (named.Set attr value) e h = subst (λ n. attr < n) e h
same_shape g g' left (named.Test cond) e h = h
same_shape g g' left (named.Repeat first last item from to) e h = h
same_shape g g' left (named.Many item place) e h = h
same_shape g g' left (named.Pick cases other) e h = h

same_slots : (left : CoreExpr) (t : NamedTerm) → slots_in (term_of left t) ≡ slots_in (bare_term t)
same_slots left (named.Slot slot) = refl
same_slots left (named.Set attr value) = refl
same_slots left (named.Test cond) = refl
same_slots left (named.Repeat first last item from to) = refl
same_slots left (named.Many item place) = refl
same_slots left (named.Pick cases other) = ap (λ n. n + 1) (length-map cases (case_of left) ∙ sym (length-map cases bare_case))

set_is : (left : CoreExpr) (t : NamedTerm) (attr : ℕ) (e : CoreExpr) → bare_term t ≡ core.Set attr e → term_of left t ≡ core.Set attr e
set_is left (named.Set a value) attr e h = h
set_is left (named.Slot slot) attr e h = absurd (cc)
set_is left (named.Test cond) attr e h = absurd (cc)
set_is left (named.Repeat first last item from to) attr e h = absurd (cc)
set_is left (named.Many item place) attr e h = absurd (cc)
set_is left (named.Pick cases other) attr e h = absurd (cc)

set_was : (left : CoreExpr) (t : NamedTerm) (attr : ℕ) (e : CoreExpr) → term_of left t ≡ core.Set attr e → bare_term t ≡ core.Set attr e
set_was left (named.Set a value) attr e h = h
set_was left (named.Slot slot) attr e h = absurd (cc)
set_was left (named.Test cond) attr e h = absurd (cc)
set_was left (named.Repeat first last item from to) attr e h = absurd (cc)
set_was left (named.Many item place) attr e h = absurd (cc)
set_was left (named.Pick cases other) attr e h = absurd (cc)

slot_kept : (left : CoreExpr) (o : Option NamedTerm) → IsSlotOrSwitch (option_map bare_term o) → IsSlotOrSwitch (option_map (term_of left) o)
slot_kept left (Some (named.Slot slot)) h = tt
slot_kept left (Some (named.Pick cases other)) h = tt
slot_kept left (Some (named.Set attr value)) h = absurd h
slot_kept left (Some (named.Test cond)) h = absurd h
slot_kept left (Some (named.Repeat first last item from to)) h = absurd h
slot_kept left (Some (named.Many item place)) h = absurd h
slot_kept left None h = absurd h

items_kept : (left : CoreExpr) (o : Option NamedTerm) → HasItems (option_map bare_term o) → HasItems (option_map (term_of left) o)
items_kept left (Some (named.Repeat first last item from to)) h = tt
items_kept left (Some (named.Many item place)) h = tt
items_kept left (Some (named.Slot slot)) h = absurd h
items_kept left (Some (named.Pick cases other)) h = absurd h
items_kept left (Some (named.Set attr value)) h = absurd h
items_kept left (Some (named.Test cond)) h = absurd h
items_kept left None h = absurd h

-- ---- the terms of an alternative

-- the `left` of the term that stands i terms on
abbrev pub left_at : ℕ → CoreExpr → List NamedTerm → ℕ → CoreExpr
left_at u left [] i = left
left_at u left (t ∷ ts) zero = left
left_at u left (t ∷ ts) (suc i) = left_at (u + 1) (behind u left (term_of left t)) ts i

pub as_many : (u : ℕ) (left : CoreExpr) (ts : List NamedTerm) → length (terms_from u left ts) ≡ length ts
as_many u left [] = refl
as_many u left (t ∷ ts) = ap suc (as_many (u + 1) (behind u left (term_of left t)) ts)

pub term_at : (u : ℕ) (left : CoreExpr) (ts : List NamedTerm) (i : ℕ)
    → slice_get (terms_from u left ts) i ≡ option_map (term_of (left_at u left ts i)) (slice_get ts i)
term_at u left [] i = refl
term_at u left (t ∷ ts) zero = refl
term_at u left (t ∷ ts) (suc i) = term_at (u + 1) (behind u left (term_of left t)) ts i

pub slots_same : (u : ℕ) (left : CoreExpr) (ts : List NamedTerm) → sum_by slots_in (terms_from u left ts) ≡ sum_by slots_in (map bare_term ts)
slots_same u left [] = refl
slots_same u left (t ∷ ts) =
    let a = sum_by-cons slots_in (term_of left t) (terms_from (u + 1) (behind u left (term_of left t)) ts) in
    let b = sum_by-cons slots_in (bare_term t) (map bare_term ts) in
    let c = slots_same (u + 1) (behind u left (term_of left t)) ts in
    let d = same_slots left t in
    a ∙ omega (arith, c, d) ∙ sym b

module _ (left : CoreExpr) (ts : List NamedTerm) where
  abbrev news : List CoreTerm
  news = terms_from 0 left ts

  abbrev bares : List CoreTerm
  bares = map bare_term ts

  -- the completed term at a place, and the bare one, of the term as written there
  pub record Beside (u : ℕ) (term : CoreTerm) : Type 0 where
    pub written : NamedTerm
    pub is_written : slice_get ts u ≡ Some written
    pub is : term ≡ term_of (left_at 0 left ts u) written

  some_of : (f : NamedTerm → CoreTerm) (o : Option NamedTerm) (term : CoreTerm) → option_map f o ≡ Some term → (t : NamedTerm) × (o ≡ Some t) × (term ≡ f t)
  some_of f None term e = absurd (cc)
  some_of f (Some t) term e = (t, refl, cc)

  pub beside : (u : ℕ) (term : CoreTerm) → slice_get news u ≡ Some term → Beside u term
  beside u term e =
      let w = some_of (term_of (left_at 0 left ts u)) (slice_get ts u) term (sym (term_at 0 left ts u) ∙ e) in
      record { written = w.0; is_written = w.1; is = w.2 }

  pub bare_at : (u : ℕ) (t : NamedTerm) → slice_get ts u ≡ Some t → slice_get bares u ≡ Some (bare_term t)
  bare_at u t e = slice_get-map bare_term ts u ∙ ap (option_map bare_term) e

  pub new_at : (u : ℕ) (t : NamedTerm) → slice_get ts u ≡ Some t → slice_get news u ≡ Some (term_of (left_at 0 left ts u) t)
  new_at u t e = term_at 0 left ts u ∙ ap (option_map (term_of (left_at 0 left ts u))) e

  pub sets_to : (v attr : ℕ) → Sets bares v attr → Sets news v attr
  sets_to v attr h =
      let w = written bare_term ts v (core.Set attr h.0) h.1 in
      (h.0, new_at v w.item w.is_item ∙ ap Some (set_is (left_at 0 left ts v) w.item attr h.0 (sym w.is)))

  pub sets_from : (v attr : ℕ) → Sets news v attr → Sets bares v attr
  sets_from v attr h =
      let w = beside v (core.Set attr h.0) h.1 in
      (h.0, bare_at v w.written w.is_written ∙ ap Some (set_was (left_at 0 left ts v) w.written attr h.0 (sym w.is)))

  pub slots_to : (v : ℕ) → IsSlotOrSwitch (slice_get bares v) → IsSlotOrSwitch (slice_get news v)
  slots_to v h = subst IsSlotOrSwitch (sym (term_at 0 left ts v))
      (slot_kept (left_at 0 left ts v) (slice_get ts v) (subst IsSlotOrSwitch (slice_get-map bare_term ts v) h))

  pub items_to : (v : ℕ) → HasItems (slice_get bares v) → HasItems (slice_get news v)
  items_to v h = subst HasItems (sym (term_at 0 left ts v))
      (items_kept (left_at 0 left ts v) (slice_get ts v) (subst HasItems (slice_get-map bare_term ts v) h))

-- ---- what `left` names: slots, switches and what has items, each before the term

module _ (g : Grammar) (all : List CoreTerm) where
  abbrev pub IsLeft : ℕ → Mention → Type 0
  IsLeft n (SeenOf v s) = IsSlotOrSwitch (slice_get all v) × IsSym g s
  IsLeft n (ItemOf v) = ⊥
  IsLeft n (AfterOf v) = HasItems (slice_get all v) × (v < n)
  IsLeft n (OwnOf a) = ⊥
  IsLeft n (OuterOf a) = ⊥
  IsLeft n (FieldOf a) = ⊥
  IsLeft n LoopOf = ⊥

  abbrev pub NamesLeft : ℕ → CoreExpr → Type 0
  NamesLeft n left = AllByRecursion (IsLeft n) (mentions left)

  later : (n m : ℕ) (k : Mention) → IsLeft n k → IsLeft (n + m) k
  later n m (SeenOf v s) h = h
  later n m (ItemOf v) h = h
  later n m (AfterOf v) h = (h.0, let lt = h.1 in omega arith)
  later n m (OwnOf a) h = h
  later n m (OuterOf a) h = h
  later n m (FieldOf a) h = h
  later n m LoopOf h = h

  pub left_is_good : (holder : Option (ℕ × ℕ)) (u : ℕ) (k : Mention) → IsLeft u k → IsGoodMention g holder all u k
  left_is_good holder u (SeenOf v s) h = h
  left_is_good holder u (ItemOf v) h = absurd h
  left_is_good holder u (AfterOf v) h = (h.0, λ e. let lt = h.1 in omega (arith, e))
  left_is_good holder u (OwnOf a) h = absurd h
  left_is_good holder u (OuterOf a) h = absurd h
  left_is_good holder u (FieldOf a) h = absurd h
  left_is_good holder u LoopOf h = absurd h

  all_later : (n m : ℕ) (left : CoreExpr) → NamesLeft n left → NamesLeft (n + m) left
  all_later n m left h = all_more (IsLeft n) (IsLeft (n + m)) (mentions left) (later n m) h

  end_names : (n u : ℕ) (s : Sym) → IsSlotOrSwitch (slice_get all u) → IsSym g s → NamesLeft n (Seen u s End)
  end_names n u s h k = subst (AllByRecursion (IsLeft n)) (sym (mentions_end u s)) ((h, k), tt)

  items_name : (u : ℕ) (left : CoreExpr) → HasItems (slice_get all u) → NamesLeft u left → NamesLeft (u + 1) (After u left)
  items_name u left h k =
      subst (AllByRecursion (IsLeft (u + 1))) (sym (mentions_after u left)) ((h, omega arith), all_later u 1 left k)

  behind_names : (u : ℕ) (left : CoreExpr) (t : CoreTerm) → slice_get all u ≡ Some t → EachSym (IsSym g) t → NamesLeft u left
      → NamesLeft (u + 1) (behind u left t)
  behind_names u left (core.Slot slot) e s h = end_names (u + 1) u slot.sym (subst IsSlotOrSwitch (sym e) tt) s
  behind_names u left (core.Set attr value) e s h = all_later u 1 left h
  behind_names u left (core.Test cond) e s h = all_later u 1 left h
  behind_names u left (core.Repeat first last item from to) e s h = items_name u left (subst HasItems (sym e) tt) h
  behind_names u left (core.Many item from to) e s h = items_name u left (subst HasItems (sym e) tt) h
  behind_names u left (core.Pick cases other) e s h = end_names (u + 1) u (Text []) (subst IsSlotOrSwitch (sym e) tt) tt

  pub left_names : (u : ℕ) (left : CoreExpr) (ts : List NamedTerm) (i : ℕ) → ((j : ℕ) → slice_get all (u + j) ≡ slice_get (terms_from u left ts) j)
      → AllByRecursion (λ t. EachSym (IsSym g) (bare_term t)) ts → NamesLeft u left → NamesLeft (u + i) (left_at u left ts i)
  left_names u left [] i there syms h = all_later u i left h
  left_names u left (t ∷ ts) zero there syms h = all_later u 0 left h
  left_names u left (t ∷ ts) (suc i) there syms h =
      let term = term_of left t in
      let next = behind u left term in
      let head : slice_get all u ≡ Some term = ap (slice_get all) (let z : u ≡ u + 0 = omega arith in z) ∙ there 0 in
      let move : (j : ℕ) → slice_get all (u + 1 + j) ≡ slice_get (terms_from (u + 1) next ts) j =
      λ j. ap (slice_get all) (let z : u + 1 + j ≡ u + suc j = omega arith in z) ∙ there (suc j) in
      subst (λ n. NamesLeft n (left_at (u + 1) next ts i)) (let z : u + 1 + i ≡ u + suc i = omega arith in z)
      (left_names (u + 1) next ts i move syms.1 (behind_names u left term head (same_syms (IsSym g) left t syms.0) h))
