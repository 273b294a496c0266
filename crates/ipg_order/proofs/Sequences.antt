-- Orders by lists of needs are orders by providers.
use Rattle.std.proofs.Common.{◌≡◌, ℕ, zero, suc, ◌+◌, ◌<◌, refl, sym, ap, ◌∙◌, subst, arith, List, [], ◌∷◌, Some, length}
use Rattle.std.specs.Prelude.{slice_get, Contains}
use Rattle.ipg_core.specs.declared.grammar.CoreTerm.{CoreTerm}
use Rattle.ipg_core.specs.declared.grammar.CoreAlt.{CoreAlt}
use Rattle.ipg_core.specs.declared.grammar.CoreRule.{CoreRule}
use Rattle.ipg_core.specs.MustTouch.{Marks}
use Rattle.ipg_core.specs.Order.{IsNext, InOrder, Provides}
use Rattle.ipg_core.specs.Good.{AltAt, WellFormed}
use Rattle.ipg_complete.specs.Unordered.{Unordered, core_of}
use Rattle.ipg_order.specs.Stuck.{EndsAt}
use Rattle.ipg_order.specs.Needs.{needs_at, Listed}
use Rattle.ipg_order.specs.Reading.{TellWaits, holders_of}
use Rattle.ipg_order.specs.Providers.{Holders, term_needs, all_needs}
use Rattle.ipg_order.proofs.Provided.{listed_provides, provides_listed}

-- ---- two relations that are one for the items below n

module _ (P Q : ℕ → ℕ → Type 0) (n : ℕ) (to : (u v : ℕ) → u < n → P u v → Q u v) (from : (u v : ℕ) → u < n → Q u v → P u v) where
  next_to : (taken : List ℕ) (u : ℕ) → IsNext P n taken u → IsNext Q n taken u
  next_to taken u h = record {
    below = h.below;
    fresh = h.fresh;
    provided = λ v q. h.provided v (from u v h.below q);
    least = λ w lt fresh provided. h.least w lt fresh (λ v p. provided v (to w v (let a = h.below in omega arith) p));
  }

  next_from : (taken : List ℕ) (u : ℕ) → IsNext Q n taken u → IsNext P n taken u
  next_from taken u h = record {
    below = h.below;
    fresh = h.fresh;
    provided = λ v p. h.provided v (to u v h.below p);
    least = λ w lt fresh provided. h.least w lt fresh (λ v q. provided v (from w v (let a = h.below in omega arith) q));
  }

  pub order_to : (taken order : List ℕ) → InOrder P n taken order → InOrder Q n taken order
  order_to taken [] h = h
  order_to taken (u ∷ order) h = (next_to taken u h.0, order_to (u ∷ taken) order h.1)

  pub ends_to : (taken order : List ℕ) (u : ℕ) → EndsAt P n taken order u → EndsAt Q n taken order u
  ends_to taken [] u h = record { below = h.below; fresh = h.fresh; least = h.least; none_next = λ w q. h.none_next w (next_from taken w q) }
  ends_to taken (v ∷ order) u h = (next_to taken v h.0, ends_to (v ∷ taken) order u h.1)

-- ---- the list of a term's needs

pub all_length : (holders : Holders) (flags : Marks) (at : ℕ × ℕ) (terms : List CoreTerm) (n : ℕ) (rest : List CoreTerm)
    → length (all_needs holders flags at terms n rest) ≡ length rest
all_length holders flags at terms n [] = refl
all_length holders flags at terms n (term ∷ rest) = ap suc (all_length holders flags at terms (n + 1) rest)

at_number : (holders : Holders) (flags : Marks) (at : ℕ × ℕ) (terms : List CoreTerm) (n : ℕ) (rest : List CoreTerm) (u : ℕ) (term : CoreTerm)
    → slice_get rest u ≡ Some term
    → needs_at (all_needs holders flags at terms n rest) u ≡ term_needs holders flags at terms (n + u) term
at_number holders flags at terms n [] u term e = absurd (cc)
at_number holders flags at terms n (t ∷ rest) zero term e =
    let same : t ≡ term = cc in
    ap (λ x. term_needs holders flags at terms n x) same ∙ ap (λ k. term_needs holders flags at terms k term) (let z : n ≡ n + 0 = omega arith in z)
at_number holders flags at terms n (t ∷ rest) (suc u) term e =
    at_number holders flags at terms (n + 1) rest u term e ∙ ap (λ k. term_needs holders flags at terms k term)
    (let z : (n + 1) + u ≡ n + suc u = omega arith in z)

needs_is : (holders : Holders) (flags : Marks) (at : ℕ × ℕ) (terms : List CoreTerm) (u : ℕ) (term : CoreTerm) → slice_get terms u ≡ Some term
    → needs_at (all_needs holders flags at terms 0 terms) u ≡ term_needs holders flags at terms u term
needs_is holders flags at terms u term e = at_number holders flags at terms 0 terms u term e ∙ ap (λ k. term_needs holders flags at terms k term)
    (let z : 0 + u ≡ u = omega arith in z)

record Stands (terms : List CoreTerm) (u : ℕ) : Type 0 where
  term : CoreTerm
  is : slice_get terms u ≡ Some term

stands : (terms : List CoreTerm) (u : ℕ) → u < length terms → Stands terms u
stands [] u lt = absurd (omega arith)
stands (t ∷ terms) zero lt = record { term = t; is = refl }
stands (t ∷ terms) (suc u) lt = let s = stands terms u (omega arith) in record { term = s.term; is = s.is }

module _ (c : Unordered) (good : WellFormed (core_of c)) (flags : Marks) (tells : TellWaits c flags) (rule : CoreRule) (alt : CoreAlt) (at : ℕ × ℕ)
    (is : AltAt (core_of c) rule alt at) where
  abbrev lists : List (List ℕ)
  lists = all_needs (holders_of c.rules) flags at alt.terms 0 alt.terms

  to_provides : (u v : ℕ) → u < length alt.terms → Listed lists u v → Provides (core_of c) at alt.terms u v
  to_provides u v lt m = let s = stands alt.terms u lt in
      listed_provides c good flags tells rule alt at is u v s.term s.is
      (subst (λ xs. Contains xs v) (needs_is (holders_of c.rules) flags at alt.terms u s.term s.is) m)

  from_provides : (u v : ℕ) → u < length alt.terms → Provides (core_of c) at alt.terms u v → Listed lists u v
  from_provides u v lt p = let s = stands alt.terms u lt in
      subst (λ xs. Contains xs v) (sym (needs_is (holders_of c.rules) flags at alt.terms u s.term s.is))
      (provides_listed c good flags tells rule alt at is u v s.term s.is p)

  pub is_order : (order : List ℕ) → InOrder (Listed lists) (length alt.terms) [] order → InOrder (Provides (core_of c) at alt.terms) (length alt.terms) [] order
  is_order order h = order_to (Listed lists) (Provides (core_of c) at alt.terms) (length alt.terms) to_provides from_provides [] order h

  pub is_stuck : (order : List ℕ) (u : ℕ) → EndsAt (Listed lists) (length alt.terms) [] order u
      → EndsAt (Provides (core_of c) at alt.terms) (length alt.terms) [] order u
  is_stuck order u h = ends_to (Listed lists) (Provides (core_of c) at alt.terms) (length alt.terms) to_provides from_provides [] order u h
