-- Rounds only mark more, and marks that a pass leaves alone are the limit.
use Rattle.std.proofs.Common.{◌≡◌, ℕ, zero, suc, refl, sym, ap, ◌∙◌, List, [], ◌∷◌, Option, Some, None, Bool, true}
use Rattle.std.proofs.Common.{false, true≢false}
use Rattle.std.specs.Prelude.{slice_get, option_map, ◌&&◌, ◌||◌}
use Rattle.std.proofs.lemmas.Bool.{and_parts}
use Rattle.std.proofs.lemmas.Option.{slice_get-map}
use Rattle.ipg_core.specs.declared.grammar.Sym.{Sym}
use Rattle.ipg_core.specs.declared.grammar.Sym.TheVariants.{Text, Prim, Rule}
use Rattle.ipg_core.specs.declared.grammar.CoreExpr.{CoreExpr}
use Rattle.ipg_core.specs.declared.grammar.CoreSlot.{CoreSlot}
use Rattle.ipg_core.specs.declared.grammar.CoreTerm.{CoreTerm}
use Rattle.ipg_core.specs.declared.grammar.CoreTerm.TheVariants.{Slot, Set, Test, Repeat, Many, Pick}
use Rattle.ipg_core.specs.declared.grammar.CoreAlt.{CoreAlt}
use Rattle.ipg_core.specs.declared.grammar.CoreRule.{CoreRule}
use Rattle.ipg_core.specs.Grammar.{Grammar}
use Rattle.ipg_core.specs.MustTouch.{Marks, or_false, is_marked, sym_marked, cases_marked, term_marked, some_marked, all_marked, next_round, round}
use Rattle.ipg_core.specs.MustTouch.{AreLimit}
use Rattle.ipg_touch.specs.Pass.{AreBelow, AreSound, AreClosed}

both : (a b : Bool) → a ≡ true → b ≡ true → (a && b) ≡ true
both true b h k = k
both false b h k = h

either : (a b a' b' : Bool) → (a ≡ true → a' ≡ true) → (b ≡ true → b' ≡ true) → (a || b) ≡ true → (a' || b') ≡ true
either true b a' b' h k e = rw (h refl) refl
either false b true b' h k e = refl
either false b false b' h k e = k e

-- ---- more marks, more terms that touch

module _ (low high : Marks) (below : AreBelow low high) where
  sym_more : (one : Sym) → sym_marked low one ≡ true → sym_marked high one ≡ true
  sym_more (Text bytes) h = h
  sym_more (Prim prim) h = h
  sym_more (Rule r) h = below r h

  cases_more : (cases : List (CoreExpr × CoreSlot)) → cases_marked low cases ≡ true → cases_marked high cases ≡ true
  cases_more [] h = refl
  cases_more (c ∷ cases) h = let each = and_parts (sym_marked low c.1.sym) (cases_marked low cases) h in both _ _ (sym_more c.1.sym each.0)
      (cases_more cases each.1)

  term_more : (term : CoreTerm) → term_marked low term ≡ true → term_marked high term ≡ true
  term_more (Slot slot) h = sym_more slot.sym h
  term_more (Set attr e) h = h
  term_more (Test e) h = h
  term_more (Repeat first last item from to) h = h
  term_more (Many item from to) h = h
  term_more (Pick cases other) h = let each = and_parts (cases_marked low cases) (sym_marked low other.sym) h in both _ _ (cases_more cases each.0)
      (sym_more other.sym each.1)

  some_more : (terms : List CoreTerm) → some_marked low terms ≡ true → some_marked high terms ≡ true
  some_more [] h = h
  some_more (term ∷ terms) h = either (term_marked low term) (some_marked low terms) _ _ (term_more term) (some_more terms) h

  all_more : (alts : List CoreAlt) → all_marked low alts ≡ true → all_marked high alts ≡ true
  all_more [] h = refl
  all_more (alt ∷ alts) h = let each = and_parts (some_marked low alt.terms) (all_marked low alts) h in both _ _ (some_more alt.terms each.0)
      (all_more alts each.1)

-- ---- rounds

abbrev alts_marked : Marks → Option CoreRule → Bool
alts_marked marks rule = or_false (option_map (λ (r : CoreRule). all_marked marks r.alts) rule)

next_marked : (g : Grammar) (marks : Marks) (r : ℕ) → is_marked (next_round g marks) r ≡ alts_marked marks (slice_get g.rules r)
next_marked g marks r = ap or_false (slice_get-map (λ (rule : CoreRule). all_marked marks rule.alts) g.rules r)

no_rule : (rule : Option CoreRule) → or_false (option_map (λ (r : CoreRule). false) rule) ≡ true → ⊥
no_rule None h = true≢false (sym h)
no_rule (Some rule) h = true≢false (sym h)

none_in_first : (g : Grammar) (r : ℕ) → is_marked (round g zero) r ≡ true → ⊥
unfolding round
none_in_first g r h = no_rule (slice_get g.rules r) (sym (ap or_false (slice_get-map (λ (rule : CoreRule). false) g.rules r)) ∙ h)

alts_more : (low high : Marks) → AreBelow low high → (rule : Option CoreRule) → alts_marked low rule ≡ true → alts_marked high rule ≡ true
alts_more low high below None h = h
alts_more low high below (Some rule) h = all_more low high below rule.alts h

pub rise : (g : Grammar) (k : ℕ) → AreBelow (round g k) (round g (suc k))
unfolding round
rise g zero r h = absurd (none_in_first g r h)
rise g (suc k) r h = next_marked g _ r ∙ alts_more _ _ (rise g k) (slice_get g.rules r) (sym (next_marked g _ r) ∙ h)

-- a rule that touches by marks which a round bears out is marked by the next
pub next_marks : (g : Grammar) (marks : Marks) (k r : ℕ) (rule : CoreRule) → AreBelow marks (round g k) → slice_get g.rules r ≡ Some rule
    → all_marked marks rule.alts ≡ true → is_marked (round g (suc k)) r ≡ true
unfolding round
next_marks g marks k r rule below e h =
    next_marked g (round g k) r ∙ ap (alts_marked (round g k)) e ∙ all_more marks (round g k) below rule.alts h

-- each round marks no more than marks that are closed
closed_rule : (rules : List CoreRule) (marks : Marks) → AreClosed rules marks → (r : ℕ) (rule : Option CoreRule) → slice_get rules r ≡ rule
    → alts_marked marks rule ≡ true → is_marked marks r ≡ true
closed_rule rules marks closed r None e h = absurd (true≢false (sym h))
closed_rule rules marks closed r (Some rule) e h = closed r rule e h

below_closed : (g : Grammar) (marks : Marks) → AreClosed g.rules marks → (k : ℕ) → AreBelow (round g k) marks
unfolding round
below_closed g marks closed zero r h = absurd (none_in_first g r h)
below_closed g marks closed (suc k) r h =
    closed_rule g.rules marks closed r (slice_get g.rules r) refl (alts_more (round g k) marks (below_closed g marks closed k) (slice_get g.rules r)
    (sym (next_marked g (round g k) r) ∙ h))

pub is_limit : (g : Grammar) (marks : Marks) → AreSound g marks → AreClosed g.rules marks → AreLimit g marks
is_limit g marks sound closed = record {
  size = sound.size;
  exact = λ r. (λ h. record { rounds = sound.rounds; marked = sound.below r h }, λ must. below_closed g marks closed must.rounds r must.marked);
}
