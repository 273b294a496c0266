-- Alternatives that are tried, one after another.
use Rattle.std.proofs.Common.{◌≡◌, ℕ, zero, suc, ◌+◌, ◌<◌, ◌≤◌, List, [], ◌∷◌, ◌++◌, length, refl, sym, ap, subst, ◌∙◌, arith, take, drop, get_or}
use Rattle.std.proofs.Common.{append_assoc, ℤ, Bool, true, false, if◌then◌else◌, Some}
use Rattle.std.specs.Prelude.{slice_get, IsTrue}
use Rattle.std.specs.List.{AllByRecursion}
use Rattle.ipg_cert.specs.declared.refutation.Refutation.{Refutation}
use Rattle.ipg_cert.specs.Laws.{ChecksRefute}
use Rattle.ipg_cert.specs.Checks.{checks}
use Rattle.ipg_core.specs.declared.grammar.CoreAlt.{CoreAlt}
use Rattle.ipg_core.specs.declared.grammar.CoreRule.{CoreRule}
use Rattle.ipg_core.specs.Grammar.{Grammar}
use Rattle.ipg_core.specs.MustTouch.{Marks, is_marked}
use Rattle.ipg_facts_edges.specs.Edges.{numbered}
use Rattle.ipg_facts.specs.Keep.{alt_of}
use Rattle.ipg_facts.specs.Gap.{HasAlternative}
use Rattle.std.proofs.lemmas.List.{take_all, take_more, take-append-drop}
use Rattle.ipg_cover.specs.declared.least.LeastGap.{LeastGap}
use Rattle.ipg_cover.specs.declared.least.LeastGap.TheVariants.{Refuted, Gap}
use Rattle.ipg_cover.specs.Gaps.{TellsGap}
use Rattle.ipg_cover.specs.Cover.{Leaves, AreRefuted, Ground, Covers, IsLeastGap, HasGap, alternatives, alternatives_of, gap_at}

module _ (g : Grammar) (marks : Marks) where
  pub refuted_more : (places : List (ℕ × ℕ)) (refutations : List Refutation) (place : ℕ × ℕ) (r : Refutation) → AreRefuted g marks places refutations
      → IsTrue (checks (gap_at g marks place).0 (gap_at g marks place).1 r) → AreRefuted g marks (places ++ place ∷ []) (refutations ++ r ∷ [])
  refuted_more [] [] place r h k = (k, tt)
  refuted_more [] (s ∷ refutations) place r h k = absurd h
  refuted_more (p ∷ places) [] place r h k = absurd h
  refuted_more (p ∷ places) (s ∷ refutations) place r h k = (h.0, refuted_more places refutations place r h.1 k)

  pub none_leaves : (places : List (ℕ × ℕ)) (refutations : List Refutation) → ChecksRefute → AreRefuted g marks places refutations
      → AllByRecursion (λ place. ¬ Leaves g marks place) places
  none_leaves [] refutations refute h = tt
  none_leaves (place ∷ places) [] refute h = absurd h
  none_leaves (place ∷ places) (r ∷ refutations) refute h =
      (refute (gap_at g marks place).0 (gap_at g marks place).1 r h.0, none_leaves places refutations refute h.1)

-- ---- each place that is listed is an alternative's

module _ (P : ℕ × ℕ → Type 0) where
  both_parts : (xs ys : List (ℕ × ℕ)) → AllByRecursion P xs → AllByRecursion P ys → AllByRecursion P (xs ++ ys)
  both_parts [] ys h k = k
  both_parts (x ∷ xs) ys h k = (h.0, both_parts xs ys h.1 k)

  each_of : {A : Type 0} (f : ℕ → A → List (ℕ × ℕ)) (n : ℕ) (xs : List A)
      → ((i : ℕ) (x : A) → slice_get xs i ≡ Some x → AllByRecursion P (f (n + i) x)) → AllByRecursion P (numbered n f xs)
  each_of f n [] h = tt
  each_of f n (x ∷ xs) h =
      let here : n + 0 ≡ n = omega arith in
      both_parts (f n x) (numbered (n + 1) f xs) (subst (λ m. AllByRecursion P (f m x)) here (h 0 x refl))
      (each_of f (n + 1) xs (λ i y e. let next : n + suc i ≡ n + 1 + i = omega arith in subst (λ m. AllByRecursion P (f m y)) next (h (suc i) y e)))

abbrev IsThere : Grammar → ℕ × ℕ → Type 0
IsThere g place = HasAlternative g place.0 place.1

flagged : (g : Grammar) (b : Bool) (places : List (ℕ × ℕ)) → AllByRecursion (IsThere g) places → AllByRecursion (IsThere g) (if b then places else [])
flagged g true places h = h
flagged g false places h = tt

there : (g : Grammar) (r a : ℕ) (rule : CoreRule) (alt : CoreAlt) → slice_get g.rules r ≡ Some rule → slice_get rule.alts a ≡ Some alt → HasAlternative g r a
there g r a rule alt e k = (alt, ap (λ found. alt_of found a) e ∙ k)

pub all_there : (g : Grammar) (flags : Marks) → AllByRecursion (IsThere g) (alternatives g flags)
all_there g flags =
    each_of (IsThere g) (λ r rule. if is_marked flags r then alternatives_of r rule.alts else []) 0 g.rules
    (λ r rule e. let start : 0 + r ≡ r = omega arith in
    subst (λ n. AllByRecursion (IsThere g) (if is_marked flags n then alternatives_of n rule.alts else [])) (sym start)
    (flagged g (is_marked flags r) (alternatives_of r rule.alts)
    (each_of (IsThere g) (λ a alt. (r, a) ∷ []) 0 rule.alts
    (λ a alt k. let first : 0 + a ≡ a = omega arith in
    subst (λ n. AllByRecursion (IsThere g) ((r, n) ∷ [])) (sym first) (there g r a rule alt e k, tt)))))

pub one_there : (g : Grammar) (places : List (ℕ × ℕ)) (i : ℕ) (d : ℕ × ℕ) → i < length places → AllByRecursion (IsThere g) places
    → IsThere g (get_or places i d)
one_there g [] i d lt h = absurd (omega arith)
one_there g (p ∷ places) zero d lt h = h.0
one_there g (p ∷ places) (suc i) d lt h = one_there g places i d (omega arith) h.1

-- ---- what was found of one

pub found_gap : (g : Grammar) (read marks : Marks) → read ≡ marks → (place : ℕ × ℕ) (found : LeastGap) (at eoi : ℤ) → found ≡ Gap at eoi
    → TellsGap (gap_at g read place) found → IsLeastGap (gap_at g marks place) at eoi
found_gap g read marks same place found at eoi e h =
    subst (λ m. IsLeastGap (gap_at g m place) at eoi) same (subst (TellsGap (gap_at g read place)) e h)

pub found_refuted : (g : Grammar) (read marks : Marks) → read ≡ marks → (place : ℕ × ℕ) (found : LeastGap) (r : Refutation) → found ≡ Refuted r
    → TellsGap (gap_at g read place) found → IsTrue (checks (gap_at g marks place).0 (gap_at g marks place).1 r)
found_refuted g read marks same place found r e h =
    subst (λ m. IsTrue (checks (gap_at g m place).0 (gap_at g m place).1 r)) same (subst (TellsGap (gap_at g read place)) e h)

-- ---- what comes of it

module _ (g : Grammar) (ground : Ground g) (places : List (ℕ × ℕ)) (listed : places ≡ alternatives g ground.flags) (refutations : List Refutation) (i : ℕ)
    (refuted : AreRefuted g ground.marks (take i places) refutations) where
  -- all were tried
  pub covers : length places ≤ i → Covers g refutations
  covers past = record {
    ground = ground;
    refuted = subst (λ tried. AreRefuted g ground.marks tried refutations) (take_all i places past ∙ listed) refuted;
  }

  -- the next one more
  pub next_refuted : (d : ℕ × ℕ) (r : Refutation) → i < length places
      → IsTrue (checks (gap_at g ground.marks (get_or places i d)).0 (gap_at g ground.marks (get_or places i d)).1 r)
      → AreRefuted g ground.marks (take (i + 1) places) (refutations ++ r ∷ [])
  next_refuted d r within h =
      subst (λ tried. AreRefuted g ground.marks tried (refutations ++ r ∷ [])) (sym (take_more places i d within))
      (refuted_more g ground.marks (take i places) refutations (get_or places i d) r refuted h)

  -- the next one has a gap
  pub has_gap : (d : ℕ × ℕ) (at eoi : ℤ) → i < length places → ChecksRefute → IsLeastGap (gap_at g ground.marks (get_or places i d)) at eoi
      → HasGap g (get_or places i d) at eoi
  has_gap d at eoi within refute least = record {
    ground = ground;
    earlier = take i places;
    later = drop (i + 1) places;
    order = sym listed ∙ sym (take-append-drop (i + 1) places) ∙ ap (λ tried. tried ++ drop (i + 1) places) (take_more places i d within)
        ∙ append_assoc (take i places) (get_or places i d ∷ []) (drop (i + 1) places);
    first = none_leaves g ground.marks (take i places) refutations refute refuted;
    least = least;
  }
