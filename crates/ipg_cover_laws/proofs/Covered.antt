-- A grammar whose gaps are refuted is gapless.
use Rattle.std.proofs.Common.{◌≡◌, ℕ, zero, suc, ◌+◌, subst, arith, List, [], ◌∷◌, Some, Bool, true, if◌then◌else◌}
use Rattle.std.specs.Prelude.{slice_get, Contains}
use Rattle.std.specs.List.{AllByRecursion}
use Rattle.std.proofs.lemmas.List.Elements.{Contains-push, Contains-append_left, Contains-append_right}
use Rattle.ipg_core.specs.declared.grammar.CoreAlt.{CoreAlt}
use Rattle.ipg_core.specs.declared.grammar.CoreRule.{CoreRule}
use Rattle.ipg_core.specs.Grammar.{Grammar}
use Rattle.ipg_core.specs.MustTouch.{Marks, is_marked}
use Rattle.ipg_core.specs.Good.{AltAt}
use Rattle.ipg_cert.specs.declared.refutation.Refutation.{Refutation}
use Rattle.ipg_cert.specs.Laws.{ChecksRefute}
use Rattle.ipg_facts_edges.specs.Edges.{numbered, edges_of}
use Rattle.ipg_cover.specs.Reach.{Leads, first, called}
use Rattle.ipg_cover.specs.Cover.{alternatives_of, alternatives, gap_at, Leaves, AreRefuted, Covers}
use Rattle.ipg_cover_laws.specs.Reaches.{Reaches, itself, further}
use Rattle.ipg_cover_laws.specs.Gapless.{IsGapless, GaplessComesBack}
use Rattle.ipg_cover_laws.specs.Covered.{CoveredComesBack}
use Rattle.ipg_cover_laws.proofs.Runs.{all_left, all_right}

-- ---- rules that are reached

contains_at : {X : Type 0} (xs : List X) (k : ℕ) (x : X) → slice_get xs k ≡ Some x → Contains xs x
contains_at [] k x e = absurd (cc)
contains_at (y ∷ xs) zero x e = let same : y ≡ x = cc in subst (Contains (y ∷ xs)) same (Contains-append_left (y ∷ []) xs y (Contains-push [] y))
contains_at (y ∷ xs) (suc k) x e = Contains-append_right (y ∷ []) xs x (contains_at xs k x e)

leads : (g : Grammar) (r : ℕ) → Reaches g 0 r → Leads (edges_of g) r
leads g r itself = first
leads g r (further number e at before) = called e (contains_at (edges_of g) number e at) (leads g e.caller before)

-- ---- alternatives in order

-- what holds of each of a list holds of those that an item gives
of_item : {A B : Type 0} (P : B → Type 0) (n : ℕ) (f : ℕ → A → List B) (xs : List A) → AllByRecursion P (numbered n f xs) → (k : ℕ) (x : A)
    → slice_get xs k ≡ Some x → AllByRecursion P (f (n + k) x)
of_item P n f [] all k x e = absurd (cc)
of_item P n f (y ∷ xs) all zero x e =
    let same : y ≡ x = cc in let place : n ≡ n + 0 = omega arith in
    subst (λ m. AllByRecursion P (f m x)) place
    (subst (λ z. AllByRecursion P (f n z)) same (all_left P (f n y) (numbered (n + 1) f xs) all))
of_item P n f (y ∷ xs) all (suc k) x e =
    let place : (n + 1) + k ≡ n + suc k = omega arith in
    subst (λ m. AllByRecursion P (f m x)) place (of_item P (n + 1) f xs (all_right P (f n y) (numbered (n + 1) f xs) all) k x e)

if_marked : {B : Type 0} (P : B → Type 0) (b : Bool) (xs : List B) → b ≡ true → AllByRecursion P (if b then xs else []) → AllByRecursion P xs
if_marked P b xs e all = subst (λ c. AllByRecursion P (if c then xs else [])) e all

of_place : (P : ℕ × ℕ → Type 0) (g : Grammar) (flags : Marks) → AllByRecursion P (alternatives g flags) → (at : ℕ × ℕ) (rule : CoreRule) (alt : CoreAlt)
    → AltAt g rule alt at → is_marked flags at.0 ≡ true → P at
of_place P g flags all at rule alt is_at marked =
    let r : 0 + at.0 ≡ at.0 = omega arith in
    let a : 0 + at.1 ≡ at.1 = omega arith in
    let rules = of_item P 0 (λ n (q : CoreRule). if is_marked flags n then alternatives_of n q.alts else []) g.rules all at.0 rule is_at.is_rule in
    let here : AllByRecursion P (if is_marked flags at.0 then alternatives_of at.0 rule.alts else []) =
    subst (λ n. AllByRecursion P (if is_marked flags n then alternatives_of n rule.alts else [])) r rules in
    let alts = of_item P 0 (λ n (q : CoreAlt). (at.0, n) ∷ []) rule.alts
    (if_marked P (is_marked flags at.0) (alternatives_of at.0 rule.alts) marked here) at.1 alt
    is_at.is_alt in
    subst (λ n. P (at.0, n)) a alts.0

-- ---- refutations

none_leaves : ChecksRefute → (g : Grammar) (marks : Marks) (places : List (ℕ × ℕ)) (refutations : List Refutation) → AreRefuted g marks places refutations
    → AllByRecursion (λ place. ¬ Leaves g marks place) places
none_leaves refute g marks [] refutations h = tt
none_leaves refute g marks (place ∷ places) [] h = absurd h
none_leaves refute g marks (place ∷ places) (r ∷ refutations) h =
    (refute (gap_at g marks place).0 (gap_at g marks place).1 r h.0, none_leaves refute g marks places refutations h.1)

gapless : ChecksRefute → (g : Grammar) (refutations : List Refutation) → (covers : Covers g refutations) → IsGapless g covers.ground.marks
gapless refute g refutations covers at rule alt reached is_at =
    let ground = covers.ground in
    of_place (λ place. ¬ Leaves g ground.marks place) g ground.flags
    (none_leaves refute g ground.marks (alternatives g ground.flags) refutations covers.refuted) at rule alt is_at
    ((ground.reached.exact at.0).1 (leads g at.0 reached))

pub covered_comes_back : GaplessComesBack → ChecksRefute → CoveredComesBack
covered_comes_back back refute g refutations height s tree good covers input is =
    back g covers.ground.marks height s tree good covers.ground.limit (gapless refute g refutations covers) input is
