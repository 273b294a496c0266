-- What a term needs is provided to it, and what is neither needed nor read by a call is not.
use Rattle.std.proofs.Common.{◌≡◌, refl, sym, ap, ◌∙◌, ℕ, List, [], ◌∷◌, Bool, true, false, ◌||◌, Option, Some, None}
use Rattle.std.specs.Prelude.{slice_get}
use Rattle.std.specs.List.{list_any}
use Rattle.ipg_core.specs.Grammar.{Grammar}
use Rattle.ipg_core.specs.declared.grammar.CoreTerm.{CoreTerm}
use Rattle.ipg_facts_holder.specs.Holder.{needs, provides, calls_some, mentions_some, readers_of, set_by}
use Rattle.ipg_facts_holder.specs.declared.mention.Ask.TheVariants.{Needs}
use Rattle.ipg_facts_holder.specs.Calling.{calls_one}
use Rattle.ipg_facts_holder.specs.Outers.{is_among, matters_by}
use Rattle.ipg_facts_holder.proofs.Mentions.{or_true}
use Rattle.ipg_facts_holder.proofs.Marking.{any_more, calls_without}

one_needs : (g : Grammar) (at : ℕ × ℕ) (v : ℕ) (sets : Option ℕ) (term : Option CoreTerm) → needs v sets term ≡ true → provides g at v sets term ≡ true
unfolding provides
one_needs g at v sets None h = h
one_needs g at v sets (Some term) h = ap (λ b. b || calls_some g (Some at) (readers_of g sets) term) h

pub needed_matters : (g : Grammar) (at : ℕ × ℕ) (terms : List CoreTerm) (wanted : List ℕ) (v : ℕ) (behind : List ℕ)
    → list_any (λ w. needs v (set_by (slice_get terms v)) (slice_get terms w)) behind ≡ true → true ≡ matters_by g at terms wanted v behind
unfolding matters_by
needed_matters g at terms wanted v behind h =
    let sets = set_by (slice_get terms v) in
    let some = any_more (λ w. needs v sets (slice_get terms w)) (λ w. provides g at v sets (slice_get terms w))
    (λ w. one_needs g at v sets (slice_get terms w)) behind h in
    sym (ap (λ b. is_among wanted sets || b) some ∙ or_true (is_among wanted sets))

-- ---- none

neither : (a b c : Bool) → (b ≡ true → c ≡ true) → a ≡ false → c ≡ false → a || b ≡ false
neither true b c f e h = e
neither false true c f e h = sym (f refl) ∙ h
neither false false c f e h = refl

one_none : (g : Grammar) (at : ℕ × ℕ) (v : ℕ) (sets : Option ℕ) (term : Option CoreTerm) → needs v sets term ≡ false → calls_one g at term ≡ false
    → provides g at v sets term ≡ false
unfolding provides
one_none g at v sets None n h = refl
one_none g at v sets (Some term) n h =
    neither (mentions_some (Needs v sets) term) (calls_some g (Some at) (readers_of g sets) term) (calls_one g at (Some term))
    (calls_without g at (readers_of g sets) term) n h

first_false : (a b : Bool) → a || b ≡ false → a ≡ false
first_false true b e = e
first_false false b e = refl

rest_false : (a b : Bool) → a || b ≡ false → b ≡ false
rest_false true b e = absurd (cc)
rest_false false b e = e

both_false : (a b : Bool) → a ≡ false → b ≡ false → a || b ≡ false
both_false a b e f = ap (λ x. x || b) e ∙ f

none_provide : (g : Grammar) (at : ℕ × ℕ) (v : ℕ) (sets : Option ℕ) (terms : List CoreTerm) (behind : List ℕ)
    → list_any (λ w. needs v sets (slice_get terms w)) behind ≡ false → list_any (λ w. calls_one g at (slice_get terms w)) behind ≡ false
    → list_any (λ w. provides g at v sets (slice_get terms w)) behind ≡ false
none_provide g at v sets terms [] n h = refl
none_provide g at v sets terms (w ∷ behind) n h =
    let need = needs v sets (slice_get terms w) in
    let more = list_any (λ w. needs v sets (slice_get terms w)) behind in
    let call = calls_one g at (slice_get terms w) in
    let others = list_any (λ w. calls_one g at (slice_get terms w)) behind in
    both_false (provides g at v sets (slice_get terms w)) (list_any (λ w. provides g at v sets (slice_get terms w)) behind)
    (one_none g at v sets (slice_get terms w) (first_false need more n) (first_false call others h))
    (none_provide g at v sets terms behind (rest_false need more n) (rest_false call others h))

pub none_matters : (g : Grammar) (at : ℕ × ℕ) (terms : List CoreTerm) (wanted : List ℕ) (v : ℕ) (behind : List ℕ)
    → is_among wanted (set_by (slice_get terms v)) ≡ false
    → list_any (λ w. needs v (set_by (slice_get terms v)) (slice_get terms w)) behind ≡ false
    → list_any (λ w. calls_one g at (slice_get terms w)) behind ≡ false → false ≡ matters_by g at terms wanted v behind
unfolding matters_by
none_matters g at terms wanted v behind e n h =
    let sets = set_by (slice_get terms v) in
    sym (both_false (is_among wanted sets) (list_any (λ w. provides g at v sets (slice_get terms w)) behind) e (none_provide g at v sets terms behind n h))
