-- Places that no leaf has, one by one.
use Rattle.std.proofs.Common.{◌≡◌, ℕ, zero, suc, ◌+◌, ◌<◌, ◌≤◌, List, [], ◌∷◌, ◌++◌, length, get_or, take, drop, append-nil, refl}
use Rattle.std.proofs.Common.{sym, ap, ◌∙◌, arith, Option, None, Some, flat_map, add-one, Bool, true, false, ◌&&◌, not}
use Rattle.std.proofs.Math.Seq.{drop-cons}
use Rattle.std.proofs.lemmas.Grind.{flat_map-append}
use Rattle.std.proofs.lemmas.List.{drop_all, take_all}
use Rattle.ipg_tree_walk.specs.Visits.{Seen}
use Rattle.ipg_tree_view.specs.Bare.{none_has, has_byte, bare_from, runs, ended_at, begun_at}

-- what comes next of the runs
pub next_runs : (f : ℕ × ℕ → List ℕ) (at : ℕ) (begun : Option ℕ) (bare : List Bool) (i : ℕ) (d : Bool) → i < length bare
    → flat_map f (runs at begun (drop i bare))
    ≡ flat_map f (ended_at (get_or bare i d) at begun) ++ flat_map f (runs (at + 1) (begun_at (get_or bare i d) at begun) (drop (i + 1) bare))
next_runs f at begun bare i d h =
    ap (λ xs. flat_map f (runs at begun xs)) (drop-cons bare i d h ∙ ap (λ k. get_or bare i d ∷ drop k bare) (sym (add-one i)))
    ∙ flat_map-append f (ended_at (get_or bare i d) at begun) (runs (at + 1) (begun_at (get_or bare i d) at begun) (drop (i + 1) bare))

-- the same runs
pub same_runs : (f : ℕ × ℕ → List ℕ) (next at : ℕ) (started begun : Option ℕ) (rest : List Bool) → next ≡ at → started ≡ begun
    → flat_map f (runs at begun rest) ≡ flat_map f (runs next started rest)
same_runs f next at started begun rest is_at is_begun =
    ap (λ n. flat_map f (runs n begun rest)) (sym is_at) ∙ ap (λ b. flat_map f (runs next b rest)) (sym is_begun)

-- a run that goes on began no later
pub begun_before : (is_bare : Bool) (at : ℕ) (begun : Option ℕ) → ((from : ℕ) → begun ≡ Some from → from ≤ at)
    → (from : ℕ) → begun_at is_bare at begun ≡ Some from → from ≤ at + 1
begun_before false at begun h from is = absurd (cc)
begun_before true at None h from is = let same : at ≡ from = cc in omega (arith, same)
begun_before true at (Some start) h from is = let same : start ≡ from = cc in let le = h start refl in omega (arith, same, le)

and_more : (a b c : Bool) → a && (b && c) ≡ (a && b) && c
and_more true b c = refl
and_more false b c = refl

and_true : (a : Bool) → a && true ≡ a
and_true true = refl
and_true false = refl

-- struck out so far, and what is left
pub next_struck : (new old : Bool) (place : ℕ) (one : Seen) (more : List Seen) (all : Bool) → new ≡ old && not (has_byte place one.at one.child)
    → old && none_has place (one ∷ more) ≡ all → new && none_has place more ≡ all
next_struck new old place one more all is h =
    ap (λ b. b && none_has place more) is ∙ sym (and_more old (not (has_byte place one.at one.child)) (none_has place more)) ∙ h

pub all_struck : (old : Bool) (place : ℕ) (left : List Seen) (all : Bool) → left ≡ [] → old && none_has place left ≡ all → old ≡ all
all_struck old place left all none h = sym (and_true old) ∙ ap (λ l. old && none_has place l) (sym none) ∙ h

-- a list that says of each place what is to be said
pub same_bare : (at n : ℕ) (bare : List Bool) (seen : List Seen) → length bare ≡ n → ((i : ℕ) → i < n → get_or bare i true ≡ none_has (at + i) seen)
    → bare ≡ bare_from at n seen
same_bare at zero [] seen long h = refl
same_bare at zero (b ∷ bare) seen long h = absurd (omega (arith, long))
same_bare at (suc n) [] seen long h = absurd (omega (arith, long))
same_bare at (suc n) (b ∷ bare) seen long h =
    let here : at + 0 ≡ at = omega arith in
    let first : b ≡ none_has at seen = h 0 (omega arith) ∙ ap (λ k. none_has k seen) here in
    let more : (i : ℕ) → i < n → get_or bare i true ≡ none_has (at + 1 + i) seen =
    λ i lt. h (suc i) (omega (arith, lt)) ∙ (let e : at + suc i ≡ at + 1 + i = omega arith in ap (λ k. none_has k seen) e) in
    ap (λ x. x ∷ bare) first ∙ ap (λ xs. none_has at seen ∷ xs) (same_bare (at + 1) n bare seen (omega (arith, long)) more)

-- what is written over the whole of a list is all that is there
pub whole_new : (new old : List Bool) (len : ℕ) → length new ≡ len → length old ≡ len → take len (new ++ drop (length new) old) ≡ new
whole_new new old len is was =
    ap (λ rest. take len (new ++ rest)) (drop_all (length new) old (omega (arith, is, was))) ∙ ap (take len) (append-nil new)
    ∙ take_all len new (omega (arith, is))
