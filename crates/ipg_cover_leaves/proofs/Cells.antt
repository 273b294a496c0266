-- A byte more on the page.
use Rattle.std.proofs.Common.{◌≡◌, ℕ, zero, suc, ◌<◌, ◌≤◌, List, [], ◌∷◌, ◌++◌, length, Option, Some, None, ◌⊎◌, inl, inr, arith, refl, ap, sym, ◌∙◌, subst}
use Rattle.std.specs.Prelude.{slice_get, slice_set, replicate}
use Rattle.std.specs.List.{Contains}
use Rattle.std.proofs.lemmas.List.Elements.{Contains-push, Contains-push_cases, Contains-append_left}
use Rattle.ipg_cover_leaves.specs.Back.{Agrees, IsClash}
use Rattle.ipg_cover_leaves.specs.Page.{Holds, IsClashIf}
use Rattle.ipg_cover_leaves.proofs.Among.{in_none}

abbrev Cells : Type 0
Cells = List (Option ℕ)

abbrev Puts : Type 0
Puts = List (ℕ × ℕ)

set_here : (cells : Cells) (i : ℕ) (y : Option ℕ) → i < length cells → slice_get (slice_set cells i y) i ≡ Some y
set_here [] i y less = absurd (omega arith)
set_here (x ∷ cells) zero y less = refl
set_here (x ∷ cells) (suc i) y less = set_here cells i y (omega arith)

set_there : (cells : Cells) (i j : ℕ) (y : Option ℕ) → (i ≡ j → ⊥) → slice_get (slice_set cells i y) j ≡ slice_get cells j
set_there [] i j y other = refl
set_there (x ∷ cells) zero zero y other = absurd (other refl)
set_there (x ∷ cells) zero (suc j) y other = refl
set_there (x ∷ cells) (suc i) zero y other = refl
set_there (x ∷ cells) (suc i) (suc j) y other = set_there cells i j y (λ e. other (ap suc e))

pub same_or_not : (i j : ℕ) → (i ≡ j) ⊎ (i ≡ j → ⊥)
same_or_not zero zero = inl refl
same_or_not zero (suc j) = inr (λ (e : 0 ≡ suc j). omega arith)
same_or_not (suc i) zero = inr (λ (e : suc i ≡ 0). omega arith)
same_or_not (suc i) (suc j) = elim (same_or_not i j) [ inl e ↦ inl (ap suc e) | inr other ↦ inr (λ e. other (omega (arith, e))) ]

no_cell : (len at : ℕ) (b : ℕ) → slice_get (replicate len None) at ≡ Some (Some b) → ⊥
no_cell zero at b e = absurd (cc)
no_cell (suc len) zero b e = absurd (cc)
no_cell (suc len) (suc at) b e = no_cell len at b e

-- an empty page
pub nothing_put : (cells : Cells) (len : ℕ) → cells ≡ replicate len None → Holds cells None []
nothing_put cells len is = record {
  was_put = λ at b there. absurd (no_cell len at b (subst (λ these. slice_get these at ≡ Some (Some b)) is there));
  is_held = λ at b put. absurd (in_none (at, b) put);
  clashes = λ at b c one other. absurd (in_none (at, b) one);
}

-- what was put once more says nothing new of a place
again : (all : Puts) (at b place c : ℕ) → Contains all (at, b) → Contains (all ++ (at, b) ∷ []) (place, c) → Contains all (place, c)
again all at b place c was put = elim (Contains-push_cases all (at, b) (place, c) put) [ inl old ↦ old | inr e ↦ subst (Contains all) e was ]

-- nor of another place
elsewhere : (all : Puts) (at b place c : ℕ) → (at ≡ place → ⊥) → Contains (all ++ (at, b) ∷ []) (place, c) → Contains all (place, c)
elsewhere all at b place c other put = elim (Contains-push_cases all (at, b) (place, c) put) [ inl old ↦ old | inr e ↦ absurd (other (ap (λ p. p.0) e)) ]

agree_elsewhere : (all : Puts) (at b place : ℕ) → (at ≡ place → ⊥) → Agrees all place → Agrees (all ++ (at, b) ∷ []) place
agree_elsewhere all at b place other agrees c d one two = agrees c d (elsewhere all at b place c other one) (elsewhere all at b place d other two)

-- nor of any place, if it was put before
agree_again : (all : Puts) (at b place : ℕ) → Contains all (at, b) → Agrees all place → Agrees (all ++ (at, b) ∷ []) place
agree_again all at b place was agrees c d one two = agrees c d (again all at b place c was one) (again all at b place d was two)

-- the first byte at a place
only_new : (all : Puts) (at b c : ℕ) → ((d : ℕ) → Contains all (at, d) → ⊥) → Contains (all ++ (at, b) ∷ []) (at, c) → b ≡ c
only_new all at b c bare put = elim (Contains-push_cases all (at, b) (at, c) put) [ inl old ↦ absurd (bare c old) | inr e ↦ ap (λ p. p.1) e ]

agree_new : (all : Puts) (at b place : ℕ) → ((d : ℕ) → Contains all (at, d) → ⊥) → Agrees all place → Agrees (all ++ (at, b) ∷ []) place
agree_new all at b place bare agrees = elim (same_or_not at place) [
  | inl e ↦ subst (Agrees (all ++ (at, b) ∷ [])) e (λ c d one two. sym (only_new all at b c bare one) ∙ only_new all at b d bare two)
  | inr other ↦ agree_elsewhere all at b place other agrees
]

-- a clash stays the least where the places before it agree as they did
still : (all : Puts) (at b x : ℕ) → IsClash all x → ((place : ℕ) → place < x → Agrees (all ++ (at, b) ∷ []) place) → IsClash (all ++ (at, b) ∷ []) x
still all at b x was before = record {
  one = was.one;
  other = was.other;
  is_one = Contains-append_left all ((at, b) ∷ []) _ was.is_one;
  is_other = Contains-append_left all ((at, b) ∷ []) _ was.is_other;
  differ = was.differ;
  before = before;
}

stays : (clash : Option ℕ) (all : Puts) (at b : ℕ) → ((place : ℕ) → Agrees all place → Agrees (all ++ (at, b) ∷ []) place) → IsClashIf all clash
    → IsClashIf (all ++ (at, b) ∷ []) clash
stays None all at b each was = λ place. each place (was place)
stays (Some x) all at b each was = still all at b x was (λ place less. each place (was.before place less))

module _ (cells : Cells) (clash : Option ℕ) (all : Puts) (at b : ℕ) (holds : Holds cells clash all) where
  bare : slice_get cells at ≡ Some None → (d : ℕ) → Contains all (at, d) → ⊥
  bare empty d put = let held = holds.is_held at d put in let both = sym empty ∙ held.1 in absurd (cc)

  -- into an empty cell
  pub put_new : at < length cells → slice_get cells at ≡ Some None → Holds (slice_set cells at (Some b)) clash (all ++ (at, b) ∷ [])
  put_new less empty = record {
    was_put = λ place c there. elim (same_or_not at place) [
      | inl e ↦ new_there place c e there
      | inr other ↦ Contains-append_left all _ _ (holds.was_put place c (sym (set_there cells at place (Some b) other) ∙ there))
    ];
    is_held = λ place c put. elim (Contains-push_cases all (at, b) (place, c) put) [
      | inl old ↦ old_held place c old
      | inr e ↦ (b, subst (λ n. slice_get (slice_set cells at (Some b)) n ≡ Some (Some b)) (ap (λ p. p.0) e) (set_here cells at (Some b) less))
    ];
    clashes = stays clash all at b (λ place agrees. agree_new all at b place (bare empty) agrees) holds.clashes;
  } where
    new_there : (place c : ℕ) → at ≡ place → slice_get (slice_set cells at (Some b)) place ≡ Some (Some c) → Contains (all ++ (at, b) ∷ []) (place, c)
    new_there place c e there =
        let here = sym (set_here cells at (Some b) less) ∙ ap (slice_get (slice_set cells at (Some b))) e ∙ there in
        let same : b ≡ c = cc in
        subst (λ n. Contains (all ++ (at, b) ∷ []) (n, c)) e (subst (λ n. Contains (all ++ (at, b) ∷ []) (at, n)) same (Contains-push all (at, b)))

    old_held : (place c : ℕ) → Contains all (place, c) → (d : ℕ) × (slice_get (slice_set cells at (Some b)) place ≡ Some (Some d))
    old_held place c old = elim (same_or_not at place) [
      | inl e ↦ absurd (bare empty c (subst (λ n. Contains all (n, c)) (sym e) old))
      | inr other ↦ let held = holds.is_held place c old in (held.0, set_there cells at place (Some b) other ∙ held.1)
    ]

  -- over the same byte
  pub put_same : slice_get cells at ≡ Some (Some b) → Holds cells clash (all ++ (at, b) ∷ [])
  put_same there =
      let was = holds.was_put at b there in
      record {
        was_put = λ place c here. Contains-append_left all _ _ (holds.was_put place c here);
        is_held = λ place c put. holds.is_held place c (again all at b place c was put);
        clashes = stays clash all at b (λ place agrees. agree_again all at b place was agrees) holds.clashes;
      }

  -- over another byte
  earlier : (c : ℕ) (least : ℕ) → slice_get cells at ≡ Some (Some c) → (c ≡ b → ⊥) → least ≤ at → ((x : ℕ) → clash ≡ Some x → least ≤ x)
      → (clash ≡ Some least) ⊎ (least ≡ at) → IsClash (all ++ (at, b) ∷ []) least
  earlier c least there differ within below (inl e) = still all at b least was (λ place less.
      agree_elsewhere all at b place (λ same. omega (arith, same, less, within)) (was.before place less))
    where
      was : IsClash all least
      was = subst (IsClashIf all) e holds.clashes
  earlier c least there differ within below (inr e) = record {
    one = c;
    other = b;
    is_one = subst (λ n. Contains (all ++ (at, b) ∷ []) (n, c)) (sym e) (Contains-append_left all _ _ (holds.was_put at c there));
    is_other = subst (λ n. Contains (all ++ (at, b) ∷ []) (n, b)) (sym e) (Contains-push all (at, b));
    differ = differ;
    before = λ place less. agree_elsewhere all at b place (λ same. omega (arith, same, less, e))
        (agreed clash holds.clashes below place (omega (arith, less, e)));
  } where
    agreed : (k : Option ℕ) → IsClashIf all k → ((x : ℕ) → k ≡ Some x → least ≤ x) → (place : ℕ) → place < least → Agrees all place
    agreed None was under place less = was place
    agreed (Some x) was under place less = was.before place (omega (arith, less, under x refl))

  pub put_other : (c : ℕ) (least : ℕ) → slice_get cells at ≡ Some (Some c) → (c ≡ b → ⊥) → least ≤ at → ((x : ℕ) → clash ≡ Some x → least ≤ x)
      → (clash ≡ Some least) ⊎ (least ≡ at) → Holds cells (Some least) (all ++ (at, b) ∷ [])
  put_other c least there differ within below one = record {
    was_put = λ place d here. Contains-append_left all _ _ (holds.was_put place d here);
    is_held = λ place d put. elim (Contains-push_cases all (at, b) (place, d) put) [
      | inl old ↦ holds.is_held place d old
      | inr e ↦ (c, subst (λ n. slice_get cells n ≡ Some (Some c)) (ap (λ p. p.0) e) there)
    ];
    clashes = earlier c least there differ within below one;
  }
