-- What is left of a path, and what it comes to.
use Rattle.std.proofs.Common.{◌≡◌, List, [], ◌∷◌, ◌++◌, map, flat_map, reverse, refl, ap, ap₂, ◌∙◌, sym, subst, append_assoc, append-nil}
use Rattle.std.proofs.lemmas.Grind.{flat_map-append}
use Rattle.std.proofs.lemmas.List.{reverse-append, reverse-reverse}
use Rattle.ipg_core.specs.Grammar.{Grammar}
use Rattle.ipg_mach_nodes.specs.Stored.{Stored, Source}
use Rattle.ipg_table.specs.Rows.{Each}
use Rattle.ipg_query_path.specs.declared.path.Step.{Step}
use Rattle.ipg_query_path.specs.declared.path.Step.TheVariants.{Named, Nth, Children, All}
use Rattle.ipg_query.specs.declared.spot.Spot.{Spot}
use Rattle.ipg_query.specs.Picked.{Found, stepped, members, named, only, below}
use Rattle.ipg_query.specs.Spots.{IsSpot, AreSpots, taken, deeper, once_more, Course, course, comes_to, Rest, left_at, IsLeft, Comes}
use Rattle.ipg_query.proofs.Going.{each_append}
use Rattle.ipg_query.proofs.Spreading.{all_parts}

module _ (g : Grammar) where
  pub members_append : (steps : List Step) (xs ys : List Found) → members g steps (xs ++ ys) ≡ members g steps xs ++ members g steps ys
  members_append [] xs ys = refl
  members_append (step ∷ steps) xs ys =
      ap (members g steps) (flat_map-append (stepped g step) xs ys) ∙ members_append steps (flat_map (stepped g step) xs) (flat_map (stepped g step) ys)

  pub members_none : (steps : List Step) → members g steps [] ≡ []
  members_none [] = refl
  members_none (step ∷ steps) = members_none steps

  -- one by one, results come to what they come to together
  pub one_by_one : (steps : List Step) (xs : List Found) → flat_map (comes_to g) (map (course steps) xs) ≡ members g steps xs
  one_by_one steps [] = sym (members_none steps)
  one_by_one steps (x ∷ xs) = ap (λ ys. members g steps (x ∷ []) ++ ys) (one_by_one steps xs) ∙ sym (members_append steps (x ∷ []) xs)

  parts : (step : Step) (x : Found) → stepped g step x ≡ taken g step x ++ flat_map (stepped g step) (deeper step x)
  parts (Named name) x = sym (append-nil (named g name x))
  parts (Nth name k) x = sym (append-nil (only (named g name x) k))
  parts Children x = sym (append-nil (below x))
  parts All x = all_parts x

  -- a step is taken of a result, and once more of what lies deeper
  pub step_parts : (step : Step) (rest : List Step) (x : Found)
      → comes_to g (course (step ∷ rest) x) ≡ members g rest (taken g step x) ++ members g (step ∷ rest) (deeper step x)
  step_parts step rest x =
      ap (members g rest) (append-nil (stepped g step x) ∙ parts step x)
      ∙ members_append rest (taken g step x) (flat_map (stepped g step) (deeper step x))

lefts_are : (src : Source) (st : Stored) (steps : List Step) (spots : List Spot) (xs : List Found) → AreSpots src st spots xs
    → Each (IsLeft src st) (map (left_at steps) spots) (map (course steps) xs)
lefts_are src st steps [] [] h = tt
lefts_are src st steps [] (x ∷ xs) h = absurd h
lefts_are src st steps (s ∷ spots) [] h = absurd h
lefts_are src st steps (s ∷ spots) (x ∷ xs) h = (record { steps = refl; spot = h.0 }, lefts_are src st steps spots xs h.1)

-- ---- what is put on a pile

module _ (src : Source) (st : Stored) (g : Grammar) where
  put_on : (to from add : List Rest) → to ≡ from ++ reverse add → add ++ reverse from ≡ reverse to
  put_on to from add e = sym (ap reverse e ∙ reverse-append from (reverse add) ∙ ap (λ ys. ys ++ reverse from) (reverse-reverse add))

  -- spots that are put on it come first
  pub put_more : (steps : List Step) (spots : List Spot) (pile new : List Rest) (ups xs : List Found) → AreSpots src st spots ups
      → new ≡ pile ++ reverse (map (left_at steps) spots) → Comes src st g (reverse pile) xs → Comes src st g (reverse new) (members g steps ups ++ xs)
  put_more steps spots pile new ups xs are put comes = record {
    courses = map (course steps) ups ++ comes.courses;
    stand = subst (λ ys. Each (IsLeft src st) ys (map (course steps) ups ++ comes.courses)) (put_on new pile (map (left_at steps) spots) put)
        (each_append (IsLeft src st) (map (left_at steps) spots) (reverse pile) (map (course steps) ups) comes.courses
        (lefts_are src st steps spots ups are) comes.stand);
    is = flat_map-append (comes_to g) (map (course steps) ups) comes.courses
        ∙ ap₂ (λ ys zs. ys ++ zs) (one_by_one g steps ups) comes.is;
  }

  -- what comes to nothing may be left out
  pub no_more : (none xs : List Found) (pile : List Rest) → none ≡ [] → Comes src st g pile xs → Comes src st g pile (none ++ xs)
  no_more none xs pile e comes = subst (λ ys. Comes src st g pile (ys ++ xs)) (sym e) comes

  -- where the step isn't taken once more, nothing more comes
  pub no_deeper : (step : Step) (rest : List Step) (x : Found) (xs : List Found) (pile : List Rest) → deeper step x ≡ [] → Comes src st g pile xs
      → Comes src st g pile (once_more g step rest x ++ xs)
  no_deeper step rest x xs pile e comes =
      no_more (once_more g step rest x) xs pile (ap (members g (step ∷ rest)) e ∙ members_none g (step ∷ rest)) comes

  -- ---- a step is taken

  module _ (spot : Spot) (step : Step) (rest : List Step) (pile mid new : List Rest) (upper : List Spot)
      (lower : (x : Found) (xs : List Found) → IsSpot src st spot x → Comes src st g (reverse pile) xs
      → Comes src st g (reverse mid) (once_more g step rest x ++ xs))
      (upper_are : (x : Found) → IsSpot src st spot x → AreSpots src st upper (taken g step x))
      (put : new ≡ mid ++ reverse (map (left_at rest) upper)) where
    by_courses : (xs : List Found) (courses : List Course) → Each (IsLeft src st) (left_at (step ∷ rest) spot ∷ reverse pile) courses
        → flat_map (comes_to g) courses ≡ xs → Comes src st g (reverse new) xs
    by_courses xs [] stand is = absurd stand
    by_courses xs (c ∷ courses) stand is =
        let x = c.from in
        let more = flat_map (comes_to g) courses in
        let below = lower x more stand.0.spot (record { courses = courses; stand = stand.1; is = refl }) in
        let all = put_more rest upper mid new (taken g step x) (once_more g step rest x ++ more) (upper_are x stand.0.spot) put below in
        subst (Comes src st g (reverse new))
        (sym (append_assoc (members g rest (taken g step x)) (once_more g step rest x) more)
        ∙ ap (λ ys. ys ++ more) (sym (step_parts g step rest x) ∙ ap (λ steps. comes_to g (course steps x)) stand.0.steps)
        ∙ is)
        all

    pub step_taken : (xs : List Found) → Comes src st g (left_at (step ∷ rest) spot ∷ reverse pile) xs → Comes src st g (reverse new) xs
    step_taken xs comes = by_courses xs comes.courses comes.stand comes.is

-- ---- steps that make no difference

module _ (src : Source) (st : Stored) (g : Grammar) (spot : Spot) (steps short : List Step) (more : List Rest)
    (same : (x : Found) → IsSpot src st spot x → members g short (x ∷ []) ≡ members g steps (x ∷ [])) where
  without : (xs : List Found) (courses : List Course) → Each (IsLeft src st) (left_at steps spot ∷ more) courses → flat_map (comes_to g) courses ≡ xs
      → Comes src st g (left_at short spot ∷ more) xs
  without xs [] stand is = absurd stand
  without xs (c ∷ courses) stand is = record {
    courses = course short c.from ∷ courses;
    stand = (record { steps = refl; spot = stand.0.spot }, stand.1);
    is = ap (λ ys. ys ++ flat_map (comes_to g) courses)
        (same c.from stand.0.spot ∙ ap (λ ss. members g ss (c.from ∷ [])) stand.0.steps)
        ∙ is;
  }

  pub idle_left : (xs : List Found) → Comes src st g (left_at steps spot ∷ more) xs → Comes src st g (left_at short spot ∷ more) xs
  idle_left xs comes = without xs comes.courses comes.stand comes.is
