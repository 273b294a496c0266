-- The bytes that a reader has taken begin a path, and are one where it may end.
use Rattle.std.proofs.Common.{◌≡◌, ℕ, ◌^◌, ◌<◌, ◌≤◌, List, [], ◌∷◌, ◌++◌, length, Some, None, refl, ap, ◌∙◌}
use Rattle.std.proofs.Common.{sym, subst, arith, append_assoc, append-nil, length-append, decimal}
use Rattle.std.specs.List.{AllByRecursion}
use Rattle.std.proofs.lemmas.Option.{none-some, same_Some}
use Rattle.ipg_reader.specs.Faults.{Continues}
use Rattle.ipg_query_path.specs.declared.path.Query.{Query}
use Rattle.ipg_query_path.specs.declared.path.Step.{Step}
use Rattle.ipg_query_path.specs.declared.path.Step.TheVariants.{Named, Nth, Children, All}
use Rattle.ipg_query_path.specs.declared.pos.Pos.{Pos}
use Rattle.ipg_query_path.specs.declared.pos.Pos.TheVariants as pos
use Rattle.ipg_query_path.specs.Paths.{step_text, steps_text, path_text, IsStep, FitsPath}
use Rattle.ipg_query_path.specs.Reader.{State, ended_at, ended}
use Rattle.ipg_query_path.proofs.Spelled.{behind, last_text, IsSound, all_push}

-- a path goes on from the bytes, or is all of them
abbrev GoesOn : List ℕ → Type 0
GoesOn bytes = Continues FitsPath path_text bytes

-- the path that ends with this step
abbrev pub path_of : List Step → Step → Query
path_of steps s = record { steps = steps ++ s ∷ []; field = None }

fits_path : (steps : List Step) (s : Step) → AllByRecursion IsStep steps → IsStep s → FitsPath (path_of steps s)
fits_path steps s all range = record {
  some = (let some : 1 ≤ length (steps ++ s ∷ []) = omega (arith, length-append steps (s ∷ [])) in some);
  steps = all_push IsStep steps s all range;
  field = tt;
}

of_path : (steps : List Step) (s : Step) → path_text (path_of steps s) ≡ behind steps ++ step_text s
of_path steps s = append-nil (steps_text (steps ++ s ∷ [])) ∙ last_text steps s

-- with some bytes more the step at hand is whole
goes_on : (steps : List Step) (s : Step) (words rest at_hand : List ℕ) → AllByRecursion IsStep steps → IsStep s → words ≡ behind steps ++ at_hand
    → at_hand ++ rest ≡ step_text s → GoesOn words
goes_on steps s words rest at_hand all range e whole = (
  path_of steps s,
  rest,
  fits_path steps s all range,
  of_path steps s ∙ ap (λ xs. behind steps ++ xs) (sym whole) ∙ sym (append_assoc (behind steps) at_hand rest) ∙ ap (λ ws. ws ++ rest) (sym e),
)

no_number : 0 < 2 ^ 32
no_number = omega arith

begun : (steps : List Step) (name words : List ℕ) (p : Pos) → IsSound (record { steps = steps; name = name; at = p }) words → GoesOn words
begun steps name words pos.Step sound = goes_on steps Children words (42 ∷ []) [] sound.ranges tt sound.spelled refl
begun steps name words pos.Name sound = goes_on steps (Named name) words [] name sound.ranges sound.at sound.spelled (append-nil name)
begun steps name words pos.Open sound =
    goes_on steps (Nth name 0) words (decimal 0 ++ 41 ∷ []) (name ++ 40 ∷ []) sound.ranges (sound.at, no_number) sound.spelled
    (append_assoc name (40 ∷ []) (decimal 0 ++ 41 ∷ []))
begun steps name words (pos.Number k) sound =
    goes_on steps (Nth name k) words (41 ∷ []) (name ++ 40 ∷ decimal k) sound.ranges sound.at sound.spelled (append_assoc name (40 ∷ decimal k) (41 ∷ []))
begun steps name words (pos.Closed k) sound =
    goes_on steps (Nth name k) words [] (name ++ 40 ∷ (decimal k ++ 41 ∷ [])) sound.ranges sound.at sound.spelled
    (append-nil (name ++ 40 ∷ (decimal k ++ 41 ∷ [])))
begun steps name words pos.Star sound = goes_on steps Children words [] (42 ∷ []) sound.ranges tt sound.spelled refl
begun steps name words pos.Stars sound = goes_on steps All words [] (42 ∷ 42 ∷ []) sound.ranges tt sound.spelled refl
begun steps name words pos.Dot sound = (
  record { steps = steps; field = Some (97 ∷ []) },
  97 ∷ [],
  record { some = sound.at.1; steps = sound.ranges; field = (refl, tt) },
  sym (ap (λ ws. ws ++ 97 ∷ []) sound.spelled ∙ append_assoc (steps_text steps) (46 ∷ []) (97 ∷ [])),
)
begun steps name words pos.Field sound = (
  record { steps = steps; field = Some name },
  [],
  record { some = sound.at.1; steps = sound.ranges; field = sound.at.0 },
  sym (append-nil words ∙ sound.spelled),
)

pub sound_begins : (st : State) (words : List ℕ) → IsSound st words → Continues FitsPath path_text words
sound_begins st words sound = begun st.steps st.name words st.at sound

-- the bytes are those of the path
abbrev Are : List ℕ → Query → Type 0
Are words query = FitsPath query × (words ≡ path_text query)

path_at : (steps : List Step) (name words : List ℕ) (p : Pos) (query : Query) → IsSound (record { steps = steps; name = name; at = p }) words
    → ended_at p (record { steps = steps; name = name; at = p }) ≡ Some query → Are words query
path_at steps name words pos.Step query sound e = absurd (none-some query e)
path_at steps name words pos.Name query sound e =
    subst (Are words) (same_Some _ query e) (fits_path steps (Named name) sound.ranges sound.at, sound.spelled ∙ sym (of_path steps (Named name)))
path_at steps name words pos.Open query sound e = absurd (none-some query e)
path_at steps name words (pos.Number k) query sound e = absurd (none-some query e)
path_at steps name words (pos.Closed k) query sound e =
    subst (Are words) (same_Some _ query e) (fits_path steps (Nth name k) sound.ranges sound.at, sound.spelled ∙ sym (of_path steps (Nth name k)))
path_at steps name words pos.Star query sound e =
    subst (Are words) (same_Some _ query e) (fits_path steps Children sound.ranges tt, sound.spelled ∙ sym (of_path steps Children))
path_at steps name words pos.Stars query sound e =
    subst (Are words) (same_Some _ query e) (fits_path steps All sound.ranges tt, sound.spelled ∙ sym (of_path steps All))
path_at steps name words pos.Dot query sound e = absurd (none-some query e)
path_at steps name words pos.Field query sound e =
    subst (Are words) (same_Some _ query e) (record { some = sound.at.1; steps = sound.ranges; field = sound.at.0 }, sound.spelled)

pub sound_ends : (st : State) (words : List ℕ) (query : Query) → IsSound st words → ended st ≡ Some query → FitsPath query × (words ≡ path_text query)
sound_ends st words query sound e = path_at st.steps st.name words st.at query sound e
