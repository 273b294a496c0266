-- The bytes that a reader has taken, and one byte more.
use Rattle.std.proofs.Common.{◌≡◌, ℕ, ◌+◌, ◌-◌, ◌*◌, ◌^◌, ◌<◌, ◌≤◌, Bool, true, false, not, ◌&&◌, nat_le, ◌==◌}
use Rattle.std.proofs.Common.{List, [], ◌∷◌, ◌++◌, length, refl, ap, ◌∙◌, sym, subst, arith}
use Rattle.std.proofs.Common.{append_assoc, append-nil, length-append, decimal, flat_map, true≢false, if◌then◌else◌}
use Rattle.std.specs.List.{AllByRecursion}
use Rattle.std.proofs.lemmas.Bool.{cond_both, eqb-true, leb-true}
use Rattle.ipg_reader.specs.Stepwise.{OnStep}
use Rattle.ipg_reader.specs.Digits.{is_digit, digit_value, one_digit, small_digit, digit_more, not_zero}
use Rattle.ipg_query_path.specs.declared.path.Step.{Step}
use Rattle.ipg_query_path.specs.declared.path.Step.TheVariants.{Named, Nth, Children, All}
use Rattle.ipg_query_path.specs.declared.pos.Pos.{Pos}
use Rattle.ipg_query_path.specs.declared.pos.Pos.TheVariants as pos
use Rattle.ipg_query_path.specs.declared.pos.PathTurn.TheVariants.{Stuck, To, Add, End}
use Rattle.ipg_query_path.specs.Paths.{step_text, slashed, steps_text, is_letter, is_naming, IsNaming, IsName, IsStep}
use Rattle.ipg_query_path.specs.Reader.{end_turn, State, step_at, taken, step}

-- ---- texts

-- steps that others follow
abbrev pub behind : List Step → List ℕ
behind [] = []
behind (s ∷ steps) = step_text s ++ 47 ∷ behind steps

behind_push : (made : List Step) (s : Step) → behind (made ++ s ∷ []) ≡ behind made ++ (step_text s ++ 47 ∷ [])
behind_push [] s = refl
behind_push (m ∷ made) s = ap (λ xs. step_text m ++ 47 ∷ xs) (behind_push made s)
    ∙ sym (append_assoc (step_text m) (47 ∷ behind made) (step_text s ++ 47 ∷ []))

slashed_text : (made : List Step) (s : Step) → flat_map slashed (made ++ s ∷ []) ≡ 47 ∷ steps_text (made ++ s ∷ [])
slashed_text [] s = refl
slashed_text (m ∷ made) s = refl

-- all steps, of which this is the last
pub last_text : (made : List Step) (s : Step) → steps_text (made ++ s ∷ []) ≡ behind made ++ step_text s
last_text [] s = append-nil (step_text s)
last_text (m ∷ made) s =
    ap (λ xs. step_text m ++ xs) (slashed_text made s ∙ ap (λ xs. 47 ∷ xs) (last_text made s))
    ∙ sym (append_assoc (step_text m) (47 ∷ behind made) (step_text s))

-- what is written before the step or the field at hand
abbrev pub front : List Step → Pos → List ℕ
front steps pos.Step = behind steps
front steps pos.Name = behind steps
front steps pos.Open = behind steps
front steps (pos.Number k) = behind steps
front steps (pos.Closed k) = behind steps
front steps pos.Star = behind steps
front steps pos.Stars = behind steps
front steps pos.Dot = steps_text steps
front steps pos.Field = steps_text steps

-- what is written of it
abbrev pub part : List ℕ → Pos → List ℕ
part name pos.Step = []
part name pos.Name = name
part name pos.Open = name ++ 40 ∷ []
part name (pos.Number k) = name ++ 40 ∷ decimal k
part name (pos.Closed k) = name ++ 40 ∷ (decimal k ++ 41 ∷ [])
part name pos.Star = 42 ∷ []
part name pos.Stars = 42 ∷ 42 ∷ []
part name pos.Dot = 46 ∷ []
part name pos.Field = 46 ∷ name

-- ---- what holds on the way

abbrev pub IsAt : List Step → List ℕ → Pos → Type 0
IsAt steps name pos.Step = name ≡ []
IsAt steps name pos.Name = IsName name
IsAt steps name pos.Open = IsName name
IsAt steps name (pos.Number k) = IsName name × (k < 2 ^ 32)
IsAt steps name (pos.Closed k) = IsName name × (k < 2 ^ 32)
IsAt steps name pos.Star = name ≡ []
IsAt steps name pos.Stars = name ≡ []
IsAt steps name pos.Dot = (name ≡ []) × (1 ≤ length steps)
IsAt steps name pos.Field = IsName name × (1 ≤ length steps)

pub record IsSound (st : State) (words : List ℕ) : Type 0 where
  pub spelled : words ≡ front st.steps st.at ++ part st.name st.at
  pub ranges : AllByRecursion IsStep st.steps
  pub at : IsAt st.steps st.name st.at

-- ---- one byte more

pub all_push : {A : Type 0} (P : A → Type 0) (xs : List A) (x : A) → AllByRecursion P xs → P x → AllByRecursion P (xs ++ x ∷ [])
all_push P [] x all here = (here, tt)
all_push P (y ∷ xs) x all here = (all.0, all_push P xs x all.1 here)

name_push : (name : List ℕ) (b : ℕ) → IsName name → is_naming b ≡ true → IsName (name ++ b ∷ [])
name_push [] b is naming = absurd is
name_push (c ∷ name) b is naming = (is.0, all_push IsNaming name b is.1 naming)

both_parts : (a b : Bool) → (a && b) ≡ true → (a ≡ true) × (b ≡ true)
both_parts true b h = (refl, h)
both_parts false b h = absurd (true≢false (sym h))

module _ (steps : List Step) (name : List ℕ) (p : Pos) (words : List ℕ)
    (sound : IsSound (record { steps = steps; name = name; at = p }) words) (b : ℕ) where
  abbrev here : State
  here = record { steps = steps; name = name; at = p }

  -- what is at hand goes on
  moved : (more : List ℕ) (q : Pos) → front steps p ≡ front steps q → IsAt steps more q → part name p ++ b ∷ [] ≡ part more q
      → IsSound (record { steps = steps; name = more; at = q }) (words ++ b ∷ [])
  moved more q same at e = record {
    spelled = ap (λ ws. ws ++ b ∷ []) sound.spelled ∙ append_assoc (front steps p) (part name p) (b ∷ []) ∙ ap (λ xs. front steps p ++ xs) e
        ∙ ap (λ xs. xs ++ part more q) same;
    ranges = sound.ranges;
    at = at;
  }

  -- the step at hand is whole
  ended_on : (s : Step) → IsStep s → front steps p ≡ behind steps → part name p ≡ step_text s → step_at name p ≡ s
      → OnStep IsSound (taken (end_turn b) here b) (words ++ b ∷ [])
  ended_on s range before e hand =
      let whole : words ≡ behind steps ++ step_text s = sound.spelled ∙ ap (λ xs. xs ++ part name p) before ∙ ap (λ xs. behind steps ++ xs) e in
      let all = all_push IsStep steps s sound.ranges range in
      cond_both (b == 47) (End pos.Step) (if b == 46 then End pos.Dot else Stuck) (λ t. OnStep IsSound (taken t here b) (words ++ b ∷ []))
      (λ is. subst (λ x. IsSound (record { steps = steps ++ x ∷ []; name = []; at = pos.Step }) (words ++ b ∷ [])) (sym hand) (record {
        spelled = ap (λ ws. ws ++ b ∷ []) whole ∙ ap (λ x. (behind steps ++ step_text s) ++ x ∷ []) (eqb-true b 47 is)
            ∙ append_assoc (behind steps) (step_text s) (47 ∷ []) ∙ sym (behind_push steps s) ∙ sym (append-nil (behind (steps ++ s ∷ [])));
        ranges = all;
        at = refl;
      }))
      (λ other. cond_both (b == 46) (End pos.Dot) Stuck (λ t. OnStep IsSound (taken t here b) (words ++ b ∷ []))
      (λ is. subst (λ x. IsSound (record { steps = steps ++ x ∷ []; name = []; at = pos.Dot }) (words ++ b ∷ [])) (sym hand) (record {
        spelled = ap (λ ws. ws ++ b ∷ []) (whole ∙ sym (last_text steps s)) ∙ ap (λ x. steps_text (steps ++ s ∷ []) ++ x ∷ []) (eqb-true b 46 is);
        ranges = all;
        at = (refl, (let some : 1 ≤ length (steps ++ s ∷ []) = omega (arith, length-append steps (s ∷ [])) in some));
      }))
      (λ none. tt))

abbrev After : List Step → List ℕ → Pos → List ℕ → ℕ → Type 0
After steps name p words b = OnStep IsSound (step (record { steps = steps; name = name; at = p }) b) (words ++ b ∷ [])

pub step_sound : (steps : List Step) (name words : List ℕ) (b : ℕ) (p : Pos) → IsSound (record { steps = steps; name = name; at = p }) words
    → After steps name p words b
step_sound steps name words b pos.Step sound =
    let st : State = record { steps = steps; name = name; at = pos.Step } in
    let bare : name ++ b ∷ [] ≡ b ∷ [] = ap (λ n. n ++ b ∷ []) sound.at in
    cond_both (is_letter b) (Add pos.Name) (if b == 42 then To pos.Star else Stuck) (λ t. OnStep IsSound (taken t st b) (words ++ b ∷ []))
    (λ letter. moved steps name pos.Step words sound b (name ++ b ∷ []) pos.Name refl (subst IsName (sym bare) (letter, tt)) (sym bare))
    (λ other. cond_both (b == 42) (To pos.Star) Stuck (λ t. OnStep IsSound (taken t st b) (words ++ b ∷ []))
    (λ is. moved steps name pos.Step words sound b name pos.Star refl sound.at (ap (λ x. x ∷ []) (eqb-true b 42 is)))
    (λ none. tt))
step_sound steps name words b pos.Name sound =
    let st : State = record { steps = steps; name = name; at = pos.Name } in
    cond_both (is_naming b) (Add pos.Name) (if b == 40 then To pos.Open else end_turn b) (λ t. OnStep IsSound (taken t st b) (words ++ b ∷ []))
    (λ naming. moved steps name pos.Name words sound b (name ++ b ∷ []) pos.Name refl (name_push name b sound.at naming) refl)
    (λ other. cond_both (b == 40) (To pos.Open) (end_turn b) (λ t. OnStep IsSound (taken t st b) (words ++ b ∷ []))
    (λ is. moved steps name pos.Name words sound b name pos.Open refl sound.at (ap (λ x. name ++ x ∷ []) (eqb-true b 40 is)))
    (λ none. ended_on steps name pos.Name words sound b (Named name) sound.at refl refl refl))
step_sound steps name words b pos.Open sound =
    let st : State = record { steps = steps; name = name; at = pos.Open } in
    cond_both (is_digit b) (To (pos.Number (digit_value b))) Stuck (λ t. OnStep IsSound (taken t st b) (words ++ b ∷ []))
    (λ digit. moved steps name pos.Open words sound b name (pos.Number (digit_value b)) refl (sound.at, small_digit b digit)
    (append_assoc name (40 ∷ []) (b ∷ []) ∙ ap (λ ds. name ++ 40 ∷ ds) (one_digit b digit)))
    (λ none. tt)
step_sound steps name words b (pos.Number k) sound =
    let st : State = record { steps = steps; name = name; at = pos.Number k } in
    let v = k * 10 + digit_value b in
    cond_both (is_digit b) (if not (k == 0) && nat_le v (2 ^ 32 - 1) then To (pos.Number v) else Stuck) (if b == 41 then To (pos.Closed k) else Stuck)
    (λ t. OnStep IsSound (taken t st b) (words ++ b ∷ []))
    (λ digit. cond_both (not (k == 0) && nat_le v (2 ^ 32 - 1)) (To (pos.Number v)) Stuck (λ t. OnStep IsSound (taken t st b) (words ++ b ∷ []))
    (λ grows.
    let (some, small) = both_parts (not (k == 0)) (nat_le v (2 ^ 32 - 1)) grows in
    let within : v ≤ 2 ^ 32 - 1 = leb-true v (2 ^ 32 - 1) small in
    moved steps name (pos.Number k) words sound b name (pos.Number v) refl (sound.at.0, (let e : v < 2 ^ 32 = omega (arith, within) in e))
    (append_assoc name (40 ∷ decimal k) (b ∷ [])
    ∙ ap (λ ds. name ++ 40 ∷ ds) (digit_more k b (not_zero k some) (let e : v < 2 ^ 64 = omega (arith, within) in e) digit)))
    (λ none. tt))
    (λ other. cond_both (b == 41) (To (pos.Closed k)) Stuck (λ t. OnStep IsSound (taken t st b) (words ++ b ∷ []))
    (λ is. moved steps name (pos.Number k) words sound b name (pos.Closed k) refl sound.at
    (append_assoc name (40 ∷ decimal k) (b ∷ []) ∙ ap (λ x. name ++ 40 ∷ (decimal k ++ x ∷ [])) (eqb-true b 41 is)))
    (λ none. tt))
step_sound steps name words b (pos.Closed k) sound = ended_on steps name (pos.Closed k) words sound b (Nth name k) sound.at refl refl refl
step_sound steps name words b pos.Star sound =
    let st : State = record { steps = steps; name = name; at = pos.Star } in
    cond_both (b == 42) (To pos.Stars) (end_turn b) (λ t. OnStep IsSound (taken t st b) (words ++ b ∷ []))
    (λ is. moved steps name pos.Star words sound b name pos.Stars refl sound.at (ap (λ x. 42 ∷ x ∷ []) (eqb-true b 42 is)))
    (λ other. ended_on steps name pos.Star words sound b Children tt refl refl refl)
step_sound steps name words b pos.Stars sound = ended_on steps name pos.Stars words sound b All tt refl refl refl
step_sound steps name words b pos.Dot sound =
    let st : State = record { steps = steps; name = name; at = pos.Dot } in
    let bare : name ++ b ∷ [] ≡ b ∷ [] = ap (λ n. n ++ b ∷ []) sound.at.0 in
    cond_both (is_letter b) (Add pos.Field) Stuck (λ t. OnStep IsSound (taken t st b) (words ++ b ∷ []))
    (λ letter. moved steps name pos.Dot words sound b (name ++ b ∷ []) pos.Field refl (subst IsName (sym bare) (letter, tt), sound.at.1)
    (ap (λ xs. 46 ∷ xs) (sym bare)))
    (λ none. tt)
step_sound steps name words b pos.Field sound =
    let st : State = record { steps = steps; name = name; at = pos.Field } in
    cond_both (is_naming b) (Add pos.Field) Stuck (λ t. OnStep IsSound (taken t st b) (words ++ b ∷ []))
    (λ naming. moved steps name pos.Field words sound b (name ++ b ∷ []) pos.Field refl (name_push name b sound.at.0 naming, sound.at.1) refl)
    (λ none. tt)
