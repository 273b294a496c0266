-- The text of a path leads a reader on to its end.
use Rattle.std.proofs.Common.{◌≡◌, ℕ, ◌+◌, ◌-◌, ◌*◌, ◌/◌, ◌%◌, ◌^◌, ◌<◌, ◌≤◌, true, not, ◌&&◌, nat_le, ◌==◌}
use Rattle.std.proofs.Common.{List, [], ◌∷◌, ◌++◌, Option, Some, None, refl, ap, ◌∙◌, sym, subst, arith}
use Rattle.std.proofs.Common.{append_assoc, append-nil, decimal, if◌then◌else◌}
use Rattle.std.specs.List.{AllByRecursion}
use Rattle.std.proofs.lemmas.Bool.{le-leb, ne_eqb}
use Rattle.std.proofs.lemmas.Fmt.{decimal_by_steps}
use Rattle.ipg_reader.specs.Digits.{digit_value, digit_is}
use Rattle.ipg_reader.specs.Stepwise.{run, run_on, run_step}
use Rattle.ipg_query_path.specs.declared.path.Query.{Query}
use Rattle.ipg_query_path.specs.declared.path.Step.{Step}
use Rattle.ipg_query_path.specs.declared.path.Step.TheVariants.{Named, Nth, Children, All}
use Rattle.ipg_query_path.specs.declared.pos.Pos.{Pos}
use Rattle.ipg_query_path.specs.declared.pos.Pos.TheVariants as pos
use Rattle.ipg_query_path.specs.declared.pos.PathTurn.TheVariants.{Stuck, To, Add}
use Rattle.ipg_query_path.specs.Paths.{step_text, steps_text, path_text, IsNaming, IsName, IsStep, FitsPath}
use Rattle.ipg_query_path.specs.Reader.{end_turn, grown, State, start, taken, step, ended}

abbrev at_place : List Step → List ℕ → Pos → State
at_place steps name p = record { steps = steps; name = name; at = p }

-- ---- names

named : (steps : List Step) (name bs : List ℕ) → AllByRecursion IsNaming bs
    → run step (at_place steps name pos.Name) bs ≡ Some (at_place steps (name ++ bs) pos.Name)
named steps name [] all = ap (λ n. Some (at_place steps n pos.Name)) (sym (append-nil name))
named steps name (b ∷ bs) all =
    run_step step (at_place steps name pos.Name) (at_place steps (name ++ b ∷ []) pos.Name) b bs
    (ap (λ c. taken (if c then Add pos.Name else (if b == 40 then To pos.Open else end_turn b)) (at_place steps name pos.Name) b) all.0)
    ∙ named steps (name ++ b ∷ []) bs all.1
    ∙ ap (λ n. Some (at_place steps n pos.Name)) (append_assoc name (b ∷ []) bs)

run_name : (steps : List Step) (name : List ℕ) → IsName name → run step (at_place steps [] pos.Step) name ≡ Some (at_place steps name pos.Name)
run_name steps [] is = absurd is
run_name steps (b ∷ bs) is =
    run_step step (at_place steps [] pos.Step) (at_place steps (b ∷ []) pos.Name) b bs
    (ap (λ c. taken (if c then Add pos.Name else (if b == 42 then To pos.Star else Stuck)) (at_place steps [] pos.Step) b) is.0)
    ∙ named steps (b ∷ []) bs is.1

fielded : (steps : List Step) (name bs : List ℕ) → AllByRecursion IsNaming bs
    → run step (at_place steps name pos.Field) bs ≡ Some (at_place steps (name ++ bs) pos.Field)
fielded steps name [] all = ap (λ n. Some (at_place steps n pos.Field)) (sym (append-nil name))
fielded steps name (b ∷ bs) all =
    run_step step (at_place steps name pos.Field) (at_place steps (name ++ b ∷ []) pos.Field) b bs
    (ap (λ c. taken (if c then Add pos.Field else Stuck) (at_place steps name pos.Field) b) all.0)
    ∙ fielded steps (name ++ b ∷ []) bs all.1
    ∙ ap (λ n. Some (at_place steps n pos.Field)) (append_assoc name (b ∷ []) bs)

run_field : (steps : List Step) (name : List ℕ) → IsName name → run step (at_place steps [] pos.Dot) name ≡ Some (at_place steps name pos.Field)
run_field steps [] is = absurd is
run_field steps (b ∷ bs) is =
    run_step step (at_place steps [] pos.Dot) (at_place steps (b ∷ []) pos.Field) b bs
    (ap (λ c. taken (if c then Add pos.Field else Stuck) (at_place steps [] pos.Dot) b) is.0)
    ∙ fielded steps (b ∷ []) bs is.1

-- ---- numbers

module _ (steps : List Step) (name : List ℕ) where
  abbrev at_number : ℕ → State
  at_number k = at_place steps name (pos.Number k)

  first_digit : (d : ℕ) → d < 10 → step (at_place steps name pos.Open) (48 + d) ≡ Some (at_number d)
  first_digit d less =
      let (digit, value) = digit_is d less in
      ap (λ c. taken (if c then To (pos.Number (digit_value (48 + d))) else Stuck) (at_place steps name pos.Open) (48 + d)) digit
      ∙ ap (λ v. Some (at_number v)) value

  one_more : (m : ℕ) → 10 ≤ m → m < 2 ^ 32 → step (at_number (m / 10)) (48 + m % 10) ≡ Some (at_number m)
  one_more m large small =
      let (digit, value) = digit_is (m % 10) (omega arith) in
      let some : not (m / 10 == 0) ≡ true = ap not (ne_eqb (m / 10) 0 (λ e. let f : ⊥ = omega (arith, e) in f)) in
      let sum : m / 10 * 10 + digit_value (48 + m % 10) ≡ m = omega (arith, value) in
      let st = at_number (m / 10) in
      let b = 48 + m % 10 in
      ap (λ c. taken (if c then grown (m / 10) (m / 10 * 10 + digit_value b) else (if b == 41 then To (pos.Closed (m / 10)) else Stuck)) st b) digit
      ∙ ap (λ v. taken (grown (m / 10) v) st b) sum
      ∙ ap (λ c. taken (if c && nat_le m (2 ^ 32 - 1) then To (pos.Number m) else Stuck) st b) some
      ∙ ap (λ c. taken (if c then To (pos.Number m) else Stuck) st b) (le-leb m (2 ^ 32 - 1) (let e : m ≤ 2 ^ 32 - 1 = omega arith in e))

  run_decimal : (k : ℕ) → k < 2 ^ 32 → run step (at_place steps name pos.Open) (decimal k) ≡ Some (at_number k)
  run_decimal k small = decimal_by_steps (λ m ds. m < 2 ^ 32 → run step (at_place steps name pos.Open) ds ≡ Some (at_number m))
      (λ m less fits. run_step step (at_place steps name pos.Open) (at_number m) (48 + m) [] (first_digit m less))
      (λ m ds large here fits.
      run_on step (at_place steps name pos.Open) (at_number (m / 10)) ds ((48 + m % 10) ∷ []) (here (omega arith))
      ∙ run_step step (at_number (m / 10)) (at_number m) (48 + m % 10) [] (one_more m large fits))
      k (omega (arith, small)) small

-- ---- steps

-- a state after which these steps are whole
record Whole (st : State) (words : List ℕ) (steps : List Step) : Type 0 where
  pub end : State
  pub reached : run step st words ≡ Some end
  pub slash : step end 47 ≡ Some (at_place steps [] pos.Step)
  pub dot : step end 46 ≡ Some (at_place steps [] pos.Dot)
  pub ends : ended end ≡ Some (record { steps = steps; field = None })

step_whole : (made : List Step) (s : Step) → IsStep s → Whole (at_place made [] pos.Step) (step_text s) (made ++ s ∷ [])
step_whole made (Named name) is =
    record { end = at_place made name pos.Name; reached = run_name made name is; slash = refl; dot = refl; ends = refl }
step_whole made (Nth name k) is =
    let first = at_place made [] pos.Step in
    let after = at_place made name pos.Name in
    let opened = at_place made name pos.Open in
    record {
      end = at_place made name (pos.Closed k);
      reached = run_on step first after name (40 ∷ (decimal k ++ 41 ∷ [])) (run_name made name is.0)
          ∙ run_step step after opened 40 (decimal k ++ 41 ∷ []) refl
          ∙ run_on step opened (at_number made name k) (decimal k) (41 ∷ []) (run_decimal made name k is.1);
      slash = refl;
      dot = refl;
      ends = refl;
    }
step_whole made Children is = record { end = at_place made [] pos.Star; reached = refl; slash = refl; dot = refl; ends = refl }
step_whole made All is = record { end = at_place made [] pos.Stars; reached = refl; slash = refl; dot = refl; ends = refl }

steps_whole : (more made : List Step) (s : Step) → IsStep s → AllByRecursion IsStep more
    → Whole (at_place made [] pos.Step) (steps_text (s ∷ more)) (made ++ s ∷ more)
steps_whole [] made s is all = subst (λ ws. Whole (at_place made [] pos.Step) ws (made ++ s ∷ [])) (sym (append-nil (step_text s))) (step_whole made s is)
steps_whole (t ∷ more) made s is all =
    let w = step_whole made s is in
    let rest = subst (λ steps. Whole (at_place (made ++ s ∷ []) [] pos.Step) (steps_text (t ∷ more)) steps) (append_assoc made (s ∷ []) (t ∷ more))
    (steps_whole more (made ++ s ∷ []) t all.0 all.1) in
    record {
      end = rest.end;
      reached = run_on step (at_place made [] pos.Step) w.end (step_text s) (47 ∷ steps_text (t ∷ more)) w.reached
          ∙ run_step step w.end (at_place (made ++ s ∷ []) [] pos.Step) 47 (steps_text (t ∷ more)) w.slash
          ∙ rest.reached;
      slash = rest.slash;
      dot = rest.dot;
      ends = rest.ends;
    }

-- ---- paths

abbrev Ends : Query → Type 0
Ends query = (end : State) × (run step start (path_text query) ≡ Some end) × (ended end ≡ Some query)

path_run : (s : Step) (more : List Step) (field : Option (List ℕ)) → FitsPath (record { steps = s ∷ more; field = field })
    → Ends (record { steps = s ∷ more; field = field })
path_run s more None fits =
    let w = steps_whole more [] s fits.steps.0 fits.steps.1 in
    (w.end, ap (run step start) (append-nil (steps_text (s ∷ more))) ∙ w.reached, w.ends)
path_run s more (Some name) fits =
    let w = steps_whole more [] s fits.steps.0 fits.steps.1 in (
      at_place (s ∷ more) name pos.Field,
      run_on step start w.end (steps_text (s ∷ more)) (46 ∷ name) w.reached
          ∙ run_step step w.end (at_place (s ∷ more) [] pos.Dot) 46 name w.dot
          ∙ run_field (s ∷ more) name fits.field,
      refl,
    )

path_ends_at : (steps : List Step) (field : Option (List ℕ)) → FitsPath (record { steps = steps; field = field })
    → Ends (record { steps = steps; field = field })
path_ends_at [] field fits = absurd (let e : ⊥ = omega (arith, fits.some) in e)
path_ends_at (s ∷ more) field fits = path_run s more field fits

-- a path leads from the start to a place where it may end
pub path_ends : (query : Query) → FitsPath query → (end : State) × (run step start (path_text query) ≡ Some end) × (ended end ≡ Some query)
path_ends query fits = path_ends_at query.steps query.field fits
