-- Steps that refute the facts at hand, by what the formula is that the domains rule out.
use Rattle.std.proofs.Common.{◌≡◌, ℕ, zero, suc, ◌+◌, ◌<◌, ◌≤◌, true, ◌&&◌, pos, List, [], ◌∷◌, ◌++◌, map, take, drop, get_or, length, refl, sym, ◌∙◌}
use Rattle.std.proofs.Common.{ap, subst, length-append, append_assoc, take-append-drop, eq-eqb}
use Rattle.std.specs.Prelude.{Some, slice_get, int_lt}
use Rattle.std.specs.List.{flat_map}
use Rattle.std.proofs.lemmas.List.{drop-drop, drop_at, drop_more, append-nil}
use Rattle.ipg_lin.specs.Form.{Form, in_rule, terms_width}
use Rattle.ipg_lin.specs.declared.formula.Formula.{Formula}
use Rattle.ipg_cert.specs.Facts.{Fact, AtMost, Choice, facts_of}
use Rattle.ipg_cert.specs.Checks.{refutes, cases_of, is_choice, members_in}
use Rattle.ipg_cert.specs.declared.refutation.Step.{Step}
use Rattle.ipg_cert.specs.declared.refutation.Step.TheVariants.{Combine, Either}
use Rattle.ipg_solve.specs.declared.domain.Domain.{Domain}
use Rattle.ipg_solve.specs.Domains.{least_of}
use Rattle.ipg_solve.specs.Closes.{entry_of, AreDomains, StandAt, ClosesFacts, ClosesCases, ClosesSome}
use Rattle.ipg_solve.specs.Laws.{EndsCombine}
use Rattle.ipg_solve.proofs.Ends.{atom_combines}

pub get_from_drop : {X : Type 0} (n : ℕ) (xs ys : List X) (y : X) → drop n xs ≡ y ∷ ys → slice_get xs n ≡ Some y
get_from_drop zero [] ys y e = absurd (cc)
get_from_drop zero (x ∷ xs) ys y e = let same : x ≡ y = cc in ap Some same
get_from_drop (suc n) [] ys y e = absurd (cc)
get_from_drop (suc n) (x ∷ xs) ys y e = get_from_drop n xs ys y e

pub get_append : {X : Type 0} (xs ys : List X) (n : ℕ) (x : X) → slice_get xs n ≡ Some x → slice_get (xs ++ ys) n ≡ Some x
get_append [] ys n x e = absurd (cc)
get_append (z ∷ xs) ys zero x e = e
get_append (z ∷ xs) ys (suc n) x e = get_append xs ys n x e

pub get_behind : {X : Type 0} (xs ys : List X) (y : X) → slice_get (xs ++ y ∷ ys) (length xs) ≡ Some y
get_behind [] ys y = refl
get_behind (x ∷ xs) ys y = get_behind xs ys y

-- a list around one of its items
pub parted : {X : Type 0} (xs : List X) (n : ℕ) (x : X) → n < length xs → x ≡ get_or xs n x → xs ≡ take n xs ++ x ∷ drop (n + 1) xs
parted xs n x within is = sym (take-append-drop n xs) ∙ ap (λ ys. take n xs ++ ys) (drop_more xs n x within ∙ ap (λ y. y ∷ drop (n + 1) xs) (sym is))

pub domains_stay : (facts more : List Fact) (domains : List Domain) → AreDomains facts domains → AreDomains (facts ++ more) domains
domains_stay facts more domains are x within = (get_append facts more _ _ (are x within).0, get_append facts more _ _ (are x within).1)

-- one step that closes the goal
pub closes_atom : EndsCombine → (domains : List Domain) (number next : ℕ) (form : Form) (old new : List Step) (step : Step)
    → terms_width form.terms ≤ length domains → in_rule form.terms ≡ true → int_lt (pos 0) (least_of domains form) ≡ true
    → step ≡ Combine ((1, number) ∷ map (entry_of domains) form.terms) → new ≡ old ++ step ∷ [] → ClosesFacts domains number next (AtMost form ∷ []) old new
closes_atom law domains number next form old new step within rule above is e = (
  step ∷ [],
  e,
  λ vars facts are stand _ more goals.
      let at : slice_get facts number ≡ Some (AtMost form) = get_from_drop number facts stand.0 (AtMost form) stand.1 in
      ap (λ s. refutes vars (s ∷ more) (facts ∷ goals)) is ∙ ap (λ b. b && refutes vars more goals)
      (atom_combines law facts domains number form are within rule at above),
)

flat_front : (front back : List Formula) (member : Formula)
    → flat_map facts_of (front ++ member ∷ back) ≡ flat_map facts_of front ++ (facts_of member ++ flat_map facts_of back)
flat_front [] back member = refl
flat_front (f ∷ front) back member = ap (λ fs. facts_of f ++ fs) (flat_front front back member)
    ∙ sym (append_assoc (facts_of f) (flat_map facts_of front) (facts_of member ++ flat_map facts_of back))

regroup : (front back : List Formula) (member : Formula) (more : List Fact)
    → flat_map facts_of (front ++ member ∷ back) ++ more ≡ flat_map facts_of front ++ (facts_of member ++ (flat_map facts_of back ++ more))
regroup front back member more =
    ap (λ fs. fs ++ more) (flat_front front back member)
    ∙ append_assoc (flat_map facts_of front) (facts_of member ++ flat_map facts_of back) more
    ∙ ap (λ fs. flat_map facts_of front ++ fs) (append_assoc (facts_of member) (flat_map facts_of back) more)

-- the facts of one of the members stand behind those of the members before it
member_stands : (number : ℕ) (front back : List Formula) (member : Formula) (facts : List Fact)
    → StandAt number (flat_map facts_of (front ++ member ∷ back)) facts → StandAt (number + length (flat_map facts_of front)) (facts_of member) facts
member_stands number front back member facts stand =
    let rest : List Fact = flat_map facts_of back ++ stand.0 in (
      rest,
      sym (drop-drop (length (flat_map facts_of front)) number facts)
          ∙ ap (drop (length (flat_map facts_of front))) (stand.1 ∙ regroup front back member stand.0)
          ∙ drop_at (flat_map facts_of front) (facts_of member ++ rest) (length (flat_map facts_of front)) refl,
    )

-- the facts of an All by those of one of its members
pub closes_members : (domains : List Domain) (number next first : ℕ) (members front back : List Formula) (member : Formula) (old new : List Step)
    → members ≡ front ++ member ∷ back → first ≡ number + length (flat_map facts_of front)
    → ClosesFacts domains first next (facts_of member) old new → ClosesFacts domains number next (flat_map facts_of members) old new
closes_members domains number next first members front back member old new is e closes = (
  closes.0,
  closes.1,
  λ vars facts are stand n.
      let stands = member_stands number front back member facts (subst (λ ms. StandAt number (flat_map facts_of ms) facts) is stand) in
      closes.2 vars facts are (subst (λ k. StandAt k (facts_of member) facts) (sym e) stands) n,
)

-- an Any by the cases of its members
pub closes_choice : (domains : List Domain) (number next : ℕ) (members : List Formula) (old mid new : List Step)
    → mid ≡ old ++ Either number (length members) ∷ [] → ClosesCases domains next members mid new
    → ClosesFacts domains number next (Choice members ∷ []) old new
closes_choice domains number next members old mid new e closes = (
  Either number (length members) ∷ closes.0,
  closes.1 ∙ ap (λ s. s ++ closes.0) e ∙ append_assoc old (Either number (length members) ∷ []) closes.0,
  λ vars facts are stand n more goals.
      let at : slice_get facts number ≡ Some (Choice members) = get_from_drop number facts stand.0 (Choice members) stand.1 in
      ap (λ o. is_choice (length members) o && refutes vars (closes.0 ++ more) (cases_of facts (members_in o) ++ goals)) at
      ∙ ap (λ b. b && refutes vars (closes.0 ++ more) (cases_of facts members ++ goals)) (eq-eqb (length members) (length members) refl)
      ∙ closes.2 vars facts are n more goals,
)

pub none_closed : (domains : List Domain) (next : ℕ) (members : List Formula) (old : List Step) → ClosesSome domains next members members old old
none_closed domains next members old = ([], sym (append-nil old), λ vars facts are n more goals. refl)

-- the case of one member more
pub one_closed : (domains : List Domain) (next behind : ℕ) (members left rest : List Formula) (member : Formula) (old mid new : List Step)
    → left ≡ member ∷ rest → behind ≡ next + length (facts_of member) → ClosesSome domains next members left old mid
    → ClosesFacts domains next behind (facts_of member) mid new → ClosesSome domains next members rest old new
one_closed domains next behind members left rest member old mid new is e so_far closes = (
  so_far.0 ++ closes.0,
  closes.1 ∙ ap (λ s. s ++ closes.0) so_far.1 ∙ append_assoc old so_far.0 closes.0,
  λ vars facts are n more goals.
      let own : List Fact = facts ++ facts_of member in
      let stand : StandAt next (facts_of member) own = ([], drop_at facts (facts_of member) next n ∙ sym (append-nil (facts_of member))) in
      ap (λ s. refutes vars s (cases_of facts members ++ goals)) (append_assoc so_far.0 closes.0 more)
      ∙ so_far.2 vars facts are n (closes.0 ++ more) goals
      ∙ ap (λ ms. refutes vars (closes.0 ++ more) (cases_of facts ms ++ goals)) is
      ∙ closes.2 vars own (domains_stay facts (facts_of member) domains are) stand (length-append facts (facts_of member)
      ∙ ap (λ k. k + length (facts_of member)) n ∙ sym e) more (cases_of facts rest ++ goals),
)

pub all_closed : (domains : List Domain) (next : ℕ) (members left : List Formula) (old new : List Step) → left ≡ []
    → ClosesSome domains next members left old new → ClosesCases domains next members old new
all_closed domains next members left old new none so_far = (
  so_far.0,
  so_far.1,
  λ vars facts are n more goals. so_far.2 vars facts are n more goals ∙ ap (λ ms. refutes vars more (cases_of facts ms ++ goals)) none,
)
