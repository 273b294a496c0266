-- The first of a list of faults, and where the faults of a text stand.
use Rattle.std.proofs.Common.{◌≡◌, ◌↔◌, ℕ, zero, suc, ◌+◌, Bool, true, false, ◌||◌, ◌&&◌, ◌⊎◌, inl, inr, nat_lt, nat_eq, List, [], ◌∷◌, ◌++◌, take, map}
use Rattle.std.proofs.Common.{Option, Some, None, is_some, slice_get, refl, sym, ap, subst, ◌∙◌, cond, bytes_eq, arith, append_assoc, append-nil}
use Rattle.std.specs.List.{AllByRecursion, list_any}
use Rattle.std.proofs.lemmas.Bool.Decides.{nat_tests}
use Rattle.ipg_ast.specs.declared.grammar.Grammar.{Grammar}
use Rattle.ipg_ast.specs.declared.grammar.Alt.{out-Alt}
use Rattle.ipg_names.specs.declared.fault.NameFault.{NameFault}
use Rattle.ipg_names.specs.declared.fault.NameFault.TheVariants.{DuplicateRule}
use Rattle.ipg_names_scope.specs.Roster.{ListedRule, name_of, head_at, alts_of, roster_of}
use Rattle.ipg_core.specs.Lines.{primitive_of}
use Rattle.ipg_names_scope.specs.Names.{attr_names}
use Rattle.ipg_names_scope.specs.Scope.{Scope}
use Rattle.ipg_names.specs.Resolved.{alt_scopes}
use Rattle.ipg_names.specs.Fault.{number_of, place_of, is_before, earlier, first_of}
use Rattle.ipg_names.specs.Faults.{when, head_faults, term_faults, terms_faults, alt_faults, alts_faults, rules_faults, faults_of}
use Rattle.ipg_names.specs.Told.{Stands, IsFirst}
use Rattle.ipg_names.specs.Refusals.{TermOf}
use Rattle.ipg_names.proofs.Firsts.{not_before}
use Rattle.ipg_names.proofs.Stands.{left, right, either, when_is, is_when}
use Rattle.ipg_names.proofs.GoodNames.{first_none}

-- ---- the first

itself : (n p : ℕ) → (nat_lt n n || (nat_eq n n && nat_lt p p)) ≡ false
itself n p = grind (arith, nat_tests)

turned : (n p m q : ℕ) → (nat_lt n m || (nat_eq n m && nat_lt p q)) ≡ true → (nat_lt m n || (nat_eq m n && nat_lt q p)) ≡ false
turned n p m q h = grind (arith, nat_tests)

later : (a b c : NameFault) → is_before a b ≡ false → is_before b c ≡ false → is_before a c ≡ false
later a b c f g = not_before (number_of a) (place_of a) (number_of b) (place_of b) (number_of c) (place_of c) f g

all_later : (x y : NameFault) (faults : List NameFault) → is_before y x ≡ false → AllByRecursion (λ z. is_before z y ≡ false) faults
    → AllByRecursion (λ z. is_before z x ≡ false) faults
all_later x y [] h k = tt
all_later x y (z ∷ faults) h k = (later z y x k.0 h, all_later x y faults h k.1)

first_is : (faults : List NameFault) (fault : NameFault) → first_of faults ≡ Some fault → IsFirst faults fault
first_is [] fault h = absurd (cc)
first_is (x ∷ xs) fault h = by (first_of xs) refl h (first_is xs)
  where
    one : x ≡ fault → xs ≡ [] → IsFirst (x ∷ xs) fault
    one e none = subst (IsFirst (x ∷ xs)) e (record {
      stands = inl refl;
      least = (
        itself (number_of x) (place_of x),
        subst (AllByRecursion
            (λ z. is_before z x ≡ false)) (sym none) tt,
      );
    })

    two : (y : NameFault) (b : Bool) → is_before y x ≡ b → IsFirst xs y → Some (cond b y x) ≡ Some fault → IsFirst (x ∷ xs) fault
    two y true e f k = subst (IsFirst (x ∷ xs)) (let same : y ≡ fault = cc in same)
        (record { stands = inr f.stands; least = (turned (number_of y) (place_of y) (number_of x) (place_of x) e, f.least) })
    two y false e f k = subst (IsFirst (x ∷ xs)) (let same : x ≡ fault = cc in same)
        (record { stands = inl refl; least = (itself (number_of x) (place_of x), all_later x y xs e f.least) })

    by : (o : Option NameFault) → first_of xs ≡ o → earlier (Some x) o ≡ Some fault → ((y : NameFault) → first_of xs ≡ Some y → IsFirst xs y)
        → IsFirst (x ∷ xs) fault
    by None e k f = one (let same : x ≡ fault = cc in same) (first_none xs e)
    by (Some y) e k f = two y (is_before y x) refl (f y e) k

pub first_told : (faults : List NameFault) → ((first_of faults ≡ None) ↔ (faults ≡ [])) × ((fault : NameFault) → first_of faults ≡ Some fault
    → IsFirst faults fault)
first_told faults = ((first_none faults, λ e. ap first_of e), first_is faults)

-- ---- where faults stand

-- faults of an item of a list
pub record At {A : Type 0} (faults_at : ℕ → A → List NameFault) (n : ℕ) (xs : List A) (f : NameFault) : Type 0 where
  pub number : ℕ
  pub item : A
  pub is_item : slice_get xs number ≡ Some item
  pub stands : Stands (faults_at (n + number) item) f

module _ {A : Type 0} (faults_from : ℕ → List A → List NameFault) (faults_at : ℕ → A → List NameFault)
    (on : (n : ℕ) (x : A) (xs : List A) → faults_from n (x ∷ xs) ≡ faults_at n x ++ faults_from (n + 1) xs) (none : (n : ℕ) → faults_from n [] ≡ []) where
  which : (n : ℕ) (xs : List A) (f : NameFault) → Stands (faults_from n xs) f → At faults_at n xs f
  which n [] f h = absurd (subst (λ l. Stands l f) (none n) h)
  which n (x ∷ xs) f h = by (either (faults_at n x) (faults_from (n + 1) xs) f (subst (λ l. Stands l f) (on n x xs) h)) (which (n + 1) xs f)
    where
      by : Stands (faults_at n x) f ⊎ Stands (faults_from (n + 1) xs) f → (Stands (faults_from (n + 1) xs) f → At faults_at (n + 1) xs f)
          → At faults_at n (x ∷ xs) f
      by (inl k) rest = record { number = 0; item = x; is_item = refl; stands = subst (λ m. Stands (faults_at m x) f) (let e : n ≡ n + 0 = omega arith in e) k }
      by (inr k) rest =
          let w = rest k in
          record {
            number = suc w.number;
            item = w.item;
            is_item = w.is_item;
            stands = subst (λ m. Stands (faults_at m w.item) f)
                (let e : n + 1 + w.number ≡ n + suc w.number = omega arith in e) w.stands;
          }

  there : (n : ℕ) (xs : List A) (f : NameFault) (k : ℕ) (x : A) → slice_get xs k ≡ Some x → Stands (faults_at (n + k) x) f → Stands (faults_from n xs) f
  there n [] f k x e h = absurd (cc)
  there n (y ∷ xs) f zero x e h =
      subst (λ l. Stands l f) (sym (on n y xs)) (left (faults_at n y) (faults_from (n + 1) xs) f
      (subst (λ z. Stands (faults_at n z) f) (let same : x ≡ y = cc in same) (subst (λ m. Stands (faults_at m x) f) (let z : n + 0 ≡ n = omega arith in z) h)))
  there n (y ∷ xs) f (suc k) x e h =
      subst (λ l. Stands l f) (sym (on n y xs)) (right (faults_at n y) (faults_from (n + 1) xs) f
      (there (n + 1) xs f k x e (subst (λ m. Stands (faults_at m x) f) (let z : n + suc k ≡ n + 1 + k = omega arith in z) h)))

-- ---- heads

abbrev pub clash : List (List ℕ) → ListedRule → Bool
clash before entry = list_any (bytes_eq (name_of entry)) before || is_some (primitive_of (name_of entry))

pub record Head (before : List (List ℕ)) (es : List ListedRule) (f : NameFault) : Type 0 where
  pub number : ℕ
  pub entry : ListedRule
  pub is_entry : slice_get es number ≡ Some entry
  pub twice : clash (before ++ map name_of (take number es)) entry ≡ true
  pub fault_is : f ≡ DuplicateRule (head_at entry)

pub heads_which : (before : List (List ℕ)) (es : List ListedRule) (f : NameFault) → Stands (head_faults before es) f → Head before es f
heads_which before [] f h = absurd h
heads_which before (e ∷ es) f h =
    by (either (when (clash before e) (DuplicateRule (head_at e))) (head_faults (before ++ name_of e ∷ []) es) f h) (heads_which
    (before ++ name_of e ∷ []) es f)
  where
    by : Stands (when (clash before e) (DuplicateRule (head_at e))) f ⊎ Stands (head_faults (before ++ name_of e ∷ []) es) f
        → (Stands (head_faults (before ++ name_of e ∷ []) es) f → Head (before ++ name_of e ∷ []) es f) → Head before (e ∷ es) f
    by (inl k) rest =
        let w = when_is (clash before e) (DuplicateRule (head_at e)) f k in
        record { number = 0; entry = e; is_entry = refl; twice = ap (λ l. clash l e) (append-nil before) ∙ w.0; fault_is = w.1 }
    by (inr k) rest =
        let w = rest k in
        record {
          number = suc w.number;
          entry = w.entry;
          is_entry = w.is_entry;
          twice = ap (λ l. clash l w.entry) (sym (append_assoc before
              (name_of e ∷ []) (map name_of (take w.number es)))) ∙ w.twice;
          fault_is = w.fault_is;
        }

pub heads_there : (before : List (List ℕ)) (es : List ListedRule) (f : NameFault) (k : ℕ) (entry : ListedRule) → slice_get es k ≡ Some entry
    → clash (before ++ map name_of (take k es)) entry ≡ true → f ≡ DuplicateRule (head_at entry) → Stands (head_faults before es) f
heads_there before [] f k entry is twice e = absurd (cc)
heads_there before (x ∷ es) f zero entry is twice e =
    let same : entry ≡ x = cc in
    left (when (clash before x) (DuplicateRule (head_at x))) (head_faults (before ++ name_of x ∷ []) es) f
    (is_when (clash before x) (DuplicateRule (head_at x)) f (ap (clash before) (sym same) ∙ ap (λ l. clash l entry) (sym (append-nil before)) ∙ twice) (e
    ∙ ap (λ y. DuplicateRule (head_at y)) same))
heads_there before (x ∷ es) f (suc k) entry is twice e =
    right (when (clash before x) (DuplicateRule (head_at x))) (head_faults (before ++ name_of x ∷ []) es) f
    (heads_there (before ++ name_of x ∷ []) es f k entry is (ap (λ l. clash l entry) (append_assoc before (name_of x ∷ []) (map name_of (take k es)))
    ∙ twice) e)

-- ---- all faults of a text

abbrev pub scope_at : {g : Grammar} → TermOf g → Scope
scope_at {g} here = alt_scopes (roster_of g) (attr_names g) here.entry (here.rule, here.place) here.alt here.number

-- a fault of the names in a term, in the scope of that term
pub record TermFault (g : Grammar) (fault : NameFault) : Type 0 where
  pub here : TermOf g
  pub stands : Stands (term_faults (scope_at here) here.term) fault

module _ (g : Grammar) (f : NameFault) where
  abbrev roster : List ListedRule
  roster = roster_of g

  abbrev names : List (List ℕ)
  names = attr_names g

  in_zero : (P : ℕ → Type 0) (n : ℕ) → P (0 + n) → P n
  in_zero P n h = subst P (let e : 0 + n ≡ n = omega arith in e) h

  out_zero : (P : ℕ → Type 0) (n : ℕ) → P n → P (0 + n)
  out_zero P n h = subst P (let e : n ≡ 0 + n = omega arith in e) h

  of_term : Stands (rules_faults roster names 0 roster) f → TermFault g f
  of_term h =
      let r = which (rules_faults roster names) (λ n e. alts_faults roster names e n 0 (alts_of e)) (λ n x xs. refl) (λ n. refl) 0 roster f h in
      let in_rule = in_zero (λ n. Stands (alts_faults roster names r.item n 0 (alts_of r.item)) f) r.number r.stands in
      let a = which (alts_faults roster names r.item r.number) (λ n x. alt_faults roster names r.item (r.number, n) x) (λ n x xs. refl) (λ n. refl) 0
      (alts_of r.item) f in_rule in
      let in_alt = in_zero (λ n. Stands (alt_faults roster names r.item (r.number, n) a.item) f) a.number a.stands in
      let scopes = alt_scopes roster names r.item (r.number, a.number) a.item in
      let t = which (terms_faults scopes) (λ n x. term_faults (scopes n) x) (λ n x xs. refl) (λ n. refl) 0 (out-Alt a.item).terms f in_alt in
      record {
        here = record {
          rule = r.number;
          entry = r.item;
          is_rule = r.is_item;
          place = a.number;
          alt = a.item;
          is_alt = a.is_item;
          number = t.number;
          term = t.item;
          is_term = t.is_item;
        };
        stands = in_zero (λ n. Stands (term_faults (scopes n) t.item) f) t.number t.stands;
      }

  term_there : TermFault g f → Stands (rules_faults roster names 0 roster) f
  term_there fault =
      let w = fault.here in
      let scopes = alt_scopes roster names w.entry (w.rule, w.place) w.alt in
      let in_alt = there (terms_faults scopes) (λ n x. term_faults (scopes n) x) (λ n x xs. refl) (λ n. refl) 0
      (out-Alt w.alt).terms f w.number w.term w.is_term
      (out_zero (λ n. Stands (term_faults (scopes n) w.term) f) w.number fault.stands) in
      let in_rule = there (alts_faults roster names w.entry w.rule) (λ n x. alt_faults roster names w.entry (w.rule, n) x) (λ n x xs. refl) (λ n. refl) 0
      (alts_of w.entry) f w.place w.alt w.is_alt
      (out_zero (λ n. Stands (alt_faults roster names w.entry (w.rule, n) w.alt) f) w.place in_alt) in
      there (rules_faults roster names) (λ n e. alts_faults roster names e n 0 (alts_of e)) (λ n x xs. refl) (λ n. refl) 0 roster f w.rule w.entry w.is_rule
      (out_zero (λ n. Stands (alts_faults roster names w.entry n 0 (alts_of w.entry)) f) w.rule in_rule)

  found : Stands (head_faults [] roster) f ⊎ Stands (rules_faults roster names 0 roster) f → Head [] roster f ⊎ TermFault g f
  found (inl h) = inl (heads_which [] roster f h)
  found (inr h) = inr (of_term h)

  pub told_where : Stands (faults_of g) f → Head [] roster f ⊎ TermFault g f
  told_where h = found (either (head_faults [] roster) (rules_faults roster names 0 roster) f h)

  pub term_told : TermFault g f → Stands (faults_of g) f
  term_told w = right (head_faults [] roster) (rules_faults roster names 0 roster) f (term_there w)
