-- What a table says of a name, as its marks are put in, and the nearest term by it.
use Rattle.std.proofs.Common.{◌≡◌, ℕ, zero, suc, ◌+◌, ◌<◌, ◌≤◌, Bool, true, false, ◌||◌, List, [], ◌∷◌, ◌++◌, length, take, drop, get_or, Option}
use Rattle.std.proofs.Common.{Some, None, is_some, refl, sym, ap, ◌∙◌, cond, bytes_eq, nat_eq, arith, length-drop, length-append}
use Rattle.std.specs.List.{list_any}
use Rattle.std.proofs.lemmas.Bool.Decides.{nat_tests}
use Rattle.std.proofs.lemmas.Bool.{eqb-true}
use Rattle.std.proofs.lemmas.List.{drop_all, drop-append-le}
use Rattle.ipg_names_scope.specs.declared.marks.Spots as declared
use denote.Ref.{Bor}
use Rattle.indexmap.specs.IndexMap.{IndexMap}
use Rattle.ipg_ast.specs.declared.grammar.Term.{Term}
use Rattle.ipg_names_scope.specs.declared.marks.Family.{Family}
use Rattle.ipg_names_scope.specs.Terms.{names_in, has}
use Rattle.ipg_names_scope.specs.declared.marks.TermMark.{TermMark}
use Rattle.ipg_names_scope.specs.declared.marks.TermMark.TheVariants.{Met, Passed}
use Rattle.ipg_names_scope.specs.Nearest.{first_from, last_from, or_else, left_of, right_of, nearest}
use Rattle.ipg_names_scope.specs.Marks.{look, IsMarked, marked, marks_on, nearest_spot, spots_from, spots_of}
use Rattle.ipg_names_scope.proofs.Bytes.{same_bytes, bytes_turned}
use Rattle.ipg_names_scope.proofs.Lists.{at_item, take_item, taken}

-- a name that is marked by what is said of it
pub put : (f : List ℕ → Option declared.Spots) (mark : TermMark) (name x : List ℕ) (now : Option declared.Spots) → now ≡ marked mark (f name)
    → cond (bytes_eq name x) now (f x) ≡ cond (bytes_eq name x) (marked mark (f x)) (f x)
put f mark name x now e = by (bytes_eq name x) refl
  where
    by : (b : Bool) → bytes_eq name x ≡ b → cond b now (f x) ≡ cond b (marked mark (f x)) (f x)
    by true h = e ∙ ap (λ n. marked mark (f n)) (same_bytes name x h)
    by false h = refl

pub marks_append : (mark : TermMark) (x : List ℕ) (xs ys : List (List ℕ)) (s : Option declared.Spots)
    → marks_on mark x (xs ++ ys) s ≡ marks_on mark x ys (marks_on mark x xs s)
marks_append mark x [] ys s = refl
marks_append mark x (a ∷ xs) ys s = marks_append mark x xs ys (cond (bytes_eq a x) (marked mark s) s)

-- ---- a mark twice is the mark once

or_else_twice : (a b : Option ℕ) → or_else (or_else a b) b ≡ or_else a b
or_else_twice None None = refl
or_else_twice None (Some n) = refl
or_else_twice (Some m) b = refl

nat_same : (n : ℕ) → nat_eq n n ≡ true
nat_same n = grind (arith, nat_tests)

marked_twice : (mark : TermMark) (s : Option declared.Spots) → marked mark (marked mark s) ≡ marked mark s
marked_twice (Met u) None = ap (λ b. Some (cond b (record { first = u; second = None; left = None }) (record {
  first = u;
  second = Some u;
  left =
      None;
}))) (nat_same u)
marked_twice (Met u) (Some s) = by (nat_eq s.first u) refl
  where
    later : declared.Spots
    later = record { first = s.first; second = or_else s.second (Some u); left = s.left }

    by : (b : Bool) → nat_eq s.first u ≡ b → marked (Met u) (Some (cond b s later)) ≡ Some (cond b s later)
    by true h = ap (λ b. Some (cond b s later)) h
    by false h = ap (λ b. Some (cond b later (record { first = s.first; second = or_else (or_else s.second (Some u)) (Some u); left = s.left }))) h
        ∙ ap (λ o. let made : declared.Spots = record { first = s.first; second = o; left = s.left } in Some made) (or_else_twice s.second (Some u))
marked_twice (Passed u) None = refl
marked_twice (Passed u) (Some s) = refl

settled : (mark : TermMark) (s : Option declared.Spots) (b : Bool) → cond b (marked mark (marked mark s)) (marked mark s) ≡ marked mark s
settled mark s true = marked_twice mark s
settled mark s false = refl

pub marks_once : (mark : TermMark) (x : List ℕ) (names : List (List ℕ)) (s : Option declared.Spots)
    → marks_on mark x names s ≡ cond (list_any (bytes_eq x) names) (marked mark s) s
marks_once mark x [] s = refl
marks_once mark x (name ∷ names) s =
    ap (λ b. marks_on mark x names (cond b (marked mark s) s)) (bytes_turned name x) ∙ by (bytes_eq x name) (marks_once mark x names)
  where
    by : (b : Bool) → ((t : Option declared.Spots) → marks_on mark x names t ≡ cond (list_any (bytes_eq x) names) (marked mark t) t)
        → marks_on mark x names (cond b (marked mark s) s) ≡ cond (b || list_any (bytes_eq x) names) (marked mark s) s
    by true rest = rest (marked mark s) ∙ settled mark s (list_any (bytes_eq x) names)
    by false rest = rest s

-- ---- places in a list

drop_none : {A : Type 0} (k : ℕ) → drop k (let none : List A = [] in none) ≡ []
drop_none zero = refl
drop_none (suc k) = refl

drop_suc : {A : Type 0} (u : ℕ) (xs ys : List A) (y : A) → drop u xs ≡ y ∷ ys → drop (suc u) xs ≡ ys
drop_suc u [] ys y h = absurd (let no : [] ≡ y ∷ ys = sym (drop_none u) ∙ h in cc)
drop_suc zero (x ∷ xs) ys y h = cc
drop_suc (suc u) (x ∷ xs) ys y h = drop_suc u xs ys y h

-- what stands behind the item at u
pub drop_next : {A : Type 0} (u : ℕ) (xs ys : List A) (y : A) → drop u xs ≡ y ∷ ys → drop (u + 1) xs ≡ ys
drop_next u xs ys y h = ap (λ k. drop k xs) (let e : u + 1 ≡ suc u = omega arith in e) ∙ drop_suc u xs ys y h

module _ {A : Type 0} (p : A → Bool) where
  never : (n k : ℕ) (xs : List A) → last_from p n (Some k) xs ≡ None → ⊥
  never n k [] e = cc
  never n k (x ∷ xs) e = by (p x) e (never (n + 1) n xs) (never (n + 1) k xs)
    where
      by : (b : Bool) → last_from p (n + 1) (cond b (Some n) (Some k)) xs ≡ None → (last_from p (n + 1) (Some n) xs ≡ None → ⊥)
          → (last_from p (n + 1) (Some k) xs ≡ None → ⊥) → ⊥
      by true h f g = f h
      by false h f g = g h

  -- where none passes to the left of u, the first one stands from u on
  none_left : (u n : ℕ) (xs : List A) → last_from p n None (take u xs) ≡ None → first_from p n xs ≡ first_from p (n + u) (drop u xs)
  none_left zero n xs h = ap (λ m. first_from p m xs) (let e : n ≡ n + 0 = omega arith in e)
  none_left (suc u) n [] h = refl
  none_left (suc u) n (x ∷ xs) h = by (p x) h (none_left u (n + 1) xs)
    where
      by : (b : Bool) → last_from p (n + 1) (cond b (Some n) None) (take u xs) ≡ None
          → (last_from p (n + 1) None (take u xs) ≡ None → first_from p (n + 1) xs ≡ first_from p (n + 1 + u) (drop u xs))
          → cond b (Some n) (first_from p (n + 1) xs) ≡ first_from p (n + suc u) (drop u xs)
      by true k f = absurd (never (n + 1) n (take u xs) k)
      by false k f = f k ∙ ap (λ m. first_from p m (drop u xs)) (let e : n + 1 + u ≡ n + suc u = omega arith in e)

  none_on : (x : A) (n : ℕ) (xs : List A) → cond (p x) (Some n) (first_from p (n + 1) xs) ≡ None → (p x ≡ false) × (first_from p (n + 1) xs ≡ None)
  none_on x n xs h = by (p x) refl h
    where
      by : (b : Bool) → p x ≡ b → cond b (Some n) (first_from p (n + 1) xs) ≡ None → (p x ≡ false) × (first_from p (n + 1) xs ≡ None)
      by true e k = absurd (cc)
      by false e k = (e, k)

  none_right : (k n m : ℕ) (xs : List A) → first_from p n xs ≡ None → first_from p m (drop k xs) ≡ None
  none_right k n m [] h = ap (first_from p m) (drop_none k)
  none_right zero n m (x ∷ xs) h =
      let here = none_on x n xs h in
      ap (λ b. cond b (Some m) (first_from p (m + 1) xs)) here.0 ∙ none_right zero (n + 1) (m + 1) xs here.1
  none_right (suc k) n m (x ∷ xs) h = none_right k (n + 1) m xs (none_on x n xs h).1

  pub none_before : (k n m : ℕ) (xs : List A) → first_from p n xs ≡ None → last_from p m None (take k xs) ≡ None
  none_before zero n m xs h = refl
  none_before (suc k) n m [] h = refl
  none_before (suc k) n m (x ∷ xs) h =
      let here = none_on x n xs h in
      ap (λ b. last_from p (m + 1) (cond b (Some m) None) (take k xs)) here.0 ∙ none_before k (n + 1) (m + 1) xs here.1

  pub first_append : (n : ℕ) (xs ys : List A) → first_from p n (xs ++ ys) ≡ or_else (first_from p n xs) (first_from p (n + length xs) ys)
  first_append n [] ys = ap (λ m. first_from p m ys) (let e : n ≡ n + 0 = omega arith in e)
  first_append n (x ∷ xs) ys = by (p x) (first_append (n + 1) xs ys)
    where
      by : (b : Bool) → first_from p (n + 1) (xs ++ ys) ≡ or_else (first_from p (n + 1) xs) (first_from p (n + 1 + length xs) ys)
          → cond b (Some n) (first_from p (n + 1) (xs ++ ys)) ≡ or_else (cond b (Some n) (first_from p (n + 1) xs)) (first_from p (n + suc (length xs)) ys)
      by true f = refl
      by false f = f ∙ ap (λ m. or_else (first_from p (n + 1) xs) (first_from p m ys)) (let e : n + 1 + length xs ≡ n + suc (length xs) = omega arith in e)

  first_within : (n k : ℕ) (xs : List A) → first_from p n xs ≡ Some k → (n ≤ k) × (k < n + length xs)
  first_within n k [] h = absurd (cc)
  first_within n k (x ∷ xs) h = by (p x) h (first_within (n + 1) k xs)
    where
      by : (b : Bool) → cond b (Some n) (first_from p (n + 1) xs) ≡ Some k → (first_from p (n + 1) xs ≡ Some k → (n + 1 ≤ k) × (k < n + 1 + length xs))
          → (n ≤ k) × (k < n + suc (length xs))
      by true e f = let same : n ≡ k = cc in (omega arith, omega arith)
      by false e f = let within = f e in (omega (arith, within.0), omega (arith, within.1))

  -- ---- the nearest by the first two and the last before

  nearest_none : (xs : List A) (u : ℕ) → first_from p 0 xs ≡ None → None ≡ nearest p xs u
  nearest_none xs u h = sym (ap (λ o. or_else o (right_of p xs u)) (none_before u 0 0 xs h) ∙ none_right (u + 1) 0 (u + 1) xs h)

  right_first : (xs : List A) (u first : ℕ) → first_from p u (drop u xs) ≡ Some first → nat_eq first u ≡ false → Some first ≡ right_of p xs u
  right_first xs u first h apart = by (drop u xs) refl h
    where
      here : (y : A) (ys : List A) (b : Bool) → cond b (Some u) (first_from p (u + 1) ys) ≡ Some first → Some first ≡ first_from p (u + 1) ys
      here y ys true k = absurd (let same : first ≡ u = cc in let no = sym (nat_same u) ∙ ap (λ n. nat_eq n u) (sym same) ∙ apart in cc)
      here y ys false k = sym k

      by : (ys : List A) → drop u xs ≡ ys → first_from p u ys ≡ Some first → Some first ≡ right_of p xs u
      by [] e k = absurd (cc)
      by (y ∷ ys) e k = here y ys (p y) k ∙ ap (first_from p (u + 1)) (sym (drop_next u xs ys y e))

  nearest_some : (xs : List A) (u first : ℕ) → first_from p 0 xs ≡ Some first
      → or_else (left_of p xs u) (cond (nat_eq first u) (right_of p xs first) (Some first)) ≡ nearest p xs u
  nearest_some xs u first h = by (left_of p xs u) refl
    where
      apart : (b : Bool) → nat_eq first u ≡ b → left_of p xs u ≡ None → cond b (right_of p xs first) (Some first) ≡ right_of p xs u
      apart true e none = ap (right_of p xs) (eqb-true first u e)
      apart false e none = right_first xs u first (sym (none_left u 0 xs none
          ∙ ap (λ m. first_from p m (drop u xs)) (let z : 0 + u ≡ u = omega arith in z)) ∙ h) e

      by : (o : Option ℕ) → left_of p xs u ≡ o → or_else o (cond (nat_eq first u) (right_of p xs first) (Some first)) ≡ or_else o (right_of p xs u)
      by None e = apart (nat_eq first u) refl e
      by (Some k) e = refl

  pub nearest_is : (xs : List A) (u : ℕ) → nearest_spot (spots_of p xs u) u ≡ nearest p xs u
  nearest_is xs u = by (first_from p 0 xs) refl
    where
      by : (o : Option ℕ) → first_from p 0 xs ≡ o → nearest_spot (spots_from o p xs u) u ≡ nearest p xs u
      by None e = nearest_none xs u e
      by (Some first) e = nearest_some xs u first e

  -- ---- a table as it is made

  met_some : (xs : List A) (x : A) (first : ℕ) → first_from p 0 xs ≡ Some first
      → right_of p (xs ++ x ∷ []) first ≡ or_else (right_of p xs first) (cond (p x) (Some (length xs)) None)
  met_some xs x first h =
      let within = first_within 0 first xs h in
      ap (first_from p (first + 1)) (drop-append-le (first + 1) xs (x ∷ []) (omega (arith, within.1)))
      ∙ first_append (first + 1) (drop (first + 1) xs) (x ∷ [])
      ∙ ap (λ m. or_else (right_of p xs first) (cond (p x) (Some m) None)) (let e : first + 1 + length (drop (first + 1) xs) ≡ length xs = omega
      (arith, length-drop (first + 1) xs, within.1) in e)

  pub else_none : (o : Option ℕ) → or_else o None ≡ o
  else_none None = refl
  else_none (Some n) = refl

  first_new : (xs : List A) (x : A) → first_from p 0 xs ≡ None → first_from p 0 (xs ++ x ∷ []) ≡ cond (p x) (Some (length xs)) None
  first_new xs x h = first_append 0 xs (x ∷ []) ∙ ap (λ o. or_else o (first_from p (0 + length xs) (x ∷ []))) h
      ∙ ap (λ m. cond (p x) (Some m) None) (let e : 0 + length xs ≡ length xs = omega arith in e)

  first_old : (xs : List A) (x : A) (first : ℕ) → first_from p 0 xs ≡ Some first → first_from p 0 (xs ++ x ∷ []) ≡ Some first
  first_old xs x first h = first_append 0 xs (x ∷ []) ∙ ap (λ o. or_else o (first_from p (0 + length xs) (x ∷ []))) h

  right_end : (xs : List A) (x : A) → right_of p (xs ++ x ∷ []) (length xs) ≡ None
  right_end xs x = ap (first_from p (length xs + 1)) (drop_all (length xs + 1) (xs ++ x ∷ []) (omega (arith, length-append xs (x ∷ []))))

  -- one item more is met
  pub met : (xs : List A) (x : A) → spots_of p (xs ++ x ∷ []) 0 ≡ cond (p x) (marked (Met (length xs)) (spots_of p xs 0)) (spots_of p xs 0)
  met xs x = by (first_from p 0 xs) refl
    where
      new : (b : Bool) → spots_from (cond b (Some (length xs)) None) p (xs ++ x ∷ []) 0 ≡ cond b (marked (Met (length xs)) None) None
      new true = ap (λ o. let made : declared.Spots = record { first = length xs; second = o; left = None } in Some made) (right_end xs x)
      new false = refl

      old : (b : Bool) (first : ℕ) → nat_eq first (length xs) ≡ false
          → (let made : declared.Spots = record {
            first = first;
            second = or_else (right_of p xs first) (cond b (Some (length xs)) None);
            left =
                None;
          } in Some made)
          ≡ cond b (marked (Met (length xs)) (spots_from (Some first) p xs 0)) (spots_from (Some first) p xs 0)
      old true first apart = sym (ap (λ b. let s : declared.Spots = record { first = first; second = right_of p xs first; left = None } in
          let t : declared.Spots = record { first = first; second = or_else (right_of p xs first) (Some (length xs)); left = None } in Some (cond b s t)) apart)
      old false first apart = ap (λ o. let made : declared.Spots = record { first = first; second = o; left = None } in Some made) (else_none
          (right_of p xs first))

      by : (o : Option ℕ) → first_from p 0 xs ≡ o
          → spots_of p (xs ++ x ∷ []) 0 ≡ cond (p x) (marked (Met (length xs)) (spots_from o p xs 0)) (spots_from o p xs 0)
      by None e = ap (λ o. spots_from o p (xs ++ x ∷ []) 0) (first_new xs x e) ∙ new (p x)
      by (Some first) e =
          ap (λ o. spots_from o p (xs ++ x ∷ []) 0) (first_old xs x first e)
          ∙ ap (λ o. let made : declared.Spots = record { first = first; second = o; left = None } in Some made) (met_some xs x first e)
          ∙ old (p x) first (let lt = first_within 0 first xs e in grind (arith, nat_tests, lt.1))

  pub met_at : (xs : List A) (u : ℕ) (x : A) → x ≡ get_or xs u x → u < length xs
      → spots_of p (take (u + 1) xs) 0 ≡ cond (p x) (marked (Met u) (spots_of p (take u xs) 0)) (spots_of p (take u xs) 0)
  met_at xs u x is within =
      ap (λ ys. spots_of p ys 0) (take_item xs u x is within) ∙ met (take u xs) x
      ∙ ap (λ n. cond (p x) (marked (Met n) (spots_of p (take u xs) 0)) (spots_of p (take u xs) 0)) (taken xs u within)

  -- ---- a table as the terms are passed

  left_more : (u n : ℕ) (found : Option ℕ) (xs ys : List A) (y : A) → drop u xs ≡ y ∷ ys
      → last_from p n found (take (suc u) xs) ≡ cond (p y) (Some (n + u)) (last_from p n found (take u xs))
  left_more u n found [] ys y h = absurd (let no : [] ≡ y ∷ ys = sym (drop_none u) ∙ h in cc)
  left_more zero n found (x ∷ xs) ys y h =
      let same : x ≡ y = cc in
      ap (λ z. cond (p z) (Some n) found) same ∙ ap (λ m. cond (p y) (Some m) found) (let e : n ≡ n + 0 = omega arith in e)
  left_more (suc u) n found (x ∷ xs) ys y h =
      left_more u (n + 1) (cond (p x) (Some n) found) xs ys y h
      ∙ ap (λ m. cond (p y) (Some m) (last_from p (n + 1) (cond (p x) (Some n) found) (take u xs))) (let e : n + 1 + u ≡ n + suc u = omega arith in e)

  -- the item at u is passed
  pub passed : (u : ℕ) (xs ys : List A) (y : A) → drop u xs ≡ y ∷ ys
      → spots_of p xs (u + 1) ≡ cond (p y) (marked (Passed u) (spots_of p xs u)) (spots_of p xs u)
  passed u xs ys y h = by (first_from p 0 xs)
    where
      left : left_of p xs (u + 1) ≡ cond (p y) (Some u) (left_of p xs u)
      left = ap (λ k. last_from p 0 None (take k xs)) (let e : u + 1 ≡ suc u = omega arith in e) ∙ left_more u 0 None xs ys y h
          ∙ ap (λ k. cond (p y) (Some k) (left_of p xs u)) (let e : 0 + u ≡ u = omega arith in e)

      each : (b : Bool) (first : ℕ) → (let made : declared.Spots = record {
        first = first;
        second = right_of p xs first;
        left = cond b (Some u)
            (left_of p xs u);
      } in Some made)
          ≡ cond b (marked (Passed u) (spots_from (Some first) p xs u)) (spots_from (Some first) p xs u)
      each true first = refl
      each false first = refl

      none : (b : Bool) → None ≡ cond b None (let n : Option declared.Spots = None in n)
      none true = refl
      none false = refl

      by : (o : Option ℕ) → spots_from o p xs (u + 1) ≡ cond (p y) (marked (Passed u) (spots_from o p xs u)) (spots_from o p xs u)
      by None = none (p y)
      by (Some first) = ap (λ l. let made : declared.Spots = record { first = first; second = right_of p xs first; left = l } in Some made) left
          ∙ each (p y) first

  -- ---- whether there is one at all

  pub found_any : (n : ℕ) (xs : List A) → is_some (first_from p n xs) ≡ list_any p xs
  found_any n [] = refl
  found_any n (x ∷ xs) = by (p x) (found_any (n + 1) xs)
    where
      by : (b : Bool) → is_some (first_from p (n + 1) xs) ≡ list_any p xs → is_some (cond b (Some n) (first_from p (n + 1) xs)) ≡ (b || list_any p xs)
      by true f = refl
      by false f = f

  spots_some : (o : Option ℕ) (xs : List A) (u : ℕ) → is_some (spots_from o p xs u) ≡ is_some o
  spots_some None xs u = refl
  spots_some (Some n) xs u = refl

  pub spots_any : (xs : List A) (u : ℕ) → is_some (spots_of p xs u) ≡ list_any p xs
  spots_any xs u = spots_some (first_from p 0 xs) xs u ∙ found_any 0 xs

-- a table as one term is passed
pub pass_turn : {S : Type 0} (family : Family) (old new : IndexMap (Bor (List ℕ)) declared.Spots S) (terms : List Term) (u : ℕ) (term : Term)
    → term ≡ get_or terms u term → u < length terms
    → IsMarked (Passed u) (names_in family term) old new → ((x : List ℕ) → look old x ≡ spots_of (has family x) terms u) → (x : List ℕ)
    → look new x ≡ spots_of (has family x) terms (u + 1)
pass_turn family old new terms u term is within marks were x =
    let p = has family x in
    marks x ∙ marks_once (Passed u) x (names_in family term) (look old x)
    ∙ ap (λ s. cond (p term) (marked (Passed u) s) s) (were x)
    ∙ sym (passed p u terms (drop (u + 1) terms) term (at_item terms u term is within))
