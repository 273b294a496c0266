-- Readers one after another.
use Rattle.std.proofs.Common.{◌≡◌, ◌-◌, ◌+◌, ◌<◌, ◌≤◌, ℕ, zero, suc, ◌⊎◌, List, [], ◌∷◌, ◌++◌, length, refl, sym, ap, ◌∙◌, subst, inl, inr, arith, append_assoc}
use Rattle.std.proofs.Common.{length-append, Result, Ok, Err, append-nil}
use Rattle.std.specs.Prelude.{MatchResult, IsErrAnd}
use Rattle.std.proofs.lemmas.Result.{err_from_is_err_and}
use Rattle.std.specs.List.{flat_map}
use Rattle.std.proofs.lemmas.List.{append_cancel_left}
use Rattle.ipg_proof.specs.declared.cursor.Stall.{Stall}
use Rattle.ipg_proof.specs.declared.cursor.Stall.TheVariants.{Here, Memory}
use Rattle.ipg_proof.specs.Texts.{AreCounted}
use Rattle.ipg_proof.specs.Reads.{Continues, Taken, Stops, IsStuck, Halts, Reads, AreAlone, AreSo, any, always}

pub here_is_no_memory : ◌≡◌ {A = Stall} Here Memory → ⊥
here_is_no_memory e = cc

pub no_cons : (x : ℕ) (xs : List ℕ) → ◌≡◌ {A = List ℕ} (x ∷ xs) [] → ⊥
no_cons x xs e = let s : ⊥ = omega (arith, ap length e) in s

pub heads : (x y : ℕ) (xs ys : List ℕ) → x ∷ xs ≡ y ∷ ys → x ≡ y
heads x y xs ys e = ap first e
  where
    first : List ℕ → ℕ
    first [] = x
    first (z ∷ zs) = z

pub tails : (x y : ℕ) (xs ys : List ℕ) → x ∷ xs ≡ y ∷ ys → xs ≡ ys
tails x y xs ys e = ap rest e
  where
    rest : List ℕ → List ℕ
    rest [] = xs
    rest (z ∷ zs) = zs

-- of two fronts of one list, one begins the other
pub record Front (us vs xs ys : List ℕ) : Type 0 where
  pub more : List ℕ
  pub longer : us ≡ xs ++ more
  pub rest : ys ≡ more ++ vs

pub fronts : (us vs xs ys : List ℕ) → us ++ vs ≡ xs ++ ys → Front us vs xs ys ⊎ Front xs ys us vs
fronts us vs [] ys e = inl (record { more = us; longer = refl; rest = sym e })
fronts [] vs (x ∷ xs) ys e = inr (record { more = x ∷ xs; longer = refl; rest = e })
fronts (u ∷ us) vs (x ∷ xs) ys e =
    let same = heads u x (us ++ vs) (xs ++ ys) e in
    elim (fronts us vs xs ys (tails u x (us ++ vs) (xs ++ ys) e)) [
      | inl f ↦ inl (record { more = f.more; longer = ap (λ y. y ∷ us) same ∙ ap (λ l. x ∷ l) f.longer; rest = f.rest })
      | inr f ↦ inr (record { more = f.more; longer = ap (λ y. y ∷ xs) (sym same) ∙ ap (λ l. u ∷ l) f.longer; rest = f.rest })
    ]

-- two readers make a third: what the first reads, and then the second, makes its value, and each value is made so
pub record Joins {A B C : Type 0} (IsA : A → Type 0) (a_spelled : A → List ℕ) (IsB : A → B → Type 0) (b_spelled : A → B → List ℕ)
    (IsC : C → Type 0) (c_spelled : C → List ℕ) (make : A → B → C) : Type 0 where
  pub join : (a : A) (b : B) → IsA a → IsB a b → IsC (make a b)
  pub spelled : (a : A) (b : B) → IsA a → IsB a b → c_spelled (make a b) ≡ a_spelled a ++ b_spelled a b
  pub first : C → A
  pub second : C → B
  pub made : (c : C) → IsC c → make (first c) (second c) ≡ c
  pub first_is : (c : C) → IsC c → IsA (first c)
  pub second_is : (c : C) → IsC c → IsB (first c) (second c)
  pub some : (a : A) → IsA a → B
  pub some_is : (a : A) (is : IsA a) → IsB a (some a is)

abbrev pub made_of : {B C : Type 0} → (B → C) → Result B Stall → Result C Stall
made_of f (Ok b) = Ok (f b)
made_of f (Err why) = Err why

module _ {A B C : Type 0} (IsA : A → Type 0) (a_spelled : A → List ℕ) (IsB : A → B → Type 0) (b_spelled : A → B → List ℕ)
    (IsC : C → Type 0) (c_spelled : C → List ℕ) (make : A → B → C) (j : Joins IsA a_spelled IsB b_spelled IsC c_spelled make) where
  parts : (c : C) → IsC c → c_spelled c ≡ a_spelled (j.first c) ++ b_spelled (j.first c) (j.second c)
  parts c is = ap c_spelled (sym (j.made c is)) ∙ j.spelled (j.first c) (j.second c) (j.first_is c is) (j.second_is c is)

  -- the third stops where the first does
  first_stuck : (bytes left : List ℕ) → Reads IsA a_spelled bytes left (Err Here) → IsStuck IsC c_spelled bytes left
  first_stuck bytes left r =
      let (a, is, rest, e) = r.says.begins in
      let b = j.some a is in
      record {
        taken = r.says.taken;
        splits = r.says.splits;
        begins = (
          make a b,
          j.join a b is (j.some_is a is),
          rest ++ b_spelled a b,
          j.spelled a b is (j.some_is a is) ∙ ap (λ l. l ++ b_spelled a b) e ∙ append_assoc r.says.taken rest (b_spelled a b),
        );
        stops = stops left r.says.splits r.says.stops;
      }
    where
      stops : (l : List ℕ) → bytes ≡ r.says.taken ++ l → Stops IsA a_spelled r.says.taken l → Stops IsC c_spelled r.says.taken l
      stops [] splits h = tt
      stops (x ∷ l) splits h = λ goes.
          let (c, is, rest, e) = goes in
          let on = r.says.taken ++ x ∷ [] in
          let a = j.first c in
          elim (fronts (a_spelled a) (b_spelled a (j.second c)) on rest (sym (parts c is) ∙ e)) [
            | inl f ↦ h (a, j.first_is c is, f.more, f.longer)
            | inr f ↦ here_is_no_memory (r.back a (f.more ++ l) (j.first_is c is)
                (splits ∙ sym (append_assoc r.says.taken (x ∷ []) l) ∙ ap (λ w. w ++ l) f.longer ∙ append_assoc (a_spelled a) f.more l))
          ]

  first_halts : (bytes left : List ℕ) (why : Stall) → Reads IsA a_spelled bytes left (Err why) → Halts IsC c_spelled bytes left why
  first_halts bytes left Here r = first_stuck bytes left r
  first_halts bytes left Memory r = tt

  pub read_first : (bytes left : List ℕ) (why : Stall) → Reads IsA a_spelled bytes left (Err why) → Reads IsC c_spelled bytes left (Err why)
  read_first bytes left why r = record {
    says = first_halts bytes left why r;
    back = λ c rest is e. r.back (j.first c) (b_spelled (j.first c) (j.second c) ++ rest) (j.first_is c is)
        (e ∙ ap (λ l. l ++ rest) (parts c is) ∙ append_assoc (a_spelled (j.first c)) (b_spelled (j.first c) (j.second c)) rest);
  }

  -- behind what the first has read, the third stops where the second does
  second_stuck : AreAlone IsA a_spelled → (bytes mid left : List ℕ) (a : A) → Reads IsA a_spelled bytes mid (Ok a)
      → IsStuck (IsB a) (b_spelled a) mid left → IsStuck IsC c_spelled bytes left
  second_stuck alone bytes mid left a r s =
      let (b, is, rest, e) = s.begins in
      record {
        taken = a_spelled a ++ s.taken;
        splits = r.says.splits ∙ ap (λ l. a_spelled a ++ l) s.splits ∙ sym (append_assoc (a_spelled a) s.taken left);
        begins = (
          make a b,
          j.join a b r.says.is is,
          rest,
          j.spelled a b r.says.is is ∙ ap (λ l. a_spelled a ++ l) e
              ∙ sym (append_assoc (a_spelled a) s.taken rest),
        );
        stops = stops left s.splits s.stops;
      }
    where
      again : (c : C) (x : ℕ) (l rest more : List ℕ) → IsC c → mid ≡ s.taken ++ x ∷ l → ¬ Continues (IsB a) (b_spelled a) (s.taken ++ x ∷ [])
          → (a_spelled a ++ s.taken) ++ x ∷ [] ≡ a_spelled (j.first c) ++ more → b_spelled (j.first c) (j.second c) ≡ more ++ rest → ⊥
      again c x l rest more is splits h front behind =
          let whole : bytes ≡ a_spelled (j.first c) ++ (more ++ l) =
          r.says.splits ∙ ap (λ w. a_spelled a ++ w) splits ∙ sym (append_assoc (a_spelled a) s.taken (x ∷ l))
          ∙ sym (append_assoc (a_spelled a ++ s.taken) (x ∷ []) l) ∙ ap (λ w. w ++ l) front ∙ append_assoc (a_spelled (j.first c)) more l in
          let same : a ≡ j.first c = (r.back (j.first c) (more ++ l) (j.first_is c is) whole).0 in
          let front' : a_spelled a ++ (s.taken ++ x ∷ []) ≡ a_spelled a ++ more =
          sym (append_assoc (a_spelled a) s.taken (x ∷ [])) ∙ front ∙ ap (λ y. a_spelled y ++ more) (sym same) in
          let more_is : s.taken ++ x ∷ [] ≡ more = append_cancel_left (a_spelled a) (s.taken ++ x ∷ []) more front' in
          h (
            j.second c,
            subst (λ y. IsB y (j.second c)) (sym same) (j.second_is c is),
            rest,
            ap (λ y. b_spelled y (j.second c)) same ∙ behind ∙ ap (λ w. w ++ rest) (sym more_is),
          )

      stops : (l : List ℕ) → mid ≡ s.taken ++ l → Stops (IsB a) (b_spelled a) s.taken l → Stops IsC c_spelled (a_spelled a ++ s.taken) l
      stops [] splits h = tt
      stops (x ∷ l) splits h = λ goes.
          let (c, is, rest, e) = goes in
          let on = (a_spelled a ++ s.taken) ++ x ∷ [] in
          elim (fronts on rest (a_spelled (j.first c)) (b_spelled (j.first c) (j.second c)) (sym e ∙ parts c is)) [
            | inl f ↦ again c x l rest f.more is splits h f.longer f.rest
            | inr f ↦
                let longer : a_spelled (j.first c) ≡ a_spelled a ++ ((s.taken ++ x ∷ []) ++ f.more) =
                f.longer ∙ ap (λ w. w ++ f.more) (append_assoc (a_spelled a) s.taken (x ∷ [])) ∙ append_assoc (a_spelled a) (s.taken ++ x ∷ []) f.more in
                let none = alone a (j.first c) ((s.taken ++ x ∷ []) ++ f.more) r.says.is (j.first_is c is) longer in
                let s : ⊥ = omega (arith, ap length none, length-append (s.taken ++ x ∷ []) f.more, length-append s.taken (x ∷ [])) in s
          ]

  second_says : AreAlone IsA a_spelled → (bytes mid left : List ℕ) (a : A) (r : Result B Stall) → Reads IsA a_spelled bytes mid (Ok a)
      → MatchResult r (Taken (IsB a) (b_spelled a) mid left) (Halts (IsB a) (b_spelled a) mid left)
      → MatchResult (made_of (make a) r) (Taken IsC c_spelled bytes left) (Halts IsC c_spelled bytes left)
  second_says alone bytes mid left a (Ok b) r s = record {
    is = j.join a b r.says.is s.is;
    splits = r.says.splits ∙ ap (λ l. a_spelled a ++ l) s.splits ∙ sym (append_assoc (a_spelled a) (b_spelled a b) left)
        ∙ ap (λ l. l ++ left) (sym (j.spelled a b r.says.is s.is));
  }
  second_says alone bytes mid left a (Err Here) r s = second_stuck alone bytes mid left a r s
  second_says alone bytes mid left a (Err Memory) r s = tt

  second_back : (left rest : List ℕ) (a : A) (c : C) (r : Result B Stall) → IsC c → a ≡ j.first c
      → MatchResult r (λ b. (b ≡ j.second c) × (left ≡ rest)) (λ why. why ≡ Memory)
      → MatchResult (made_of (make a) r) (λ d. (d ≡ c) × (left ≡ rest)) (λ why. why ≡ Memory)
  second_back left rest a c (Ok b) is same h = (ap (λ y. make y b) same ∙ ap (make (j.first c)) h.0 ∙ j.made c is, h.1)
  second_back left rest a c (Err why) is same h = h

  pub read_second : AreAlone IsA a_spelled → (bytes mid left : List ℕ) (a : A) (r : Result B Stall) → Reads IsA a_spelled bytes mid (Ok a)
      → Reads (IsB a) (b_spelled a) mid left r
      → Reads IsC c_spelled bytes left (made_of (make a) r)
  read_second alone bytes mid left a r one two = record {
    says = second_says alone bytes mid left a r one two.says;
    back = λ c rest is e.
        let again = one.back (j.first c) (b_spelled (j.first c) (j.second c) ++ rest) (j.first_is c is)
        (e ∙ ap (λ l. l ++ rest) (parts c is) ∙ append_assoc (a_spelled (j.first c)) (b_spelled (j.first c) (j.second c)) rest) in
        let same = again.0 in
        second_back left rest a c r is same (two.back (j.second c) rest (subst (λ y. IsB y (j.second c)) (sym same) (j.second_is c is))
        (again.1 ∙ ap (λ y. b_spelled y (j.second c) ++ rest) (sym same)));
  }

  -- no spelling of the third begins another, where this holds of both
  pub alone_both : AreAlone IsA a_spelled → ((a b : A) → IsA a → IsA b → a_spelled a ≡ a_spelled b → a ≡ b)
      → ((a : A) → IsA a → AreAlone (IsB a) (b_spelled a)) → AreAlone IsC c_spelled
  alone_both alone one alone' c d more is also e =
      let whole = sym (parts d also) ∙ e ∙ ap (λ l. l ++ more) (parts c is) ∙ append_assoc (a_spelled (j.first c)) (b_spelled (j.first c) (j.second c)) more in
      elim (fronts (a_spelled (j.first d)) (b_spelled (j.first d) (j.second d)) (a_spelled (j.first c)) (b_spelled (j.first c) (j.second c) ++ more) whole) [
        | inl f ↦ go f.more (alone (j.first c) (j.first d) f.more (j.first_is c is) (j.first_is d also) f.longer) f.longer f.rest
        | inr f ↦ go' f.more (alone (j.first d) (j.first c) f.more (j.first_is d also) (j.first_is c is) f.longer) f.longer f.rest
      ]
    where
      ends : j.first c ≡ j.first d → b_spelled (j.first d) (j.second d) ≡ b_spelled (j.first c) (j.second c) ++ more → more ≡ []
      ends same rest = alone' (j.first c) (j.first_is c is) (j.second c) (j.second d) more (j.second_is c is)
          (subst (λ y. IsB y (j.second d)) (sym same) (j.second_is d also)) (ap (λ y. b_spelled y (j.second d)) same ∙ rest)

      go : (w : List ℕ) → w ≡ [] → a_spelled (j.first d) ≡ a_spelled (j.first c) ++ w
          → b_spelled (j.first c) (j.second c) ++ more ≡ w ++ b_spelled (j.first d) (j.second d) → more ≡ []
      go w none longer rest =
          let same = one (j.first c) (j.first d) (j.first_is c is) (j.first_is d also)
          (sym (longer ∙ ap (λ l. a_spelled (j.first c) ++ l) none ∙ append-nil (a_spelled (j.first c)))) in
          ends same (sym (rest ∙ ap (λ l. l ++ b_spelled (j.first d) (j.second d)) none))

      go' : (w : List ℕ) → w ≡ [] → a_spelled (j.first c) ≡ a_spelled (j.first d) ++ w
          → b_spelled (j.first d) (j.second d) ≡ w ++ (b_spelled (j.first c) (j.second c) ++ more) → more ≡ []
      go' w none longer rest =
          let same = one (j.first c) (j.first d) (j.first_is c is) (j.first_is d also) (longer ∙ ap (λ l. a_spelled (j.first d) ++ l) none
          ∙ append-nil (a_spelled (j.first d))) in
          ends same (rest ∙ ap (λ l. l ++ (b_spelled (j.first c) (j.second c) ++ more)) none)

-- ---- the exit of a `?`

pub exits : {A : Type 0} (Is : A → Type 0) (spell : A → List ℕ) (bytes left : List ℕ) (r : Result A Stall) (why : Stall) → IsErrAnd r (λ e. e ≡ why)
    → Reads Is spell bytes left (Err why) → Reads Is spell bytes left r
exits Is spell bytes left r why is h =
    let p = err_from_is_err_and r is in
    subst (Reads Is spell bytes left) (sym (p.1 ∙ ap Err p.2)) h

-- ---- want of memory

pub read_memory : {A : Type 0} (Is : A → Type 0) (spell : A → List ℕ) (bytes left : List ℕ) → Reads Is spell bytes left (Err Memory)
read_memory Is spell bytes left = record { says = tt; back = λ a rest is e. refl }

-- ---- fixed words

pub alone_word : (word : List ℕ) → AreAlone any (always word)
alone_word word it other more is also e = append_cancel_left word more [] (sym e ∙ sym (append-nil word))

-- a word behind a word
pub word_joins : {B : Type 0} (word : List ℕ) (IsB : B → Type 0) (spell : B → List ℕ) (one : B) → IsB one
    → Joins any (always word) (λ it. IsB) (λ it. spell) IsB (λ b. word ++ spell b) (λ it b. b)
word_joins word IsB spell one one_is = record {
  join = λ it b is also. also;
  spelled = λ it b is also. refl;
  first = λ b. tt;
  second = λ b. b;
  made = λ b is. refl;
  first_is = λ b is. tt;
  second_is = λ b is. is;
  some = λ it is. one;
  some_is = λ it is. one_is;
}

-- what is left of a word answers as the whole
pub record WordGoes (word first left now : List ℕ) : Type 0 where
  pub goes : (end : List ℕ) (r : Result (Unit {0}) Stall) → Reads any (always left) now end r → Reads any (always word) first end r

pub word_begins : (word first : List ℕ) → WordGoes word first word first
word_begins word first = record { goes = λ end r h. h }

byte_joins : (b : ℕ) (left : List ℕ) → Joins any (always (b ∷ [])) (λ it. any) (λ it. always left) any (always (b ∷ left)) (λ it other. other)
byte_joins b left = word_joins (b ∷ []) any (always left) tt tt

made_same : (r : Result (Unit {0}) Stall) → made_of (λ it. it) r ≡ r
made_same (Ok it) = refl
made_same (Err why) = refl

pub word_more : (word first : List ℕ) (b : ℕ) (left now mid : List ℕ) → Reads any (always (b ∷ [])) now mid (Ok tt)
    → WordGoes word first (b ∷ left) now → WordGoes word first left mid
word_more word first b left now mid one w = record {
  goes = λ end r h. w.goes end r (subst (Reads any (always (b ∷ left)) now end) (made_same r)
      (read_second any (always (b ∷ [])) (λ it. any) (λ it. always left) any (always (b ∷ left)) (λ it other. other) (byte_joins b left)
      (alone_word (b ∷ [])) now mid end tt r one h));
}

pub word_halts : (word first : List ℕ) (b : ℕ) (left now end : List ℕ) (why : Stall) → Reads any (always (b ∷ [])) now end (Err why)
    → WordGoes word first (b ∷ left) now → Reads any (always word) first end (Err why)
word_halts word first b left now end why one w =
    w.goes end (Err why) (read_first any (always (b ∷ [])) (λ it. any) (λ it. always left) any (always (b ∷ left)) (λ it other. other)
    (byte_joins b left) now end why one)

pub word_ends : (word first now : List ℕ) → WordGoes word first [] now → Reads any (always word) first now (Ok tt)
word_ends word first now w = w.goes now (Ok tt) (record { says = record { is = tt; splits = refl }; back = λ it rest is e. (refl, e) })

-- ---- values one after another

module _ {A : Type 0} (Is : A → Type 0) (spell : A → List ℕ) (alone : AreAlone Is spell) (one : A) (one_is : Is one) where
  alone_from : (n : ℕ) (xs ys : List A) (more : List ℕ) → AreSo Is n xs → AreSo Is n ys → flat_map spell ys ≡ flat_map spell xs ++ more → more ≡ []
  alone_from n [] [] more is also e = sym e
  alone_from n [] (y ∷ ys) more is also e = absurd (let s : ⊥ = omega (arith, is.0, also.0) in s)
  alone_from n (x ∷ xs) [] more is also e = absurd (let s : ⊥ = omega (arith, is.0, also.0) in s)
  alone_from n (x ∷ xs) (y ∷ ys) more is also e =
      let whole = e ∙ append_assoc (spell x) (flat_map spell xs) more in
      let lx : length xs ≡ n - 1 = omega (arith, is.0) in
      let ly : length ys ≡ n - 1 = omega (arith, also.0) in
      elim (fronts (spell y) (flat_map spell ys) (spell x) (flat_map spell xs ++ more) whole) [
        | inl f ↦ alone_from (n - 1) xs ys more (lx, is.1.1) (ly, also.1.1)
            (sym (f.rest ∙ ap (λ w. w ++ flat_map spell ys) (alone x y f.more is.1.0 also.1.0 f.longer)))
        | inr f ↦ alone_from (n - 1) xs ys more (lx, is.1.1) (ly, also.1.1)
            (f.rest ∙ ap (λ w. w ++ (flat_map spell xs ++ more)) (alone y x f.more also.1.0 is.1.0 f.longer))
      ]

  pub alone_list : (n : ℕ) → AreAlone (AreSo Is n) (flat_map spell)
  alone_list n xs ys more is also e = alone_from n xs ys more is also e

  pub ones : ℕ → List A
  ones zero = []
  ones (suc n) = one ∷ ones n

  pub ones_are : (n : ℕ) → AreSo Is n (ones n)
  unfolding ones
  ones_are zero = (refl, tt)
  ones_are (suc n) = (ap suc (ones_are n).0, (one_is, (ones_are n).1))

  head_of : List A → A
  head_of [] = one
  head_of (x ∷ xs) = x

  tail_of : List A → List A
  tail_of [] = []
  tail_of (x ∷ xs) = xs

  cons_joins : (n : ℕ) → Joins Is spell (λ a. AreSo Is n) (λ a. flat_map spell) (AreSo Is (suc n)) (flat_map spell) (λ a xs. a ∷ xs)
  unfolding head_of tail_of
  cons_joins n = record {
    join = λ a xs is all. (ap suc all.0, (is, all.1));
    spelled = λ a xs is all. refl;
    first = head_of;
    second = tail_of;
    made = made;
    first_is = first_is;
    second_is = second_is;
    some = λ a is. ones n;
    some_is = λ a is. ones_are n;
  }
    where
      made : (xs : List A) → AreSo Is (suc n) xs → head_of xs ∷ tail_of xs ≡ xs
      made [] is = absurd (let s : ⊥ = omega (arith, is.0) in s)
      made (x ∷ xs) is = refl

      first_is : (xs : List A) → AreSo Is (suc n) xs → Is (head_of xs)
      first_is [] is = one_is
      first_is (x ∷ xs) is = is.1.0

      second_is : (xs : List A) → AreSo Is (suc n) xs → AreSo Is n (tail_of xs)
      second_is [] is = absurd (let s : ⊥ = omega (arith, is.0) in s)
      second_is (x ∷ xs) is = ((let s : length xs ≡ n = omega (arith, is.0) in s), is.1.1)

  -- so many values are left, and what they answer makes the whole answer
  pub record ListGoes (count : ℕ) (first : List ℕ) (done : List A) (n : ℕ) (now : List ℕ) : Type 0 where
    pub goes : (end : List ℕ) (r : Result (List A) Stall) → Reads (AreSo Is n) (flat_map spell) now end r
        → Reads (AreSo Is count) (flat_map spell) first end (made_of (λ xs. done ++ xs) r)

  made_none : (r : Result (List A) Stall) → r ≡ made_of (λ xs. [] ++ xs) r
  made_none (Ok xs) = refl
  made_none (Err why) = refl

  pub list_begins : (count : ℕ) (first : List ℕ) → ListGoes count first [] count first
  list_begins count first = record { goes = λ end r h. subst (Reads (AreSo Is count) (flat_map spell) first end) (made_none r) h }

  pub list_starts : (count : ℕ) (first : List ℕ) (done : List A) (n : ℕ) → done ≡ [] → n ≡ count → ListGoes count first done n first
  list_starts count first done n none size =
      subst (λ xs. ListGoes count first xs n first) (sym none) (subst (λ k. ListGoes count first [] k first) (sym size) (list_begins count first))

  made_more : (done : List A) (a : A) (r : Result (List A) Stall)
      → made_of (λ xs. done ++ xs) (made_of (λ xs. a ∷ xs) r) ≡ made_of (λ xs. (done ++ a ∷ []) ++ xs) r
  made_more done a (Ok xs) = ap Ok (sym (append_assoc done (a ∷ []) xs))
  made_more done a (Err why) = refl

  list_more : (count : ℕ) (first : List ℕ) (done : List A) (n m : ℕ) (a : A) (now mid : List ℕ) → n ≡ suc m → Reads Is spell now mid (Ok a)
      → ListGoes count first done n now → ListGoes count first (done ++ a ∷ []) m mid
  list_more count first done n m a now mid size r l = record {
    goes = λ end rest h.
        let both = read_second Is spell (λ x. AreSo Is m) (λ x. flat_map spell) (AreSo Is (suc m)) (flat_map spell) (λ x xs. x ∷ xs)
        (cons_joins m) alone now mid end a rest r h in
        let all = subst (λ k. Reads (AreSo Is k) (flat_map spell) now end (made_of (λ xs. a ∷ xs) rest)) (sym size) both in
        subst (Reads (AreSo Is count) (flat_map spell) first end) (made_more done a rest) (l.goes end (made_of (λ xs. a ∷ xs) rest) all);
  }

  list_halts : (count : ℕ) (first : List ℕ) (done : List A) (n m : ℕ) (why : Stall) (now end : List ℕ) → n ≡ suc m → Reads Is spell now end (Err why)
      → ListGoes count first done n now → Reads (AreSo Is count) (flat_map spell) first end (Err why)
  list_halts count first done n m why now end size r l =
      let one' = read_first Is spell (λ x. AreSo Is m) (λ x. flat_map spell) (AreSo Is (suc m)) (flat_map spell) (λ x xs. x ∷ xs) (cons_joins m) now
      end why r in
      l.goes end (Err why) (subst (λ k. Reads (AreSo Is k) (flat_map spell) now end (Err why)) (sym size) one')

  none_left : (now : List ℕ) → Reads (AreSo Is 0) (flat_map spell) now now (Ok [])
  none_left now = record {
    says = record { is = (refl, tt); splits = refl };
    back = λ xs rest is e. back xs rest is e;
  }
    where
      back : (xs : List A) (rest : List ℕ) → AreSo Is 0 xs → now ≡ flat_map spell xs ++ rest → ([] ≡ xs) × (now ≡ rest)
      back [] rest is e = (refl, e)
      back (x ∷ xs) rest is e = absurd (let s : ⊥ = omega (arith, is.0) in s)

  list_ends : (count : ℕ) (first : List ℕ) (done : List A) (n : ℕ) (now : List ℕ) → n ≡ 0 → ListGoes count first done n now
      → Reads (AreSo Is count) (flat_map spell) first now (Ok done)
  list_ends count first done n now size l =
      subst (λ xs. Reads (AreSo Is count) (flat_map spell) first now (Ok xs)) (append-nil done)
      (l.goes now (Ok []) (subst (λ k. Reads (AreSo Is k) (flat_map spell) now now (Ok [])) (sym size) (none_left now)))

  -- a turn of the loop that reads them: one halts, none is left, or one more is read
  pub turn_halts : (count : ℕ) (first : List ℕ) (done : List A) (at : ℕ) (r : Result (List A) Stall) (why : Stall) (now end : List ℕ) → at < count
      → IsErrAnd r (λ e. e ≡ why) → Reads Is spell now end (Err why) → ListGoes count first done (count - at) now
      → Reads (AreSo Is count) (flat_map spell) first end r
  turn_halts count first done at r why now end more exit one goes =
      exits (AreSo Is count) (flat_map spell) first end r why exit
      (list_halts count first done (count - at) (count - (at + 1)) why now end (omega (arith, more)) one goes)

  pub turns_end : (count : ℕ) (first : List ℕ) (done made : List A) (at : ℕ) (now : List ℕ) → count ≤ at → made ≡ done
      → ListGoes count first done (count - at) now → Reads (AreSo Is count) (flat_map spell) first now (Ok made)
  turns_end count first done made at now past is goes =
      subst (λ xs. Reads (AreSo Is count) (flat_map spell) first now (Ok xs)) (sym is)
      (list_ends count first done (count - at) now (omega (arith, past)) goes)

  pub turn_reads : (count : ℕ) (first : List ℕ) (done made : List A) (at : ℕ) (a : A) (now mid : List ℕ) → at < count → made ≡ done ++ a ∷ []
      → Reads Is spell now mid (Ok a) → ListGoes count first done (count - at) now → ListGoes count first made (count - (at + 1)) mid
  turn_reads count first done made at a now mid more is one goes =
      subst (λ xs. ListGoes count first xs (count - (at + 1)) mid) (sym is)
      (list_more count first done (count - at) (count - (at + 1)) a now mid (omega (arith, more)) one goes)

  -- a count, and as many values: a whole list
  pub counted_joins : (IsCount : ℕ → Type 0) (number : ℕ → List ℕ)
      → Joins IsCount number (AreSo Is) (λ n. flat_map spell) (AreCounted IsCount Is) (λ xs. number (length xs) ++ flat_map spell xs) (λ n xs. xs)
  counted_joins IsCount number = record {
    join = λ n xs is all. (subst IsCount (sym all.0) is, all.1);
    spelled = λ n xs is all. ap (λ k. number k ++ flat_map spell xs) all.0;
    first = length;
    second = λ xs. xs;
    made = λ xs is. refl;
    first_is = λ xs is. is.0;
    second_is = λ xs is. (refl, is.1);
    some = λ n is. ones n;
    some_is = λ n is. ones_are n;
  }

-- ---- one value and then another

pub pair_joins : {A B C : Type 0} (IsA : A → Type 0) (a_spelled : A → List ℕ) (IsB : B → Type 0) (b_spelled : B → List ℕ) (IsC : C
    → Type 0) (c_spelled : C → List ℕ)
    (make : A → B → C) (first : C → A) (second : C → B) → ((c : C) → make (first c) (second c) ≡ c)
    → ((a : A) (b : B) → c_spelled (make a b) ≡ a_spelled a ++ b_spelled b)
    → ((a : A) (b : B) → IsA a → IsB b → IsC (make a b)) → ((c : C) → IsC c → IsA (first c) × IsB (second c)) → (one : B) → IsB one
    → Joins IsA a_spelled (λ a. IsB) (λ a. b_spelled) IsC c_spelled make
pair_joins IsA a_spelled IsB b_spelled IsC c_spelled make first second made spelled join both one one_is = record {
  join = join;
  spelled = λ a b is also. spelled a b;
  first = first;
  second = second;
  made = λ c is. made c;
  first_is = λ c is. (both c is).0;
  second_is = λ c is. (both c is).1;
  some = λ a is. one;
  some_is = λ a is. one_is;
}

-- the same values under another name
says_same : {A : Type 0} (Is Also : A → Type 0) (spell : A → List ℕ) (bytes left : List ℕ) (r : Result A Stall) → ((a : A) → Is a → Also a)
    → ((a : A) → Also a → Is a)
    → MatchResult r (Taken Is spell bytes left) (Halts Is spell bytes left) → MatchResult r (Taken Also spell bytes left) (Halts Also spell bytes left)
says_same Is Also spell bytes left (Ok a) to from h = record { is = to a h.is; splits = h.splits }
says_same Is Also spell bytes left (Err Memory) to from h = tt
says_same Is Also spell bytes left (Err Here) to from h = record {
  taken = h.taken;
  splits = h.splits;
  begins = (h.begins.0, to h.begins.0 h.begins.1, h.begins.2, h.begins.3);
  stops = stops left h.stops;
}
  where
    stops : (l : List ℕ) → Stops Is spell h.taken l → Stops Also spell h.taken l
    stops [] s = tt
    stops (x ∷ l) s = λ on. s (on.0, from on.0 on.1, on.2, on.3)

pub read_same : {A : Type 0} (Is Also : A → Type 0) (spell : A → List ℕ) (bytes left : List ℕ) (r : Result A Stall) → ((a : A) → Is a → Also a)
    → ((a : A) → Also a → Is a)
    → Reads Is spell bytes left r → Reads Also spell bytes left r
read_same Is Also spell bytes left r to from h = record {
  says = says_same Is Also spell bytes left r to from h.says;
  back = λ a rest is e. h.back a rest (from a is) e;
}
