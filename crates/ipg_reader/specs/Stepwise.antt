-- Readers that take a byte at a time: from a state a byte leads on to another, or no text goes on with it.
use Rattle.std.specs.Prelude.{◌≡◌, ℕ, suc, ◌+◌, ◌<◌, ◌≤◌, Bool, true, false, List, [], ◌∷◌, ◌++◌, length, take, drop, get_or, Option, Some, None}
use Rattle.std.specs.Prelude.{Result, Ok, Err, if◌then◌else◌}
use Rattle.std.proofs.Common.{refl, sym, ap, subst, ◌∙◌, arith, append_assoc, append-nil, true≢false, drop-cons}
use Rattle.std.proofs.lemmas.List.{drop_all}
use Rattle.std.proofs.lemmas.Option.{none-some, same_Some}
use Rattle.ipg_reader.specs.Faults.{Continues, IsFirstFault}

-- ---- what a reader does

abbrev pub and_then : {S : Type 0} → Option S → (S → Option S) → Option S
and_then None go = None
and_then (Some st) go = go st

-- the state after these bytes
abbrev pub run : {S : Type 0} → (S → ℕ → Option S) → S → List ℕ → Option S
run step st [] = Some st
run step st (b ∷ bs) = and_then (step st b) (λ on. run step on bs)

abbrev pub next : {S A : Type 0} → Option S → ℕ → (S → Result A ℕ) → Result A ℕ
next None n go = Err n
next (Some st) n go = go st

abbrev pub last : {A : Type 0} → Option A → ℕ → Result A ℕ
last None n = Err n
last (Some a) n = Ok a

-- the value, or how many bytes are taken before the first that does not fit
abbrev pub read_from : {S A : Type 0} → (S → ℕ → Option S) → (S → Option A) → S → ℕ → List ℕ → Result A ℕ
read_from step ended st n [] = last (ended st) n
read_from step ended st n (b ∷ bs) = next (step st b) n (λ on. read_from step ended on (n + 1) bs)

-- ---- runs

module _ {S : Type 0} (step : S → ℕ → Option S) where
  through : (o : Option S) (f g : S → Option S) (mid : S) (r : Option S) → ((on : S) → f on ≡ Some mid → g on ≡ r)
      → and_then o f ≡ Some mid → and_then o g ≡ r
  through None f g mid r h e = absurd (none-some mid e)
  through (Some on) f g mid r h e = h on e

  pub run_on : (st mid : S) (xs ys : List ℕ) → run step st xs ≡ Some mid → run step st (xs ++ ys) ≡ run step mid ys
  run_on st mid [] ys e = ap (λ o. and_then o (λ on. run step on ys)) e
  run_on st mid (x ∷ xs) ys e =
      through (step st x) (λ on. run step on xs) (λ on. run step on (xs ++ ys)) mid (run step mid ys) (λ on d. run_on on mid xs ys d) e

  -- one byte, and those after it
  pub run_step : (st on : S) (b : ℕ) (ys : List ℕ) → step st b ≡ Some on → run step st (b ∷ ys) ≡ run step on ys
  run_step st on b ys e = ap (λ o. and_then o (λ to. run step to ys)) e

-- ---- where a reader stops

module _ (Begins GoesOn : List ℕ → Type 0) where
  -- so many of the bytes behind these words are taken, and with the next one nothing goes on
  abbrev pub StopsAt : List ℕ → ℕ → List ℕ → ℕ → Type 0
  StopsAt words n bs m =
      (k : ℕ) × (m ≡ n + k) × (k ≤ length bs) × Begins (words ++ take k bs) × (k < length bs → ¬ GoesOn (words ++ take (k + 1) bs))

  pub stops_at_end : (words : List ℕ) (n : ℕ) → Begins words → StopsAt words n [] n
  stops_at_end words n begins = (
    0,
    (let e : n ≡ n + 0 = omega arith in e),
    (let e : 0 ≤ 0 = omega arith in e),
    subst Begins (sym (append-nil words)) begins,
    λ less. absurd (let e : ⊥ = omega (arith, less) in e),
  )

  pub stops_here : (words : List ℕ) (n b : ℕ) (bs : List ℕ) → Begins words → ¬ GoesOn (words ++ b ∷ []) → StopsAt words n (b ∷ bs) n
  stops_here words n b bs begins stuck = (
    0,
    (let e : n ≡ n + 0 = omega arith in e),
    (let e : 0 ≤ suc (length bs) = omega arith in e),
    subst Begins (sym (append-nil words)) begins,
    λ less. stuck,
  )

  pub stops_later : (words : List ℕ) (n b : ℕ) (bs : List ℕ) (m : ℕ) → StopsAt (words ++ b ∷ []) (n + 1) bs m → StopsAt words n (b ∷ bs) m
  stops_later words n b bs m (k, count, within, begins, stops) = (
    suc k,
    (let e : m ≡ n + suc k = omega (arith, count) in e),
    (let e : suc k ≤ suc (length bs) = omega (arith, within) in e),
    subst Begins (append_assoc words (b ∷ []) (take k bs)) begins,
    λ more on. stops (let e : k < length bs = omega (arith, more) in e)
        (subst GoesOn (sym (append_assoc words (b ∷ []) (take (k + 1) bs)
        ∙ ap (λ j. words ++ take j (b ∷ bs)) (let e : suc (k + 1) ≡ suc k + 1 = omega arith in e))) on),
  )

-- ---- when a reader reads spellings

abbrev pub OnStep : {S : Type 0} → (S → List ℕ → Type 0) → Option S → List ℕ → Type 0
OnStep Stands None words = Unit {0}
OnStep Stands (Some on) words = Stands on words

-- Stands: what a state says of the bytes that led to it
pub record IsReader {S A : Type 0} (step : S → ℕ → Option S) (ended : S → Option A) (start : S) (Is : A → Type 0) (spell : A → List ℕ)
    (Stands : S → List ℕ → Type 0) : Type 0 where
  pub first : Stands start []
  pub on : (st : S) (words : List ℕ) (b : ℕ) → Stands st words → OnStep Stands (step st b) (words ++ b ∷ [])
  pub begins : (st : S) (words : List ℕ) → Stands st words → Continues Is spell words
  pub ends : (st : S) (words : List ℕ) (a : A) → Stands st words → ended st ≡ Some a → Is a × (words ≡ spell a)
  pub whole : (a : A) → Is a → (end : S) × (run step start (spell a) ≡ Some end) × (ended end ≡ Some a)

module _ {S A : Type 0} {step : S → ℕ → Option S} {ended : S → Option A} {start : S} {Is : A → Type 0} {spell : A → List ℕ}
    {Stands : S → List ℕ → Type 0} (reader : IsReader step ended start Is spell Stands) where
  abbrev read : S → ℕ → List ℕ → Result A ℕ
  read = read_from step ended

  -- a run that ends well is read as such
  by_next : (o : Option S) (n : ℕ) (bs : List ℕ) (e : S) (a : A) (go : S → Result A ℕ) → ((on : S) → run step on bs ≡ Some e → go on ≡ Ok a)
      → and_then o (λ on. run step on bs) ≡ Some e → next o n go ≡ Ok a
  by_next None n bs e a go more d = absurd (none-some e d)
  by_next (Some on) n bs e a go more d = more on d

  run_read : (bs : List ℕ) (st e : S) (n : ℕ) (a : A) → run step st bs ≡ Some e → ended e ≡ Some a → read st n bs ≡ Ok a
  run_read [] st e n a d is = ap (λ o. last o n) (ap ended (same_Some st e d) ∙ is)
  run_read (b ∷ bs) st e n a d is = by_next (step st b) n bs e a (λ on. read on (n + 1) bs) (λ on f. run_read bs on e (n + 1) a f is) d

  -- what is spelled is read
  read_spelled : (a : A) → Is a → read start 0 (spell a) ≡ Ok a
  read_spelled a is = let (end, reached, ends) = reader.whole a is in run_read (spell a) start end 0 a reached ends

  -- what an answer says of the bytes from a place on, behind those that were read
  abbrev Says : List ℕ → ℕ → List ℕ → Result A ℕ → Type 0
  Says words n bs (Ok a) = Is a × (words ++ bs ≡ spell a)
  Says words n bs (Err m) = StopsAt (Continues Is spell) (Continues Is spell) words n bs m

  says_later : (words : List ℕ) (n b : ℕ) (bs : List ℕ) (o : Result A ℕ) → Says (words ++ b ∷ []) (n + 1) bs o → Says words n (b ∷ bs) o
  says_later words n b bs (Ok a) (is, e) = (is, sym (append_assoc words (b ∷ []) bs) ∙ e)
  says_later words n b bs (Err m) stops = stops_later (Continues Is spell) (Continues Is spell) words n b bs m stops

  -- no spelling goes on with a byte that does not fit
  none_on : (words : List ℕ) (st : S) (b : ℕ) → run step start words ≡ Some st → step st b ≡ None → Continues Is spell (words ++ b ∷ []) → ⊥
  none_on words st b reached stuck (a, rest, is, spelled) =
      let (end, ran, ends) = reader.whole a is in
      none-some end (
      sym (ap (run step start) (append_assoc words (b ∷ []) rest) ∙ run_on step start st words (b ∷ rest) reached
      ∙ ap (λ o. and_then o (λ on. run step on rest)) stuck)
      ∙ ap (run step start) (sym spelled) ∙ ran)

  at_end : (words : List ℕ) (st : S) (n : ℕ) (o : Option A) → Stands st words → ended st ≡ o → Says words n [] (last o n)
  at_end words st n None stands is = stops_at_end (Continues Is spell) (Continues Is spell) words n (reader.begins st words stands)
  at_end words st n (Some a) stands is = let (fits, e) = reader.ends st words a stands is in (fits, append-nil words ∙ e)

  says : (bs words : List ℕ) (st : S) (n : ℕ) → Stands st words → run step start words ≡ Some st → Says words n bs (read st n bs)
  says [] words st n stands reached = at_end words st n (ended st) stands refl
  says (b ∷ bs) words st n stands reached =
      by_step (step st b) refl (reader.on st words b stands) (λ on s r. says bs (words ++ b ∷ []) on (n + 1) s r)
    where
      by_step : (o : Option S) → step st b ≡ o → OnStep Stands o (words ++ b ∷ [])
          → ((on : S) → Stands on (words ++ b ∷ []) → run step start (words ++ b ∷ []) ≡ Some on → Says (words ++ b ∷ []) (n + 1) bs (read on (n + 1) bs))
          → Says words n (b ∷ bs) (next o n (λ on. read on (n + 1) bs))
      by_step None is after go =
          stops_here (Continues Is spell) (Continues Is spell) words n b bs (reader.begins st words stands) (none_on words st b reached is)
      by_step (Some on) is s go =
          says_later words n b bs (read on (n + 1) bs) (go on s (run_on step start st words (b ∷ []) reached ∙ run_step step st on b [] is))

  at_start : (text : List ℕ) → Says [] 0 text (read start 0 text)
  at_start text = says text [] start 0 reader.first refl

  no_fault : (n : ℕ) (a : A) → ◌≡◌ {A = Result A ℕ} (Err n) (Ok a) → ⊥
  no_fault n a e = true≢false (ap is_fault e)
    where
      is_fault : Result A ℕ → Bool
      is_fault (Ok x) = false
      is_fault (Err k) = true

  -- ---- what is read of all bytes

  pub read_back : (text : List ℕ) (a : A) → Is a → text ≡ spell a → read start 0 text ≡ Ok a
  read_back text a is e = ap (read start 0) e ∙ read_spelled a is

  pub found : (text : List ℕ) (a : A) → read start 0 text ≡ Ok a → Is a × (text ≡ spell a)
  found text a is = subst (Says [] 0 text) is (at_start text)

  pub no_fault_of : (text : List ℕ) (n : ℕ) (a : A) → read start 0 text ≡ Err n → Is a → text ≡ spell a → ⊥
  no_fault_of text n a faulty is e = no_fault n a (sym faulty ∙ read_back text a is e)

  pub first_fault : (text : List ℕ) (n : ℕ) → read start 0 text ≡ Err n → IsFirstFault Is spell text n
  first_fault text n is =
      let (k, count, within, begins, stops) = subst (Says [] 0 text) is (at_start text) in
      let same : k ≡ n = omega (arith, count) in
      subst (IsFirstFault Is spell text) same (record {
        within = within;
        before = begins;
        there = stops;
        ends = λ a fits e. no_fault_of text n a is fits e;
      })

  pub same_found : (text : List ℕ) (a b : A) → read start 0 text ≡ Ok a → Is b → text ≡ spell b → a ≡ b
  same_found text a b is fits e = ap (λ o. value_in a o) (sym is ∙ read_back text b fits e)
    where
      value_in : A → Result A ℕ → A
      value_in other (Ok x) = x
      value_in other (Err k) = other

-- ---- where a reader has come to

module _ {S A : Type 0} (step : S → ℕ → Option S) (ended : S → Option A) (start : S) (text : List ℕ) (n : ℕ) (st : S)
    (so_far : read_from step ended start 0 text ≡ read_from step ended st n (drop n text)) where
  pub stuck_at : (d : ℕ) (on : S) (goes : Bool) → n < length text → step st (get_or text n d) ≡ (if goes then Some on else None) → goes ≡ false
      → read_from step ended start 0 text ≡ Err n
  stuck_at d on goes less taken stuck =
      so_far ∙ ap (read_from step ended st n) (drop-cons text n d less)
      ∙ ap (λ o. next o n (λ to. read_from step ended to (n + 1) (drop (suc n) text))) (taken ∙ ap (λ c. if c then Some on else None) stuck)

  pub end_at : (o : Option A) → length text ≤ n → o ≡ ended st → read_from step ended start 0 text ≡ last o n
  end_at o all is = so_far ∙ ap (read_from step ended st n) (drop_all n text all) ∙ ap (λ e. last e n) (sym is)
