-- The words of whole trees lead a reader on to its end.
use Rattle.std.proofs.Common.{◌≡◌, ℕ, zero, suc, ◌+◌, ◌-◌, ◌*◌, ◌/◌, ◌%◌, ◌^◌, ◌<◌, ◌≤◌, Bool, true, false, not, ◌&&◌, ◌||◌}
use Rattle.std.proofs.Common.{nat_le, ◌==◌, List, [], ◌∷◌, ◌++◌, length, Some, None, refl, ap, ◌∙◌, sym, subst, arith}
use Rattle.std.proofs.Common.{append_assoc, append-nil, decimal, flat_map, true≢false, if◌then◌else◌, ℤ, pos, negsuc}
use Rattle.std.specs.Fmt.{signed_decimal}
use Rattle.std.specs.List.{AllByRecursion}
use Rattle.std.proofs.lemmas.Bool.{le-leb, eq-eqb, ne_eqb}
use Rattle.std.proofs.lemmas.Fmt.{decimal_by_steps}
use Rattle.ipg_reader.specs.Digits.{digit_value, digit_is}
use Rattle.ipg_reader.specs.Stepwise.{run, run_on, run_step}
use Rattle.ipg_cert.specs.declared.pos.Need.{Need}
use Rattle.ipg_cert.specs.declared.pos.Need.TheVariants.{Count, Weight, Fact, Var, At, Choice, Parts}
use Rattle.ipg_cert.specs.declared.pos.Number.{Number}
use Rattle.ipg_cert.specs.declared.pos.Pos.{Pos}
use Rattle.ipg_cert.specs.declared.pos.Pos.TheVariants.{Letter, First, Minus, Digits, Ended}
use Rattle.ipg_cert.specs.declared.pos.Transition.{Transition}
use Rattle.ipg_cert.specs.declared.pos.Transition.TheVariants.{Stuck, To, End}
use Rattle.ipg_cert.specs.declared.refutation.Step.{Step}
use Rattle.ipg_cert.specs.declared.refutation.Step.TheVariants.{Combine, Split, Either}
use Rattle.ipg_cert.specs.Words.{entry_words, step_words, words_of}
use Rattle.ipg_cert.specs.Texts.{parts_of, AreTrees, IsWord, IsSignedWord, IsEntry, IsInRange, IsTextOf}
use Rattle.ipg_cert.specs.Reader.{limit, may_be_zero, may_be_negative, signed, begun, grown}
use Rattle.ipg_cert.specs.Reader.{State, start, spaced_to, parted, with_step, with_entry, taken, step, has_ended}
use Rattle.ipg_cert.proofs.Spelled.{limit_word}

abbrev MayBe : Need → Bool → ℕ → Type 0
MayBe need negative v = (may_be_zero need ≡ false → 1 ≤ v) × (negative ≡ true → 1 ≤ v)

not_zero_digit : (d : ℕ) → 1 ≤ d → (48 + d == 48) ≡ false
not_zero_digit d some = ne_eqb (48 + d) 48 (λ e. let f : ⊥ = omega (arith, e) in f)

or_yes : (a c : Bool) → (a ≡ false → c ≡ false) → (a || not c) ≡ true
or_yes true c f = refl
or_yes false c f = ap not (f refl)

module _ (made : List Step) (entries : List (ℕ × ℕ)) (trees : ℕ) (need : Need) (negative : Bool) where
  abbrev at_number : ℕ → State
  at_number v = record { made = made; entries = entries; open_trees = trees; pos = Digits (record { need = need; negative = negative; value = v }) }

  one_more : (m : ℕ) → 10 ≤ m → m ≤ limit need negative → step (at_number (m / 10)) (48 + m % 10) ≡ Some (at_number m)
  one_more m large small =
      let (digit, value) = digit_is (m % 10) (omega arith) in
      let some : not (m / 10 == 0) ≡ true = ap not (ne_eqb (m / 10) 0 (λ e. let f : ⊥ = omega (arith, e) in f)) in
      let sum : m / 10 * 10 + digit_value (48 + m % 10) ≡ m = omega (arith, value) in
      let here : Number = record { need = need; negative = negative; value = m / 10 } in
      ap (λ c. taken (if c then grown here (m / 10 * 10 + digit_value (48 + m % 10)) else End here) (at_number (m / 10)) (48 + m % 10)) digit
      ∙ ap (λ v. taken (grown here v) (at_number (m / 10)) (48 + m % 10)) sum
      ∙ ap (λ c. taken (if c && nat_le m (limit need negative) then To (Digits (record { need = need; negative = negative; value = m })) else Stuck)
      (at_number (m / 10)) (48 + m % 10)) some
      ∙ ap (λ c. taken (if c then To (Digits (record { need = need; negative = negative; value = m })) else Stuck) (at_number (m / 10)) (48 + m % 10))
      (le-leb m (limit need negative) small)

  -- a first digit, and those after it
  module _ (st : State) (begin : (d : ℕ) → d < 10 → MayBe need negative d → step st (48 + d) ≡ Some (at_number d)) where
    run_decimal : (v : ℕ) → v ≤ limit need negative → MayBe need negative v → run step st (decimal v) ≡ Some (at_number v)
    run_decimal v small may = decimal_by_steps (λ m ds. m ≤ limit need negative → MayBe need negative m → run step st ds ≡ Some (at_number m))
        (λ m l fits ok. run_step step st (at_number m) (48 + m) [] (begin m l ok))
        (λ m ds l h fits ok.
        let ok' : MayBe need negative (m / 10) = ((λ e. (let f : 1 ≤ m / 10 = omega arith in f)), (λ e. (let f : 1 ≤ m / 10 = omega arith in f))) in
        run_on step st (at_number (m / 10)) ds ((48 + m % 10) ∷ []) (h (omega arith) ok')
        ∙ run_step step (at_number (m / 10)) (at_number m) (48 + m % 10) [] (one_more m l fits))
        v (omega (arith, small, limit_word need negative)) small may

module _ (made : List Step) (entries : List (ℕ × ℕ)) (trees : ℕ) where
  abbrev at_place : Pos → State
  at_place p = record { made = made; entries = entries; open_trees = trees; pos = p }

  first_begins : (need : Need) (d : ℕ) → d < 10 → MayBe need false d → step (at_place (First need)) (48 + d) ≡ Some (at_number made entries trees need false d)
  first_begins need d less may =
      let (digit, value) = digit_is d less in
      let some = or_yes (may_be_zero need) (48 + d == 48) (λ e. not_zero_digit d (may.0 e)) in
      let minus : Transition = if may_be_negative need && 48 + d == 45 then To (Minus need) else Stuck in
      ap (λ c. taken (if c && (may_be_zero need || not (48 + d == 48)) then begun need false (48 + d) else minus) (at_place (First need)) (48 + d)) digit
      ∙ ap (λ c. taken (if c then begun need false (48 + d) else minus) (at_place (First need)) (48 + d)) some
      ∙ ap (λ v. Some (at_number made entries trees need false v)) value

  minus_begins : (need : Need) (d : ℕ) → d < 10 → MayBe need true d → step (at_place (Minus need)) (48 + d) ≡ Some (at_number made entries trees need true d)
  minus_begins need d less may =
      let (digit, value) = digit_is d less in
      let some : not (48 + d == 48) ≡ true = ap not (not_zero_digit d (may.1 refl)) in
      ap (λ c. taken (if c && not (48 + d == 48) then begun need true (48 + d) else Stuck) (at_place (Minus need)) (48 + d)) digit
      ∙ ap (λ c. taken (if c then begun need true (48 + d) else Stuck) (at_place (Minus need)) (48 + d)) some
      ∙ ap (λ v. Some (at_number made entries trees need true v)) value

  run_number : (need : Need) (v : ℕ) → v ≤ limit need false → (may_be_zero need ≡ false → 1 ≤ v)
      → run step (at_place (First need)) (decimal v) ≡ Some (at_number made entries trees need false v)
  run_number need v small some =
      run_decimal made entries trees need false (at_place (First need)) (first_begins need) v small (some, λ e. absurd (true≢false (sym e)))

  run_signed : (var : ℕ) (z : ℤ) → IsSignedWord z → (negative : Bool) × (v : ℕ) × (signed negative v ≡ z)
      × (run step (at_place (First (At var))) (signed_decimal z) ≡ Some (at_number made entries trees (At var) negative v))
  run_signed var (pos n) small = (false, n, refl, run_number (At var) n (omega arith) (λ e. absurd (true≢false e)))
  run_signed var (negsuc n) small =
      let some : 1 ≤ suc n = omega arith in (
        true,
        suc n,
        refl,
        run_step step (at_place (First (At var))) (at_place (Minus (At var))) 45 (decimal (suc n)) refl
            ∙ run_decimal made entries trees (At var) true (at_place (Minus (At var))) (minus_begins (At var)) (suc n) (omega arith) ((λ e. some), (λ e. some)),
      )

-- a state after which the step is whole
record Whole (st : State) (words : List ℕ) (made : List Step) (trees : ℕ) (s : Step) : Type 0 where
  pub end : State
  pub reached : run step st words ≡ Some end
  pub spaced : step end 32 ≡ parted (record { made = made ++ s ∷ []; entries = []; open_trees = trees - 1 + parts_of s; pos = Letter }) 32
  pub fed : step end 10 ≡ parted (record { made = made ++ s ∷ []; entries = []; open_trees = trees - 1 + parts_of s; pos = Letter }) 10

whole_later : (st mid : State) (xs ys : List ℕ) (made : List Step) (trees : ℕ) (s : Step) → run step st xs ≡ Some mid → Whole mid ys made trees s
    → Whole st (xs ++ ys) made trees s
whole_later st mid xs ys made trees s e w = record { end = w.end; reached = run_on step st mid xs ys e ∙ w.reached; spaced = w.spaced; fed = w.fed }

-- a number, and a space
run_spaced : (st mid on : State) (xs ys : List ℕ) → run step st xs ≡ Some mid → step mid 32 ≡ Some on → run step st (xs ++ 32 ∷ ys) ≡ run step on ys
run_spaced st mid on xs ys e f = run_on step st mid xs (32 ∷ ys) e ∙ run_step step mid on 32 ys f

word_limit : (n : ℕ) → IsWord n → n ≤ 2 ^ 64 - 1
word_limit n small = omega arith

module _ (made : List Step) (trees : ℕ) where
  abbrev fact_end : List (ℕ × ℕ) → ℕ → ℕ → ℕ → State
  fact_end done left w f = at_number made done trees (Fact left w) false f

  -- from before an entry to after it
  entry_run : (done : List (ℕ × ℕ)) (left w f : ℕ) (st : State) → step st 32 ≡ Some (at_place made done trees (First (Weight left))) → IsWord w → IsWord f
      → run step st (entry_words (w, f)) ≡ Some (fact_end done left w f)
  entry_run done left w f st e first second =
      run_step step st (at_place made done trees (First (Weight left))) 32 (decimal w ++ 32 ∷ decimal f) e
      ∙ run_spaced (at_place made done trees (First (Weight left))) (at_number made done trees (Weight left) false w)
      (at_place made done trees (First (Fact left w))) (decimal w) (decimal f)
      (run_number made done trees (Weight left) w (word_limit w first) (λ d. absurd (true≢false d))) refl
      ∙ run_number made done trees (Fact left w) f (word_limit f second) (λ d. absurd (true≢false d))

  next_entry : (done : List (ℕ × ℕ)) (n w f : ℕ) → step (fact_end done (suc (suc n)) w f) 32
      ≡ Some (at_place made (done ++ (w, f) ∷ []) trees (First (Weight (suc n))))
  next_entry done n w f =
      ap (λ c. if c then parted (with_step (with_entry (fact_end done (suc (suc n)) w f) w f) (Combine (done ++ (w, f) ∷ []))) 32 else spaced_to
      (with_entry (fact_end done (suc (suc n)) w f) w f) (Weight (suc (suc n) - 1)) 32)
      (ne_eqb (suc (suc n)) 1 (λ e. let g : ⊥ = omega (arith, e) in g))
      ∙ ap (λ k. Some (at_place made (done ++ (w, f) ∷ []) trees (First (Weight k)))) (let e : suc (suc n) - 1 ≡ suc n = omega arith in e)

  entries_whole : (es done : List (ℕ × ℕ)) (w f : ℕ) (st : State) → step st 32 ≡ Some (at_place made done trees (First (Weight (suc (length es)))))
      → AllByRecursion IsEntry ((w, f) ∷ es) → Whole st (flat_map entry_words ((w, f) ∷ es)) made trees (Combine (done ++ (w, f) ∷ es))
  entries_whole [] done w f st e all =
      whole_later st (fact_end done 1 w f) (entry_words (w, f)) [] made trees (Combine (done ++ (w, f) ∷ [])) (entry_run done 1 w f st e all.0.0 all.0.1)
      (record { end = fact_end done 1 w f; reached = refl; spaced = refl; fed = refl })
  entries_whole (x ∷ es) done w f st e all =
      whole_later st (fact_end done (suc (suc (length es))) w f) (entry_words (w, f)) (flat_map entry_words (x ∷ es)) made trees
      (Combine (done ++ (w, f) ∷ x ∷ es))
      (entry_run done (suc (suc (length es))) w f st e all.0.0 all.0.1)
      (subst (λ fs. Whole (fact_end done (suc (suc (length es))) w f) (flat_map entry_words (x ∷ es)) made trees (Combine fs))
      (append_assoc done ((w, f) ∷ []) (x ∷ es))
      (entries_whole es (done ++ (w, f) ∷ []) x.0 x.1 (fact_end done (suc (suc (length es))) w f) (next_entry done (length es) w f) all.1))

  abbrev before_step : State
  before_step = at_place made [] trees Letter

  step_whole : (s : Step) → IsInRange s → Whole before_step (step_words s) made trees s
  step_whole (Combine []) range = absurd (let e : ⊥ = omega (arith, range.0) in e)
  step_whole (Combine (x ∷ es)) range =
      whole_later before_step (at_number made [] trees Count false (suc (length es))) (99 ∷ 32 ∷ decimal (suc (length es)))
      (flat_map entry_words (x ∷ es)) made trees (Combine (x ∷ es))
      (run_number made [] trees Count (suc (length es)) (word_limit (suc (length es)) range.1) (λ e. range.0))
      (entries_whole es [] x.0 x.1 (at_number made [] trees Count false (suc (length es))) refl range.2)
  step_whole (Split x z) range =
      let (negative, v, is, run_z) = run_signed made [] trees x z range.1 in
      record {
        end = at_number made [] trees (At x) negative v;
        reached = run_spaced (at_place made [] trees (First Var)) (at_number made [] trees Var false x) (at_place made [] trees (First (At x))) (decimal x)
            (signed_decimal z)
            (run_number made [] trees Var x (word_limit x range.0) (λ d. absurd (true≢false d))) refl ∙ run_z;
        spaced = ap (λ y. parted (record { made = made ++ Split x y ∷ []; entries = []; open_trees = trees - 1 + 2; pos = Letter }) 32) is;
        fed = ap (λ y. parted (record { made = made ++ Split x y ∷ []; entries = []; open_trees = trees - 1 + 2; pos = Letter }) 10) is;
      }
  step_whole (Either fact parts) range = record {
    end = at_number made [] trees (Parts fact) false parts;
    reached = run_spaced (at_place made [] trees (First Choice)) (at_number made [] trees Choice false fact) (at_place made [] trees (First (Parts fact)))
        (decimal fact) (decimal parts)
        (run_number made [] trees Choice fact (word_limit fact range.0) (λ d. absurd (true≢false d))) refl
        ∙ run_number made [] trees (Parts fact) parts (word_limit parts range.2) (λ e. range.1);
    spaced = refl;
    fed = refl;
  }

-- all steps of the trees that are open
pub record Ends (st : State) (words : List ℕ) (steps : List Step) : Type 0 where
  pub end : State
  pub reached : run step st words ≡ Some end
  pub made : end.made ≡ steps
  pub ended : has_ended end.pos ≡ true

ends_later : (st mid : State) (xs ys : List ℕ) (steps : List Step) → run step st xs ≡ Some mid → Ends mid ys steps → Ends st (xs ++ ys) steps
ends_later st mid xs ys steps e w = record { end = w.end; reached = run_on step st mid xs ys e ∙ w.reached; made = w.made; ended = w.ended }

last_fed : (made : List Step) (n : ℕ) → n ≡ 0
    → parted (record { made = made; entries = []; open_trees = n; pos = Letter }) 10 ≡ Some (record { made = made; entries = []; open_trees = n; pos = Ended })
last_fed made n none = ap (λ c. if c then Some (record { made = made; entries = []; open_trees = n; pos = Ended }) else None) (eq-eqb n 0 none)

more_spaced : (made : List Step) (n : ℕ) → 1 ≤ n
    → parted (record { made = made; entries = []; open_trees = n; pos = Letter }) 32 ≡ Some (record { made = made; entries = []; open_trees = n; pos = Letter })
more_spaced made n some =
    ap (λ c. if c then None else Some (record { made = made; entries = []; open_trees = n; pos = Letter }))
    (ne_eqb n 0 (λ e. let f : ⊥ = omega (arith, e) in f))

open_after : (trees : ℕ) (s : Step) (steps : List Step) → AreTrees trees (s ∷ steps) → AreTrees (trees - 1 + parts_of s) steps
open_after zero s steps e = absurd e
open_after (suc n) s steps e = subst (λ k. AreTrees k steps) (let f : n + parts_of s ≡ suc n - 1 + parts_of s = omega arith in f) e

some_open : (n : ℕ) (s : Step) (steps : List Step) → AreTrees n (s ∷ steps) → 1 ≤ n
some_open zero s steps e = absurd e
some_open (suc n) s steps e = omega arith

steps_end : (steps made : List Step) (trees : ℕ) (s : Step) → AreTrees trees (s ∷ steps) → AllByRecursion IsInRange (s ∷ steps)
    → Ends (before_step made trees) (words_of (s ∷ steps) ++ 10 ∷ []) (made ++ s ∷ steps)
steps_end [] made trees s tree ranges =
    let w = step_whole made trees s ranges.0 in
    let left = trees - 1 + parts_of s in
    let on : State = record { made = made ++ s ∷ []; entries = []; open_trees = left; pos = Ended } in
    record {
      end = on;
      reached = ap (λ xs. run step (before_step made trees) (xs ++ 10 ∷ [])) (append-nil (step_words s))
          ∙ run_on step (before_step made trees) w.end (step_words s) (10 ∷ []) w.reached
          ∙ run_step step w.end on 10 [] (w.fed ∙ last_fed (made ++ s ∷ []) left (open_after trees s [] tree));
      made = refl;
      ended = refl;
    }
steps_end (t ∷ steps) made trees s tree ranges =
    let w = step_whole made trees s ranges.0 in
    let left = trees - 1 + parts_of s in
    let tree' = open_after trees s (t ∷ steps) tree in
    let rest = steps_end steps (made ++ s ∷ []) left t tree' ranges.1 in
    record {
      end = rest.end;
      reached = ap (run step (before_step made trees)) (append_assoc (step_words s) (32 ∷ words_of (t ∷ steps)) (10 ∷ []))
          ∙ run_spaced (before_step made trees) w.end (before_step (made ++ s ∷ []) left) (step_words s) (words_of (t ∷ steps) ++ 10 ∷ []) w.reached
          (w.spaced ∙ more_spaced (made ++ s ∷ []) left (some_open left t steps tree'))
          ∙ rest.reached;
      made = rest.made ∙ append_assoc made (s ∷ []) (t ∷ steps);
      ended = rest.ended;
    }

pub text_ends : (steps : List Step) (text : List ℕ) → IsTextOf steps text → Ends start text steps
text_ends [] text is = absurd (let e : ⊥ = omega (arith, is.tree) in e)
text_ends (s ∷ steps) text is = subst (λ xs. Ends start xs (s ∷ steps)) (sym is.words) (steps_end steps [] 1 s is.tree is.ranges)
