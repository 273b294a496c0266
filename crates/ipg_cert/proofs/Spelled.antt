-- The words that a reader has taken, and one byte more.
use Rattle.std.proofs.Common.{◌≡◌, ℕ, zero, suc, ◌+◌, ◌-◌, ◌*◌, ◌^◌, ◌<◌, ◌≤◌, ◌⊎◌, Bool, true, false, not, ◌&&◌, ◌||◌, nat_le, ◌==◌}
use Rattle.std.proofs.Common.{List, [], ◌∷◌, ◌++◌, length, replicate, Some, None, refl, ap, ◌∙◌, sym, subst, arith, inl, inr, pos_of_ne-zero}
use Rattle.std.proofs.Common.{append_assoc, append-nil, length-append, decimal, flat_map, true≢false, if◌then◌else◌}
use Rattle.std.specs.Fmt.{signed_decimal}
use Rattle.std.specs.List.{AllByRecursion}
use Rattle.std.proofs.lemmas.Bool.{cond_both, eqb-true, eqb-false, leb-true}
use Rattle.std.proofs.lemmas.Bool.Decides.{nat_tests}
use Rattle.ipg_reader.specs.Digits.{is_digit, digit_value, one_digit, digit_more}
use Rattle.ipg_reader.specs.Stepwise.{OnStep}
use Rattle.ipg_cert.specs.declared.pos.Need.{Need}
use Rattle.ipg_cert.specs.declared.pos.Need.TheVariants.{Count, Weight, Fact, Var, At, Choice, Parts}
use Rattle.ipg_cert.specs.declared.pos.Number.{Number}
use Rattle.ipg_cert.specs.declared.pos.Pos.{Pos}
use Rattle.ipg_cert.specs.declared.pos.Pos.TheVariants.{Letter, Gap, First, Minus, Digits, Ended}
use Rattle.ipg_cert.specs.declared.pos.Transition.{Transition}
use Rattle.ipg_cert.specs.declared.pos.Transition.TheVariants.{Stuck, To, End}
use Rattle.ipg_cert.specs.declared.refutation.Step.{Step}
use Rattle.ipg_cert.specs.declared.refutation.Step.TheVariants.{Combine, Split, Either}
use Rattle.ipg_cert.specs.Words.{entry_words, step_words, spaced, words_of}
use Rattle.ipg_cert.specs.Texts.{parts_of, AreTrees, IsWord, IsSignedWord, IsEntry, IsInRange, IsTextOf}
use Rattle.std.proofs.lemmas.Bool.{and_parts}
use Rattle.ipg_cert.specs.Reader.{limit, may_be_zero, may_be_negative, signed, begun, grown, transition_at}
use Rattle.ipg_cert.specs.Reader.{State, spaced_to, parted, with_entry, entered, finished, taken, step, has_ended}

-- ---- words

-- steps that others follow
abbrev pub behind : List Step → List ℕ
behind [] = []
behind (s ∷ steps) = step_words s ++ 32 ∷ behind steps

behind_push : (made : List Step) (s : Step) → behind (made ++ s ∷ []) ≡ behind made ++ (step_words s ++ 32 ∷ [])
behind_push [] s = refl
behind_push (m ∷ made) s = ap (λ xs. step_words m ++ 32 ∷ xs) (behind_push made s)
    ∙ sym (append_assoc (step_words m) (32 ∷ behind made) (step_words s ++ 32 ∷ []))

spaced_words : (made : List Step) (s : Step) (more : List Step) → flat_map spaced (made ++ s ∷ more) ≡ 32 ∷ words_of (made ++ s ∷ more)
spaced_words [] s more = refl
spaced_words (m ∷ made) s more = refl

pub words_split : (made : List Step) (s : Step) (more : List Step) → words_of (made ++ s ∷ more) ≡ behind made ++ (step_words s ++ flat_map spaced more)
words_split [] s more = refl
words_split (m ∷ made) s more =
    ap (λ xs. step_words m ++ xs) (spaced_words made s more ∙ ap (λ xs. 32 ∷ xs) (words_split made s more))
    ∙ sym (append_assoc (step_words m) (32 ∷ behind made) (step_words s ++ flat_map spaced more))

-- what is written of the step at hand
abbrev letter : Need → ℕ
letter Count = 99
letter (Weight left) = 99
letter (Fact left weight) = 99
letter Var = 115
letter (At var) = 115
letter Choice = 101
letter (Parts fact) = 101

abbrev pub counted : ℕ → List (ℕ × ℕ) → List ℕ
counted left entries = 32 ∷ (decimal (length entries + left) ++ flat_map entry_words entries)

-- the words before a number
abbrev pub before : List (ℕ × ℕ) → Need → List ℕ
before entries Count = 99 ∷ 32 ∷ []
before entries (Weight left) = 99 ∷ (counted left entries ++ 32 ∷ [])
before entries (Fact left weight) = 99 ∷ (counted left entries ++ 32 ∷ (decimal weight ++ 32 ∷ []))
before entries Var = 115 ∷ 32 ∷ []
before entries (At var) = 115 ∷ 32 ∷ (decimal var ++ 32 ∷ [])
before entries Choice = 101 ∷ 32 ∷ []
before entries (Parts fact) = 101 ∷ 32 ∷ (decimal fact ++ 32 ∷ [])

abbrev pub digits : Bool → ℕ → List ℕ
digits negative value = if negative then 45 ∷ decimal value else decimal value

abbrev pub part : List (ℕ × ℕ) → Pos → List ℕ
part entries Letter = []
part entries (Gap need) = letter need ∷ []
part entries (First need) = before entries need
part entries (Minus need) = before entries need ++ 45 ∷ []
part entries (Digits n) = before entries n.need ++ digits n.negative n.value
part entries Ended = []

-- ---- what holds on the way

abbrev pub IsDue : List (ℕ × ℕ) → Need → Type 0
IsDue entries Count = entries ≡ []
IsDue entries (Weight left) = (1 ≤ left) × IsWord (length entries + left)
IsDue entries (Fact left weight) = (1 ≤ left) × IsWord (length entries + left) × IsWord weight
IsDue entries Var = entries ≡ []
IsDue entries (At var) = (entries ≡ []) × IsWord var
IsDue entries Choice = entries ≡ []
IsDue entries (Parts fact) = (entries ≡ []) × IsWord fact

abbrev pub IsFirst : Need → Type 0
IsFirst Count = Unit {0}
IsFirst (Weight left) = ⊥
IsFirst (Fact left weight) = ⊥
IsFirst Var = Unit {0}
IsFirst (At var) = ⊥
IsFirst Choice = Unit {0}
IsFirst (Parts fact) = ⊥

pub record IsNumber (need : Need) (negative : Bool) (value : ℕ) : Type 0 where
  pub small : value ≤ limit need negative
  pub some : may_be_zero need ≡ false → 1 ≤ value
  pub minus : negative ≡ true → (1 ≤ value) × (may_be_negative need ≡ true)

abbrev pub IsAt : List (ℕ × ℕ) → Pos → Type 0
IsAt entries Letter = entries ≡ []
IsAt entries (Gap need) = IsFirst need × (entries ≡ [])
IsAt entries (First need) = IsDue entries need
IsAt entries (Minus need) = IsDue entries need × (may_be_negative need ≡ true)
IsAt entries (Digits n) = IsDue entries n.need × IsNumber n.need n.negative n.value
IsAt entries Ended = ⊥

-- from n trees the steps leave m
abbrev Leaves : ℕ → List Step → ℕ → Type 0
Leaves n [] m = n ≡ m
Leaves zero (s ∷ steps) m = ⊥
Leaves (suc n) (s ∷ steps) m = Leaves (n + parts_of s) steps m

pub record IsSound (st : State) (words : List ℕ) : Type 0 where
  pub spelled : words ≡ behind st.made ++ part st.entries st.pos
  pub ranges : AllByRecursion IsInRange st.made
  pub entries : AllByRecursion IsEntry st.entries
  pub trees : Leaves 1 st.made st.open_trees
  pub some : 1 ≤ st.open_trees
  pub at : IsAt st.entries st.pos

-- ---- trees

abbrev pub leaf : Step
leaf = Combine ((1, 1) ∷ [])

pub leaves_trees : (n : ℕ) (made : List Step) (m : ℕ) (more : List Step) → Leaves n made m → AreTrees m more → AreTrees n (made ++ more)
leaves_trees n [] m more e trees = subst (λ k. AreTrees k more) (sym e) trees
leaves_trees zero (s ∷ made) m more e trees = absurd e
leaves_trees (suc n) (s ∷ made) m more e trees = leaves_trees (n + parts_of s) made m more e trees

leaves_push : (n : ℕ) (made : List Step) (m : ℕ) (s : Step) → Leaves n made m → 1 ≤ m → Leaves n (made ++ s ∷ []) (m - 1 + parts_of s)
leaves_push zero [] m s e some = absurd (let f : ⊥ = omega (arith, e) in f)
leaves_push (suc n) [] m s e some = omega (arith, e)
leaves_push zero (t ∷ made) m s e some = absurd e
leaves_push (suc n) (t ∷ made) m s e some = leaves_push (n + parts_of t) made m s e some

leaves_none : (n : ℕ) (made : List Step) → Leaves n made 0 → AreTrees n made
leaves_none n [] e = e
leaves_none zero (s ∷ made) e = e
leaves_none (suc n) (s ∷ made) e = leaves_none (n + parts_of s) made e

pub all_leaves : (n : ℕ) → AreTrees n (replicate n leaf)
all_leaves zero = refl
all_leaves (suc n) = subst (λ k. AreTrees k (replicate n leaf)) (let e : n ≡ n + 0 = omega arith in e) (all_leaves n)

-- ---- one byte more

all_push : {A : Type 0} (P : A → Type 0) (xs : List A) (x : A) → AllByRecursion P xs → P x → AllByRecursion P (xs ++ x ∷ [])
all_push P [] x all here = (here, tt)
all_push P (y ∷ xs) x all here = (all.0, all_push P xs x all.1 here)

flat_push : (es : List (ℕ × ℕ)) (e : ℕ × ℕ) → flat_map entry_words (es ++ e ∷ []) ≡ flat_map entry_words es ++ entry_words e
flat_push [] e = append-nil (entry_words e)
flat_push (x ∷ es) e = ap (λ xs. entry_words x ++ xs) (flat_push es e) ∙ sym (append_assoc (entry_words x) (flat_map entry_words es) (entry_words e))

abbrev pub After : State → List ℕ → Type 0
After st words = ((has_ended st.pos ≡ false) × IsSound st words) ⊎ ((has_ended st.pos ≡ true) × IsTextOf st.made words)

if_some : (c : Bool) (st : State) (words : List ℕ) → (c ≡ true → After st words) → OnStep After (if c then Some st else None) words
if_some c st words f = cond_both c (Some st) None (λ o. OnStep After o words) f (λ e. tt)

limit_nine : (need : Need) (negative : Bool) → 9 ≤ limit need negative
limit_nine Count negative = omega arith
limit_nine (Weight left) negative = omega arith
limit_nine (Fact left weight) negative = omega arith
limit_nine Var negative = omega arith
limit_nine (At var) true = omega arith
limit_nine (At var) false = omega arith
limit_nine Choice negative = omega arith
limit_nine (Parts fact) negative = omega arith

pub limit_word : (need : Need) (negative : Bool) → limit need negative < 2 ^ 64
limit_word Count negative = omega arith
limit_word (Weight left) negative = omega arith
limit_word (Fact left weight) negative = omega arith
limit_word Var negative = omega arith
limit_word (At var) true = omega arith
limit_word (At var) false = omega arith
limit_word Choice negative = omega arith
limit_word (Parts fact) negative = omega arith

digits_more : (negative : Bool) (v b : ℕ) → 1 ≤ v → v * 10 + digit_value b < 2 ^ 64 → is_digit b ≡ true
    → digits negative v ++ b ∷ [] ≡ digits negative (v * 10 + digit_value b)
digits_more true v b some small e = ap (λ xs. 45 ∷ xs) (digit_more v b some small e)
digits_more false v b some small e = digit_more v b some small e

pub digits_signed : (negative : Bool) (v : ℕ) → (negative ≡ true → 1 ≤ v) → digits negative v ≡ signed_decimal (signed negative v)
digits_signed false v some = refl
digits_signed true zero some = absurd (let e : ⊥ = omega (arith, some refl) in e)
digits_signed true (suc k) some = refl

pub signed_range : (var : ℕ) (negative : Bool) (v : ℕ) → (negative ≡ true → 1 ≤ v) → v ≤ limit (At var) negative → IsSignedWord (signed negative v)
signed_range var false v some small = omega arith
signed_range var true zero some small = absurd (let e : ⊥ = omega (arith, some refl) in e)
signed_range var true (suc k) some small = omega arith

pub not_negative : (need : Need) (negative : Bool) (v : ℕ) → IsNumber need negative v → may_be_negative need ≡ false → digits negative v ≡ decimal v
not_negative need false v number e = refl
not_negative need true v number e = absurd (true≢false (sym (number.minus refl).1 ∙ e))

module _ (made : List Step) (entries : List (ℕ × ℕ)) (trees : ℕ) (p : Pos) (words : List ℕ)
    (sound : IsSound (record { made = made; entries = entries; open_trees = trees; pos = p }) words) (b : ℕ) where
  -- the step at hand goes on
  moved : (entries' : List (ℕ × ℕ)) (q : Pos) → has_ended q ≡ false → AllByRecursion IsEntry entries' → IsAt entries' q
      → part entries p ++ b ∷ [] ≡ part entries' q
      → After (record { made = made; entries = entries'; open_trees = trees; pos = q }) (words ++ b ∷ [])
  moved entries' q on all at e = inl (
    on,
    record {
      spelled = ap (λ ws. ws ++ b ∷ []) sound.spelled ∙ append_assoc (behind made) (part entries p) (b ∷ []) ∙ ap (λ xs. behind made ++ xs) e;
      ranges = sound.ranges;
      entries = all;
      trees = sound.trees;
      some = sound.some;
      at = at;
    },
  )

  spaced_on : (entries' : List (ℕ × ℕ)) (need : Need) → AllByRecursion IsEntry entries' → IsDue entries' need → part entries p ++ 32 ∷ [] ≡ before entries' need
      → OnStep After (spaced_to (record { made = made; entries = entries'; open_trees = trees; pos = p }) need b) (words ++ b ∷ [])
  spaced_on entries' need all due e = if_some (b == 32) _ (words ++ b ∷ [])
      (λ is. moved entries' (First need) refl all due (ap (λ x. part entries p ++ x ∷ []) (eqb-true b 32 is) ∙ e))

  -- the step at hand is whole
  parted_on : (s : Step) → IsInRange s → part entries p ≡ step_words s
      → OnStep After (parted (record { made = made ++ s ∷ []; entries = []; open_trees = trees - 1 + parts_of s; pos = p }) b) (words ++ b ∷ [])
  parted_on s range e =
      let left = leaves_push 1 made trees s sound.trees sound.some in
      let all = all_push IsInRange made s sound.ranges range in
      let words_are : words ≡ behind made ++ step_words s = sound.spelled ∙ ap (λ xs. behind made ++ xs) e in
      cond_both (trees - 1 + parts_of s == 0) _ _ (λ o. OnStep After o (words ++ b ∷ []))
      (λ none. if_some (b == 10) _ (words ++ b ∷ []) (λ is. inr (
        refl,
        record {
          tree = leaves_none 1 (made ++ s ∷ []) (subst (Leaves 1 (made ++ s ∷ [])) (eqb-true (trees - 1 + parts_of s) 0 none) left);
          ranges = all;
          words = ap (λ ws. ws ++ b ∷ []) (words_are ∙ ap (λ xs. behind made ++ xs) (sym (append-nil (step_words s))) ∙ sym (words_split made s []))
              ∙ ap (λ x. words_of (made ++ s ∷ []) ++ x ∷ []) (eqb-true b 10 is);
        },
      )))
      (λ some. if_some (b == 32) _ (words ++ b ∷ []) (λ is. inl (
        refl,
        record {
          spelled = ap (λ ws. ws ++ b ∷ []) words_are ∙ ap (λ x. (behind made ++ step_words s) ++ x ∷ []) (eqb-true b 32 is)
              ∙ append_assoc (behind made) (step_words s) (32 ∷ []) ∙ sym (behind_push made s) ∙ sym (append-nil (behind (made ++ s ∷ [])));
          ranges = all;
          entries = tt;
          trees = left;
          some = pos_of_ne-zero (eqb-false (trees - 1 + parts_of s) 0 some);
          at = refl;
        },
      )))

pub first_due : (need : Need) (entries : List (ℕ × ℕ)) → IsFirst need → entries ≡ [] → IsDue entries need
first_due Count entries f e = e
first_due (Weight left) entries f e = absurd f
first_due (Fact left weight) entries f e = absurd f
first_due Var entries f e = e
first_due (At var) entries f e = absurd f
first_due Choice entries f e = e
first_due (Parts fact) entries f e = absurd f

pub gap_spelled : (need : Need) (entries : List (ℕ × ℕ)) → IsFirst need → letter need ∷ 32 ∷ [] ≡ before entries need
gap_spelled Count entries f = refl
gap_spelled (Weight left) entries f = absurd f
gap_spelled (Fact left weight) entries f = absurd f
gap_spelled Var entries f = refl
gap_spelled (At var) entries f = absurd f
gap_spelled Choice entries f = refl
gap_spelled (Parts fact) entries f = absurd f

-- the words of an entry behind those of others
entry_spelled : (count : ℕ) (es : List (ℕ × ℕ)) (w f : ℕ)
    → (99 ∷ ((32 ∷ (decimal count ++ flat_map entry_words es)) ++ 32 ∷ (decimal w ++ 32 ∷ []))) ++ decimal f
    ≡ 99 ∷ (32 ∷ (decimal count ++ flat_map entry_words (es ++ (w, f) ∷ [])))
entry_spelled count es w f =
    ap (λ xs. 99 ∷ 32 ∷ xs) (
    append_assoc (decimal count ++ flat_map entry_words es) (32 ∷ (decimal w ++ 32 ∷ [])) (decimal f)
    ∙ append_assoc (decimal count) (flat_map entry_words es) ((32 ∷ (decimal w ++ 32 ∷ [])) ++ decimal f)
    ∙ ap (λ xs. decimal count ++ (flat_map entry_words es ++ 32 ∷ xs)) (append_assoc (decimal w) (32 ∷ []) (decimal f))
    ∙ ap (λ xs. decimal count ++ xs) (sym (flat_push es (w, f))))

more_entries : (es : List (ℕ × ℕ)) (e : ℕ × ℕ) (left : ℕ) → 1 ≤ left → length (es ++ e ∷ []) + (left - 1) ≡ length es + left
more_entries es e left some = omega (arith, length-append es (e ∷ []))

module _ (made : List Step) (entries : List (ℕ × ℕ)) (trees : ℕ) (need : Need) (negative : Bool) (v : ℕ) (words : List ℕ) (b : ℕ) where
  abbrev pub there : State
  there = record { made = made; entries = entries; open_trees = trees; pos = Digits (record { need = need; negative = negative; value = v }) }

module _ (made : List Step) (entries : List (ℕ × ℕ)) (trees : ℕ) (negative : Bool) (v : ℕ) (words : List ℕ) (b : ℕ) where
  entered_on : (left weight : ℕ) → IsSound (there made entries trees (Fact left weight) negative v words b) words
      → OnStep After (entered (with_entry (there made entries trees (Fact left weight) negative v words b) weight v) left b) (words ++ b ∷ [])
  entered_on left weight sound =
      let st = there made entries trees (Fact left weight) negative v words b in
      let p : Pos = Digits (record { need = Fact left weight; negative = negative; value = v }) in
      let due = sound.at.0 in
      let number = sound.at.1 in
      let all = all_push IsEntry entries (weight, v) sound.entries (due.2, (let e : v < 2 ^ 64 = omega (arith, number.small) in e)) in
      let count = more_entries entries (weight, v) left due.0 in
      let spelled : part entries p ≡ 99 ∷ (32 ∷ (decimal (length entries + left) ++ flat_map entry_words (entries ++ (weight, v) ∷ []))) =
      ap (λ ds. before entries (Fact left weight) ++ ds) (not_negative (Fact left weight) negative v number refl)
      ∙ entry_spelled (length entries + left) entries weight v in
      cond_both (left == 1) _ _ (λ o. OnStep After o (words ++ b ∷ []))
      (λ one.
      let whole : length entries + left ≡ length (entries ++ (weight, v) ∷ []) = omega (arith, eqb-true left 1 one, length-append entries ((weight, v) ∷ [])) in
      parted_on made entries trees p words sound b (Combine (entries ++ (weight, v) ∷ []))
      ((let e : 1 ≤ length (entries ++ (weight, v) ∷ []) = omega (arith, whole, due.0) in e), subst IsWord whole due.1, all)
      (spelled ∙ ap (λ k. 99 ∷ (32 ∷ (decimal k ++ flat_map entry_words (entries ++ (weight, v) ∷ [])))) whole))
      (λ more.
      let left_more : 1 ≤ left - 1 = omega (arith, due.0, eqb-false left 1 more) in
      spaced_on made entries trees p words sound b (entries ++ (weight, v) ∷ []) (Weight (left - 1)) all
      (left_more, subst IsWord (sym count) due.1)
      (ap (λ xs. xs ++ 32 ∷ []) (spelled ∙ ap (λ k. 99 ∷ (32 ∷ (decimal k ++ flat_map entry_words (entries ++ (weight, v) ∷ [])))) (sym count))))

  finished_on : (need : Need) → IsSound (there made entries trees need negative v words b) words
      → OnStep After (finished (there made entries trees need negative v words b) need negative v b) (words ++ b ∷ [])
  finished_on Count sound =
      let none : entries ≡ [] = sound.at.0 in
      let number = sound.at.1 in
      let empty : 0 ≡ length entries = sym (ap length none) in
      let p : Pos = Digits (record { need = Count; negative = negative; value = v }) in
      spaced_on made entries trees p words sound b entries (Weight v) sound.entries
      (number.some refl, (let e : length entries + v < 2 ^ 64 = omega (arith, empty, number.small) in e))
      (ap (λ ds. (99 ∷ 32 ∷ ds) ++ 32 ∷ []) (not_negative Count negative v number refl)
      ∙ ap (λ k. 99 ∷ 32 ∷ (decimal k ++ 32 ∷ [])) (let e : v ≡ length entries + v = omega (arith, empty) in e)
      ∙ ap (λ xs. 99 ∷ 32 ∷ (xs ++ 32 ∷ [])) (sym (append-nil (decimal (length entries + v))))
      ∙ ap (λ es. 99 ∷ 32 ∷ ((decimal (length entries + v) ++ flat_map entry_words es) ++ 32 ∷ [])) (sym none))
  finished_on (Weight left) sound =
      let number = sound.at.1 in
      let p : Pos = Digits (record { need = Weight left; negative = negative; value = v }) in
      spaced_on made entries trees p words sound b entries (Fact left v) sound.entries
      (sound.at.0.0, sound.at.0.1, (let e : v < 2 ^ 64 = omega (arith, number.small) in e))
      (ap (λ ds. (before entries (Weight left) ++ ds) ++ 32 ∷ []) (not_negative (Weight left) negative v number refl)
      ∙ append_assoc (before entries (Weight left)) (decimal v) (32 ∷ [])
      ∙ ap (λ xs. 99 ∷ xs) (append_assoc (counted left entries) (32 ∷ []) (decimal v ++ 32 ∷ [])))
  finished_on (Fact left weight) sound = entered_on left weight sound
  finished_on Var sound =
      let number = sound.at.1 in
      let p : Pos = Digits (record { need = Var; negative = negative; value = v }) in
      spaced_on made entries trees p words sound b entries (At v) sound.entries
      (sound.at.0, (let e : v < 2 ^ 64 = omega (arith, number.small) in e))
      (ap (λ ds. (115 ∷ 32 ∷ ds) ++ 32 ∷ []) (not_negative Var negative v number refl))
  finished_on (At var) sound =
      let number = sound.at.1 in
      let p : Pos = Digits (record { need = At var; negative = negative; value = v }) in
      parted_on made entries trees p words sound b (Split var (signed negative v))
      (sound.at.0.1, signed_range var negative v (λ e. (number.minus e).0) number.small)
      (ap (λ xs. 115 ∷ 32 ∷ xs) (append_assoc (decimal var) (32 ∷ []) (digits negative v)
      ∙ ap (λ xs. decimal var ++ 32 ∷ xs) (digits_signed negative v (λ e. (number.minus e).0))))
  finished_on Choice sound =
      let number = sound.at.1 in
      let p : Pos = Digits (record { need = Choice; negative = negative; value = v }) in
      spaced_on made entries trees p words sound b entries (Parts v) sound.entries
      (sound.at.0, (let e : v < 2 ^ 64 = omega (arith, number.small) in e))
      (ap (λ ds. (101 ∷ 32 ∷ ds) ++ 32 ∷ []) (not_negative Choice negative v number refl))
  finished_on (Parts fact) sound =
      let number = sound.at.1 in
      let p : Pos = Digits (record { need = Parts fact; negative = negative; value = v }) in
      parted_on made entries trees p words sound b (Either fact v)
      (sound.at.0.1, number.some refl, (let e : v < 2 ^ 64 = omega (arith, number.small) in e))
      (ap (λ ds. (101 ∷ 32 ∷ (decimal fact ++ 32 ∷ [])) ++ ds) (not_negative (Parts fact) negative v number refl)
      ∙ ap (λ xs. 101 ∷ 32 ∷ xs) (append_assoc (decimal fact) (32 ∷ []) (decimal v)))

-- a digit begins a number
begins_number : (need : Need) (negative : Bool) (b : ℕ) → is_digit b ≡ true → (may_be_zero need ≡ false → (b == 48) ≡ false)
    → (negative ≡ true → ((b == 48) ≡ false) × (may_be_negative need ≡ true)) → IsNumber need negative (digit_value b)
begins_number need negative b digit some minus =
    let range : (48 ≤ b) × (b ≤ 57) = grind (arith, nat_tests) in
    record {
      small = (let e : b - 48 ≤ limit need negative = omega (arith, limit_nine need negative) in e);
      some = λ e. (let f : 1 ≤ b - 48 = omega (arith, eqb-false b 48 (some e)) in f);
      minus = λ e. ((let f : 1 ≤ b - 48 = omega (arith, eqb-false b 48 (minus e).0) in f), (minus e).1);
    }

or_not : (a c : Bool) → (a || not c) ≡ true → a ≡ false → c ≡ false
or_not true c e f = absurd (true≢false f)
or_not false true e f = absurd (true≢false (sym e))
or_not false false e f = refl

is_not : (c : Bool) → not c ≡ true → c ≡ false
is_not true e = absurd (true≢false (sym e))
is_not false e = refl

module _ (made : List Step) (entries : List (ℕ × ℕ)) (trees : ℕ) (words : List ℕ) (b : ℕ) where
  abbrev standing : Pos → State
  standing p = record { made = made; entries = entries; open_trees = trees; pos = p }

  abbrev Turned : Pos → Transition → Type 0
  Turned p t = OnStep After (taken t (standing p) b) (words ++ b ∷ [])

  on_digits : (n : Number) → IsSound (standing (Digits n)) words → Turned (Digits n) (transition_at (Digits n) b)
  on_digits n sound =
      let p : Pos = Digits n in
      let number = sound.at.1 in
      let value = n.value * 10 + digit_value b in
      cond_both (is_digit b) (grown n value) (End n) (Turned p)
      (λ digit. cond_both (not (n.value == 0) && nat_le value (limit n.need n.negative)) _ Stuck (Turned p)
      (λ fits.
      let (some, small) = and_parts (not (n.value == 0)) (nat_le value (limit n.need n.negative)) fits in
      let least : 1 ≤ n.value = pos_of_ne-zero (eqb-false n.value 0 (is_not (n.value == 0) some)) in
      let within : value ≤ limit n.need n.negative = leb-true value (limit n.need n.negative) small in
      let word : value < 2 ^ 64 = omega (arith, within, limit_word n.need n.negative) in
      moved made entries trees p words sound b entries (Digits (record { need = n.need; negative = n.negative; value = value })) refl sound.entries (
        sound.at.0,
        record {
          small = within;
          some = λ e. (let f : 1 ≤ value = omega (arith, least) in f);
          minus = λ e. ((let f : 1 ≤ value = omega (arith, least) in f), (number.minus e).1);
        },
      )
      (append_assoc (before entries n.need) (digits n.negative n.value) (b ∷ [])
      ∙ ap (λ xs. before entries n.need ++ xs) (digits_more n.negative n.value b least word digit)))
      (λ e. tt))
      (λ end. finished_on made entries trees n.negative n.value words b n.need sound)

  pub step_sound : (p : Pos) → IsSound (standing p) words → OnStep After (step (standing p) b) (words ++ b ∷ [])
  step_sound Letter sound =
      cond_both (b == 99) (To (Gap Count)) _ (Turned Letter)
      (λ e. moved made entries trees Letter words sound b entries (Gap Count) refl sound.entries (tt, sound.at) (ap (λ x. x ∷ []) (eqb-true b 99 e)))
      (λ e. cond_both (b == 115) (To (Gap Var)) _ (Turned Letter)
      (λ e. moved made entries trees Letter words sound b entries (Gap Var) refl sound.entries (tt, sound.at) (ap (λ x. x ∷ []) (eqb-true b 115 e)))
      (λ e. cond_both (b == 101) (To (Gap Choice)) Stuck (Turned Letter)
      (λ e. moved made entries trees Letter words sound b entries (Gap Choice) refl sound.entries (tt, sound.at) (ap (λ x. x ∷ []) (eqb-true b 101 e)))
      (λ e. tt)))
  step_sound (Gap need) sound =
      cond_both (b == 32) (To (First need)) Stuck (Turned (Gap need))
      (λ e. moved made entries trees (Gap need) words sound b entries (First need) refl sound.entries (first_due need entries sound.at.0 sound.at.1)
      (ap (λ x. letter need ∷ x ∷ []) (eqb-true b 32 e) ∙ gap_spelled need entries sound.at.0))
      (λ e. tt)
  step_sound (First need) sound =
      cond_both (is_digit b && (may_be_zero need || not (b == 48))) (begun need false b) _ (Turned (First need))
      (λ e.
      let (digit, some) = and_parts (is_digit b) (may_be_zero need || not (b == 48)) e in
      moved made entries trees (First need) words sound b entries (Digits (record { need = need; negative = false; value = digit_value b })) refl sound.entries
      (sound.at, begins_number need false b digit (or_not (may_be_zero need) (b == 48) some) (λ f. absurd (true≢false (sym f))))
      (ap (λ xs. before entries need ++ xs) (one_digit b digit)))
      (λ e. cond_both (may_be_negative need && b == 45) (To (Minus need)) Stuck (Turned (First need))
      (λ e.
      let (may, minus) = and_parts (may_be_negative need) (b == 45) e in
      moved made entries trees (First need) words sound b entries (Minus need) refl sound.entries (sound.at, may)
      (ap (λ x. before entries need ++ x ∷ []) (eqb-true b 45 minus)))
      (λ e. tt))
  step_sound (Minus need) sound =
      cond_both (is_digit b && not (b == 48)) (begun need true b) Stuck (Turned (Minus need))
      (λ e.
      let (digit, some) = and_parts (is_digit b) (not (b == 48)) e in
      let least = is_not (b == 48) some in
      moved made entries trees (Minus need) words sound b entries (Digits (record { need = need; negative = true; value = digit_value b })) refl sound.entries
      (sound.at.0, begins_number need true b digit (λ f. least) (λ f. (least, sound.at.1)))
      (append_assoc (before entries need) (45 ∷ []) (b ∷ []) ∙ ap (λ xs. before entries need ++ 45 ∷ xs) (one_digit b digit)))
      (λ e. tt)
  step_sound (Digits n) sound = on_digits n sound
  step_sound Ended sound = absurd sound.at
