-- A text is of one certificate at most: what stands before a byte that is no digit is one number, and so on to the end.
use Rattle.std.proofs.Common.{◌≡◌, ℕ, suc, ◌^◌, ◌<◌, List, [], ◌∷◌, ◌++◌, length, decimal, inl, inr, refl, sym, ap, ap₂, ◌∙◌, arith}
use Rattle.std.proofs.Common.{append_assoc, append-nil, ℤ, pos, negsuc, flat_map}
use Rattle.std.specs.Fmt.{signed_decimal}
use Rattle.std.specs.List.{AllByRecursion}
use Rattle.ipg_cert.specs.declared.refutation.Refutation.{Refutation}
use Rattle.ipg_cert.specs.declared.refutation.Step.{Step}
use Rattle.ipg_cert.specs.declared.refutation.Step.TheVariants.{Combine, Split, Either}
use Rattle.ipg_cert.specs.Words.{entry_words, step_words, spaced, words_of}
use Rattle.ipg_cert.specs.Texts.{IsSignedWord, IsEntry, IsInRange}
use Rattle.ipg_proof.specs.declared.certificate.Certificate.{Certificate}
use Rattle.ipg_proof.specs.Texts.{number_text, refutation_line, edge_line, cycle_line, counted_text, text_of, heading, between}
use Rattle.ipg_proof.specs.Texts.{IsShort, IsLong, IsTree, IsEdgeEntry, IsCycleEntry, AreCounted}
use Rattle.ipg_proof.specs.Once.{TextIsOfOne}
use Rattle.ipg_proof.proofs.Readers.{heads, tails}
use Rattle.ipg_proof.proofs.Digits.{behind, begun, no_digit}

-- it begins with a byte that is no digit
abbrev Low : List ℕ → Type 0
Low [] = ⊥
Low (b ∷ bytes) = b < 48

-- two things with what stands behind them
abbrev Both : {A : Type 0} → A → A → List ℕ → List ℕ → Type 0
Both a b x y = (a ≡ b) × (x ≡ y)

numbers_same : (m n : ℕ) (x y : List ℕ) → m < 2 ^ 64 → n < 2 ^ 64 → Low x → Low y → decimal m ++ x ≡ decimal n ++ y → Both m n x y
numbers_same m n [] y few small lx ly e = absurd lx
numbers_same m n (p ∷ x) [] few small lx ly e = absurd ly
numbers_same m n (p ∷ x) (q ∷ y) few small lx ly e = elim (behind p n m q x y lx small few e) [
  | inl same ↦ (same.1, ap₂ (λ b l. b ∷ l) (sym same.0) same.2)
  | inr goes ↦ absurd (no_digit q ly goes.digit)
]

number_is : (stop n : ℕ) (x : List ℕ) → number_text stop n ++ x ≡ decimal n ++ stop ∷ x
number_is stop n x = append_assoc (decimal n) (stop ∷ []) x

texts_same : (stop m n : ℕ) (x y : List ℕ) → stop < 48 → m < 2 ^ 64 → n < 2 ^ 64 → number_text stop m ++ x ≡ number_text stop n ++ y → Both m n x y
texts_same stop m n x y h few small e =
    let same = numbers_same m n (stop ∷ x) (stop ∷ y) few small h h (sym (number_is stop m x) ∙ e ∙ number_is stop n y) in
    (same.0, tails stop stop x y same.1)

not_signed : (n : ℕ) (x y : List ℕ) → n < 2 ^ 64 → Low x → decimal n ++ x ≡ 45 ∷ y → ⊥
not_signed n [] y small lx e = lx
not_signed n (p ∷ x) y small lx e = no_digit 45 (omega arith) (begun p n 45 x y small e).digit

signed_same : (a b : ℤ) (x y : List ℕ) → IsSignedWord a → IsSignedWord b → Low x → Low y → signed_decimal a ++ x ≡ signed_decimal b ++ y → Both a b x y
signed_same (pos m) (pos n) x y few small lx ly e =
    let same = numbers_same m n x y (omega (arith, few)) (omega (arith, small)) lx ly e in (ap pos same.0, same.1)
signed_same (pos m) (negsuc n) x y few small lx ly e = absurd (not_signed m x (decimal (suc n) ++ y) (omega (arith, few)) lx e)
signed_same (negsuc m) (pos n) x y few small lx ly e = absurd (not_signed n y (decimal (suc m) ++ x) (omega (arith, small)) ly (sym e))
signed_same (negsuc m) (negsuc n) x y few small lx ly e =
    let same = numbers_same (suc m) (suc n) x y (omega (arith, few)) (omega (arith, small)) lx ly
    (tails 45 45 (decimal (suc m) ++ x) (decimal (suc n) ++ y) e) in
    let less : m ≡ n = omega (arith, same.0) in
    (ap negsuc less, same.1)

-- ---- the words of a refutation

entry_is : (e : ℕ × ℕ) (x : List ℕ) → entry_words e ++ x ≡ 32 ∷ (decimal e.0 ++ 32 ∷ (decimal e.1 ++ x))
entry_is e x = ap (λ l. 32 ∷ l) (append_assoc (decimal e.0) (32 ∷ decimal e.1) x)

low_entries : (es : List (ℕ × ℕ)) (x : List ℕ) → Low x → Low (flat_map entry_words es ++ x)
low_entries [] x lx = lx
low_entries (e ∷ es) x lx = omega arith

entries_same : (es fs : List (ℕ × ℕ)) (x y : List ℕ) → length es ≡ length fs → AllByRecursion IsEntry es → AllByRecursion IsEntry fs → Low x → Low y
    → flat_map entry_words es ++ x ≡ flat_map entry_words fs ++ y → Both es fs x y
entries_same [] [] x y long a b lx ly e = (refl, e)
entries_same [] (f ∷ fs) x y long a b lx ly e = absurd (omega (arith, long))
entries_same (e ∷ es) [] x y long a b lx ly same = absurd (omega (arith, long))
entries_same (e ∷ es) (f ∷ fs) x y long a b lx ly same =
    let more = flat_map entry_words es ++ x in let others = flat_map entry_words fs ++ y in
    let all = sym (entry_is e more) ∙ sym (append_assoc (entry_words e) (flat_map entry_words es) x) ∙ same
    ∙ append_assoc (entry_words f) (flat_map entry_words fs) y ∙ entry_is f others in
    let first = numbers_same e.0 f.0 (32 ∷ (decimal e.1 ++ more)) (32 ∷ (decimal f.1 ++ others)) a.0.0 b.0.0 (omega arith) (omega arith)
    (tails 32 32 _ _ all) in
    let second = numbers_same e.1 f.1 more others a.0.1 b.0.1 (low_entries es x lx) (low_entries fs y ly) (tails 32 32 _ _ first.1) in
    let rest = entries_same es fs x y (omega (arith, long)) a.1 b.1 lx ly second.1 in
    (ap₂ (λ entry l. entry ∷ l) (ap₂ (λ (m n : ℕ). pair m n) first.0 second.0) rest.0, rest.1)
  where
    pair : ℕ → ℕ → ℕ × ℕ
    pair m n = (m, n)

combine_is : (es : List (ℕ × ℕ)) (x : List ℕ) → step_words (Combine es) ++ x ≡ 99 ∷ 32 ∷ (decimal (length es) ++ (flat_map entry_words es ++ x))
combine_is es x = ap (λ l. 99 ∷ 32 ∷ l) (append_assoc (decimal (length es)) (flat_map entry_words es) x)

split_is : (v : ℕ) (at : ℤ) (x : List ℕ) → step_words (Split v at) ++ x ≡ 115 ∷ 32 ∷ (decimal v ++ 32 ∷ (signed_decimal at ++ x))
split_is v at x = ap (λ l. 115 ∷ 32 ∷ l) (append_assoc (decimal v) (32 ∷ signed_decimal at) x)

either_is : (fact parts : ℕ) (x : List ℕ) → step_words (Either fact parts) ++ x ≡ 101 ∷ 32 ∷ (decimal fact ++ 32 ∷ (decimal parts ++ x))
either_is fact parts x = ap (λ l. 101 ∷ 32 ∷ l) (append_assoc (decimal fact) (32 ∷ decimal parts) x)

-- what stands behind two first bytes that are the same
behind_two : (a b c d : ℕ) (x y : List ℕ) → a ∷ b ∷ x ≡ c ∷ d ∷ y → x ≡ y
behind_two a b c d x y e = tails b d x y (tails a c (b ∷ x) (d ∷ y) e)

combines_same : (es fs : List (ℕ × ℕ)) (x y : List ℕ) → IsInRange (Combine es) → IsInRange (Combine fs) → Low x → Low y
    → step_words (Combine es) ++ x ≡ step_words (Combine fs) ++ y → Both (Combine es) (Combine fs) x y
combines_same es fs x y a b lx ly e =
    let all = behind_two 99 32 99 32 _ _ (sym (combine_is es x) ∙ e ∙ combine_is fs y) in
    let count = numbers_same (length es) (length fs) (flat_map entry_words es ++ x) (flat_map entry_words fs ++ y) a.1 b.1
    (low_entries es x lx) (low_entries fs y ly) all in
    let rest = entries_same es fs x y count.0 a.2 b.2 lx ly count.1 in
    (ap Combine rest.0, rest.1)

splits_same : (v w : ℕ) (at to : ℤ) (x y : List ℕ) → IsInRange (Split v at) → IsInRange (Split w to) → Low x → Low y
    → step_words (Split v at) ++ x ≡ step_words (Split w to) ++ y → Both (Split v at) (Split w to) x y
splits_same v w at to x y a b lx ly e =
    let all = behind_two 115 32 115 32 _ _ (sym (split_is v at x) ∙ e ∙ split_is w to y) in
    let first = numbers_same v w (32 ∷ (signed_decimal at ++ x)) (32 ∷ (signed_decimal to ++ y)) a.0 b.0 (omega arith) (omega arith) all in
    let second = signed_same at to x y a.1 b.1 lx ly (tails 32 32 _ _ first.1) in
    (ap₂ Split first.0 second.0, second.1)

eithers_same : (f g m n : ℕ) (x y : List ℕ) → IsInRange (Either f m) → IsInRange (Either g n) → Low x → Low y
    → step_words (Either f m) ++ x ≡ step_words (Either g n) ++ y → Both (Either f m) (Either g n) x y
eithers_same f g m n x y a b lx ly e =
    let all = behind_two 101 32 101 32 _ _ (sym (either_is f m x) ∙ e ∙ either_is g n y) in
    let first = numbers_same f g (32 ∷ (decimal m ++ x)) (32 ∷ (decimal n ++ y)) a.0 b.0 (omega arith) (omega arith) all in
    let second = numbers_same m n x y a.2 b.2 lx ly (tails 32 32 _ _ first.1) in
    (ap₂ Either first.0 second.0, second.1)

apart : (a b : ℕ) (x y : List ℕ) → (a ≡ b → ⊥) → a ∷ x ≡ b ∷ y → ⊥
apart a b x y other e = other (heads a b x y e)

step_same : (s t : Step) (x y : List ℕ) → IsInRange s → IsInRange t → Low x → Low y → step_words s ++ x ≡ step_words t ++ y → Both s t x y
step_same (Combine es) (Combine fs) x y a b lx ly e = combines_same es fs x y a b lx ly e
step_same (Split v at) (Split w to) x y a b lx ly e = splits_same v w at to x y a b lx ly e
step_same (Either f m) (Either g n) x y a b lx ly e = eithers_same f g m n x y a b lx ly e
step_same (Combine es) (Split w to) x y a b lx ly e = absurd (apart 99 115 _ _ (λ s. omega (arith, s)) e)
step_same (Combine es) (Either g n) x y a b lx ly e = absurd (apart 99 101 _ _ (λ s. omega (arith, s)) e)
step_same (Split v at) (Combine fs) x y a b lx ly e = absurd (apart 115 99 _ _ (λ s. omega (arith, s)) e)
step_same (Split v at) (Either g n) x y a b lx ly e = absurd (apart 115 101 _ _ (λ s. omega (arith, s)) e)
step_same (Either f m) (Combine fs) x y a b lx ly e = absurd (apart 101 99 _ _ (λ s. omega (arith, s)) e)
step_same (Either f m) (Split w to) x y a b lx ly e = absurd (apart 101 115 _ _ (λ s. omega (arith, s)) e)

low_steps : (ss : List Step) (x : List ℕ) → Low (flat_map spaced ss ++ 10 ∷ x)
low_steps [] x = omega arith
low_steps (s ∷ ss) x = omega arith

steps_same : (ss ts : List Step) (x y : List ℕ) → AllByRecursion IsInRange ss → AllByRecursion IsInRange ts
    → flat_map spaced ss ++ 10 ∷ x ≡ flat_map spaced ts ++ 10 ∷ y → Both ss ts x y
steps_same [] [] x y a b e = (refl, tails 10 10 x y e)
steps_same [] (t ∷ ts) x y a b e = absurd (apart 10 32 _ _ (λ s. omega (arith, s)) e)
steps_same (s ∷ ss) [] x y a b e = absurd (apart 32 10 _ _ (λ s. omega (arith, s)) e)
steps_same (s ∷ ss) (t ∷ ts) x y a b e =
    let all = sym (append_assoc (spaced s) (flat_map spaced ss) (10 ∷ x)) ∙ e ∙ append_assoc (spaced t) (flat_map spaced ts) (10 ∷ y) in
    let first = step_same s t (flat_map spaced ss ++ 10 ∷ x) (flat_map spaced ts ++ 10 ∷ y) a.0 b.0 (low_steps ss x) (low_steps ts y) (tails 32 32 _ _ all) in
    let rest = steps_same ss ts x y a.1 b.1 first.1 in
    (ap₂ (λ step l. step ∷ l) first.0 rest.0, rest.1)

no_feed : (t : Step) (x y : List ℕ) → 10 ∷ x ≡ step_words t ++ y → ⊥
no_feed (Combine fs) x y e = apart 10 99 _ _ (λ s. omega (arith, s)) e
no_feed (Split w to) x y e = apart 10 115 _ _ (λ s. omega (arith, s)) e
no_feed (Either g n) x y e = apart 10 101 _ _ (λ s. omega (arith, s)) e

words_same : (ss ts : List Step) (x y : List ℕ) → AllByRecursion IsInRange ss → AllByRecursion IsInRange ts
    → words_of ss ++ 10 ∷ x ≡ words_of ts ++ 10 ∷ y → Both ss ts x y
words_same [] [] x y a b e = (refl, tails 10 10 x y e)
words_same [] (t ∷ ts) x y a b e = absurd (no_feed t x _ (e ∙ append_assoc (step_words t) (flat_map spaced ts) (10 ∷ y)))
words_same (s ∷ ss) [] x y a b e = absurd (no_feed s y _ (sym e ∙ append_assoc (step_words s) (flat_map spaced ss) (10 ∷ x)))
words_same (s ∷ ss) (t ∷ ts) x y a b e =
    let all = sym (append_assoc (step_words s) (flat_map spaced ss) (10 ∷ x)) ∙ e ∙ append_assoc (step_words t) (flat_map spaced ts) (10 ∷ y) in
    let first = step_same s t (flat_map spaced ss ++ 10 ∷ x) (flat_map spaced ts ++ 10 ∷ y) a.0 b.0 (low_steps ss x) (low_steps ts y) all in
    let rest = steps_same ss ts x y a.1 b.1 first.1 in
    (ap₂ (λ step l. step ∷ l) first.0 rest.0, rest.1)

-- ---- lines

refutations_same : (r q : Refutation) (x y : List ℕ) → IsTree r → IsTree q → refutation_line r ++ x ≡ refutation_line q ++ y → Both r q x y
refutations_same r q x y a b e =
    let same = words_same r.steps q.steps x y a.ranges b.ranges
    (sym (append_assoc (words_of r.steps) (10 ∷ []) x) ∙ e ∙ append_assoc (words_of q.steps) (10 ∷ []) y) in
    (ap (λ (steps : List Step). refutation steps) same.0, same.1)
  where
    refutation : List Step → Refutation
    refutation steps = record { steps = steps }

module _ {A : Type 0} (Is : A → Type 0) (spell : A → List ℕ)
    (same : (a b : A) (x y : List ℕ) → Is a → Is b → spell a ++ x ≡ spell b ++ y → Both a b x y) where
  lists_same : (us vs : List A) (x y : List ℕ) → length us ≡ length vs → AllByRecursion Is us → AllByRecursion Is vs
      → flat_map spell us ++ x ≡ flat_map spell vs ++ y → Both us vs x y
  lists_same [] [] x y long h k e = (refl, e)
  lists_same [] (b ∷ vs) x y long h k e = absurd (omega (arith, long))
  lists_same (a ∷ us) [] x y long h k e = absurd (omega (arith, long))
  lists_same (a ∷ us) (b ∷ vs) x y long h k e =
      let first = same a b (flat_map spell us ++ x) (flat_map spell vs ++ y) h.0 k.0
      (sym (append_assoc (spell a) (flat_map spell us) x) ∙ e ∙ append_assoc (spell b) (flat_map spell vs) y) in
      let rest = lists_same us vs x y (omega (arith, long)) h.1 k.1 first.1 in
      (ap₂ (λ value l. value ∷ l) first.0 rest.0, rest.1)

  counted_same : (IsCount : ℕ → Type 0) → ((n : ℕ) → IsCount n → n < 2 ^ 64) → (stop : ℕ) → stop < 48 → (us vs : List A) (x y : List ℕ)
      → AreCounted IsCount Is us → AreCounted IsCount Is vs → counted_text stop spell us ++ x ≡ counted_text stop spell vs ++ y → Both us vs x y
  counted_same IsCount few stop low us vs x y h k e =
      let count = texts_same stop (length us) (length vs) (flat_map spell us ++ x) (flat_map spell vs ++ y) low (few (length us) h.0) (few (length vs) k.0)
      (sym (append_assoc (number_text stop (length us)) (flat_map spell us) x) ∙ e
      ∙ append_assoc (number_text stop (length vs)) (flat_map spell vs) y) in
      lists_same us vs x y count.0 h.1 k.1 count.1

short_few : (n : ℕ) → IsShort n → n < 2 ^ 64
short_few n small = omega (arith, small)

edge_same : (e f : ℕ × Refutation) (x y : List ℕ) → IsEdgeEntry e → IsEdgeEntry f → edge_line e ++ x ≡ edge_line f ++ y → Both e f x y
edge_same e f x y a b same =
    let first = texts_same 32 e.0 f.0 (refutation_line e.1 ++ x) (refutation_line f.1 ++ y) (omega arith) (short_few e.0 a.0) (short_few f.0 b.0)
    (sym (append_assoc (number_text 32 e.0) (refutation_line e.1) x) ∙ same ∙ append_assoc (number_text 32 f.0) (refutation_line f.1) y) in
    let rest = refutations_same e.1 f.1 x y a.1 b.1 first.1 in
    (ap₂ entry first.0 rest.0, rest.1)
  where
    entry : ℕ → Refutation → ℕ × Refutation
    entry n r = (n, r)

cycle_same : (e f : List ℕ × Refutation) (x y : List ℕ) → IsCycleEntry e → IsCycleEntry f → cycle_line e ++ x ≡ cycle_line f ++ y → Both e f x y
cycle_same e f x y a b same =
    let first = counted_same IsShort (number_text 32) (λ m n u v h k. texts_same 32 m n u v (omega arith) (short_few m h) (short_few n k))
    IsShort short_few 32 (omega arith) e.0 f.0 (refutation_line e.1 ++ x) (refutation_line f.1 ++ y) a.1 b.1
    (sym (append_assoc (counted_text 32 (number_text 32) e.0) (refutation_line e.1) x) ∙ same
    ∙ append_assoc (counted_text 32 (number_text 32) f.0) (refutation_line f.1) y) in
    let rest = refutations_same e.1 f.1 x y a.2 b.2 first.1 in
    (ap₂ entry first.0 rest.0, rest.1)
  where
    entry : List ℕ → Refutation → List ℕ × Refutation
    entry edges r = (edges, r)

-- ---- the whole

behind_front : (front x y : List ℕ) → front ++ x ≡ front ++ y → x ≡ y
behind_front [] x y e = e
behind_front (b ∷ front) x y e = behind_front front x y (tails b b (front ++ x) (front ++ y) e)

text_is : (c : Certificate)
    → text_of c ≡ heading ++ (counted_text 10 edge_line c.dead ++ (between ++ (counted_text 10 cycle_line c.cycles ++ [])))
text_is c =
    append_assoc heading (counted_text 10 edge_line c.dead) (between ++ counted_text 10 cycle_line c.cycles)
    ∙ ap (λ l. heading ++ (counted_text 10 edge_line c.dead ++ (between ++ l))) (sym (append-nil (counted_text 10 cycle_line c.cycles)))

pub text_is_of_one : TextIsOfOne
text_is_of_one text c d a b =
    let e = behind_front heading _ _ (sym (text_is c) ∙ sym a.1 ∙ b.1 ∙ text_is d) in
    let dead = counted_same IsEdgeEntry edge_line edge_same IsShort short_few 10 (omega arith) c.dead d.dead _ _ a.0.0 b.0.0 e in
    let cycles = counted_same IsCycleEntry cycle_line cycle_same IsLong (λ n few. few) 10 (omega arith) c.cycles d.cycles [] [] a.0.1 b.0.1
    (behind_front between _ _ dead.1) in
    ap₂ certificate dead.0 cycles.0
  where
    certificate : List (ℕ × Refutation) → List (List ℕ × Refutation) → Certificate
    certificate dead cycles = record { dead = dead; cycles = cycles }
