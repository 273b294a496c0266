-- The digits of numbers, and a byte that is none behind them.
use Rattle.std.proofs.Common.{◌≡◌, ℕ, zero, suc, ◌+◌, ◌-◌, ◌*◌, ◌/◌, ◌%◌, ◌^◌, ◌≤◌, ◌<◌, ◌⊎◌, List, [], ◌∷◌, ◌++◌, length, map, get_or, take, drop}
use Rattle.std.proofs.Common.{decimal, Some, None, Result, Ok, Err, refl, sym, ap, ◌∙◌, subst, inl, inr, arith, append_assoc, length-append}
use Rattle.std.proofs.Common.{append-nil}
use Rattle.std.specs.List.{AllByRecursion}
use Rattle.std.specs.Char.{digit_value}
use Rattle.std.specs.Int.Digits.{number_from_digits_after}
use Rattle.std.proofs.lemmas.Bool.{cases_lt}
use Rattle.std.proofs.lemmas.List.{map-append}
use Rattle.std.proofs.Math.Seq.{take-length}
use Rattle.std.proofs.lemmas.Str.{digit_value_digit}
use Rattle.std.proofs.lemmas.Fmt.{decimal_by_steps, decimal_is_IsNumeral, decimal_step, decimal_digit, decimal_nonempty, first_decimal, decimal_injective}
use Rattle.std.proofs.lemmas.Int.Digits.{digits_value_is, number_after_append, number_after_ge}
use Rattle.ipg_proof.specs.Texts.{number_text, IsShort, IsLong}
use Rattle.ipg_proof.specs.declared.cursor.Stall.{Stall}
use Rattle.ipg_proof.specs.declared.cursor.Stall.TheVariants.{Here, Memory}
use Rattle.ipg_proof.specs.Numbers.{IsDigit, Begun, Goes, IsNoStart, IsDone, IsNumber, FirstAnswer, IsMore, NextAnswer, WithDigit}
use Rattle.ipg_proof.specs.Reads.{IsFrom, IsWithin, AreAlone, Reads, Stops, any, always}
use Rattle.ipg_proof.proofs.Readers.{Front, fronts, heads, tails, no_cons, here_is_no_memory, made_of, read_memory}
use Rattle.ipg_proof.proofs.Lists.{all_back, all_join}

pub all_digits : (n : ℕ) → n < 2 ^ 64 → AllByRecursion IsDigit (decimal n)
all_digits n small = decimal_by_steps (λ k ds. AllByRecursion IsDigit ds)
    (λ k h. (((let s : 48 ≤ 48 + k = omega arith in s), (let s : 48 + k ≤ 57 = omega (arith, h) in s)), tt))
    (λ k ds h all. all_join IsDigit ds ((48 + k % 10) ∷ []) all
    (((let s : 48 ≤ 48 + k % 10 = omega arith in s), (let s : 48 + k % 10 ≤ 57 = omega arith in s)), tt))
    n small

value : (n : ℕ) → n < 2 ^ 64 → number_from_digits_after 10 0 (map digit_value (decimal n)) ≡ n
value n small = sym (digits_value_is 10 (decimal n)) ∙ (decimal_is_IsNumeral n small).1

-- a number whose digits begin with those of v and one more
pub grown : (v d n : ℕ) (rest : List ℕ) → v < 2 ^ 64 → n < 2 ^ 64 → decimal n ≡ decimal v ++ d ∷ rest → v * 10 + digit_value d ≤ n
grown v d n rest few small e =
    let parts = ap (map digit_value) e ∙ map-append digit_value (decimal v) (d ∷ rest) in
    let whole = sym (value n small) ∙ ap (number_from_digits_after 10 0) parts
    ∙ number_after_append 10 0 (map digit_value (decimal v)) (digit_value d ∷ map digit_value rest)
    ∙ ap (λ k. number_from_digits_after 10 k (digit_value d ∷ map digit_value rest)) (value v few) in
    subst (λ k. v * 10 + digit_value d ≤ k) (sym whole) (number_after_ge 10 (v * 10 + digit_value d) (map digit_value rest) (let s : 0 < 10 = omega arith in s))

zero_alone : (n b : ℕ) (rest : List ℕ) → n < 2 ^ 64 → decimal n ≡ decimal 0 ++ b ∷ rest → ⊥
zero_alone n b rest small e = elim (cases_lt 0 n) [
  | inl more ↦ let s : ⊥ = omega (arith, first_decimal n more small, ap (λ l. get_or l 0 0) (e ∙ ap (λ l. l ++ b ∷ rest) (decimal_digit 0 (omega arith)))) in s
  | inr none ↦
      let is : n ≡ 0 = omega (arith, none) in
      let same = sym (decimal_digit 0 (omega arith)) ∙ ap decimal (sym is) ∙ e ∙ ap (λ l. l ++ b ∷ rest) (decimal_digit 0 (omega arith)) in
      no_cons b rest (sym (tails 48 48 [] (b ∷ rest) same))
]

digit_in : (v n b : ℕ) (rest : List ℕ) → n < 2 ^ 64 → decimal n ≡ decimal v ++ b ∷ rest → IsDigit b
digit_in v n b rest small e = (all_back IsDigit (decimal v) (b ∷ rest) (subst (AllByRecursion IsDigit) e (all_digits n small))).0

digit_is : (b : ℕ) → IsDigit b → digit_value b ≡ b - 48
digit_is b d = let s : digit_value b + 48 ≡ b = digit_value_digit b d in omega (arith, s)

goes_digit : (v n b : ℕ) (rest : List ℕ) → v < 2 ^ 64 → n < 2 ^ 64 → decimal n ≡ decimal v ++ b ∷ rest → Goes v n b
goes_digit zero n b rest few small e = absurd (zero_alone n b rest small e)
goes_digit (suc v) n b rest few small e = record {
  digit = digit_in (suc v) n b rest small e;
  some = (let s : 1 ≤ suc v = omega arith in s);
  least = subst (λ k. suc v * 10 + k ≤ n) (digit_is b (digit_in (suc v) n b rest small e)) (grown (suc v) b n rest few small e);
}

pub no_digit : (stop : ℕ) → stop < 48 → IsDigit stop → ⊥
no_digit stop h d = let s : ⊥ = omega (arith, h, d.0) in s

-- behind the digits of v stands the end, or a digit that leads to n
pub behind : (stop v n b : ℕ) (x y : List ℕ) → stop < 48 → v < 2 ^ 64 → n < 2 ^ 64 → decimal n ++ stop ∷ x ≡ decimal v ++ b ∷ y
    → ((b ≡ stop) × (n ≡ v) × (x ≡ y)) ⊎ Goes v n b
behind stop v n b x y h few small e = elim (fronts (decimal n) (stop ∷ x) (decimal v) (b ∷ y) e) [
  | inl f ↦ longer f.more f.longer f.rest
  | inr f ↦ shorter f.more f.longer f.rest
]
  where
    same : decimal n ≡ decimal v → b ∷ y ≡ stop ∷ x → ((b ≡ stop) × (n ≡ v) × (x ≡ y)) ⊎ Goes v n b
    same digits rest = inl (heads b stop y x rest, decimal_injective n v small few digits, sym (tails b stop y x rest))

    longer : (more : List ℕ) → decimal n ≡ decimal v ++ more → b ∷ y ≡ more ++ stop ∷ x → ((b ≡ stop) × (n ≡ v) × (x ≡ y)) ⊎ Goes v n b
    longer [] e' rest = same (e' ∙ append-nil (decimal v)) rest
    longer (d ∷ more) e' rest =
        inr (goes_digit v n b more few small (e' ∙ ap (λ c. decimal v ++ c ∷ more) (sym (heads b d y (more ++ stop ∷ x) rest))))

    shorter : (more : List ℕ) → decimal v ≡ decimal n ++ more → stop ∷ x ≡ more ++ b ∷ y → ((b ≡ stop) × (n ≡ v) × (x ≡ y)) ⊎ Goes v n b
    shorter [] e' rest = same (sym (e' ∙ append-nil (decimal n))) (sym rest)
    shorter (d ∷ more) e' rest = absurd (no_digit stop h
        (subst IsDigit (sym (heads stop d x (more ++ b ∷ y) rest))
        (all_back IsDigit (decimal n) (d ∷ more) (subst (AllByRecursion IsDigit) e' (all_digits v few))).0))

pub begun : (stop n b : ℕ) (x y : List ℕ) → n < 2 ^ 64 → decimal n ++ stop ∷ x ≡ b ∷ y → Begun n b
begun stop n b x y small e = at (decimal n) refl (decimal_nonempty n small)
  where
    at : (ds : List ℕ) → decimal n ≡ ds → 0 < length ds → Begun n b
    at [] is some = absurd (let s : ⊥ = omega (arith, some) in s)
    at (d ∷ ds) is some =
        let same : d ≡ b = heads d b (ds ++ stop ∷ x) y (ap (λ l. l ++ stop ∷ x) (sym is) ∙ e) in
        record {
          digit = subst IsDigit same (subst (AllByRecursion IsDigit) is (all_digits n small)).0;
          zero_is = λ none. elim (cases_lt 0 n) [
            | inl more ↦ absurd (let s : ⊥ = omega (arith, first_decimal n more small, ap (λ l. get_or l 0 0) is, same, none) in s)
            | inr zero' ↦ (let s : n ≡ 0 = omega (arith, zero') in s)
          ];
        }

pub alone_number : (stop least most : ℕ) → stop < 48 → most ≤ 2 ^ 64 → AreAlone (λ n. (least ≤ n) × (n < most)) (number_text stop)
alone_number stop least most h size a b more is also e =
    elim (behind stop a b stop [] more h (omega (arith, is.1, size)) (omega (arith, also.1, size)) (e ∙ append_assoc (decimal a) (stop ∷ []) more)) [
      | inl same ↦ sym same.2
      | inr goes ↦ absurd (no_digit stop h goes.digit)
    ]

pub number_same : (stop a b : ℕ) → stop < 48 → a < 2 ^ 64 → b < 2 ^ 64 → number_text stop a ≡ number_text stop b → a ≡ b
number_same stop a b h few small e = elim (behind stop a b stop [] [] h few small (sym e)) [
  | inl same ↦ sym same.1
  | inr goes ↦ absurd (no_digit stop h goes.digit)
]

-- ---- the code's steps

one_digit : (d : ℕ) → d ≤ 9 → (48 + d) ∷ [] ≡ decimal d
one_digit d h = sym (decimal_digit d (let s : d < 10 = omega (arith, h) in s))

pub first_digit_is : (least b d : ℕ) (left : List ℕ) → b ≡ 48 + d → d ≤ 9 → least ≤ d → FirstAnswer least (b ∷ left) left (Some d)
first_digit_is least b d left is small h = record {
  splits = ap (λ x. x ∷ left) is ∙ ap (λ ds. ds ++ left) (one_digit d small);
  above = h;
  small = small;
}

pub first_digit_low : (least b d : ℕ) (left : List ℕ) → least ≤ 1 → b ≡ 48 + d → d < least → FirstAnswer least (b ∷ left) (b ∷ left) None
first_digit_low least b d left one is low = (
  refl,
  λ n above begun.
      let none = begun.zero_is (let s : b ≡ 48 = omega (arith, one, is, low) in s) in
      let s : ⊥ = omega (arith, none, above, low) in s,
)

pub first_digit_none : (least b : ℕ) (left : List ℕ) → (IsDigit b → ⊥) → FirstAnswer least (b ∷ left) (b ∷ left) None
first_digit_none least b left never = (refl, λ n above begun. never begun.digit)

pub next_digit_is : (most v b d next : ℕ) (left : List ℕ) → most < 2 ^ 64 → b ≡ 48 + d → d ≤ 9 → WithDigit most v d (Some next)
    → NextAnswer most v (b ∷ left) left (Some next)
next_digit_is most v b d next left wide is small h =
    let front : v ≡ (v * 10 + d) / 10 = omega (arith, small) in
    let end : b ≡ 48 + (v * 10 + d) % 10 = omega (arith, is, small) in
    let more : decimal v ++ b ∷ [] ≡ decimal (v * 10 + d) =
    ap (λ k. decimal k ++ b ∷ []) front ∙ ap (λ x. decimal ((v * 10 + d) / 10) ++ x ∷ []) end
    ∙ sym (decimal_step (v * 10 + d) (omega (arith, h.0)) (omega (arith, h.1, h.2, wide))) in
    record {
      splits = sym (append_assoc (decimal v) (b ∷ []) left) ∙ ap (λ ds. ds ++ left) (more ∙ ap decimal (sym h.1));
      above = (let s : v ≤ next = omega (arith, h.1) in s);
      small = h.2;
      less = (let s : length left < suc (length left) = omega arith in s);
    }

pub next_digit_large : (most v b d : ℕ) (left : List ℕ) → b ≡ 48 + d → WithDigit most v d None → NextAnswer most v (b ∷ left) (b ∷ left) None
next_digit_large most v b d left is h = (
  refl,
  λ n small goes.
      let large = h goes.some in
      let s : ⊥ = omega (arith, large, goes.least, is, small) in s,
)

pub next_digit_none : (most v b : ℕ) (left : List ℕ) → (IsDigit b → ⊥) → NextAnswer most v (b ∷ left) (b ∷ left) None
next_digit_none most v b left never = (refl, λ n small goes. never goes.digit)

ends_small : (n : ℕ) → n < 2 ^ 32 → n < 2 ^ 64
ends_small n h = omega (arith, h)

below : (n most : ℕ) → n ≤ most → most < 2 ^ 64 → n < 2 ^ 64
below n most h wide = omega (arith, h, wide)

-- no number begins here
pub number_absent : (stop least most : ℕ) (bytes left : List ℕ) → least ≤ 1 → 9 ≤ most → most < 2 ^ 64 → stop < 48 → left ≡ bytes → IsNoStart least bytes
    → Reads (IsWithin least most) (number_text stop) bytes left (Err Here)
number_absent stop least most bytes left one nine wide low same none = record {
  says = record {
    taken = [];
    splits = sym same;
    begins = (least, ((let s : least ≤ least = omega arith in s), (let s : least ≤ most = omega (arith, one, nine) in s)), number_text stop least, refl);
    stops = stops bytes left (sym same) none;
  };
  back = λ n rest is e. absurd (begins bytes n rest is none e);
}
  where
    begins : (bs : List ℕ) (n : ℕ) (rest : List ℕ) → IsWithin least most n → IsNoStart least bs → bs ≡ number_text stop n ++ rest → ⊥
    begins [] n rest is never e = let s : ⊥ = omega (arith, ap length e, length-append (number_text stop n) rest, length-append (decimal n) (stop ∷ [])) in s
    begins (b ∷ bs) n rest is never e = never n is.0 (begun stop n b rest bs (below n most is.1 wide) (sym (append_assoc (decimal n) (stop ∷ []) rest) ∙ sym e))

    stops : (bs l : List ℕ) → bs ≡ l → IsNoStart least bs → Stops (IsWithin least most) (number_text stop) [] l
    stops bs [] e never = tt
    stops [] (x ∷ l) e never = absurd (no_cons x l (sym e))
    stops (b ∷ bs) (x ∷ l) e never = λ on.
        never on.0 on.1.0 (begun stop on.0 b [] on.2 (below on.0 most on.1.1 wide) (on.3 ∙ ap (λ y. y ∷ on.2) (sym (heads b x bs l e))))

-- the number ends here
pub number_there : (stop least most v : ℕ) (bytes now left : List ℕ) → stop < 48 → most < 2 ^ 64 → IsNumber least most bytes now v → now ≡ stop ∷ left
    → Reads (IsWithin least most) (number_text stop) bytes left (Ok v)
number_there stop least most v bytes now left low wide is ends = record {
  says = record {
    is = (is.above, is.small);
    splits = is.splits ∙ ap (λ l. decimal v ++ l) ends ∙ sym (append_assoc (decimal v) (stop ∷ []) left);
  };
  back = λ n rest few e. elim (behind stop v n stop rest left low (below v most is.small wide) (below n most few.1 wide)
      (sym (append_assoc (decimal n) (stop ∷ []) rest) ∙ sym e ∙ is.splits ∙ ap (λ l. decimal v ++ l) ends)) [
        | inl same ↦ (sym same.1, sym same.2)
        | inr goes ↦ absurd (no_digit stop low goes.digit)
      ];
}

-- the number has neither a digit more nor its end here
pub number_stuck : (stop least most v : ℕ) (bytes now left : List ℕ) → stop < 48 → most < 2 ^ 64 → IsNumber least most bytes now v → IsDone most v now
    → left ≡ now → ((rest : List ℕ) → now ≡ stop ∷ rest → ⊥)
    → Reads (IsWithin least most) (number_text stop) bytes left (Err Here)
number_stuck stop least most v bytes now left low wide is done same never = record {
  says = record {
    taken = decimal v;
    splits = is.splits ∙ ap (λ l. decimal v ++ l) (sym same);
    begins = (v, (is.above, is.small), stop ∷ [], refl);
    stops = stops now left (sym same) done never;
  };
  back = λ n rest few e. absurd (at now n rest few done never (sym (append_assoc (decimal n) (stop ∷ []) rest) ∙ sym e ∙ is.splits));
}
  where
    at : (l : List ℕ) (n : ℕ) (rest : List ℕ) → IsWithin least most n → IsDone most v l → ((r : List ℕ) → l ≡ stop ∷ r → ⊥)
        → decimal n ++ stop ∷ rest ≡ decimal v ++ l → ⊥
    at [] n rest few h missing e = none (fronts (decimal n) (stop ∷ rest) (decimal v) [] e)
      where
        none : Front (decimal n) (stop ∷ rest) (decimal v) [] ⊎ Front (decimal v) [] (decimal n) (stop ∷ rest) → ⊥
        none (inl f) = let s : ⊥ = omega (arith, ap length f.rest, length-append f.more (stop ∷ rest)) in s
        none (inr f) = no_digit stop low
            (all_back IsDigit (decimal n) (stop ∷ rest)
            (subst (AllByRecursion IsDigit) (f.longer ∙ ap (λ l. decimal n ++ l) (sym (f.rest ∙ append-nil f.more)))
            (all_digits v (below v most is.small wide)))).0
    at (b ∷ l) n rest few h missing e = elim (behind stop v n b rest l low (below v most is.small wide) (below n most few.1 wide) e) [
      | inl s ↦ missing l (ap (λ y. y ∷ l) s.0)
      | inr goes ↦ h n few.1 goes
    ]

    stops : (l m : List ℕ) → l ≡ m → IsDone most v l → ((r : List ℕ) → l ≡ stop ∷ r → ⊥) → Stops (IsWithin least most) (number_text stop) (decimal v) m
    stops l [] e h missing = tt
    stops [] (x ∷ m) e h missing = absurd (no_cons x m (sym e))
    stops (b ∷ l) (x ∷ m) e h missing = λ on.
        elim (behind stop v on.0 b [] on.2 low (below v most is.small wide) (below on.0 most on.1.1 wide)
        (on.3 ∙ append_assoc (decimal v) (x ∷ []) on.2 ∙ ap (λ y. decimal v ++ y ∷ on.2) (sym (heads b x l m e)))) [
          | inl s ↦ missing l (ap (λ y. y ∷ l) s.0)
          | inr goes ↦ h on.0 on.1.1 goes
        ]

-- where a byte is not there, nothing was taken
stuck_same : (b : ℕ) (now left : List ℕ) → Reads any (always (b ∷ [])) now left (Err Here) → left ≡ now
stuck_same b now left r = at r.says.taken r.says.splits r.says.begins.2 r.says.begins.3
  where
    at : (taken : List ℕ) → now ≡ taken ++ left → (rest : List ℕ) → b ∷ [] ≡ taken ++ rest → left ≡ now
    at [] splits rest e = sym splits
    at (x ∷ []) splits rest e = absurd (here_is_no_memory (r.back tt left tt (splits ∙ ap (λ y. y ∷ left) (sym (heads b x [] rest e)))))
    at (x ∷ y ∷ taken) splits rest e = absurd (let s : ⊥ = omega (arith, ap length e) in s)

-- and then the byte behind it
pub number_ends : (stop least most v : ℕ) (bytes now left : List ℕ) (r : Result (Unit {0}) Stall) → stop < 48 → most < 2 ^ 64
    → IsNumber least most bytes now v → IsDone most v now
    → Reads any (always (stop ∷ [])) now left r
    → Reads (IsWithin least most) (number_text stop) bytes left (made_of (λ it. v) r)
number_ends stop least most v bytes now left (Ok it) low wide is done r = number_there stop least most v bytes now left low wide is r.says.splits
number_ends stop least most v bytes now left (Err Here) low wide is done r =
    number_stuck stop least most v bytes now left low wide is done (stuck_same stop now left r) (λ rest e. here_is_no_memory (r.back tt rest tt e))
number_ends stop least most v bytes now left (Err Memory) low wide is done r = read_memory (IsWithin least most) (number_text stop) bytes left

pub number_more : (least most v next : ℕ) (bytes now left : List ℕ) → IsNumber least most bytes now v → IsMore most v now left next
    → IsNumber least most bytes left next
number_more least most v next bytes now left is more = record {
  splits = is.splits ∙ more.splits;
  above = (let s : least ≤ next = omega (arith, is.above, more.above) in s);
  small = more.small;
}

-- a slice but for its first byte
rest_is : (b : ℕ) (left : List ℕ) → take (length (b ∷ left) - 1) (drop 1 (b ∷ left)) ≡ left
rest_is b left = ap (λ n. take n left) (let s : suc (length left) - 1 ≡ length left = omega arith in s) ∙ take-length left

pub first_found : (least d : ℕ) (bytes : List ℕ) → 1 ≤ length bytes → get_or bytes 0 0 ≡ 48 + d → d ≤ 9 → least ≤ d
    → FirstAnswer least bytes (take (length bytes - 1) (drop 1 bytes)) (Some d)
first_found least d [] some is small h = absurd (let s : ⊥ = omega (arith, some) in s)
first_found least d (b ∷ left) some is small h = subst (λ l. FirstAnswer least (b ∷ left) l (Some d)) (sym (rest_is b left))
    (first_digit_is least b d left is small h)

pub next_found : (most v d next : ℕ) (bytes : List ℕ) → most < 2 ^ 64 → 1 ≤ length bytes → get_or bytes 0 0 ≡ 48 + d → d ≤ 9 → WithDigit most v d (Some next)
    → NextAnswer most v bytes (take (length bytes - 1) (drop 1 bytes)) (Some next)
next_found most v d next [] wide some is small h = absurd (let s : ⊥ = omega (arith, some) in s)
next_found most v d next (b ∷ left) wide some is small h = subst (λ l. NextAnswer most v (b ∷ left) l (Some next)) (sym (rest_is b left))
    (next_digit_is most v b d next left wide is small h)

pub from_is : (least n : ℕ) → IsWithin least 4294967295 n → IsFrom least n
from_is least n is = (is.0, (let s : n < 2 ^ 32 = omega (arith, is.1) in s))

pub from_within : (least n : ℕ) → IsFrom least n → IsWithin least 4294967295 n
from_within least n is = (is.0, (let s : n ≤ 4294967295 = omega (arith, is.1) in s))

pub long_is : (n : ℕ) → IsWithin 0 18446744073709551615 n → IsLong n
long_is n is = omega (arith, is.1)

pub long_within : (n : ℕ) → IsLong n → IsWithin 0 18446744073709551615 n
long_within n is = ((let s : 0 ≤ n = omega arith in s), (let s : n ≤ 18446744073709551615 = omega (arith, is) in s))

pub alone_long : (stop : ℕ) → stop < 48 → AreAlone IsLong (number_text stop)
alone_long stop low a b more is also e = alone_number stop 0 (2 ^ 64) low (let s : 2 ^ 64 ≤ 2 ^ 64 = omega arith in s) a b more
    ((let s : 0 ≤ a = omega arith in s), is) ((let s : 0 ≤ b = omega arith in s), also) e

pub long_same : (stop : ℕ) → stop < 48 → (a b : ℕ) → IsLong a → IsLong b → number_text stop a ≡ number_text stop b → a ≡ b
long_same stop low a b is also e = number_same stop a b low is also e

pub short_is : (n : ℕ) → IsShort n → IsFrom 0 n
short_is n small = ((let s : 0 ≤ n = omega arith in s), small)

pub alone_short : (stop : ℕ) → stop < 48 → AreAlone IsShort (number_text stop)
alone_short stop low a b more is also e = alone_number stop 0 (2 ^ 32) low (let s : 2 ^ 32 ≤ 2 ^ 64 = omega arith in s) a b more (short_is a is)
    (short_is b also) e

pub short_same : (stop : ℕ) → stop < 48 → (a b : ℕ) → IsShort a → IsShort b → number_text stop a ≡ number_text stop b → a ≡ b
short_same stop low a b is also e = number_same stop a b low (ends_small a is) (ends_small b also) e

pub one_short : IsShort 1
one_short = omega arith
