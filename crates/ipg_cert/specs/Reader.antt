-- A reader of a refutation's words, byte after byte: where it stands, and where each byte takes it.
use Rattle.std.specs.Prelude.{◌≡◌, ℕ, ◌+◌, ◌-◌, ◌*◌, ◌^◌, ◌≤◌, Bool, true, false, not, ◌&&◌, ◌||◌, nat_le, ◌==◌, if◌then◌else◌}
use Rattle.std.specs.Prelude.{List, [], ◌∷◌, ◌++◌, Option, None, Some, Result, Ok, Err, ℤ, pos, neg_ℤ}
use Rattle.ipg_reader.specs.Digits.{is_digit, digit_value}
use Rattle.ipg_cert.specs.declared.pos.Need.{Need}
use Rattle.ipg_cert.specs.declared.pos.Need.TheVariants.{Count, Weight, Fact, Var, At, Choice, Parts}
use Rattle.ipg_cert.specs.declared.pos.Number.{Number}
use Rattle.ipg_cert.specs.declared.pos.Pos.{Pos}
use Rattle.ipg_cert.specs.declared.pos.Pos.TheVariants.{Letter, Gap, First, Minus, Digits, Ended}
use Rattle.ipg_cert.specs.declared.pos.Transition.{Transition}
use Rattle.ipg_cert.specs.declared.pos.Transition.TheVariants.{Stuck, To, End}
use Rattle.ipg_cert.specs.declared.refutation.Step.{Step}
use Rattle.ipg_cert.specs.declared.refutation.Step.TheVariants.{Combine, Split, Either}
use Rattle.ipg_cert.specs.declared.words.WordFault.{WordFault}
use Rattle.ipg_cert.specs.declared.words.WordFault.TheVariants.{At as FaultAt, Memory}
use Rattle.ipg_cert.specs.Texts.{parts_of}

-- ---- numbers

abbrev pub limit : Need → Bool → ℕ
limit Count negative = 2 ^ 64 - 1
limit (Weight left) negative = 2 ^ 64 - 1
limit (Fact left weight) negative = 2 ^ 64 - 1
limit Var negative = 2 ^ 64 - 1
limit (At var) negative = if negative then 2 ^ 63 else 2 ^ 63 - 1
limit Choice negative = 2 ^ 64 - 1
limit (Parts fact) negative = 2 ^ 64 - 1

abbrev pub may_be_zero : Need → Bool
may_be_zero Count = false
may_be_zero (Weight left) = true
may_be_zero (Fact left weight) = true
may_be_zero Var = true
may_be_zero (At var) = true
may_be_zero Choice = true
may_be_zero (Parts fact) = false

abbrev pub may_be_negative : Need → Bool
may_be_negative Count = false
may_be_negative (Weight left) = false
may_be_negative (Fact left weight) = false
may_be_negative Var = false
may_be_negative (At var) = true
may_be_negative Choice = false
may_be_negative (Parts fact) = false

abbrev pub signed : Bool → ℕ → ℤ
signed negative value = if negative then neg_ℤ (pos value) else pos value

-- ---- one byte

abbrev pub letter_transition : ℕ → Transition
letter_transition b = if b == 99 then To (Gap Count) else (if b == 115 then To (Gap Var) else (if b == 101 then To (Gap Choice) else Stuck))

abbrev pub gap_transition : Need → ℕ → Transition
gap_transition need b = if b == 32 then To (First need) else Stuck

abbrev pub begun : Need → Bool → ℕ → Transition
begun need negative b = To (Digits (record { need = need; negative = negative; value = digit_value b }))

abbrev pub first_transition : Need → ℕ → Transition
first_transition need b =
    if is_digit b && (may_be_zero need || not (b == 48)) then begun need false b else
    (if may_be_negative need && b == 45 then To (Minus need) else Stuck)

abbrev pub minus_transition : Need → ℕ → Transition
minus_transition need b = if is_digit b && not (b == 48) then begun need true b else Stuck

-- a number with one digit more, where it stays within its limit; 0 has none
abbrev pub grown : Number → ℕ → Transition
grown n value =
    if not (n.value == 0) && nat_le value (limit n.need n.negative) then To (Digits (record { need = n.need; negative = n.negative; value = value })) else Stuck

abbrev pub digit_transition : Number → ℕ → Transition
digit_transition n b = if is_digit b then grown n (n.value * 10 + digit_value b) else End n

abbrev pub transition_at : Pos → ℕ → Transition
transition_at Letter b = letter_transition b
transition_at (Gap need) b = gap_transition need b
transition_at (First need) b = first_transition need b
transition_at (Minus need) b = minus_transition need b
transition_at (Digits n) b = digit_transition n b
transition_at Ended b = Stuck

abbrev pub PosWithin : Pos → Type 0
PosWithin Letter = Unit {0}
PosWithin (Gap need) = Unit {0}
PosWithin (First need) = Unit {0}
PosWithin (Minus need) = Unit {0}
PosWithin (Digits n) = n.value ≤ limit n.need n.negative
PosWithin Ended = Unit {0}

abbrev pub TransitionWithin : Transition → Type 0
TransitionWithin Stuck = Unit {0}
TransitionWithin (To p) = PosWithin p
TransitionWithin (End n) = n.value ≤ limit n.need n.negative

-- ---- the words so far

-- the steps made, the entries of the Combine at hand, and how many trees are open
pub record State : Type 0 where
  pub made : List Step
  pub entries : List (ℕ × ℕ)
  pub open_trees : ℕ
  pub pos : Pos

abbrev pub start : State
start = record { made = []; entries = []; open_trees = 1; pos = Letter }

abbrev pub at_pos : State → Pos → State
at_pos st p = record { made = st.made; entries = st.entries; open_trees = st.open_trees; pos = p }

-- a space, and the next number
abbrev pub spaced_to : State → Need → ℕ → Option State
spaced_to st need b = if b == 32 then Some (at_pos st (First need)) else None

-- a line feed where no tree is open, else a space and the next step
abbrev pub parted : State → ℕ → Option State
parted st b =
    if st.open_trees == 0 then (if b == 10 then Some (at_pos st Ended) else None)
    else (if b == 32 then Some (at_pos st Letter) else None)

abbrev pub with_step : State → Step → State
with_step st step = record { made = st.made ++ step ∷ []; entries = []; open_trees = st.open_trees - 1 + parts_of step; pos = st.pos }

abbrev pub with_entry : State → ℕ → ℕ → State
with_entry st weight fact = record { made = st.made; entries = st.entries ++ (weight, fact) ∷ []; open_trees = st.open_trees; pos = st.pos }

-- the last entry makes the step
abbrev pub entered : State → ℕ → ℕ → Option State
entered st left b = if left == 1 then parted (with_step st (Combine st.entries)) b else spaced_to st (Weight (left - 1)) b

abbrev pub finished : State → Need → Bool → ℕ → ℕ → Option State
finished st Count s v b = spaced_to st (Weight v) b
finished st (Weight left) s v b = spaced_to st (Fact left v) b
finished st (Fact left weight) s v b = entered (with_entry st weight v) left b
finished st Var s v b = spaced_to st (At v) b
finished st (At var) s v b = parted (with_step st (Split var (signed s v))) b
finished st Choice s v b = spaced_to st (Parts v) b
finished st (Parts fact) s v b = parted (with_step st (Either fact v)) b

abbrev pub taken : Transition → State → ℕ → Option State
taken Stuck st b = None
taken (To p) st b = Some (at_pos st p)
taken (End n) st b = finished st n.need n.negative n.value b

abbrev pub step : State → ℕ → Option State
step st b = taken (transition_at st.pos b) st b

-- ---- all bytes

abbrev pub has_ended : Pos → Bool
has_ended Letter = false
has_ended (Gap need) = false
has_ended (First need) = false
has_ended (Minus need) = false
has_ended (Digits n) = false
has_ended Ended = true

abbrev pub Found : Type 0
Found = Result (List Step × ℕ) ℕ

abbrev pub or_on : State → ℕ → Found → Found
or_on st n rest = if has_ended st.pos then Ok (st.made, n) else rest

abbrev pub next : Option State → ℕ → (State → Found) → Found
next None n rest = Err n
next (Some st) n rest = or_on st (n + 1) (rest st)

-- the steps and how many bytes they take, or how many bytes are taken before the first that does not fit
abbrev pub read_from : State → ℕ → List ℕ → Found
read_from st n [] = Err n
read_from st n (b ∷ bs) = next (step st b) n (λ on. read_from on (n + 1) bs)

-- ---- faults

abbrev pub IsAnswer : Found → WordFault → Type 0
IsAnswer o (FaultAt n) = o ≡ Err n
IsAnswer o Memory = Unit {0}

abbrev pub IsWithin : ℕ → WordFault → Type 0
IsWithin most (FaultAt n) = n ≤ most
IsWithin most Memory = Unit {0}
