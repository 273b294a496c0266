-- What a reader answers of bytes.
use Rattle.std.proofs.Common.{◌≡◌, ℕ, suc, ◌+◌, ◌-◌, ◌≤◌, Bool, true, false, List, [], ◌∷◌, ◌++◌, take, drop, length, Option, Some, None, Ok, Err}
use Rattle.std.proofs.Common.{refl, ap, ◌∙◌, sym, subst, arith, inl, inr, append_assoc, length-append, true≢false, if◌then◌else◌}
use Rattle.std.proofs.Common.{min, subst₂, length-take, length-drop}
use Rattle.std.proofs.lemmas.List.{drop_min}
use Rattle.std.proofs.lemmas.Option.{none-some, same_Some}
use Rattle.ipg_reader.specs.Stepwise.{and_then, run, run_on, run_step, OnStep, StopsAt, stops_at_end, stops_here, stops_later}
use Rattle.ipg_cert.specs.declared.pos.Pos.{Pos}
use Rattle.ipg_cert.specs.declared.pos.Pos.TheVariants.{Letter, Gap, First, Minus, Digits, Ended}
use Rattle.ipg_cert.specs.declared.refutation.Step.{Step}
use Rattle.ipg_cert.specs.Words.{words_of}
use Rattle.ipg_cert.specs.Texts.{IsTextOf, Begins, GoesOn, IsFirstFault, IsTextAt, IsFaultFrom}
use Rattle.ipg_cert.specs.Reader.{transition_at, State, start, taken, step, has_ended, Found, next, read_from}
use Rattle.ipg_cert.proofs.Spelled.{IsSound, After, step_sound}
use Rattle.ipg_cert.proofs.Begun.{sound_begins}
use Rattle.ipg_cert.proofs.Runs.{text_ends}

-- a run that ends is read as such, whatever stands behind it
by_next : (o : Option State) (n m : ℕ) (bs rest : List ℕ) (e : State) (go : State → Found)
    → ((on : State) → has_ended on.pos ≡ false → run step on bs ≡ Some e → go on ≡ Ok (e.made, m))
    → ((on : State) → has_ended on.pos ≡ true → run step on bs ≡ Some e → (on ≡ e) × (n + 1 ≡ m))
    → and_then o (λ on. run step on bs) ≡ Some e → next o n go ≡ Ok (e.made, m)
by_next None n m bs rest e go more last d = absurd (none-some e d)
by_next (Some on) n m bs rest e go more last d =
    (elim (has_ended on.pos) as (λ c. has_ended on.pos ≡ c → (if c then Ok (on.made, n + 1) else go on) ≡ Ok (e.made, m)) [
      | true ↦ λ f. let (same, count) = last on f d in ap (λ st. Ok (st.made, n + 1)) same ∙ ap (λ k. Ok (e.made, k)) count
      | false ↦ λ f. more on f d
    ]) refl

ended_stuck : (st : State) (b : ℕ) → has_ended st.pos ≡ true → step st b ≡ None
ended_stuck st b e = at_end st.pos e
  where
    at_end : (p : Pos) → has_ended p ≡ true → taken (transition_at p b) st b ≡ None
    at_end Letter f = absurd (true≢false (sym f))
    at_end (Gap need) f = absurd (true≢false (sym f))
    at_end (First need) f = absurd (true≢false (sym f))
    at_end (Minus need) f = absurd (true≢false (sym f))
    at_end (Digits n) f = absurd (true≢false (sym f))
    at_end Ended f = refl

ended_run : (st e : State) (bs : List ℕ) → has_ended st.pos ≡ true → run step st bs ≡ Some e → (st ≡ e) × (length bs ≡ 0)
ended_run st e [] ended d = (same_Some st e d, refl)
ended_run st e (b ∷ bs) ended d = absurd (none-some e (ap (λ o. and_then o (λ on. run step on bs)) (sym (ended_stuck st b ended)) ∙ d))

read_ends : (bs rest : List ℕ) (st e : State) (n : ℕ) → has_ended st.pos ≡ false → has_ended e.pos ≡ true → run step st bs ≡ Some e
    → read_from st n (bs ++ rest) ≡ Ok (e.made, n + length bs)
read_ends [] rest st e n going ended d = absurd (true≢false (sym ended ∙ ap (λ s. has_ended s.pos) (sym (same_Some st e d)) ∙ going))
read_ends (b ∷ bs) rest st e n going ended d =
    by_next (step st b) n (n + suc (length bs)) bs rest e (λ on. read_from on (n + 1) (bs ++ rest))
    (λ on f g. read_ends bs rest on e (n + 1) f ended g ∙ ap (λ k. Ok (e.made, k)) (let h : n + 1 + length bs ≡ n + suc (length bs) = omega arith in h))
    (λ on f g. let (same, none) = ended_run on e bs f g in (same, (let h : n + 1 ≡ n + suc (length bs) = omega (arith, none) in h)))
    d

-- what an answer says of the bytes from a place on, behind words that were read
abbrev Says : List ℕ → ℕ → List ℕ → Found → Type 0
Says words n bs (Ok found) = (k : ℕ) × (found.1 ≡ n + k) × (k ≤ length bs) × IsTextOf found.0 (words ++ take k bs)
Says words n bs (Err m) = StopsAt Begins GoesOn words n bs m

says_later : (words : List ℕ) (n b : ℕ) (bs : List ℕ) (o : Found) → Says (words ++ b ∷ []) (n + 1) bs o → Says words n (b ∷ bs) o
says_later words n b bs (Ok found) (k, count, within, text) = (
  suc k,
  (let e : found.1 ≡ n + suc k = omega (arith, count) in e),
  (let e : suc k ≤ suc (length bs) = omega (arith, within) in e),
  subst (IsTextOf found.0) (append_assoc words (b ∷ []) (take k bs)) text,
)
says_later words n b bs (Err m) stops = stops_later Begins GoesOn words n b bs m stops

-- no text goes on with a byte that does not fit
no_text : (words : List ℕ) (st : State) (b : ℕ) → run step start words ≡ Some st → step st b ≡ None → ¬ GoesOn (words ++ b ∷ [])
no_text words st b reached stuck (steps, rest, text) =
    let ends = text_ends steps ((words ++ b ∷ []) ++ rest) text in
    none-some ends.end (
    sym (ap (run step start) (append_assoc words (b ∷ []) rest) ∙ run_on step start st words (b ∷ rest) reached
    ∙ ap (λ o. and_then o (λ on. run step on rest)) stuck)
    ∙ ends.reached)

says : (bs words : List ℕ) (st : State) (n : ℕ) → IsSound st words → run step start words ≡ Some st → Says words n bs (read_from st n bs)
says [] words st n sound reached = stops_at_end Begins GoesOn words n (sound_begins st words sound)
says (b ∷ bs) words st n sound reached = by_step (step st b) refl (step_sound st.made st.entries st.open_trees words b st.pos sound)
    (λ on s r. says bs (words ++ b ∷ []) on (n + 1) s r)
  where
    by_step : (o : Option State) → step st b ≡ o → OnStep After o (words ++ b ∷ [])
        → ((on : State) → IsSound on (words ++ b ∷ []) → run step start (words ++ b ∷ []) ≡ Some on
        → Says (words ++ b ∷ []) (n + 1) bs (read_from on (n + 1) bs))
        → Says words n (b ∷ bs) (next o n (λ on. read_from on (n + 1) bs))
    by_step None is after go = stops_here Begins GoesOn words n b bs (sound_begins st words sound) (no_text words st b reached is)
    by_step (Some on) is (inl (going, s)) go =
        subst (λ c. Says words n (b ∷ bs) (if c then Ok (on.made, n + 1) else read_from on (n + 1) bs)) (sym going)
        (says_later words n b bs (read_from on (n + 1) bs) (go on s (run_on step start st words (b ∷ []) reached ∙ run_step step st on b [] is)))
    by_step (Some on) is (inr (ended, text)) go =
        subst (λ c. Says words n (b ∷ bs) (if c then Ok (on.made, n + 1) else read_from on (n + 1) bs)) (sym ended)
        (1, refl, (let e : 1 ≤ suc (length bs) = omega arith in e), text)

start_sound : IsSound start []
start_sound = record { spelled = refl; ranges = tt; entries = tt; trees = refl; some = (let e : 1 ≤ 1 = omega arith in e); at = refl }

at_start : (bs : List ℕ) → Says [] 0 bs (read_from start 0 bs)
at_start bs = says bs [] start 0 start_sound refl

found_is : (bs : List ℕ) (o : Found) (steps : List Step) (n : ℕ) → o ≡ Ok (steps, n) → Says [] 0 bs o → (n ≤ length bs) × IsTextOf steps (take n bs)
found_is bs o steps n is said =
    let (k, count, within, text) = subst (Says [] 0 bs) is said in
    let same : k ≡ n = omega (arith, count) in
    (subst (λ j. j ≤ length bs) same within, subst (λ j. IsTextOf steps (take j bs)) same text)

pub text_found : (bs : List ℕ) (steps : List Step) (n : ℕ) → read_from start 0 bs ≡ Ok (steps, n) → (n ≤ length bs) × IsTextOf steps (take n bs)
text_found bs steps n is = found_is bs (read_from start 0 bs) steps n is (at_start bs)

fault_is : (bs : List ℕ) (o : Found) (n : ℕ) → o ≡ Err n → Says [] 0 bs o → IsFirstFault bs n
fault_is bs o n is said =
    let (k, count, within, begins, stops) = subst (Says [] 0 bs) is said in
    let same : k ≡ n = omega (arith, count) in
    subst (IsFirstFault bs) same (record { within = within; before = begins; there = stops })

pub first_fault : (bs : List ℕ) (n : ℕ) → read_from start 0 bs ≡ Err n → IsFirstFault bs n
first_fault bs n is = fault_is bs (read_from start 0 bs) n is (at_start bs)

pub read_back : (steps : List Step) (text rest : List ℕ) → IsTextOf steps text → read_from start 0 (text ++ rest) ≡ Ok (steps, length text)
read_back steps text rest is =
    let ends = text_ends steps text is in
    read_ends text rest start ends.end 0 refl ends.ended ends.reached ∙ ap (λ ss. Ok (ss, 0 + length text)) ends.made
    ∙ ap (λ k. Ok (steps, k)) (let e : 0 + length text ≡ length text = omega arith in e)

-- ---- from a place of a text on

at_once : (bs : List ℕ) (steps : List Step) (n : ℕ) → IsTextOf steps (take n bs) → 1 ≤ n
at_once bs steps n is = omega (arith, length-take n bs, ap length is.words, length-append (words_of steps) (10 ∷ []))

pub text_at : (text : List ℕ) (at from n : ℕ) (steps : List Step) → from ≡ min at (length text) → read_from start 0 (drop from text) ≡ Ok (steps, n)
    → IsTextAt text at steps (from + n)
text_at text at from n steps is read =
    let (within, there) = text_found (drop from text) steps n read in
    let some = at_once (drop from text) steps n there in
    let same : from ≡ at = omega (arith, is, within, some, length-drop from text) in
    let count : n ≡ from + n - at = omega (arith, same) in
    record {
      order = omega (arith, same);
      within = omega (arith, is, within, some, length-drop from text);
      is = subst₂ (λ k d. IsTextOf steps (take k (drop d text))) count same there;
    }

pub fault_from : (text : List ℕ) (at from n : ℕ) → from ≡ min at (length text) → read_from start 0 (drop from text) ≡ Err n → IsFaultFrom text at (from + n)
fault_from text at from n is read = record {
  taken = n;
  is = subst (λ bs. IsFirstFault bs n) (ap (λ k. drop k text) is ∙ drop_min at text) (first_fault (drop from text) n read);
  place_is = ap (λ k. k + n) is;
}

read_again : (text : List ℕ) (at from : ℕ) (steps : List Step) (words rest : List ℕ) → from ≡ min at (length text) → IsTextOf steps words
    → drop at text ≡ words ++ rest
    → read_from start 0 (drop from text) ≡ Ok (steps, length words)
read_again text at from steps words rest is text_is split =
    ap (read_from start 0) (ap (λ k. drop k text) is ∙ drop_min at text ∙ split) ∙ read_back steps words rest text_is

same_found : (a b : List Step) (m n : ℕ) → ◌≡◌ {A = Found} (Ok (a, m)) (Ok (b, n)) → (a ≡ b) × (m ≡ n)
same_found a b m n e = (ap steps_in e, ap count_in e)
  where
    steps_in : Found → List Step
    steps_in (Ok found) = found.0
    steps_in (Err k) = a

    count_in : Found → ℕ
    count_in (Ok found) = found.1
    count_in (Err k) = m

no_fault : (n : ℕ) (found : List Step × ℕ) → ◌≡◌ {A = Found} (Err n) (Ok found) → ⊥
no_fault n found e = true≢false (ap is_fault e)
  where
    is_fault : Found → Bool
    is_fault (Ok found) = false
    is_fault (Err k) = true

pub found_again : (text : List ℕ) (at from n : ℕ) (found steps : List Step) (words rest : List ℕ) → from ≡ min at (length text)
    → read_from start 0 (drop from text) ≡ Ok (found, n)
    → IsTextOf steps words → drop at text ≡ words ++ rest → (found ≡ steps) × (from + n ≡ at + length words)
found_again text at from n found steps words rest is read text_is split =
    let (same, count) = same_found found steps n (length words) (sym read ∙ read_again text at from steps words rest is text_is split) in
    let at_it : IsTextAt text at found (from + n) = text_at text at from n found is read in
    (same, omega (arith, count, is, at_it.order, at_it.within))

pub no_fault_again : (text : List ℕ) (at from n : ℕ) (steps : List Step) (words rest : List ℕ) → from ≡ min at (length text)
    → read_from start 0 (drop from text) ≡ Err n
    → IsTextOf steps words → drop at text ≡ words ++ rest → ⊥
no_fault_again text at from n steps words rest is read text_is split =
    no_fault n (steps, length words) (sym read ∙ read_again text at from steps words rest is text_is split)
