-- The text of a script leads a reader on to its end.
use Rattle.std.proofs.Common.{◌≡◌, ℕ, ◌+◌, ◌*◌, ◌/◌, ◌%◌, ◌^◌, ◌<◌, true, ◌==◌}
use Rattle.std.proofs.Common.{List, [], ◌∷◌, ◌++◌, Some, refl, ap, ◌∙◌, sym, arith}
use Rattle.std.proofs.Common.{append_assoc, append-nil, decimal, if◌then◌else◌}
use Rattle.std.specs.List.{AllByRecursion}
use Rattle.std.proofs.lemmas.Fmt.{decimal_by_steps}
use Rattle.ipg_reader.specs.Digits.{is_digit, digit_value, digit_is}
use Rattle.ipg_reader.specs.Stepwise.{run, run_on, run_step}
use Rattle.ipg_edit_script.specs.declared.script.Edit.{Edit}
use Rattle.ipg_edit_script.specs.declared.pos.Pos.{Pos}
use Rattle.ipg_edit_script.specs.declared.pos.Pos.TheVariants as pos
use Rattle.ipg_edit_script.specs.declared.pos.ScriptTurn.TheVariants.{Stuck, To, Add}
use Rattle.ipg_edit_script.specs.Scripts.{hex_digit, hex, with_text, places_text, line, script_text, IsByte, IsEdit, AreEdits}
use Rattle.ipg_edit_script.specs.Reader.{is_hex, hex_value, byte_of, grown, counted, more_from}
use Rattle.ipg_edit_script.specs.Reader.{more_to, end_turn, State, start, taken, step, ended}
use Rattle.ipg_edit_script.proofs.Digits.{grown_to, digit_of, byte_back}

abbrev at_place : List Edit → List ℕ → Pos → State
at_place edits with p = record { edits = edits; with = with; at = p }

-- ---- numbers

-- from before a number to behind it, where both places take digits as they should
run_decimal : (before : State) (at : ℕ → State)
    → ((d : ℕ) → is_digit (48 + d) ≡ true → digit_value (48 + d) ≡ d → step before (48 + d) ≡ Some (at d))
    → ((k m b : ℕ) → is_digit b ≡ true → grown k (k * 10 + digit_value b) ≡ Some m → step (at k) b ≡ Some (at m))
    → (k : ℕ) → k < 2 ^ 32 → run step before (decimal k) ≡ Some (at k)
run_decimal before at first more k small = decimal_by_steps (λ m ds. m < 2 ^ 32 → run step before ds ≡ Some (at m))
    (λ m less fits. let is = digit_is m less in run_step step before (at m) (48 + m) [] (first m is.0 is.1))
    (λ m ds large here fits.
    run_on step before (at (m / 10)) ds ((48 + m % 10) ∷ []) (here (omega arith))
    ∙ run_step step (at (m / 10)) (at m) (48 + m % 10) [] (more (m / 10) m (48 + m % 10) (digit_is (m % 10) (omega arith)).0 (grown_to m large fits)))
    k (omega (arith, small)) small

module _ (edits : List Edit) where
  run_from : (k : ℕ) → k < 2 ^ 32 → run step (at_place edits [] pos.Line) (decimal k) ≡ Some (at_place edits [] (pos.From k))
  run_from k small =
      let before = at_place edits [] pos.Line in
      run_decimal before (λ m. at_place edits [] (pos.From m))
      (λ d digit value.
      ap (λ c. taken (if c then To (pos.From (digit_value (48 + d))) else Stuck) before) digit ∙ ap (λ v. Some (at_place edits [] (pos.From v))) value)
      (λ j m b digit e.
      ap (λ c. taken (if c then more_from j b else (if b == 32 then To (pos.Gap j) else Stuck)) (at_place edits [] (pos.From j))) digit
      ∙ ap (λ o. taken (counted pos.From o) (at_place edits [] (pos.From j))) e)
      k small

  run_to : (from k : ℕ) → k < 2 ^ 32 → run step (at_place edits [] (pos.Gap from)) (decimal k) ≡ Some (at_place edits [] (pos.To from k))
  run_to from k small =
      let before = at_place edits [] (pos.Gap from) in
      run_decimal before (λ m. at_place edits [] (pos.To from m))
      (λ d digit value.
      ap (λ c. taken (if c then To (pos.To from (digit_value (48 + d))) else Stuck) before) digit
      ∙ ap (λ v. Some (at_place edits [] (pos.To from v))) value)
      (λ j m b digit e.
      ap (λ c. taken (if c then more_to from j b else (if b == 32 then To (pos.With from j) else Stuck)) (at_place edits [] (pos.To from j))) digit
      ∙ ap (λ o. taken (counted (pos.To from) o) (at_place edits [] (pos.To from j))) e)
      k small

  run_places : (from to : ℕ) → from < 2 ^ 32 → to < 2 ^ 32
      → run step (at_place edits [] pos.Line) (places_text from to) ≡ Some (at_place edits [] (pos.With from to))
  run_places from to small also =
      run_on step (at_place edits [] pos.Line) (at_place edits [] (pos.From from)) (decimal from) (32 ∷ (decimal to ++ 32 ∷ [])) (run_from from small)
      ∙ run_step step (at_place edits [] (pos.From from)) (at_place edits [] (pos.Gap from)) 32 (decimal to ++ 32 ∷ []) refl
      ∙ run_on step (at_place edits [] (pos.Gap from)) (at_place edits [] (pos.To from to)) (decimal to) (32 ∷ []) (run_to from to also)

  -- ---- bytes

  module _ (from to : ℕ) where
    -- both digits of a byte, where the place before it takes the first
    run_byte : (before : State) (with : List ℕ) (b : ℕ) (more : List ℕ) → b < 256
        → ((d : ℕ) → is_hex d ≡ true → step before d ≡ Some (at_place edits with (pos.Half from to (hex_value d))))
        → run step before (hex_digit (b / 16) ∷ hex_digit (b % 16) ∷ more) ≡ run step (at_place edits (with ++ b ∷ []) (pos.Whole from to)) more
    run_byte before with b more small takes =
        let first = digit_of (b / 16) (omega (arith, small)) in
        let second = digit_of (b % 16) (omega arith) in
        let half = at_place edits with (pos.Half from to (b / 16)) in
        let low = hex_digit (b % 16) in
        run_step step before half (hex_digit (b / 16)) (low ∷ more)
        (takes (hex_digit (b / 16)) first.digit ∙ ap (λ h. Some (at_place edits with (pos.Half from to h))) first.value)
        ∙ run_step step half (at_place edits (with ++ b ∷ []) (pos.Whole from to)) low more
        (ap (λ c. taken (if c then Add (byte_of (b / 16) (hex_value low)) (pos.Whole from to) else Stuck) half) second.digit
        ∙ ap (λ l. taken (Add (byte_of (b / 16) l) (pos.Whole from to)) half) second.value
        ∙ ap (λ v. taken (Add v (pos.Whole from to)) half) (byte_back b small))

    run_hex : (bs with : List ℕ) → AllByRecursion IsByte bs
        → run step (at_place edits with (pos.Whole from to)) (hex bs) ≡ Some (at_place edits (with ++ bs) (pos.Whole from to))
    run_hex [] with all = ap (λ xs. Some (at_place edits xs (pos.Whole from to))) (sym (append-nil with))
    run_hex (b ∷ bs) with all =
        let whole = at_place edits with (pos.Whole from to) in
        run_byte whole with b (hex bs) all.0
        (λ d digit. ap (λ c. taken (if c then To (pos.Half from to (hex_value d)) else end_turn from to d) whole) digit)
        ∙ run_hex bs (with ++ b ∷ []) all.1
        ∙ ap (λ xs. Some (at_place edits xs (pos.Whole from to))) (append_assoc with (b ∷ []) bs)

    run_with : (with : List ℕ) → AllByRecursion IsByte with
        → run step (at_place edits [] (pos.With from to)) (with_text with ++ 10 ∷ [])
        ≡ Some (at_place (edits ++ (record { from = from; to = to; with = with }) ∷ []) [] pos.Line)
    run_with [] all = refl
    run_with (b ∷ bs) all =
        let before = at_place edits [] (pos.With from to) in
        run_on step before (at_place edits (b ∷ bs) (pos.Whole from to)) (hex (b ∷ bs)) (10 ∷ [])
        (run_byte before [] b (hex bs) all.0
        (λ d digit. ap (λ c. taken (if c then To (pos.Half from to (hex_value d)) else (if d == 45 then To (pos.Nothing from to) else Stuck)) before) digit)
        ∙ run_hex bs (b ∷ []) all.1)

-- ---- lines

run_line : (edits : List Edit) (e : Edit) → IsEdit e → run step (at_place edits [] pos.Line) (line e) ≡ Some (at_place (edits ++ e ∷ []) [] pos.Line)
run_line edits e is =
    run_on step (at_place edits [] pos.Line) (at_place edits [] (pos.With e.from e.to)) (places_text e.from e.to) (with_text e.with ++ 10 ∷ [])
    (run_places edits e.from e.to is.from is.to)
    ∙ run_with edits e.from e.to e.with is.with_bytes

run_lines : (more edits : List Edit) → AreEdits more → run step (at_place edits [] pos.Line) (script_text more) ≡ Some (at_place (edits ++ more) [] pos.Line)
run_lines [] edits all = ap (λ es. Some (at_place es [] pos.Line)) (sym (append-nil edits))
run_lines (e ∷ more) edits all =
    run_on step (at_place edits [] pos.Line) (at_place (edits ++ e ∷ []) [] pos.Line) (line e) (script_text more) (run_line edits e all.0)
    ∙ run_lines more (edits ++ e ∷ []) all.1
    ∙ ap (λ es. Some (at_place es [] pos.Line)) (append_assoc edits (e ∷ []) more)

-- the script of edits leads from the start to the place before a line
pub script_ends : (edits : List Edit) → AreEdits edits → (end : State) × (run step start (script_text edits) ≡ Some end) × (ended end ≡ Some edits)
script_ends edits each = (at_place edits [] pos.Line, run_lines edits [] each, refl)
