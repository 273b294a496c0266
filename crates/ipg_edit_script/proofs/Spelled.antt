-- The bytes that a reader has taken, and one byte more.
use Rattle.std.proofs.Common.{◌≡◌, ℕ, ◌+◌, ◌*◌, ◌%◌, ◌^◌, ◌<◌, ◌≤◌, true, ◌==◌}
use Rattle.std.proofs.Common.{List, [], ◌∷◌, ◌++◌, length, Option, Some, None, refl, ap, ◌∙◌, sym, subst, arith}
use Rattle.std.proofs.Common.{append_assoc, append-nil, length-append, decimal, if◌then◌else◌}
use Rattle.std.specs.List.{AllByRecursion}
use Rattle.std.proofs.lemmas.Bool.{cond_both, eqb-true}
use Rattle.std.proofs.lemmas.List.{flat_map_more}
use Rattle.ipg_reader.specs.Digits.{is_digit, digit_value, one_digit, small_digit}
use Rattle.ipg_reader.specs.Stepwise.{OnStep}
use Rattle.ipg_edit_script.specs.declared.script.Edit.{Edit}
use Rattle.ipg_edit_script.specs.declared.pos.Pos.{Pos}
use Rattle.ipg_edit_script.specs.declared.pos.Pos.TheVariants as pos
use Rattle.ipg_edit_script.specs.declared.pos.ScriptTurn.TheVariants.{Stuck, To, Add, End}
use Rattle.ipg_edit_script.specs.Scripts.{hex_digit, byte_text, hex, with_text, places_text, line, script_text, IsByte, IsEdit, AreEdits}
use Rattle.ipg_edit_script.specs.Reader.{is_hex, hex_value, byte_of, grown, counted, more_from, more_to, end_turn, State, taken, step}
use Rattle.ipg_edit_script.proofs.Digits.{IsMore, is_more, hex_of, are_of}

-- ---- texts

pub script_push : (edits : List Edit) (e : Edit) → script_text (edits ++ e ∷ []) ≡ script_text edits ++ line e
script_push edits e = sym (flat_map_more line [] edits e)

-- the byte of two digits, behind others
pub hex_push : (bytes : List ℕ) (high low : ℕ) → high < 16 → low < 16
    → hex (bytes ++ byte_of high low ∷ []) ≡ hex bytes ++ hex_digit high ∷ hex_digit low ∷ []
hex_push bytes high low first second =
    let are = are_of high low first second in
    sym (flat_map_more byte_text [] bytes (byte_of high low))
    ∙ ap (λ h. hex bytes ++ hex_digit h ∷ hex_digit (byte_of high low % 16) ∷ []) are.high
    ∙ ap (λ l. hex bytes ++ hex_digit high ∷ hex_digit l ∷ []) are.low

pub with_hex : (bytes : List ℕ) → 1 ≤ length bytes → with_text bytes ≡ hex bytes
with_hex [] some = absurd (let e : ⊥ = omega (arith, some) in e)
with_hex (b ∷ bs) some = refl

-- what is written of the line at hand
abbrev pub part : List ℕ → Pos → List ℕ
part with pos.Line = []
part with (pos.From k) = decimal k
part with (pos.Gap from) = decimal from ++ 32 ∷ []
part with (pos.To from k) = decimal from ++ 32 ∷ decimal k
part with (pos.With from to) = places_text from to
part with (pos.Nothing from to) = places_text from to ++ 45 ∷ []
part with (pos.Whole from to) = places_text from to ++ hex with
part with (pos.Half from to high) = places_text from to ++ (hex with ++ hex_digit high ∷ [])

-- ---- what holds on the way

abbrev pub ArePlaces : ℕ → ℕ → Type 0
ArePlaces from to = (from < 2 ^ 32) × (to < 2 ^ 32)

abbrev pub Bytes : List ℕ → Type 0
Bytes with = AllByRecursion IsByte with

abbrev pub IsAt : List ℕ → Pos → Type 0
IsAt with pos.Line = with ≡ []
IsAt with (pos.From k) = (with ≡ []) × (k < 2 ^ 32)
IsAt with (pos.Gap from) = (with ≡ []) × (from < 2 ^ 32)
IsAt with (pos.To from k) = (with ≡ []) × ArePlaces from k
IsAt with (pos.With from to) = (with ≡ []) × ArePlaces from to
IsAt with (pos.Nothing from to) = (with ≡ []) × ArePlaces from to
IsAt with (pos.Whole from to) = Bytes with × ArePlaces from to × (1 ≤ length with)
IsAt with (pos.Half from to high) = Bytes with × ArePlaces from to × (high < 16)

pub record IsSound (st : State) (words : List ℕ) : Type 0 where
  pub spelled : words ≡ script_text st.edits ++ part st.with st.at
  pub each : AreEdits st.edits
  pub at : IsAt st.with st.at

-- ---- one byte more

pub all_push : {A : Type 0} (P : A → Type 0) (xs : List A) (x : A) → AllByRecursion P xs → P x → AllByRecursion P (xs ++ x ∷ [])
all_push P [] x all here = (here, tt)
all_push P (y ∷ xs) x all here = (all.0, all_push P xs x all.1 here)

pub some_more : (with : List ℕ) (b : ℕ) → 1 ≤ length (with ++ b ∷ [])
some_more with b = omega (arith, length-append with (b ∷ []))

pub no_bytes : (with : List ℕ) → with ≡ [] → Bytes with
no_bytes with e = subst Bytes (sym e) tt

module _ (edits : List Edit) (with : List ℕ) (p : Pos) (words : List ℕ)
    (sound : IsSound (record { edits = edits; with = with; at = p }) words) (b : ℕ) where
  abbrev here : State
  here = record { edits = edits; with = with; at = p }

  -- the line at hand goes on
  moved : (more : List ℕ) (q : Pos) → IsAt more q → part with p ++ b ∷ [] ≡ part more q
      → IsSound (record { edits = edits; with = more; at = q }) (words ++ b ∷ [])
  moved more q at e = record {
    spelled = ap (λ ws. ws ++ b ∷ []) sound.spelled ∙ append_assoc (script_text edits) (part with p) (b ∷ []) ∙ ap (λ xs. script_text edits ++ xs) e;
    each = sound.each;
    at = at;
  }

  -- a number goes on
  number_on : (q : ℕ → Pos) (k : ℕ) → is_digit b ≡ true
      → ((v : ℕ) → v < 2 ^ 32 → decimal k ++ b ∷ [] ≡ decimal v → IsSound (record { edits = edits; with = with; at = q v }) (words ++ b ∷ []))
      → OnStep IsSound (taken (counted q (grown k (k * 10 + digit_value b))) here) (words ++ b ∷ [])
  number_on q k digit go = by_more (grown k (k * 10 + digit_value b)) (is_more k b digit)
    where
      by_more : (o : Option ℕ) → IsMore k b o → OnStep IsSound (taken (counted q o) here) (words ++ b ∷ [])
      by_more None is = tt
      by_more (Some v) is = go v is.0 is.1

  -- the line at hand is whole
  ended_on : (from to : ℕ) → Bytes with → ArePlaces from to → part with p ≡ places_text from to ++ with_text with
      → OnStep IsSound (taken (end_turn from to b) here) (words ++ b ∷ [])
  ended_on from to bytes places e =
      let edit : Edit = record { from = from; to = to; with = with } in
      cond_both (b == 10) (End from to) Stuck (λ t. OnStep IsSound (taken t here) (words ++ b ∷ []))
      (λ is. record {
        spelled = ap (λ ws. ws ++ b ∷ []) sound.spelled ∙ append_assoc (script_text edits) (part with p) (b ∷ [])
            ∙ ap (λ xs. script_text edits ++ xs) (ap (λ xs. xs ++ b ∷ []) e ∙ append_assoc (places_text from to) (with_text with) (b ∷ [])
            ∙ ap (λ x. places_text from to ++ (with_text with ++ x ∷ [])) (eqb-true b 10 is))
            ∙ sym (script_push edits edit) ∙ sym (append-nil (script_text (edits ++ edit ∷ [])));
        each = all_push IsEdit edits edit sound.each (record { from = places.0; to = places.1; with_bytes = bytes });
        at = refl;
      })
      (λ none. tt)

abbrev After : List Edit → List ℕ → Pos → List ℕ → ℕ → Type 0
After edits with p words b = OnStep IsSound (step (record { edits = edits; with = with; at = p }) b) (words ++ b ∷ [])

pub step_sound : (edits : List Edit) (with words : List ℕ) (b : ℕ) (p : Pos) → IsSound (record { edits = edits; with = with; at = p }) words
    → After edits with p words b
step_sound edits with words b pos.Line sound =
    let st : State = record { edits = edits; with = with; at = pos.Line } in
    cond_both (is_digit b) (To (pos.From (digit_value b))) Stuck (λ t. OnStep IsSound (taken t st) (words ++ b ∷ []))
    (λ digit. moved edits with pos.Line words sound b with (pos.From (digit_value b)) (sound.at, small_digit b digit) (one_digit b digit))
    (λ none. tt)
step_sound edits with words b (pos.From k) sound =
    let st : State = record { edits = edits; with = with; at = pos.From k } in
    cond_both (is_digit b) (more_from k b) (if b == 32 then To (pos.Gap k) else Stuck) (λ t. OnStep IsSound (taken t st) (words ++ b ∷ []))
    (λ digit. number_on edits with (pos.From k) words sound b pos.From k digit
    (λ v small e. moved edits with (pos.From k) words sound b with (pos.From v) (sound.at.0, small) e))
    (λ other. cond_both (b == 32) (To (pos.Gap k)) Stuck (λ t. OnStep IsSound (taken t st) (words ++ b ∷ []))
    (λ is. moved edits with (pos.From k) words sound b with (pos.Gap k) sound.at (ap (λ x. decimal k ++ x ∷ []) (eqb-true b 32 is)))
    (λ none. tt))
step_sound edits with words b (pos.Gap from) sound =
    let st : State = record { edits = edits; with = with; at = pos.Gap from } in
    cond_both (is_digit b) (To (pos.To from (digit_value b))) Stuck (λ t. OnStep IsSound (taken t st) (words ++ b ∷ []))
    (λ digit. moved edits with (pos.Gap from) words sound b with (pos.To from (digit_value b))
    (sound.at.0, (sound.at.1, small_digit b digit))
    (append_assoc (decimal from) (32 ∷ []) (b ∷ []) ∙ ap (λ ds. decimal from ++ 32 ∷ ds) (one_digit b digit)))
    (λ none. tt)
step_sound edits with words b (pos.To from k) sound =
    let st : State = record { edits = edits; with = with; at = pos.To from k } in
    cond_both (is_digit b) (more_to from k b) (if b == 32 then To (pos.With from k) else Stuck) (λ t. OnStep IsSound (taken t st) (words ++ b ∷ []))
    (λ digit. number_on edits with (pos.To from k) words sound b (pos.To from) k digit
    (λ v small e. moved edits with (pos.To from k) words sound b with (pos.To from v) (sound.at.0, (sound.at.1.0, small))
    (append_assoc (decimal from) (32 ∷ decimal k) (b ∷ []) ∙ ap (λ ds. decimal from ++ 32 ∷ ds) e)))
    (λ other. cond_both (b == 32) (To (pos.With from k)) Stuck (λ t. OnStep IsSound (taken t st) (words ++ b ∷ []))
    (λ is. moved edits with (pos.To from k) words sound b with (pos.With from k) sound.at
    (append_assoc (decimal from) (32 ∷ decimal k) (b ∷ []) ∙ ap (λ x. decimal from ++ 32 ∷ (decimal k ++ x ∷ [])) (eqb-true b 32 is)))
    (λ none. tt))
step_sound edits with words b (pos.With from to) sound =
    let st : State = record { edits = edits; with = with; at = pos.With from to } in
    cond_both (is_hex b) (To (pos.Half from to (hex_value b))) (if b == 45 then To (pos.Nothing from to) else Stuck)
    (λ t. OnStep IsSound (taken t st) (words ++ b ∷ []))
    (λ digit.
    let is = hex_of b digit in
    moved edits with (pos.With from to) words sound b with (pos.Half from to (hex_value b)) (no_bytes with sound.at.0, sound.at.1, is.small)
    (ap (λ x. places_text from to ++ x ∷ []) (sym is.written)
    ∙ ap (λ bytes. places_text from to ++ (hex bytes ++ hex_digit (hex_value b) ∷ [])) (sym sound.at.0)))
    (λ other. cond_both (b == 45) (To (pos.Nothing from to)) Stuck (λ t. OnStep IsSound (taken t st) (words ++ b ∷ []))
    (λ is. moved edits with (pos.With from to) words sound b with (pos.Nothing from to) sound.at
    (ap (λ x. places_text from to ++ x ∷ []) (eqb-true b 45 is)))
    (λ none. tt))
step_sound edits with words b (pos.Nothing from to) sound =
    ended_on edits with (pos.Nothing from to) words sound b from to (no_bytes with sound.at.0) sound.at.1
    (ap (λ bytes. places_text from to ++ with_text bytes) (sym sound.at.0))
step_sound edits with words b (pos.Whole from to) sound =
    let st : State = record { edits = edits; with = with; at = pos.Whole from to } in
    cond_both (is_hex b) (To (pos.Half from to (hex_value b))) (end_turn from to b) (λ t. OnStep IsSound (taken t st) (words ++ b ∷ []))
    (λ digit.
    let is = hex_of b digit in
    moved edits with (pos.Whole from to) words sound b with (pos.Half from to (hex_value b)) (sound.at.0, sound.at.1, is.small)
    (append_assoc (places_text from to) (hex with) (b ∷ []) ∙ ap (λ x. places_text from to ++ (hex with ++ x ∷ [])) (sym is.written)))
    (λ other. ended_on edits with (pos.Whole from to) words sound b from to sound.at.0 sound.at.1
    (ap (λ bytes. places_text from to ++ bytes) (sym (with_hex with sound.at.2))))
step_sound edits with words b (pos.Half from to high) sound =
    let st : State = record { edits = edits; with = with; at = pos.Half from to high } in
    let byte = byte_of high (hex_value b) in
    cond_both (is_hex b) (Add byte (pos.Whole from to)) Stuck (λ t. OnStep IsSound (taken t st) (words ++ b ∷ []))
    (λ digit.
    let is = hex_of b digit in
    moved edits with (pos.Half from to high) words sound b (with ++ byte ∷ []) (pos.Whole from to)
    (all_push IsByte with byte sound.at.0 (are_of high (hex_value b) sound.at.2 is.small).small, sound.at.1, some_more with byte)
    (append_assoc (places_text from to) (hex with ++ hex_digit high ∷ []) (b ∷ [])
    ∙ ap (λ xs. places_text from to ++ xs) (append_assoc (hex with) (hex_digit high ∷ []) (b ∷ [])
    ∙ ap (λ x. hex with ++ hex_digit high ∷ x ∷ []) (sym is.written)
    ∙ sym (hex_push with high (hex_value b) sound.at.2 is.small))))
    (λ none. tt)
