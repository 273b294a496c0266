-- The bytes that a reader has taken begin a script, and are one where it may end.
use Rattle.std.proofs.Common.{◌≡◌, ℕ, ◌^◌, ◌<◌, List, [], ◌∷◌, ◌++◌, Some, refl, ap, ◌∙◌}
use Rattle.std.proofs.Common.{sym, subst, arith, append_assoc, append-nil, decimal}
use Rattle.std.proofs.lemmas.Option.{none-some, same_Some}
use Rattle.ipg_reader.specs.Faults.{Continues}
use Rattle.ipg_edit_script.specs.declared.script.Edit.{Edit}
use Rattle.ipg_edit_script.specs.declared.pos.Pos.{Pos}
use Rattle.ipg_edit_script.specs.declared.pos.Pos.TheVariants as pos
use Rattle.ipg_edit_script.specs.Scripts.{hex_digit, hex, places_text, line, script_text, IsByte, IsEdit, AreEdits}
use Rattle.ipg_edit_script.specs.Reader.{byte_of, State, ended_at, ended}
use Rattle.ipg_edit_script.proofs.Digits.{are_of}
use Rattle.ipg_edit_script.proofs.Spelled.{script_push, hex_push, with_hex, ArePlaces, Bytes, IsSound, all_push, some_more}

-- a script goes on from the bytes, or is all of them
abbrev pub GoesOn : List ℕ → Type 0
GoesOn bytes = Continues AreEdits script_text bytes

-- with some bytes more the line at hand is whole
goes_on : (edits : List Edit) (e : Edit) (words at_hand rest : List ℕ) → AreEdits edits → IsEdit e → words ≡ script_text edits ++ at_hand
    → at_hand ++ rest ≡ line e → GoesOn words
goes_on edits e words at_hand rest all is spelled whole = (
  edits ++ e ∷ [],
  rest,
  all_push IsEdit edits e all is,
  script_push edits e ∙ ap (λ xs. script_text edits ++ xs) (sym whole) ∙ sym (append_assoc (script_text edits) at_hand rest)
      ∙ ap (λ ws. ws ++ rest) (sym spelled),
)

small_zero : 0 < 2 ^ 32
small_zero = omega arith

-- the rest of a line of no bytes
abbrev bare : List ℕ
bare = 45 ∷ 10 ∷ []

abbrev edit_of : ℕ → ℕ → List ℕ → Edit
edit_of from to with = record { from = from; to = to; with = with }

is_edit : (from to : ℕ) (with : List ℕ) → ArePlaces from to → Bytes with → IsEdit (edit_of from to with)
is_edit from to with places bytes = record { from = places.0; to = places.1; with_bytes = bytes }

-- what stands behind the second place
behind : (from to : ℕ) (more : List ℕ) → (decimal from ++ 32 ∷ decimal to) ++ 32 ∷ more ≡ places_text from to ++ more
behind from to more =
    append_assoc (decimal from) (32 ∷ decimal to) (32 ∷ more)
    ∙ ap (λ xs. decimal from ++ 32 ∷ xs) (sym (append_assoc (decimal to) (32 ∷ []) more))
    ∙ sym (append_assoc (decimal from) (32 ∷ (decimal to ++ 32 ∷ [])) more)

-- what stands behind the first
behind_first : (from : ℕ) (more : List ℕ) → decimal from ++ 32 ∷ (decimal 0 ++ 32 ∷ more) ≡ places_text from 0 ++ more
behind_first from more = sym (append_assoc (decimal from) (32 ∷ decimal 0) (32 ∷ more)) ∙ behind from 0 more

begun : (edits : List Edit) (with words : List ℕ) (p : Pos) → IsSound (record { edits = edits; with = with; at = p }) words → GoesOn words
begun edits with words pos.Line sound = (edits, [], sound.each, sym (append-nil words ∙ sound.spelled ∙ append-nil (script_text edits)))
begun edits with words (pos.From k) sound =
    goes_on edits (edit_of k 0 []) words (decimal k) (32 ∷ (decimal 0 ++ 32 ∷ bare)) sound.each (is_edit k 0 [] (sound.at.1, small_zero) tt)
    sound.spelled (behind_first k bare)
begun edits with words (pos.Gap from) sound =
    goes_on edits (edit_of from 0 []) words (decimal from ++ 32 ∷ []) (decimal 0 ++ 32 ∷ bare) sound.each
    (is_edit from 0 [] (sound.at.1, small_zero) tt) sound.spelled
    (append_assoc (decimal from) (32 ∷ []) (decimal 0 ++ 32 ∷ bare) ∙ behind_first from bare)
begun edits with words (pos.To from k) sound =
    goes_on edits (edit_of from k []) words (decimal from ++ 32 ∷ decimal k) (32 ∷ bare) sound.each (is_edit from k [] sound.at.1 tt)
    sound.spelled (behind from k bare)
begun edits with words (pos.With from to) sound =
    goes_on edits (edit_of from to []) words (places_text from to) bare sound.each (is_edit from to [] sound.at.1 tt) sound.spelled refl
begun edits with words (pos.Nothing from to) sound =
    goes_on edits (edit_of from to []) words (places_text from to ++ 45 ∷ []) (10 ∷ []) sound.each (is_edit from to [] sound.at.1 tt) sound.spelled
    (append_assoc (places_text from to) (45 ∷ []) (10 ∷ []))
begun edits with words (pos.Whole from to) sound =
    goes_on edits (edit_of from to with) words (places_text from to ++ hex with) (10 ∷ []) sound.each (is_edit from to with sound.at.1 sound.at.0)
    sound.spelled
    (append_assoc (places_text from to) (hex with) (10 ∷ []) ∙ ap (λ xs. places_text from to ++ (xs ++ 10 ∷ [])) (sym (with_hex with sound.at.2)))
begun edits with words (pos.Half from to high) sound =
    let zero_small : 0 < 16 = omega arith in
    let byte = byte_of high 0 in
    let more = with ++ byte ∷ [] in
    goes_on edits (edit_of from to more) words (places_text from to ++ (hex with ++ hex_digit high ∷ [])) (48 ∷ 10 ∷ []) sound.each
    (is_edit from to more sound.at.1 (all_push IsByte with byte sound.at.0 (are_of high 0 sound.at.2 zero_small).small)) sound.spelled
    (append_assoc (places_text from to) (hex with ++ hex_digit high ∷ []) (48 ∷ 10 ∷ [])
    ∙ ap (λ xs. places_text from to ++ xs) (append_assoc (hex with) (hex_digit high ∷ []) (48 ∷ 10 ∷ [])
    ∙ sym (append_assoc (hex with) (hex_digit high ∷ 48 ∷ []) (10 ∷ []))
    ∙ ap (λ xs. xs ++ 10 ∷ []) (sym (hex_push with high 0 sound.at.2 zero_small) ∙ sym (with_hex more (some_more with byte)))))

pub sound_begins : (st : State) (words : List ℕ) → IsSound st words → GoesOn words
sound_begins st words sound = begun st.edits st.with words st.at sound

script_at : (edits : List Edit) (with words : List ℕ) (p : Pos) (found : List Edit) → IsSound (record { edits = edits; with = with; at = p }) words
    → ended_at p (record { edits = edits; with = with; at = p }) ≡ Some found → AreEdits found × (words ≡ script_text found)
script_at edits with words pos.Line found sound e =
    subst (λ es. AreEdits es × (words ≡ script_text es)) (same_Some edits found e) (sound.each, sound.spelled ∙ append-nil (script_text edits))
script_at edits with words (pos.From k) found sound e = absurd (none-some found e)
script_at edits with words (pos.Gap from) found sound e = absurd (none-some found e)
script_at edits with words (pos.To from k) found sound e = absurd (none-some found e)
script_at edits with words (pos.With from to) found sound e = absurd (none-some found e)
script_at edits with words (pos.Nothing from to) found sound e = absurd (none-some found e)
script_at edits with words (pos.Whole from to) found sound e = absurd (none-some found e)
script_at edits with words (pos.Half from to high) found sound e = absurd (none-some found e)

pub sound_ends : (st : State) (words : List ℕ) (found : List Edit) → IsSound st words → ended st ≡ Some found
    → AreEdits found × (words ≡ script_text found)
sound_ends st words found sound e = script_at st.edits st.with words st.at found sound e
