-- What is settled, step by step.
use Rattle.std.proofs.Common.{◌≡◌, ℕ, ◌≤◌, ◌<◌, ◌^◌, inl, inr, List, length, true, cond, nat_le, Result, Ok, Err, Option, Some, None, refl, sym}
use Rattle.std.proofs.Common.{subst, ap, ◌∙◌, arith}
use Rattle.std.proofs.lemmas.Bool.Decides.{nat_tests}
use Rattle.ipg_outside.specs.Files.{Told, MayHold}
use Rattle.ipg_ast.specs.declared.grammar.Grammar as written
use Rattle.ipg_app_text.specs.Said.{Said, too_large}
use Rattle.ipg_core.specs.Grammar.{Grammar}
use Rattle.ipg_app_text.specs.CoreOf.{grammar_in, CoreOf}
use Rattle.ipg_app_grammar.specs.Checks.{Checks}
use Rattle.ipg_app_text.specs.Order.{Order, says, finds, reads, Answers, Turn, have}
use Rattle.ipg_formats.specs.declared.Kind.{Kind}
use Rattle.ipg_formats.specs.Names.{kind_of}
use Rattle.ipg_formats.specs.Text.{text_of}
use Rattle.ipg_app.specs.Reply.{path_in, script_in}
use Rattle.ipg_app_text.specs.Steps.{input_in, text_by, text_under, grammar_of, core_of, max_input}
use Rattle.ipg_app_grammar.specs.Commands.{accepted, held_in}
use Rattle.ipg_app.specs.Reply.{explain_by, explain_text, follow}
use Rattle.ipg_app_grammar.specs.Commands.{cleared}
use Rattle.ipg_app_grammar.specs.Explained.{Refuses, explained_said}
use Rattle.ipg_app_grammar.specs.Followed.{Cleared, Clears}
use Rattle.ipg_app_text.specs.Reasons.{Reason}
use Rattle.ipg_app_grammar.specs.Tables.{Loads}
use Rattle.ipg_query_path.specs.declared.path.Query.{Query}
use Rattle.ipg_app_tree.specs.Path.{ReadsPath}
use Rattle.ipg_edit_script.specs.declared.script.Edit.{Edit}
use Rattle.ipg_app_tree.specs.Editing.{ReadsScript}
use Rattle.ipg_app_text.specs.Settles.{Settles}
use Rattle.ipg_app_text.specs.declared.text.GrammarText.{GrammarText}
use Rattle.ipg_app_text.specs.declared.text.GrammarText.TheVariants as code
use Rattle.ipg_app_text.specs.Found.{FoundBy, FoundText, IsText, bytes_of, input_in_file, silence}
use Rattle.ipg_app_tree.proofs.Written.{later}

-- a text of so many bytes, or of too many
pub these_bytes : (text : GrammarText) (bytes these : List ℕ) → bytes_of text ≡ Some these → IsText text bytes → bytes ≡ these
these_bytes (code.BuiltIn kind) bytes these e is = cc
these_bytes (code.Read held) bytes these e is = cc
these_bytes code.TooLong bytes these e is = absurd (cc)

pub too_many : (text : GrammarText) (bytes : List ℕ) → bytes_of text ≡ None → IsText text bytes → 2 ^ 20 < length bytes
too_many (code.BuiltIn kind) bytes e is = absurd (cc)
too_many (code.Read held) bytes e is = absurd (cc)
too_many code.TooLong bytes e is = is

-- the bytes of a text that was found
abbrev bytes_by : (kind : Option Kind) (t : Told) (text : GrammarText) → FoundBy kind t text → List ℕ
bytes_by (Some kind) t text is = text_of kind
bytes_by None t text held = held.bytes

abbrev pub found_bytes : (told : List ℕ → Told) (name : List ℕ) (text : GrammarText) → FoundText told name text → List ℕ
found_bytes told name text found = bytes_by (kind_of name) (told name) text found

is_by : (kind : Option Kind) (t : Told) (text : GrammarText) (found : FoundBy kind t text) → IsText text (bytes_by kind t text found)
is_by (Some kind) t text is = is
is_by None t text held = held.is

pub found_is : (told : List ℕ → Told) (name : List ℕ) (text : GrammarText) (found : FoundText told name text) → IsText text (found_bytes told name text found)
found_is told name text found = is_by (kind_of name) (told name) text found

module _ (told : List ℕ → Told) (before after : List ℕ → ℕ) where
  abbrev Settled : Order → Said → Type 0
  Settled = Settles told before after

  -- what a name holds leads on
  pub goes_on : (name : List ℕ) (next : List ℕ → Order) (said : Said) (bytes : List ℕ) → MayHold (told name) bytes → Settled (next bytes) said
      → Settled (reads name next) said
  goes_on name next said bytes held (inl a) = inl (inr (bytes, held, a))
  goes_on name next said bytes held (inr f) = inr (record { name = f.name; turn = inr (bytes, held, f.turn); rose = f.rose; is = f.is })

  -- the text under a name leads on
  pub text_on : (name : List ℕ) (next : List ℕ → Order) (said : Said) (text : GrammarText) (found : FoundText told name text)
      → Settled (next (found_bytes told name text found)) said → Settled (text_under name next) said
  text_on name next said text found h = by (kind_of name) found h
    where
      by : (kind : Option Kind) (found : FoundBy kind (told name) text) → Settled (next (bytes_by kind (told name) text found)) said
          → Settled (text_by kind name next) said
      by (Some kind) is h = h
      by None held h = goes_on name next said held.bytes held.held h

  -- what is said before any of a file is read
  unread_on : (name : List ℕ) (next : List ℕ → Order) (said : Said) → Settled (reads name (λ bytes. silence)) said → Settled (reads name next) said
  unread_on name next said (inl (inl a)) = inl (inl a)
  unread_on name next said (inl (inr (bytes, held, a))) = absurd a
  unread_on name next said (inr f) = by f.turn
    where
      by : Turn told (reads name (λ bytes. silence)) f.name → Settled (reads name next) said
      by (inl e) = inr (record { name = f.name; turn = inl e; rose = f.rose; is = f.is })
      by (inr (bytes, held, t)) = absurd t

  -- what is said before it is read
  pub no_text_on : (name : List ℕ) (next : List ℕ → Order) (said : Said) → Settled (text_under name (λ text. silence)) said
      → Settled (text_under name next) said
  no_text_on name next said = by (kind_of name)
    where
      by : (kind : Option Kind) → Settled (text_by kind name (λ text. silence)) said → Settled (text_by kind name next) said
      by (Some kind) (inl a) = absurd a
      by (Some kind) (inr f) = absurd f.turn
      by None h = unread_on name next said h

  -- what is said before an input is there
  pub no_input_on : (name : List ℕ) (next : List ℕ → Order) (said : Said) → Settled (input_in_file name (λ input. silence)) said
      → Settled (input_in_file name next) said
  no_input_on name next said (inl (inl a)) = inl (inl a)
  no_input_on name next said (inl (inr (bytes, held, a))) = by (input_in bytes) refl a
    where
      by : (r : Result (List ℕ) Said) → input_in bytes ≡ r → Answers told (have r (λ input. silence)) said → Settled (input_in_file name next) said
      by (Ok b) e a = absurd a
      by (Err x) e a = inl (inr (bytes, held, subst (λ r. Answers told (have r next) said) (sym e) a))
  no_input_on name next said (inr f) = by f.turn
    where
      none : (r : Result (List ℕ) Said) (n : List ℕ) → Turn told (have r (λ input. silence)) n → ⊥
      none (Ok g) n t = t
      none (Err x) n t = t

      by : Turn told (input_in_file name (λ input. silence)) f.name → Settled (input_in_file name next) said
      by (inl e) = inr (record { name = f.name; turn = inl e; rose = f.rose; is = f.is })
      by (inr (bytes, held, t)) = absurd (none (input_in bytes) f.name t)

  pub cleared_on : (name text : List ℕ) (next : Cleared → Order) (said : Said) (made : Cleared) → Clears text (Ok made) → Settled (next made) said
      → Settled (cleared name text next) said
  cleared_on name text next said made h (inl a) = inl (Ok made, h, a)
  cleared_on name text next said made h (inr f) = inr (record { name = f.name; turn = (Ok made, h, f.turn); rose = f.rose; is = f.is })

  pub not_cleared : (name text : List ℕ) (next : Cleared → Order) (said : Said) (reason : Reason) → Clears text (Err reason)
      → said ≡ explained_said name text (Some reason) → Settled (cleared name text next) said
  not_cleared name text next said reason h is = inl (Err reason, h, is)

  refused_text : (name input text : List ℕ) (said : Said) → Refuses name text said → Settled (explain_text name input text) said
  refused_text name input text said (reason, h, is) = not_cleared name text (follow name text input) said reason h is

  pub refused_by : (name : List ℕ) (input : Option (List ℕ)) (text : List ℕ) (said : Said) → Refuses name text said
      → Settled (explain_by name input text) said
  refused_by name None text said (reason, h, is) = inl (Some reason, h, is)
  refused_by name (Some input) text said h = refused_text name input text said h

  -- the path of a text leads on
  pub path_goes_on : (text : List ℕ) (next : Query → Order) (said : Said) (path : Query) → ReadsPath text (Ok path) → Settled (next path) said
      → Settled (path_in text next) said
  path_goes_on text next said path h (inl a) = inl (Ok path, h, a)
  path_goes_on text next said path h (inr f) = inr (record { name = f.name; turn = (Ok path, h, f.turn); rose = f.rose; is = f.is })

  pub no_path : (text : List ℕ) (next : Query → Order) (said : Said) → ReadsPath text (Err said) → Settled (path_in text next) said
  no_path text next said h = inl (Err said, h, refl)

  -- the edits of a script lead on
  pub script_goes_on : (text : List ℕ) (next : List Edit → Order) (said : Said) (edits : List Edit) → ReadsScript text (Ok edits) → Settled (next edits) said
      → Settled (script_in text next) said
  script_goes_on text next said edits h (inl a) = inl (Ok edits, h, a)
  script_goes_on text next said edits h (inr f) = inr (record { name = f.name; turn = (Ok edits, h, f.turn); rose = f.rose; is = f.is })

  pub no_script : (text : List ℕ) (next : List Edit → Order) (said : Said) → ReadsScript text (Err said) → Settled (script_in text next) said
  no_script text next said h = inl (Err said, h, refl)

  -- the grammar of a table file leads on
  pub held_goes_on : (file : List ℕ) (next : Grammar → Order) (said : Said) (g : Grammar) → Loads file (Ok g) → Settled (next g) said
      → Settled (held_in file next) said
  held_goes_on file next said g h (inl a) = inl (Ok g, h, a)
  held_goes_on file next said g h (inr f) = inr (record { name = f.name; turn = (Ok g, h, f.turn); rose = f.rose; is = f.is })

  pub none_held : (file : List ℕ) (next : Grammar → Order) (said : Said) → Loads file (Err said) → Settled (held_in file next) said
  none_held file next said h = inl (Err said, h, refl)

  -- a step settles what is said
  pub settles_by : {A : Type 0} (r : Result A Said) (next : A → Order) (said x : Said) → r ≡ Err x → said ≡ x → Settled (have r next) said
  settles_by (Ok a) next said x e f = absurd (cc)
  settles_by (Err y) next said x e f = inl (let same : said ≡ y = cc in same)

  -- the grammar of a text leads on
  pub grammar_on : (text : List ℕ) (next : written.Grammar → Order) (said : Said) (g : written.Grammar) → grammar_in text ≡ Ok g → Settled (next g) said
      → Settled (grammar_of text next) said
  grammar_on text next said g is h = subst (λ r. Settled (have r next) said) (sym is) h

  pub no_grammar_on : (text : List ℕ) (next : written.Grammar → Order) (said : Said) → grammar_in text ≡ Err said → Settled (grammar_of text next) said
  no_grammar_on text next said is = settles_by (grammar_in text) next said said is refl

  -- the core grammar of a text leads on
  pub core_on : (text : List ℕ) (next : Grammar → Order) (said : Said) (g : Grammar) → CoreOf text (Ok g) → Settled (next g) said
      → Settled (core_of text next) said
  core_on text next said g is (inl a) = inl (Ok g, is, a)
  core_on text next said g is (inr f) = inr (record { name = f.name; turn = (Ok g, is, f.turn); rose = f.rose; is = f.is })

  pub no_core_on : (text : List ℕ) (next : Grammar → Order) (said : Said) → CoreOf text (Err said) → Settled (core_of text next) said
  no_core_on text next said is = inl (Err said, is, refl)

  -- parsing ends by the grammar
  pub accepted_on : (g same : Grammar) (next : Grammar → Order) (said : Said) → Checks g (Ok same) → Settled (next same) said
      → Settled (accepted g next) said
  accepted_on g same next said h (inl a) = inl (Ok same, h, a)
  accepted_on g same next said h (inr f) = inr (record { name = f.name; turn = (Ok same, h, f.turn); rose = f.rose; is = f.is })

  pub not_accepted : (g : Grammar) (next : Grammar → Order) (said : Said) → Checks g (Err said) → Settled (accepted g next) said
  not_accepted g next said h = inl (Err said, h, refl)

-- what is told stays, and no count falls
module _ (told then : List ℕ → Told) (same : (n : List ℕ) → then n ≡ told n) where
  answers_then : (order : Order) (said : Said) → Answers then order said → Answers told order said
  answers_then (says P) said a = a
  answers_then (finds P next) said a = (a.0, a.1, answers_then (next a.0) said a.2)
  answers_then (reads name next) said (inl a) = inl (sym (same name) ∙ a.0, a.1)
  answers_then (reads name next) said (inr a) =
      let P : Told → Type 0 = λ t. MayHold t a.0 in
      inr (a.0, subst P (same name) a.1, answers_then (next a.0) said a.2)

  turn_then : (order : Order) (name : List ℕ) → Turn then order name → Turn told order name
  turn_then (says P) name t = t
  turn_then (finds P next) name t = (t.0, t.1, turn_then (next t.0) name t.2)
  turn_then (reads read next) name (inl t) = inl t
  turn_then (reads read next) name (inr t) =
      let P : Told → Type 0 = λ x. MayHold x t.0 in
      inr (t.0, subst P (same read) t.1, turn_then (next t.0) name t.2)

  pub settles_then : (before between after : List ℕ → ℕ) (order : Order) (said : Said) → ((n : List ℕ) → before n ≤ between n)
      → Settles then between after order said → Settles told before after order said
  settles_then before between after order said counts (inl a) = inl (answers_then order said a)
  settles_then before between after order said counts (inr f) =
      inr (record { name = f.name; turn = turn_then order f.name f.turn; rose = later _ _ _ (counts f.name) f.rose; is = f.is })

-- an input that isn't too long
input_fits : (bytes : List ℕ) → length bytes ≤ max_input → input_in bytes ≡ Ok bytes
input_fits bytes h = ap (λ b. cond b (Ok bytes) (Err too_large)) (let e : nat_le (length bytes) max_input ≡ true = grind (arith, nat_tests) in e)

-- what a file holds that isn't too long leads on
pub read_goes_on : (told : List ℕ → Told) (before after : List ℕ → ℕ) (name : List ℕ) (next : List ℕ → Order) (said : Said) (bytes : List ℕ)
    → MayHold (told name) bytes → length bytes ≤ max_input → Settles told before after (next bytes) said
    → Settles told before after (input_in_file name next) said
read_goes_on told before after name next said bytes held fits h =
    goes_on told before after name (λ b. have (input_in b) next) said bytes held
    (subst (λ r. Settles told before after (have r next) said) (sym (input_fits bytes fits)) h)

pub read_on : (told : List ℕ → Told) (before after : List ℕ → ℕ) (name : List ℕ) (next : List ℕ → Order) (said : Said) (bytes : List ℕ)
    → MayHold (told name) bytes → length bytes ≤ max_input → Answers told (next bytes) said
    → Settles told before after (input_in_file name next) said
read_on told before after name next said bytes held fits a = read_goes_on told before after name next said bytes held fits (inl a)
