-- What `table` writes of a grammar, `load` reads as that grammar.
use Rattle.std.proofs.Common.{◌≡◌, ℕ, ◌≤◌, inl, inr, List, length, Bool, true, false, Result, Ok, Err, refl, sym, ap, ◌∙◌, subst}
use Rattle.std.proofs.Common.{arith, nat_le}
use Rattle.std.specs.Prelude.{◌↔◌, if◌then◌else◌}
use Rattle.std.proofs.lemmas.Bool.Decides.{nat_tests}
use Rattle.ipg_outside.specs.Files.{Told, absent, holds, MayHold}
use Rattle.ipg_core.specs.Grammar.{Grammar}
use Rattle.ipg_proof.specs.Worth.{ProvesIsAccepted}
use Rattle.ipg_store.specs.Laws.{LoadOnce}
use Rattle.ipg_store.specs.File.{Holds}
use Rattle.ipg_app_text.specs.Said.{Said, done}
use Rattle.ipg_app_text.specs.CoreOf.{Answer}
use Rattle.ipg_app_text.specs.Order.{Order, Answers, have}
use Rattle.ipg_app_text.specs.Steps.{input_in, max_input}
use Rattle.ipg_app_grammar.specs.Checks.{Checks}
use Rattle.ipg_app_grammar.specs.Tables.{Loads, Tables}
use Rattle.ipg_app_tree.specs.declared.show.Show.TheVariants.{Lines}
use Rattle.ipg_app.specs.Reply.{load, load_in, parse, parse_input}
use Rattle.ipg_app.specs.Laws.{OneCheck, TableIsLoaded}
use Rattle.ipg_app.proofs.OneReply.{loads_same}

clash : (bytes : List ℕ) → holds bytes ≡ absent → ⊥
clash bytes e = cc

within_is : (n : ℕ) → n ≤ max_input → nat_le n max_input ≡ true
within_is n h = grind (arith, nat_tests)

as_input : (b : Bool) (bytes : List ℕ) (other : Said) → b ≡ true → (if b then Ok bytes else Err other) ≡ Ok bytes
as_input true bytes other e = refl
as_input false bytes other e = absurd (cc)

module _ (once : LoadOnce) (one_check : OneCheck) (accepted : ProvesIsAccepted) (g : Grammar) (file : List ℕ) (made : Tables g (done file))
    (told : List ℕ → Told) (input : List ℕ) where
  same_file : made.file ≡ file
  same_file = sym (ap (λ (s : Said). s.text) made.is)

  held : Loads file (Ok g)
  held = (made.certificate, subst (λ bytes. Holds bytes g made.certificate) same_file made.holds)

  checks : Checks g (Ok g)
  checks = (refl, accepted g made.certificate made.holds.proves)

  -- behind what is found of the file or of the grammar the input is read
  loaded : (said : Said) → Answers told (load_in input file) said → Answers told (parse_input Lines input g) said
  loaded said (answer, loads, answers) =
      subst (λ a. Answers told (have a (parse_input Lines input)) said) (loads_same once file answer (Ok g) loads held) answers

  parsed : (said : Said) → Answers told (parse Lines input g) said → Answers told (parse_input Lines input g) said
  parsed said (answer, found, answers) =
      subst (λ (a : Answer). Answers told (have a (parse_input Lines input)) said) (one_check g answer (Ok g) found checks) answers

  module _ (name : List ℕ) (within : length file ≤ max_input) (tells : told name ≡ holds file) where
    input_is : input_in file ≡ Ok file
    input_is = as_input (nat_le (length file) max_input) file _ (within_is (length file) within)

    from_file : (said : Said) → Answers told (load name input) said → Answers told (load_in input file) said
    from_file said (inl missing) = absurd (clash file (sym tells ∙ missing.0))
    from_file said (inr (bytes, may, answers)) =
        let same : bytes ≡ file = subst (λ t. MayHold t bytes) tells may in
        let of_file = subst (λ these. Answers told (have (input_in these) (load_in input)) said) same answers in
        subst (λ (r : Result (List ℕ) Said). Answers told (have r (load_in input)) said) input_is of_file

    of_file : (said : Said) → Answers told (load_in input file) said → Answers told (load name input) said
    of_file said answers =
        inr (
          file,
          subst (λ t. MayHold t file) (sym tells) refl,
          subst (λ (r : Result (List ℕ) Said). Answers told (have r (load_in input)) said) (sym input_is) answers,
        )

    both : (said : Said) → Answers told (load name input) said ↔ Answers told (parse Lines input g) said
    both said = (
      λ answers. (Ok g, checks, loaded said (from_file said answers)),
      λ answers. of_file said (Ok g, held, parsed said answers),
    )

pub table_is_loaded : LoadOnce → OneCheck → ProvesIsAccepted → TableIsLoaded
table_is_loaded once one_check accepted g file made within told name input said tells =
    both once one_check accepted g file made told input name within tells said
