-- For words, and files of which something is told, the program says one thing, or two that prove one grammar.
use Rattle.std.proofs.Common.{◌≡◌, ◌≢◌, ℕ, suc, zero, ◌+◌, ◌<◌, ◌≤◌, ◌⊎◌, inl, inr}
use Rattle.std.proofs.Common.{List, [], ◌∷◌, ◌++◌, length, take, drop, Result, Ok, Err, Option, Some, None, refl, sym, ap, ◌∙◌, subst, arith, append_assoc}
use Rattle.ipg_core.specs.Grammar.{Grammar}
use Rattle.ipg_formats.specs.declared.Kind.{Kind}
use Rattle.ipg_formats.specs.Names.{kind_of}
use Rattle.ipg_formats.specs.Text.{text_of}
use Rattle.ipg_outside.specs.Files.{Told, untold, absent, holds, MayHold}
use Rattle.ipg_proof.specs.declared.certificate.Certificate.{Certificate}
use Rattle.ipg_proof.specs.declared.fault.ProofWhy.{ProofWhy}
use Rattle.ipg_proof.specs.declared.fault.ProofWhy.TheVariants.{Memory}
use Rattle.ipg_proof.specs.Once.{ProvesIsNoFault, FaultIsOne}
use Rattle.ipg_proof.specs.Texts as cert
use Rattle.ipg_proof.specs.Texts.{IsTextFault}
use Rattle.ipg_edit_script.specs.declared.script.Edit as scripts
use Rattle.ipg_edit_script.specs.Laws.{OneScript}
use Rattle.ipg_edit_script.specs.Scripts.{AreEdits, script_text}
use Rattle.ipg_reader.specs.Faults.{Continues, IsFirstFault}
use Rattle.ipg_query_path.specs.declared.path.Query as paths
use Rattle.ipg_query_path.specs.Laws.{OnePath}
use Rattle.ipg_query_path.specs.Paths.{path_text, FitsPath}
use Rattle.ipg_app_words.specs.Request as words
use Rattle.ipg_app_words.specs.Request.{Request, Use, Fmt, Trial, Query, View, Load, Explain, Formats, Help, Version, request_of}
use Rattle.ipg_app_tree.specs.declared.show.Show.{Show}
use Rattle.ipg_app_tree.specs.declared.show.Show.TheVariants.{Lines, Picked, Bytes, Json, PickedView}
use Rattle.ipg_app_tree.specs.declared.show.Show.TheVariants as show
use Rattle.ipg_app_grammar.specs.Certificate.{Certifies, Reads, Judges, cert_text, proof_said}
use Rattle.ipg_app_grammar.specs.Checks.{Checks}
use Rattle.ipg_app_tree.specs.Editing.{ReadsScript, Edits, edit_text}
use Rattle.ipg_app_text.specs.CoreOf.{CoreOf, grammar_in}
use Rattle.ipg_app.specs.Laws.{OneCore, OneCheck, OneParse, OneEdits, OneExplained, OneCleared, OneFollowed, OneTrial, OneReply, Alike, BothOf}
use Rattle.ipg_app_text.specs.Order.{Order, Answers, says, finds, reads, only, have}
use Rattle.ipg_app_tree.specs.Path.{ReadsPath, query_syntax}
use Rattle.ipg_app.specs.Reply.{Task, Parse, Check, Cert, Verify, Table, Cover, Edit, parse_input}
use Rattle.ipg_app_text.specs.Steps.{text_by, core_of, input_in}
use Rattle.ipg_app_grammar.specs.Commands.{accepted, judge, formatted}
use Rattle.ipg_app.specs.Reply.{installed, order_by, order_on, use_order, load_in, edit_file, edit_input, edits_of, explain_text, follow, trial_of, try_core}
use Rattle.ipg_app_tree.specs.Parses.{Parses}
use Rattle.ipg_app_grammar.specs.Explained.{Explains}
use Rattle.ipg_app_grammar.specs.Followed.{Cleared, Clears, Follows, or_told, subject}
use Rattle.ipg_app_grammar.specs.Helped.{formats_said, help_said, version_said}
use Rattle.ipg_app.specs.Trial.{kind_by, parts_in, Tries}
use Rattle.ipg_app_grammar.specs.Covering.{CoverSays, may_gap}
use Rattle.ipg_cover.specs.Laws.{CoveredHasNoGap, OneGap}
use Rattle.ipg_app_grammar.specs.Tables.{Loads, Tables, load_said}
use Rattle.ipg_store.specs.declared.fault.LoadFault.{LoadFault}
use Rattle.ipg_store.specs.declared.fault.LoadFault.TheVariants as none
use Rattle.ipg_store.specs.Laws.{LoadOnce}
use Rattle.ipg_read_tokens.specs.Shaped.{canonical_text}
use Rattle.std.specs.Prelude.{codes}
use Rattle.ipg_app_text.specs.Said.{Said, done, done_line, usage, read_fault}

-- ---- the first place at fault

begun : (k n : ℕ) (text : List ℕ) → k ≤ n → take n text ≡ take k text ++ drop k (take n text)
begun zero n text less = refl
begun (suc k) zero text less = absurd (omega (arith, less))
begun (suc k) (suc n) [] less = refl
begun (suc k) (suc n) (b ∷ text) less = ap (λ l. b ∷ l) (begun k n text (omega (arith, less)))

-- more of the text and what stands behind it is less of the text and what stands behind that
cut : (k n : ℕ) (text rest : List ℕ) → k ≤ n → take n text ++ rest ≡ take k text ++ (drop k (take n text) ++ rest)
cut k n text rest less = ap (λ l. l ++ rest) (begun k n text less) ∙ append_assoc (take k text) (drop k (take n text)) rest

order : (a b : ℕ) → (a ≡ b) ⊎ ((a < b) ⊎ (b < a))
order zero zero = inl refl
order zero (suc b) = inr (inl (omega arith))
order (suc a) zero = inr (inr (omega arith))
order (suc a) (suc b) = elim (order a b) [
  | inl e ↦ inl (ap suc e)
  | inr other ↦ elim other [ inl less ↦ inr (inl (omega (arith, less))) | inr more ↦ inr (inr (omega (arith, more))) ]
]

-- what goes on from more bytes goes on from fewer, so it stops at one place
module _ (GoesOn : List ℕ → Type 0) (text : List ℕ) (fewer : (k n : ℕ) → k ≤ n → GoesOn (take n text) → GoesOn (take k text)) where
  abbrev Stops : ℕ → Type 0
  Stops at = (at ≤ length text) × GoesOn (take at text) × (at < length text → ¬ GoesOn (take (at + 1) text))

  none_before : (a b : ℕ) → Stops a → Stops b → a < b → ⊥
  none_before a b (one, goes, stops) (within, begins, other) less = stops (omega (arith, less, within)) (fewer (a + 1) b (omega (arith, less)) begins)

  one_place : (a b : ℕ) → Stops a → Stops b → a ≡ b
  one_place a b p q = elim (order a b) [
    | inl e ↦ e
    | inr apart ↦ elim apart [ inl less ↦ absurd (none_before a b p q less) | inr more ↦ absurd (none_before b a q p more) ]
  ]

one_text_fault : (text : List ℕ) (a b : ℕ) → IsTextFault text a → IsTextFault text b → a ≡ b
one_text_fault text a b p q =
    one_place (λ bytes. (c : Certificate) × (rest : List ℕ) × cert.IsTextOf c (bytes ++ rest)) text
    (λ k n less (c, rest, is). (c, drop k (take n text) ++ rest, subst (cert.IsTextOf c) (cut k n text rest less) is))
    a b (p.within, p.before, p.there) (q.within, q.before, q.there)

one_fault : {A : Type 0} (Is : A → Type 0) (spell : A → List ℕ) (text : List ℕ) (a b : ℕ) → IsFirstFault Is spell text a
    → IsFirstFault Is spell text b → a ≡ b
one_fault Is spell text a b p q =
    one_place (Continues Is spell) text (λ k n less (x, rest, is, e). (x, drop k (take n text) ++ rest, is, e ∙ cut k n text rest less))
    a b (p.within, p.before, p.there) (q.within, q.before, q.there)

-- ---- what is found is one

reads_same : (text : List ℕ) (x y : Result Certificate Said) → Reads text x → Reads text y → x ≡ y
reads_same text (Ok c) (Ok d) p q = ap Ok (p.only d q.is)
reads_same text (Ok c) (Err said) p q = absurd (q.fault.ends c p.is)
reads_same text (Err said) (Ok d) p q = absurd (p.fault.ends d q.is)
reads_same text (Err one) (Err other) p q = ap Err (p.is ∙ ap cert_text (one_text_fault text p.at q.at p.fault q.fault) ∙ sym q.is)

path_same : OnePath → (text : List ℕ) (x y : Result paths.Query Said) → ReadsPath text x → ReadsPath text y → x ≡ y
path_same one_path text (Ok a) (Ok b) p q = ap Ok (one_path text a b p q)
path_same one_path text (Ok a) (Err said) p q = absurd (q.fault.ends a p.fits p.written)
path_same one_path text (Err said) (Ok b) p q = absurd (p.fault.ends b q.fits q.written)
path_same one_path text (Err one) (Err other) p q =
    ap Err (p.is ∙ ap query_syntax (one_fault FitsPath path_text text p.at q.at p.fault q.fault) ∙ sym q.is)

script_same : OneScript → (text : List ℕ) (x y : Result (List scripts.Edit) Said) → ReadsScript text x → ReadsScript text y → x ≡ y
script_same one_script text (Ok a) (Ok b) p q = ap Ok (one_script text a b p q)
script_same one_script text (Ok a) (Err said) p q = absurd (q.fault.ends a p.each p.written)
script_same one_script text (Err said) (Ok b) p q = absurd (p.fault.ends b q.each q.written)
script_same one_script text (Err one) (Err other) p q =
    ap Err (p.is ∙ ap edit_text (one_fault AreEdits script_text text p.at q.at p.fault q.fault) ∙ sym q.is)

unloaded : (fault : LoadFault) (said : Said) → fault ≡ none.Memory → load_said fault ≡ Some said → ⊥
unloaded fault said e is = let none = sym (ap load_said e) ∙ is in absurd (cc)

load_same : (fault other : LoadFault) (one two : Said) → fault ≡ other → load_said fault ≡ Some one → load_said other ≡ Some two → one ≡ two
load_same fault other one two e p q = let both : Some one ≡ Some two = sym p ∙ ap load_said e ∙ q in cc

pub loads_same : LoadOnce → (file : List ℕ) (x y : Result Grammar Said) → Loads file x → Loads file y → x ≡ y
loads_same once file (Ok g) (Ok h) p q = elim (once file (Ok g) (Ok h) p q) [
  | inl e ↦ absurd (cc)
  | inr more ↦ elim more [ inl e ↦ absurd (cc) | inr e ↦ cc ]
]
loads_same once file (Ok g) (Err said) p q = elim (once file (Ok g) (Err q.fault) p q.holds) [
  | inl e ↦ absurd (cc)
  | inr more ↦ elim more [ inl e ↦ absurd (unloaded q.fault said (cc) q.is) | inr e ↦ absurd (cc) ]
]
loads_same once file (Err said) (Ok h) p q = elim (once file (Err p.fault) (Ok h) p.holds q) [
  | inl e ↦ absurd (unloaded p.fault said (cc) p.is)
  | inr more ↦ elim more [ inl e ↦ absurd (cc) | inr e ↦ absurd (cc) ]
]
loads_same once file (Err one) (Err other) p q = elim (once file (Err p.fault) (Err q.fault) p.holds q.holds) [
  | inl e ↦ absurd (unloaded p.fault one (cc) p.is)
  | inr more ↦ elim more [ inl e ↦ absurd (unloaded q.fault other (cc) q.is) | inr e ↦ ap Err (load_same p.fault q.fault one other (cc) p.is q.is) ]
]

unsaid : (why : ProofWhy) (said : Said) → why ≡ Memory → proof_said why ≡ Some said → ⊥
unsaid why said e is = let none = sym (ap proof_said e) ∙ is in absurd (cc)

said_same : (why other : ProofWhy) (one two : Said) → why ≡ other → proof_said why ≡ Some one → proof_said other ≡ Some two → one ≡ two
said_same why other one two e p q = let both : Some one ≡ Some two = sym p ∙ ap proof_said e ∙ q in cc

judged_same : ProvesIsNoFault → FaultIsOne → (g : Grammar) (c : Certificate) (one other : Said) → Judges g c one → Judges g c other → one ≡ other
judged_same no_fault is_one g c one other (inl p) (inl q) = p.1 ∙ sym q.1
judged_same no_fault is_one g c one other (inl p) (inr f) = absurd (unsaid f.why other (no_fault g c f.why p.0 f.fault) f.is)
judged_same no_fault is_one g c one other (inr f) (inl p) = absurd (unsaid f.why one (no_fault g c f.why p.0 f.fault) f.is)
judged_same no_fault is_one g c one other (inr f) (inr h) = elim (is_one g c f.why h.why f.fault h.fault) [
  | inl e ↦ absurd (unsaid f.why one e f.is)
  | inr more ↦ elim more [ inl e ↦ absurd (unsaid h.why other e h.is) | inr e ↦ said_same f.why h.why one other e f.is h.is ]
]

covers_same : CoveredHasNoGap → OneGap → (g : Grammar) (one other : Said) → CoverSays g one → CoverSays g other → one ≡ other
covers_same no_gap one_gap g one other (inl p) (inl q) = p.is ∙ sym q.is
covers_same no_gap one_gap g one other (inl p) (inr q) = absurd (no_gap g p.refutations q.place q.at q.eoi p.covers q.gap)
covers_same no_gap one_gap g one other (inr p) (inl q) = absurd (no_gap g q.refutations p.place p.at p.eoi q.covers p.gap)
covers_same no_gap one_gap g one other (inr p) (inr q) =
    let same = one_gap g p.place q.place p.at p.eoi q.at q.eoi p.gap q.gap in
    p.is ∙ ap (λ place. may_gap g place p.at p.eoi) same.0 ∙ ap (λ at. may_gap g q.place at p.eoi) same.1 ∙ ap (may_gap g q.place q.at) same.2 ∙ sym q.is

-- ---- orders whose answers are alike

module _ (told : List ℕ → Told) (Like : Said → Said → Type 0) (equal : (one other : Said) → one ≡ other → Like one other) where
  abbrev AreLike : Order → Type 0
  AreLike order = (one other : Said) → Answers told order one → Answers told order other → Like one other

  like_only : (said : Said) → AreLike (only said)
  like_only said one other a b = equal one other (a ∙ sym b)

  like_have : {A : Type 0} (r : Result A Said) (next : A → Order) → ((a : A) → AreLike (next a)) → AreLike (have r next)
  like_have (Ok a) next each = each a
  like_have (Err said) next each = like_only said

  like_found : {A : Type 0} (P : A → Type 0) (next : A → Order) → ((x y : A) → P x → P y → x ≡ y) → ((a : A) → AreLike (next a)) → AreLike (finds P next)
  like_found P next same each one other (x, p, a) (y, q, b) =
      each x one other a (subst (λ z. Answers told (next z) other) (same y x q p) b)

  like_in : (t : Told) (next : List ℕ → Order) → t ≢ untold → ((bytes : List ℕ) → AreLike (next bytes)) → (one other : Said)
      → ((t ≡ absent) × (one ≡ read_fault)) ⊎ ((bytes : List ℕ) × MayHold t bytes × Answers told (next bytes) one)
      → ((t ≡ absent) × (other ≡ read_fault)) ⊎ ((bytes : List ℕ) × MayHold t bytes × Answers told (next bytes) other) → Like one other
  like_in untold next known each one other a b = absurd (known refl)
  like_in absent next known each one other (inl a) (inl b) = equal one other (a.1 ∙ sym b.1)
  like_in absent next known each one other (inl a) (inr b) = absurd b.1
  like_in absent next known each one other (inr a) b = absurd a.1
  like_in (holds bytes) next known each one other (inl a) b = absurd (cc)
  like_in (holds bytes) next known each one other (inr a) (inl b) = absurd (cc)
  like_in (holds bytes) next known each one other (inr a) (inr b) =
      each bytes one other (subst (λ these. Answers told (next these) one) a.1 a.2) (subst (λ these. Answers told (next these) other) b.1 b.2)

  like_read : (name : List ℕ) (next : List ℕ → Order) → told name ≢ untold → ((bytes : List ℕ) → AreLike (next bytes)) → AreLike (reads name next)
  like_read name next known each one other a b = like_in (told name) next known each one other a b

  like_text : (k : Option Kind) (name : List ℕ) (next : List ℕ → Order) → told name ≢ untold → ((text : List ℕ) → AreLike (next text))
      → AreLike (text_by k name next)
  like_text (Some kind) name next known each = each (text_of kind)
  like_text None name next known each = like_read name next known each

  module _ (one_core : OneCore) (one_check : OneCheck) (known : (name : List ℕ) → told name ≢ untold) where
    like_accepted : (g : Grammar) (next : Grammar → Order) → ((same : Grammar) → AreLike (next same)) → AreLike (accepted g next)
    like_accepted g next each =
        like_found (Checks g) (λ answer. have answer next) (one_check g) (λ answer. like_have answer next each)

    like_core_of : (text : List ℕ) (next : Grammar → Order) → ((g : Grammar) → AreLike (next g)) → AreLike (core_of text next)
    like_core_of text next each =
        like_found (CoreOf text) (λ answer. have answer next) (one_core text) (λ answer. like_have answer next each)

    like_use : (grammar : List ℕ) (task : Task) → ((g : Grammar) → AreLike (order_by task g)) → AreLike (use_order grammar task)
    like_use grammar task each =
        like_text (kind_of grammar) grammar (λ text. core_of text (order_by task)) (known grammar)
        (λ text. like_core_of text (order_by task) each)

abbrev Same : Said → Said → Type 0
Same one other = one ≡ other

-- the same, or two things that are so of one grammar
abbrev SameOr : (Grammar → Said → Type 0) → Said → Said → Type 0
SameOr P one other = (one ≡ other) ⊎ BothOf P one other

same_or : (P : Grammar → Said → Type 0) (one other : Said) → one ≡ other → SameOr P one other
same_or P one other e = inl e

-- ---- orders that say one thing

abbrev IsNoCert : Task → Type 0
IsNoCert (Parse show input) = Unit {0}
IsNoCert Check = Unit {0}
IsNoCert Cert = ⊥
IsNoCert (Verify certificate) = Unit {0}
IsNoCert Table = ⊥
IsNoCert Cover = Unit {0}
IsNoCert (Edit input script) = Unit {0}

module _ (told : List ℕ → Told) where
  equal : (one other : Said) → one ≡ other → Same one other
  equal one other e = e

  abbrev IsOne : Order → Type 0
  IsOne order = (one other : Said) → Answers told order one → Answers told order other → one ≡ other

  one_only : (said : Said) → IsOne (only said)
  one_only said = like_only told Same equal said

  one_have : {A : Type 0} (r : Result A Said) (next : A → Order) → ((a : A) → IsOne (next a)) → IsOne (have r next)
  one_have r next each = like_have told Same equal r next each

  one_found : {A : Type 0} (P : A → Type 0) (next : A → Order) → ((x y : A) → P x → P y → x ≡ y) → ((a : A) → IsOne (next a)) → IsOne (finds P next)
  one_found P next same each = like_found told Same equal P next same each

  one_read : (name : List ℕ) (next : List ℕ → Order) → told name ≢ untold → ((bytes : List ℕ) → IsOne (next bytes)) → IsOne (reads name next)
  one_read name next known each = like_read told Same equal name next known each

  one_text : (k : Option Kind) (name : List ℕ) (next : List ℕ → Order) → told name ≢ untold → ((text : List ℕ) → IsOne (next text))
      → IsOne (text_by k name next)
  one_text k name next known each = like_text told Same equal k name next known each

  module _ (one_core : OneCore) (one_check : OneCheck) (one_parse : OneParse) (one_path : OnePath) (no_fault : ProvesIsNoFault) (is_one : FaultIsOne)
      (load_once : LoadOnce) (no_gap : CoveredHasNoGap) (one_gap : OneGap)
      (one_edits : OneEdits) (one_script : OneScript) (one_explained : OneExplained) (one_cleared : OneCleared) (one_followed : OneFollowed)
      (one_trial : OneTrial) (known : (name : List ℕ) → told name ≢ untold) where
    one_accepted : (g : Grammar) (next : Grammar → Order) → ((same : Grammar) → IsOne (next same)) → IsOne (accepted g next)
    one_accepted g next each = like_accepted told Same equal one_core one_check known g next each

    one_core_of : (text : List ℕ) (next : Grammar → Order) → ((g : Grammar) → IsOne (next g)) → IsOne (core_of text next)
    one_core_of text next each = like_core_of told Same equal one_core one_check known text next each

    one_judge : (text : List ℕ) (g : Grammar) → IsOne (judge text g)
    one_judge text g =
        one_found (Reads text) (λ read. have read (λ c. says (Judges g c))) (reads_same text)
        (λ read. one_have read (λ c. says (Judges g c)) (λ c one other a b. judged_same no_fault is_one g c one other a b))

    one_bytes : (bytes : List ℕ) (next : List ℕ → Order) → ((input : List ℕ) → IsOne (next input)) → IsOne (have (input_in bytes) next)
    one_bytes bytes next each = one_have (input_in bytes) next each

    one_parse_of : (show : Show) (input : List ℕ) (g : Grammar) → IsOne (parse_input show input g)
    one_parse_of show input g =
        one_read input (λ bytes. have (input_in bytes) (λ these. says (Parses show g these))) (known input)
        (λ bytes. one_bytes bytes (λ these. says (Parses show g these)) (one_parse show g))

    one_load : (file input : List ℕ) → IsOne (load_in input file)
    one_load file input =
        one_found (Loads file) (λ answer. have answer (parse_input Lines input)) (loads_same load_once file)
        (λ answer. one_have answer (parse_input Lines input) (one_parse_of Lines input))

    one_edits_of : (text : List ℕ) (g : Grammar) (input : List ℕ) → IsOne (edits_of text g input)
    one_edits_of text g input =
        one_found (ReadsScript text) (λ read. have read (λ edits. says (Edits g input edits))) (script_same one_script text)
        (λ read. one_have read (λ edits. says (Edits g input edits)) (one_edits g input))

    one_edit_input : (script : List ℕ) (g : Grammar) (input : List ℕ) → IsOne (edit_input script g input)
    one_edit_input script g input =
        one_read script (λ bytes. have (input_in bytes) (λ text. edits_of text g input)) (known script)
        (λ bytes. one_bytes bytes (λ text. edits_of text g input) (λ text. one_edits_of text g input))

    one_edit_file : (name script : List ℕ) (g : Grammar) → IsOne (edit_file name script g)
    one_edit_file name script g =
        one_read name (λ bytes. have (input_in bytes) (edit_input script g)) (known name)
        (λ bytes. one_bytes bytes (edit_input script g) (one_edit_input script g))

    one_task : (task : Task) (g : Grammar) → IsNoCert task → IsOne (order_by task g)
    one_task (Parse show input) g settled = one_accepted g (parse_input show input) (one_parse_of show input)
    one_task Check g settled = one_accepted g (λ same. only (done_line (codes "accepted"))) (λ same. one_only (done_line (codes "accepted")))
    one_task Cert g settled = absurd settled
    one_task (Verify certificate) g settled =
        one_read certificate (λ bytes. have (input_in bytes) (λ text. judge text g)) (known certificate)
        (λ bytes. one_bytes bytes (λ text. judge text g) (λ text. one_judge text g))
    one_task Table g settled = absurd settled
    one_task Cover g settled = one_accepted g (λ same. says (CoverSays same)) (λ same. covers_same no_gap one_gap same)
    one_task (Edit input script) g settled = one_accepted g (edit_file input script) (one_edit_file input script)

    one_follow : (name text input : List ℕ) (made : Cleared) → IsOne (follow name text input made)
    one_follow name text input made =
        one_read input (λ bytes. have (input_in bytes) (λ these. says (Follows (subject name text made.0 these) made.1))) (known input)
        (λ bytes. one_bytes bytes (λ these. says (Follows (subject name text made.0 these) made.1))
        (λ these. one_followed (subject name text made.0 these) made.1))

    one_explain : (name input text : List ℕ) → IsOne (explain_text name input text)
    one_explain name input text =
        one_found (Clears text) (λ answer. have (or_told name text answer) (follow name text input)) (one_cleared text)
        (λ answer. one_have (or_told name text answer) (follow name text input) (one_follow name text input))

    one_use : (grammar : List ℕ) (task : Task) → IsNoCert task → IsOne (use_order grammar task)
    one_use grammar task settled = like_use told Same equal one_core one_check known grammar task (λ g. one_task task g settled)

    -- what is written of an accepted grammar is so of it
    like_written : (P : Grammar → Said → Type 0) (g : Grammar) → AreLike told (SameOr P) (same_or P) (accepted g (λ same. says (P same)))
    like_written P g =
        like_accepted told (SameOr P) (same_or P) one_core one_check known g (λ same. says (P same)) (λ same one other p q. inr (same, p, q))

    like_cert : (grammar : List ℕ) → AreLike told (SameOr Certifies) (same_or Certifies) (use_order grammar Cert)
    like_cert grammar = like_use told (SameOr Certifies) (same_or Certifies) one_core one_check known grammar Cert (like_written Certifies)

    like_table : (grammar : List ℕ) → AreLike told (SameOr Tables) (same_or Tables) (use_order grammar Table)
    like_table grammar = like_use told (SameOr Tables) (same_or Tables) one_core one_check known grammar Table (like_written Tables)

    one_request : (request : Option Request) (one other : Said) → Answers told (order_on request) one → Answers told (order_on request) other
        → Alike request one other
    one_request None = one_only usage
    one_request (Some (Use grammar (words.Parse input memo mib))) = one_use grammar (Parse Lines input) tt
    one_request (Some (Use grammar words.Check)) = one_use grammar Check tt
    one_request (Some (Use grammar words.Cert)) = like_cert grammar
    one_request (Some (Use grammar (words.Verify certificate))) = one_use grammar (Verify certificate) tt
    one_request (Some (Use grammar words.Table)) = like_table grammar
    one_request (Some (Use grammar words.Cover)) = one_use grammar Cover tt
    one_request (Some (Use grammar (words.Rebuild input))) = one_use grammar (Parse Bytes input) tt
    one_request (Some (Use grammar (words.Json input memo mib))) = one_use grammar (Parse Json input) tt
    one_request (Some (Use grammar (words.Edit input script))) = one_use grammar (Edit input script) tt
    one_request (Some (Load table input)) =
        one_read table (λ bytes. have (input_in bytes) (load_in input)) (known table)
        (λ bytes. one_bytes bytes (load_in input) (λ file. one_load file input))
    one_request (Some (Fmt grammar)) =
        one_text (kind_of grammar) grammar (λ text. have (grammar_in text) formatted) (known grammar)
        (λ text. one_have (grammar_in text) formatted (λ g. one_only (done (canonical_text g))))
    one_request (Some (Trial name n)) =
        one_have (kind_by name) (trial_of name n) (λ kind.
        one_have (parts_in n) (tried name kind) (λ parts.
        one_core_of (text_of kind) (try_core name kind parts) (λ g.
        one_accepted g (λ same. says (Tries name kind parts same)) (one_trial name kind parts))))
      where
        tried : List ℕ → Kind → ℕ → Order
        tried name kind parts = core_of (text_of kind) (try_core name kind parts)
    one_request (Some (Explain grammar (Some input) mib)) =
        one_text (kind_of grammar) grammar (λ text. explain_text grammar input text) (known grammar) (λ text. one_explain grammar input text)
    one_request (Some (Explain grammar None mib)) =
        one_text (kind_of grammar) grammar (λ text. says (Explains grammar text)) (known grammar) (one_explained grammar)
    one_request (Some Formats) =
        one_read installed (λ bytes. have (input_in bytes) (λ list. only (formats_said list))) (known installed)
        (λ bytes. one_bytes bytes (λ list. only (formats_said list)) (λ list. one_only (formats_said list)))
    one_request (Some (Help command)) = one_only (help_said command)
    one_request (Some Version) = one_only version_said
    one_request (Some (View grammar input None memo mib)) = one_use grammar (Parse show.View input) tt
    one_request (Some (View grammar input (Some path) memo mib)) =
        one_found (ReadsPath path) (λ read. have read (λ query. use_order grammar (Parse (PickedView query) input))) (path_same one_path path)
        (λ read. one_have read (λ query. use_order grammar (Parse (PickedView query) input)) (λ query. one_use grammar (Parse (PickedView query) input) tt))
    one_request (Some (Query grammar input path)) =
        one_found (ReadsPath path) (λ read. have read (λ query. use_order grammar (Parse (Picked query) input))) (path_same one_path path)
        (λ read. one_have read (λ query. use_order grammar (Parse (Picked query) input)) (λ query. one_use grammar (Parse (Picked query) input) tt))

pub one_reply : OneCore → OneCheck → OneParse → OnePath → ProvesIsNoFault → FaultIsOne → LoadOnce → CoveredHasNoGap → OneGap → OneEdits → OneScript
    → OneExplained → OneCleared → OneFollowed → OneTrial → OneReply
one_reply one_core one_check one_parse one_path no_fault is_one load_once no_gap one_gap one_edits one_script one_explained one_cleared one_followed one_trial
    told words one other known =
    one_request told one_core one_check one_parse one_path no_fault is_one load_once no_gap one_gap one_edits one_script one_explained one_cleared
    one_followed one_trial
    known (request_of words) one other
