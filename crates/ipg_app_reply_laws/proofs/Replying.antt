-- To words something is said, step by step of each order of answers.
use Rattle.std.proofs.Common.{◌≡◌, ℕ, ◌≤◌, ◌^◌, ◌⊎◌, inl, inr, refl, sym, subst, arith, List, ◌++◌, length, Bool, true, false, cond, Option, Some}
use Rattle.std.proofs.Common.{None, Result, Ok, Err}
use Rattle.std.specs.Prelude.{codes, decimal, nat_le}
use Rattle.std.proofs.lemmas.Bool.Decides.{nat_tests}
use Rattle.ipg_outside.specs.Files.{Told, AreBytes}
use Rattle.ipg_read_tokens.specs.Shaped.{canonical_text}
use Rattle.ipg_core.specs.Grammar.{Grammar}
use Rattle.ipg_core.specs.Good.{Good}
use Rattle.ipg_core.specs.Grown.{IsInput}
use Rattle.ipg_core.specs.Laws.{HoldsItsBytes, LiesWithin}
use Rattle.ipg_core.specs.Total.{Total}
use Rattle.ipg_names.specs.Laws.{FaultlessIsFormed}
use Rattle.ipg_names_text.specs.Laws.{ReadIsReadable}
use Rattle.ipg_complete.specs.Laws.{CompletedIsFormed}
use Rattle.ipg_order.specs.Laws.{GoodAsOrdered}
use Rattle.ipg_app_values.specs.Laws.{NotedSomehow}
use Rattle.ipg_facts_laws.specs.Bounded.{JointIsPart}
use Rattle.ipg_facts_laws.specs.Gapped.{GapsAreBounded}
use Rattle.ipg_facts_laws.specs.Laws.{ConditionsAreParts, EdgesAreInside}
use Rattle.ipg_cover_refute_laws.specs.Refuted.{GapsAreRefuted}
use Rattle.ipg_mach_moves.specs.Laws.{EndsAsMeant}
use Rattle.ipg_mach_count_laws.specs.Laws.{AllWhereNoneKept, CountsOver, KeysAreKnown, NoneWhereFirstKept}
use Rattle.ipg_cover_leaves.specs.Covers.{AllPutComesBack}
use Rattle.ipg_cover_leaves.specs.Laws.{LeavesAgree}
use Rattle.ipg_proof.specs.declared.certificate.Certificate.{Certificate}
use Rattle.ipg_proof.specs.declared.fault.ProofWhy.TheVariants.{Mismatch, Unsound}
use Rattle.ipg_proof.specs.Once.{TextIsOfOne}
use Rattle.ipg_proof.specs.Proves.{IsFault}
use Rattle.ipg_proof.specs.Worth.{AcceptsIsTotal}
use Rattle.ipg_store.specs.Laws.{HeldIsTotal}
use Rattle.ipg_formats.specs.declared.Kind.{Kind}
use Rattle.ipg_formats.specs.Names.{kind_of}
use Rattle.ipg_formats.specs.Text.{text_of}
use Rattle.ipg_query_path.specs.declared.path.Query as paths
use Rattle.ipg_app_words.specs.Request as words
use Rattle.ipg_app_words.specs.Request.{Request, Use, Fmt, Trial, Query, View, Load, Explain, Formats, Help, Version, request_of}
use Rattle.ipg_app_tree.specs.declared.show.Show.{Show}
use Rattle.ipg_app_tree.specs.declared.show.Show.TheVariants.{Lines, Picked, Bytes, Json, PickedView}
use Rattle.ipg_app_tree.specs.declared.show.Show.TheVariants as show
use Rattle.ipg_app_grammar.specs.Certificate.{Reads, Judges, cert_text, verified}
use Rattle.ipg_app_grammar.specs.Checks.{Checks}
use Rattle.ipg_app_grammar.specs.Covering.{CoverSays}
use Rattle.ipg_app_text.specs.CoreOf.{CoreOf, grammar_in}
use Rattle.ipg_app_tree.specs.Editing.{ReadsScript, Edits, edit_text}
use Rattle.ipg_app_grammar.specs.Explained.{Explains}
use Rattle.ipg_app_grammar.specs.Followed.{Cleared, Clears, Follows, or_told, subject}
use Rattle.ipg_app_grammar.specs.Helped.{formats_said, help_said, version_said}
use Rattle.ipg_app_text.specs.Order.{Order, says, finds, reads, only, have}
use Rattle.ipg_app_tree.specs.Path.{ReadsPath, query_syntax}
use Rattle.ipg_app_text.specs.Reasons.{Reason}
use Rattle.ipg_app.specs.Reply.{Task, Parse, Check, Cert, Verify, Table, Cover, Edit, parse_input}
use Rattle.ipg_app_text.specs.Steps.{text_by, core_of, input_in}
use Rattle.ipg_app_grammar.specs.Commands.{accepted, judge, formatted}
use Rattle.ipg_app.specs.Reply.{installed, order_by, order_on, use_order, load_in, edit_file, edit_input, edits_of, explain_text, follow, trial_of, try_core}
use Rattle.ipg_app_tree.specs.Parses.{Parses}
use Rattle.ipg_app_text.specs.Said.{Said, done, done_line, usage, too_large, bad_proof}
use Rattle.ipg_app_grammar.specs.Tables.{Loads}
use Rattle.ipg_app.specs.Trial.{kind_by, parts_in, Tries}
use Rattle.ipg_app_reply_laws.specs.Replies.{MayBeSo, HasReply, SomeReply}
use Rattle.ipg_app_reply_laws.proofs.Answering.{Replies, replies_only, replies_says, replies_finds, replies_have, replies_reads}
use Rattle.ipg_app_reply_laws.proofs.Checking.{checked}
use Rattle.ipg_app_reply_laws.proofs.Classical.{Somehow, some, ◌>>=◌, by}
use Rattle.ipg_app_reply_laws.proofs.Cores.{core, core_good, core_from_good}
use Rattle.ipg_app_reply_laws.proofs.Covering.{covers}
use Rattle.ipg_app_reply_laws.proofs.Editing.{edits}
use Rattle.ipg_app_reply_laws.proofs.Judging.{judged}
use Rattle.ipg_app_reply_laws.proofs.Loading.{loads}
use Rattle.ipg_app_reply_laws.proofs.Readers.{reads_path}
use Rattle.ipg_app_reply_laws.proofs.Reasons.{explains, clears}
use Rattle.ipg_app_reply_laws.proofs.Shows.{parses}
use Rattle.ipg_app_reply_laws.proofs.Texts.{reads_certificate, reads_script}
use Rattle.ipg_app_reply_laws.proofs.Trials.{tries, follows}

-- what is known of the crates below
pub record Known : Type 0 where
  pub readable : ReadIsReadable
  pub faultless : FaultlessIsFormed
  pub completing : CompletedIsFormed
  pub as_ordered : GoodAsOrdered
  pub are_parts : ConditionsAreParts
  pub is_part : JointIsPart
  pub noted : NotedSomehow
  pub accepts : AcceptsIsTotal
  pub held : HeldIsTotal
  pub of_one : TextIsOfOne
  pub ends : EndsAsMeant
  pub are_known : KeysAreKnown
  pub over : CountsOver
  pub none_run : NoneWhereFirstKept
  pub all_run : AllWhereNoneKept
  pub holds : HoldsItsBytes
  pub within : LiesWithin
  pub agree : LeavesAgree
  pub back : AllPutComesBack
  pub refuted : GapsAreRefuted
  pub bounded : GapsAreBounded
  pub inside : EdgesAreInside

-- ---- what is read

abbrev IsOf : {A : Type 0} → (Result A Said → Type 0) → Type 0
IsOf {A} P = Somehow ((answer : Result A Said) × P answer)

paths_read : (text : List ℕ) → IsOf (ReadsPath text)
paths_read text = do
  read ← reads_path text
  some (by read (λ q. (Ok q.0, q.1)) (λ f. (Err (query_syntax f.0), record { at = f.0; fault = f.1; is = refl })))

scripts_read : (text : List ℕ) → IsOf (ReadsScript text)
scripts_read text = do
  read ← reads_script text
  some (by read (λ e. (Ok e.0, record { each = e.1; written = e.2 })) (λ f. (Err (edit_text f.0), record { at = f.0; fault = f.1; is = refl })))

certificates_read : TextIsOfOne → (text : List ℕ) → IsOf (Reads text)
certificates_read of_one text = do
  read ← reads_certificate text
  some (by read (λ c. (Ok c.0, record { is = c.1; only = λ other is. of_one text c.0 other c.1 is }))
      (λ f. (Err (cert_text f.0), record { at = f.0; fault = f.1; is = refl })))

judges : (g : Grammar) (c : Certificate) → Somehow ((said : Said) × Judges g c said)
judges g c = do
  found ← judged g c
  some (by found (λ proves. (verified, inl (proves, refl))) (λ fault. at_fault fault.0 fault.1))
  where
    at_fault : (at : ℕ) → IsFault g c (Mismatch at) ⊎ IsFault g c (Unsound at) → (said : Said) × Judges g c said
    at_fault at (inl mismatch) = (bad_proof (codes "C2 Mismatch " ++ decimal at), inr (record { why = Mismatch at; fault = mismatch; is = refl }))
    at_fault at (inr unsound) = (bad_proof (codes "C3 Unsound " ++ decimal at), inr (record { why = Unsound at; fault = unsound; is = refl }))

-- ---- inputs

sized : (bytes input : List ℕ) (b : Bool) → nat_le (length bytes) (2 ^ 30) ≡ b → AreBytes bytes → cond b (Ok bytes) (Err too_large) ≡ Ok input → IsInput input
sized bytes input true e are is =
    let small : length bytes ≤ 2 ^ 30 = grind (arith, nat_tests) in
    let same : bytes ≡ input = cc in
    subst IsInput same (record { size = small; bytes = are })
sized bytes input false e are is = absurd (cc)

sized_parts : (n parts : ℕ) (b : Bool) → nat_le n 10000 ≡ b → cond b (Ok n) (Err usage) ≡ Ok parts → parts ≤ 10000
sized_parts n parts true e is =
    let small : n ≤ 10000 = grind (arith, nat_tests) in
    let same : n ≡ parts = cc in
    subst (λ m. m ≤ 10000) same small
sized_parts n parts false e is = absurd (cc)

-- ---- orders of answers

-- none of those that want a certificate that a text can say
abbrev IsDone : Task → Type 0
IsDone (Parse show input) = Unit {0}
IsDone Check = Unit {0}
IsDone Cert = ⊥
IsDone (Verify certificate) = Unit {0}
IsDone Table = ⊥
IsDone Cover = Unit {0}
IsDone (Edit input script) = Unit {0}

module _ (laws : Known) (told : List ℕ → Told) (known : (name : List ℕ) → MayBeSo (told name)) where
  by_text : (k : Option Kind) (name : List ℕ) (next : List ℕ → Order) → ((text : List ℕ) → Replies told (next text)) → Replies told (text_by k name next)
  by_text (Some kind) name next each = each (text_of kind)
  by_text None name next each = replies_reads told name next (known name) (λ bytes are. each bytes)

  by_input : (bytes : List ℕ) → AreBytes bytes → (next : List ℕ → Order) → ((input : List ℕ) → IsInput input → Replies told (next input))
      → Replies told (have (input_in bytes) next)
  by_input bytes are next each =
      replies_have told (input_in bytes) next (λ input is. each input (sized bytes input (nat_le (length bytes) (2 ^ 30)) refl are is))

  by_file : (name : List ℕ) (next : List ℕ → Order) → ((input : List ℕ) → IsInput input → Replies told (next input))
      → Replies told (reads name (λ bytes. have (input_in bytes) next))
  by_file name next each =
      replies_reads told name (λ bytes. have (input_in bytes) next) (known name) (λ bytes are. by_input bytes are next each)

  by_core : (text : List ℕ) (next : Grammar → Order) → ((g : Grammar) → Good g → Replies told (next g)) → Replies told (core_of text next)
  by_core text next each =
      replies_finds told (CoreOf text) (λ answer. have answer next)
      (core laws.readable laws.faultless laws.completing laws.as_ordered text)
      (λ answer is. replies_have told answer next (λ g e. each g (core_good text g (subst (CoreOf text) e is))))

  by_accepted : (g : Grammar) → Good g → (next : Grammar → Order) → ((same : Grammar) → Good same → Total same → Replies told (next same))
      → Replies told (accepted g next)
  by_accepted g good next each =
      replies_finds told (Checks g) (λ answer. have answer next) (checked laws.are_parts laws.is_part g)
      (λ answer is. replies_have told answer next (λ same e.
      let checks = subst (Checks g) e is in
      let total = laws.accepts g good checks.1 in
      each same (subst Good (sym checks.0) good) (subst Total (sym checks.0) total)))

  by_parse : (s : Show) (name : List ℕ) (g : Grammar) → Good g → Total g → Replies told (parse_input s name g)
  by_parse s name g good total =
      by_file name (λ input. says (Parses s g input))
      (λ input is. replies_says told (Parses s g input) (parses laws.holds laws.within laws.agree laws.back g input is good total s))

  by_edits : (text : List ℕ) (g : Grammar) → Good g → Total g → (input : List ℕ) → IsInput input → Replies told (edits_of text g input)
  by_edits text g good total input is =
      replies_finds told (ReadsScript text) (λ read. have read (λ script. says (Edits g input script))) (scripts_read text)
      (λ read of. replies_have told read (λ script. says (Edits g input script))
      (λ script e. replies_says told (Edits g input script)
      (edits laws.ends laws.are_known laws.over laws.none_run g good total input is script (subst (ReadsScript text) e of).each)))

  by_edit : (name script : List ℕ) (g : Grammar) → Good g → Total g → Replies told (edit_file name script g)
  by_edit name script g good total =
      by_file name (edit_input script g) (λ input is. by_file script (λ text. edits_of text g input) (λ text any. by_edits text g good total input is))

  by_judge : (text : List ℕ) (g : Grammar) → Replies told (judge text g)
  by_judge text g =
      replies_finds told (Reads text) (λ read. have read (λ c. says (Judges g c))) (certificates_read laws.of_one text)
      (λ read of. replies_have told read (λ c. says (Judges g c)) (λ c e. replies_says told (Judges g c) (judges g c)))

  by_task : (task : Task) (g : Grammar) → Good g → IsDone task → Replies told (order_by task g)
  by_task (Parse s input) g good done = by_accepted g good (parse_input s input) (by_parse s input)
  by_task Check g good done =
      let said = done_line (codes "accepted") in
      by_accepted g good (λ same. only said) (λ same good total. replies_only told said)
  by_task Cert g good done = absurd done
  by_task (Verify certificate) g good done = by_file certificate (λ text. judge text g) (λ text is. by_judge text g)
  by_task Table g good done = absurd done
  by_task Cover g good done =
      by_accepted g good (λ same. says (CoverSays same)) (λ same good total. replies_says told (CoverSays same)
      (covers laws.refuted laws.bounded same good laws.inside))
  by_task (Edit input script) g good done = by_accepted g good (edit_file input script) (by_edit input script)

  by_use : (grammar : List ℕ) (task : Task) → IsDone task → Replies told (use_order grammar task)
  by_use grammar task done =
      by_text (kind_of grammar) grammar (λ text. core_of text (order_by task)) (λ text. by_core text (order_by task) (λ g good. by_task task g good done))

  by_load : (input file : List ℕ) → IsInput file → Replies told (load_in input file)
  by_load input file is =
      replies_finds told (Loads file) (λ answer. have answer (parse_input Lines input)) (loads file is.bytes is.size)
      (λ answer of. replies_have told answer (parse_input Lines input) (λ g e.
      let held = subst (Loads file) e of in
      by_parse Lines input g held.1.good (laws.held file g held.0 held.1)))

  -- ---- for a person

  by_follow : (name text input : List ℕ) (made : Cleared) → Clears text (Ok made) → Replies told (follow name text input made)
  by_follow name text input made clear =
      let good = core_from_good made.0 made.1 clear.1 in
      by_file input (λ these. says (Follows (subject name text made.0 these) made.1))
      (λ these is. replies_says told (Follows (subject name text made.0 these) made.1)
      (follows laws.ends laws.are_known laws.over laws.none_run laws.all_run made.1 good (laws.accepts made.1 good clear.2)
      (subject name text made.0 these) is))

  clear_of : (name text : List ℕ) (answer : Result Cleared Reason) (made : Cleared) → Clears text answer
      → or_told name text answer ≡ Ok made → Clears text (Ok made)
  clear_of name text (Ok other) made clear e = subst (λ m. Clears text (Ok m)) (let same : other ≡ made = cc in same) clear
  clear_of name text (Err reason) made clear e = absurd (cc)

  by_explain : (name input text : List ℕ) → Replies told (explain_text name input text)
  by_explain name input text =
      replies_finds told (Clears text) (λ answer. have (or_told name text answer) (follow name text input))
      (clears laws.readable laws.faultless laws.completing laws.as_ordered laws.are_parts laws.is_part laws.noted text)
      (λ answer clear. replies_have told (or_told name text answer) (follow name text input)
      (λ made e. by_follow name text input made (clear_of name text answer made clear e)))

  -- ---- trials

  by_trial : (name : List ℕ) (n : ℕ) (kind : Kind) → Replies told (trial_of name n kind)
  by_trial name n kind =
      replies_have told (parts_in n) (λ parts. core_of (text_of kind) (try_core name kind parts)) (λ parts e.
      by_core (text_of kind) (try_core name kind parts) (λ g good.
      by_accepted g good (λ same. says (Tries name kind parts same)) (λ same good total.
      replies_says told (Tries name kind parts same)
      (tries laws.ends laws.are_known laws.over laws.none_run laws.all_run same good total name kind parts
      (sized_parts n parts (nat_le n 10000) refl e)))))

  -- ---- words

  by_path : (text grammar : List ℕ) (task : paths.Query → Task) → ((query : paths.Query) → IsDone (task query))
      → Replies told (finds (ReadsPath text) (λ read. have read (λ query. use_order grammar (task query))))
  by_path text grammar task done =
      replies_finds told (ReadsPath text) (λ read. have read (λ query. use_order grammar (task query))) (paths_read text)
      (λ read of. replies_have told read (λ query. use_order grammar (task query)) (λ query e. by_use grammar (task query) (done query)))

  by_request : (request : Option Request) → HasReply request → Replies told (order_on request)
  by_request None has = replies_only told usage
  by_request (Some (Use grammar (words.Parse input memo mib))) has = by_use grammar (Parse Lines input) tt
  by_request (Some (Use grammar words.Check)) has = by_use grammar Check tt
  by_request (Some (Use grammar words.Cert)) has = absurd has
  by_request (Some (Use grammar (words.Verify certificate))) has = by_use grammar (Verify certificate) tt
  by_request (Some (Use grammar words.Table)) has = absurd has
  by_request (Some (Use grammar words.Cover)) has = by_use grammar Cover tt
  by_request (Some (Use grammar (words.Rebuild input))) has = by_use grammar (Parse Bytes input) tt
  by_request (Some (Use grammar (words.Json input memo mib))) has = by_use grammar (Parse Json input) tt
  by_request (Some (Use grammar (words.Edit input script))) has = by_use grammar (Edit input script) tt
  by_request (Some (Load table input)) has = by_file table (load_in input) (by_load input)
  by_request (Some (Fmt grammar)) has =
      by_text (kind_of grammar) grammar (λ text. have (grammar_in text) formatted) (λ text.
      replies_have told (grammar_in text) formatted (λ g e. replies_only told (done (canonical_text g))))
  by_request (Some (Trial name n)) has = replies_have told (kind_by name) (trial_of name n) (λ kind e. by_trial name n kind)
  by_request (Some (Explain grammar (Some input) mib)) has =
      by_text (kind_of grammar) grammar (λ text. explain_text grammar input text) (λ text. by_explain grammar input text)
  by_request (Some (Explain grammar None mib)) has =
      by_text (kind_of grammar) grammar (λ text. says (Explains grammar text)) (λ text. replies_says told (Explains grammar text)
      (explains laws.readable laws.faultless laws.completing laws.as_ordered laws.are_parts laws.is_part laws.noted grammar text))
  by_request (Some Formats) has =
      by_file installed (λ list. only (formats_said list)) (λ list is. replies_only told (formats_said list))
  by_request (Some (Help command)) has = replies_only told (help_said command)
  by_request (Some Version) has = replies_only told version_said
  by_request (Some (View grammar input None memo mib)) has = by_use grammar (Parse show.View input) tt
  by_request (Some (View grammar input (Some path) memo mib)) has = by_path path grammar (λ query. Parse (PickedView query) input) (λ query. tt)
  by_request (Some (Query grammar input path)) has = by_path path grammar (λ query. Parse (Picked query) input) (λ query. tt)

pub some_reply : Known → SomeReply
some_reply laws told words known has none = by_request laws told known (request_of words) has (λ said. none said.0 said.1)
