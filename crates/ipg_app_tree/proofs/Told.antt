-- Answers that are told one after another.
use Rattle.std.proofs.Common.{◌≡◌, ℕ, ◌+◌, ◌<◌, ◌≤◌, ◌^◌, ◌⊎◌, inl, inr, suc, zero, List, [], ◌∷◌, ◌++◌, length, get_or, take, drop, Result, Ok, Err}
use Rattle.std.proofs.Common.{refl, sym, ap, ◌∙◌, subst, append_assoc, add-one, drop-cons, arith}
use Rattle.std.proofs.lemmas.List.{drop_all}
use Rattle.std.proofs.lemmas.Result.{err_from_is_err_and}
use Rattle.std.specs.List.{AllByRecursion}
use Rattle.std.specs.Prelude.{IsErrAnd, IfOk, Option}
use Rattle.ipg_outside.specs.Sink.{Output}
use Rattle.ipg_core.specs.Grammar.{Grammar}
use Rattle.ipg_core.specs.Grown.{IsInput}
use Rattle.ipg_core.specs.Meaning.{Means}
use Rattle.ipg_core.specs.Run.{Stop}
use Rattle.ipg_core.specs.Tree.{Tree}
use Rattle.ipg_mach_moves.specs.Moves.{Key}
use Rattle.ipg_edit_laws.specs.Edited.{edited}
use Rattle.ipg_edit.specs.Answered.{Answers, counts_in}
use Rattle.ipg_edit.specs.Edits.{IsAllowed, IsEdited}
use Rattle.ipg_edit.specs.Session.{Seen, Knows}
use Rattle.ipg_edit.specs.declared.session.Answer.{Answer}
use Rattle.ipg_edit.specs.declared.session.Answer.TheVariants as answer
use Rattle.ipg_edit_script.specs.declared.script.Edit.{Edit}
use Rattle.ipg_edit_script.specs.Scripts.{IsEdit, AreEdits}
use Rattle.ipg_app_text.specs.declared.status.Status.{Status}
use Rattle.ipg_app_tree.specs.declared.telling.Told.{Told}
use Rattle.ipg_app_tree.specs.declared.telling.EditsFault.{EditsFault}
use Rattle.ipg_app_tree.specs.declared.telling.EditsFault.TheVariants.{OutOfInput, Memory}
use Rattle.ipg_app_tree.specs.Editing.{Edits, EditsSay, Allows, words_of, counted, answer_line, tree_of, kept_behind, kept_by, edited_by, before}
use Rattle.ipg_app_tree.specs.Out.{Replies}
use Rattle.ipg_app_tree.specs.Telling.{Ready, IsTold, IsShown, GoesOn, Steps, AreTold, TellsAll, words_by}
use Rattle.ipg_app_tree.proofs.Meant.{meant}

-- ---- one answer

module _ (g : Grammar) (k : ℕ) (kept : List Key) (old new : Seen) (lines more : List ℕ) (ready : Ready g kept old) (same : new.input ≡ old.input) where
  told_by : (given : Answer) (what : Result Tree Stop) → Means g old.input what → (a : Answers g old.input kept what given new)
      → words_by given ≡ words_of what → Knows g (kept_behind what a.keys kept) new → IsShown given what new
      → more ≡ lines ++ counted k (words_by given) (counts_in given).bodies → IsTold g k kept given old new lines more
  told_by given what m a words knows shown line = record {
    answer = what;
    keys = a.keys;
    turns = record { means = record { height = a.height; is = a.means; settled = m.settled }; fresh = a.fresh };
    line = line ∙ ap (λ w. lines ++ counted k w (counts_in given).bodies) words ∙ ap (λ n. lines ++ counted k (words_of what) n) a.counts.bodies;
    shown = shown;
    ready = record { knows = knows; total = ready.total; input = subst IsInput (sym same) ready.input };
  }

  answered : (given : Answer) (what : Result Tree Stop) → Means g old.input what → Answers g old.input kept what given new
      → more ≡ lines ++ counted k (words_by given) (counts_in given).bodies → IsTold g k kept given old new lines more
  answered (answer.Tree counts) what m a line =
      let is = a.is.1 in
      told_by (answer.Tree counts) what m a (sym (ap words_of is)) (subst (λ x. Knows g (kept_behind x a.keys kept) new) (sym is) a.is.2)
      (a.is.0, is, a.is.3) line
  answered (answer.NoTree counts) what m a line =
      let is = a.is.0 in
      told_by (answer.NoTree counts) what m a (sym (ap words_of is)) (subst (λ x. Knows g (kept_behind x a.keys kept) new) (sym is) a.is.1) is line
  answered (answer.Range counts) what m a line =
      let is = a.is.0 in
      told_by (answer.Range counts) what m a (sym (ap words_of is)) (subst (λ x. Knows g (kept_behind x a.keys kept) new) (sym is) a.is.1) is line

  -- what a session answers is told
  pub told_of : (given : Answer) → ((what : Result Tree Stop) → Knows g kept old → Means g old.input what → Answers g old.input kept what given new)
      → more ≡ lines ++ counted k (words_by given) (counts_in given).bodies → IsTold g k kept given old new lines more
  told_of given asks line =
      let m = meant g old.input ready.knows.good ready.total ready.input in
      answered given m.0 m.1 (asks m.0 ready.knows m.1) line

-- ---- one edit

at_most : (a b : ℕ) → (a ≤ b) ⊎ (b < a)
at_most zero b = inl (omega arith)
at_most (suc a) zero = inr (omega arith)
at_most (suc a) (suc b) = elim (at_most a b) [ inl less ↦ inl (omega (arith, less)) | inr more ↦ inr (omega (arith, more)) ]

-- an edit is out of input or not
pub allowed : (input : List ℕ) (from to : ℕ) (with : List ℕ) → ((IsAllowed input from to with → ⊥) → ⊥) → IsAllowed input from to with
allowed input from to with none = by (at_most from to) (at_most to (length input)) (at_most (length (edited input from to with)) (2 ^ 30))
  where
    by : (from ≤ to) ⊎ (to < from) → (to ≤ length input) ⊎ (length input < to)
        → (length (edited input from to with) ≤ 2 ^ 30) ⊎ (2 ^ 30 < length (edited input from to with)) → IsAllowed input from to with
    by (inl valid) (inl inside) (inl small) = record { within = record { valid = valid; inside = inside }; small = small }
    by (inr not) inside small = absurd (none (λ a. let valid = a.within.valid in omega (arith, not, valid)))
    by (inl valid) (inr not) small = absurd (none (λ a. let inside = a.within.inside in omega (arith, not, inside)))
    by (inl valid) (inl inside) (inr not) = absurd (none (λ a. let small = a.small in omega (arith, not, small)))

bytes_taken : (n : ℕ) (s : List ℕ) → AllByRecursion (λ b. b < 256) s → AllByRecursion (λ b. b < 256) (take n s)
bytes_taken zero s h = tt
bytes_taken (suc n) [] h = tt
bytes_taken (suc n) (b ∷ s) h = (h.0, bytes_taken n s h.1)

bytes_left : (n : ℕ) (s : List ℕ) → AllByRecursion (λ b. b < 256) s → AllByRecursion (λ b. b < 256) (drop n s)
bytes_left zero s h = h
bytes_left (suc n) [] h = tt
bytes_left (suc n) (b ∷ s) h = bytes_left n s h.1

bytes_joined : (s t : List ℕ) → AllByRecursion (λ b. b < 256) s → AllByRecursion (λ b. b < 256) t → AllByRecursion (λ b. b < 256) (s ++ t)
bytes_joined [] t h k = k
bytes_joined (b ∷ s) t h k = (h.0, bytes_joined s t h.1 k)

-- an edit leaves an input
stays_input : (input : List ℕ) (edit : Edit) → IsInput input → IsEdit edit → Allows input edit → IsInput (edited_by input edit)
stays_input input edit is one a = record {
  size = a.small;
  bytes =
      bytes_joined (take edit.from input) (edit.with ++ drop edit.to input) (bytes_taken edit.from input is.bytes)
      (bytes_joined edit.with (drop edit.to input) one.with_bytes (bytes_left edit.to input is.bytes));
}

module _ (g : Grammar) (k : ℕ) (kept : List Key) (edit : Edit) (given : Answer) (old mid new : Seen) (lines more : List ℕ)
    (told : IsTold g k kept given old mid lines more) (same : mid.input ≡ old.input) where
  pub stepped : IsEdit edit → Allows mid.input edit → IsEdited edit.from edit.to edit.with mid new → GoesOn g k kept edit old new lines more
  stepped one a e =
      let here : Allows old.input edit = subst (λ input. Allows input edit) same a in
      let input : new.input ≡ edited_by old.input edit = e.input ∙ ap (λ s. edited_by s edit) same in
      let behind = kept_behind told.answer told.keys kept in
      record {
        later = kept_by edit behind;
        ready = record {
          knows = e.knows g behind told.ready.knows;
          total = told.ready.total;
          input = subst IsInput (sym e.input) (stays_input mid.input edit told.ready.input one a);
        };
        line = answer_line k told.answer told.keys;
        is = told.line;
        leads = λ edits rest h. (
          told.answer,
          told.keys,
          told.turns,
          inr (here, (rest, subst (λ s. EditsSay g (k + 1) s (kept_by edit behind) edits rest) input h, refl)),
        );
      }

  pub stopped : (Allows mid.input edit → ⊥) → (edits : List Edit) → EditsSay g k old.input kept (edit ∷ edits) (Err k)
  stopped not edits = (told.answer, told.keys, told.turns, inl (λ a. not (subst (λ input. Allows input edit) (sym same) a), refl))

-- ---- all edits

-- what a session that begins with the input says, is said of the input
pub as_due : {E : Type 0} (r : Result Status E) (g : Grammar) (input other : List ℕ) (edits these : List Edit) (old : Seen) (before : Option Output)
    (counted : ℕ) (after : Option Output) (counts : ℕ) → other ≡ input → these ≡ edits
    → IfOk r (λ status. (h : Grammar) → Ready h [] old → Replies (Edits h other these) before counted after counts status)
    → Ready g [] old → IfOk r (Replies (Edits g input edits) before counted after counts)
as_due (Ok status) g input other edits these old before counted after counts same e said ready =
    subst (λ es. Replies (Edits g input es) before counted after counts status) e
    (subst (λ s. Replies (Edits g s these) before counted after counts status) same (said g ready))
as_due (Err fault) g input other edits these old before counted after counts same e said ready = tt

-- edits from this number on are left; what may be said from here on may be said behind the lines from the first on
pub record Going (g : Grammar) (edits : List Edit) (old : Seen) (k : ℕ) (now : Seen) (lines : List ℕ) : Type 0 where
  pub within : k ≤ length edits
  pub kept : List Key
  pub ready : Ready g kept now
  pub each : AreEdits (drop k edits)
  pub leads : (said : Result (List ℕ) ℕ) → EditsSay g k now.input kept (drop k edits) said → EditsSay g 0 old.input [] edits (before lines said)

before_none : (said : Result (List ℕ) ℕ) → before [] said ≡ said
before_none (Ok text) = refl
before_none (Err k) = refl

before_more : (lines line more : List ℕ) (said : Result (List ℕ) ℕ) → more ≡ lines ++ line → before lines (before line said) ≡ before more said
before_more lines line more (Ok text) e = ap Ok (sym (append_assoc lines line text) ∙ ap (λ l. l ++ text) (sym e))
before_more lines line more (Err k) e = refl

pub next_left : (edits : List Edit) (k : ℕ) (edit d : Edit) → k < length edits → edit ≡ get_or edits k d → drop k edits ≡ edit ∷ drop (k + 1) edits
next_left edits k edit d h e =
    drop-cons edits k d h ∙ ap (λ n. get_or edits k d ∷ drop n edits) (sym (add-one k)) ∙ ap (λ x. x ∷ drop (k + 1) edits) (sym e)

module _ (g : Grammar) (edits : List Edit) (old : Seen) where
  pub starts : Ready g [] old → AreEdits edits → (lines : List ℕ) → lines ≡ [] → Going g edits old 0 old lines
  starts ready each lines none = record {
    within = omega arith;
    kept = [];
    ready = ready;
    each = each;
    leads = λ said h. subst (EditsSay g 0 old.input [] edits) (sym (ap (λ l. before l said) none ∙ before_none said)) h;
  }

  module _ (k : ℕ) (edit : Edit) (left : drop k edits ≡ edit ∷ drop (k + 1) edits) (now : Seen) (lines : List ℕ) (going : Going g edits old k now lines) where
    each : AreEdits (edit ∷ drop (k + 1) edits)
    each = subst AreEdits left going.each

    pub is_edit : IsEdit edit
    is_edit = each.0

    pub goes_on : k < length edits → (new : Seen) (more : List ℕ) → GoesOn g k going.kept edit now new lines more → Going g edits old (k + 1) new more
    goes_on less new more h = record {
      within = omega (arith, less);
      kept = h.later;
      ready = h.ready;
      each = each.1;
      leads = λ said rest.
          subst (EditsSay g 0 old.input [] edits) (before_more lines h.line more said h.is)
          (going.leads (before h.line said)
          (subst (λ these. EditsSay g k now.input going.kept these (before h.line said)) (sym left) (h.leads (drop (k + 1) edits) said rest)));
    }

    refuses : ((rest : List Edit) → EditsSay g k now.input going.kept (edit ∷ rest) (Err k)) → EditsSay g 0 old.input [] edits (Err k)
    refuses h =
        going.leads (Err k) (subst (λ these. EditsSay g k now.input going.kept these (Err k)) (sym left) (h (drop (k + 1) edits)))

    -- the exit where an edit isn't made
    pub exits : (why : EditsFault) (new : Seen) (more : List ℕ) (r : Result Told EditsFault) → IsErrAnd r (λ e. e ≡ why)
        → Steps (Err why) g k going.kept edit now new lines more → TellsAll r g edits old new
    exits why new more r is h =
        let p = err_from_is_err_and r is in
        subst (λ r. TellsAll r g edits old new) (sym (p.1 ∙ ap Err p.2)) (by why h)
      where
        by : (why : EditsFault) → Steps (Err why) g k going.kept edit now new lines more → TellsAll (Err why) g edits old new
        by (OutOfInput at) h = subst (λ n. EditsSay g 0 old.input [] edits (Err n)) (sym h.0) (refuses h.1)
        by Memory h = tt

  pub ends : (k : ℕ) (now : Seen) (lines : List ℕ) (all : length edits ≤ k) (going : Going g edits old k now lines) (told : Told) (new : Seen)
      → IsTold g (length edits) going.kept told.last now new lines told.lines.items → AreTold g edits told old new
  ends k now lines all going told new h =
      let last : k ≡ length edits = let within = going.within in omega (arith, all, within) in
      let line = answer_line (length edits) h.answer h.keys in
      let said : EditsSay g (length edits) now.input going.kept [] (Ok (line ++ tree_of g h.answer)) = (h.answer, h.keys, h.turns, refl) in
      let here : EditsSay g k now.input going.kept (drop k edits) (Ok (line ++ tree_of g h.answer)) =
      subst (λ these. EditsSay g k now.input going.kept these (Ok (line ++ tree_of g h.answer))) (sym (drop_all k edits all))
      (subst (λ n. EditsSay g n now.input going.kept [] (Ok (line ++ tree_of g h.answer))) (sym last) said) in
      record {
        answer = h.answer;
        say =
            subst (EditsSay g 0 old.input [] edits)
            (before_more lines line told.lines.items (Ok (tree_of g h.answer)) h.line) (going.leads (Ok (line ++ tree_of g h.answer)) here);
        shown = h.shown;
        stand = h.ready.knows.stand;
      }
