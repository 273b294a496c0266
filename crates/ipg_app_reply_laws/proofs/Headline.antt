-- The sentence: the order of answers of `parse`, step by step, and that there is one answer.
use Rattle.std.proofs.Common.{◌≡◌, ◌≤◌, ◌⊎◌, ℕ, inl, inr, List, length, Option, Some, None, Result, Ok, Err, Bool, true, cond, nat_le}
use Rattle.std.proofs.Common.{refl, sym, ap, ◌∙◌, subst, arith}
use Rattle.std.proofs.lemmas.Bool.Decides.{nat_tests}
use Rattle.ipg_outside.specs.Files.{Told, absent, holds, MayHold}
use Rattle.ipg_formats.specs.declared.Kind.{Kind}
use Rattle.ipg_formats.specs.Names.{kind_of}
use Rattle.ipg_core.specs.Grammar.{Grammar}
use Rattle.ipg_core.specs.Meaning.{Means}
use Rattle.ipg_core.specs.Run.{Stop, NoTree, OutOfRange, Deep}
use Rattle.ipg_core.specs.Tree.{Tree}
use Rattle.ipg_app_text.specs.declared.status.Status.{Status}
use Rattle.ipg_app_text.specs.CoreOf.{Answer, CoreOf}
use Rattle.ipg_app_text.specs.Order.{Order, Answers, says, have}
use Rattle.ipg_app_text.specs.Said.{Said, done, too_large}
use Rattle.ipg_app_text.specs.Steps.{core_of, max_input, text_by}
use Rattle.ipg_app_tree.specs.declared.show.Show.TheVariants.{Lines}
use Rattle.ipg_app_tree.specs.Parses.{ParseSays, Parses}
use Rattle.ipg_app_grammar.specs.Checks.{Checks, IsLoop}
use Rattle.ipg_app.specs.Laws.{OneCore, OneCheck, OneParse}
use Rattle.ipg_app.specs.Reply.{order_of, order_on, parse, parse_input}
use Rattle.ipg_app.specs.Run.{Outside, NoFault, Replied, OutOfMemory, RepliesWithoutFault}
use Rattle.ipg_app_reply_laws.specs.Headline.{TextIs, Asked, IsAccepted, SaysTree, SaysNoParse, SaysRange, SaysRefusal, Says, Wrote, Headline}

absent_holds : {A : Type 0} (told : Told) (bytes : List ℕ) → told ≡ holds bytes → told ≡ absent → A
absent_holds told bytes h gone = let both : absent ≡ holds bytes = sym gone ∙ h in absurd (cc)

held_is : (told : Told) (known bytes : List ℕ) → told ≡ holds known → MayHold told bytes → bytes ≡ known
held_is told known bytes h held = subst (λ t. MayHold t bytes) h held

holds_it : (told : Told) (known : List ℕ) → told ≡ holds known → MayHold told known
holds_it told known h = subst (λ t. MayHold t known) (sym h) refl

is_short : (input : List ℕ) → length input ≤ max_input → nat_le (length input) max_input ≡ true
is_short input h = grind (arith, nat_tests)

-- ---- what is said of a parse

module _ (text input : List ℕ) (core : Grammar) (accepted : IsAccepted text core) (said : Said) where
  by_answer : (answer : Result Tree Stop) → Means core input answer → ParseSays Lines core input answer said → Says text input said
  by_answer (Ok tree) means (inl (shown, shows, is)) =
      inl (record { core = core; accepted = accepted; tree = tree; means = means; is = is ∙ ap done shows })
  by_answer (Ok tree) means (inr (at, missed, is)) = absurd missed
  by_answer (Err NoTree) means is = inr (inl (record { core = core; accepted = accepted; means = means; is = is }))
  by_answer (Err OutOfRange) means is = inr (inr (inl (record { core = core; accepted = accepted; means = means; is = is })))
  by_answer (Err Deep) means none = absurd none

  by_parse : Parses Lines core input said → Says text input said
  by_parse p = by_answer p.answer p.means p.is

-- ---- the input, and what stands before it

module _ (told : List ℕ → Told) (file text input : List ℕ) (input_is : told file ≡ holds input) (short : length input ≤ max_input) (said : Said) where
  -- what follows the bytes of the input, as it is of a length that may be parsed or not
  abbrev Behind : Grammar → List ℕ → Bool → Type 0
  Behind core bytes b = Answers told (have (cond b (Ok bytes) (Err too_large)) (λ these. says (Parses Lines core these))) said

  from_input : (core : Grammar) → IsAccepted text core → Answers told (parse_input Lines file core) said → Says text input said
  from_input core accepted (inl (gone, is)) = absent_holds (told file) input input_is gone
  from_input core accepted (inr (bytes, held, rest)) =
      let same = held_is (told file) input bytes input_is held in
      let here : Behind core input (nat_le (length input) max_input) = subst (λ b. Behind core b (nat_le (length b) max_input)) same rest in
      by_parse text input core accepted said (subst (Behind core input) (is_short input short) here)

  to_input : (core : Grammar) → Parses Lines core input said → Answers told (parse_input Lines file core) said
  to_input core p = inr (input, holds_it (told file) input input_is, subst (Behind core input) (sym (is_short input short)) p)

  from_core : Answers told (core_of text (parse Lines file)) said → Says text input said
  from_core (Err refusal, of, is) = inr (inr (inr (inl (subst (λ s. CoreOf text (Err s)) (sym is) of))))
  from_core (Ok core, of, (Err refusal, loop, is)) = inr (inr (inr (inr (core, of, subst (IsLoop core) (sym is) loop))))
  from_core (Ok core, of, (Ok same, (is, accepts), rest)) =
      from_input core (of, accepts) (subst (λ g. Answers told (parse_input Lines file g) said) is rest)

  to_parse : (core : Grammar) → IsAccepted text core → Parses Lines core input said → Answers told (core_of text (parse Lines file)) said
  to_parse core accepted p = (Ok core, accepted.0, (Ok core, (refl, accepted.1), to_input core p))

  to_core : Says text input said → Answers told (core_of text (parse Lines file)) said
  to_core (inl t) = to_parse t.core t.accepted (record { answer = Ok t.tree; means = t.means; is = inl (_, refl, t.is) })
  to_core (inr (inl t)) = to_parse t.core t.accepted (record { answer = Err NoTree; means = t.means; is = t.is })
  to_core (inr (inr (inl t))) = to_parse t.core t.accepted (record { answer = Err OutOfRange; means = t.means; is = t.is })
  to_core (inr (inr (inr (inl of)))) = (Err said, of, refl)
  to_core (inr (inr (inr (inr (core, of, loop))))) = (Ok core, of, (Err said, loop, refl))

  -- ---- the text of the grammar

  from_text : (grammar : List ℕ) (kind : Option Kind) → TextIs kind (told grammar) text
      → Answers told (text_by kind grammar (λ t. core_of t (parse Lines file))) said → Answers told (core_of text (parse Lines file)) said
  from_text grammar (Some kind) is h = subst (λ t. Answers told (core_of t (parse Lines file)) said) (sym is) h
  from_text grammar None is (inl (gone, fault)) = absent_holds (told grammar) text is gone
  from_text grammar None is (inr (bytes, held, rest)) =
      subst (λ t. Answers told (core_of t (parse Lines file)) said) (held_is (told grammar) text bytes is held) rest

  to_text : (grammar : List ℕ) (kind : Option Kind) → TextIs kind (told grammar) text → Answers told (core_of text (parse Lines file)) said
      → Answers told (text_by kind grammar (λ t. core_of t (parse Lines file))) said
  to_text grammar (Some kind) is h = subst (λ t. Answers told (core_of t (parse Lines file)) said) is h
  to_text grammar None is h = inr (text, holds_it (told grammar) text is, h)

-- ---- exactly that is said

from_answers : (told : List ℕ → Told) (asked : List (List ℕ)) (text input : List ℕ) → Asked told asked text input → (said : Said)
    → Answers told (order_of asked) said → Says text input said
from_answers told asked text input a said h =
    from_core told a.file text input a.input_is a.short said
    (from_text told a.file text input a.input_is a.short said a.grammar (kind_of a.grammar) a.text_is
    (subst (λ r. Answers told (order_on r) said) a.asks h))

to_answers : (told : List ℕ → Told) (asked : List (List ℕ)) (text input : List ℕ) → Asked told asked text input → (said : Said)
    → Says text input said → Answers told (order_of asked) said
to_answers told asked text input a said h =
    subst (λ r. Answers told (order_on r) said) (sym a.asks)
    (to_text told a.file text input a.input_is a.short said a.grammar (kind_of a.grammar) a.text_is
    (to_core told a.file text input a.input_is a.short said h))

-- ---- one thing is said

module _ (one_core : OneCore) (one_check : OneCheck) (one_parse : OneParse) (text input : List ℕ) (one other : Said) where
  abbrev Checked : Answer → Said → Type 0
  Checked (Ok g) said = Parses Lines g input said
  Checked (Err refusal) said = said ≡ refusal

  abbrev Found : Answer → Said → Type 0
  Found (Ok core) said = (c : Answer) × Checks core c × Checked c said
  Found (Err refusal) said = said ≡ refusal

  gives : (said : Said) → Says text input said → (a : Answer) × CoreOf text a × Found a said
  gives said (inl t) =
      (Ok t.core, t.accepted.0, (Ok t.core, (refl, t.accepted.1), record { answer = Ok t.tree; means = t.means; is = inl (_, refl, t.is) }))
  gives said (inr (inl t)) = (Ok t.core, t.accepted.0, (Ok t.core, (refl, t.accepted.1), record { answer = Err NoTree; means = t.means; is = t.is }))
  gives said (inr (inr (inl t))) =
      (Ok t.core, t.accepted.0, (Ok t.core, (refl, t.accepted.1), record { answer = Err OutOfRange; means = t.means; is = t.is }))
  gives said (inr (inr (inr (inl of)))) = (Err said, of, refl)
  gives said (inr (inr (inr (inr (core, of, loop))))) = (Ok core, of, (Err said, loop, refl))

  checked_once : (c : Answer) → Checked c one → Checked c other → one ≡ other
  checked_once (Ok g) h k = one_parse Lines g input one other h k
  checked_once (Err refusal) h k = h ∙ sym k

  found_once : (a : Answer) → Found a one → Found a other → one ≡ other
  found_once (Ok core) (c, h, p) (d, k, q) = checked_once d (subst (λ x. Checked x one) (one_check core c d h k) p) q
  found_once (Err refusal) h k = h ∙ sym k

  pub says_once : Says text input one → Says text input other → one ≡ other
  says_once h k =
      let a = gives one h in
      let b = gives other k in
      found_once b.0 (subst (λ x. Found x one) (one_core text a.0 b.0 a.1 b.1) a.2) b.2

-- ---- the run

wrote : (before after : Outside) (asked : List (List ℕ)) (text input : List ℕ) (s : Status) → Asked before.told asked text input
    → Replied before after asked s ⊎ OutOfMemory before after s → Wrote text input before after s ⊎ OutOfMemory before after s
wrote before after asked text input s a (inl r) =
    inl (record { said = r.said; says = from_answers before.told asked text input a r.said r.answers; is = r.is; out = r.out })
wrote before after asked text input s a (inr m) = inr m

pub headline : OneCore → OneCheck → OneParse → Headline
headline one_core one_check one_parse = record {
  exactly = λ told asked text input a said. (from_answers told asked text input a said, to_answers told asked text input a said);
  one = says_once one_core one_check one_parse;
  run = λ before after asked text input s a none replies. wrote before after asked text input s a (replies none);
}
