-- Reasons and what is said for them: each is that of a refusal, and a text has one.
use Rattle.std.proofs.Common.{◌<◌, ◌^◌, length, [], true, cond, nat_lt, arith, ◌≡◌, ℕ, ℤ, inl, inr, List}
use Rattle.std.proofs.Common.{Option, Some, None, Result, Ok, Err, refl, sym, ap, ◌∙◌, subst, slice_get}
use Rattle.ipg_ast.specs.declared.grammar.Grammar as written
use Rattle.ipg_core.specs.declared.grammar.CoreRule.{CoreRule}
use Rattle.ipg_core.specs.Grammar.{Grammar, rule_at}
use Rattle.ipg_complete.specs.Unordered as unordered
use Rattle.ipg_complete.specs.Unordered.{Unordered}
use Rattle.ipg_complete.specs.Completion.{completed}
use Rattle.ipg_lin.specs.Formula.{assigned}
use Rattle.ipg_names.specs.Resolved.{Resolved, names_of}
use Rattle.ipg_order.specs.Laws.{OrdersOnce, GoodIsNotStuck, StuckOnce}
use Rattle.ipg_read_tokens.specs.declared.fault.ReadFault.TheVariants as read
use Rattle.std.proofs.lemmas.Bool.Decides.{nat_tests}
use Rattle.ipg_read_tokens.specs.Lexical.{lexed}
use Rattle.ipg_read_syntax.specs.Reading.{read_of, tokens_answer}
use Rattle.ipg_proof.specs.Proves.{Accepts}
use Rattle.ipg_term.specs.Laws.{LoopsArentAccepted, OneLoops}
use Rattle.ipg_touch.specs.Laws.{OneLimit}
use Rattle.ipg_touch.specs.Loose.{loose}
use Rattle.ipg_app_explain.specs.declared.why.Why.TheVariants as why
use Rattle.ipg_app_explain.specs.Terms.{term_place}
use Rattle.ipg_app_values.specs.Laws.{NotedOnce}
use Rattle.ipg_app_values.specs.Notes.{AreNotes}
use Rattle.ipg_app_text.specs.Said.{Said}
use Rattle.ipg_app_text.specs.Refusal.{circular, name_said, no_touch}
use Rattle.ipg_app_grammar.specs.Checks.{may_loop}
use Rattle.ipg_app_text.specs.CoreOf.{Answer, Circles, On, grammar_in, resolved, unless_fault}
use Rattle.ipg_app_text.specs.CoreOf.{name_of, Orders, CoreFrom, CoreOf}
use Rattle.ipg_app_grammar.specs.Explained.{Explains, Refuses, explained_said}
use Rattle.ipg_app_grammar.specs.Followed.{Cleared, Clears}
use Rattle.ipg_app_text.specs.Reasons.{Reason, listed, read_reason, name_reason, CoreOrReason, IsLoose}
use Rattle.ipg_app_grammar.specs.Judged.{cycle_places, IsCycle, IsRefused}
use Rattle.ipg_app_text.specs.Reasons.{IsStuck, IsUnnamed, IsUnordered}
use Rattle.ipg_app_grammar.specs.Judged.{Judged}
use Rattle.ipg_app.proofs.OneCore.{not_both, from_once}
use Rattle.ipg_app_text.specs.Reasoned.{of_text, unread, without_core}

-- ---- what is said is what refuses the grammar

-- a text that isn't read to its end
pub too_long : (text : List ℕ) → 2 ^ 20 < length text → read_of text ≡ Err read.TooLong
too_long text h =
    let long : nat_lt (2 ^ 20) (length text) ≡ true = grind (arith, nat_tests) in
    ap (tokens_answer text) (ap (λ b. cond b (Err read.TooLong) (lexed 0 0 text)) long)

-- no place of such a text is shown
pub refuses_too_long : (name text : List ℕ) (said : Said) (r : Reason) → r ≡ read_reason read.TooLong → said ≡ explained_said name [] (Some r)
    → 2 ^ 20 < length text → Refuses name text said
refuses_too_long name text said r is told long =
    let reason = read_reason read.TooLong in
    let same : said ≡ explained_said name text (Some reason) = told ∙ ap (λ x. explained_said name [] (Some x)) is in
    (reason, inl (record { fault = read.TooLong; reads = too_long text long; is = refl }), same)

-- ---- a text has one reason

same_grammar : (r : Result written.Grammar Said) (g other : written.Grammar) → r ≡ Ok g → r ≡ Ok other → g ≡ other
same_grammar r g other p q = let both : Ok g ≡ Ok other = sym p ∙ q in cc

apart : {A : Type 0} (r : Result A Said) (a : A) (said : Said) → r ≡ Ok a → r ≡ Err said → ⊥
apart r a said p q = let both : Ok a ≡ Err said = sym p ∙ q in absurd (cc)

-- a name of it is at fault, so its names aren't resolved
not_resolved : (g : written.Grammar) (r : Reason) (n : Resolved) → IsUnnamed g r → resolved g ≡ Ok n → ⊥
not_resolved g r n h is = apart (resolved g) n (name_said h.fault) is (ap (λ f. unless_fault f (names_of g)) h.first)

abbrev stuck_reason : written.Grammar → List ℕ → ℕ × ℕ → ℕ → Reason
stuck_reason g rule at term = record { said = circular rule at.1 term; why = why.Circular; places = listed (term_place g at.0 at.1 term); notes = [] }

abbrev loose_reason : written.Grammar → Grammar → ℕ × ℕ × ℕ → Reason
loose_reason g core at = record {
  said = no_touch (name_of (rule_at core at.0)) at.1 at.2;
  why = why.NoTouch;
  places = listed (term_place g at.0 at.1 at.2);
  notes = [];
}

abbrev cycle_reason : written.Grammar → Grammar → List ℕ → ℤ → List ℕ → Reason
cycle_reason g core cycle eoi notes = record { said = may_loop core cycle eoi; why = why.MayLoop; places = cycle_places g core cycle; notes = notes }

module _ (one_limit : OneLimit) (orders_once : OrdersOnce) (good_is_not_stuck : GoodIsNotStuck) (stuck_once : StuckOnce)
    (loops_arent_accepted : LoopsArentAccepted) (one_loops : OneLoops) (noted_once : NotedOnce) where
  stuck_same : (g : written.Grammar) (c : Unordered) (r s : Reason) → IsStuck g c r → IsStuck g c s → r ≡ s
  stuck_same g c r s h k =
      let core = unordered.core_of c in
      let same = stuck_once core h.at k.at h.term k.term h.first k.first in
      let place : h.at.0 ≡ k.at.0 = ap (λ (p : ℕ × ℕ). p.0) same.0 in
      let there = subst (λ x. slice_get core.rules x ≡ Some h.first.rule) place h.first.is_alt.is_rule in
      let here = k.first.is_alt.is_rule in
      let rule : h.first.rule ≡ k.first.rule = cc in
      h.is
      ∙ ap (λ (x : CoreRule). stuck_reason g x.name h.at h.term) rule
      ∙ ap (λ (p : ℕ × ℕ). stuck_reason g k.first.rule.name p h.term) same.0
      ∙ ap (stuck_reason g k.first.rule.name k.at) same.1
      ∙ sym k.is

  loose_same : (g : written.Grammar) (core : Grammar) (r s : Reason) → IsLoose g core r → IsLoose g core s → r ≡ s
  loose_same g core r s h k =
      let marks = one_limit core h.marks k.marks h.limit k.limit in
      let found : Some h.at ≡ Some k.at = sym h.found ∙ ap (λ m. loose m core.rules) marks ∙ k.found in
      let at : h.at ≡ k.at = cc in
      h.is ∙ ap (loose_reason g core) at ∙ sym k.is

  cores_same : (c : Unordered) (core other : Grammar) → Orders c (Ok core) → Orders c (Ok other) → core ≡ other
  cores_same c core other p q = orders_once core other p.0 q.0 (p.1 ∙ sym q.1)

  disordered_same : (g : written.Grammar) (c : Unordered) (r s : Reason) → IsUnordered g c r → IsUnordered g c s → r ≡ s
  disordered_same g c r s (inl h) (inl k) = stuck_same g c r s h k
  disordered_same g c r s (inl h) (inr (core, orders, k)) =
      let circles : Circles c r.said = record { at = h.at; term = h.term; first = h.first; is = ap (λ (x : Reason). x.said) h.is } in
      absurd (not_both one_limit orders_once good_is_not_stuck stuck_once c core r.said orders circles)
  disordered_same g c r s (inr (core, orders, h)) (inl k) =
      let circles : Circles c s.said = record { at = k.at; term = k.term; first = k.first; is = ap (λ (x : Reason). x.said) k.is } in
      absurd (not_both one_limit orders_once good_is_not_stuck stuck_once c core s.said orders circles)
  disordered_same g c r s (inr (core, orders, h)) (inr (other, ordered, k)) =
      let same = cores_same c core other orders ordered in
      loose_same g other r s (subst (λ x. IsLoose g x r) same h) k

  unnamed_same : (g : written.Grammar) (r s : Reason) → IsUnnamed g r → IsUnnamed g s → r ≡ s
  unnamed_same g r s h k =
      let first : Some h.fault ≡ Some k.fault = sym h.first ∙ k.first in
      let fault : h.fault ≡ k.fault = cc in
      h.is ∙ ap name_reason fault ∙ sym k.is

  without_same : (g : written.Grammar) (r s : Reason) → CoreOrReason g (Err r) → CoreOrReason g (Err s) → r ≡ s
  without_same g r s (inl h) (inl k) = unnamed_same g r s h k
  without_same g r s (inl h) (inr (n, is, k)) = absurd (not_resolved g r n h is)
  without_same g r s (inr (n, is, h)) (inl k) = absurd (not_resolved g s n k is)
  without_same g r s (inr (n, is, h)) (inr (m, too, k)) =
      let both : Ok n ≡ Ok m = sym is ∙ too in
      let same : n ≡ m = cc in
      disordered_same g (completed m) r s (subst (λ x. IsUnordered g (completed x) r) same h) k

  from_same : (g : written.Grammar) (one other : Answer) → CoreFrom g one → CoreFrom g other → one ≡ other
  from_same = from_once one_limit orders_once good_is_not_stuck stuck_once

  cycle_same : (g : written.Grammar) (core : Grammar) (r s : Reason) → IsCycle g core r → IsCycle g core s → r ≡ s
  cycle_same g core r s h k =
      let same = one_loops core h.cycle k.cycle h.values k.values h.loops k.loops in
      let marks = one_limit core h.loops.marks k.loops.marks h.loops.limit k.loops.limit in
      let of_marks = subst (λ m. AreNotes g core m h.cycle (assigned h.values 0) h.notes) marks h.noted in
      let of_cycle = subst (λ c. AreNotes g core k.loops.marks c (assigned h.values 0) h.notes) same.0 of_marks in
      let of_length = subst (λ z. AreNotes g core k.loops.marks k.cycle z h.notes) same.1 of_cycle in
      let notes = noted_once g core k.loops.marks k.cycle (assigned k.values 0) h.notes k.notes of_length k.noted in
      h.is
      ∙ ap (λ cycle. cycle_reason g core cycle (assigned h.values 0) h.notes) same.0
      ∙ ap (λ eoi. cycle_reason g core k.cycle eoi h.notes) same.1
      ∙ ap (cycle_reason g core k.cycle (assigned k.values 0)) notes
      ∙ sym k.is

  refused_same : (g : written.Grammar) (r s : Reason) → IsRefused g r → IsRefused g s → r ≡ s
  refused_same g r s (inl h) (inl k) = without_same g r s h k
  refused_same g r s (inl h) (inr (core, is, k)) =
      let both = from_same g (Err r.said) (Ok core) (without_core g r h) is in
      absurd (cc)
  refused_same g r s (inr (core, is, h)) (inl k) =
      let both = from_same g (Ok core) (Err s.said) is (without_core g s k) in
      absurd (cc)
  refused_same g r s (inr (core, is, h)) (inr (other, too, k)) =
      let both = from_same g (Ok core) (Ok other) is too in
      let same : core ≡ other = cc in
      cycle_same g other r s (subst (λ x. IsCycle g x r) same h) k

  -- what is accepted isn't refused
  not_refused : (text : List ℕ) (core : Grammar) (r : Reason) → CoreOf text (Ok core) → Accepts core → Judged text (Some r) → ⊥
  not_refused text core r of accepts (inl h) =
      let none = subst (λ x. On x CoreFrom (Ok core)) (unread text r h) of in
      absurd (let both : Ok core ≡ Err r.said = none in cc)
  not_refused text core r of accepts (inr (g, is, h)) = by h
    where
      from : CoreFrom g (Ok core)
      from = subst (λ x. On x CoreFrom (Ok core)) is of

      by : IsRefused g r → ⊥
      by (inl k) = let both = from_same g (Ok core) (Err r.said) from (without_core g r k) in absurd (cc)
      by (inr (other, too, k)) =
          let both = from_same g (Ok core) (Ok other) from too in
          let same : core ≡ other = cc in
          loops_arent_accepted other k.cycle k.values k.loops (subst Accepts same accepts)

  pub judged_same : (text : List ℕ) (one other : Option Reason) → Judged text one → Judged text other → one ≡ other
  judged_same text None None h k = refl
  judged_same text None (Some s) (core, of, accepts) k = absurd (not_refused text core s of accepts k)
  judged_same text (Some r) None h (core, of, accepts) = absurd (not_refused text core r of accepts h)
  judged_same text (Some r) (Some s) (inl h) (inl k) =
      let reads : Err h.fault ≡ Err k.fault = sym h.reads ∙ k.reads in
      let fault : h.fault ≡ k.fault = cc in
      ap Some (h.is ∙ ap read_reason fault ∙ sym k.is)
  judged_same text (Some r) (Some s) (inl h) (inr (g, is, k)) = absurd (apart (grammar_in text) g r.said is (unread text r h))
  judged_same text (Some r) (Some s) (inr (g, is, h)) (inl k) = absurd (apart (grammar_in text) g s.said is (unread text s k))
  judged_same text (Some r) (Some s) (inr (g, is, h)) (inr (other, too, k)) =
      let same = same_grammar (grammar_in text) g other is too in
      ap Some (refused_same other r s (subst (λ x. IsRefused x r) same h) k)

  pub explains_same : (name text : List ℕ) (one other : Said) → Explains name text one → Explains name text other → one ≡ other
  explains_same name text one other (r, h, is) (s, k, too) = is ∙ ap (explained_said name text) (judged_same text r s h k) ∙ sym too

  core_same : (g : written.Grammar) (core other : Grammar) → CoreFrom g (Ok core) → CoreFrom g (Ok other) → core ≡ other
  core_same g core other h k = let both = from_same g (Ok core) (Ok other) h k in cc

  pub clears_same : (text : List ℕ) (one other : Result Cleared Reason) → Clears text one → Clears text other → one ≡ other
  clears_same text (Ok (g, core)) (Ok (h, other)) (is, from, accepts) (too, comes, also) =
      let grammar = same_grammar (grammar_in text) g h is too in
      let same = core_same h core other (subst (λ x. CoreFrom x (Ok core)) grammar from) comes in
      ap (λ x. Ok (x, core)) grammar ∙ ap (λ x. Ok (h, x)) same
  clears_same text (Ok (g, core)) (Err reason) (is, from, accepts) h = absurd (not_refused text core reason (of_text text g (Ok core) is from) accepts h)
  clears_same text (Err reason) (Ok (g, core)) h (is, from, accepts) = absurd (not_refused text core reason (of_text text g (Ok core) is from) accepts h)
  clears_same text (Err one) (Err other) h k = let both : Some one ≡ Some other = judged_same text (Some one) (Some other) h k in cc
