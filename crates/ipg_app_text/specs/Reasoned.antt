-- Reasons and what is said for them: each is that of a refusal.
use Rattle.std.proofs.Common.{◌≡◌, ℕ, inl, inr, List}
use Rattle.std.proofs.Common.{Result, Ok, Err, refl, sym, ap, ◌∙◌, subst}
use Rattle.ipg_ast.specs.declared.grammar.Grammar as written
use Rattle.ipg_core.specs.Grammar.{Grammar}
use Rattle.ipg_complete.specs.Unordered.{Unordered}
use Rattle.ipg_complete.specs.Completion.{completed}
use Rattle.ipg_names.specs.declared.fault.NameFault.{NameFault}
use Rattle.ipg_names.specs.declared.fault.NameFault.TheVariants as name
use Rattle.ipg_names.specs.Resolved.{Resolved, names_of}
use Rattle.ipg_read_tokens.specs.declared.fault.ReadFault.{ReadFault}
use Rattle.ipg_read_tokens.specs.declared.fault.ReadFault.TheVariants as read
use Rattle.ipg_app_text.specs.Said.{Said}
use Rattle.ipg_app_text.specs.Refusal.{fault_said, name_said}
use Rattle.ipg_app_text.specs.CoreOf.{Answer, Circles, On, grammar_in, or_fault, resolved, unless_fault, unless_loose}
use Rattle.ipg_app_text.specs.CoreOf.{Orders, OrdersAndTouches, CoreFrom, CoreOf}
use Rattle.ipg_app_text.specs.Reasons.{Reason, read_reason, name_reason, CoreOrReason}
use Rattle.ipg_app_text.specs.Reasons.{IsUnnamed, IsUnordered, IsUnread}
use Rattle.ipg_app_text.specs.declared.early.Early.{Early}
use Rattle.ipg_app_text.specs.declared.said.Settled.{Settled}
use Rattle.ipg_app_text.specs.Early.{AnswersOrSays}
use Rattle.ipg_app_text.specs.Lines.{said_of}
use Rattle.ipg_app_text.specs.Instead.{answers_on}
use Rattle.ipg_app_text.specs.CoreOf.{Touches}

pub from_ordered : (c : Unordered) (g : Grammar) (answer : Answer) → Orders c (Ok g) → Touches g answer → OrdersAndTouches c answer
from_ordered c g answer h k = record { ordered = Ok g; orders = h; touches = k }

pub from_unordered : (c : Unordered) (said : Said) → Circles c said → OrdersAndTouches c (Err said)
from_unordered c said h = record { ordered = Err said; orders = h; touches = refl }

said_of_name : (fault : NameFault) → (name_reason fault).said ≡ name_said fault
said_of_name (name.DuplicateRule at) = refl
said_of_name (name.UnknownRule at) = refl
said_of_name (name.DuplicateAttr at) = refl
said_of_name (name.UnknownAttr at) = refl
said_of_name (name.PartAttr at) = refl
said_of_name (name.NoOccurrence at) = refl
said_of_name name.Memory = refl

said_of_read : (fault : ReadFault) → (read_reason fault).said ≡ fault_said fault
said_of_read read.TooLong = refl
said_of_read (read.Lex at) = refl
said_of_read (read.Number at) = refl
said_of_read (read.Syntax at) = refl
said_of_read (read.Limit which at) = refl
said_of_read read.Memory = refl

abbrev Behind : Resolved → Answer → Type 0
Behind n answer = OrdersAndTouches (completed n) answer

unnamed : (g : written.Grammar) (r : Reason) → IsUnnamed g r → resolved g ≡ Err r.said
unnamed g r h =
    let said : r.said ≡ name_said h.fault = ap (λ (x : Reason). x.said) h.is ∙ said_of_name h.fault in
    ap (λ f. unless_fault f (names_of g)) h.first ∙ ap Err (sym said)

disordered : (g : written.Grammar) (c : Unordered) (r : Reason) → IsUnordered g c r → OrdersAndTouches c (Err r.said)
disordered g c r (inl h) =
    from_unordered c r.said (record { at = h.at; term = h.term; first = h.first; is = ap (λ (x : Reason). x.said) h.is })
disordered g c r (inr (core, orders, h)) = from_ordered c core (Err r.said) orders (record {
  marks = h.marks;
  limit = h.limit;
  is = ap (λ (x : Reason). Err x.said) h.is ∙ sym (ap (unless_loose core) h.found);
})

pub without_core : (g : written.Grammar) (r : Reason) → CoreOrReason g (Err r) → CoreFrom g (Err r.said)
without_core g r (inl h) = subst (λ x. On x Behind (Err r.said)) (sym (unnamed g r h)) refl
without_core g r (inr (n, is, h)) = subst (λ x. On x Behind (Err r.said)) (sym is) (disordered g (completed n) r h)

-- what comes of the completed grammar comes of the grammar as it is written
pub core_behind : (g : written.Grammar) (n : Resolved) (c : Unordered) (core : Grammar) → resolved g ≡ Ok n → c ≡ completed n
    → OrdersAndTouches c (Ok core) → CoreOrReason g (Ok core)
core_behind g n c core is same h =
    let behind = subst (λ x. OrdersAndTouches x (Ok core)) same h in
    subst (λ x. On x Behind (Ok core)) (sym is) behind

pub reason_behind : (g : written.Grammar) (n : Resolved) (c : Unordered) (r : Reason) → resolved g ≡ Ok n → c ≡ completed n → IsUnordered g c r
    → CoreOrReason g (Err r)
reason_behind g n c r is same h = inr (n, is, subst (λ x. IsUnordered g x r) same h)

pub of_text : (text : List ℕ) (g : written.Grammar) (answer : Answer) → grammar_in text ≡ Ok g → CoreFrom g answer → CoreOf text answer
of_text text g answer is h = subst (λ r. On r CoreFrom answer) (sym is) h

-- what is known of a grammar's core is known of that of the grammar's text
pub text_reads : (text : List ℕ) (g : written.Grammar) (r : Result Grammar (Early Settled)) → grammar_in text ≡ Ok g
    → AnswersOrSays r (λ core. CoreFrom g (Ok core)) (λ s. CoreFrom g (Err (said_of s)))
    → AnswersOrSays r (λ core. CoreOf text (Ok core)) (λ s. CoreOf text (Err (said_of s)))
text_reads text g r is h =
    answers_on r (λ core. CoreFrom g (Ok core)) (λ core. CoreOf text (Ok core)) (λ s. CoreFrom g (Err (said_of s))) (λ s. CoreOf text (Err (said_of s)))
    (λ core h. of_text text g (Ok core) is h) (λ s h. of_text text g (Err (said_of s)) is h) h

pub unreadable : (text : List ℕ) (said : Said) → grammar_in text ≡ Err said → CoreOf text (Err said)
unreadable text said is = subst (λ r. On r CoreFrom (Err said)) (sym is) refl

pub unread : (text : List ℕ) (r : Reason) → IsUnread text r → grammar_in text ≡ Err r.said
unread text r h =
    let said : r.said ≡ fault_said h.fault = ap (λ (x : Reason). x.said) h.is ∙ said_of_read h.fault in
    ap or_fault h.reads ∙ ap Err (sym said)
