-- `check` says one thing of a name of which something is told.
use Rattle.std.proofs.Common.{◌≡◌, ◌≢◌, ℕ, ◌⊎◌, inl, inr, List, Ok, Err, Option, Some, None, refl, sym, ◌∙◌, subst}
use Rattle.ipg_outside.specs.Files.{Told, untold, absent, holds, MayHold}
use Rattle.ipg_core.specs.Grammar.{Grammar}
use Rattle.ipg_app_text.specs.Said.{Said, read_fault}
use Rattle.ipg_app_text.specs.CoreOf.{Answer, CoreOf}
use Rattle.ipg_app_grammar.specs.Checks.{Checks}
use Rattle.ipg_app_text.specs.Order.{Order, Answers, only, have, finds}
use Rattle.ipg_formats.specs.declared.Kind.{Kind}
use Rattle.ipg_formats.specs.Names.{kind_of}
use Rattle.ipg_formats.specs.Text.{text_of}
use Rattle.ipg_app_text.specs.Steps.{text_by, core_of}
use Rattle.ipg_app_grammar.specs.Commands.{check}
use Rattle.ipg_app.specs.Laws.{OneCore, OneCheck, OneVerdict}

-- one value is found, and one thing is said behind it
once : (told : List ℕ → Told) (P : Answer → Type 0) (next : Grammar → Order) (one other : Said)
    → ((x y : Answer) → P x → P y → x ≡ y) → ((g : Grammar) → Answers told (next g) one → Answers told (next g) other → one ≡ other)
    → Answers told (finds P (λ answer. have answer next)) one → Answers told (finds P (λ answer. have answer next)) other → one ≡ other
once told P next one other same then (x, p, a) (y, q, b) =
    by x a (subst (λ z. Answers told (have z next) other) (same y x q p) b)
  where
    by : (z : Answer) → Answers told (have z next) one → Answers told (have z next) other → one ≡ other
    by (Ok g) a b = then g a b
    by (Err said) a b = a ∙ sym b

-- the bytes that a name holds are one list, or it is absent
told_once : (t : Told) (P Q : List ℕ → Type 0) (A B R : Type 0) → t ≢ untold
    → ((bytes : List ℕ) → P bytes → Q bytes → R) → (A → B → R)
    → ((t ≡ absent) × A) ⊎ ((bytes : List ℕ) × MayHold t bytes × P bytes)
    → ((t ≡ absent) × B) ⊎ ((bytes : List ℕ) × MayHold t bytes × Q bytes) → R
told_once untold P Q A B R known held none a b = absurd (known refl)
told_once absent P Q A B R known held none (inl a) (inl b) = none a.1 b.1
told_once absent P Q A B R known held none (inl a) (inr b) = absurd b.1
told_once absent P Q A B R known held none (inr a) b = absurd a.1
told_once (holds bytes) P Q A B R known held none (inl a) b = absurd (cc)
told_once (holds bytes) P Q A B R known held none (inr a) (inl b) = absurd (cc)
told_once (holds bytes) P Q A B R known held none (inr a) (inr b) = held bytes (subst P a.1 a.2) (subst Q b.1 b.2)

module _ (one_core : OneCore) (one_check : OneCheck) (told : List ℕ → Told) (one other : Said) where
  of_text : (text : List ℕ) → Answers told (core_of text check) one → Answers told (core_of text check) other → one ≡ other
  of_text text = once told (CoreOf text) check one other (one_core text)
      (λ g p q. once told (Checks g) (λ same. only _) one other (one_check g) (λ same h k. h ∙ sym k) p q)

  under : (k : Option Kind) (name : List ℕ) → told name ≢ untold → Answers told (text_by k name (λ text. core_of text check)) one
      → Answers told (text_by k name (λ text. core_of text check)) other → one ≡ other
  under (Some kind) name known a b = of_text (text_of kind) a b
  under None name known a b =
      told_once (told name) (λ text. Answers told (core_of text check) one) (λ text. Answers told (core_of text check) other)
      (one ≡ read_fault) (other ≡ read_fault) (one ≡ other) known of_text (λ h k. h ∙ sym k) a b

pub one_verdict : OneCore → OneCheck → OneVerdict
one_verdict one_core one_check told name one other known a b = under one_core one_check told one other (kind_of name) name known a b
