-- The totals are all 0 exactly where no variable of the sum is left.
use Rattle.std.proofs.Common.{◌≡◌, ℕ, zero, suc, ◌≤◌, ◌^◌, Bool, true, false, ◌&&◌, nat_le, ℤ, pos, List, [], ◌∷◌, length, refl, sym, ◌∙◌, ap, inl, inr}
use Rattle.std.specs.Prelude.{Option, None, Some, int_lt}
use Rattle.std.specs.List.{list_all}
use Rattle.std.specs.Ordering.{int_eq}
use borrow.Author.Tests.{le-leb}
use Rattle.std.proofs.lemmas.Bool.Decides.{Decides-int_eq}
use Rattle.ipg_lin.specs.Form.{Form}
use Rattle.ipg_cert.specs.Facts.{Fact}
use Rattle.ipg_cert.specs.Checks.{coefficient, weighted_sum, is_absurd, combines}
use Rattle.ipg_cert.specs.Laws.{CancelledIsAbsurd}
use Rattle.ipg_cert.specs.Totals.{total_at}
use Rattle.ipg_cert.specs.Seen.{AreZero, Sums}
use Rattle.std.proofs.lemmas.Bool.{and_parts}
use Rattle.ipg_cert.proofs.Sums.{zero_or_absent}

-- every total is 0, as the code tests it
abbrev pub none_left : List ℤ → Bool
none_left totals = list_all (λ (z : ℤ). int_eq z (pos 0)) totals

abbrev none_in : List (ℕ × ℤ) → List (ℕ × ℤ) → Bool
none_in all ts = list_all (λ (t : ℕ × ℤ). int_eq (coefficient t.0 all) (pos 0)) ts

same_bool : (a b : Bool) → (a ≡ true → b ≡ true) → (b ≡ true → a ≡ true) → a ≡ b
same_bool true b f g = sym (f refl)
same_bool false true f g = g refl
same_bool false false f g = refl

zero_totals : (totals : List ℤ) → none_left totals ≡ true → AreZero totals
zero_totals [] h x = refl
zero_totals (z ∷ totals) h zero = (Decides-int_eq z (pos 0)).0 (and_parts (int_eq z (pos 0)) (none_left totals) h).0
zero_totals (z ∷ totals) h (suc x) = zero_totals totals (and_parts (int_eq z (pos 0)) (none_left totals) h).1 x

left_zero : (totals : List ℤ) → AreZero totals → none_left totals ≡ true
left_zero [] h = refl
left_zero (z ∷ totals) h = ap (λ b. b && none_left totals) ((Decides-int_eq z (pos 0)).1 (h 0)) ∙ left_zero totals (λ x. h (suc x))

in_zero : (all ts : List (ℕ × ℤ)) → ((x : ℕ) → coefficient x all ≡ pos 0) → none_in all ts ≡ true
in_zero all [] h = refl
in_zero all (t ∷ ts) h = ap (λ b. b && none_in all ts) ((Decides-int_eq (coefficient t.0 all) (pos 0)).1 (h t.0)) ∙ in_zero all ts h

pub cancelled_is_absurd : CancelledIsAbsurd
cancelled_is_absurd form none above = ap (λ b. b && int_lt (pos 0) form.constant) (in_zero form.terms form.terms none) ∙ above

same_zero : (totals : List ℤ) (ts : List (ℕ × ℤ)) → ((x : ℕ) → total_at totals x ≡ coefficient x ts) → none_left totals ≡ none_in ts ts
same_zero totals ts stands = same_bool (none_left totals) (none_in ts ts)
    (λ h. in_zero ts ts (λ x. sym (stands x) ∙ zero_totals totals h x))
    (λ h. left_zero totals (λ x. stands x ∙ elim (zero_or_absent ts ts h x) [ inl z ↦ z | inr z ↦ z ]))

judged_sum : (totals : List ℤ) (constant : ℤ) (o : Option Form) → Sums totals (Some constant) o → (none_left totals && int_lt (pos 0) constant) ≡ is_absurd o
judged_sum totals constant None h = absurd h
judged_sum totals constant (Some form) h =
    ap (λ b. b && int_lt (pos 0) constant) (same_zero totals form.terms h.0) ∙ ap (λ z. none_in form.terms form.terms && int_lt (pos 0) z) h.1

pub judged : (facts : List Fact) (entries : List (ℕ × ℕ)) (totals : List ℤ) (constant : ℤ) → 1 ≤ length entries → length entries ≤ 2 ^ 21
    → Sums totals (Some constant) (weighted_sum facts entries)
    → (none_left totals && int_lt (pos 0) constant) ≡ combines entries facts
judged facts entries totals constant some few h =
    judged_sum totals constant (weighted_sum facts entries) h
    ∙ sym (ap (λ b. b && (nat_le (length entries) (2 ^ 21) && is_absurd (weighted_sum facts entries))) (le-leb 1 (length entries) some)
    ∙ ap (λ b. b && is_absurd (weighted_sum facts entries)) (le-leb (length entries) (2 ^ 21) few))
