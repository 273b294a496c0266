-- The furthest failures with one more, by how it lies to them.
use Rattle.std.proofs.Common.{◌≡◌, ℕ, ◌<◌, ◌≤◌, refl, ap, ◌∙◌, List, [], ◌∷◌, ◌++◌, Some, None, true, false, length}
use Rattle.std.specs.Prelude.{nat_lt}
use Rattle.std.proofs.lemmas.Bool.{lt-ltb, le-ltb}
use Rattle.std.proofs.lemmas.Option.{same_Some}
use Rattle.ipg_mach_failures.specs.declared.story.Story.{Story}
use Rattle.ipg_mach_failures.specs.Furthest.{Furthest, is_told, only, with_one, further, after}
use Rattle.ipg_mach_watch.specs.Told.{told_place}

pub pushed : (items told before : List Story) (x one : Story) → items ≡ told ++ x ∷ [] → told ≡ before → x ≡ one → items ≡ before ++ one ∷ []
pushed items told before x one is same so = is ∙ ap (λ l. l ++ x ∷ []) same ∙ ap (λ (s : Story). before ++ s ∷ []) so

module _ (f : Furthest) (one : Story) where
  pub appended : is_told f.told one.failure ≡ false → length f.told < 8 → with_one f one ≡ record { told = f.told ++ one ∷ []; more = f.more }
  appended new few = let lt : nat_lt (length f.told) 8 ≡ true = lt-ltb (length f.told) 8 few in rw new (rw lt refl)

  pub farther : (place : ℕ) → place ≤ one.failure.place → place < one.failure.place → further f place one ≡ only one
  farther place most less =
      let a : nat_lt one.failure.place place ≡ false = le-ltb one.failure.place place most in
      let b : nat_lt place one.failure.place ≡ true = lt-ltb place one.failure.place less in
      rw a (rw b refl)

  pub there : (place : ℕ) → place ≤ one.failure.place → one.failure.place ≤ place → further f place one ≡ with_one f one
  there place most least =
      let a : nat_lt one.failure.place place ≡ false = le-ltb one.failure.place place most in
      let b : nat_lt place one.failure.place ≡ false = le-ltb place one.failure.place least in
      rw a (rw b refl)

  pub after_some : (told : List Story) (place : ℕ) → Some place ≡ told_place told → after f told one ≡ further f place one
  after_some [] place e = absurd (cc)
  after_some (first ∷ told) place e = let is = same_Some place first.failure.place e in rw is refl

  pub after_none : (told : List Story) → None ≡ told_place told → after f told one ≡ only one
  after_none [] e = refl
  after_none (first ∷ told) e = absurd (cc)
