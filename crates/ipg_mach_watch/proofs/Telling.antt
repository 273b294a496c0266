-- Whether one alike is told, one by one.
use Rattle.std.proofs.Common.{◌≡◌, ℕ, suc, ◌+◌, ◌<◌, sym, ap, ◌∙◌, List, drop, length, true, false, add-one, drop-cons, slice_index_or}
use Rattle.std.specs.Prelude.{◌||◌}
use Rattle.ipg_mach_failures.specs.declared.failure.Failure.{Failure}
use Rattle.ipg_mach_failures.specs.declared.story.Story.{Story}
use Rattle.ipg_mach_failures.specs.Furthest.{alike, is_told}

module _ (told : List Story) (i : ℕ) (failure : Failure) (one : Story) (at : one ≡ slice_index_or told i one) (inside : i < length told)
    (same : is_told told failure ≡ is_told (drop i told) failure) where
  by_one : is_told told failure ≡ alike one.failure failure || is_told (drop (i + 1) told) failure
  by_one = same
      ∙ ap (λ l. is_told l failure) (drop-cons told i one inside)
      ∙ ap (λ (s : Story). alike s.failure failure || is_told (drop (suc i) told) failure) (sym at)
      ∙ ap (λ n. alike one.failure failure || is_told (drop n told) failure) (sym (add-one i))

  pub is_one : alike one.failure failure ≡ true → is_told told failure ≡ true
  is_one e = by_one ∙ ap (λ b. b || is_told (drop (i + 1) told) failure) e

  pub is_later : alike one.failure failure ≡ false → is_told told failure ≡ is_told (drop (i + 1) told) failure
  is_later e = by_one ∙ ap (λ b. b || is_told (drop (i + 1) told) failure) e
