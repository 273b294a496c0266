-- A text is of the language that it is read for, or has a first byte with which nothing of that goes on.
use Rattle.std.proofs.Common.{◌≡◌, ℕ, zero, suc, ◌+◌, ◌<◌, ◌≤◌, ◌⊎◌, inl, inr, refl, subst, arith, List, [], ◌∷◌, length, take, None}
use Rattle.ipg_reader.specs.Faults.{Continues, IsFirstFault}
use Rattle.ipg_query_path.specs.declared.path.Query.{Query}
use Rattle.ipg_query_path.specs.declared.path.Step.TheVariants.{Children}
use Rattle.ipg_query_path.specs.Paths.{path_text, FitsPath, IsPath}
use Rattle.ipg_app_reply_laws.proofs.Classical.{Somehow, some, ◌>>=◌, by, middle, not_not, First, first_below, NoneBelow}

-- ---- the first byte at fault

-- so many bytes are gone on from, with the next one no more
pub record FirstFault (GoesOn : List ℕ → Type 0) (text : List ℕ) : Type 0 where
  pub at : ℕ
  pub within : at ≤ length text
  pub before : GoesOn (take at text)
  pub there : at < length text → GoesOn (take (at + 1) text) → ⊥

module _ (GoesOn : List ℕ → Type 0) (from_none : GoesOn []) (text : List ℕ) where
  abbrev Breaks : ℕ → Type 0
  Breaks n = GoesOn (take (n + 1) text) → ⊥

  begins : (n : ℕ) → NoneBelow Breaks n → Somehow (GoesOn (take n text))
  begins zero none = some from_none
  begins (suc n) none = do
    goes ← not_not (none n (omega arith))
    some (subst (λ m. GoesOn (take m text)) (let e : n + 1 ≡ suc n = omega arith in e) goes)

  at_fault : (f : First Breaks) → f.at < length text → Somehow (FirstFault GoesOn text)
  at_fault f lt = do
    goes ← begins f.at f.before
    some (record { at = f.at; within = omega (arith, lt); before = goes; there = λ in_text. f.holds })

  pub first_fault : Somehow (FirstFault GoesOn text)
  first_fault = do
    found ← first_below Breaks (length text)
    by found (λ f. at_fault f.0 f.1) (λ none. do
      goes ← begins (length text) none
      some (record { at = length text; within = omega arith; before = goes; there = λ lt. absurd (omega (arith, lt)) }))

-- ---- paths

-- `*`
abbrev all_children : Query
all_children = record { steps = Children ∷ []; field = None }

path_from_none : Continues FitsPath path_text []
path_from_none = (all_children, 42 ∷ [], record { some = omega arith; steps = (tt, tt); field = tt }, refl)

pub reads_path : (text : List ℕ) → Somehow (((q : Query) × IsPath q text) ⊎ ((at : ℕ) × IsFirstFault FitsPath path_text text at))
reads_path text = do
  whole ← middle ((q : Query) × IsPath q text)
  by whole (λ is. some (inl is)) (λ none. do
    f ← first_fault (Continues FitsPath path_text) path_from_none text
    some (inr (
      f.at,
      record {
        within = f.within;
        before = f.before;
        there = f.there;
        ends = λ q fits e. none (q, record { fits = fits; written = e });
      },
    )))
