-- What a session answers where some keys are kept, and which keys are kept then.
use Rattle.std.specs.Prelude.{◌≡◌, ℕ, ◌+◌, ◌-◌, ◌^◌, min, List, [], ◌∷◌, ◌++◌, length, Result, Ok, Err}
use Rattle.ipg_core.specs.Grammar.{Grammar}
use Rattle.ipg_core.specs.Tree.{Tree}
use Rattle.ipg_core.specs.Run.{Stop, NoTree, OutOfRange}
use Rattle.ipg_core.specs.Meaning.{den, Means}
use Rattle.ipg_mach_moves.specs.Moves.{Key}
use Rattle.ipg_mach_count_laws.specs.Counts.{calls_by}
use Rattle.ipg_mach_count_laws.specs.Depth.{nested}
use Rattle.ipg_mach_count_laws.specs.Kept.{IsFresh}
use Rattle.ipg_table.specs.Rows.{Rows}
use Rattle.ipg_tree_walk.specs.declared.parsed.Counts.{Counts}
use Rattle.ipg_mach.specs.declared.verdict.Verdict.{Verdict}
use Rattle.ipg_mach.specs.declared.verdict.Verdict.TheVariants as verdict
use Rattle.ipg_edit.specs.declared.session.Answer as code
use Rattle.ipg_edit.specs.declared.session.Answer.TheVariants as answer
use Rattle.ipg_edit.specs.Session.{Seen, Holding, Knows, Shows}

-- so many calls were open at most where these keys had to run: none where none had to
abbrev pub deepest : Grammar → List ℕ → ℕ → (kept keys : List Key) → ℕ
deepest g s height kept [] = 0
deepest g s height kept (key ∷ keys) = (nested g height kept 0 0 s []).most

-- so many keys had to run, and what they called was known or had to run; a count above 2^64 - 1 is given as that
pub record AreCounts (g : Grammar) (s : List ℕ) (height : ℕ) (kept keys : List Key) (counts : Counts) : Type 0 where
  pub bodies : counts.bodies ≡ min (length keys) (2 ^ 64 - 1)
  pub hits : counts.hits ≡ min (1 + calls_by g s height keys - length keys) (2 ^ 64 - 1)
  pub deepest : counts.deepest ≡ min (deepest g s height kept keys) (2 ^ 64 - 1)

-- the answer is what the grammar means; the keys that had to run are known too then, and a tree is shown
abbrev pub IsAnswer : code.Answer → (g : Grammar) → Result Tree Stop → (kept keys : List Key) → Seen → Type 0
IsAnswer (answer.Tree counts) g means kept keys s = (one : Tree) × (means ≡ Ok one) × Knows g (keys ++ kept) s × Shows one s
IsAnswer (answer.NoTree counts) g means kept keys s = (means ≡ Err NoTree) × Knows g (keys ++ kept) s
IsAnswer (answer.Range counts) g means kept keys s = (means ≡ Err OutOfRange) × Knows g [] s

-- what is answered where a parse comes to this
abbrev pub answer_by : {A : Type 0} → Verdict A → code.Answer
answer_by (verdict.Tree root counts kept) = answer.Tree counts
answer_by (verdict.NoTree counts kept) = answer.NoTree counts
answer_by (verdict.Range counts) = answer.Range counts

abbrev pub counts_in : code.Answer → Counts
counts_in (answer.Tree counts) = counts
counts_in (answer.NoTree counts) = counts
counts_in (answer.Range counts) = counts

-- the answer of an input where these keys are kept, with the keys that had to run
pub record Answers (g : Grammar) (input : List ℕ) (kept : List Key) (answer : Result Tree Stop) (given : code.Answer) (s : Seen) : Type 0 where
  pub height : ℕ
  pub means : den g height 0 input [] ≡ answer
  pub keys : List Key
  pub fresh : IsFresh g input height kept keys
  pub counts : AreCounts g input height kept keys (counts_in given)
  pub is : IsAnswer given g answer kept keys s

-- over what is held this is answered, and this is held then, whatever the grammar is
pub record AreAnswers (t : Rows) (s : List ℕ) (h : Holding) (given : code.Answer) (later : Holding) : Type 0 where
  pub answers : (g : Grammar) (kept : List Key) (answer : Result Tree Stop) → Knows g kept (record { tables = t; input = s; holding = h })
      → Means g s answer → Answers g s kept answer given (record { tables = t; input = s; holding = later })
