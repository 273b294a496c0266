-- A run of what is due is a run of the machine that counts: the same fault, and rows that lead to its counts.
use Rattle.std.proofs.Common.{◌≡◌, ℕ, ◌+◌, List, [], ◌∷◌, Option, Some, None, Result, Ok, Err, refl, ap, ◌∙◌, sym, subst}
use Rattle.ipg_read_syntax.specs.Classes.{Tok}
use Rattle.ipg_read_syntax.specs.Machine as M
use Rattle.ipg_read_syntax.specs.Counting.{Seen, counters}
use Rattle.ipg_read_scan.specs.Rowed.{Row}
use Rattle.ipg_read_scan.specs.Asked as A
use Rattle.ipg_read.specs.Counted.{Counts, notes}
use Rattle.ipg_read.proofs.Dues.{site_due, pos_due}
use Rattle.ipg_read.proofs.Ends.{part_end}
use Rattle.ipg_read.proofs.CountSteps.{Agrees, counts_at, move_agrees, notes_append}

abbrev pub Counted : Counts → Result (List Row) ℕ → Result (M.Read counters) ℕ → Type 0
Counted c (Ok rows) (Ok r) = (notes rows c).seen ≡ r.log
Counted c (Err m) (Err n) = m ≡ n
Counted c x y = ⊥

counted_then : (rows : List Row) (c : Counts) (x : Result (List Row) ℕ) (y : Result (M.Read counters) ℕ) → Counted (notes rows c) x y
    → Counted c (A.rows_then rows x) y
counted_then rows c (Ok more) (Ok r) counted = ap (λ c. c.seen) (notes_append rows more c) ∙ counted
counted_then rows c (Ok more) (Err n) counted = absurd counted
counted_then rows c (Err m) (Ok r) counted = absurd counted
counted_then rows c (Err m) (Err n) counted = counted

ended_counts : (at : ℕ) (log : Seen) (pos : M.Pos counters) → Counted (counts_at log pos) (A.ended at (pos_due pos)) (M.ending at log pos)
ended_counts at log M.start = refl
ended_counts at log (M.between rs) = refl
ended_counts at log (M.rule_named rs i) = refl
ended_counts at log (M.local_named h ts ls i) = refl
ended_counts at log (M.before_term site) = refl
ended_counts at log (M.in_term site ts p) = subst (λ x. Counted (counts_at log (M.in_term site ts p)) x (Err at)) (sym (part_end at p (site_due site))) refl
ended_counts at log (M.after_term site ts) = refl
ended_counts at log (M.where_named h ts) = refl
ended_counts at log (M.before_local h ts) = refl
ended_counts at log (M.after_local h ts ls) = refl
ended_counts at log (M.after_where h) = refl

module _ (ts : List Tok) (at : ℕ) where
  -- the tokens that are left
  abbrev Later : M.State counters → Type 0
  Later s = Counted (counts_at s.log s.pos) (A.run (at + 1) (pos_due s.pos) ts) (M.verdict counters (at + 1) s ts)

  one_more : (p : Counts) (s : A.Step) (o : Option (M.State counters)) → Agrees p s o → ((s : M.State counters) → Later s)
      → Counted p (A.proceed at s (λ next. A.run (at + 1) next ts)) (M.onward at o (λ next. M.verdict counters (at + 1) next ts))
  one_more p A.lost None agrees later = refl
  one_more p A.lost (Some s) agrees later = absurd agrees
  one_more p (A.moved rows due) None agrees later = absurd agrees
  one_more p (A.moved rows due) (Some s) agrees later =
      counted_then rows p (A.run (at + 1) due ts) (M.verdict counters (at + 1) s ts)
      (subst (λ d. Counted (notes rows p) (A.run (at + 1) d ts) (M.verdict counters (at + 1) s ts)) (sym agrees.0)
      (subst (λ q. Counted q (A.run (at + 1) (pos_due s.pos) ts) (M.verdict counters (at + 1) s ts)) (sym agrees.1) (later s)))

pub runs_count : (ts : List Tok) (at : ℕ) (log : Seen) (pos : M.Pos counters)
    → Counted (counts_at log pos) (A.run at (pos_due pos) ts) (M.verdict counters at (record { log = log; pos = pos }) ts)
runs_count [] at log pos = ended_counts at log pos
runs_count (t ∷ ts) at log pos = one_more ts at (counts_at log pos) (A.advance at t (pos_due pos)) (M.move counters at log pos t) (move_agrees at log pos t)
    (λ s. runs_count ts (at + 1) s.log s.pos)
