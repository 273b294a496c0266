-- A run of what is due is a run of the machine that makes: the same fault, and rows that lead to the rules that it makes.
use Rattle.std.proofs.Common.{◌≡◌, ℕ, ◌+◌, List, [], ◌∷◌, Option, Some, None, Result, Ok, Err, refl, ap, ◌∙◌, sym, subst}
use Rattle.ipg_read_syntax.specs.Classes.{Tok}
use Rattle.ipg_read_syntax.specs.Machine as M
use Rattle.ipg_read_syntax.specs.Making.{made}
use Rattle.ipg_read_scan.specs.Rowed.{Row}
use Rattle.ipg_read_scan.specs.Asked as A
use Rattle.ipg_read.specs.Built.{Parts, makes}
use Rattle.ipg_read.proofs.Dues.{site_due, pos_due}
use Rattle.ipg_read.proofs.Ends.{part_end}
use Rattle.ipg_read.proofs.MadeSteps.{Agrees, parts_at, move_agrees, makes_append}

abbrev pub Makes : Parts → Result (List Row) ℕ → Result (M.Read made) ℕ → Type 0
Makes c (Ok rows) (Ok r) = (makes rows c).rules ≡ r.rules
Makes c (Err m) (Err n) = m ≡ n
Makes c x y = ⊥

made_then : (rows : List Row) (c : Parts) (x : Result (List Row) ℕ) (y : Result (M.Read made) ℕ) → Makes (makes rows c) x y → Makes c (A.rows_then rows x) y
made_then rows c (Ok more) (Ok r) counted = ap (λ c. c.rules) (makes_append rows more c) ∙ counted
made_then rows c (Ok more) (Err n) counted = absurd counted
made_then rows c (Err m) (Ok r) counted = absurd counted
made_then rows c (Err m) (Err n) counted = counted

ended_makes : (at : ℕ) (pos : M.Pos made) → Makes (parts_at pos) (A.ended at (pos_due pos)) (M.ending at tt pos)
ended_makes at M.start = refl
ended_makes at (M.between rs) = refl
ended_makes at (M.rule_named rs i) = refl
ended_makes at (M.local_named h ts ls i) = refl
ended_makes at (M.before_term site) = refl
ended_makes at (M.in_term site ts p) = subst (λ x. Makes (parts_at (M.in_term site ts p)) x (Err at)) (sym (part_end at p (site_due site))) refl
ended_makes at (M.after_term site ts) = refl
ended_makes at (M.where_named h ts) = refl
ended_makes at (M.before_local h ts) = refl
ended_makes at (M.after_local h ts ls) = refl
ended_makes at (M.after_where h) = refl

module _ (ts : List Tok) (at : ℕ) where
  -- the tokens that are left
  abbrev Later : M.State made → Type 0
  Later s = Makes (parts_at s.pos) (A.run (at + 1) (pos_due s.pos) ts) (M.verdict made (at + 1) s ts)

  one_more : (p : Parts) (s : A.Step) (o : Option (M.State made)) → Agrees p s o → ((s : M.State made) → Later s)
      → Makes p (A.proceed at s (λ next. A.run (at + 1) next ts)) (M.onward at o (λ next. M.verdict made (at + 1) next ts))
  one_more p A.lost None agrees later = refl
  one_more p A.lost (Some s) agrees later = absurd agrees
  one_more p (A.moved rows due) None agrees later = absurd agrees
  one_more p (A.moved rows due) (Some s) agrees later =
      made_then rows p (A.run (at + 1) due ts) (M.verdict made (at + 1) s ts)
      (subst (λ d. Makes (makes rows p) (A.run (at + 1) d ts) (M.verdict made (at + 1) s ts)) (sym agrees.0)
      (subst (λ q. Makes q (A.run (at + 1) (pos_due s.pos) ts) (M.verdict made (at + 1) s ts)) (sym agrees.1) (later s)))

pub runs_made : (ts : List Tok) (at : ℕ) (pos : M.Pos made)
    → Makes (parts_at pos) (A.run at (pos_due pos) ts) (M.verdict made at (record { log = tt; pos = pos }) ts)
runs_made [] at pos = ended_makes at pos
runs_made (t ∷ ts) at pos = one_more ts at (parts_at pos) (A.advance at t (pos_due pos)) (M.move made at tt pos t) (move_agrees at pos t)
    (λ s. runs_made ts (at + 1) s.pos)
