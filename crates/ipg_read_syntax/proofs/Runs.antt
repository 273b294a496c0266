-- Runs of the machine: what a whole run takes is spelled by the tree that it gives, and where it stops no run goes on.
use Rattle.std.proofs.Common.{◌≡◌, ℕ, ◌+◌, List, [], ◌∷◌, ◌++◌, length, Option, Some, None, Result, Ok, Err, refl, ap, ◌∙◌, sym, append-nil, arith, subst}
use Rattle.ipg_read_tokens.specs.declared.token.Token.{Token}
use Rattle.ipg_read_syntax.specs.Classes.{Tok, class_of, classes}
use Rattle.ipg_read_syntax.specs.Written.{Toks, RuleTree, spell, Fits}
use Rattle.ipg_read_syntax.specs.Machine
use Rattle.ipg_read_syntax.specs.Machine.{Pos, State, Read, onward, verdict}
use Rattle.ipg_read_syntax.specs.Making.{trees}
use Rattle.ipg_read_syntax.proofs.Taken.{pos_before, KeptPos, Next, StateNext}
use Rattle.ipg_read_syntax.proofs.KeepsRules.{move_keeps}

abbrev pub OnGood : {R : Type 0} → (R → Type 0) → Result R ℕ → Type 0
OnGood P (Ok r) = P r
OnGood P (Err n) = Unit {0}

abbrev pub OnBad : {R : Type 0} → (ℕ → Type 0) → Result R ℕ → Type 0
OnBad P (Ok r) = Unit {0}
OnBad P (Err n) = P n

-- ---- what is taken

-- the tokens are those of the tree
pub record Spelled (toks : Toks) (rs : List RuleTree) : Type 0 where
  pub fits : Fits rs
  pub same : toks ≡ spell rs

ending_spelled : (at : ℕ) (log : _) (pos : Pos trees) → KeptPos pos → OnGood (λ r. Spelled (pos_before pos []) r.rules) (Machine.ending {A = trees} at log pos)
ending_spelled at log (Machine.between rs) kept = record { fits = kept; same = append-nil (spell rs) }
ending_spelled at log pos kept = tt

onward_spelled : (at : ℕ) (before : Toks → Toks) (t : Tok) (ts : Toks) (o : Option (State trees)) (k : State trees → Result (Read trees) ℕ)
    → Next (StateNext before t) o
    → ((s : State trees) → KeptPos s.pos → OnGood (λ r. Spelled (pos_before s.pos ts) r.rules) (k s))
    → OnGood (λ r. Spelled (before (t ∷ ts)) r.rules) (onward at o k)
onward_spelled at before t ts (Some s) k next rest = moved (k s) (rest s next.kept)
  where
    moved : (v : Result (Read trees) ℕ) → OnGood (λ r. Spelled (pos_before s.pos ts) r.rules) v → OnGood (λ r. Spelled (before (t ∷ ts)) r.rules) v
    moved (Ok r) spelled = record { fits = spelled.fits; same = next.same ts ∙ spelled.same }
    moved (Err n) spelled = tt
onward_spelled at before t ts None k next rest = tt

pub run_spelled : (ts : Toks) (at : ℕ) (s : State trees) → KeptPos s.pos → OnGood (λ r. Spelled (pos_before s.pos ts) r.rules) (verdict trees at s ts)
run_spelled [] at s kept = ending_spelled at s.log s.pos kept
run_spelled (t ∷ ts) at s kept =
    onward_spelled at (pos_before s.pos) t ts (Machine.step trees at s t) (λ next. verdict trees (at + 1) next ts) (move_keeps at s.log s.pos t kept)
    (λ next next_kept. run_spelled ts (at + 1) next next_kept)

-- ---- where it stops

-- some tokens were taken, and no run takes them and the next
pub record Stuck (at : ℕ) (s : State trees) (ts : List Token) (n : ℕ) : Type 0 where
  pub read : List Token
  pub left : List Token
  pub splits : ts ≡ read ++ left
  pub count : n ≡ at + length read
  pub pos : Pos trees
  pub kept : KeptPos pos
  pub same : (r : Toks) → pos_before s.pos (classes read ++ r) ≡ pos_before pos r
  pub stops : (t : Token) (rest : List Token) (zs : Toks) → left ≡ t ∷ rest → verdict trees at s (classes read ++ (class_of t ∷ zs)) ≡ Err n

abbrev first_or : List Token → Token → Token
first_or [] x = x
first_or (x ∷ xs) y = x

abbrev is_empty : List Token → Type 0
is_empty [] = Unit {0}
is_empty (t ∷ ts) = ⊥

ending_stuck : (at : ℕ) (s : State trees) (pos : Pos trees) → s.pos ≡ pos → KeptPos s.pos → OnBad (Stuck at s []) (Machine.ending {A = trees} at s.log pos)
ending_stuck at s (Machine.between rs) is kept = tt
ending_stuck at s pos is kept = record {
  read = [];
  left = [];
  splits = refl;
  count = omega arith;
  pos = s.pos;
  kept = kept;
  same = λ r. refl;
  stops = λ t rest zs none. absurd (subst is_empty none tt);
}

onward_stuck : (at : ℕ) (s : State trees) (t : Token) (ts : List Token) (o : Option (State trees)) → Machine.step trees at s (class_of t) ≡ o → KeptPos s.pos
    → Next (StateNext (pos_before s.pos) (class_of t)) o
    → ((next : State trees) → KeptPos next.pos → OnBad (Stuck (at + 1) next ts) (verdict trees (at + 1) next (classes ts)))
    → OnBad (Stuck at s (t ∷ ts)) (onward at o (λ next. verdict trees (at + 1) next (classes ts)))
onward_stuck at s t ts (Some next) is kept taken rest = moved (verdict trees (at + 1) next (classes ts)) (rest next taken.kept)
  where
    moved : (v : Result (Read trees) ℕ) → OnBad (Stuck (at + 1) next ts) v → OnBad (Stuck at s (t ∷ ts)) v
    moved (Ok r) stuck = tt
    moved (Err n) stuck = record {
      read = t ∷ stuck.read;
      left = stuck.left;
      splits = ap (λ xs. t ∷ xs) stuck.splits;
      count = omega (arith, stuck.count);
      pos = stuck.pos;
      kept = stuck.kept;
      same = λ r. taken.same (classes stuck.read ++ r) ∙ stuck.same r;
      stops = λ u us zs here. ap (λ o. onward at o (λ after. verdict trees (at + 1) after (classes stuck.read ++ (class_of u ∷ zs)))) is
          ∙ stuck.stops u us zs here;
    }
onward_stuck at s t ts None is kept taken rest = record {
  read = [];
  left = t ∷ ts;
  splits = refl;
  count = omega arith;
  pos = s.pos;
  kept = kept;
  same = λ r. refl;
  stops = λ u us zs here. ap (λ o. onward at o (λ after. verdict trees (at + 1) after zs))
      (ap (λ x. Machine.step trees at s (class_of x)) (sym (ap (λ xs. first_or xs t) here)) ∙ is);
}

pub run_stuck : (ts : List Token) (at : ℕ) (s : State trees) → KeptPos s.pos → OnBad (Stuck at s ts) (verdict trees at s (classes ts))
run_stuck [] at s kept = ending_stuck at s s.pos refl kept
run_stuck (t ∷ ts) at s kept =
    onward_stuck at s t ts (Machine.step trees at s (class_of t)) refl kept (move_keeps at s.log s.pos (class_of t) kept)
    (λ next next_kept. run_stuck ts (at + 1) next next_kept)
