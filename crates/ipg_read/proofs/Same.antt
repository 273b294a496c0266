-- The answer that rows give is that of the grammar of grammars.
use Rattle.std.specs.Prelude.{MatchResult}
use Rattle.std.proofs.Common.{◌≡◌, ℕ, List, Option, Some, None, Result, Ok, Err, refl, ap, ◌∙◌, sym}
use Rattle.ipg_read_tokens.specs.Lexical.{tokens_of}
use Rattle.ipg_read_tokens.specs.declared.token.Token.{Token}
use Rattle.ipg_read_tokens.specs.declared.fault.ReadFault.TheVariants.{Syntax}
use Rattle.ipg_read_syntax.specs.Classes.{classes}
use Rattle.ipg_read_syntax.specs.Limits.{Over}
use Rattle.ipg_read_syntax.specs.Machine as M
use Rattle.ipg_read_syntax.specs.Counting.{counters}
use Rattle.ipg_read_syntax.specs.Making.{made}
use Rattle.ipg_read_syntax.specs.Reading.{place_of, read_of, tokens_answer, counted_answer, within_answer, made_answer}
use Rattle.ipg_read_scan.specs.Rowed.{Row}
use Rattle.ipg_read_scan.specs.Asked as A
use Rattle.ipg_read.specs.Counted.{nothing}
use Rattle.ipg_read.specs.Built.{makes, blank}
use Rattle.ipg_read.specs.Told.{limit_answer, scan_answer}
use Rattle.ipg_read.proofs.CountRuns.{Counted, runs_count}
use Rattle.ipg_read.proofs.MadeRuns.{Makes, runs_made}

module _ (text : List ℕ) (ts : List Token) where
  made_same : (rows : List Row) (w : Result (M.Read made) ℕ) → Makes blank (Ok rows) w
      → Ok (record { rules = (makes rows blank).rules }) ≡ made_answer text ts w
  made_same rows (Ok r) same = ap (λ rules. Ok (record { rules = rules })) same
  made_same rows (Err n) same = absurd same

  limit_same : (rows : List Row) (o : Option Over) → Makes blank (Ok rows) (M.verdict made 0 (M.start_state made) (classes ts))
      → limit_answer text ts rows o ≡ within_answer text ts o
  limit_same rows (Some o) makes_same = refl
  limit_same rows None makes_same = made_same rows (M.verdict made 0 (M.start_state made) (classes ts)) makes_same

  scan_same : (x : Result (List Row) ℕ) (v : Result (M.Read counters) ℕ) → Counted nothing x v
      → Makes blank x (M.verdict made 0 (M.start_state made) (classes ts))
      → scan_answer text ts x ≡ counted_answer text ts v
  scan_same (Ok rows) (Ok r) counted makes_same = ap (λ seen. limit_answer text ts rows seen.over) counted ∙ limit_same rows r.log.over makes_same
  scan_same (Ok rows) (Err n) counted makes_same = absurd counted
  scan_same (Err m) (Ok r) counted makes_same = absurd counted
  scan_same (Err m) (Err n) counted makes_same = ap (λ k. Err (Syntax (place_of text ts k))) counted

  pub read_by_rows : tokens_of text ≡ Ok ts → scan_answer text ts (A.run 0 A.start (classes ts)) ≡ read_of text
  read_by_rows falls =
      scan_same (A.run 0 A.start (classes ts)) (M.verdict counters 0 (M.start_state counters) (classes ts))
      (runs_count (classes ts) 0 counters.blank M.start) (runs_made (classes ts) 0 M.start)
      ∙ ap (tokens_answer text) (sym falls)

-- ---- the same in other words

pub by_words : {E : Type 0} {G : Type 0} (r : Result G E) (P Q : G → Type 0) (R S : E → Type 0) → ((g : G) → P g → Q g) → ((e : E) → R e → S e)
    → MatchResult r P R → MatchResult r Q S
by_words (Ok g) P Q R S good bad h = good g h
by_words (Err e) P Q R S good bad h = bad e h
