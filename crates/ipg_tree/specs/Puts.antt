-- A text that was put into a sink: all of it, or a prefix of it before a fault that was counted.
use Rattle.std.specs.Prelude.{ℕ, ◌≤◌, List, Option, Result, MatchResult}
use Rattle.ipg_outside.specs.declared.sink.SinkFault.{SinkFault}
use Rattle.ipg_outside.specs.Faults.{Rose}
use Rattle.ipg_outside.specs.Sink.{Output, Takes, Breaks, Tells}

-- all of the text
pub record Whole (text : List ℕ) (before : Option Output) (faults_before : ℕ) (after : Option Output) (faults_after : ℕ) : Type 0 where
  pub told : Tells before after (Takes text)
  pub counts : faults_before ≤ faults_after

-- a prefix of it
pub record Part (text : List ℕ) (before : Option Output) (faults_before : ℕ) (after : Option Output) (faults_after : ℕ) : Type 0 where
  pub told : Tells before after (Breaks text)
  pub failed : Rose faults_before faults_after
  pub counts : faults_before ≤ faults_after

abbrev pub Puts : Result (Unit {0}) SinkFault → List ℕ → Option Output → ℕ → Option Output → ℕ → Type 0
Puts result text before faults_before after faults_after =
    MatchResult result (λ _. Whole text before faults_before after faults_after) (λ _. Part text before faults_before after faults_after)
