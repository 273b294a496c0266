-- A larger height gives the same calls, and the same keys.
use Rattle.std.proofs.Common.{◌≡◌, ◌≢◌, ℕ, zero, suc, ◌+◌, ◌≤◌, refl, sym, ap, ◌∙◌, subst, arith, List, [], ◌∷◌, ◌++◌, Result, Err, length, inl, inr}
use Rattle.std.specs.List.{AllByRecursion}
use Rattle.ipg_core.specs.Grammar.{Grammar, rule_at, holder_of}
use Rattle.ipg_core.specs.Part.{part}
use Rattle.ipg_core.specs.Tree.{Tree}
use Rattle.ipg_core.specs.Environment.{Values}
use Rattle.ipg_core.specs.Run.{Stop, Deep, Asked, Run}
use Rattle.ipg_core.specs.Meaning.{den, rule_on}
use Rattle.ipg_core.specs.Laws.{HeightsAgree, TurnsSuffice}
use Rattle.ipg_mach_moves.specs.Moves.{Key, OpenCall, Highest, Works, Holds, Advance, at_hand, opened, turned, always}
use Rattle.ipg_mach_moves.specs.Laws.{ParsesByOneCall}
use Rattle.ipg_mach_count_laws.specs.Counts.{calls_of, key_or, key_of, keys_over, keys_in}
use Rattle.ipg_mach_count_laws.proofs.Follows.{Holding, Steps, follows}
use Rattle.ipg_mach_count_laws.proofs.Plain.{IsPlain}
use Rattle.ipg_mach_count_laws.proofs.Once.{Asking, hand_once, reply}
use Rattle.ipg_mach_count_laws.proofs.Settled.{NotDeep, not_deep}

-- the calls of n moves of a call, where calls nest so deep
abbrev logged : ℕ → Grammar → ℕ → Highest → List Asked
logged h g zero highest = []
logged h g (suc n) (Works c) = (at_hand (den g h) c).asked ++ logged h g n (turned c (at_hand (den g h) c).answer)
logged h g (suc n) (Holds key answer) = []

logs_none : (h : ℕ) (g : Grammar) (n : ℕ) (key : Key) (answer : Result Tree Stop) → logged h g n (Holds key answer) ≡ []
logs_none h g zero key answer = refl
logs_none h g (suc n) key answer = refl

-- a call that is made where calls nest so deep
pub record IsMade (g : Grammar) (h : ℕ) (s : List ℕ) (ask : Asked) : Type 0 where
  pub settled : den g h ask.callee (part s ask.from ask.to) ask.outer ≢ Err Deep
  pub plain : IsPlain g ask

-- so many moves make these calls, and more make no more
record Logs (h : ℕ) (g : Grammar) (highest : Highest) (asked : List Asked) : Type 0 where
  enough : ℕ
  is : (n : ℕ) → enough ≤ n → logged h g n highest ≡ asked

module _ (heights : HeightsAgree) (parses : ParsesByOneCall) (h high : ℕ) (low : h ≤ high) where
  abbrev Agrees : Holding
  Agrees g bytes from highest asked = NotDeep highest × AllByRecursion (IsMade g h bytes) asked × Logs high g highest asked

  module _ (c : OpenCall) where
    abbrev g : Grammar
    g = c.frame.grammar

    not_so_deep : (one : Asking c.frame (λ call. at_hand call c)) → NotDeep (turned c (at_hand (den g h) c).answer) → reply (den g h) c.frame one.ask ≢ Err Deep
    not_so_deep one shallow deep =
        subst (λ a. NotDeep (turned c a))
        (ap (λ (run : Run Advance). run.answer) (one.is (den g h)) ∙ ap (λ a. (at_hand (always a) c).answer) deep ∙ one.deep) shallow

    hands_agree : NotDeep (turned c (at_hand (den g h) c).answer) → at_hand (den g h) c ≡ at_hand (den g high) c
    hands_agree shallow = elim (hand_once parses c) [
      | inl quiet ↦ quiet.is (den g h) ∙ sym (quiet.is (den g high))
      | inr one ↦
          one.is (den g h)
          ∙ ap (λ a. record { answer = (at_hand (always a) c).answer; asked = one.ask ∷ [] })
          (sym (heights g h high one.ask.callee (part c.frame.bytes one.ask.from one.ask.to) one.ask.outer low (not_so_deep one shallow)))
          ∙ sym (one.is (den g high))
    ]

    made_more : (asked : List Asked) → NotDeep (turned c (at_hand (den g h) c).answer) → AllByRecursion (IsMade g h c.frame.bytes) asked
        → AllByRecursion (IsMade g h c.frame.bytes) ((at_hand (den g h) c).asked ++ asked)
    made_more asked shallow all = elim (hand_once parses c) [
      | inl quiet ↦
          subst (λ xs. AllByRecursion (IsMade g h c.frame.bytes) (xs ++ asked))
          (sym (ap (λ (run : Run Advance). run.asked) (quiet.is (den g h)) ∙ quiet.none)) all
      | inr one ↦
          subst (λ xs. AllByRecursion (IsMade g h c.frame.bytes) (xs ++ asked))
          (sym (ap (λ (run : Run Advance). run.asked) (one.is (den g h)))) (record { settled = not_so_deep one shallow; plain = one.plain }, all)
    ]

    logs_more : (asked : List Asked) → at_hand (den g h) c ≡ at_hand (den g high) c → (logs : Logs high g (turned c (at_hand (den g h) c).answer) asked)
        → (n : ℕ) → suc logs.enough ≤ n → logged high g n (Works c) ≡ (at_hand (den g h) c).asked ++ asked
    logs_more asked same logs zero le = absurd (omega arith)
    logs_more asked same logs (suc n) le =
        sym (ap (λ (run : Run Advance). run.asked ++ logged high g n (turned c run.answer)) same)
        ∙ ap (λ xs. (at_hand (den g h) c).asked ++ xs) (logs.is n (omega arith))

  agree_steps : Steps h Agrees
  agree_steps c asked q = (
    tt,
    made_more c asked q.0 q.1,
    record { enough = suc q.2.enough; is = logs_more c asked (hands_agree c q.0) q.2 },
  )

  agree_all : TurnsSuffice → (g : Grammar) (r : ℕ) (s : List ℕ) (outer : Values) → (rule_on (den g h) g r s outer).answer ≢ Err Deep
      → Agrees g s 0 (opened g r s 0 outer) (rule_on (den g h) g r s outer).asked
  agree_all suffice g r s outer settled =
      follows h Agrees agree_steps suffice 0 g r s outer
      (not_deep (record { rule = r; from = 0; to = 0 + length s }) _ settled, tt, record { enough = 0; is = λ n le. logs_none high g n _ _ })

module _ (heights : HeightsAgree) (parses : ParsesByOneCall) (suffice : TurnsSuffice) where
  pub calls_made : (g : Grammar) (h r : ℕ) (s : List ℕ) (outer : Values) → den g (suc h) r s outer ≢ Err Deep
      → AllByRecursion (IsMade g h s) (calls_of g h r s outer)
  unfolding den
  calls_made g h r s outer settled = (agree_all heights parses h h (omega arith) suffice g r s outer settled).1

  calls_agree : (g : Grammar) (h high r : ℕ) (s : List ℕ) (outer : Values) → h ≤ high → den g (suc h) r s outer ≢ Err Deep
      → calls_of g h r s outer ≡ calls_of g high r s outer
  unfolding den
  calls_agree g h high r s outer low settled =
      let also : den g (suc high) r s outer ≢ Err Deep = λ deep. settled (sym (heights g (suc h) (suc high) r s outer (omega arith) settled) ∙ deep) in
      let one = (agree_all heights parses h high low suffice g r s outer settled).2 in
      let other = (agree_all heights parses high high (omega arith) suffice g r s outer also).2 in
      sym (one.is (one.enough + other.enough) (omega arith)) ∙ other.is (one.enough + other.enough) (omega arith)

  keys_same : (inner other : ℕ → ℕ → List ℕ → Values → List Key) (g : Grammar) (h from : ℕ) (s : List ℕ) (asked : List Asked)
      → ((r from : ℕ) (s : List ℕ) (outer : Values) → den g h r s outer ≢ Err Deep → inner r from s outer ≡ other r from s outer)
      → AllByRecursion (IsMade g h s) asked → keys_over inner g from s asked ≡ keys_over other g from s asked
  keys_same inner other g h from s [] same all = refl
  keys_same inner other g h from s (ask ∷ asked) same all =
      ap (λ keys. key_or (holder_of (rule_at g ask.callee)) (key_of from s ask) keys ++ keys_over inner g from s asked)
      (same ask.callee (from + ask.from) (part s ask.from ask.to) ask.outer all.0.settled)
      ∙ ap (λ keys. key_or (holder_of (rule_at g ask.callee)) (key_of from s ask)
      (other ask.callee (from + ask.from) (part s ask.from ask.to) ask.outer) ++ keys)
      (keys_same inner other g h from s asked same all.1)

  pub keys_agree : (g : Grammar) (h high : ℕ) → h ≤ high → (r from : ℕ) (s : List ℕ) (outer : Values) → den g h r s outer ≢ Err Deep
      → keys_in g h r from s outer ≡ keys_in g high r from s outer
  unfolding keys_in den
  keys_agree g zero high low r from s outer settled = absurd (settled refl)
  keys_agree g (suc h) zero low r from s outer settled = absurd (omega arith)
  keys_agree g (suc h) (suc high) low r from s outer settled =
      keys_same (keys_in g h) (keys_in g high) g h from s (calls_of g h r s outer) (keys_agree g h high (omega arith)) (calls_made g h r s outer settled)
      ∙ ap (keys_over (keys_in g high) g from s) (calls_agree g h high r s outer (omega arith) settled)

  -- by one height throughout
  pub keys_are : (g : Grammar) (h high : ℕ) → suc h ≤ high → (r from : ℕ) (s : List ℕ) (outer : Values) → den g (suc h) r s outer ≢ Err Deep
      → keys_in g high r from s outer ≡ keys_over (keys_in g high) g from s (calls_of g h r s outer)
  unfolding keys_in
  keys_are g h high low r from s outer settled =
      sym (keys_agree g (suc h) high low r from s outer settled)
      ∙ keys_same (keys_in g h) (keys_in g high) g h from s (calls_of g h r s outer) (keys_agree g h high (omega arith)) (calls_made g h r s outer settled)
