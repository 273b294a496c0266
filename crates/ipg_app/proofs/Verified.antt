-- What `cert` writes of a grammar, `verify` says to prove it.
use Rattle.std.proofs.Common.{◌≡◌, ℕ, ◌+◌, ◌≤◌, inl, inr, List, [], ◌∷◌, length, Bool}
use Rattle.std.proofs.Common.{true, false, Ok, Err, Some, Result, sym, ap, ◌∙◌, subst}
use Rattle.std.proofs.Common.{arith, nat_le}
use Rattle.std.specs.Prelude.{IsTrue, if◌then◌else◌}
use Rattle.std.specs.List.{AllByRecursion}
use Rattle.std.proofs.lemmas.Bool.{true≢false}
use Rattle.std.proofs.lemmas.Bool.Decides.{nat_tests}
use Rattle.ipg_outside.specs.Files.{Told, absent, holds, MayHold}
use Rattle.ipg_core.specs.Grammar.{Grammar}
use Rattle.ipg_touch.specs.Laws.{OneLimit}
use Rattle.ipg_graph.specs.Graph.{Graph}
use Rattle.ipg_graph.specs.Answers.{Spot, Start, At, IsRun}
use Rattle.ipg_facts_edges.specs.Edges.{edges_of}
use Rattle.ipg_proof.specs.declared.certificate.Certificate.{Certificate}
use Rattle.ipg_proof.specs.declared.fault.ProofWhy.{ProofWhy}
use Rattle.ipg_proof.specs.declared.fault.ProofWhy.TheVariants.{Mismatch, Unsound, Memory}
use Rattle.ipg_proof.specs.Calls.{calls_of, checked, dead_edges, cycles_of, live_graph}
use Rattle.ipg_proof.specs.Places.{Rise, IsFirstOff, IsFirstOther, IsMismatch, AreInPlace}
use Rattle.ipg_proof.specs.Proves.{Proves, AreChecked, IsUnsound, IsFault, first_false}
use Rattle.ipg_proof.specs.Texts.{IsTextOf}
use Rattle.ipg_app_text.specs.Said.{Said, done}
use Rattle.ipg_app_text.specs.Order.{Answers, have, says}
use Rattle.ipg_app_grammar.specs.Certificate.{Certifies, Reads, Judges, proof_said, verified}
use Rattle.ipg_app.specs.Reply.{verify}
use Rattle.ipg_app_grammar.specs.Commands.{judge}
use Rattle.ipg_app_text.specs.Steps.{max_input}
use Rattle.ipg_app.specs.Laws.{CertIsVerified}

-- ---- what proves a grammar has no fault

never_off : (edges low n at : ℕ) (dead : List ℕ) → Rise edges low dead → IsFirstOff edges low n dead at → ⊥
never_off edges low n at [] rise off = off
never_off edges low n at (e ∷ dead) rise (inl off) = off.0 rise.0
never_off edges low n at (e ∷ dead) rise (inr off) = never_off edges (e + 1) (n + 1) at dead rise.1 off.1

never_other : (graph : Graph) (from : Spot) (n at : ℕ) (cycles : List (List ℕ)) → IsRun graph from cycles → IsFirstOther graph from n cycles at → ⊥
never_other graph from n at [] run other = other.0 run
never_other graph from n at (c ∷ cycles) run (inl other) = other.0 run.0
never_other graph from n at (c ∷ cycles) run (inr other) = never_other graph (At c) (n + 1) at cycles run.1 other.1

never_mismatch : (g : Grammar) (c : Certificate) (at : ℕ) → AreInPlace g c → IsMismatch g c at → ⊥
never_mismatch g c at place (inl off) = never_off (length (edges_of g)) 0 0 at (dead_edges c) place.dead off
never_mismatch g c at place (inr other) =
    never_other (live_graph g (dead_edges c)) Start (length c.dead) at (cycles_of c) place.cycles other.1

none_false : (n : ℕ) (bs : List Bool) (at : ℕ) → AllByRecursion IsTrue bs → first_false n bs ≡ Some at → ⊥
none_false n [] at all e = cc
none_false n (true ∷ bs) at all e = none_false (n + 1) bs at all.1 e
none_false n (false ∷ bs) at all e = true≢false (sym all.0)

clash : (text : List ℕ) → holds text ≡ absent → ⊥
clash text e = cc

module _ (one_limit : OneLimit) where
  never_unsound : (g : Grammar) (c : Certificate) (at : ℕ) → AreChecked g c → IsUnsound g c at → ⊥
  never_unsound g c at checks unsound =
      let same = one_limit g unsound.marks checks.marks unsound.limit checks.limit in
      none_false 0 (checked (calls_of g checks.marks) c) at checks.all
      (subst (λ marks. first_false 0 (checked (calls_of g marks) c) ≡ Some at) same unsound.first)

  never_fails : (g : Grammar) (c : Certificate) (why : ProofWhy) (said : Said) → Proves g c → IsFault g c why → proof_said why ≡ Some said → ⊥
  never_fails g c (Mismatch at) said proves fault is = never_mismatch g c at proves.0 fault
  never_fails g c (Unsound at) said proves fault is = never_unsound g c at proves.1 fault.1
  never_fails g c Memory said proves fault is = cc

  judged : (g : Grammar) (c : Certificate) (said : Said) → Proves g c → Judges g c said → said ≡ verified
  judged g c said proves (inl right) = right.1
  judged g c said proves (inr fails) = absurd (never_fails g c fails.why said proves fails.fault fails.is)

  module _ (g : Grammar) (text : List ℕ) (made : Certifies g (done text)) (told : List ℕ → Told) where
    is_text : IsTextOf made.certificate text
    is_text = (made.speakable, ap (λ (s : Said). s.text) made.is)

    read_as : (read : Result Certificate Said) (said : Said) → Reads text read → Answers told (have read (λ c. says (Judges g c))) said → said ≡ verified
    read_as (Ok c) said reads answers =
        judged g c said (subst (Proves g) (sym (reads.only made.certificate is_text)) made.proves) answers
    read_as (Err fault) said reads answers = absurd (reads.fault.ends made.certificate is_text)

    of_text : (said : Said) → Answers told (judge text g) said → said ≡ verified
    of_text said (read, reads, answers) = read_as read said reads answers

    of_input : (b : Bool) (bytes : List ℕ) (other : Said) (said : Said) → b ≡ true → bytes ≡ text
        → Answers told (have (if b then Ok bytes else Err other) (λ text. judge text g)) said → said ≡ verified
    of_input true bytes other said e same answers = of_text said (subst (λ t. Answers told (judge t g) said) same answers)
    of_input false bytes other said e same answers = cc

    within_is : (n : ℕ) → n ≤ max_input → nat_le n max_input ≡ true
    within_is n h = grind (arith, nat_tests)

    of_file : (name : List ℕ) (said : Said) → length text ≤ max_input → told name ≡ holds text → Answers told (verify name g) said → said ≡ verified
    of_file name said within held (inl missing) = absurd (clash text (sym held ∙ missing.0))
    of_file name said within held (inr (bytes, may, answers)) =
        let same : bytes ≡ text = subst (λ t. MayHold t bytes) held may in
        of_input (nat_le (length bytes) max_input) bytes _ said
        (ap (λ (s : List ℕ). nat_le (length s) max_input) same ∙ within_is (length text) within) same answers

pub cert_is_verified : OneLimit → CertIsVerified
cert_is_verified one_limit g text made within told name said held answers = of_file one_limit g text made told name said within held answers
