-- What is known of the first rule on the whole input is its answer, and its answer is right to know.
use Rattle.std.proofs.Common.{◌≡◌, ◌≢◌, ℕ, ◌+◌, ◌-◌, ◌≤◌, refl, sym, ap, ◌∙◌, subst, arith, List, [], ◌∷◌, length, Option, Some, None, Result, Err, Bool, true}
use Rattle.std.proofs.Common.{false, cond, take}
use Rattle.std.proofs.lemmas.Bool.{and_parts, eqb-true}
use Rattle.std.proofs.lemmas.List.{take_all}
use Rattle.std.specs.List.{AllByRecursion}
use Rattle.ipg_core.specs.Grammar.{Grammar, rule_at, holder_of}
use Rattle.ipg_core.specs.Part.{part}
use Rattle.ipg_core.specs.Tree.{Tree}
use Rattle.ipg_core.specs.Environment.{Values}
use Rattle.ipg_core.specs.Run.{Stop, Deep}
use Rattle.ipg_core.specs.Meaning.{Means, den}
use Rattle.ipg_core.specs.Laws.{HeightsAgree}
use Rattle.ipg_mach_moves.specs.Moves.{Key, Known, same_key, find, known_of, learned, learn}
use Rattle.ipg_mach_moves.specs.Laws.{IsRight, AreRight}
use Rattle.ipg_mach_moves.specs.Moves.{Tally}
use Rattle.ipg_core.specs.Within.{TreeWithin}
use Rattle.ipg_region.specs.declared.region.RunId.{RunId}
use Rattle.ipg_memo.specs.declared.memo.Key as code
use Rattle.ipg_memo.specs.declared.memo.Entry.{Entry}
use Rattle.ipg_memo.specs.declared.memo.Entry.TheVariants as entry
use Rattle.ipg_mach_nodes.specs.Stored.{Source, Stored, StandsTree}
use Rattle.ipg_mach.specs.declared.frame.HeldAnswer.TheVariants as held
use Rattle.ipg_mach.specs.declared.verdict.Verdict.{Verdict}
use Rattle.ipg_mach.specs.Calls.{IsAnswer}
use Rattle.ipg_mach.specs.Known.{key_of, IsEntryOf}
use Rattle.ipg_mach.specs.Verdict.{first_call, IsVerdict}

same_by : (a b : Key) → same_key a b ≡ true → a ≡ b
same_by a b e =
    let outer = and_parts _ _ e in
    let inner = and_parts _ _ outer.0 in
    let rule : a.rule ≡ b.rule = eqb-true _ _ inner.0 in
    let from : a.from ≡ b.from = eqb-true _ _ inner.1 in
    let to : a.to ≡ b.to = eqb-true _ _ outer.1 in
    (λ i. record { rule = rule i; from = from i; to = to i })

part_whole : (s : List ℕ) → part s 0 (length s) ≡ s
part_whole s =
    let long : length s - 0 ≡ length s = omega arith in
    ap (λ n. take n s) long ∙ take_all (length s) s (omega arith)

one_answer : HeightsAgree → (g : Grammar) (h k r : ℕ) (s : List ℕ) (outer : Values) → den g h r s outer ≢ Err Deep → den g k r s outer ≢ Err Deep
    → den g h r s outer ≡ den g k r s outer
one_answer heights g h k r s outer settled also =
    let low : h ≤ h + k = omega arith in
    let high : k ≤ h + k = omega arith in
    sym (heights g h (h + k) r s outer low settled) ∙ heights g k (h + k) r s outer high also

module _ (g : Grammar) (s : List ℕ) where
  found_by : (entry : Key × Result Tree Stop) (known : Known) (key : Key) (answer : Result Tree Stop) (b : Bool) → same_key entry.0 key ≡ b
      → cond b (Some entry.1) (find known key) ≡ Some answer → IsRight g s entry → (find known key ≡ Some answer → IsRight g s (key, answer))
      → IsRight g s (key, answer)
  found_by entry known key answer true same e right rest =
      let is : entry.1 ≡ answer = cc in
      subst (λ a. IsRight g s (key, a)) is (subst (λ k. IsRight g s (k, entry.1)) (same_by entry.0 key same) right)
  found_by entry known key answer false same e right rest = rest e

  found : (known : Known) (key : Key) (answer : Result Tree Stop) → AllByRecursion (IsRight g s) known → find known key ≡ Some answer
      → IsRight g s (key, answer)
  found [] key answer right e = absurd (cc)
  found (entry ∷ known) key answer right e = found_by entry known key answer _ refl e right.0 (found known key answer right.1)

  known_right : (known : Option Known) (key : Key) (answer : Result Tree Stop) → AreRight g s known → known_of known key ≡ Some answer
      → IsRight g s (key, answer)
  known_right None key answer right e = absurd (cc)
  known_right (Some known) key answer right e = found known key answer right e

  -- what is known of the first rule is what the grammar means
  pub known_means : HeightsAgree → (known : Option Known) (answer other : Result Tree Stop) → AreRight g s known → Means g s answer
      → known_of known (first_call s) ≡ Some other → other ≡ answer
  known_means heights known answer other right means e =
      let is = known_right known (first_call s) other right e in
      let here : den g is.height 0 s [] ≡ other = ap (λ bytes. den g is.height 0 bytes []) (sym (part_whole s)) ∙ is.is in
      sym here ∙ one_answer heights g is.height means.height 0 s [] (λ deep. is.settled (sym here ∙ deep))
      (λ deep. means.settled (sym means.is ∙ deep)) ∙ means.is

  learned_right : (holder : Option (ℕ × ℕ)) (known : Known) (key : Key) (answer : Result Tree Stop) → AllByRecursion (IsRight g s) known
      → (holder ≡ None → IsRight g s (key, answer)) → AllByRecursion (IsRight g s) (learned holder known key answer)
  learned_right None known key answer right more = (more refl, right)
  learned_right (Some holder) known key answer right more = right

  -- its answer is right to know
  pub first_right : (known : Option Known) (answer : Result Tree Stop) → AreRight g s known → Means g s answer
      → AreRight g s (learn g known (first_call s) answer)
  first_right None answer right means = tt
  first_right (Some known) answer right means =
      learned_right (holder_of (rule_at g 0)) known (first_call s) answer right
      (λ global. record {
        global = global;
        height = means.height;
        is = ap (λ bytes. den g means.height 0 bytes []) (part_whole s) ∙ means.is;
        settled = means.settled;
      })

-- ---- entries of the first rule

module _ (src : Source) (st : Stored) where
  pub had : (key : code.Key) (one : Entry) (found : Option (Result Tree Stop)) → IsEntryOf src st key (Some one) found
      → (answer : Result Tree Stop) × (found ≡ Some answer)
  had key entry.NoTree (Some answer) is = (answer, refl)
  had key (entry.Node id) (Some answer) is = (answer, refl)
  had key entry.NoTree None is = absurd is
  had key (entry.Node id) None is = absurd is

  pub had_none : (key : code.Key) (found : Option (Result Tree Stop)) → IsEntryOf src st key None found → found ≡ None
  had_none key None is = refl
  had_none key (Some answer) is = absurd is

  -- an entry of the first rule by its key
  pub at_first : (input : List ℕ) (key : code.Key) (one : Entry) (known : Option Known) → key_of key ≡ first_call input
      → IsEntryOf src st key (Some one) (known_of known (key_of key))
      → IsEntryOf src st (record { rule = 0; from = 0; to = length input }) (Some one) (known_of known (first_call input))
  at_first input key one known first is =
      subst (λ k. IsEntryOf src st (record { rule = k.rule; from = k.from; to = k.to }) (Some one) (known_of known k)) first is

  -- the node that the first rule's call holds, as its entry
  pub node_entry : (input : List ℕ) (key : code.Key) (id : RunId) (answer : Result Tree Stop) → key_of key ≡ first_call input
      → IsAnswer src st 0 (length input) (held.Node id) answer → IsEntryOf src st key (Some (entry.Node id)) (Some answer)
  node_entry input key id answer first is =
      let begins : key.from ≡ 0 = ap (λ (k : Key). k.from) first in
      let ends : key.to ≡ length input = ap (λ (k : Key). k.to) first in
      let long : length input ≡ key.to - key.from = omega arith in
      (is.0, is.1, subst (λ at. StandsTree src st at id is.0) (sym begins) is.2, subst (λ n. TreeWithin n is.0) long is.3)

-- what is said of the key of the first rule is said of its call
pub of_first : {A : Type 0} (g : Grammar) (src : Source) (input : List ℕ) (one : Verdict A) (answer : Result Tree Stop) (tally : Tally)
    (known : Option Known) (key : code.Key) → key_of key ≡ first_call input → IsVerdict src key.to one answer tally (learn g known (key_of key) answer)
    → IsVerdict src (length input) one answer tally (learn g known (first_call input) answer)
of_first g src input one answer tally known key first is =
    subst (λ (k : Key). IsVerdict src k.to one answer tally (learn g known k answer)) first is
