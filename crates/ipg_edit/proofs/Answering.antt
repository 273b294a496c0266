-- What a parse over kept keys comes to is what a session answers.
use Rattle.std.proofs.Common.{◌≡◌, ◌≢◌, ℕ, ◌+◌, ◌-◌, refl, sym, ap, ◌∙◌, subst, arith, List, [], ◌∷◌, ◌++◌, length, Option, Some, None, Result, Err}
use Rattle.std.proofs.Common.{◌⊎◌, inl, inr, suc, ◌<◌, ◌≤◌, get_or, Fits as IsBelow, w8}
use Rattle.std.specs.List.{AllByRecursion}
use Rattle.std.specs.Prelude.{min, ◌^◌}
use Rattle.ipg_core.specs.Grammar.{Grammar, rule_at, holder_of}
use Rattle.ipg_core.specs.Tree.{Tree}
use Rattle.ipg_core.specs.Run.{Stop, OutOfRange, Deep}
use Rattle.ipg_core.specs.Meaning.{Means, den}
use Rattle.ipg_mach_moves.specs.Moves.{Key, Known, Tally, find, learn, learned}
use Rattle.ipg_mach_moves.specs.Laws.{AreRight}
use Rattle.ipg_mach_count_laws.specs.Counts.{Has, first_key, calls_by}
use Rattle.ipg_mach_count_laws.specs.Depth.{nested}
use Rattle.ipg_mach_count_laws.specs.Kept.{AreKnown, IsFresh}
use Rattle.ipg_core.specs.Good.{Good}
use Rattle.ipg_core.specs.Grown.{IsInput, max_input}
use Rattle.ipg_mach_count_laws.specs.Laws.{CountsOver, DeepestOver, FreshLieInside, KnownAtEnd, NoneWhereFirstKept}
use Rattle.ipg_tree_walk.specs.declared.parsed.Counts.{Counts}
use Rattle.ipg_mach.specs.declared.verdict.Verdict.{Verdict}
use Rattle.ipg_mach.specs.declared.verdict.Verdict.TheVariants as verdict
use Rattle.ipg_mach.specs.Counted.{IsTally}
use Rattle.ipg_mach.specs.Known.{IsEntryOf, IsKnown}
use Rattle.ipg_mach.specs.Stage.{source}
use Rattle.ipg_mach.specs.Verdict.{first_call, ComesTo, IsVerdict}
use Rattle.ipg_edit.specs.Answered.{deepest, AreCounts, Answers, AreAnswers, IsAnswer, answer_by, counts_in}
use Rattle.ipg_edit.specs.declared.session.Answer as code
use Rattle.ipg_edit.specs.Session.{Holding, AreInside, Knows, held_by, nothing}
use Rattle.ipg_memo.specs.Keyed.{key_cmp}
use Rattle.ipg_mach_nodes.specs.Stored as stored
use Rattle.ipg_table.specs.Rows.{Rows, StandFor}
use Rattle.std.specs.FinMap as map

abbrev Answer : Type 0
Answer = Result Tree Stop

-- a parse has had to run these keys, and this is known then
record Ran (g : Grammar) (s : List ℕ) (height : ℕ) (kept : List Key) (answer : Answer) (tally : Tally) (later : Option Known) : Type 0 where
  keys : List Key
  fresh : IsFresh g s height kept keys
  bodies : tally.bodies ≡ length keys
  calls : tally.bodies + tally.hits ≡ 1 + calls_by g s height keys
  depth : tally.deepest ≡ deepest g s height kept keys
  known : answer ≢ Err OutOfRange → (known : Known) × (later ≡ Some known) × AreKnown known (keys ++ kept)

-- some key had to run where the first isn't kept
deepest_where_some : (g : Grammar) (s : List ℕ) (height : ℕ) (kept keys : List Key) → Has keys (first_key s) ⊎ Has kept (first_key s)
    → (Has kept (first_key s) → ⊥) → deepest g s height kept keys ≡ (nested g height kept 0 0 s []).most
deepest_where_some g s height kept [] (inl h) fresh = absurd h
deepest_where_some g s height kept [] (inr h) fresh = absurd (fresh h)
deepest_where_some g s height kept (key ∷ keys) h fresh = refl

module _ (over : CountsOver) (deep : DeepestOver) (at_end : KnownAtEnd) (none : NoneWhereFirstKept) (g : Grammar) (s : List ℕ) (kept : List Key) (known : Known)
    (answer : Answer) (are : AreKnown known kept) (right : AreRight g s (Some known)) (global : holder_of (rule_at g 0) ≡ None)
    (means : Means g s answer) where
  settled : den g means.height 0 s [] ≢ Err Deep
  settled e = means.settled (sym means.is ∙ e)

  not_kept : find known (first_key s) ≡ None → Has kept (first_key s) → ⊥
  not_kept fresh has = (are (first_key s)).1 has fresh

  ran_by : (tally : Tally) (later : Option Known) → ComesTo g s (Some known) answer tally later → Ran g s means.height kept answer tally later
  ran_by tally later (inl was) =
      let has = (are (first_key s)).0 (λ e. let k = was.kept in cc) in
      record {
        keys = [];
        fresh = none g s means.height kept has;
        bodies = ap (λ (t : Tally). t.bodies) was.counts;
        calls = ap (λ (t : Tally). t.bodies + t.hits) was.counts;
        depth = ap (λ (t : Tally). t.deepest) was.counts;
        known = λ range. (known, was.same, are);
      }
  ran_by tally later (inr ran) =
      let fresh = not_kept ran.fresh in
      let counted = over g s means.height ran.moved known kept answer right are fresh settled ran.ends in
      record {
        keys = counted.0;
        fresh = counted.1;
        bodies = sym (ap (λ (t : Tally). t.bodies) ran.counts) ∙ counted.2;
        calls = sym (ap (λ (t : Tally). t.bodies + t.hits) ran.counts) ∙ counted.3;
        depth = sym (ap (λ (t : Tally). t.deepest) ran.counts)
            ∙ deep g s means.height ran.moved known kept answer right are settled ran.ends
            ∙ sym (deepest_where_some g s means.height kept counted.0 counted.1.first fresh);
        known = λ range.
            let ended = at_end g s means.height ran.moved known kept counted.0 answer right are fresh settled ran.ends range counted.1 in (
              (first_key s, answer) ∷ ended.0,
              ran.learned ∙ ap (λ k. learn g k (first_call s) answer) ended.1 ∙ ap (λ h. Some (learned h ended.0 (first_call s) answer)) global,
              ended.3,
            );
      }

-- ---- what a session makes of it

module _ (g : Grammar) (t : Rows) (s : List ℕ) (height : ℕ) (kept : List Key) (answer : Answer) (tally : Tally) (later : Option Known)
    (ran : Ran g s height kept answer tally later) where
  are_counts : (counts : Counts) → IsTally counts tally → AreCounts g s height kept ran.keys counts
  are_counts counts is =
      let hits : tally.hits ≡ 1 + calls_by g s height ran.keys - length ran.keys =
      let b = ran.bodies in let c = ran.calls in omega arith in record {
        bodies = is.bodies ∙ ap (λ n. min n (2 ^ 64 - 1)) ran.bodies;
        hits = is.hits ∙ ap (λ n. min n (2 ^ 64 - 1)) hits;
        deepest = is.deepest ∙ ap (λ n. min n (2 ^ 64 - 1)) ran.depth;
      }

  module _ (means : den g height 0 s [] ≡ answer) (stand : StandFor t g) (good : Good g) (inside : AreInside (length s) (ran.keys ++ kept))
      (right : AreRight g s later) (blank : Knows g [] (record { tables = t; input = s; holding = nothing })) where
    knows_later : (h : Holding) → answer ≢ Err OutOfRange → IsKnown (source t s) h.store h.memo later
        → Knows g (ran.keys ++ kept) (record { tables = t; input = s; holding = h })
    knows_later h range holds =
        let known = ran.known range in record {
          stand = stand;
          good = good;
          inside = inside;
          known = known.0;
          are = known.2;
          right = subst (AreRight g s) known.1 right;
          holds = subst (IsKnown (source t s) h.store h.memo) known.1 holds;
        }

    is_answer : {A : Type 0} (v : Verdict A) → IsVerdict (source t s) (length s) v answer tally later
        → IsAnswer (answer_by v) g answer kept ran.keys (record { tables = t; input = s; holding = held_by v })
    is_answer (verdict.Tree root counts known) is = (
      is.0,
      is.1,
      knows_later (held_by (verdict.Tree root counts known)) (λ e. let k = is.1 in cc) is.5,
      record { root = root; is = refl; stands = is.2 },
    )
    is_answer (verdict.NoTree counts known) is = (is.0, knows_later (held_by (verdict.NoTree counts known)) (λ e. let k = is.0 in cc) is.2)
    is_answer (verdict.Range counts) is = (is.0, blank)

    is_tally : {A : Type 0} (v : Verdict A) → IsVerdict (source t s) (length s) v answer tally later → IsTally (counts_in (answer_by v)) tally
    is_tally (verdict.Tree root counts known) is = is.4
    is_tally (verdict.NoTree counts known) is = is.1
    is_tally (verdict.Range counts) is = is.1

    answers : {A : Type 0} (v : Verdict A) → IsVerdict (source t s) (length s) v answer tally later
        → Answers g s kept answer (answer_by v) (record { tables = t; input = s; holding = held_by v })
    answers v is = record {
      height = height;
      means = means;
      keys = ran.keys;
      fresh = ran.fresh;
      counts = are_counts (counts_in (answer_by v)) (is_tally v is);
      is = is_answer v is;
    }

-- nothing is known of a session that holds nothing
pub knows_nothing : (g : Grammar) (t : Rows) (s : List ℕ) → StandFor t g → Good g
    → Knows g [] (record { tables = t; input = s; holding = nothing })
knows_nothing g t s stand good = record {
  stand = stand;
  good = good;
  inside = λ key has. absurd has;
  known = [];
  are = λ key. ((λ some. some refl), (λ has. absurd has));
  right = tt;
  holds = λ key. subst (λ found. IsEntryOf (source t s) stored.nothing key found None) (sym (map.get-empty key_cmp key)) tt;
}

-- keys of both lists are inside where those of each are
both_inside : (n : ℕ) (xs ys : List Key) → AreInside n xs → AreInside n ys → AreInside n (xs ++ ys)
both_inside n [] ys first second key has = second key has
both_inside n (x ∷ xs) ys first second key (inl is) = first key (inl is)
both_inside n (x ∷ xs) ys first second key (inr has) = both_inside n xs ys (λ one more. first one (inr more)) second key has

are_bytes : (s : List ℕ) → ((i : ℕ) → IsBelow w8 (get_or s i 0)) → AllByRecursion (λ b. b < 256) s
are_bytes [] h = tt
are_bytes (b ∷ s) h = (let below = h 0 in omega arith, are_bytes s (λ i. h (suc i)))

-- the input that a list of bytes is
pub input_of : (s : List ℕ) → length s ≤ max_input → ((i : ℕ) → IsBelow w8 (get_or s i 0)) → IsInput s
input_of s size h = record { size = size; bytes = are_bytes s h }

-- all of it at once
pub comes_to_answer : {A : Type 0} → CountsOver → DeepestOver → FreshLieInside → KnownAtEnd → NoneWhereFirstKept → (g : Grammar) (t : Rows) (s : List ℕ)
    (kept : List Key) (h : Holding) (answer : Answer) (tally : Tally) (later : Option Known) (v : Verdict A)
    (k : Knows g kept (record { tables = t; input = s; holding = h })) → IsInput s → Means g s answer → ComesTo g s (Some k.known) answer tally later
    → AreRight g s later → IsVerdict (source t s) (length s) v answer tally later
    → Answers g s kept answer (answer_by v) (record { tables = t; input = s; holding = held_by v })
comes_to_answer over deep inside at_end none g t s kept h answer tally later v k input means comes still is =
    let first = k.good.well_formed.first in
    let global : holder_of (rule_at g 0) ≡ None = ap holder_of first.1 ∙ first.2 in
    let ran = ran_by over deep at_end none g s kept k.known answer k.are k.right global means tally later comes in
    let fresh = inside g s means.height kept ran.keys k.good input ran.fresh in
    answers g t s means.height kept answer tally later ran means.is k.stand k.good (both_inside (length s) ran.keys kept fresh k.inside) still
    (knows_nothing g t s k.stand k.good) v is

-- what is answered over what is lent and taken is answered over where these came from
pub answered_there : (t : Rows) (lent s : List ℕ) (taken h : Holding) (given : code.Answer) (made later : Holding) → lent ≡ s → taken ≡ h → later ≡ made
    → AreAnswers t lent taken given made → AreAnswers t s h given later
answered_there t lent s taken h given made later same was put are =
    subst (λ x. AreAnswers t x h given later) same (subst (λ x. AreAnswers t lent x given later) was
    (subst (λ x. AreAnswers t lent taken given x) (sym put) are))
