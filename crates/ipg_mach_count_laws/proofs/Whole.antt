-- The first rule on the whole input, over answers that are known beforehand.
use Rattle.std.proofs.Common.{◌≡◌, ◌≢◌, ℕ, ◌+◌, ◌<◌, refl, sym, ap, ◌∙◌, subst, arith, List, [], ◌∷◌}
use Rattle.std.proofs.Common.{Some, None, Result, Ok, Err, ◌++◌, length, inl, inr}
use Rattle.ipg_core.specs.Grammar.{Grammar}
use Rattle.ipg_core.specs.Tree.{Tree}
use Rattle.ipg_core.specs.Run.{Stop, NoTree, OutOfRange, Deep}
use Rattle.ipg_core.specs.Meaning.{den}
use Rattle.ipg_core.specs.Laws.{HeightsAgree, TurnsSuffice}
use Rattle.ipg_mach_moves.specs.Moves.{Key, OpenCall, Holds, Known, Evaluation, find, moves, opening, ended, ended_by}
use Rattle.ipg_mach_moves.specs.Laws.{ParsesByOneCall, AreRight}
use Rattle.ipg_mach_count_laws.specs.Counts.{keys_in, direct, Has, first_key, calls_by}
use Rattle.ipg_mach_count_laws.specs.Kept.{AreSame, AreKnown, IsFresh}
use Rattle.ipg_mach_count_laws.specs.Laws.{CountsWithMemo, CountsOver, KnownAtEnd, KeysAreKnown, AllWhereNoneKept, OneFresh}
use Rattle.ipg_mach_count_laws.proofs.Stays.{ends_once, ended_low}
use Rattle.ipg_mach_count_laws.proofs.Parts.{whole_stands, whole_part}
use Rattle.ipg_mach_count_laws.proofs.Grown.{Knows, knows_one, knows_more, knows_either, has_left, has_right, has_either, Grown, Learnt, TooDeep}
use Rattle.ipg_mach_count_laws.proofs.Found.{none_found, knows_found, found_knows, found_right}
use Rattle.ipg_mach_count_laws.proofs.Least.{least_of}
use Rattle.ipg_mach_count_laws.proofs.Landed.{Back, Ready}
use Rattle.ipg_mach_count_laws.proofs.Shared.{counted}

module _ (g : Grammar) (s : List ℕ) (high : ℕ) (known : Known) (kept : List Key) where
  abbrev firsts : List Key
  firsts = first_key s ∷ []

  abbrev own : List Key
  own = keys_in g high 0 0 s []

  -- ---- what it has come to where it has ended

  abbrev LearntBy : Evaluation → List Key → Type 0
  LearntBy e more = (later : Known) × (e.known ≡ Some later) × Learnt g s high kept known firsts later more

  record Over (answer : Result Tree Stop) (e : Evaluation) : Type 0 where
    more : List Key
    grown : Grown g s high kept own (record { bodies = 1; hits = 0; deepest = 1 }) firsts e.tally more
    learnt : answer ≢ Err OutOfRange → LearntBy e more

  ended_back : (answer : Result Tree Stop) (low : List OpenCall) (last at : Key) (keys : List Key) (later : Known) (more : List Key) → answer ≢ Err Deep
      → Back s high kept g answer low [] last at known keys later more → ended_by low (Holds last answer) ≡ Some answer
  ended_back (Ok tree) low last at keys later more settled home = ended_low low last (Ok tree) home.place
  ended_back (Err NoTree) low last at keys later more settled home = ended_low low last (Err NoTree) home.place
  ended_back (Err OutOfRange) low last at keys later more settled home = ended_low low last (Err OutOfRange) tt
  ended_back (Err Deep) low last at keys later more settled home = absurd (settled refl)

  learnt_back : (answer : Result Tree Stop) (low : List OpenCall) (last at : Key) (keys : List Key) (later : Known) (more : List Key) → answer ≢ Err Deep
      → answer ≢ Err OutOfRange → Back s high kept g answer low [] last at known keys later more → Learnt g s high kept known keys later more
  learnt_back (Ok tree) low last at keys later more settled within home = home.learnt
  learnt_back (Err NoTree) low last at keys later more settled within home = home.learnt
  learnt_back (Err OutOfRange) low last at keys later more settled within home = absurd (within refl)
  learnt_back (Err Deep) low last at keys later more settled within home = absurd (settled refl)

  module _ (right : AreRight g s (Some known)) (are : AreKnown known kept) (not_kept : Has kept (first_key s) → ⊥) where
    kept_knows : (key : Key) → Has kept key → Knows known key
    kept_knows key has = knows_found known key ((are key).1 has)

    knows_kept : (key : Key) → Knows known key → Has kept key
    knows_kept key knows = (are key).0 (found_knows known key knows)

    firsts_apart : (key : Key) → Has firsts key → Has kept key → ⊥
    firsts_apart key has old = elim has [ inl same ↦ not_kept (subst (Has kept) (sym same) old) | inr nothing ↦ absurd nothing ]

    first_ready : (h : ℕ) → ((k : ℕ) → k < h → den g k 0 s [] ≡ Err Deep) → Ready s high kept g h 0 s own known firsts
    first_ready h before = record {
      stands = whole_stands s;
      fine = record {
        right = record { each = λ key answer e. (inr (knows_kept key (answer, e)), found_right g s known key answer right e) };
        keeps = kept_knows;
        opens = λ key has. elim has [
          | inl same ↦ inr (subst (TooDeep g s high kept h) same (λ k lt. ap (λ bytes. den g k 0 bytes []) (whole_part s) ∙ before k lt))
          | inr nothing ↦ absurd nothing
        ];
      };
      new = record {
        once = (λ has. has, tt);
        apart = firsts_apart;
        reached = λ key has. elim has [ inl same ↦ ([], same, λ one has. absurd has) | inr nothing ↦ absurd nothing ];
      };
      owned = λ key has. (firsts, (subst (λ bytes. Has (keys_in g high 0 0 bytes []) key) (sym (whole_part s)) has, refl), firsts_apart);
    }

    over : HeightsAgree → ParsesByOneCall → TurnsSuffice → (n : ℕ) (answer : Result Tree Stop) → den g high 0 s [] ≢ Err Deep
        → ended (moves n (opening g s (Some known))) ≡ Some answer → Over answer (moves n (opening g s (Some known)))
    unfolding opening
    over heights parses suffice n answer settled ends =
        let run = least_of heights g high 0 s [] settled in
        let at : Key = record { rule = 0; from = 0; to = 0 + length s } in
        let it = (counted s high kept heights parses suffice run.least run.least (omega arith)).each g 0 s 0 [] [] known _ firsts run.low run.settled
        (first_ready run.least run.before) in
        let back = ended_back (den g run.least 0 s []) it.low it.key at firsts it.later it.more run.settled it.back in
        let same = ends_once n it.goes.count (opening g s (Some known)) answer _ ends (ap ended it.goes.is ∙ back) ∙ it.goes.is in
        let answers : answer ≡ den g run.least 0 s [] = (let e = sym ends ∙ ap ended same ∙ back in cc) in
        subst (Over answer) (sym same) (record {
          more = it.more;
          grown = it.grown;
          learnt = λ within. (
            it.later,
            refl,
            learnt_back (den g run.least 0 s []) it.low it.key at firsts it.later it.more run.settled (λ range. within (answers ∙ range)) it.back,
          );
        })

  fresh : (answer : Result Tree Stop) (e : Evaluation) (it : Over answer e) → IsFresh g s high kept it.more
  fresh answer e it = record {
    once = it.grown.new.once;
    new = it.grown.new.apart;
    first = inl (it.grown.stay (first_key s) (inl refl));
    closed = λ key called has calls. elim (it.grown.closed key has) [
      | inl old ↦ elim old [
        | inl first ↦
            it.grown.owns called (subst (λ bytes. Has (keys_in g high 0 0 bytes []) called) (whole_part s)
            (subst (λ k. Has (direct g s high k) called) (sym first) calls))
        | inr nothing ↦ absurd nothing
      ]
      | inr all ↦ all called calls
    ];
    only = it.grown.new.reached;
  }

  counts : (answer : Result Tree Stop) (e : Evaluation) → Over answer e
      → (keys : List Key) × IsFresh g s high kept keys × (e.tally.bodies ≡ length keys) × (e.tally.bodies + e.tally.hits ≡ 1 + calls_by g s high keys)
  counts answer e it =
      let whole = ap (λ bytes. length (keys_in g high 0 0 bytes [])) (whole_part s) in
      let bodies = it.grown.bodies in
      let asks = it.grown.asks in
      (it.more, fresh answer e it, omega arith, omega arith)

  -- ---- what is known at the end, where these keys had to run

  module _ (are : AreKnown known kept) (not_kept : Has kept (first_key s) → ⊥) (later : Known) (keys more : List Key)
      (learnt : Learnt g s high kept known firsts later more) (answer : Result Tree Stop) where
    abbrev all : Known
    all = (first_key s, answer) ∷ later

    first_unknown : find later (first_key s) ≡ None
    first_unknown = none_found (find later (first_key s)) (λ some.
        elim (learnt.only (first_key s) (knows_found later (first_key s) some)) [
          | inl old ↦ not_kept ((are (first_key s)).0 (found_knows known (first_key s) old))
          | inr other ↦ other (inl refl)
        ])

    all_are : AreSame keys more → Has keys (first_key s) → AreKnown all (keys ++ kept)
    all_are same first key = (
      λ some. let knows = knows_found all key some in
          elim (knows_either (first_key s) answer later key knows.0 _ refl knows.1) [
            | inl is ↦ has_left keys kept key (subst (Has keys) is first)
            | inr knows ↦ elim (learnt.right.each key knows.0 knows.1).0 [
              | inl has ↦ has_left keys kept key (same.1 key has)
              | inr old ↦ has_right keys kept key old
            ]
          ],
      λ has. found_knows all key (elim (has_either keys kept key has) [
        | inl one ↦ elim (learnt.new key (same.0 key one)) [
          | inl first ↦ elim first [ inl is ↦ knows_one (first_key s) answer later key is | inr nothing ↦ absurd nothing ]
          | inr knows ↦ knows_more (first_key s) answer later key knows
        ]
        | inr old ↦ knows_more (first_key s) answer later key (learnt.stay key (knows_found known key ((are key).1 old)))
      ]),
    )

pub counts_over : HeightsAgree → ParsesByOneCall → TurnsSuffice → CountsOver
counts_over heights parses suffice g s height n known kept answer right are not_kept settled ends =
    counts g s height known kept answer _ (over g s height known kept right are not_kept heights parses suffice n answer settled ends)

pub known_at_end : HeightsAgree → ParsesByOneCall → TurnsSuffice → OneFresh → KnownAtEnd
known_at_end heights parses suffice one_fresh g s height n known kept keys answer right are not_kept settled ends within is_fresh =
    let it = over g s height known kept right are not_kept heights parses suffice n answer settled ends in
    let same = one_fresh g s height kept kept keys it.more (λ key has. has, λ key has. has) is_fresh (fresh g s height known kept answer _ it) in
    let first : Has keys (first_key s) = elim is_fresh.first [ inl has ↦ has | inr old ↦ absurd (not_kept old) ] in
    let end = it.learnt within in (
      end.0,
      end.1,
      first_unknown g s height known kept are not_kept end.0 keys it.more end.2 answer,
      all_are g s height known kept are not_kept end.0 keys it.more end.2 answer same.0 first,
    )

pub counts_with_memo : CountsOver → KeysAreKnown → AllWhereNoneKept → CountsWithMemo
counts_with_memo counts are all g s height n answer settled ends =
    let it = counts g s height n [] [] answer tt (are []) (λ none. none) settled ends in
    (it.0, (all g s height it.0).1 it.1, it.2, it.3)
