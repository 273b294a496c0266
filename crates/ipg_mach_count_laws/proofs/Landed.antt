-- Where a call comes to its answer with a memo, and what may be said of the calls made on the way.
use Rattle.std.proofs.Common.{◌≡◌, ◌≢◌, ℕ, suc, ◌+◌, ◌≤◌, refl, arith, List, ◌++◌, Some, Result, Ok, Err, length, inl, inr}
use Rattle.ipg_core.specs.Grammar.{Grammar}
use Rattle.ipg_core.specs.Tree.{Tree}
use Rattle.ipg_core.specs.Environment.{Values}
use Rattle.ipg_core.specs.Run.{Stop, NoTree, OutOfRange, Deep}
use Rattle.ipg_core.specs.Meaning.{den}
use Rattle.ipg_mach_moves.specs.Moves.{Key, OpenCall, Highest, Holds, Known, Evaluation, Tally, opened}
use Rattle.ipg_mach_count_laws.specs.Counts.{keys_in, Has}
use Rattle.ipg_mach_count_laws.specs.Kept.{AreAmong}
use Rattle.ipg_mach_count_laws.proofs.Stays.{Goes, goes_on}
use Rattle.ipg_mach_count_laws.specs.Standing.{StandsAt}
use Rattle.ipg_mach_count_laws.proofs.Grown.{Reached, New, Grown, grown_both, Right, Fine, Learnt, learnt_none, learnt_both}

abbrev pub evaluation : List OpenCall → Highest → Known → Tally → Evaluation
evaluation lower highest known tally = record { lower = lower; highest = highest; known = Some known; tally = tally }

module _ (s : List ℕ) (high : ℕ) (kept : List Key) where
  pub fine_below : (g : Grammar) (h k : ℕ) (known : Known) (keys : List Key) → k ≤ h → Fine g s high kept (suc h) known keys → Fine g s high kept k known keys
  fine_below g h k known keys le fine = record {
    right = fine.right;
    keeps = fine.keeps;
    opens = λ key has. elim (fine.opens key has) [ inl knows ↦ inl knows | inr deep ↦ inr (λ j lt. deep j (omega arith)) ];
  }

  -- where the call at a key holds its answer, in its place
  pub record Home (g : Grammar) (low lower : List OpenCall) (key at : Key) (known : Known) (keys : List Key) (later : Known) (more : List Key) : Type 0 where
    pub place : low ≡ lower
    pub same : key ≡ at
    pub learnt : Learnt g s high kept known keys later more

  abbrev pub Back : Grammar → Result Tree Stop → List OpenCall → List OpenCall → Key → Key → Known → List Key → Known → List Key → Type 0
  Back g (Ok tree) low lower key at known keys later more = Home g low lower key at known keys later more
  Back g (Err NoTree) low lower key at known keys later more = Home g low lower key at known keys later more
  Back g (Err OutOfRange) low lower key at known keys later more = Unit {0}
  Back g (Err Deep) low lower key at known keys later more = Unit {0}

  -- it comes to an answer, with the calls of these keys made on the way
  pub record Lands (g : Grammar) (answer : Result Tree Stop) (lower : List OpenCall) (at : Key) (own : List Key) (e : Evaluation) (known : Known)
      (tally : Tally) (keys : List Key) : Type 0 where
    pub low : List OpenCall
    pub key : Key
    pub later : Known
    pub counted : Tally
    pub more : List Key
    pub goes : Goes e (evaluation low (Holds key answer) later counted)
    pub grown : Grown g s high kept own tally keys counted more
    pub back : Back g answer low lower key at known keys later more

  pub back_here : (g : Grammar) (answer : Result Tree Stop) (lower : List OpenCall) (at : Key) (known : Known) (keys : List Key)
      → Right g s high kept known keys
      → Back g answer lower lower at at known keys known keys
  back_here g (Ok tree) lower at known keys right = record { place = refl; same = refl; learnt = learnt_none g s high kept known keys right }
  back_here g (Err NoTree) lower at known keys right = record { place = refl; same = refl; learnt = learnt_none g s high kept known keys right }
  back_here g (Err OutOfRange) lower at known keys right = tt
  back_here g (Err Deep) lower at known keys right = tt

  home_after : (g : Grammar) (low lower : List OpenCall) (key at : Key) (known middle later : Known) (keys some more : List Key)
      → AreAmong keys some → Learnt g s high kept known keys middle some → Home g low lower key at middle some later more
      → Home g low lower key at known keys later more
  home_after g low lower key at known middle later keys some more stay learnt home = record {
    place = home.place;
    same = home.same;
    learnt = learnt_both g s high kept known middle later keys some more stay learnt home.learnt;
  }

  back_after : (g : Grammar) (answer : Result Tree Stop) (low lower : List OpenCall) (key at : Key) (known middle later : Known) (keys some more : List Key)
      → AreAmong keys some → Learnt g s high kept known keys middle some → Back g answer low lower key at middle some later more
      → Back g answer low lower key at known keys later more
  back_after g (Ok tree) low lower key at known middle later keys some more stay learnt home =
      home_after g low lower key at known middle later keys some more stay learnt home
  back_after g (Err NoTree) low lower key at known middle later keys some more stay learnt home =
      home_after g low lower key at known middle later keys some more stay learnt home
  back_after g (Err OutOfRange) low lower key at known middle later keys some more stay learnt home = tt
  back_after g (Err Deep) low lower key at known middle later keys some more stay learnt home = tt

  pub lands_both : (g : Grammar) (answer : Result Tree Stop) (lower : List OpenCall) (at : Key) (own other : List Key) (e next : Evaluation)
      (known middle : Known) (tally counted : Tally) (keys some : List Key) → Goes e next → Grown g s high kept own tally keys counted some
      → Learnt g s high kept known keys middle some → Lands g answer lower at other next middle counted some
      → Lands g answer lower at (own ++ other) e known tally keys
  lands_both g answer lower at own other e next known middle tally counted keys some goes grown learnt lands = record {
    low = lands.low;
    key = lands.key;
    later = lands.later;
    counted = lands.counted;
    more = lands.more;
    goes = goes_on e next _ goes lands.goes;
    grown = grown_both g s high kept own other tally counted lands.counted keys some lands.more grown lands.grown;
    back = back_after g answer lands.low lower lands.key at known middle lands.later keys some lands.more grown.stay learnt lands.back;
  }

  pub lands_after : (g : Grammar) (answer : Result Tree Stop) (lower : List OpenCall) (at : Key) (own : List Key) (e next : Evaluation) (known : Known)
      (tally : Tally) (keys : List Key) → Goes e next → Lands g answer lower at own next known tally keys → Lands g answer lower at own e known tally keys
  lands_after g answer lower at own e next known tally keys goes lands = record {
    low = lands.low;
    key = lands.key;
    later = lands.later;
    counted = lands.counted;
    more = lands.more;
    goes = goes_on e next _ goes lands.goes;
    grown = lands.grown;
    back = lands.back;
  }

  -- calls of a call on these bytes may be made, with these keys
  pub record Ready (g : Grammar) (h from : ℕ) (bytes : List ℕ) (own : List Key) (known : Known) (keys : List Key) : Type 0 where
    pub stands : StandsAt s from bytes
    pub fine : Fine g s high kept h known keys
    pub new : New g s high kept keys
    pub owned : (key : Key) → Has own key → Reached g s high kept key

  -- each call whose calls nest so deep
  pub record Counted (h : ℕ) : Type 0 where
    pub each : (g : Grammar) (r : ℕ) (bytes : List ℕ) (from : ℕ) (outer : Values) (lower : List OpenCall) (known : Known) (tally : Tally) (keys : List Key)
        → h ≤ high → den g h r bytes outer ≢ Err Deep → Ready g h from bytes (keys_in g high r from bytes outer) known keys
        → Lands g (den g h r bytes outer) lower (record { rule = r; from = from; to = from + length bytes }) (keys_in g high r from bytes outer)
        (evaluation lower (opened g r bytes from outer) known tally) known tally keys
