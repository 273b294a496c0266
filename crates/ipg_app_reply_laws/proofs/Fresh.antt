-- The keys that have to run for an input, where some are kept, exist.
use Rattle.std.proofs.Common.{◌≡◌, ◌≢◌, ℕ, zero, suc, ◌+◌, ◌-◌, ◌<◌, ◌≤◌, ◌⊎◌, inl, inr, refl, sym, ap, ◌∙◌, subst, List, [], ◌∷◌, ◌++◌, length, take}
use Rattle.std.proofs.Common.{drop, arith, Option, Some, None, Result, Err}
use Rattle.std.proofs.lemmas.Option.{slice_get_past}
use Rattle.std.specs.List.{AllByRecursion}
use Rattle.ipg_core.specs.declared.grammar.CoreRule.{CoreRule}
use Rattle.ipg_core.specs.Grammar.{Grammar, rule_at, holder_of}
use Rattle.ipg_core.specs.Good.{Good}
use Rattle.ipg_core.specs.Grown.{IsInput, GrownUnder}
use Rattle.ipg_core.specs.Part.{part}
use Rattle.ipg_core.specs.Environment.{Values}
use Rattle.ipg_core.specs.Meaning.{den, rule_on, rule_run, Means}
use Rattle.ipg_core.specs.Run.{Stop, NoTree, Deep, Asked, stop}
use Rattle.ipg_core.specs.Total.{Total, height_for}
use Rattle.ipg_core.specs.Tree.{Tree}
use Rattle.ipg_mach_moves.specs.Moves.{Key, Known}
use Rattle.ipg_mach_moves.specs.Laws.{IsRight, AreRight, EndsAsMeant}
use Rattle.ipg_mach_count_laws.specs.Counts.{keys_over, keys_in, key_or, key_of, calls_of, Has, first_key, IsChain}
use Rattle.ipg_mach_count_laws.specs.Kept.{IsFresh, AreKnown, keys_of}
use Rattle.ipg_mach_count_laws.specs.Laws.{CountsOver, KeysAreKnown, NoneWhereFirstKept}
use Rattle.ipg_app_reply_laws.proofs.Classical.{Somehow, some, ◌>>=◌, by, middle}
use Rattle.ipg_app_reply_laws.proofs.Limits.{inside_or}
use Rattle.ipg_app_reply_laws.proofs.Meanings.{first_is_global}

module _ (g : Grammar) where
  -- the key's rule is no local one
  abbrev pub IsGlobal : Key → Type 0
  IsGlobal key = holder_of (rule_at g key.rule) ≡ None

  abbrev pub AreGlobal : List Key → Type 0
  AreGlobal keys = (key : Key) → Has keys key → IsGlobal key

  -- ---- a key that is called is global

  pub either : (xs ys : List Key) (key : Key) → Has (xs ++ ys) key → Has xs key ⊎ Has ys key
  either [] ys key h = inr h
  either (x ∷ xs) ys key (inl e) = inl (inl e)
  either (x ∷ xs) ys key (inr h) = by (either xs ys key h) (λ l. inl (inr l)) (λ r. inr r)

  one_call : (holder : Option (ℕ × ℕ)) (callee : Key) (inner : List Key) → holder_of (rule_at g callee.rule) ≡ holder → AreGlobal inner
      → AreGlobal (key_or holder callee inner)
  one_call None callee inner is all key (inl e) = subst IsGlobal e is
  one_call None callee inner is all key (inr none) = absurd none
  one_call (Some holder) callee inner is all key h = all key h

  over_global : (inner : ℕ → ℕ → List ℕ → Values → List Key) → ((r from : ℕ) (s : List ℕ) (outer : Values) → AreGlobal (inner r from s outer))
      → (from : ℕ) (s : List ℕ) (asked : List Asked) → AreGlobal (keys_over inner g from s asked)
  over_global inner each from s [] key h = absurd h
  over_global inner each from s (ask ∷ asked) key h =
      let own = inner ask.callee (from + ask.from) (part s ask.from ask.to) ask.outer in
      let first = key_or (holder_of (rule_at g ask.callee)) (key_of from s ask) own in
      by (either first (keys_over inner g from s asked) key h)
      (λ l. one_call (holder_of (rule_at g ask.callee)) (key_of from s ask) own refl
      (each ask.callee (from + ask.from) (part s ask.from ask.to) ask.outer) key l)
      (λ r. over_global inner each from s asked key r)

  in_global : (h r from : ℕ) (s : List ℕ) (outer : Values) → AreGlobal (keys_in g h r from s outer)
  unfolding keys_in
  in_global zero r from s outer key has = absurd has
  in_global (suc h) r from s outer key has = over_global (keys_in g h) (in_global h) from s (calls_of g h r s outer) key has

  reached_global : IsGlobal (record { rule = 0; from = 0; to = 0 }) → (s : List ℕ) (h : ℕ) (key : Key) (chain : List Key)
      → IsChain g s h key chain → IsGlobal key
  reached_global first s h key [] is = subst IsGlobal is first
  reached_global first s h key (caller ∷ chain) is = in_global h caller.rule caller.from (part s caller.from caller.to) [] key is.0

  pub fresh_global : Good g → (s : List ℕ) (h : ℕ) (kept keys : List Key) → IsFresh g s h kept keys → AreGlobal keys
  fresh_global good s h kept keys fresh key has =
      let way = fresh.only key has in
      reached_global (first_is_global g good) s h key way.0 way.1

-- ---- what may be known of kept keys

pub all_taken : (P : ℕ → Type 0) (n : ℕ) (s : List ℕ) → AllByRecursion P s → AllByRecursion P (take n s)
all_taken P zero s h = tt
all_taken P (suc n) [] h = tt
all_taken P (suc n) (b ∷ s) h = (h.0, all_taken P n s h.1)

pub all_dropped : (P : ℕ → Type 0) (n : ℕ) (s : List ℕ) → AllByRecursion P s → AllByRecursion P (drop n s)
all_dropped P zero s h = h
all_dropped P (suc n) [] h = tt
all_dropped P (suc n) (b ∷ s) h = all_dropped P n s h.1

taken_short : (n : ℕ) (s : List ℕ) → length (take n s) ≤ length s
taken_short zero s = omega arith
taken_short (suc n) [] = omega arith
taken_short (suc n) (b ∷ s) = let rest = taken_short n s in omega (arith, rest)

dropped_short : (n : ℕ) (s : List ℕ) → length (drop n s) ≤ length s
dropped_short zero s = omega arith
dropped_short (suc n) [] = omega arith
dropped_short (suc n) (b ∷ s) = let rest = dropped_short n s in omega (arith, rest)

pub part_input : (s : List ℕ) (from to : ℕ) → IsInput s → IsInput (part s from to)
part_input s from to h = record {
  size = let a = taken_short (to - from) (drop from s) in let b = dropped_short from s in let c = h.size in omega (arith, a, b, c);
  bytes = all_taken (λ b. b < 256) (to - from) (drop from s) (all_dropped (λ b. b < 256) from s h.bytes);
}

not_deep : (answer : Result Tree Stop) → answer ≡ Err NoTree → answer ≢ Err Deep
not_deep answer is deep = absurd (cc)

none_there : (g : Grammar) (r : ℕ) (s : List ℕ) (outer : Values) → rule_at g r ≡ None → den g 1 r s outer ≡ Err NoTree
unfolding den rule_on stop
none_there g r s outer e =
    ap (λ (rule : Option CoreRule). (rule_run (den g 0) (record { grammar = g; rule = r; alt = 0; bytes = s; outer = outer }) rule).answer) e

module _ (g : Grammar) (good : Good g) (total : Total g) (s : List ℕ) (input : IsInput s) where
  -- a global rule on an interval has an answer
  settle : (key : Key) → IsGlobal g key → (answer : Result Tree Stop) × IsRight g s (key, answer)
  settle key global =
      by (inside_or (length g.rules) key.rule)
      (λ lt.
      let bytes = part s key.from key.to in (
        den g (height_for g bytes) key.rule bytes [],
        record {
          global = global;
          height = height_for g bytes;
          is = refl;
          settled = total key.rule bytes [] (record {
            rule = lt;
            input = part_input s key.from key.to input;
            grown = subst (λ (holder : Option (ℕ × ℕ)). GrownUnder g holder key.rule bytes []) (sym global) refl;
          });
        },
      ))
      (λ ge. (
        Err NoTree,
        record {
          global = global;
          height = 1;
          is = none_there g key.rule (part s key.from key.to) [] (slice_get_past g.rules key.rule ge);
          settled = not_deep (Err NoTree) refl;
        },
      ))

  pub record KnownOf (kept : List Key) : Type 0 where
    pub known : Known
    pub keys : keys_of known ≡ kept
    pub right : AreRight g s (Some known)

  know : (kept : List Key) → AreGlobal g kept → KnownOf kept
  know [] all = record { known = []; keys = refl; right = tt }
  know (key ∷ kept) all =
      let first = settle key (all key (inl refl)) in
      let rest = know kept (λ other h. all other (inr h)) in
      record { known = (key, first.0) ∷ rest.known; keys = ap (λ ks. key ∷ ks) rest.keys; right = (first.1, rest.right) }

  module _ (ends : EndsAsMeant) (are_known : KeysAreKnown) (over : CountsOver) (none_run : NoneWhereFirstKept) where
    runs : (answer : Result Tree Stop) (means : Means g s answer) (kept : List Key) → (known : KnownOf kept) → (Has kept (first_key s) → ⊥)
        → (keys : List Key) × IsFresh g s means.height kept keys
    runs answer means kept known new =
        let e = ends g s (Some known.known) answer known.right means in
        let of = subst (AreKnown known.known) known.keys (are_known known.known) in
        let counts = over g s means.height e.0 known.known kept answer known.right of new (λ deep. means.settled (sym means.is ∙ deep)) e.1 in
        (counts.0, counts.1)

    -- the keys that have to run where some are kept
    pub fresh : (answer : Result Tree Stop) (means : Means g s answer) (kept : List Key) → AreGlobal g kept
        → Somehow ((keys : List Key) × IsFresh g s means.height kept keys)
    fresh answer means kept global = do
      first ← middle (Has kept (first_key s))
      some (by first (λ has. ([], none_run g s means.height kept has)) (λ new. runs answer means kept (know kept global) new))
