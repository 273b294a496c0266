-- How calls nest hangs on which keys are known, in whatever order and however often.
use Rattle.std.proofs.Common.{◌≡◌, ◌≢◌, ℕ, zero, suc, ◌+◌, ◌≤◌, refl, sym, ap, subst, arith, List, [], ◌∷◌}
use Rattle.std.proofs.Common.{Option, Some, None, Err, Bool, true, false, cond, ◌⊎◌, inl, inr}
use Rattle.ipg_core.specs.Grammar.{Grammar, rule_at, holder_of}
use Rattle.ipg_core.specs.Part.{part}
use Rattle.ipg_core.specs.Environment.{Values}
use Rattle.ipg_core.specs.Run.{Asked, Deep}
use Rattle.ipg_core.specs.Meaning.{den}
use Rattle.ipg_mach_moves.specs.Moves.{Key, same_key}
use Rattle.ipg_mach_count_laws.specs.Counts.{Has, calls_of, key_of}
use Rattle.ipg_mach_count_laws.specs.Kept.{AreSame}
use Rattle.ipg_mach_count_laws.specs.Depth.{Nested, is_among, with_key, nested_over, nested}
use Rattle.ipg_mach_count_laws.proofs.Grown.{same_by, same_self}

-- a call that is opened is open
pub nested_some : (g : Grammar) (h : ℕ) (known : List Key) (r from : ℕ) (bytes : List ℕ) (outer : Values) → den g h r bytes outer ≢ Err Deep
    → 1 ≤ (nested g h known r from bytes outer).most
unfolding den nested
nested_some g zero known r from bytes outer settled = absurd (settled refl)
nested_some g (suc h) known r from bytes outer settled = omega arith

-- ---- known keys

or_true : (b other : Bool) → b ≡ true → cond b true other ≡ true
or_true b other e = rw e refl

has_later : (b other : Bool) → other ≡ true → cond b true other ≡ true
has_later true other e = refl
has_later false other e = e

pub has_among : (keys : List Key) (key : Key) → Has keys key → is_among keys key ≡ true
has_among (one ∷ keys) key (inl same) = or_true (same_key one key) (is_among keys key) (subst (λ key. same_key one key ≡ true) same (same_self one))
has_among (one ∷ keys) key (inr has) = has_later (same_key one key) (is_among keys key) (has_among keys key has)
has_among [] key has = absurd has

either_true : (b other : Bool) → cond b true other ≡ true → (b ≡ true) ⊎ (other ≡ true)
either_true true other e = inl refl
either_true false other e = inr e

pub among_has : (keys : List Key) (key : Key) → is_among keys key ≡ true → Has keys key
among_has [] key e = absurd (cc)
among_has (one ∷ keys) key e = elim (either_true (same_key one key) (is_among keys key) e) [
  | inl same ↦ inl (same_by one key same)
  | inr more ↦ inr (among_has keys key more)
]

bools_same : (b other : Bool) → (b ≡ true → other ≡ true) → (other ≡ true → b ≡ true) → b ≡ other
bools_same true other there back = sym (there refl)
bools_same false true there back = back refl
bools_same false false there back = refl

among_same : (keys same : List Key) (key : Key) → AreSame keys same → is_among keys key ≡ is_among same key
among_same keys same key are =
    bools_same (is_among keys key) (is_among same key) (λ e. has_among same key (are.0 key (among_has keys key e)))
    (λ e. has_among keys key (are.1 key (among_has same key e)))

with_same : (holder : Option (ℕ × ℕ)) (key : Key) (keys same : List Key) → AreSame keys same
    → AreSame (with_key holder key keys) (with_key holder key same)
with_same (Some holder) key keys same are = are
with_same None key keys same are = (
  λ one has. elim has [ inl is ↦ inl is | inr old ↦ inr (are.0 one old) ],
  λ one has. elim has [ inl is ↦ inl is | inr old ↦ inr (are.1 one old) ],
)

-- ---- what comes of calls

pub record Alike (one other : Nested) : Type 0 where
  pub known : AreSame one.known other.known
  pub most : one.most ≡ other.most

alike_by : (b other : Bool) (x y same_x same_y : Nested) → b ≡ other → Alike x same_x → Alike y same_y → Alike (cond b x y) (cond other same_x same_y)
alike_by true true x y same_x same_y e one two = one
alike_by false false x y same_x same_y e one two = two
alike_by true false x y same_x same_y e one two = absurd (cc)
alike_by false true x y same_x same_y e one two = absurd (cc)

module _ (g : Grammar) where
  abbrev Inner : Type 0
  Inner = List Key → ℕ → ℕ → List ℕ → Values → Nested

  abbrev AlikeInner : Inner → Type 0
  AlikeInner inner = (r from : ℕ) (s : List ℕ) (outer : Values) (known same : List Key) → AreSame known same
      → Alike (inner known r from s outer) (inner same r from s outer)

  alike_over : (inner : Inner) → AlikeInner inner → (from : ℕ) (s : List ℕ) (asked : List Asked) (known same : List Key) → AreSame known same
      → Alike (nested_over inner g known from s asked) (nested_over inner g same from s asked)
  alike_over inner alike from s [] known same are = record { known = are; most = refl }
  alike_over inner alike from s (ask ∷ asked) known same are =
      let key = key_of from s ask in
      let one = alike ask.callee (from + ask.from) (part s ask.from ask.to) ask.outer known same are in
      let holder = holder_of (rule_at g ask.callee) in
      let rest = alike_over inner alike from s asked _ _ (with_same holder key _ _ one.known) in
      let most = one.most in
      let more = rest.most in
      alike_by (is_among known key) (is_among same key) _ _ _ _ (among_same known same key are) (alike_over inner alike from s asked known same are)
      (record { known = rest.known; most = omega arith })

  pub alike_nested : (h : ℕ) → AlikeInner (nested g h)
  unfolding nested
  alike_nested zero r from s outer known same are = record { known = are; most = refl }
  alike_nested (suc h) r from s outer known same are =
      let calls = alike_over (nested g h) (alike_nested h) from s (calls_of g h r s outer) known same are in
      record { known = calls.known; most = ap (λ n. 1 + n) calls.most }
