-- How the keys that were opened, and what is known, grow as calls are made.
use Rattle.std.proofs.Common.{◌≡◌, ℕ, ◌+◌, ◌<◌, refl, sym, ap, ◌∙◌, subst, arith, List, [], ◌∷◌, ◌++◌, Option, Some, None, Result, Err, Bool, true}
use Rattle.std.proofs.Common.{false, cond, length, ◌⊎◌, inl, inr}
use Rattle.std.proofs.lemmas.Bool.{and_parts, eqb-true, eq-eqb}
use Rattle.std.proofs.lemmas.List.{length-append}
use Rattle.ipg_core.specs.Grammar.{Grammar}
use Rattle.ipg_core.specs.Part.{part}
use Rattle.ipg_core.specs.Tree.{Tree}
use Rattle.ipg_core.specs.Run.{Stop, Deep}
use Rattle.ipg_core.specs.Meaning.{den}
use Rattle.ipg_mach_moves.specs.Moves.{Key, Known, Tally, same_key, find, learned, one_opened, one_known}
use Rattle.ipg_mach_moves.specs.Laws.{IsRight}
use Rattle.ipg_mach_count_laws.specs.Counts.{key_or, direct, Has, NoneTwice, calls_by}
use Rattle.ipg_mach_count_laws.specs.Kept.{AreAmong, AreApart, IsReachedWithout}

-- ---- keys in lists

pub has_left : (xs ys : List Key) (key : Key) → Has xs key → Has (xs ++ ys) key
has_left (x ∷ xs) ys key (inl e) = inl e
has_left (x ∷ xs) ys key (inr h) = inr (has_left xs ys key h)
has_left [] ys key h = absurd h

pub has_right : (xs ys : List Key) (key : Key) → Has ys key → Has (xs ++ ys) key
has_right [] ys key h = h
has_right (x ∷ xs) ys key h = inr (has_right xs ys key h)

pub has_either : (xs ys : List Key) (key : Key) → Has (xs ++ ys) key → Has xs key ⊎ Has ys key
has_either [] ys key h = inr h
has_either (x ∷ xs) ys key (inl e) = inl (inl e)
has_either (x ∷ xs) ys key (inr h) = elim (has_either xs ys key h) [ inl one ↦ inl (inr one) | inr other ↦ inr other ]

pub same_by : (a b : Key) → same_key a b ≡ true → a ≡ b
same_by a b e =
    let outer = and_parts _ _ e in
    let inner = and_parts _ _ outer.0 in
    let rule : a.rule ≡ b.rule = eqb-true _ _ inner.0 in
    let from : a.from ≡ b.from = eqb-true _ _ inner.1 in
    let to : a.to ≡ b.to = eqb-true _ _ outer.1 in
    ap (λ r. record { rule = r; from = a.from; to = a.to }) rule
    ∙ ap (λ l. record { rule = b.rule; from = l; to = a.to }) from
    ∙ ap (λ r. record { rule = b.rule; from = b.from; to = r }) to

pub same_self : (key : Key) → same_key key key ≡ true
same_self key = rw (eq-eqb key.rule key.rule refl) (rw (eq-eqb key.from key.from refl) (eq-eqb key.to key.to refl))

-- an answer is known of the key
abbrev pub Knows : Known → Key → Type 0
Knows known key = (answer : Result Tree Stop) × (find known key ≡ Some answer)

knows_by : (answer : Result Tree Stop) (found : Option (Result Tree Stop)) (b : Bool) (x : Result Tree Stop) → found ≡ Some x
    → (other : Result Tree Stop) × (cond b (Some answer) found ≡ Some other)
knows_by answer found true x e = (answer, refl)
knows_by answer found false x e = (x, e)

pub knows_more : (one : Key) (answer : Result Tree Stop) (known : Known) (key : Key) → Knows known key → Knows ((one, answer) ∷ known) key
knows_more one answer known key knows = knows_by answer (find known key) (same_key one key) knows.0 knows.1

pub knows_one : (one : Key) (answer : Result Tree Stop) (known : Known) (key : Key) → one ≡ key → Knows ((one, answer) ∷ known) key
knows_one one answer known key e =
    (answer, ap (λ b. cond b (Some answer) (find known key)) (ap (same_key one) (sym e) ∙ same_self one))

-- with an answer more it is that key, or was known
pub knows_either : (one : Key) (answer : Result Tree Stop) (known : Known) (key : Key) (x : Result Tree Stop) (b : Bool) → same_key one key ≡ b
    → cond b (Some answer) (find known key) ≡ Some x → (one ≡ key) ⊎ Knows known key
knows_either one answer known key x true same e = inl (same_by one key same)
knows_either one answer known key x false same e = inr (x, e)

module _ (g : Grammar) (s : List ℕ) (high : ℕ) (kept : List Key) where
  abbrev pub Reached : Key → Type 0
  Reached key = IsReachedWithout g s high kept key

  -- keys that may have been opened
  pub record New (keys : List Key) : Type 0 where
    pub once : NoneTwice keys
    pub apart : AreApart keys kept
    pub reached : (key : Key) → Has keys key → Reached key

  -- ---- from the keys so far and the tally to later ones, with these calls of global rules made between
  pub record Grown (own : List Key) (tally : Tally) (keys : List Key) (later : Tally) (more : List Key) : Type 0 where
    pub bodies : later.bodies + length keys ≡ tally.bodies + length more
    pub asks : later.bodies + later.hits + calls_by g s high keys ≡ tally.bodies + tally.hits + length own + calls_by g s high more
    pub new : New more
    pub stay : AreAmong keys more
    pub owns : (key : Key) → Has own key → Has more key ⊎ Has kept key
    pub closed : (key : Key) → Has more key
        → Has keys key ⊎ ((called : Key) → Has (direct g s high key) called → Has more called ⊎ Has kept called)

  -- a key that was opened so far, or is kept, is so later
  later_or_kept : (some more : List Key) (key : Key) → AreAmong some more → Has some key ⊎ Has kept key → Has more key ⊎ Has kept key
  later_or_kept some more key stay (inl has) = inl (stay key has)
  later_or_kept some more key stay (inr old) = inr old

  pub grown_none : (tally : Tally) (keys : List Key) → New keys → Grown [] tally keys tally keys
  grown_none tally keys new = record {
    bodies = refl;
    asks = omega arith;
    new = new;
    stay = λ key h. h;
    owns = λ key h. absurd h;
    closed = λ key h. inl h;
  }

  pub grown_both : (own other : List Key) (tally middle later : Tally) (keys some more : List Key) → Grown own tally keys middle some
      → Grown other middle some later more → Grown (own ++ other) tally keys later more
  grown_both own other tally middle later keys some more one two =
      let n = length-append own other in
      let a = one.bodies in
      let b = two.bodies in
      let c = one.asks in
      let d = two.asks in
      record {
        bodies = omega arith;
        asks = omega arith;
        new = two.new;
        stay = λ key h. two.stay key (one.stay key h);
        owns = λ key h. elim (has_either own other key h) [
          | inl first ↦ later_or_kept some more key two.stay (one.owns key first)
          | inr second ↦ two.owns key second
        ];
        closed = λ key h. elim (two.closed key h) [
          | inl old ↦ elim (one.closed key old) [
            | inl first ↦ inl first
            | inr calls ↦ inr (λ called c. later_or_kept some more called two.stay (calls called c))
          ]
          | inr calls ↦ inr calls
        ];
      }

  -- a call that is known
  pub grown_hit : (key : Key) (tally : Tally) (keys : List Key) → New keys → Has keys key ⊎ Has kept key
      → Grown (key ∷ []) tally keys (one_known tally) keys
  grown_hit key tally keys new has = record {
    bodies = refl;
    asks = omega arith;
    new = new;
    stay = λ key h. h;
    owns = λ other h. elim h [ inl e ↦ subst (λ key. Has keys key ⊎ Has kept key) e has | inr none ↦ absurd none ];
    closed = λ key h. inl h;
  }

  -- a call that is opened: a key more, if its rule is global
  abbrev pub keys_with : Option (ℕ × ℕ) → Key → List Key → List Key
  keys_with None key keys = key ∷ keys
  keys_with (Some holder) key keys = keys

  pub grown_opened : (holder : Option (ℕ × ℕ)) (key : Key) (inner : List Key) (n : ℕ) (tally later : Tally) (keys more : List Key)
      → (holder ≡ None → direct g s high key ≡ inner)
      → Grown inner (one_opened tally holder n) (keys_with holder key keys) later more → Grown (key_or holder key inner) tally keys later more
  grown_opened (Some holder) key inner n tally later keys more is one =
      let a = one.bodies in
      let c = one.asks in
      record { bodies = omega arith; asks = omega arith; new = one.new; stay = one.stay; owns = one.owns; closed = one.closed }
  grown_opened None key inner n tally later keys more is one =
      let a = one.bodies in
      let c = one.asks in
      let e = ap length (is refl) in
      record {
        bodies = omega arith;
        asks = omega arith;
        new = one.new;
        stay = λ other h. one.stay other (inr h);
        owns = λ other h. elim h [ inl e ↦ inl (one.stay other (inl e)) | inr none ↦ absurd none ];
        closed = λ other h. elim (one.closed other h) [
          | inl old ↦ elim old [
            | inl e ↦ inr (λ called c. one.owns called (subst (λ keys. Has keys called) (is refl) (subst (λ k. Has (direct g s high k) called) (sym e) c)))
            | inr older ↦ inl older
          ]
          | inr calls ↦ inr calls
        ];
      }

  -- ---- what is known

  -- of keys that were opened or are kept, and with the answers of their global rules
  pub record Right (known : Known) (keys : List Key) : Type 0 where
    pub each : (key : Key) (answer : Result Tree Stop) → find known key ≡ Some answer → (Has keys key ⊎ Has kept key) × IsRight g s (key, answer)

  -- no height below is enough for the key
  abbrev pub TooDeep : ℕ → Key → Type 0
  TooDeep h key = (k : ℕ) → k < h → den g k key.rule (part s key.from key.to) [] ≡ Err Deep

  -- each key that is kept is known; each that was opened is known, or is open and too deep to be called again
  pub record Fine (h : ℕ) (known : Known) (keys : List Key) : Type 0 where
    pub right : Right known keys
    pub keeps : (key : Key) → Has kept key → Knows known key
    pub opens : (key : Key) → Has keys key → Knows known key ⊎ TooDeep h key

  -- what was known still is, and besides it keys that weren't opened yet, which are all that were opened since
  pub record Learnt (known : Known) (keys : List Key) (later : Known) (more : List Key) : Type 0 where
    pub right : Right later more
    pub stay : (key : Key) → Knows known key → Knows later key
    pub new : (key : Key) → Has more key → Has keys key ⊎ Knows later key
    pub only : (key : Key) → Knows later key → Knows known key ⊎ (Has keys key → ⊥)

  pub learnt_none : (known : Known) (keys : List Key) → Right known keys → Learnt known keys known keys
  learnt_none known keys right =
      record { right = right; stay = λ key knows. knows; new = λ key h. inl h; only = λ key knows. inl knows }

  pub learnt_both : (known middle later : Known) (keys some more : List Key) → AreAmong keys some → Learnt known keys middle some
      → Learnt middle some later more → Learnt known keys later more
  learnt_both known middle later keys some more stay one two = record {
    right = two.right;
    stay = λ key knows. two.stay key (one.stay key knows);
    new = λ key h. elim (two.new key h) [
      | inl old ↦ elim (one.new key old) [ inl first ↦ inl first | inr knows ↦ inr (two.stay key knows) ]
      | inr knows ↦ inr knows
    ];
    only = λ key knows. elim (two.only key knows) [
      | inl old ↦ one.only key old
      | inr none ↦ inr (λ has. none (stay key has))
    ];
  }

  pub fine_then : (h : ℕ) (known later : Known) (keys more : List Key) → Fine h known keys → Learnt known keys later more → Fine h later more
  fine_then h known later keys more fine learnt = record {
    right = learnt.right;
    keeps = λ key has. learnt.stay key (fine.keeps key has);
    opens = λ key has. elim (learnt.new key has) [
      | inl old ↦ elim (fine.opens key old) [ inl knows ↦ inl (learnt.stay key knows) | inr deep ↦ inr deep ]
      | inr knows ↦ inl knows
    ];
  }

  -- ---- a call that has come back: one answer more is known, if its rule is global

  right_by : (one : Key) (answer : Result Tree Stop) (known : Known) (more : List Key) (key : Key) (x : Result Tree Stop) (b : Bool) → same_key one key ≡ b
      → Right known more → Has more one → IsRight g s (one, answer) → cond b (Some answer) (find known key) ≡ Some x
      → (Has more key ⊎ Has kept key) × IsRight g s (key, x)
  right_by one answer known more key x true same right has own e =
      let is : answer ≡ x = cc in
      subst (λ x. (Has more key ⊎ Has kept key) × IsRight g s (key, x)) is
      (subst (λ k. (Has more k ⊎ Has kept k) × IsRight g s (k, answer)) (same_by one key same) (inl has, own))
  right_by one answer known more key x false same right has own e = right.each key x e

  pub learnt_back : (holder : Option (ℕ × ℕ)) (key : Key) (answer : Result Tree Stop) (known later : Known) (keys more : List Key)
      → NoneTwice (keys_with holder key keys) → AreAmong (keys_with holder key keys) more → (holder ≡ None → IsRight g s (key, answer))
      → Learnt known (keys_with holder key keys) later more → Learnt known keys (learned holder later key answer) more
  learnt_back (Some holder) key answer known later keys more once stay is one = one
  learnt_back None key answer known later keys more once stay is one = record {
    right = record { each = λ other x e. right_by key answer later more other x _ refl one.right (stay key (inl refl)) (is refl) e };
    stay = λ other knows. knows_more key answer later other (one.stay other knows);
    new = λ other h. elim (one.new other h) [
      | inl old ↦ elim old [ inl e ↦ inr (knows_one key answer later other e) | inr older ↦ inl older ]
      | inr knows ↦ inr (knows_more key answer later other knows)
    ];
    only = λ other knows. elim (knows_either key answer later other knows.0 _ refl knows.1) [
      | inl same ↦ inr (λ has. once.0 (subst (Has keys) (sym same) has))
      | inr old ↦ elim (one.only other old) [ inl first ↦ inl first | inr none ↦ inr (λ has. none (inr has)) ]
    ];
  }
