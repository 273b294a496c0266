-- The keys that have to run are the same at each height that suffices for the first.
use Rattle.std.proofs.Common.{◌≡◌, ◌≢◌, ℕ, zero, suc, ◌+◌, refl, sym, ap, ◌∙◌, subst, arith, List, [], ◌∷◌}
use Rattle.std.proofs.Common.{Option, Some, None, Err, length, inl, inr}
use Rattle.std.specs.List.{AllByRecursion}
use Rattle.ipg_core.specs.Grammar.{Grammar, rule_at, holder_of}
use Rattle.ipg_core.specs.Part.{part}
use Rattle.ipg_core.specs.Environment.{Values}
use Rattle.ipg_core.specs.Run.{Deep, Asked}
use Rattle.ipg_core.specs.Meaning.{den}
use Rattle.ipg_core.specs.Laws.{HeightsAgree, TurnsSuffice}
use Rattle.ipg_mach_moves.specs.Moves.{Key}
use Rattle.ipg_mach_moves.specs.Laws.{ParsesByOneCall}
use Rattle.ipg_mach_count_laws.specs.Counts.{calls_of, key_of, key_or, keys_over, keys_in, direct, Has, first_key, IsChain, calls_by}
use Rattle.ipg_mach_count_laws.specs.Kept.{IsFresh}
use Rattle.ipg_mach_count_laws.specs.Laws.{FreshAtAnyHeight}
use Rattle.ipg_mach_count_laws.specs.Standing.{StandsAt}
use Rattle.ipg_mach_count_laws.proofs.Parts.{part_at, part_stands, part_stands_there, whole_part}
use Rattle.ipg_mach_count_laws.proofs.Heights.{IsMade, calls_made, keys_agree}
use Rattle.ipg_mach_count_laws.proofs.Grown.{has_either}

module _ (heights : HeightsAgree) (g : Grammar) (s : List ℕ) where
  -- the height suffices for the key
  abbrev Suffices : ℕ → Key → Type 0
  Suffices h key = den g h key.rule (part s key.from key.to) [] ≢ Err Deep

  raise : (h : ℕ) (key : Key) → Suffices h key → Suffices (suc h) key
  raise h key settled deep = settled (sym (heights g h (suc h) key.rule (part s key.from key.to) [] (omega arith) settled) ∙ deep)

  -- where it suffices for a call it does for the keys that this calls
  abbrev ForCalled : ℕ → Type 0
  ForCalled h = (r from : ℕ) (bytes : List ℕ) (outer : Values) → StandsAt s from bytes → den g h r bytes outer ≢ Err Deep
      → (key : Key) → Has (keys_in g h r from bytes outer) key → Suffices h key

  module _ (h : ℕ) (inner : ForCalled h) (from : ℕ) (bytes : List ℕ) (stands : StandsAt s from bytes) where
    for_one : (ask : Asked) (holder : Option (ℕ × ℕ)) → holder_of (rule_at g ask.callee) ≡ holder → IsMade g h bytes ask → (key : Key)
        → Has (key_or holder (key_of from bytes ask) (keys_in g h ask.callee (from + ask.from) (part bytes ask.from ask.to) ask.outer)) key → Suffices h key
    for_one ask None global made key (inl same) =
        let there = part_stands s from ask.from ask.to bytes stands in
        let at = key_of from bytes ask in
        let is : den g h at.rule (part s at.from at.to) [] ≡ den g h ask.callee (part bytes ask.from ask.to) ask.outer =
        ap (λ bytes. den g h ask.callee bytes []) (part_at s _ _ there) ∙ ap (den g h ask.callee (part bytes ask.from ask.to)) (sym (made.plain global)) in
        subst (Suffices h) same (λ deep. made.settled (sym is ∙ deep))
    for_one ask None global made key (inr none) = absurd none
    for_one ask (Some holder) local made key has =
        inner ask.callee (from + ask.from) (part bytes ask.from ask.to) ask.outer (part_stands s from ask.from ask.to bytes stands) made.settled key has

    for_all : (asked : List Asked) → AllByRecursion (IsMade g h bytes) asked → (key : Key) → Has (keys_over (keys_in g h) g from bytes asked) key
        → Suffices h key
    for_all [] all key has = absurd has
    for_all (ask ∷ asked) all key has = elim (has_either _ _ key has) [
      | inl one ↦ for_one ask _ refl all.0 key one
      | inr more ↦ for_all asked all.1 key more
    ]

  module _ (parses : ParsesByOneCall) (suffice : TurnsSuffice) where
    for_called : (h : ℕ) → ForCalled h
    unfolding keys_in
    for_called zero r from bytes outer stands settled key has = absurd has
    for_called (suc h) r from bytes outer stands settled key has =
        raise h key (for_all h (for_called h) from bytes stands (calls_of g h r bytes outer) (calls_made heights parses suffice g h r bytes outer settled)
        key has)

    calls_suffice : (h : ℕ) (caller key : Key) → Suffices h caller → Has (direct g s h caller) key → Suffices h key
    calls_suffice h caller key settled calls =
        for_called h caller.rule caller.from (part s caller.from caller.to) [] (part_stands_there s caller.from caller.to) settled key calls

    first_suffices : (h : ℕ) → den g h 0 s [] ≢ Err Deep → Suffices h (first_key s)
    first_suffices h settled deep = settled (sym (ap (λ bytes. den g h 0 bytes []) (whole_part s)) ∙ deep)

    module _ (h other : ℕ) where
      direct_same : (key : Key) → Suffices h key → Suffices other key → direct g s h key ≡ direct g s other key
      direct_same key one two =
          let bytes = part s key.from key.to in
          keys_agree heights parses suffice g h (h + other) (omega arith) key.rule key.from bytes [] one
          ∙ sym (keys_agree heights parses suffice g other (h + other) (omega arith) key.rule key.from bytes [] two)

      module _ (first : den g h 0 s [] ≢ Err Deep) (too : den g other 0 s [] ≢ Err Deep) where
        -- a key that is reached at one height is so at the other, and both suffice for it
        record Both (key : Key) (chain : List Key) : Type 0 where
          one : Suffices h key
          two : Suffices other key
          linked : IsChain g s other key chain

        both : (key : Key) (chain : List Key) → IsChain g s h key chain → Both key chain
        both key [] is = record {
          one = subst (Suffices h) is (first_suffices h first);
          two = subst (Suffices other) is (first_suffices other too);
          linked = is;
        }
        both key (caller ∷ chain) linked =
            let on = both caller chain linked.1 in
            let calls = subst (λ keys. Has keys key) (direct_same caller on.one on.two) linked.0 in
            record {
              one = calls_suffice h caller key on.one linked.0;
              two = calls_suffice other caller key on.two calls;
              linked = (calls, on.linked);
            }

        calls_same : (keys : List Key) → ((key : Key) → Has keys key → direct g s h key ≡ direct g s other key)
            → calls_by g s h keys ≡ calls_by g s other keys
        calls_same [] same = refl
        calls_same (key ∷ keys) same =
            let one = ap length (same key (inl refl)) in
            let more = calls_same keys (λ key has. same key (inr has)) in
            omega arith

        module _ (kept keys : List Key) (fresh : IsFresh g s h kept keys) where
          same : (key : Key) → Has keys key → direct g s h key ≡ direct g s other key
          same key has = let chain = fresh.only key has in let it = both key chain.0 chain.1 in direct_same key it.one it.two

          fresh_there : IsFresh g s other kept keys × (calls_by g s h keys ≡ calls_by g s other keys)
          fresh_there = (
            record {
              once = fresh.once;
              new = fresh.new;
              first = fresh.first;
              closed = λ key called has calls. fresh.closed key called has (subst (λ keys. Has keys called) (sym (same key has)) calls);
              only = λ key has. let chain = fresh.only key has in (chain.0, (both key chain.0 chain.1).linked, chain.2);
            },
            calls_same keys same,
          )

pub fresh_at_any_height : HeightsAgree → ParsesByOneCall → TurnsSuffice → FreshAtAnyHeight
fresh_at_any_height heights parses suffice g s height other kept keys first too fresh =
    fresh_there heights g s parses suffice height other first too kept keys fresh
