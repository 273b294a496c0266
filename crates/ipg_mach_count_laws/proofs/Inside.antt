-- The keys that have to run are on intervals of the input.
use Rattle.std.proofs.Common.{◌≡◌, ℕ, zero, suc, ◌+◌, ◌-◌, ◌≤◌, refl, sym, ap, ◌∙◌, subst, arith, List, [], ◌∷◌, Option, Some, None, length, drop, inl, inr}
use Rattle.std.proofs.lemmas.List.{length-take-le, length-drop}
use Rattle.std.proofs.lemmas.Option.{slice_get_within}
use Rattle.std.specs.List.{AllByRecursion}
use Rattle.ipg_core.specs.Good.{Good}
use Rattle.ipg_core.specs.Grammar.{Grammar, rule_at, holder_of}
use Rattle.ipg_core.specs.Grown.{IsInput, GrownUnder}
use Rattle.ipg_core.specs.Part.{part}
use Rattle.ipg_core.specs.Environment.{Values}
use Rattle.ipg_core.specs.Run.{Asked}
use Rattle.ipg_core.specs.Total.{Fits}
use Rattle.ipg_core.specs.Laws.{AskedFits, AsksWhatFits}
use Rattle.ipg_mach_moves.specs.Moves.{Key}
use Rattle.ipg_mach_count_laws.specs.Counts.{calls_of, key_of, key_or, keys_over, keys_in, direct, Has, first_key, IsChain}
use Rattle.ipg_mach_count_laws.specs.Laws.{FreshLieInside}
use Rattle.ipg_mach_count_laws.specs.Standing.{StandsAt}
use Rattle.ipg_mach_count_laws.proofs.Parts.{part_at, part_stands, part_stands_there, whole_part}
use Rattle.ipg_mach_count_laws.proofs.Grown.{has_either}

part_long : (s : List ℕ) (from to : ℕ) → from ≤ to → to ≤ length s → length (part s from to) ≡ to - from
part_long s from to valid inside =
    let rest = length-drop from s in
    length-take-le (to - from) (drop from s) (let e : to - from ≤ length (drop from s) = omega (arith, rest) in e)

module _ (asks : AsksWhatFits) (g : Grammar) (s : List ℕ) (good : Good g) where
  -- the key's rule may be asked on its interval of the input
  record Lies (key : Key) : Type 0 where
    fits : Fits g key.rule (part s key.from key.to) []
    ordered : key.from ≤ key.to
    inside : key.to ≤ length s

  -- so may those of the keys that a call makes
  abbrev ForCalled : ℕ → Type 0
  ForCalled h = (r from : ℕ) (bytes : List ℕ) (outer : Values) → StandsAt s from bytes → from + length bytes ≤ length s → Fits g r bytes outer
      → (key : Key) → Has (keys_in g h r from bytes outer) key → Lies key

  plain_by : (holder : Option (ℕ × ℕ)) (r : ℕ) (bytes : List ℕ) (outer : Values) → holder ≡ None → GrownUnder g holder r bytes outer → outer ≡ []
  plain_by None r bytes outer e grown = grown
  plain_by (Some holder) r bytes outer e grown = absurd (cc)

  module _ (h : ℕ) (inner : ForCalled h) (from : ℕ) (bytes : List ℕ) (stands : StandsAt s from bytes) (room : from + length bytes ≤ length s) where
    for_one : (ask : Asked) (holder : Option (ℕ × ℕ)) → holder_of (rule_at g ask.callee) ≡ holder → AskedFits g bytes ask → (key : Key)
        → Has (key_or holder (key_of from bytes ask) (keys_in g h ask.callee (from + ask.from) (part bytes ask.from ask.to) ask.outer)) key → Lies key
    for_one ask None global asked key (inl same) =
        let long = part_long bytes ask.from ask.to asked.valid asked.inside in
        let valid = asked.valid in
        let inside = asked.inside in
        let there = part_stands s from ask.from ask.to bytes stands in
        let plain = plain_by (holder_of (rule_at g ask.callee)) ask.callee (part bytes ask.from ask.to) ask.outer global asked.fits.grown in
        let at = key_of from bytes ask in
        subst Lies same (record {
          fits = subst (λ bs. Fits g at.rule bs []) (sym (part_at s _ _ there)) (subst (Fits g ask.callee (part bytes ask.from ask.to)) plain asked.fits);
          ordered = omega arith;
          inside = omega (arith, long, valid, inside, room);
        })
    for_one ask None global asked key (inr none) = absurd none
    for_one ask (Some holder) local asked key has =
        let long = part_long bytes ask.from ask.to asked.valid asked.inside in
        let valid = asked.valid in
        let inside = asked.inside in
        inner ask.callee (from + ask.from) (part bytes ask.from ask.to) ask.outer (part_stands s from ask.from ask.to bytes stands)
        (omega (arith, long, valid, inside, room)) asked.fits key has

    for_all : (asked : List Asked) → AllByRecursion (AskedFits g bytes) asked → (key : Key) → Has (keys_over (keys_in g h) g from bytes asked) key
        → Lies key
    for_all [] all key has = absurd has
    for_all (ask ∷ asked) all key has = elim (has_either _ _ key has) [
      | inl one ↦ for_one ask _ refl all.0 key one
      | inr more ↦ for_all asked all.1 key more
    ]

  for_called : (h : ℕ) → ForCalled h
  unfolding keys_in
  for_called zero r from bytes outer stands room fits key has = absurd has
  for_called (suc h) r from bytes outer stands room fits key has =
      for_all h (for_called h) from bytes stands room (calls_of g h r bytes outer) (asks g h r bytes outer good fits) key has

  called_lies : (h : ℕ) (caller key : Key) → Lies caller → Has (direct g s h caller) key → Lies key
  called_lies h caller key lies calls =
      let long = part_long s caller.from caller.to lies.ordered lies.inside in
      let ordered = lies.ordered in
      let inside = lies.inside in
      for_called h caller.rule caller.from (part s caller.from caller.to) [] (part_stands_there s caller.from caller.to)
      (omega (arith, long, ordered, inside)) lies.fits key calls

  module _ (input : IsInput s) where
    first_fits : Fits g 0 s []
    first_fits =
        let first = good.well_formed.first in
        let global : holder_of (rule_at g 0) ≡ None = ap holder_of first.1 ∙ first.2 in
        record {
          rule = slice_get_within g.rules 0 first.0 first.1;
          input = input;
          grown = subst (λ holder. GrownUnder g holder 0 s []) (sym global) refl;
        }

    first_lies : Lies (first_key s)
    first_lies = record { fits = subst (λ bytes. Fits g 0 bytes []) (sym (whole_part s)) first_fits; ordered = omega arith; inside = omega arith }

    chain_lies : (h : ℕ) (key : Key) (chain : List Key) → IsChain g s h key chain → Lies key
    chain_lies h key [] is = subst Lies is first_lies
    chain_lies h key (caller ∷ chain) is = called_lies h caller key (chain_lies h caller chain is.1) is.0

pub fresh_lie_inside : AsksWhatFits → FreshLieInside
fresh_lie_inside asks g s h kept keys good input fresh key has =
    let reached = fresh.only key has in
    let lies = chain_lies asks g s good input h key reached.0 reached.1 in (lies.ordered, lies.inside)
