-- What a completed term names: what the term names as written, and what its `left` names.
use Rattle.std.proofs.Common.{◌≡◌, ℕ, refl, sym, ap, subst, ◌∙◌, List, [], ◌∷◌, ◌++◌, map, ℤ, pos}
use Rattle.std.specs.Prelude.{flat_map, length}
use Rattle.std.specs.List.{AllByRecursion}
use Rattle.ipg_num.specs.declared.op.Op2.{Op2}
use Rattle.ipg_num.specs.declared.op.Op2.TheVariants.{Add}
use Rattle.ipg_core.specs.declared.grammar.Primitive.{Primitive}
use Rattle.ipg_core.specs.declared.grammar.Primitive.TheVariants.{U8, U16LE, U16BE, U32LE, U32BE, U64LE, U64BE, Bytes}
use Rattle.ipg_core.specs.declared.grammar.Sym.{Sym}
use Rattle.ipg_core.specs.declared.grammar.Sym.TheVariants.{Text, Prim, Rule}
use Rattle.ipg_core.specs.declared.grammar.CoreField.TheVariants.{End}
use Rattle.ipg_core.specs.declared.grammar.CoreExpr.{CoreExpr}
use Rattle.ipg_core.specs.declared.grammar.CoreExpr.TheVariants.{Num, Eoi, Seen, After, Two, rolls-Num, rolls-Eoi, rolls-Seen, rolls-After, rolls-Two}
use Rattle.ipg_core.specs.declared.grammar.CoreExpr.TheOpen.{CoreExpr-F}
use Rattle.ipg_core.specs.declared.grammar.CoreExpr.TheFolds.{fold-roll-CoreExpr}
use Rattle.ipg_core.specs.Mention.{Mention, SeenOf, AfterOf, mentions, mentions_step, slot_mentions, case_mentions, term_mentions}
use Rattle.ipg_names.specs.declared.named.NamedPlace.{NamedPlace}
use Rattle.ipg_names.specs.declared.named.NamedPlace.TheVariants.{Open, Length, Ends}
use Rattle.ipg_names.specs.declared.named.NamedSlot.{NamedSlot}
use Rattle.ipg_names.specs.declared.named.NamedTerm.{NamedTerm}
use Rattle.ipg_names.specs.declared.named.NamedTerm.TheVariants as named
use Rattle.ipg_names.specs.Bare.{bare_from, bare_to, bare_slot, bare_case, bare_term}
use Rattle.ipg_complete.specs.Completion.{so_many, number_end, open_end, from_of, to_of, slot_of, case_of, term_of}
use Rattle.ipg_complete.proofs.Lists.{all_append, all_left, all_right}

-- ---- what an expression names, by its form

pub mentions_num : (z : ℤ) → mentions (Num z) ≡ []
mentions_num z = ap mentions (sym (rolls-Num z)) ∙ fold-roll-CoreExpr (List Mention) mentions_step (CoreExpr-F.Num z)

pub mentions_eoi : mentions Eoi ≡ []
mentions_eoi = ap mentions (sym rolls-Eoi) ∙ fold-roll-CoreExpr (List Mention) mentions_step CoreExpr-F.Eoi

pub mentions_end : (u : ℕ) (sym_of : Sym) → mentions (Seen u sym_of End) ≡ SeenOf u sym_of ∷ []
mentions_end u s = ap mentions (sym (rolls-Seen u s End)) ∙ fold-roll-CoreExpr (List Mention) mentions_step (CoreExpr-F.Seen u s End)

pub mentions_after : (u : ℕ) (left : CoreExpr) → mentions (After u left) ≡ AfterOf u ∷ mentions left
mentions_after u left = ap mentions (sym (rolls-After u left)) ∙ fold-roll-CoreExpr (List Mention) mentions_step (CoreExpr-F.After u left)

mentions_two : (op : Op2) (a b : CoreExpr) → mentions (Two op a b) ≡ mentions a ++ mentions b
mentions_two op a b = ap mentions (sym (rolls-Two op a b)) ∙ fold-roll-CoreExpr (List Mention) mentions_step (CoreExpr-F.Two op a b)

-- ---- what holds of all that the term and its `left` name holds of all that the completed term names

module _ (P : Mention → Type 0) (left : CoreExpr) (known : AllByRecursion P (mentions left)) where
  abbrev All : CoreExpr → Type 0
  All e = AllByRecursion P (mentions e)

  none : (e : CoreExpr) → mentions e ≡ [] → All e
  none e is = subst (AllByRecursion P) (sym is) tt

  sum : (e : CoreExpr) → All e → All (Two Add left e)
  sum e h = subst (AllByRecursion P) (sym (mentions_two Add left e)) (all_append P (mentions left) (mentions e) known h)

  so_many_so : (n : ℕ) → All (so_many left n)
  so_many_so n = sum (Num (pos n)) (none (Num (pos n)) (mentions_num (pos n)))

  number_so : (prim : Primitive) → All (number_end left prim)
  number_so Bytes = none Eoi mentions_eoi
  number_so U8 = so_many_so 1
  number_so U16LE = so_many_so 2
  number_so U16BE = so_many_so 2
  number_so U32LE = so_many_so 4
  number_so U32BE = so_many_so 4
  number_so U64LE = so_many_so 8
  number_so U64BE = so_many_so 8

  open_so : (s : Sym) → All (open_end left s)
  open_so (Text bytes) = so_many_so (length bytes)
  open_so (Prim prim) = number_so prim
  open_so (Rule r) = none Eoi mentions_eoi

  from_so : (place : NamedPlace) → All (bare_from place) → All (from_of left place)
  from_so Open h = known
  from_so (Length e) h = known
  from_so (Ends l r) h = h

  to_so : (end : CoreExpr) (place : NamedPlace) → All end → All (bare_to place) → All (to_of left end place)
  to_so end Open known_end h = known_end
  to_so end (Length e) known_end h = sum e h
  to_so end (Ends l r) known_end h = h

  place_so : (end : CoreExpr) (place : NamedPlace) → All end → AllByRecursion P (mentions (bare_from place) ++ mentions (bare_to place))
      → AllByRecursion P (mentions (from_of left place) ++ mentions (to_of left end place))
  place_so end place known_end h =
      let from = mentions (bare_from place) in
      let to = mentions (bare_to place) in
      all_append P (mentions (from_of left place)) (mentions (to_of left end place)) (from_so place (all_left P from to h))
      (to_so end place known_end (all_right P from to h))

  slot_so : (slot : NamedSlot) → AllByRecursion P (slot_mentions (bare_slot slot)) → AllByRecursion P (slot_mentions (slot_of left slot))
  slot_so slot = place_so (open_end left slot.sym) slot.place (open_so slot.sym)

  case_so : (c : CoreExpr × NamedSlot) → AllByRecursion P (case_mentions (bare_case c)) → AllByRecursion P (case_mentions (case_of left c))
  case_so c h =
      let slot = slot_mentions (bare_slot c.1) in
      all_append P (mentions c.0) (slot_mentions (slot_of left c.1)) (all_left P (mentions c.0) slot h) (slot_so c.1 (all_right P (mentions c.0) slot h))

  cases_so : (cases : List (CoreExpr × NamedSlot)) → AllByRecursion P (flat_map case_mentions (map bare_case cases))
      → AllByRecursion P (flat_map case_mentions (map (case_of left) cases))
  cases_so [] h = tt
  cases_so (c ∷ cases) h =
      let one = case_mentions (bare_case c) in
      let rest = flat_map case_mentions (map bare_case cases) in
      all_append P (case_mentions (case_of left c)) (flat_map case_mentions (map (case_of left) cases)) (case_so c (all_left P one rest h))
      (cases_so cases (all_right P one rest h))

  pub term_so : (term : NamedTerm) → AllByRecursion P (term_mentions (bare_term term)) → AllByRecursion P (term_mentions (term_of left term))
  term_so (named.Slot slot) h = slot_so slot h
  term_so (named.Set attr value) h = h
  term_so (named.Test cond) h = h
  term_so (named.Repeat first last item from to) h = h
  term_so (named.Many item place) h = place_so Eoi place (none Eoi mentions_eoi) h
  term_so (named.Pick cases other) h =
      let some = flat_map case_mentions (map bare_case cases) in
      let last = slot_mentions (bare_slot other) in
      all_append P (flat_map case_mentions (map (case_of left) cases)) (slot_mentions (slot_of left other)) (cases_so cases (all_left P some last h))
      (slot_so other (all_right P some last h))
