-- Intervals written out: where a term begins nests as deep as there are terms before it, and what ends there one deeper.
use Rattle.std.proofs.Common.{ℕ, ◌+◌, ◌≤◌, List, [], ◌∷◌, map, length, pos, arith}
use Rattle.std.specs.List.{AllByRecursion}
use Rattle.ipg_num.specs.declared.op.Op2.TheVariants.{Add}
use Rattle.ipg_core.specs.Touch.{width}
use Rattle.ipg_core.specs.declared.grammar.Primitive.{Primitive}
use Rattle.ipg_core.specs.declared.grammar.Primitive.TheVariants.{U8, U16LE, U16BE, U32LE, U32BE, U64LE, U64BE, Bytes}
use Rattle.ipg_core.specs.declared.grammar.Sym.{Sym}
use Rattle.ipg_core.specs.declared.grammar.Sym.TheVariants.{Text, Prim, Rule}
use Rattle.ipg_core.specs.declared.grammar.CoreField.TheVariants.{End}
use Rattle.ipg_core.specs.declared.grammar.CoreExpr.{CoreExpr}
use Rattle.ipg_core.specs.declared.grammar.CoreExpr.TheOpen.{CoreExpr-F}
use Rattle.ipg_core.specs.declared.grammar.CoreExpr.TheVariants as expr
use Rattle.ipg_core.specs.declared.grammar.CoreTerm.{CoreTerm}
use Rattle.ipg_core.specs.declared.grammar.CoreTerm.TheVariants as core
use Rattle.ipg_names.specs.declared.named.NamedPlace.{NamedPlace}
use Rattle.ipg_names.specs.declared.named.NamedPlace.TheVariants.{Open, Length, Ends}
use Rattle.ipg_names.specs.declared.named.NamedSlot.{NamedSlot}
use Rattle.ipg_names.specs.declared.named.NamedTerm.{NamedTerm}
use Rattle.ipg_names.specs.declared.named.NamedTerm.TheVariants as named
use Rattle.ipg_complete.specs.Completion.{behind, so_many, number_end, open_end, from_of, to_of, slot_of, case_of, term_of, terms_from}
use Rattle.ipg_store_body.specs.Fits.{NestsWithin}
use Rattle.ipg_store_depth_laws.specs.Shallow.{EachInSlot, EachInCase, EachInTerm}
use Rattle.ipg_store_depth_laws.proofs.Nesting.{deeper, above}
use Rattle.ipg_store_depth_laws.proofs.Names.{Short, PlaceNests, SlotNests, CaseNests, TermNests}

abbrev pub Whole : CoreExpr → Type 0
Whole = NestsWithin 257

-- what a term may begin with
abbrev pub Left : CoreExpr → Type 0
Left = NestsWithin 256

short : (e : CoreExpr) → Short e → Whole e
short e h = let le : 64 ≤ 257 = omega arith in deeper 64 257 e le h

begins : (e : CoreExpr) → Left e → Whole e
begins e h = let le : 256 ≤ 257 = omega arith in deeper 256 257 e le h

-- a number or an expression as written, from there on
number : (left : CoreExpr) (n : ℕ) → Left left → Whole (so_many left n)
number left n h =
    above 256 257 (CoreExpr-F.Two Add left (expr.Num (pos n))) (expr.rolls-Two Add left (expr.Num (pos n))) (omega arith) (
      h,
      above 0 256 (CoreExpr-F.Num (pos n)) (expr.rolls-Num (pos n)) (omega arith) tt,
    )

written : (left e : CoreExpr) → Left left → Short e → Whole (expr.Two Add left e)
written left e h k =
    let le : 64 ≤ 256 = omega arith in
    above 256 257 (CoreExpr-F.Two Add left e) (expr.rolls-Two Add left e) (omega arith) (h, deeper 64 256 e le k)

eoi : Whole expr.Eoi
eoi = above 0 257 CoreExpr-F.Eoi expr.rolls-Eoi (omega arith) tt

module _ (left : CoreExpr) (h : Left left) where
  numbers : (prim : Primitive) → Whole (number_end left prim)
  numbers Bytes = eoi
  numbers U8 = number left (width U8) h
  numbers U16LE = number left (width U16LE) h
  numbers U16BE = number left (width U16BE) h
  numbers U32LE = number left (width U32LE) h
  numbers U32BE = number left (width U32BE) h
  numbers U64LE = number left (width U64LE) h
  numbers U64BE = number left (width U64BE) h

  ends : (s : Sym) → Whole (open_end left s)
  ends (Text bytes) = number left (length bytes) h
  ends (Prim prim) = numbers prim
  ends (Rule r) = eoi

  froms : (p : NamedPlace) → PlaceNests p → Whole (from_of left p)
  froms Open k = begins left h
  froms (Length e) k = begins left h
  froms (Ends l r) k = short l k.0

  tos : (end : CoreExpr) (p : NamedPlace) → Whole end → PlaceNests p → Whole (to_of left end p)
  tos end Open w k = w
  tos end (Length e) w k = written left e h k
  tos end (Ends l r) w k = short r k.1

  slots : (s : NamedSlot) → SlotNests s → EachInSlot Whole (slot_of left s)
  slots s k = (froms s.place k, tos (open_end left s.sym) s.place (ends s.sym) k)

  cases : (cs : List (CoreExpr × NamedSlot)) → AllByRecursion CaseNests cs → AllByRecursion (EachInCase Whole) (map (case_of left) cs)
  cases [] k = tt
  cases (c ∷ cs) k = ((short c.0 k.0.0, slots c.1 k.0.1), cases cs k.1)

  term : (t : NamedTerm) → TermNests t → EachInTerm Whole (term_of left t)
  term (named.Slot s) k = slots s k
  term (named.Set attr value) k = short value k
  term (named.Test cond) k = short cond k
  term (named.Repeat first last item from to) k = (short first k.0, (short last k.1.0, (short from k.1.1.0, short to k.1.1.1)))
  term (named.Many item place) k = (froms place k, tos expr.Eoi place eoi k)
  term (named.Pick cs other) k = (cases cs k.0, slots other k.1)

-- behind a term it may nest one deeper
next : (u n : ℕ) (left : CoreExpr) (t : CoreTerm) → NestsWithin (n + 1) left → NestsWithin (n + 1 + 1) (behind u left t)
next u n left (core.Slot s) h = above 0 (n + 1 + 1) (CoreExpr-F.Seen u s.sym End) (expr.rolls-Seen u s.sym End) (omega arith) tt
next u n left (core.Set attr value) h = deeper (n + 1) (n + 1 + 1) left (omega arith) h
next u n left (core.Test cond) h = deeper (n + 1) (n + 1 + 1) left (omega arith) h
next u n left (core.Repeat first last item from to) h = above (n + 1) (n + 1 + 1) (CoreExpr-F.After u left) (expr.rolls-After u left) (omega arith) h
next u n left (core.Many item from to) h = above (n + 1) (n + 1 + 1) (CoreExpr-F.After u left) (expr.rolls-After u left) (omega arith) h
next u n left (core.Pick cs other) h = above 0 (n + 1 + 1) (CoreExpr-F.Seen u (Text []) End) (expr.rolls-Seen u (Text []) End) (omega arith) tt

pub terms : (u : ℕ) (left : CoreExpr) (ts : List NamedTerm) → NestsWithin (u + 1) left → u + length ts ≤ 256 → AllByRecursion TermNests ts
    → AllByRecursion (EachInTerm Whole) (terms_from u left ts)
terms u left [] h few k = tt
terms u left (t ∷ ts) h few k =
    let le : u + 1 ≤ 256 = omega arith in
    let rest : u + 1 + length ts ≤ 256 = omega arith in (
      term left (deeper (u + 1) 256 left le h) t k.0,
      terms (u + 1) (behind u left (term_of left t)) ts (next u u left (term_of left t) h) rest k.1,
    )
