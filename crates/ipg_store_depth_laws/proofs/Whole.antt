-- The core grammar of a text.
use Rattle.std.proofs.Common.{◌≤◌, List, [], ◌∷◌, map, pos, sym, subst, arith}
use Rattle.std.specs.List.{AllByRecursion}
use Rattle.ipg_core.specs.declared.grammar.CoreExpr.{CoreExpr}
use Rattle.ipg_core.specs.declared.grammar.CoreExpr.TheOpen.{CoreExpr-F}
use Rattle.ipg_core.specs.declared.grammar.CoreExpr.TheVariants as exprs
use Rattle.ipg_core.specs.declared.grammar.CoreSlot.{CoreSlot}
use Rattle.ipg_core.specs.declared.grammar.CoreTerm.{CoreTerm}
use Rattle.ipg_core.specs.declared.grammar.CoreTerm.TheVariants.{Slot, Set, Test, Repeat, Many, Pick}
use Rattle.ipg_core.specs.declared.grammar.CoreAlt.{CoreAlt}
use Rattle.ipg_core.specs.declared.grammar.CoreRule.{CoreRule}
use Rattle.ipg_core.specs.Grammar.{Grammar}
use Rattle.ipg_read_syntax.specs.Laws.{ReadsExactly}
use Rattle.ipg_read_canonical_laws.specs.Laws.{ReadsFormed}
use Rattle.ipg_names.specs.declared.named.NamedAlt.{NamedAlt}
use Rattle.ipg_names.specs.declared.named.NamedRule.{NamedRule}
use Rattle.ipg_names.specs.Resolved.{names_of}
use Rattle.ipg_complete.specs.Unordered as unordered
use Rattle.ipg_complete.specs.Completion.{left_at_first, alt_of, rule_of}
use Rattle.ipg_order.specs.Answer.{alt_alone, rule_alone}
use Rattle.ipg_store_body.specs.Fits.{NestsExpr, NestsSlot, NestsCase, NestsTerm, NestsAlt, NestsRule}
use Rattle.ipg_store_depth_laws.specs.Shallow.{EachInSlot, EachInCase, EachInTerm, EachInAlt, EachInRule, TextIsShallow, TextNests}
use Rattle.ipg_store_depth_laws.proofs.Nesting.{deeper, above, all_more}
use Rattle.ipg_store_depth_laws.proofs.Names.{AltNests, RuleNests, named_nest}
use Rattle.ipg_store_depth_laws.proofs.Lefts.{Whole, terms}

-- ---- completed rules

alts : (xs : List NamedAlt) → AllByRecursion AltNests xs → AllByRecursion (EachInAlt Whole) (map unordered.alt_of (map alt_of xs))
alts [] h = tt
alts (alt ∷ xs) h =
    let few = h.0.few in
    (terms 0 left_at_first alt.terms (above 0 1 (CoreExpr-F.Num (pos 0)) (exprs.rolls-Num (pos 0)) (omega arith) tt) (omega arith) h.0.each, alts xs h.1)

rules : (rs : List NamedRule) → AllByRecursion RuleNests rs → AllByRecursion (EachInRule Whole) (map unordered.rule_of (map rule_of rs))
rules [] h = tt
rules (rule ∷ rs) h = (alts rule.alts h.0, rules rs h.1)

-- ---- with orders

alts_alone : (xs : List CoreAlt) → AllByRecursion (EachInAlt Whole) (map alt_alone xs) → AllByRecursion (EachInAlt Whole) xs
alts_alone [] h = tt
alts_alone (alt ∷ xs) h = (h.0, alts_alone xs h.1)

rules_alone : (rs : List CoreRule) → AllByRecursion (EachInRule Whole) (map rule_alone rs) → AllByRecursion (EachInRule Whole) rs
rules_alone [] h = tt
rules_alone (rule ∷ rs) h = (alts_alone rule.alts h.0, rules_alone rs h.1)

module _ (exactly : ReadsExactly) (formed : ReadsFormed) where
  pub shallow : TextIsShallow
  shallow text g is =
      let reads = (exactly text is.written_as).0 is.reads in
      let named = named_nest is.written_as (formed text is.written_as reads) in
      rules_alone g.rules (subst (λ (x : Grammar). AllByRecursion (EachInRule Whole) x.rules) (sym is.is) (rules (names_of is.written_as).rules named))

-- ---- at most 400 deep

expr : (e : CoreExpr) → Whole e → NestsExpr e
expr e h = let le : 257 ≤ 400 = omega arith in deeper 257 400 e le h

slot : (s : CoreSlot) → EachInSlot Whole s → NestsSlot s
slot s h = (expr s.from h.0, expr s.to h.1)

case : (c : CoreExpr × CoreSlot) → EachInCase Whole c → NestsCase c
case c h = (expr c.0 h.0, slot c.1 h.1)

term : (t : CoreTerm) → EachInTerm Whole t → NestsTerm t
term (Slot s) h = slot s h
term (Set attr value) h = expr value h
term (Test cond) h = expr cond h
term (Repeat first last item from to) h = (expr first h.0, (expr last h.1.0, (expr from h.1.1.0, expr to h.1.1.1)))
term (Pick cases other) h = (all_more (EachInCase Whole) NestsCase cases case h.0, slot other h.1)
term (Many item from to) h = (expr from h.0, expr to h.1)

pub nests : TextIsShallow → TextNests
nests is text g of =
    all_more (EachInRule Whole) NestsRule g.rules
    (λ rule h. all_more (EachInAlt Whole) NestsAlt rule.alts (λ alt k. all_more (EachInTerm Whole) NestsTerm alt.terms term k) h) (is text g of)
