-- A grammar and the same without orders are well-formed together, and have the same providers.
use Rattle.std.proofs.Common.{◌≡◌, ℕ, ◌^◌, ◌<◌, ◌≤◌, refl, sym, ap, ◌∙◌, subst, arith, List, [], ◌∷◌, Option, Some, None, length, inl, inr, ◌⊎◌}
use Rattle.std.specs.Prelude.{slice_get, map, option_map, sum_by, Contains}
use Rattle.std.proofs.lemmas.List.{length-map}
use Rattle.std.proofs.lemmas.List.Sums.{sum_by-cons}
use Rattle.std.proofs.lemmas.Option.{slice_get-map}
use Rattle.ipg_core.specs.declared.grammar.Sym.TheVariants.{Prim}
use Rattle.ipg_core.specs.declared.grammar.CoreTerm.{CoreTerm}
use Rattle.ipg_core.specs.declared.grammar.CoreAlt.{CoreAlt}
use Rattle.ipg_core.specs.declared.grammar.CoreRule.{CoreRule}
use Rattle.ipg_core.specs.Grammar.{Grammar, rule_at, holder_of}
use Rattle.ipg_core.specs.Order.{TermOf, Reads, itself, through, Passes, Names, Provides}
use Rattle.ipg_core.specs.Good.{AltAt, SetsSome, HolderSets, GoodAlt, IsGlobalAlt, WellFormed}
use Rattle.ipg_core.specs.Good.{slots_of, slots_in}
use Rattle.ipg_order.specs.Answer.{alt_alone, rule_alone, without_orders}
use Rattle.ipg_order.proofs.Members.{in_map, to_map}
use Rattle.ipg_order.proofs.Telling.{written}
use Rattle.ipg_order.proofs.Lifted.{good_term}

sum_of_map : {X Y : Type 0} (f : Y → ℕ) (h : X → Y) (k : X → ℕ) → ((x : X) → f (h x) ≡ k x) → (xs : List X) → sum_by f (map h xs) ≡ sum_by k xs
sum_of_map f h k same [] = refl
sum_of_map f h k same (x ∷ xs) =
    let a = sum_by-cons f (h x) (map h xs) in
    let b = sum_by-cons k x xs in
    let c = sum_of_map f h k same xs in
    let d = same x in
    a ∙ omega (arith, c, d) ∙ sym b

held : (o : Option CoreRule) → holder_of (option_map rule_alone o) ≡ holder_of o
held None = refl
held (Some rule) = refl

-- ---- the parts of one as those of the other

module _ (g : Grammar) where
  abbrev alone : Grammar
  alone = without_orders g

  pub rule_is : (r : ℕ) → rule_at alone r ≡ option_map rule_alone (rule_at g r)
  rule_is r = slice_get-map rule_alone g.rules r

  pub holder_is : (r : ℕ) → holder_of (rule_at alone r) ≡ holder_of (rule_at g r)
  holder_is r = ap holder_of (rule_is r) ∙ held (rule_at g r)

  pub to_alone : (rule : CoreRule) (alt : CoreAlt) (at : ℕ × ℕ) → AltAt g rule alt at → AltAt alone (rule_alone rule) (alt_alone alt) at
  to_alone rule alt at h = record {
    is_rule = rule_is at.0 ∙ ap (option_map rule_alone) h.is_rule;
    is_alt = slice_get-map alt_alone rule.alts at.1 ∙ ap (option_map alt_alone) h.is_alt;
  }

  pub record Whole (rule : CoreRule) (alt : CoreAlt) (at : ℕ × ℕ) : Type 0 where
    pub rule_there : CoreRule
    pub alt_there : CoreAlt
    pub there : AltAt g rule_there alt_there at
    pub same_rule : rule ≡ rule_alone rule_there
    pub same_alt : alt ≡ alt_alone alt_there

  pub of_alone : (rule : CoreRule) (alt : CoreAlt) (at : ℕ × ℕ) → AltAt alone rule alt at → Whole rule alt at
  of_alone rule alt at h =
      let w = written rule_alone g.rules at.0 rule h.is_rule in
      let v = written alt_alone w.item.alts at.1 alt (subst (λ (r : CoreRule). slice_get r.alts at.1 ≡ Some alt) w.is h.is_alt) in
      record { rule_there = w.item; alt_there = v.item; there = record { is_rule = w.is_item; is_alt = v.is_item }; same_rule = w.is; same_alt = v.is }

  -- ---- well-formed without orders, well-formed

  fewer : (r : ℕ) → r < length alone.rules → r < length g.rules
  fewer r lt = subst (λ n. r < n) (length-map g.rules rule_alone) lt

  holder_sets : (holder : Option (ℕ × ℕ)) (attr : ℕ) → HolderSets alone holder attr → HolderSets g holder attr
  holder_sets None attr h = h
  holder_sets (Some holder) attr h =
      let w = of_alone h.0 h.1 holder h.2 in
      (w.rule_there, w.alt_there, w.there, subst (λ (a : CoreAlt). SetsSome a.terms attr) w.same_alt h.3)

  good_alt : (at : ℕ × ℕ) (holder : Option (ℕ × ℕ)) (alt : CoreAlt) → GoodAlt alone at holder (alt_alone alt) → GoodAlt g at holder alt
  good_alt at holder alt h = record {
    some = h.some;
    limit = h.limit;
    sets_once = h.sets_once;
    terms = λ u term e. good_term alone g fewer holder_is refl holder_sets at holder alt.terms u term (h.terms u term e);
  }

  global : (at : ℕ × ℕ) → IsGlobalAlt alone at → IsGlobalAlt g at
  global at h =
      let w = of_alone h.0 h.1 at h.2 in
      (w.rule_there, w.alt_there, w.there, sym (ap (λ (r : CoreRule). r.holder) w.same_rule) ∙ h.3)

  pub slots : slots_of alone ≡ slots_of g
  slots = sum_of_map (λ rule. sum_by (λ alt. sum_by slots_in alt.terms) rule.alts) rule_alone (λ rule. sum_by (λ alt. sum_by slots_in alt.terms) rule.alts)
      (λ rule. sum_of_map (λ alt. sum_by slots_in alt.terms) alt_alone (λ alt. sum_by slots_in alt.terms) (λ alt. refl) rule.alts) g.rules

  pub whole : WellFormed alone → WellFormed g
  whole h = record {
    first = let w = written rule_alone g.rules 0 h.first.0 h.first.1 in (w.item, w.is_item, sym (ap (λ (r : CoreRule). r.holder) w.is) ∙ h.first.2);
    limit = subst (λ n. n ≤ 1024) (length-map g.rules rule_alone) h.limit;
    rules = λ r rule e. let k = h.rules r (rule_alone rule) (rule_is r ∙ ap (option_map rule_alone) e) in record {
      some = subst (λ n. 0 < n) (length-map rule.alts alt_alone) k.some;
      limit = subst (λ n. n ≤ 64) (length-map rule.alts alt_alone) k.limit;
    };
    alts = λ at rule alt e. good_alt at rule.holder alt (h.alts at (rule_alone rule) (alt_alone alt) (to_alone rule alt at e));
    holders = λ r holder e. global holder (h.holders r holder (holder_is r ∙ e));
    few_names = h.few_names;
    names_differ = h.names_differ;
    few_slots = subst (λ n. n < 2 ^ 32) slots h.few_slots;
  }

  -- ---- providers

  term_to : (r : ℕ) (term : CoreTerm) → TermOf g r term → TermOf alone r term
  term_to r term h = record {
    rule = rule_alone h.rule;
    alt = alt_alone h.alt;
    is_rule = rule_is r ∙ ap (option_map rule_alone) h.is_rule;
    is_alt = to_map alt_alone h.rule.alts h.alt h.is_alt;
    is_term = h.is_term;
  }

  term_from : (r : ℕ) (term : CoreTerm) → TermOf alone r term → TermOf g r term
  term_from r term h =
      let w = written rule_alone g.rules r h.rule h.is_rule in
      let i = in_map alt_alone w.item.alts h.alt (subst (λ (x : CoreRule). Contains x.alts h.alt) w.is h.is_alt) in
      record { rule = w.item; alt = i.item; is_rule = w.is_item; is_alt = i.member; is_term = subst (λ (a : CoreAlt). Contains a.terms term) i.is h.is_term }

  reads_to : (attr r : ℕ) → Reads g attr r → Reads alone attr r
  reads_to attr _ (itself r term of m) = itself r term (term_to r term of) m
  reads_to attr _ (through r callee holder term of calls is reads) = through r callee holder term (term_to r term of) calls (holder_is callee ∙ is)
      (reads_to attr callee reads)

  reads_from : (attr r : ℕ) → Reads alone attr r → Reads g attr r
  reads_from attr _ (itself r term of m) = itself r term (term_from r term of) m
  reads_from attr _ (through r callee holder term of calls is reads) = through r callee holder term (term_from r term of) calls
      (sym (holder_is callee) ∙ is) (reads_from attr callee reads)

  passes_to : (at : ℕ × ℕ) (terms : List CoreTerm) (term : CoreTerm) (v : ℕ) → Passes g at terms term v → Passes alone at terms term v
  passes_to at terms term v h = record {
    callee = h.callee;
    attr = h.attr;
    calls = h.calls;
    is_local = holder_is h.callee ∙ h.is_local;
    reads = reads_to h.attr h.callee h.reads;
    sets = h.sets;
  }

  passes_from : (at : ℕ × ℕ) (terms : List CoreTerm) (term : CoreTerm) (v : ℕ) → Passes alone at terms term v → Passes g at terms term v
  passes_from at terms term v h = record {
    callee = h.callee;
    attr = h.attr;
    calls = h.calls;
    is_local = sym (holder_is h.callee) ∙ h.is_local;
    reads = reads_from h.attr h.callee h.reads;
    sets = h.sets;
  }

  how_to : (at : ℕ × ℕ) (terms : List CoreTerm) (term : CoreTerm) (v : ℕ) → Names terms term v ⊎ Passes g at terms term v
      → Names terms term v ⊎ Passes alone at terms term v
  how_to at terms term v (inl h) = inl h
  how_to at terms term v (inr h) = inr (passes_to at terms term v h)

  how_from : (at : ℕ × ℕ) (terms : List CoreTerm) (term : CoreTerm) (v : ℕ) → Names terms term v ⊎ Passes alone at terms term v
      → Names terms term v ⊎ Passes g at terms term v
  how_from at terms term v (inl h) = inl h
  how_from at terms term v (inr h) = inr (passes_from at terms term v h)

  pub provides_to : (at : ℕ × ℕ) (terms : List CoreTerm) (u v : ℕ) → Provides g at terms u v → Provides alone at terms u v
  provides_to at terms u v h = record { other = h.other; term = h.term; is_term = h.is_term; how = how_to at terms h.term v h.how }

  pub provides_from : (at : ℕ × ℕ) (terms : List CoreTerm) (u v : ℕ) → Provides alone at terms u v → Provides g at terms u v
  provides_from at terms u v h = record { other = h.other; term = h.term; is_term = h.is_term; how = how_from at terms h.term v h.how }
