-- What holds of each tree: its rule, what it touches where it touches nothing, and which attributes it has.
use Rattle.std.proofs.Common.{◌≡◌, ℕ, zero, suc, ◌+◌, ◌<◌, refl, sym, ap, ◌∙◌, subst, arith, List, [], ◌∷◌, ◌++◌, length, Option, Some, None, Ok}
use Rattle.std.proofs.Common.{Bool, true, false, true≢false, if◌then◌else◌, ℤ, ◌⊎◌, inl, inr, min, max}
use Rattle.std.specs.Prelude.{nat_eq, nat_lt, slice_get}
use Rattle.std.specs.List.{AllByRecursion}
use Rattle.std.proofs.lemmas.Bool.{ltb-true, lt-ltb}
use Rattle.std.proofs.lemmas.Bool.Decides.{nat_tests}
use Rattle.ipg_core.specs.declared.grammar.CoreTerm.{CoreTerm}
use Rattle.ipg_core.specs.declared.grammar.CoreTerm.TheVariants.{Slot, Set, Test, Repeat, Many, Pick}
use Rattle.ipg_core.specs.declared.grammar.CoreAlt.{CoreAlt}
use Rattle.ipg_core.specs.declared.grammar.CoreRule.{CoreRule}
use Rattle.ipg_core.specs.Grammar.{Grammar, rule_at}
use Rattle.ipg_core.specs.Tree.{Tree, Kids, no_kids, kid, kids_of, rule_of, attrs_of}
use Rattle.ipg_core.specs.Touch.{Ends, touches, untouched, tree_ends, together, kids_touch, kid_touches}
use Rattle.ipg_core.specs.Environment.{Values, value_at}
use Rattle.ipg_core.specs.Run.{NoTree}
use Rattle.ipg_core.specs.Meaning.{Call, Frame, State, terms_on, start, entry, attrs_set, kids_done, node_of, alt_on, alts_on, rule_run, rule_on, den}
use Rattle.ipg_core.specs.Good.{IsGoodShape, Good}
use Rattle.ipg_facts_laws.proofs.Runs.{finish_is, stop_is, went, either_is}

-- ---- what touches nothing

pub none_together : (a b none : Ends) (s t : Bool) → touches a ≡ s → touches b ≡ t → (touches b ≡ false → b ≡ none)
    → touches (together a b) ≡ false → together a b ≡ none
unfolding together
none_together a b none true true p q h k =
    let u = ltb-true _ _ p in let v = ltb-true _ _ q in
    let some : min a.start b.start < max a.end b.end = omega arith in
    let no : nat_lt (min a.start b.start) (max a.end b.end) ≡ false = rw (p, q) at k in
    absurd (true≢false (sym (lt-ltb _ _ some) ∙ no))
none_together a b none true false p q h k = let no : touches a ≡ false = rw (p, q) at k in absurd (true≢false (sym p ∙ no))
none_together a b none false t p q h k = let no : touches b ≡ false = rw p at k in rw p (h no)

none_kids : (ks : Kids) (none : Ends) → touches (kids_touch ks none) ≡ false → kids_touch ks none ≡ none
none_kids no_kids none h = refl
none_kids (kid k ks) none h = none_together (kid_touches k none) (kids_touch ks none) none _ _ refl refl (none_kids ks none) h

-- ---- which attributes a tree has

-- each attribute has a number below n
abbrev pub AreNamed : ℕ → Values → Type 0
AreNamed n attrs = (a : ℕ) (z : ℤ) → value_at attrs a ≡ Some z → a < n

abbrev IsNamed : ℕ → CoreTerm → Type 0
IsNamed n (Slot slot) = Unit {0}
IsNamed n (Set attr e) = attr < n
IsNamed n (Test e) = Unit {0}
IsNamed n (Repeat first last item from to) = Unit {0}
IsNamed n (Many item from to) = Unit {0}
IsNamed n (Pick cases other) = Unit {0}

named_by : (b a n : ℕ) (y z : ℤ) (rest : Values) (t : Bool) → nat_eq b a ≡ t → b < n → (value_at rest a ≡ Some z → a < n)
    → (if t then Some y else value_at rest a) ≡ Some z → a < n
named_by b a n y z rest true t lt h e = let same : b ≡ a = grind (arith, nat_tests) in omega arith
named_by b a n y z rest false t lt h e = h e

entry_named : (b : ℕ) (o : Option ℤ) (rest : Values) (n : ℕ) → b < n → AreNamed n rest → AreNamed n (entry b o ++ rest)
entry_named b None rest n lt h a z e = h a z e
entry_named b (Some y) rest n lt h a z e = named_by b a n y z rest _ refl lt (h a z) e

attrs_named : (n : ℕ) (terms : List CoreTerm) (own : Values) → AllByRecursion (IsNamed n) terms → AreNamed n (attrs_set terms own)
attrs_named n [] own h = λ a z e. absurd (cc)
attrs_named n (Slot slot ∷ terms) own h = attrs_named n terms own h.1
attrs_named n (Set attr x ∷ terms) own h = entry_named attr (value_at own attr) (attrs_set terms own) n h.0 (attrs_named n terms own h.1)
attrs_named n (Test x ∷ terms) own h = attrs_named n terms own h.1
attrs_named n (Repeat first last item from to ∷ terms) own h = attrs_named n terms own h.1
attrs_named n (Many item from to ∷ terms) own h = attrs_named n terms own h.1
attrs_named n (Pick cases other ∷ terms) own h = attrs_named n terms own h.1

-- ---- a tree is a node of an alternative

pub record IsNode (names r n : ℕ) (tree : Tree) : Type 0 where
  pub rule : rule_of tree ≡ r
  pub none : touches (tree_ends tree) ≡ false → ((tree_ends tree).start ≡ n) × ((tree_ends tree).end ≡ 0)
  pub named : AreNamed names (attrs_of tree)

node_is : (names : ℕ) (f : Frame) (terms : List CoreTerm) (state : State) → AllByRecursion (IsNamed names) terms
    → IsNode names f.rule (length f.bytes) (node_of f terms state)
unfolding node_of untouched
node_is names f terms state h = record {
  rule = refl;
  none = λ t. let e = none_kids (kids_of (kids_done state.done)) _ t in (ap (λ (x : Ends). x.start) e, ap (λ (x : Ends). x.end) e);
  named = attrs_named names terms state.own h;
}

alt_node : (names : ℕ) (call : Call) (f : Frame) (alt : CoreAlt) (tree : Tree) → AllByRecursion (IsNamed names) alt.terms
    → (alt_on call f alt).answer ≡ Ok tree → IsNode names f.rule (length f.bytes) tree
unfolding alt_on
alt_node names call f alt tree h e =
    let w = went (terms_on call f alt.terms alt.order (start (length alt.terms))) _ tree e in
    subst (IsNode names f.rule (length f.bytes)) (finish_is _ tree w.rest) (node_is names f alt.terms w.value h)

one_node : (names : ℕ) (call : Call) (f : Frame) (alt : CoreAlt) (tree : Tree) (rest : Type 0) → AllByRecursion (IsNamed names) alt.terms
    → (rest → IsNode names f.rule (length f.bytes) tree) → ((alt_on call f alt).answer ≡ Ok tree) ⊎ rest → IsNode names f.rule (length f.bytes) tree
one_node names call f alt tree rest h k (inl e) = alt_node names call f alt tree h e
one_node names call f alt tree rest h k (inr e) = k e

alts_node : (names : ℕ) (call : Call) (f : Frame) (alts : List CoreAlt) (tree : Tree) → AllByRecursion (λ alt. AllByRecursion (IsNamed names) alt.terms) alts
    → (alts_on call f alts).answer ≡ Ok tree → IsNode names f.rule (length f.bytes) tree
unfolding alts_on
alts_node names call f [] tree h e = stop_is NoTree tree e
alts_node names call f (alt ∷ alts) tree h e =
    one_node names call f alt tree _ h.0 (alts_node names call (record f { alt = f.alt + 1 }) alts tree h.1)
    (either_is (alt_on call f alt) (alts_on call (record f { alt = f.alt + 1 }) alts) tree e)

-- ---- of a good grammar

pub all_by_place : {X : Type 0} (P : X → Type 0) (xs : List X) → ((k : ℕ) (x : X) → slice_get xs k ≡ Some x → P x) → AllByRecursion P xs
all_by_place P [] h = tt
all_by_place P (x ∷ xs) h = (h zero x refl, all_by_place P xs (λ k y e. h (suc k) y e))

term_named : (g : Grammar) (term : CoreTerm) → IsGoodShape g term → IsNamed (length g.names) term
term_named g (Slot slot) h = tt
term_named g (Set attr e) h = h
term_named g (Test e) h = tt
term_named g (Repeat first last item from to) h = tt
term_named g (Many item from to) h = tt
term_named g (Pick cases other) h = tt

rule_node : (g : Grammar) → Good g → (call : Call) (f : Frame) (rule : Option CoreRule) (tree : Tree) → f.grammar ≡ g → rule_at g f.rule ≡ rule
    → (rule_run call f rule).answer ≡ Ok tree → IsNode (length g.names) f.rule (length f.bytes) tree
rule_node g good call f None tree same e h = stop_is NoTree tree h
rule_node g good call f (Some rule) tree same e h =
    alts_node (length g.names) call f rule.alts tree
    (all_by_place _ rule.alts (λ k alt q. all_by_place _ alt.terms (λ u term p.
    term_named g term ((good.well_formed.alts (f.rule, k) rule alt (record { is_rule = e; is_alt = q })).terms u term p).shape))) h

pub den_node : (g : Grammar) → Good g → (h r : ℕ) (s : List ℕ) (outer : Values) (tree : Tree) → den g h r s outer ≡ Ok tree
    → IsNode (length g.names) r (length s) tree
unfolding den rule_on
den_node g good zero r s outer tree e = absurd (cc)
den_node g good (suc h) r s outer tree e =
    rule_node g good (den g h) (record { grammar = g; rule = r; alt = 0; bytes = s; outer = outer }) (rule_at g r) tree refl refl e
