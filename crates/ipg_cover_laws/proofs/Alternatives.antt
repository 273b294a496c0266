-- The tree of a rule is one of its alternatives', whose terms have all run.
use Rattle.std.proofs.Common.{◌≡◌, ℕ, zero, suc, ◌+◌, refl, subst, arith, List, [], ◌∷◌, length, Option, Some, None, Ok, inl, inr}
use Rattle.std.specs.Prelude.{slice_get, replicate}
use Rattle.ipg_core.specs.declared.grammar.CoreAlt.{CoreAlt}
use Rattle.ipg_core.specs.declared.grammar.CoreRule.{CoreRule}
use Rattle.ipg_core.specs.Grammar.{Grammar, rule_at}
use Rattle.ipg_core.specs.Tree.{Tree}
use Rattle.ipg_core.specs.Environment.{Values}
use Rattle.ipg_core.specs.Run.{NoTree, Asked}
use Rattle.ipg_core.specs.Meaning.{Call, Frame, start, terms_on, node_of, alt_on, alts_on, rule_run, rule_on, den}
use Rattle.ipg_core.specs.Good.{AltAt}
use Rattle.ipg_facts_laws.specs.Finished.{frame_at, Finished}
use Rattle.ipg_cover_laws.proofs.Runs.{finish_is, stop_is, Came, went, either_came}
use Rattle.ipg_cover_laws.proofs.Results.{Answers, AreKnown, terms_known}

-- the alternative that a rule's run came by
record Taken (Q : Asked → Type 0) (call : Call) (f : Frame) (alts : List CoreAlt) (tree : Tree) : Type 0 where
  number : ℕ
  alt : CoreAlt
  is_alt : slice_get alts number ≡ Some alt
  came : Came Q (alt_on call (record f { alt = f.alt + number }) alt) tree

first_taken : (Q : Asked → Type 0) (call : Call) (f : Frame) (alt : CoreAlt) (alts : List CoreAlt) (tree : Tree) → Came Q (alt_on call f alt) tree
    → Taken Q call f (alt ∷ alts) tree
first_taken Q call f alt alts tree c =
    record {
      number = 0;
      alt = alt;
      is_alt = refl;
      came = subst (λ n. Came Q (alt_on call (record f { alt = n }) alt) tree) (let e : f.alt ≡ f.alt + 0 = omega arith in e) c;
    }

later_taken : (Q : Asked → Type 0) (call : Call) (f : Frame) (alt : CoreAlt) (alts : List CoreAlt) (tree : Tree)
    → Taken Q call (record f { alt = f.alt + 1 }) alts tree → Taken Q call f (alt ∷ alts) tree
later_taken Q call f alt alts tree t = record {
  number = suc t.number;
  alt = t.alt;
  is_alt = t.is_alt;
  came = subst (λ n. Came Q (alt_on call (record f { alt = n }) t.alt) tree) (let e : (f.alt + 1) + t.number ≡ f.alt + suc t.number = omega arith in e) t.came;
}

one_taken : (Q : Asked → Type 0) (call : Call) (f : Frame) (alts : List CoreAlt) (tree : Tree) → Came Q (alts_on call f alts) tree → Taken Q call f alts tree
unfolding alts_on
one_taken Q call f [] tree c = stop_is NoTree tree c.answer
one_taken Q call f (alt ∷ alts) tree c =
    let next : Frame = record f { alt = f.alt + 1 } in
    elim (either_came Q (alt_on call f alt) (alts_on call next alts) tree c) [
      | inl one ↦ first_taken Q call f alt alts tree one
      | inr more ↦ later_taken Q call f alt alts tree (one_taken Q call next alts tree more)
    ]

-- the rule is there
pub rule_there : (call : Call) (g : Grammar) (r : ℕ) (s : List ℕ) (outer : Values) (tree : Tree) → (rule_on call g r s outer).answer ≡ Ok tree
    → (rule : CoreRule) × (rule_at g r ≡ Some rule)
unfolding rule_on
rule_there call g r s outer tree e = there (rule_at g r) refl e
  where
    there : (o : Option CoreRule) → rule_at g r ≡ o → (rule_run call (frame_at g (r, 0) s outer) o).answer ≡ Ok tree
        → (rule : CoreRule) × (rule_at g r ≡ Some rule)
    there None is e = stop_is NoTree tree e
    there (Some rule) is e = (rule, is)

-- the alternative that the tree is of, and what is known of the calls among its results
pub record TreeOf (P : ℕ → ℕ → Tree → Type 0) (g : Grammar) (h r : ℕ) (s : List ℕ) (outer : Values) (tree : Tree) : Type 0 where
  pub number : ℕ
  pub end : Finished g (r, number) s outer h
  pub is : node_of (frame_at g (r, number) s outer) end.alt.terms end.state ≡ tree
  pub known : AreKnown P end.state.done

module _ (P : ℕ → ℕ → Tree → Type 0) (g : Grammar) (h r : ℕ) (s : List ℕ) (outer : Values) (tree : Tree) where
  abbrev Q : Asked → Type 0
  Q = Answers (den g h) s P

  none_known : (n : ℕ) → AreKnown P (replicate n None)
  none_known zero = tt
  none_known (suc n) = none_known n

  of_alt : (number : ℕ) (rule : CoreRule) (alt : CoreAlt) → AltAt g rule alt (r, number) → Came Q (alt_on (den g h) (frame_at g (r, number) s outer) alt) tree
      → TreeOf P g h r s outer tree
  unfolding alt_on
  of_alt number rule alt is_at c =
      let f : Frame = frame_at g (r, number) s outer in
      let w = went Q (terms_on (den g h) f alt.terms alt.order (start (length alt.terms))) _ tree c in
      record {
        number = number;
        end = record { rule = rule; alt = alt; is_at = is_at; state = w.value; came = w.first.answer };
        is = finish_is _ tree w.rest.answer;
        known = terms_known P (den g h) f alt.terms alt.order (start (length alt.terms)) w.value (none_known (length alt.terms)) w.first;
      }

  of_rule : (rule : CoreRule) → rule_at g r ≡ Some rule → Came Q (rule_run (den g h) (frame_at g (r, 0) s outer) (Some rule)) tree
      → TreeOf P g h r s outer tree
  of_rule rule is c =
      let t = one_taken Q (den g h) (frame_at g (r, 0) s outer) rule.alts tree c in
      of_alt t.number rule t.alt (record { is_rule = is; is_alt = t.is_alt })
      (subst (λ n. Came Q (alt_on (den g h) (frame_at g (r, n) s outer) t.alt) tree) (let e : 0 + t.number ≡ t.number = omega arith in e) t.came)

  pub tree_of : Came Q (rule_on (den g h) g r s outer) tree → TreeOf P g h r s outer tree
  unfolding rule_on
  tree_of c =
      let there = rule_there (den g h) g r s outer tree c.answer in
      of_rule there.0 there.1 (subst (λ o. Came Q (rule_run (den g h) (frame_at g (r, 0) s outer) o) tree) there.1 c)
