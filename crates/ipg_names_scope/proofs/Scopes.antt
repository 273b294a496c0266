-- The scope that tables say is the scope of the text.
use Rattle.std.proofs.Common.{◌≡◌, ℕ, zero, suc, ◌+◌, Bool, true, false, ◌||◌, ◌&&◌, List, [], ◌∷◌, map, take}
use Rattle.std.proofs.Common.{Option, Some, None, is_some, slice_get, refl, sym, ap, subst, ◌∙◌, cond}
use Rattle.std.specs.List.{list_any, list_all}
use denote.Ref.{Bor}
use Rattle.ipg_ast.specs.declared.grammar.Term.{Term}
use Rattle.ipg_core.specs.declared.grammar.Sym.{Sym}
use Rattle.ipg_core.specs.declared.grammar.Sym.TheVariants.{Text, Prim, Rule}
use Rattle.indexmap.specs.IndexMap.{IndexMap}
use Rattle.ipg_names_scope.specs.declared.marks.Spots.{Spots}
use Rattle.ipg_names_scope.specs.declared.marks.Family.TheVariants.{Calls, Items, Sets}
use Rattle.ipg_names_scope.specs.declared.roster.ListedRule as code
use Rattle.ipg_names_scope.specs.declared.tables.TermSite.{TermSite}
use Rattle.ipg_names_scope.specs.declared.tables.NameTables.{NameTables}
use Rattle.ipg_names_scope.specs.Roster.{ListedRule}
use Rattle.ipg_names_scope.specs.Terms.{has}
use Rattle.ipg_names_scope.specs.Nearest.{last_from, left_of, first_from}
use Rattle.ipg_core.specs.Lines.{primitive_of}
use Rattle.ipg_names_scope.specs.Scope.{home_of, scope_of, sym_else, sym_named, rule_named, rule_sym, entry_visible, alt_sets, alts_at, some_sets, all_set}
use Rattle.ipg_names_scope.specs.View.{entries_view}
use Rattle.ipg_names_scope.specs.Lookup.{shown}
use Rattle.ipg_names_scope.specs.Fields.{alts_set, rows_set, row_of}
use Rattle.ipg_names_scope.specs.Marks.{look, nearest_spot, spots_of, spots_from}
use Rattle.ipg_names_scope.specs.Site.{spot_scope, site_scope, rule_if, rule_visible, rule_callee, row_at, some_of}
use Rattle.ipg_names_scope.specs.Site.{all_of, has_left, scopes_at, AreTables, AreMarks, IsOuter}
use Rattle.ipg_names_scope.proofs.Spots.{nearest_is, spots_any, none_before}

-- outside of item intervals
pub spot_plain : (site : Bor TermSite) → spot_scope (record { site = site; inside = None }) ≡ site_scope site.now
unfolding spot_scope site_scope
spot_plain site = refl

-- ---- rules by their names

rule_same : (home : ℕ × ℕ) (roster : List code.ListedRule) (o : Option ℕ) → rule_if home roster o ≡ rule_sym (entries_view roster) home o
rule_same home roster None = refl
rule_same home roster (Some r) = ap (λ b. cond b (Some (Rule r)) None) (visible_same roster r)
  where
    visible_same : (es : List code.ListedRule) (n : ℕ) → rule_visible home es n ≡ entry_visible home (slice_get (entries_view es) n)
    visible_same [] n = refl
    visible_same (e ∷ es) zero = refl
    visible_same (e ∷ es) (suc n) = visible_same es n

sym_same : (site : TermSite) → AreTables site.tables → (name : List ℕ)
    → sym_else (primitive_of name) (rule_callee site name) ≡ sym_named (entries_view site.tables.roster.now) site.home name
sym_same site is name =
    ap (λ o. sym_else (primitive_of name) o) (ap (rule_if site.home site.tables.roster.now) (is.numbers name)
    ∙ rule_same site.home site.tables.roster.now (rule_named (entries_view site.tables.roster.now) name))

-- ---- attributes of rules

any_id : {A : Type 0} (p : A → Bool) (xs : List A) → list_any p xs ≡ list_any (λ b. b) (map p xs)
any_id p [] = refl
any_id p (x ∷ xs) = ap (λ b. p x || b) (any_id p xs)

all_id : {A : Type 0} (p : A → Bool) (xs : List A) → list_all p xs ≡ list_all (λ b. b) (map p xs)
all_id p [] = refl
all_id p (x ∷ xs) = ap (λ b. p x && b) (all_id p xs)

-- a row of tables, and the alternatives of the rule of that number
row_same : {S : Type 0} (fields : List (List (IndexMap (Bor (List ℕ)) Spots S))) (roster : List ListedRule) (f : List ℕ) (r : ℕ)
    → rows_set f fields ≡ map (row_of f) roster → alts_set f (row_at (slice_get fields r)) ≡ map (alt_sets f) (alts_at (slice_get roster r))
row_same [] [] f r e = refl
row_same [] (entry ∷ roster) f r e = absurd (cc)
row_same (row ∷ fields) [] f r e = absurd (cc)
row_same (row ∷ fields) (entry ∷ roster) f zero e = cc
row_same (row ∷ fields) (entry ∷ roster) f (suc r) e = row_same fields roster f r (let tail : rows_set f fields ≡ map (row_of f) roster = cc in tail)

some_same : (site : TermSite) → AreTables site.tables → (s : Sym) (f : List ℕ) → some_of site s f ≡ some_sets (entries_view site.tables.roster.now) s f
some_same site is (Text bytes) f = refl
some_same site is (Prim prim) f = refl
some_same site is (Rule r) f =
    let roster = entries_view site.tables.roster.now in
    any_id (λ places. is_some (look places f)) (row_at (slice_get site.tables.fields.now r))
    ∙ ap (list_any (λ b. b)) (row_same site.tables.fields.now roster f r (is.fields f))
    ∙ sym (any_id (alt_sets f) (alts_at (slice_get roster r)))

all_same : (site : TermSite) → AreTables site.tables → (s : Sym) (f : List ℕ) → all_of site s f ≡ all_set (entries_view site.tables.roster.now) s f
all_same site is (Text bytes) f = refl
all_same site is (Prim prim) f = refl
all_same site is (Rule r) f =
    let roster = entries_view site.tables.roster.now in
    all_id (λ places. is_some (look places f)) (row_at (slice_get site.tables.fields.now r))
    ∙ ap (list_all (λ b. b)) (row_same site.tables.fields.now roster f r (is.fields f))
    ∙ sym (all_id (alt_sets f) (alts_at (slice_get roster r)))

-- ---- attributes to the left

or_false : (b : Bool) → (b || false) ≡ b
or_false true = refl
or_false false = refl

module _ {A : Type 0} (p : A → Bool) where
  last_any : (n : ℕ) (found : Option ℕ) (xs : List A) → is_some (last_from p n found xs) ≡ (is_some found || list_any p xs)
  last_any n found [] = sym (or_false (is_some found))
  last_any n found (x ∷ xs) = last_any (n + 1) (cond (p x) (Some n) found) xs ∙ by (p x) (list_any p xs) found
    where
      by : (b r : Bool) (found : Option ℕ) → (is_some (cond b (Some n) found) || r) ≡ (is_some found || (b || r))
      by true r None = refl
      by true r (Some k) = refl
      by false r found = refl

  left_any : (xs : List A) (u : ℕ) → has_left (spots_of p xs u) ≡ list_any p (take u xs)
  left_any xs u = by (first_from p 0 xs) refl ∙ last_any 0 None (take u xs)
    where
      by : (o : Option ℕ) → first_from p 0 xs ≡ o → has_left (spots_from o p xs u) ≡ is_some (left_of p xs u)
      by None e = sym (ap is_some (none_before p u 0 0 xs e))
      by (Some n) e = refl

-- ---- the whole scope

pub scope_is : (site : TermSite) (outer terms : List Term) → AreTables site.tables → AreMarks terms site.term site.marks.now → IsOuter outer site.outer.now
    → site_scope site ≡ scope_of (entries_view site.tables.roster.now) (shown site.tables.attrs.now.names) site.home outer terms site.term
unfolding site_scope
scope_is site outer terms is marks out = λ i. record {
  term = site.term;
  names = shown site.tables.attrs.now.names;
  sym = λ name. sym_same site is name i;
  some = λ s f. some_same site is s f i;
  all = λ s f. all_same site is s f i;
  own = λ name. (ap is_some (marks.sets name) ∙ spots_any (has Sets name) terms site.term) i;
  before = λ name. (ap has_left (marks.sets name) ∙ left_any (has Sets name) terms site.term) i;
  outer = λ name. out name i;
  call = λ name. (ap (λ s. nearest_spot s site.term) (marks.calls name) ∙ nearest_is (has Calls name) terms site.term) i;
  items = λ name. (ap (λ s. nearest_spot s site.term) (marks.items name) ∙ nearest_is (has Items name) terms site.term) i;
  var = None;
}

pub scope_here : (tables : NameTables) (entry : code.ListedRule) (at : ℕ × ℕ) (terms : List Term) (site : TermSite) → site.tables ≡ tables
    → site.home ≡ home_of at entry.holder
    → AreTables tables → AreMarks terms site.term site.marks.now → IsOuter entry.outer.now site.outer.now
    → site_scope site ≡ scopes_at tables entry at terms site.term
scope_here tables entry at terms site same home are marks out =
    scope_is site entry.outer.now terms (subst AreTables (sym same) are) marks out
    ∙ ap (λ t. scope_of (entries_view t.roster.now) (shown t.attrs.now.names) site.home entry.outer.now terms site.term) same
    ∙ ap (λ h. scope_of (entries_view tables.roster.now) (shown tables.attrs.now.names) h entry.outer.now terms site.term) home
