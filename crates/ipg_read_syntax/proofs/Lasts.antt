-- Lists with one more member at the end: their tokens, and what each member keeps.
use Rattle.std.proofs.Common.{◌≡◌, List, [], ◌∷◌, ◌++◌, ap, ◌∙◌, sym, append_assoc}
use Rattle.ipg_read_syntax.specs.Classes.{arrow, slash}
use Rattle.ipg_read_syntax.specs.Written.{Toks, CaseTree, TermTree, LocalTree, AltTree, RuleTree, spell_case, spell_cases, spell_term, spell_terms}
use Rattle.ipg_read_syntax.specs.Written.{spell_local_alts, spell_local, spell_locals, spell_alt, spell_alts, spell_rule, spell, Each, SomeEach}
use Rattle.ipg_read_syntax.specs.Making.{last}
use Rattle.ipg_read_syntax.proofs.Taken.{mark}

pub some_last : {A : Type 0} (P : A → Type 0) (xs : List A) (x : A) → Each P xs → P x → SomeEach P (last xs x)
some_last P [] x each one = (one, tt)
some_last P (y ∷ []) x each one = (each.0, (one, tt))
some_last P (y ∷ z ∷ xs) x each one = (each.0, some_last P (z ∷ xs) x each.1 one)

pub some_each : {A : Type 0} (P : A → Type 0) (xs : List A) → SomeEach P xs → Each P xs
some_each P [] none = absurd none
some_each P (x ∷ xs) some = some

pub cases_last : (cs : List CaseTree) (c : CaseTree) (r : Toks) → spell_cases (last cs c) ++ r ≡ spell_cases cs ++ (spell_case c ++ r)
cases_last [] c r = append_assoc (spell_case c) [] r
cases_last (d ∷ cs) c r =
    append_assoc (spell_case d) (spell_cases (last cs c)) r ∙ ap (λ toks. spell_case d ++ toks) (cases_last cs c r)
    ∙ sym (append_assoc (spell_case d) (spell_cases cs) (spell_case c ++ r))

pub terms_last : (ts : List TermTree) (t : TermTree) (r : Toks) → spell_terms (last ts t) ++ r ≡ spell_terms ts ++ (spell_term t ++ r)
terms_last [] t r = append_assoc (spell_term t) [] r
terms_last (u ∷ ts) t r =
    append_assoc (spell_term u) (spell_terms (last ts t)) r ∙ ap (λ toks. spell_term u ++ toks) (terms_last ts t r)
    ∙ sym (append_assoc (spell_term u) (spell_terms ts) (spell_term t ++ r))

pub locals_last : (ls : List LocalTree) (l : LocalTree) (r : Toks) → spell_locals (last ls l) ++ r ≡ spell_locals ls ++ (spell_local l ++ r)
locals_last [] l r = append_assoc (spell_local l) [] r
locals_last (m ∷ ls) l r =
    append_assoc (spell_local m) (spell_locals (last ls l)) r ∙ ap (λ toks. spell_local m ++ toks) (locals_last ls l r)
    ∙ sym (append_assoc (spell_local m) (spell_locals ls) (spell_local l ++ r))

pub rules_last : (rs : List RuleTree) (x : RuleTree) (r : Toks) → spell (last rs x) ++ r ≡ spell rs ++ (spell_rule x ++ r)
rules_last [] x r = append_assoc (spell_rule x) [] r
rules_last (y ∷ rs) x r =
    append_assoc (spell_rule y) (spell (last rs x)) r ∙ ap (λ toks. spell_rule y ++ toks) (rules_last rs x r)
    ∙ sym (append_assoc (spell_rule y) (spell rs) (spell_rule x ++ r))

later_local_alts : (las : List (List TermTree)) (ts : List TermTree) (r : Toks)
    → spell_local_alts slash (last las ts) ++ r ≡ spell_local_alts slash las ++ (slash ∷ (spell_terms ts ++ r))
later_local_alts [] ts r = ap (λ toks. slash ∷ toks) (append_assoc (spell_terms ts) [] r)
later_local_alts (us ∷ las) ts r =
    ap (λ toks. slash ∷ toks)
    (append_assoc (spell_terms us) (spell_local_alts slash (last las ts)) r ∙ ap (λ toks. spell_terms us ++ toks) (later_local_alts las ts r)
    ∙ sym (append_assoc (spell_terms us) (spell_local_alts slash las) (slash ∷ (spell_terms ts ++ r))))

pub local_alts_last : (las : List (List TermTree)) (ts : List TermTree) (r : Toks)
    → spell_local_alts arrow (last las ts) ++ r ≡ spell_local_alts arrow las ++ (mark las ∷ (spell_terms ts ++ r))
local_alts_last [] ts r = ap (λ toks. arrow ∷ toks) (append_assoc (spell_terms ts) [] r)
local_alts_last (us ∷ las) ts r =
    ap (λ toks. arrow ∷ toks)
    (append_assoc (spell_terms us) (spell_local_alts slash (last las ts)) r ∙ ap (λ toks. spell_terms us ++ toks) (later_local_alts las ts r)
    ∙ sym (append_assoc (spell_terms us) (spell_local_alts slash las) (slash ∷ (spell_terms ts ++ r))))

later_alts : (alts : List AltTree) (a : AltTree) (r : Toks) → spell_alts slash (last alts a) ++ r ≡ spell_alts slash alts ++ (slash ∷ (spell_alt a ++ r))
later_alts [] a r = ap (λ toks. slash ∷ toks) (append_assoc (spell_alt a) [] r)
later_alts (b ∷ alts) a r =
    ap (λ toks. slash ∷ toks) (append_assoc (spell_alt b) (spell_alts slash (last alts a)) r ∙ ap (λ toks. spell_alt b ++ toks) (later_alts alts a r)
    ∙ sym (append_assoc (spell_alt b) (spell_alts slash alts) (slash ∷ (spell_alt a ++ r))))

pub alts_last : (alts : List AltTree) (a : AltTree) (r : Toks) → spell_alts arrow (last alts a) ++ r ≡ spell_alts arrow alts ++ (mark alts ∷ (spell_alt a ++ r))
alts_last [] a r = ap (λ toks. arrow ∷ toks) (append_assoc (spell_alt a) [] r)
alts_last (b ∷ alts) a r =
    ap (λ toks. arrow ∷ toks) (append_assoc (spell_alt b) (spell_alts slash (last alts a)) r ∙ ap (λ toks. spell_alt b ++ toks) (later_alts alts a r)
    ∙ sym (append_assoc (spell_alt b) (spell_alts slash alts) (slash ∷ (spell_alt a ++ r))))
