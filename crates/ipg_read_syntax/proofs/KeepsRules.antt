-- Each step of the machine keeps the levels, and stands for one token more; so what it takes is spelled by the tree that it gives.
use Rattle.std.proofs.Common.{◌≡◌, ℕ, List, [], ◌∷◌, ◌++◌, Option, Some, None, refl, ap, ◌∙◌, sym, append_assoc}
use Rattle.ipg_ast.specs.declared.grammar.Ident.{Ident}
use Rattle.ipg_num.specs.declared.op.Op2.TheVariants.{Div}
use Rattle.ipg_read_syntax.specs.Classes.{op, Tok, name, sign, arrow, slash, semicolon, left_brace, right_brace, where_word}
use Rattle.ipg_read_syntax.specs.Written.{Toks, TermTree, LocalTree, AltTree, spell_terms, spell_local_alts, spell_locals, spell_alt}
use Rattle.ipg_read_syntax.specs.Written.{spell_alts, spell, TermFits, TermsFit, LocalFits, AltFits, RuleFits, Each, SomeEach}
use Rattle.ipg_read_syntax.specs.Machine
use Rattle.ipg_read_syntax.specs.Machine.{Head, Site, global, local, Pos, Part, State, Turn}
use Rattle.ipg_read_syntax.specs.Making.{trees, last}
use Rattle.ipg_read_syntax.proofs.Taken.{mark, head_before, where_before, site_before, part_before, pos_before}
use Rattle.ipg_read_syntax.proofs.Taken.{KeptSite, KeptPos, Next, PartNext, TurnNext, StateNext}
use Rattle.ipg_read_syntax.proofs.Lasts.{some_last, some_each, terms_last, locals_last, local_alts_last, alts_last, rules_last}
use Rattle.ipg_read_syntax.proofs.KeepsTerms.{opening_keeps, part_move_keeps}

-- ---- one alternative, one rule more

abbrev with : Head trees → AltTree → Head trees
with h a = record { rules = h.rules; name = h.name; alts = last h.alts a }

mark_last : {A : Type 0} (xs : List A) (x : A) → mark (last xs x) ≡ slash
mark_last [] x = refl
mark_last (y ∷ xs) x = refl

alt_added : (h : Head trees) (a : AltTree) (r : Toks) → head_before h (mark h.alts ∷ (spell_alt a ++ r)) ≡ head_before (with h a) r
alt_added h a r = ap (λ toks. spell h.rules ++ (name h.name ∷ toks)) (sym (alts_last h.alts a r))

plain_alt_added : (h : Head trees) (ts : List TermTree) (r : Toks)
    → head_before h (mark h.alts ∷ (spell_terms ts ++ r)) ≡ head_before (with h (record { terms = ts; locals = [] })) r
plain_alt_added h ts r = ap (λ toks. head_before h (mark h.alts ∷ toks)) (sym (append_assoc (spell_terms ts) [] r))
    ∙ alt_added h (record { terms = ts; locals = [] }) r

rule_added : (h : Head trees) (r : Toks) → head_before h (semicolon ∷ r) ≡ spell (last h.rules (record { head = h.name; alts = h.alts })) ++ r
rule_added h r =
    ap (λ toks. spell h.rules ++ (name h.name ∷ toks)) (sym (append_assoc (spell_alts arrow h.alts) (semicolon ∷ []) r))
    ∙ sym (rules_last h.rules (record { head = h.name; alts = h.alts }) r)

local_added : (ls : List LocalTree) (n : Ident) (las : List (List TermTree)) (r : Toks)
    → spell_locals ls ++ (name n ∷ (spell_local_alts arrow las ++ (semicolon ∷ r))) ≡ spell_locals (last ls (record { head = n; alts = las })) ++ r
local_added ls n las r =
    ap (λ toks. spell_locals ls ++ (name n ∷ toks)) (sym (append_assoc (spell_local_alts arrow las) (semicolon ∷ []) r))
    ∙ sym (locals_last ls (record { head = n; alts = las }) r)

where_spelled : (ts : List TermTree) (ls : List LocalTree) (r : Toks) → SomeEach LocalFits ls
    → spell_terms ts ++ (where_word ∷ left_brace ∷ (spell_locals ls ++ (right_brace ∷ r))) ≡ spell_alt (record { terms = ts; locals = ls }) ++ r
where_spelled ts [] r some = absurd some
where_spelled ts (l ∷ ls) r some =
    ap (λ toks. spell_terms ts ++ (where_word ∷ left_brace ∷ toks)) (sym (append_assoc (spell_locals (l ∷ ls)) (right_brace ∷ []) r))
    ∙ sym (append_assoc (spell_terms ts) (where_word ∷ left_brace ∷ (spell_locals (l ∷ ls) ++ (right_brace ∷ []))) r)

-- ---- steps

next_alt_same : (site : Site trees) (ts : List TermTree) (r : Toks)
    → site_before site (spell_terms ts ++ (slash ∷ r)) ≡ site_before (Machine.next_alt trees site ts) r
next_alt_same (global h) ts r = plain_alt_added h ts (slash ∷ r)
    ∙ ap (λ m. head_before (with h (record { terms = ts; locals = [] })) (m ∷ r)) (sym (mark_last h.alts (record { terms = ts; locals = [] })))
next_alt_same (local h outer ls n las) ts r = ap (λ toks. where_before h outer (left_brace ∷ (spell_locals ls ++ (name n ∷ toks))))
    (sym (local_alts_last las ts (slash ∷ r)) ∙ ap (λ m. spell_local_alts arrow (last las ts) ++ (m ∷ r)) (sym (mark_last las ts)))

next_alt_keeps : (site : Site trees) (ts : List TermTree) → KeptSite site → TermsFit ts → KeptSite (Machine.next_alt trees site ts)
next_alt_keeps (global h) ts kept fits = (
  kept.0,
  some_each AltFits (last h.alts (record { terms = ts; locals = [] }))
      (some_last AltFits h.alts (record { terms = ts; locals = [] }) kept.1 (fits, tt)),
)
next_alt_keeps (local h outer ls n las) ts kept fits = (kept.0, kept.1, kept.2, some_each TermsFit (last las ts) (some_last TermsFit las ts kept.3 fits))

end_rule_same : (site : Site trees) (ts : List TermTree) (r : Toks)
    → site_before site (spell_terms ts ++ (semicolon ∷ r)) ≡ pos_before (Machine.end_rule trees site ts) r
end_rule_same (global h) ts r = plain_alt_added h ts (semicolon ∷ r) ∙ rule_added (with h (record { terms = ts; locals = [] })) r
end_rule_same (local h outer ls n las) ts r = ap (λ toks. where_before h outer (left_brace ∷ toks))
    (ap (λ toks. spell_locals ls ++ (name n ∷ toks)) (sym (local_alts_last las ts (semicolon ∷ r))) ∙ local_added ls n (last las ts) r)

end_rule_keeps : (site : Site trees) (ts : List TermTree) → KeptSite site → TermsFit ts → KeptPos (Machine.end_rule trees site ts)
end_rule_keeps (global h) ts kept fits =
    let alts : List AltTree = last h.alts (record { terms = ts; locals = [] }) in
    some_last RuleFits h.rules (record { head = h.name; alts = alts }) kept.0 (some_last AltFits h.alts (record { terms = ts; locals = [] }) kept.1 (fits, tt))
end_rule_keeps (local h outer ls n las) ts kept fits =
    (kept.0, kept.1, some_last LocalFits ls (record { head = n; alts = last las ts }) kept.2 (some_last TermsFit las ts kept.3 fits))

begun_keeps : (at : ℕ) (log : _) (site : Site trees) (ts : List TermTree) (o : Option (Part trees)) (t : Tok) (before : Toks → Toks) → KeptSite site
    → Each TermFits ts
    → ((r : Toks) → before r ≡ site_before site (spell_terms ts ++ r)) → Next (PartNext (λ r. r) t) o
    → Next (StateNext before t) (Machine.begun trees at log site ts o)
begun_keeps at log site ts (Some p) t before kept fits same next = record {
  kept = (kept, fits, next.kept);
  same = λ r. same (t ∷ r) ∙ ap (λ toks. site_before site (spell_terms ts ++ toks)) (next.same r);
}
begun_keeps at log site ts None t before kept fits same next = tt

where_keeps : (log : _) (site : Site trees) (ts : List TermTree) (before : Toks → Toks) → KeptSite site → TermsFit ts
    → ((r : Toks) → before r ≡ site_before site (spell_terms ts ++ r)) → Next (StateNext before where_word) (Machine.begin_where trees log site ts)
where_keeps log (global h) ts before kept fits same = record { kept = (kept, fits); same = λ r. same (where_word ∷ r) }
where_keeps log (local h outer ls n las) ts before kept fits same = tt

after_term_keeps : (at : ℕ) (log : _) (site : Site trees) (ts : List TermTree) (t : Tok) (before : Toks → Toks) → KeptSite site → TermsFit ts
    → ((r : Toks) → before r ≡ site_before site (spell_terms ts ++ r)) → Next (StateNext before t) (Machine.after_term_move trees at log site ts t)
after_term_keeps at log site ts (sign (op Div)) before kept fits same = record {
  kept = next_alt_keeps site ts kept fits;
  same = λ r. same (slash ∷ r) ∙ next_alt_same site ts r;
}
after_term_keeps at log site ts semicolon before kept fits same = record {
  kept = end_rule_keeps site ts kept fits;
  same = λ r. same (semicolon ∷ r) ∙ end_rule_same site ts r;
}
after_term_keeps at log site ts where_word before kept fits same = where_keeps log site ts before kept fits same
after_term_keeps at log site ts t before kept fits same =
    begun_keeps at log site ts (Machine.opening trees t) t before kept (some_each TermFits ts fits) same (opening_keeps t)

turned_keeps : (at : ℕ) (site : Site trees) (ts : List TermTree) (t : Tok) (o : Option (Turn trees)) (before ib : Toks → Toks) → KeptSite site
    → Each TermFits ts
    → ((r : Toks) → before r ≡ site_before site (spell_terms ts ++ ib r)) → Next (TurnNext ib t) o
    → Next (StateNext before t) (Machine.turned trees at site ts t o)
turned_keeps at site ts t (Some (Machine.still log p)) before ib kept fits same next = record {
  kept = (kept, fits, next.kept);
  same = λ r. same (t ∷ r) ∙ ap (λ toks. site_before site (spell_terms ts ++ toks)) (next.same r);
}
turned_keeps at site ts t (Some (Machine.done log x)) before ib kept fits same next = record {
  kept = (kept, some_last TermFits ts x fits next.fits);
  same = λ r. same (t ∷ r) ∙ ap (λ toks. site_before site (spell_terms ts ++ toks)) (next.same r) ∙ ap (site_before site) (sym (terms_last ts x r));
}
turned_keeps at site ts t (Some (Machine.passed log x)) before ib kept fits same next =
    after_term_keeps at log site (last ts x) t before kept (some_last TermFits ts x fits next.fits)
    (λ r. same r ∙ ap (λ toks. site_before site (spell_terms ts ++ toks)) (next.same r) ∙ ap (site_before site) (sym (terms_last ts x r)))
turned_keeps at site ts t None before ib kept fits same next = tt

slash_next : (h : Head trees) → SomeEach AltFits h.alts → mark h.alts ≡ slash
slash_next h some = go h.alts some
  where
    go : (alts : List AltTree) → SomeEach AltFits alts → mark alts ≡ slash
    go [] some_one = absurd some_one
    go (a ∷ rest) some_one = refl

pub move_keeps : (at : ℕ) (log : _) (pos : Pos trees) (t : Tok) → KeptPos pos → Next (StateNext (pos_before pos) t) (Machine.move trees at log pos t)
move_keeps at log Machine.start (name i) kept = record { kept = tt; same = λ r. refl }
move_keeps at log Machine.start t kept = tt
move_keeps at log (Machine.between rs) (name i) kept = record { kept = some_each RuleFits rs kept; same = λ r. refl }
move_keeps at log (Machine.between rs) t kept = tt
move_keeps at log (Machine.rule_named rs i) arrow kept = record { kept = (kept, tt); same = λ r. refl }
move_keeps at log (Machine.rule_named rs i) t kept = tt
move_keeps at log (Machine.local_named h ts ls i) arrow kept = record { kept = (kept.0, kept.1, kept.2, tt); same = λ r. refl }
move_keeps at log (Machine.local_named h ts ls i) t kept = tt
move_keeps at log (Machine.before_term site) t kept = begun_keeps at tt site [] (Machine.opening trees t) t (site_before site) kept tt (λ r. refl)
    (opening_keeps t)
move_keeps at log (Machine.in_term site ts p) t kept =
    turned_keeps at site ts t (Machine.part_move trees at log p t) (pos_before (Machine.in_term site ts p)) (part_before p) kept.0 kept.1 (λ r. refl)
    (part_move_keeps at log p t (part_before p) kept.2 (λ r. refl))
move_keeps at log (Machine.after_term site ts) t kept = after_term_keeps at log site ts t (pos_before (Machine.after_term site ts)) kept.0 kept.1 (λ r. refl)
move_keeps at log (Machine.where_named h ts) left_brace kept = record { kept = kept; same = λ r. refl }
move_keeps at log (Machine.where_named h ts) t kept = tt
move_keeps at log (Machine.before_local h ts) (name i) kept = record { kept = (kept.0, kept.1, tt); same = λ r. refl }
move_keeps at log (Machine.before_local h ts) t kept = tt
move_keeps at log (Machine.after_local h ts ls) (name i) kept = record { kept = (kept.0, kept.1, some_each LocalFits ls kept.2); same = λ r. refl }
move_keeps at log (Machine.after_local h ts ls) right_brace kept = record {
  kept = (kept.0.0, some_last AltFits h.alts (record { terms = ts; locals = ls }) kept.0.1 (kept.1, some_each LocalFits ls kept.2));
  same = λ r. ap (λ toks. head_before h (mark h.alts ∷ toks)) (where_spelled ts ls r kept.2) ∙ alt_added h (record { terms = ts; locals = ls }) r;
}
move_keeps at log (Machine.after_local h ts ls) t kept = tt
move_keeps at log (Machine.after_where h) (sign (op Div)) kept = record {
  kept = (kept.0, some_each AltFits h.alts kept.1);
  same = λ r. ap (λ m. head_before h (m ∷ r)) (sym (slash_next h kept.1));
}
move_keeps at log (Machine.after_where h) semicolon kept = record {
  kept = some_last RuleFits h.rules (record { head = h.name; alts = h.alts }) kept.0 kept.1;
  same = λ r. rule_added h r;
}
move_keeps at log (Machine.after_where h) t kept = tt
