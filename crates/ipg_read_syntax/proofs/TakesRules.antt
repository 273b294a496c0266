-- The machine takes each rule, and so each grammar.
use Rattle.std.proofs.Common.{◌≡◌, ℕ, ◌+◌, List, [], ◌∷◌, ◌++◌, Bool, true, false, Ok, refl, ap, ◌∙◌, sym, append_assoc}
use Rattle.ipg_ast.specs.declared.grammar.Ident.{Ident}
use Rattle.ipg_read_syntax.specs.Classes.{Tok, slash, semicolon, right_brace}
use Rattle.ipg_read_syntax.specs.Written.{Toks, TermTree, LocalTree, AltTree, RuleTree, spell_terms, spell_local_alts, spell_local, spell_locals, spell_where}
use Rattle.ipg_read_syntax.specs.Written.{spell_alt, spell_alts, spell_rule, spell, TermsFit, LocalFits, AltFits, RuleFits, Fits, Each, SomeEach}
use Rattle.ipg_read_syntax.specs.Limits.{past}
use Rattle.ipg_read_syntax.specs.Machine.{Acts, Head, global, local, Pos, State, between, before_term, after_term}
use Rattle.ipg_read_syntax.specs.Machine.{after_local, after_where, with_alt, verdict, start_state}
use Rattle.ipg_read_syntax.specs.Making.{terms_by, local_alts_by, locals_by, alts_by, rules_by}
use Rattle.ipg_read_syntax.proofs.TakesExprs.{past_append}
use Rattle.ipg_read_syntax.proofs.TakesTerms.{NoBracket, takes_alt_terms}
use Rattle.ipg_read_syntax.proofs.Logs.{log_terms, log_local_alts, log_locals, log_alt, log_alts, log_rules}

module _ (A : Acts) where
  abbrev st : A.Log → Pos A → State A
  st log pos = record { log = log; pos = pos }

  -- the alternatives of a local rule after the mark of one, up to the `;`
  takes_local_alts : (h : Head A) (outer : A.Terms) (ls : A.Locals) (n : Ident) (log : A.Log) (las : A.LocalAlts) (ts : List TermTree)
      (rest : List (List TermTree))
      (at : ℕ) (more : Toks) → TermsFit ts → Each TermsFit rest
      → verdict A (at + 1) (st log (before_term (local h outer ls n las))) ((spell_terms ts ++ spell_local_alts slash rest) ++ (semicolon ∷ more))
      ≡ verdict A (past (at + 1) (spell_terms ts ++ spell_local_alts slash rest) + 1)
      (st (log_local_alts A las at (ts ∷ rest) log) (after_local h outer (A.with_local ls n (local_alts_by A las (ts ∷ rest))))) more
  takes_local_alts h outer ls n log las ts [] at more fits others =
      let end : Pos A = after_local h outer (A.with_local ls n (A.with_local_alt las (terms_by A A.no_terms ts))) in
      let told : A.Log = log_terms A A.no_terms (at + 1) ts (A.saw_local_alt las (at + 1) log) in
      ap (λ toks. verdict A (at + 1) (st log (before_term (local h outer ls n las))) toks) (append_assoc (spell_terms ts) [] (semicolon ∷ more))
      ∙ takes_alt_terms A (local h outer ls n las) log ts (at + 1) (semicolon ∷ more) fits refl
      ∙ ap (λ k. verdict A (k + 1) (st told end) more) (sym (past_append (at + 1) (spell_terms ts) []))
  takes_local_alts h outer ls n log las ts (us ∷ rest) at more fits others =
      let next : A.LocalAlts = A.with_local_alt las (terms_by A A.no_terms ts) in
      let mid : ℕ = past (at + 1) (spell_terms ts) in
      let told : A.Log = log_terms A A.no_terms (at + 1) ts (A.saw_local_alt las (at + 1) log) in
      ap (λ toks. verdict A (at + 1) (st log (before_term (local h outer ls n las))) toks)
      (append_assoc (spell_terms ts) (spell_local_alts slash (us ∷ rest)) (semicolon ∷ more))
      ∙ takes_alt_terms A (local h outer ls n las) log ts (at + 1) (spell_local_alts slash (us ∷ rest) ++ (semicolon ∷ more)) fits refl
      ∙ takes_local_alts h outer ls n told next us rest mid more others.0 others.1
      ∙ ap (λ k. verdict A (k + 1)
      (st (log_local_alts A next mid (us ∷ rest) told) (after_local h outer (A.with_local ls n (local_alts_by A next (us ∷ rest))))) more)
      (sym (past_append (at + 1) (spell_terms ts) (spell_local_alts slash (us ∷ rest))))

  takes_local_of : (h : Head A) (outer : A.Terms) (ls : A.Locals) (log : A.Log) (n : Ident) (alts : List (List TermTree)) (at : ℕ) (more : Toks)
      → SomeEach TermsFit alts
      → verdict A at (st log (after_local h outer ls)) (spell_local (record { head = n; alts = alts }) ++ more)
      ≡ verdict A (past at (spell_local (record { head = n; alts = alts })))
      (st (log_local_alts A A.no_local_alts (at + 1) alts (A.saw_rule at log)) (after_local h outer (A.with_local ls n (local_alts_by A A.no_local_alts alts))))
      more
  takes_local_of h outer ls log n [] at more fits = absurd fits
  takes_local_of h outer ls log n (ts ∷ rest) at more fits =
      let body : Toks = spell_terms ts ++ spell_local_alts slash rest in
      let seen : A.Log = A.saw_rule at log in
      ap (λ toks. verdict A (at + 1 + 1) (st seen (before_term (local h outer ls n A.no_local_alts))) toks) (append_assoc body (semicolon ∷ []) more)
      ∙ takes_local_alts h outer ls n seen A.no_local_alts ts rest (at + 1) more fits.0 fits.1
      ∙ ap (λ k. verdict A k (st (log_local_alts A A.no_local_alts (at + 1) (ts ∷ rest) seen)
      (after_local h outer (A.with_local ls n (local_alts_by A A.no_local_alts (ts ∷ rest))))) more)
      (sym (past_append (at + 1 + 1) body (semicolon ∷ [])))

  takes_locals : (h : Head A) (outer : A.Terms) (ls : A.Locals) (log : A.Log) (rs : List LocalTree) (at : ℕ) (more : Toks) → Each LocalFits rs
      → verdict A at (st log (after_local h outer ls)) (spell_locals rs ++ more)
      ≡ verdict A (past at (spell_locals rs)) (st (log_locals A at rs log) (after_local h outer (locals_by A ls rs))) more
  takes_locals h outer ls log [] at more fits = refl
  takes_locals h outer ls log (r ∷ rs) at more fits =
      let next : A.Locals = A.with_local ls r.head (local_alts_by A A.no_local_alts r.alts) in
      let told : A.Log = log_local_alts A A.no_local_alts (at + 1) r.alts (A.saw_rule at log) in
      ap (λ toks. verdict A at (st log (after_local h outer ls)) toks) (append_assoc (spell_local r) (spell_locals rs) more)
      ∙ takes_local_of h outer ls log r.head r.alts at (spell_locals rs ++ more) fits.0
      ∙ takes_locals h outer next told rs (past at (spell_local r)) more fits.1
      ∙ ap (λ k. verdict A k (st (log_locals A at (r ∷ rs) log) (after_local h outer (locals_by A ls (r ∷ rs)))) more)
      (sym (past_append at (spell_local r) (spell_locals rs)))

  -- `/` or `;`
  abbrev end_mark : Bool → Tok
  end_mark true = slash
  end_mark false = semicolon

  ended_alike : (h : Head A) (ts : A.Terms) (log : A.Log) (last : Bool) (at : ℕ) (more : Toks)
      → verdict A at (st log (after_term (global h) ts)) (end_mark last ∷ more)
      ≡ verdict A at (st log (after_where (with_alt A h ts A.no_locals))) (end_mark last ∷ more)
  ended_alike h ts log true at more = refl
  ended_alike h ts log false at more = refl

  plain_mark : (last : Bool) (more : Toks) → NoBracket (end_mark last ∷ more)
  plain_mark true more = refl
  plain_mark false more = refl

  takes_alt_of : (h : Head A) (log : A.Log) (ts : List TermTree) (ls : List LocalTree) (at : ℕ) (last : Bool) (more : Toks) → TermsFit ts → Each LocalFits ls
      → verdict A at (st log (before_term (global h))) (spell_alt (record { terms = ts; locals = ls }) ++ (end_mark last ∷ more))
      ≡ verdict A (past at (spell_alt (record { terms = ts; locals = ls })))
      (st (log_alt A at (record { terms = ts; locals = ls }) (A.saw_alt h.alts at log))
      (after_where (with_alt A h (terms_by A A.no_terms ts) (locals_by A A.no_locals ls)))) (end_mark last ∷ more)
  takes_alt_of h log ts [] at last more fits others =
      let told : A.Log = log_terms A A.no_terms at ts (A.saw_alt h.alts at log) in
      let made : A.Terms = terms_by A A.no_terms ts in
      ap (λ toks. verdict A at (st log (before_term (global h))) toks) (append_assoc (spell_terms ts) [] (end_mark last ∷ more))
      ∙ takes_alt_terms A (global h) log ts at (end_mark last ∷ more) fits (plain_mark last more)
      ∙ ended_alike h made told last (past at (spell_terms ts)) more
      ∙ ap (λ k. verdict A k (st told (after_where (with_alt A h made A.no_locals))) (end_mark last ∷ more)) (sym (past_append at (spell_terms ts) []))
  takes_alt_of h log ts (r ∷ rs) at last more fits others =
      let told : A.Log = log_terms A A.no_terms at ts (A.saw_alt h.alts at log) in
      let made : A.Terms = terms_by A A.no_terms ts in
      let from : ℕ = past at (spell_terms ts) + 1 + 1 in
      let tail : Toks = end_mark last ∷ more in
      ap (λ toks. verdict A at (st log (before_term (global h))) toks) (append_assoc (spell_terms ts) (spell_where (r ∷ rs)) tail)
      ∙ takes_alt_terms A (global h) log ts at (spell_where (r ∷ rs) ++ tail) fits refl
      ∙ ap (λ toks. verdict A from (st told (after_local h made A.no_locals)) toks) (append_assoc (spell_locals (r ∷ rs)) (right_brace ∷ []) tail)
      ∙ takes_locals h made A.no_locals told (r ∷ rs) from (right_brace ∷ tail) others
      ∙ ap (λ k. verdict A k (st (log_locals A from (r ∷ rs) told) (after_where (with_alt A h made (locals_by A A.no_locals (r ∷ rs))))) tail)
      (sym (past_append at (spell_terms ts) (spell_where (r ∷ rs)) ∙ past_append from (spell_locals (r ∷ rs)) (right_brace ∷ [])))

  takes_alts : (h : Head A) (log : A.Log) (a : AltTree) (rest : List AltTree) (at : ℕ) (more : Toks) → AltFits a → Each AltFits rest
      → verdict A (at + 1) (st log (before_term (global h))) ((spell_alt a ++ spell_alts slash rest) ++ (semicolon ∷ more))
      ≡ verdict A (past (at + 1) (spell_alt a ++ spell_alts slash rest) + 1)
      (st (log_alts A h.alts at (a ∷ rest) log) (between (A.with_rule h.rules h.name (alts_by A h.alts (a ∷ rest))))) more
  takes_alts h log a [] at more fits others =
      let next : Head A = with_alt A h (terms_by A A.no_terms a.terms) (locals_by A A.no_locals a.locals) in
      let told : A.Log = log_alt A (at + 1) a (A.saw_alt h.alts (at + 1) log) in
      ap (λ toks. verdict A (at + 1) (st log (before_term (global h))) toks) (append_assoc (spell_alt a) [] (semicolon ∷ more))
      ∙ takes_alt_of h log a.terms a.locals (at + 1) false more fits.0 fits.1
      ∙ ap (λ k. verdict A (k + 1) (st told (between (A.with_rule next.rules next.name next.alts))) more) (sym (past_append (at + 1) (spell_alt a) []))
  takes_alts h log a (b ∷ rest) at more fits others =
      let next : Head A = with_alt A h (terms_by A A.no_terms a.terms) (locals_by A A.no_locals a.locals) in
      let mid : ℕ = past (at + 1) (spell_alt a) in
      let told : A.Log = log_alt A (at + 1) a (A.saw_alt h.alts (at + 1) log) in
      ap (λ toks. verdict A (at + 1) (st log (before_term (global h))) toks) (append_assoc (spell_alt a) (spell_alts slash (b ∷ rest)) (semicolon ∷ more))
      ∙ takes_alt_of h log a.terms a.locals (at + 1) true ((spell_alt b ++ spell_alts slash rest) ++ (semicolon ∷ more)) fits.0 fits.1
      ∙ takes_alts next told b rest mid more others.0 others.1
      ∙ ap (λ k. verdict A (k + 1) (st (log_alts A next.alts mid (b ∷ rest) told) (between (A.with_rule h.rules h.name (alts_by A next.alts (b ∷ rest))))) more)
      (sym (past_append (at + 1) (spell_alt a) (spell_alts slash (b ∷ rest))))

  takes_rule_of : (done : A.Rules) (log : A.Log) (n : Ident) (alts : List AltTree) (at : ℕ) (more : Toks) → SomeEach AltFits alts
      → verdict A at (st log (between done)) (spell_rule (record { head = n; alts = alts }) ++ more)
      ≡ verdict A (past at (spell_rule (record { head = n; alts = alts })))
      (st (log_alts A A.no_alts (at + 1) alts (A.saw_rule at log)) (between (A.with_rule done n (alts_by A A.no_alts alts)))) more
  takes_rule_of done log n [] at more fits = absurd fits
  takes_rule_of done log n (a ∷ rest) at more fits =
      let body : Toks = spell_alt a ++ spell_alts slash rest in
      let h : Head A = record { rules = done; name = n; alts = A.no_alts } in
      let seen : A.Log = A.saw_rule at log in
      ap (λ toks. verdict A (at + 1 + 1) (st seen (before_term (global h))) toks) (append_assoc body (semicolon ∷ []) more)
      ∙ takes_alts h seen a rest (at + 1) more fits.0 fits.1
      ∙ ap (λ k. verdict A k (st (log_alts A A.no_alts (at + 1) (a ∷ rest) seen) (between (A.with_rule done n (alts_by A A.no_alts (a ∷ rest))))) more)
      (sym (past_append (at + 1 + 1) body (semicolon ∷ [])))

  takes_rules : (done : A.Rules) (log : A.Log) (rs : List RuleTree) (at : ℕ) → Each RuleFits rs
      → verdict A at (st log (between done)) (spell rs) ≡ Ok (record { log = log_rules A at rs log; rules = rules_by A done rs })
  takes_rules done log [] at fits = refl
  takes_rules done log (r ∷ rs) at fits =
      takes_rule_of done log r.head r.alts at (spell rs) fits.0
      ∙ takes_rules (A.with_rule done r.head (alts_by A A.no_alts r.alts)) (log_alts A A.no_alts (at + 1) r.alts (A.saw_rule at log)) rs
      (past at (spell_rule r)) fits.1

  -- a grammar that stands at its levels is taken, and what is made of it is made of its tree
  pub takes : (rs : List RuleTree) → Fits rs
      → verdict A 0 (start_state A) (spell rs) ≡ Ok (record { log = log_rules A 0 rs A.blank; rules = rules_by A A.no_rules rs })
  takes [] fits = absurd fits
  takes (r ∷ rs) fits = takes_rules A.no_rules A.blank (r ∷ rs) 0 fits
