-- A larger height gives the same answer: each part of the evaluator agrees where its calls do.
use Rattle.std.proofs.Common.{◌≡◌, ℕ, zero, suc, ◌+◌, ◌≤◌, ℤ, ◌+ℤ◌, ◌-ℤ◌, pos, refl, ap, arith, List, []}
use Rattle.std.proofs.Common.{◌∷◌, ◌++◌, Option, Some, None, Bool, true, false, if◌then◌else◌, length}
use Rattle.std.specs.Prelude.{slice_get}
use Rattle.ipg_core.specs.declared.grammar.Sym.{Sym}
use Rattle.ipg_core.specs.declared.grammar.Sym.TheVariants.{Text, Prim, Rule}
use Rattle.ipg_core.specs.declared.grammar.CoreExpr.{CoreExpr}
use Rattle.ipg_core.specs.declared.grammar.CoreSlot.{CoreSlot}
use Rattle.ipg_core.specs.declared.grammar.CoreTerm.{CoreTerm}
use Rattle.ipg_core.specs.declared.grammar.CoreTerm.TheVariants.{Slot, Set, Test, Repeat, Many, Pick}
use Rattle.ipg_core.specs.declared.grammar.CoreAlt.{CoreAlt}
use Rattle.ipg_core.specs.declared.grammar.CoreRule.{CoreRule}
use Rattle.ipg_core.specs.Grammar.{Grammar, rule_at, holder_of}
use Rattle.ipg_core.specs.Part.{part, interval}
use Rattle.ipg_core.specs.Tree.{Kid}
use Rattle.ipg_core.specs.Environment.{Values}
use Rattle.ipg_core.specs.Eval.{is_zero}
use Rattle.ipg_core.specs.Run.{Run, some_of}
use Rattle.ipg_core.specs.Meaning.{Call, Frame, State, Place, value_in, outer_for, ask, symbol_on, slot_on, items_on, times, item_end, item_on}
use Rattle.ipg_core.specs.Meaning.{many_on, turns, repetition_on, pick_on, term_on, terms_on, start, alt_on, alts_on, rule_run, rule_on, den}
use Rattle.ipg_core.specs.Laws.{HeightsAgree}
use Rattle.ipg_core.proofs.Settled.{Settled, Agree, agree_refl, agree_bind, agree_else, agree_kept}

-- the second answers as the first wherever that settles
pub record CallsAgree (call call' : Call) : Type 0 where
  pub agree : (r : ℕ) (s : List ℕ) (outer : Values) → Settled (call r s outer) → call' r s outer ≡ call r s outer

module _ (call call' : Call) (calls : CallsAgree call call') (f : Frame) where
  ask_agrees : (p : Place) (callee from to : ℕ) (outer : Values) → Agree (ask call f p callee from to outer) (ask call' f p callee from to outer)
  unfolding ask
  ask_agrees p callee from to outer =
      record { agree = λ s. ap (λ answer. record (ask call f p callee from to outer) { answer = answer }) (calls.agree callee (part f.bytes from to) outer s) }

  symbol_agrees : (p : Place) (own : Values) (from to : ℕ) (sym : Sym) → Agree (symbol_on call f p own from to sym) (symbol_on call' f p own from to sym)
  symbol_agrees p own from to (Text token) = agree_refl _
  symbol_agrees p own from to (Prim prim) = agree_refl _
  symbol_agrees p own from to (Rule callee) =
      agree_bind (ask_agrees p callee from to (outer_for f own (holder_of (rule_at f.grammar callee)))) (λ tree. agree_refl _)

  slot_agrees : (p : Place) (state : State) (item : Option ℤ) (slot : CoreSlot) → Agree (slot_on call f p state item slot) (slot_on call' f p state item slot)
  unfolding slot_on
  slot_agrees p state item slot =
      agree_bind (agree_refl (value_in f state item slot.from)) (λ from.
      agree_bind (agree_refl (value_in f state item slot.to)) (λ to.
      agree_bind (agree_refl (some_of (interval (length f.bytes) from to))) (λ ends.
      symbol_agrees p state.own ends.0 ends.1 slot.sym)))

  items_agree : (term : ℕ) (state : State) (slot : CoreSlot) (n : ℕ) (i : ℤ) (items : List Kid)
      → Agree (items_on call f term state slot n i items) (items_on call' f term state slot n i items)
  unfolding items_on
  items_agree term state slot zero i items = agree_refl _
  items_agree term state slot (suc n) i items =
      agree_bind (slot_agrees _ _ (Some i) slot) (λ item. items_agree term state slot n (i +ℤ pos 1) (items ++ item ∷ []))

  chosen_agrees : {A : Type 0} (b : Bool) (x x' y y' : Run A) → Agree x x' → Agree y y' → Agree (if b then x else y) (if b then x' else y')
  chosen_agrees true x x' y y' h k = h
  chosen_agrees false x x' y y' h k = k

  pick_agrees : (p : Place) (state : State) (cases : List (CoreExpr × CoreSlot)) (other : CoreSlot)
      → Agree (pick_on call f p state cases other) (pick_on call' f p state cases other)
  unfolding pick_on
  pick_agrees p state [] other = slot_agrees p state None other
  pick_agrees p state (c ∷ cases) other =
      agree_bind (agree_refl (value_in f state None c.0)) (λ x.
      chosen_agrees (is_zero x) _ _ _ _ (pick_agrees (record p { branch = p.branch + 1 }) state cases other) (slot_agrees p state None c.1))

  item_agrees : (p : Place) (own : Values) (from to : ℕ) (sym : Sym) → Agree (item_on call f p own from to sym) (item_on call' f p own from to sym)
  unfolding item_on
  item_agrees p own from to sym = agree_bind (agree_refl (some_of (item_end from to sym))) (λ end. symbol_agrees p own from end sym)

  many_agrees : (p : Place) (own : Values) (sym : Sym) (n from to : ℕ) (items : List Kid)
      → Agree (many_on call f p own sym n from to items) (many_on call' f p own sym n from to items)
  unfolding many_on
  many_agrees p own sym zero from to items = agree_refl _
  many_agrees p own sym (suc n) from to items =
      agree_kept (item_agrees p own from to sym) items (λ end more. many_agrees p own sym n end to more)

  repetition_agrees : (p : Place) (state : State) (slot : CoreSlot) → Agree (repetition_on call f p state slot) (repetition_on call' f p state slot)
  unfolding repetition_on
  repetition_agrees p state slot =
      agree_bind (agree_refl (value_in f state None slot.from)) (λ l.
      agree_bind (agree_refl (value_in f state None slot.to)) (λ r.
      agree_bind (agree_refl (some_of (interval (length f.bytes) l r))) (λ ends.
      many_agrees p state.own slot.sym (turns ends.0 ends.1) ends.0 ends.1 [])))

  term_agrees : (state : State) (u : ℕ) (term : Option CoreTerm) → Agree (term_on call f state u term) (term_on call' f state u term)
  term_agrees state u None = agree_refl _
  term_agrees state u (Some (Slot slot)) = agree_bind (slot_agrees _ state None slot) (λ kid. agree_refl _)
  term_agrees state u (Some (Set attr e)) = agree_refl _
  term_agrees state u (Some (Test e)) = agree_refl _
  term_agrees state u (Some (Repeat first last sym from to)) =
      agree_bind (agree_refl (value_in f state None first)) (λ a.
      agree_bind (agree_refl (value_in f state None last)) (λ b.
      agree_bind (items_agree u state _ (times (b -ℤ a)) a []) (λ items. agree_refl _)))
  term_agrees state u (Some (Many sym from to)) = agree_bind (repetition_agrees _ state _) (λ items. agree_refl _)
  term_agrees state u (Some (Pick cases other)) = agree_bind (pick_agrees _ state cases other) (λ kid. agree_refl _)

  terms_agree : (terms : List CoreTerm) (order : List ℕ) (state : State) → Agree (terms_on call f terms order state) (terms_on call' f terms order state)
  unfolding terms_on
  terms_agree terms [] state = agree_refl _
  terms_agree terms (u ∷ order) state = agree_bind (term_agrees state u (slice_get terms u)) (λ next. terms_agree terms order next)

  alt_agrees : (alt : CoreAlt) → Agree (alt_on call f alt) (alt_on call' f alt)
  unfolding alt_on
  alt_agrees alt = agree_bind (terms_agree alt.terms alt.order (start (length alt.terms))) (λ state. agree_refl _)

alts_agree : (call call' : Call) → CallsAgree call call' → (f : Frame) (alts : List CoreAlt) → Agree (alts_on call f alts) (alts_on call' f alts)
unfolding alts_on
alts_agree call call' calls f [] = agree_refl _
alts_agree call call' calls f (alt ∷ alts) = agree_else (alt_agrees call call' calls f alt) (alts_agree call call' calls (record f { alt = f.alt + 1 }) alts)

rule_agrees : (call call' : Call) → CallsAgree call call' → (f : Frame) (rule : Option CoreRule) → Agree (rule_run call f rule) (rule_run call' f rule)
rule_agrees call call' calls f None = agree_refl _
rule_agrees call call' calls f (Some rule) = alts_agree call call' calls f rule.alts

heights : (g : Grammar) (low high : ℕ) → low ≤ high → CallsAgree (den g low) (den g high)
unfolding den rule_on
heights g zero high h = record { agree = λ r s outer settled. absurd (settled.not_deep refl) }
heights g (suc low) zero h = absurd (omega arith)
heights g (suc low) (suc high) h = record {
  agree = λ r s outer settled. ap (λ (run : Run _). run.answer)
      ((rule_agrees (den g low) (den g high) (heights g low high (omega arith)) (record { grammar = g; rule = r; alt = 0; bytes = s; outer = outer })
      (rule_at g r)).agree settled);
}

pub heights_agree : HeightsAgree
heights_agree g low high r s outer le settled = (heights g low high le).agree r s outer (record { not_deep = settled })
