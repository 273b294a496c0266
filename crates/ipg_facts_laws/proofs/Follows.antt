-- A run settles where its calls do and only there, and is what its calls make of it.
use Rattle.std.proofs.Common.{◌≡◌, ℕ, zero, suc, ◌+◌, ℤ, ◌+ℤ◌, ◌-ℤ◌, pos, ap, List, [], ◌∷◌, ◌++◌, Option, Some, None, Result, length}
use Rattle.std.specs.Prelude.{slice_get}
use Rattle.ipg_core.specs.declared.grammar.Sym.{Sym}
use Rattle.ipg_core.specs.declared.grammar.Sym.TheVariants.{Text, Prim, Rule}
use Rattle.ipg_core.specs.declared.grammar.Primitive.{Primitive}
use Rattle.ipg_core.specs.declared.grammar.Primitive.TheVariants.{Bytes}
use Rattle.ipg_core.specs.declared.grammar.CoreExpr.{CoreExpr}
use Rattle.ipg_core.specs.declared.grammar.CoreSlot.{CoreSlot}
use Rattle.ipg_core.specs.declared.grammar.CoreTerm.{CoreTerm}
use Rattle.ipg_core.specs.declared.grammar.CoreTerm.TheVariants.{Slot, Set, Test, Repeat, Many, Pick}
use Rattle.ipg_core.specs.declared.grammar.CoreAlt.{CoreAlt}
use Rattle.ipg_core.specs.declared.grammar.CoreRule.{CoreRule}
use Rattle.ipg_core.specs.Grammar.{Grammar, rule_at, holder_of}
use Rattle.ipg_core.specs.Part.{part, interval}
use Rattle.ipg_core.specs.Tree.{Tree, Kid}
use Rattle.ipg_core.specs.Environment.{Values}
use Rattle.ipg_core.specs.Eval.{is_zero, eval}
use Rattle.ipg_core.specs.Run.{Stop, Asked, Run}
use Rattle.ipg_core.specs.Meaning.{Call, Frame, State, Place, environment, value_in, outer_for, ask, token_on, number_on, primitive_on, symbol_on}
use Rattle.ipg_core.specs.Meaning.{slot_on, items_on, times, item_end, item_on, many_on, turns, repetition_on, pick_on, term_on, terms_on, start}
use Rattle.ipg_core.specs.Meaning.{alt_on, alts_on, rule_run, rule_on}
use Rattle.ipg_facts_laws.proofs.Settled.{Settled, Follows, follows_finish, follows_none, follows_value, follows_some, follows_chosen, follows_bind}
use Rattle.ipg_facts_laws.proofs.Settled.{follows_else, follows_kept}

-- what a logged call on these bytes answers
abbrev pub reply : Call → List ℕ → Asked → Result Tree Stop
reply call bytes asked = call asked.callee (part bytes asked.from asked.to) asked.outer

abbrev pub Settles : Call → List ℕ → Asked → Type 0
Settles call bytes asked = Settled (reply call bytes asked)

abbrev pub Agrees : Call → Call → List ℕ → Asked → Type 0
Agrees call other bytes asked = reply other bytes asked ≡ reply call bytes asked

module _ (call other : Call) (f : Frame) where
  abbrev On : {A : Type 0} → Run A → Run A → Type 0
  On run again = Follows (Settles call f.bytes) (Agrees call other f.bytes) run again

  value_follows : (state : State) (item : Option ℤ) (e : CoreExpr) → On (value_in f state item e) (value_in f state item e)
  unfolding value_in
  value_follows state item e = follows_value (eval e (environment f state item))

  ask_follows : (p : Place) (callee from to : ℕ) (outer : Values) → On (ask call f p callee from to outer) (ask other f p callee from to outer)
  unfolding ask
  ask_follows p callee from to outer = record {
    settles = λ h. h.0;
    each = λ h. (h, tt);
    same = λ h. ap (λ answer. record (ask call f p callee from to outer) { answer = answer }) h.0;
  }

  token_follows : (from to : ℕ) (bytes token : List ℕ) → On (token_on from to bytes token) (token_on from to bytes token)
  unfolding token_on
  token_follows from to bytes token = follows_chosen _ _ _ _ _ (follows_finish _) follows_none

  number_follows : (from to : ℕ) (bytes : List ℕ) (prim : Primitive) → On (number_on from to bytes prim) (number_on from to bytes prim)
  unfolding number_on
  number_follows from to bytes prim = follows_chosen _ _ _ _ _ follows_none (follows_finish _)

  primitive_follows : (from to : ℕ) (bytes : List ℕ) (prim : Primitive) → On (primitive_on from to bytes prim) (primitive_on from to bytes prim)
  primitive_follows from to bytes Bytes = follows_finish _
  primitive_follows from to bytes prim = number_follows from to bytes prim

  symbol_follows : (p : Place) (own : Values) (from to : ℕ) (sym : Sym) → On (symbol_on call f p own from to sym) (symbol_on other f p own from to sym)
  symbol_follows p own from to (Text token) = token_follows from to _ token
  symbol_follows p own from to (Prim prim) = primitive_follows from to _ prim
  symbol_follows p own from to (Rule callee) =
      follows_bind _ _ _ _ (ask_follows p callee from to (outer_for f own (holder_of (rule_at f.grammar callee)))) (λ tree. follows_finish _)

  slot_follows : (p : Place) (state : State) (item : Option ℤ) (slot : CoreSlot) → On (slot_on call f p state item slot) (slot_on other f p state item slot)
  unfolding slot_on
  slot_follows p state item slot =
      follows_bind _ _ _ _ (value_follows state item slot.from) (λ from.
      follows_bind _ _ _ _ (value_follows state item slot.to) (λ to.
      follows_bind _ _ _ _ (follows_some (interval (length f.bytes) from to)) (λ ends.
      symbol_follows p state.own ends.0 ends.1 slot.sym)))

  items_follow : (term : ℕ) (state : State) (slot : CoreSlot) (n : ℕ) (i : ℤ) (items : List Kid)
      → On (items_on call f term state slot n i items) (items_on other f term state slot n i items)
  unfolding items_on
  items_follow term state slot zero i items = follows_finish items
  items_follow term state slot (suc n) i items =
      follows_bind _ _ _ _ (slot_follows _ _ (Some i) slot) (λ item. items_follow term state slot n (i +ℤ pos 1) (items ++ item ∷ []))

  pick_follows : (p : Place) (state : State) (cases : List (CoreExpr × CoreSlot)) (other_case : CoreSlot)
      → On (pick_on call f p state cases other_case) (pick_on other f p state cases other_case)
  unfolding pick_on
  pick_follows p state [] other_case = slot_follows p state None other_case
  pick_follows p state (c ∷ cases) other_case =
      follows_bind _ _ _ _ (value_follows state None c.0) (λ x.
      follows_chosen (is_zero x) _ _ _ _ (pick_follows (record p { branch = p.branch + 1 }) state cases other_case) (slot_follows p state None c.1))

  item_follows : (p : Place) (own : Values) (from to : ℕ) (sym : Sym) → On (item_on call f p own from to sym) (item_on other f p own from to sym)
  unfolding item_on
  item_follows p own from to sym = follows_bind _ _ _ _ (follows_some (item_end from to sym)) (λ end. symbol_follows p own from end sym)

  many_follows : (p : Place) (own : Values) (sym : Sym) (n from to : ℕ) (items : List Kid)
      → On (many_on call f p own sym n from to items) (many_on other f p own sym n from to items)
  unfolding many_on
  many_follows p own sym zero from to items = follows_finish items
  many_follows p own sym (suc n) from to items =
      follows_kept _ _ items _ _ (item_follows p own from to sym) (λ end more. many_follows p own sym n end to more)

  repetition_follows : (p : Place) (state : State) (slot : CoreSlot) → On (repetition_on call f p state slot) (repetition_on other f p state slot)
  unfolding repetition_on
  repetition_follows p state slot =
      follows_bind _ _ _ _ (value_follows state None slot.from) (λ l.
      follows_bind _ _ _ _ (value_follows state None slot.to) (λ r.
      follows_bind _ _ _ _ (follows_some (interval (length f.bytes) l r)) (λ ends.
      many_follows p state.own slot.sym (turns ends.0 ends.1) ends.0 ends.1 [])))

  term_follows : (state : State) (u : ℕ) (term : Option CoreTerm) → On (term_on call f state u term) (term_on other f state u term)
  term_follows state u None = follows_none
  term_follows state u (Some (Slot slot)) = follows_bind _ _ _ _ (slot_follows _ state None slot) (λ kid. follows_finish _)
  term_follows state u (Some (Set attr e)) = follows_bind _ _ _ _ (value_follows state None e) (λ z. follows_finish _)
  term_follows state u (Some (Test e)) =
      follows_bind _ _ _ _ (value_follows state None e) (λ z. follows_chosen (is_zero z) _ _ _ _ follows_none (follows_finish _))
  term_follows state u (Some (Repeat first last sym from to)) =
      follows_bind _ _ _ _ (value_follows state None first) (λ a.
      follows_bind _ _ _ _ (value_follows state None last) (λ b.
      follows_bind _ _ _ _ (items_follow u state (record { sym = sym; from = from; to = to }) (times (b -ℤ a)) a []) (λ items. follows_finish _)))
  term_follows state u (Some (Many sym from to)) = follows_bind _ _ _ _ (repetition_follows _ state _) (λ items. follows_finish _)
  term_follows state u (Some (Pick cases other_case)) = follows_bind _ _ _ _ (pick_follows _ state cases other_case) (λ kid. follows_finish _)

  terms_follow : (terms : List CoreTerm) (order : List ℕ) (state : State) → On (terms_on call f terms order state) (terms_on other f terms order state)
  unfolding terms_on
  terms_follow terms [] state = follows_finish state
  terms_follow terms (u ∷ order) state = follows_bind _ _ _ _ (term_follows state u (slice_get terms u)) (λ next. terms_follow terms order next)

  alt_follows : (alt : CoreAlt) → On (alt_on call f alt) (alt_on other f alt)
  unfolding alt_on
  alt_follows alt = follows_bind _ _ _ _ (terms_follow alt.terms alt.order (start (length alt.terms))) (λ state. follows_finish _)

alts_follow : (call other : Call) (f : Frame) (alts : List CoreAlt) → On call other f (alts_on call f alts) (alts_on other f alts)
unfolding alts_on
alts_follow call other f [] = follows_none
alts_follow call other f (alt ∷ alts) =
    follows_else _ _ _ _ (alt_follows call other f alt) (alts_follow call other (record f { alt = f.alt + 1 }) alts)

rule_follows : (call other : Call) (f : Frame) (rule : Option CoreRule) → On call other f (rule_run call f rule) (rule_run other f rule)
rule_follows call other f None = follows_none
rule_follows call other f (Some rule) = alts_follow call other f rule.alts

-- a rule on a part
pub on_follows : (call other : Call) (g : Grammar) (r : ℕ) (s : List ℕ) (outer : Values)
    → Follows (Settles call s) (Agrees call other s) (rule_on call g r s outer) (rule_on other g r s outer)
unfolding rule_on
on_follows call other g r s outer = rule_follows call other (record { grammar = g; rule = r; alt = 0; bytes = s; outer = outer }) (rule_at g r)
