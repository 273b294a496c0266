-- Tables that stand for a good grammar stand for no other: what stands for two things, of any kind, makes them one.
use Rattle.std.proofs.Common.{◌≡◌, ℕ, zero, suc, ◌<◌, List, [], ◌∷◌, length, refl, sym, ap, ◌∙◌, subst, arith, Bool, true, false, ◌⊎◌, inl, inr, true≢false}
use Rattle.std.specs.Prelude.{Option, Some, slice_get, nat_eq, ◌||◌}
use Rattle.std.specs.List.{AllByRecursion}
use Rattle.std.proofs.lemmas.Bool.Decides.{nat_tests}
use Rattle.ipg_core.specs.declared.grammar.Sym.{Sym}
use Rattle.ipg_core.specs.declared.grammar.CoreExpr.{CoreExpr}
use Rattle.ipg_core.specs.declared.grammar.CoreSlot.{CoreSlot}
use Rattle.ipg_core.specs.declared.grammar.CoreTerm.{CoreTerm}
use Rattle.ipg_core.specs.declared.grammar.CoreTerm.TheVariants as core
use Rattle.ipg_core.specs.declared.grammar.CoreAlt.{CoreAlt}
use Rattle.ipg_core.specs.declared.grammar.CoreRule.{CoreRule}
use Rattle.ipg_core.specs.Grammar.{Grammar}
use Rattle.ipg_core.specs.Order.{is_taken, InOrder, Provides}
use Rattle.ipg_core.specs.Good.{Good}
use Rattle.ipg_table.specs.declared.row.RowSpan.{RowSpan}
use Rattle.ipg_table.specs.declared.row.SlotRow.{SlotRow}
use Rattle.ipg_table.specs.declared.row.CaseRow.{CaseRow}
use Rattle.ipg_table.specs.declared.row.Action.{Action}
use Rattle.ipg_table.specs.declared.row.Action.TheVariants.{Slot, Set, Test, Repeat, Many, Pick}
use Rattle.ipg_table.specs.declared.row.Instr.{Instr}
use Rattle.ipg_table.specs.declared.row.AltRow.{AltRow}
use Rattle.ipg_table.specs.declared.row.RuleRow.{RuleRow}
use Rattle.ipg_table.specs.Rows.{Rows, rows_at, Each, Stands, HoldsExpr, HoldsSlot, HoldsCase, HoldsTerm, HoldsInstr, HoldsAlt, HoldsRule}
use Rattle.ipg_table.specs.Laws.{OneGrammar}
use Rattle.ipg_table.proofs.Compiled.{at_each}
use Rattle.ipg_table.proofs.Decoded.{same_code}

-- rows that stand for two lists, one of things that meet P: where each row stands for no more than one such thing, the lists are one
same_where : {A B : Type 0} (P : B → Type 0) (R Q : A → B → Type 0) (xs : List A) (ys zs : List B) → ((x : A) (y z : B) → P y → R x y → Q x z → y ≡ z)
    → AllByRecursion P ys → Each R xs ys → Each Q xs zs → ys ≡ zs
same_where P R Q [] [] [] one p h k = refl
same_where P R Q [] [] (z ∷ zs) one p h k = absurd k
same_where P R Q [] (y ∷ ys) zs one p h k = absurd h
same_where P R Q (x ∷ xs) [] zs one p h k = absurd h
same_where P R Q (x ∷ xs) (y ∷ ys) [] one p h k = absurd k
same_where P R Q (x ∷ xs) (y ∷ ys) (z ∷ zs) one p h k =
    ap (λ w. w ∷ ys) (one x y z p.0 h.0 k.0) ∙ ap (λ ws. z ∷ ws) (same_where P R Q xs ys zs one p.1 h.1 k.1)

same_each : {A B : Type 0} (R Q : A → B → Type 0) (xs : List A) (ys zs : List B) → ((x : A) (y z : B) → R x y → Q x z → y ≡ z)
    → Each R xs ys → Each Q xs zs → ys ≡ zs
same_each R Q xs ys zs one h k =
    same_where (λ y. Unit {0}) R Q xs ys zs (λ x y z p a b. one x y z a b) (at_each (λ y. Unit {0}) ys (λ i y e. tt)) h k

same_list : {X : Type 0} (xs ys : List X) → length xs ≡ length ys → ((u : ℕ) → u < length xs → slice_get xs u ≡ slice_get ys u) → xs ≡ ys
same_list [] [] e h = refl
same_list [] (y ∷ ys) e h = absurd (cc)
same_list (x ∷ xs) [] e h = absurd (cc)
same_list (x ∷ xs) (y ∷ ys) e h =
    let lengths : length xs ≡ length ys = cc in
    let first : Some x ≡ Some y = h zero (omega arith) in
    let same : x ≡ y = cc in
    ap (λ w. w ∷ xs) same ∙ ap (λ ws. y ∷ ws) (same_list xs ys lengths (λ u below. h (suc u) (omega arith)))

abbrev slot_of : Sym → CoreExpr → CoreExpr → CoreSlot
slot_of s from to = record { sym = s; from = from; to = to }

abbrev repeat_of : CoreExpr → CoreExpr → CoreSlot → CoreTerm
repeat_of first last slot = core.Repeat first last slot.sym slot.from slot.to

abbrev many_of : CoreSlot → CoreTerm
many_of slot = core.Many slot.sym slot.from slot.to

abbrev rule_of : List ℕ → Option (ℕ × ℕ) → List CoreAlt → CoreRule
rule_of name holder alts = record { name = name; holder = holder; alts = alts }

abbrev alt_of : List CoreTerm → List ℕ → CoreAlt
alt_of terms order = record { terms = terms; order = order }

abbrev grammar_of : List CoreRule → List (List ℕ) → Grammar
grammar_of rules names = record { rules = rules; names = names }

-- an alternative runs each of its terms
abbrev RunsAll : CoreAlt → Type 0
RunsAll alt = (u : ℕ) → u < length alt.terms → is_taken alt.order u ≡ true

abbrev AllRun : CoreRule → Type 0
AllRun rule = AllByRecursion RunsAll rule.alts

module _ (t : Rows) where
  same_expr : (s : RowSpan) (e f : CoreExpr) → HoldsExpr t s e → HoldsExpr t s f → e ≡ f
  same_expr s e f h k = same_code e f (sym h.rows.is ∙ k.rows.is)

  same_slot : (row : SlotRow) (a b : CoreSlot) → HoldsSlot t row a → HoldsSlot t row b → a ≡ b
  same_slot row a b h k =
      let both : Some a.sym ≡ Some b.sym = sym h.sym ∙ k.sym in
      let syms : a.sym ≡ b.sym = cc in
      ap (λ s. slot_of s a.from a.to) syms
      ∙ ap (λ from. slot_of b.sym from a.to) (same_expr row.from a.from b.from h.from k.from)
      ∙ ap (λ to. slot_of b.sym b.from to) (same_expr row.to a.to b.to h.to k.to)

  same_case : (row : CaseRow) (a b : CoreExpr × CoreSlot) → HoldsCase t row a → HoldsCase t row b → a ≡ b
  same_case row a b h k =
      let conds : a.0 ≡ b.0 = same_expr row.cond a.0 b.0 h.cond k.cond in
      let slots : a.1 ≡ b.1 = same_slot row.slot a.1 b.1 h.slot k.slot in
      let first : (a.0, a.1) ≡ (b.0, a.1) = ap (λ (e : CoreExpr). (e, a.1)) conds in
      let second : (b.0, a.1) ≡ (b.0, b.1) = ap (λ (s : CoreSlot). (b.0, s)) slots in
      first ∙ second

  same_term : (action : Action) (a b : CoreTerm) → HoldsTerm t action a → HoldsTerm t action b → a ≡ b
  same_term (Slot row) a b h k = h.1 ∙ ap core.Slot (same_slot row h.0 k.0 h.2 k.2) ∙ sym k.1
  same_term (Set attr value) a b h k = h.1 ∙ ap (core.Set attr) (same_expr value h.0 k.0 h.2 k.2) ∙ sym k.1
  same_term (Test cond) a b h k = h.1 ∙ ap core.Test (same_expr cond h.0 k.0 h.2 k.2) ∙ sym k.1
  same_term (Repeat first last item) a b h k =
      h.3
      ∙ ap (λ e. repeat_of e h.1 h.2) (same_expr first h.0 k.0 h.4 k.4)
      ∙ ap (λ e. repeat_of k.0 e h.2) (same_expr last h.1 k.1 h.5 k.5)
      ∙ ap (repeat_of k.0 k.1) (same_slot item h.2 k.2 h.6 k.6)
      ∙ sym k.3
  same_term (Many item) a b h k = h.1 ∙ ap many_of (same_slot item h.0 k.0 h.2 k.2) ∙ sym k.1
  same_term (Pick cases other) a b h k =
      h.2
      ∙ ap (λ branches. core.Pick branches h.1) (same_each (HoldsCase t) (HoldsCase t) (rows_at t.cases cases) h.0 k.0 same_case h.3.each k.3.each)
      ∙ ap (core.Pick k.0) (same_slot other h.1 k.1 h.4 k.4)
      ∙ sym k.2

  -- one instruction, in two alternatives
  module _ (one other : List CoreTerm) where
    same_number : (row : Instr) (u v : ℕ) → HoldsInstr t one row u → HoldsInstr t other row v → u ≡ v
    same_number row u v a b = sym a.number ∙ b.number

    same_there : (row : Instr) (u v : ℕ) → HoldsInstr t one row u → HoldsInstr t other row v → slice_get one u ≡ slice_get other u
    same_there row u v a b =
        a.is_term ∙ ap Some (same_term row.action a.term b.term a.holds b.holds) ∙ sym b.is_term
        ∙ ap (slice_get other) (sym (same_number row u v a b))

    first_or_later : (x u : ℕ) (xs : List ℕ) (b : Bool) → nat_eq x u ≡ b → (b || is_taken xs u) ≡ true → (x ≡ u) ⊎ (is_taken xs u ≡ true)
    first_or_later x u xs true e h = inl (grind (arith, nat_tests))
    first_or_later x u xs false e h = inr h

    same_at : (rows : List Instr) (xs ys : List ℕ) → Each (HoldsInstr t one) rows xs → Each (HoldsInstr t other) rows ys
        → (u : ℕ) → is_taken xs u ≡ true → slice_get one u ≡ slice_get other u
    same_at [] [] ys h k u taken = absurd (cc)
    same_at [] (x ∷ xs) ys h k u taken = absurd h
    same_at (row ∷ rows) [] ys h k u taken = absurd h
    same_at (row ∷ rows) (x ∷ xs) [] h k u taken = absurd k
    same_at (row ∷ rows) (x ∷ xs) (y ∷ ys) h k u taken =
        elim (first_or_later x u xs (nat_eq x u) refl taken) [
          | inl e ↦ subst (λ v. slice_get one v ≡ slice_get other v) e (same_there row x y h.0 k.0)
          | inr later ↦ same_at rows xs ys h.1 k.1 u later
        ]

  same_alt : (row : AltRow) (a b : CoreAlt) → RunsAll a → HoldsAlt t row a → HoldsAlt t row b → a ≡ b
  same_alt row a b runs h k =
      let rows = rows_at t.instrs row.instrs in
      let orders : a.order ≡ b.order =
      same_each (HoldsInstr t a.terms) (HoldsInstr t b.terms) rows a.order b.order (same_number a.terms b.terms) h.instrs.each k.instrs.each
      in
      let terms : a.terms ≡ b.terms =
      same_list a.terms b.terms (sym h.terms ∙ k.terms) (λ u below.
      same_at a.terms b.terms rows a.order b.order h.instrs.each k.instrs.each u (runs u below))
      in
      ap (λ ts. alt_of ts a.order) terms ∙ ap (alt_of b.terms) orders

  same_rule : (row : RuleRow) (a b : CoreRule) → AllRun a → HoldsRule t row a → HoldsRule t row b → a ≡ b
  same_rule row a b runs h k =
      ap (λ name. rule_of name a.holder a.alts) (sym h.name.is ∙ k.name.is)
      ∙ ap (λ holder. rule_of b.name holder a.alts) (sym h.holder ∙ k.holder)
      ∙ ap (rule_of b.name b.holder)
      (same_where RunsAll (HoldsAlt t) (HoldsAlt t) (rows_at t.alts row.alts) a.alts b.alts same_alt runs h.alts.each k.alts.each)

-- an order that goes on until all terms are taken has each that wasn't taken before
later_too : (u : ℕ) (taken order : List ℕ) (b : Bool) → ((b || is_taken taken u) ≡ true) ⊎ (is_taken order u ≡ true)
    → (is_taken taken u ≡ true) ⊎ ((b || is_taken order u) ≡ true)
later_too u taken order true s = inr refl
later_too u taken order false s = s

has_each : (provides : ℕ → ℕ → Type 0) (n : ℕ) (taken order : List ℕ) → InOrder provides n taken order
    → (u : ℕ) → u < n → (is_taken taken u ≡ true) ⊎ (is_taken order u ≡ true)
has_each provides n taken [] h u below = inl (h u below)
has_each provides n taken (v ∷ order) h u below = later_too u taken order (nat_eq v u) (has_each provides n (v ∷ taken) order h.1 u below)

runs_all : (provides : ℕ → ℕ → Type 0) (alt : CoreAlt) → InOrder provides (length alt.terms) [] alt.order → RunsAll alt
runs_all provides alt h u below =
    elim (has_each provides (length alt.terms) [] alt.order h u below) [ inl e ↦ absurd (true≢false (sym e)) | inr e ↦ e ]

good_runs : (g : Grammar) → Good g → AllByRecursion AllRun g.rules
good_runs g good = at_each AllRun g.rules (λ r rule is_rule.
    at_each RunsAll rule.alts (λ a alt is_alt.
    runs_all (Provides g (r, a) alt.terms) alt (good.ordered (r, a) rule alt (record { is_rule = is_rule; is_alt = is_alt }))))

pub one_grammar : OneGrammar
one_grammar t g h good s k =
    ap (λ rules. grammar_of rules g.names)
    (same_where AllRun (HoldsRule t) (HoldsRule t) t.rules g.rules h.rules (same_rule t) (good_runs g good) s.rules k.rules)
    ∙ ap (grammar_of h.rules)
    (same_each (Stands t.bytes) (Stands t.bytes) t.names g.names h.names (λ row a b x y. sym x.is ∙ y.is) s.names k.names)
