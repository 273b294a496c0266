-- What stands in tables stands in those that grew out of them.
use Rattle.std.proofs.Common.{◌≡◌, ℕ, zero, suc, ◌+◌, ◌≤◌, ◌<◌, List, [], ◌∷◌, ◌++◌, length, take, drop, refl, sym, ap, subst, ◌∙◌, arith}
use Rattle.std.proofs.Common.{append_assoc, append-nil, le_trans, le_refl, Some, Result, Ok, Err, OnOk, IfOk, slice_get, get_or}
use Rattle.std.proofs.Math.Seq.{drop-append_seam, take-length, take-suc}
use Rattle.std.proofs.lemmas.List.{length-append, length-drop, take-append-le, take_all, drop-append-le, get_or_append_left}
use Rattle.std.proofs.lemmas.Option.{slice_get_within, slice_get-get_or, get_or_from_slice_get}
use Rattle.ipg_core.specs.declared.grammar.CoreExpr.{CoreExpr}
use Rattle.ipg_core.specs.declared.grammar.CoreSlot.{CoreSlot}
use Rattle.ipg_core.specs.declared.grammar.CoreTerm.{CoreTerm}
use Rattle.ipg_core.specs.declared.grammar.CoreAlt.{CoreAlt}
use Rattle.ipg_core.specs.declared.grammar.CoreRule.{CoreRule}
use Rattle.ipg_table.specs.declared.row.RowSpan.{RowSpan}
use Rattle.ipg_table.specs.declared.row.SlotRow.{SlotRow}
use Rattle.ipg_table.specs.declared.row.CaseRow.{CaseRow}
use Rattle.ipg_table.specs.declared.row.Action.{Action}
use Rattle.ipg_table.specs.declared.row.Action.TheVariants.{Slot, Set, Test, Repeat, Many, Pick}
use Rattle.ipg_table.specs.declared.row.Instr.{Instr}
use Rattle.ipg_table.specs.declared.row.AltRow.{AltRow}
use Rattle.ipg_table.specs.declared.row.RuleRow.{RuleRow}
use Rattle.ipg_table.specs.Rows.{Rows, rows_at, Stands, Each, StandsEach, HoldsExpr, HoldsSlot, HoldsCase, HoldsTerm, HoldsInstr, HoldsAlt, HoldsRule}
use Rattle.ipg_table.specs.Grows.{Begins, Grows}

pub begins_refl : {A : Type 0} (xs : List A) → Begins xs xs
begins_refl xs = ([], sym (append-nil xs))

pub begins_trans : {A : Type 0} (xs ys zs : List A) → Begins xs ys → Begins ys zs → Begins xs zs
begins_trans xs ys zs b c = (b.0 ++ c.0, c.1 ∙ ap (λ l. l ++ c.0) b.1 ∙ append_assoc xs b.0 c.0)

pub grows_refl : (t : Rows) → Grows t t
grows_refl t = record {
  alts = begins_refl t.alts;
  instrs = begins_refl t.instrs;
  cases = begins_refl t.cases;
  ops = begins_refl t.ops;
  sets = begins_refl t.sets;
  syms = begins_refl t.syms;
  bytes = begins_refl t.bytes;
  depth = le_refl t.depth;
}

pub grows_trans : (t u v : Rows) → Grows t u → Grows u v → Grows t v
grows_trans t u v g h = record {
  alts = begins_trans t.alts u.alts v.alts g.alts h.alts;
  instrs = begins_trans t.instrs u.instrs v.instrs g.instrs h.instrs;
  cases = begins_trans t.cases u.cases v.cases g.cases h.cases;
  ops = begins_trans t.ops u.ops v.ops g.ops h.ops;
  sets = begins_trans t.sets u.sets v.sets g.sets h.sets;
  syms = begins_trans t.syms u.syms v.syms g.syms h.syms;
  bytes = begins_trans t.bytes u.bytes v.bytes g.bytes h.bytes;
  depth = le_trans g.depth h.depth;
}

rows_grow : {A : Type 0} (xs more : List A) (s : RowSpan) → s.from + s.count ≤ length xs → rows_at (xs ++ more) s ≡ rows_at xs s
rows_grow xs more s h =
    let f : s.from ≤ length xs = omega arith in
    let c : s.count ≤ length (drop s.from xs) = omega (arith, length-drop s.from xs) in
    ap (take s.count) (drop-append-le s.from xs more f) ∙ take-append-le s.count (drop s.from xs) more c

inside_grows : {A : Type 0} (xs more : List A) (n : ℕ) → n ≤ length xs → n ≤ length (xs ++ more)
inside_grows xs more n h = omega (arith, length-append xs more)

pub stand_grow : {A : Type 0} (xs ys zs : List A) (s : RowSpan) → Begins xs ys → Stands xs s zs → Stands ys s zs
stand_grow xs ys zs s b h = record {
  is = ap (λ l. rows_at l s) b.1 ∙ rows_grow xs b.0 s h.inside ∙ h.is;
  inside = subst (λ l. s.from + s.count ≤ length l) (sym b.1) (inside_grows xs b.0 (s.from + s.count) h.inside);
}

pub each_map : {A B : Type 0} (R Q : A → B → Type 0) → ((x : A) (y : B) → R x y → Q x y) → (xs : List A) (ys : List B) → Each R xs ys → Each Q xs ys
each_map R Q f [] [] h = tt
each_map R Q f (x ∷ xs) (y ∷ ys) h = (f x y h.0, each_map R Q f xs ys h.1)
each_map R Q f [] (y ∷ ys) h = h
each_map R Q f (x ∷ xs) [] h = h

pub each_more : {A B : Type 0} (R : A → B → Type 0) (xs : List A) (ys : List B) (x : A) (y : B) → Each R xs ys → R x y → Each R (xs ++ x ∷ []) (ys ++ y ∷ [])
each_more R [] [] x y h r = (r, tt)
each_more R (a ∷ xs) (b ∷ ys) x y h r = (h.0, each_more R xs ys x y h.1 r)
each_more R [] (b ∷ ys) x y h r = absurd h
each_more R (a ∷ xs) [] x y h r = absurd h

pub stand_each_grow : {A B : Type 0} (R Q : A → B → Type 0) (xs ys : List A) (zs : List B) (s : RowSpan) → ((x : A) (y : B) → R x y → Q x y)
    → Begins xs ys → StandsEach R xs s zs → StandsEach Q ys s zs
stand_each_grow R Q xs ys zs s f b h = record {
  each = subst (λ l. Each Q l zs) (sym (ap (λ l. rows_at l s) b.1 ∙ rows_grow xs b.0 s h.inside)) (each_map R Q f (rows_at xs s) zs h.each);
  inside = subst (λ l. s.from + s.count ≤ length l) (sym b.1) (inside_grows xs b.0 (s.from + s.count) h.inside);
}

-- rows that were appended stand at the end
rows_end : {A : Type 0} (xs ys : List A) (s : RowSpan) → s.from ≡ length xs → s.from + s.count ≡ length (xs ++ ys) → rows_at (xs ++ ys) s ≡ ys
rows_end xs ys s e n =
    let c : s.count ≡ length ys = omega (arith, length-append xs ys) in
    ap (λ k. take s.count (drop k (xs ++ ys))) e
    ∙ ap (take s.count) (drop-append_seam xs ys)
    ∙ ap (λ k. take k ys) c
    ∙ take-length ys

pub stand_end : {A : Type 0} (xs ys zs : List A) (s : RowSpan) → zs ≡ xs ++ ys → s.from ≡ length xs → s.from + s.count ≡ length zs → Stands zs s ys
stand_end xs ys zs s e f n = record {
  is = ap (λ l. rows_at l s) e ∙ rows_end xs ys s f (n ∙ ap length e);
  inside = let i : s.from + s.count ≤ length zs = omega arith in i;
}

-- rows that stand there, one by one
pub stand_each : {A B : Type 0} (R Q : A → B → Type 0) (xs ys : List A) (bs : List B) (s : RowSpan)
    → ((x : A) (y : B) → R x y → Q x y) → Stands xs s ys → Each R ys bs → StandsEach Q xs s bs
stand_each R Q xs ys bs s f h e = record {
  each = subst (λ l. Each Q l bs) (sym h.is) (each_map R Q f ys bs e);
  inside = h.inside;
}

-- one more of a list, and the end of it
pub each_turn : {A B : Type 0} (R Q : A → B → Type 0) (rows : List A) (bs : List B) (i : ℕ) (a : A) (b : B) → ((x : A) (y : B) → R x y → Q x y)
    → b ≡ get_or bs i b → i < length bs → Each R rows (take i bs) → Q a b → Each Q (rows ++ a ∷ []) (take (i + 1) bs)
each_turn R Q rows bs i a b f is within h q =
    let one : i + 1 ≡ suc i = omega arith in
    let more = ap (λ k. take k bs) one ∙ take-suc bs i b within ∙ ap (λ x. take i bs ++ x ∷ []) (sym is) in
    subst (Each Q (rows ++ a ∷ [])) (sym more) (each_more Q rows (take i bs) a b (each_map R Q f rows (take i bs) h) q)

pub each_done : {A B : Type 0} (R : A → B → Type 0) (rows : List A) (bs : List B) (i : ℕ) → length bs ≤ i → Each R rows (take i bs) → Each R rows bs
each_done R rows bs i past h = subst (Each R rows) (take_all i bs past) h

pub get_grow : {A : Type 0} (xs ys : List A) (n : ℕ) (x : A) → Begins xs ys → slice_get xs n ≡ Some x → slice_get ys n ≡ Some x
get_grow xs ys n x b h =
    let w = slice_get_within xs n x h in
    let i : n < length (xs ++ b.0) = omega (arith, length-append xs b.0) in
    ap (λ l. slice_get l n) b.1
    ∙ slice_get-get_or (xs ++ b.0) n x i
    ∙ ap Some (get_or_append_left xs b.0 x n w ∙ get_or_from_slice_get xs n x x h)

module _ (t u : Rows) (g : Grows t u) where
  pub expr_grow : (s : RowSpan) (e : CoreExpr) → HoldsExpr t s e → HoldsExpr u s e
  expr_grow s e h = record { rows = stand_grow t.ops u.ops _ s g.ops h.rows; depth = le_trans h.depth g.depth }

  pub slot_grow : (row : SlotRow) (slot : CoreSlot) → HoldsSlot t row slot → HoldsSlot u row slot
  slot_grow row slot h = record {
    sym = get_grow t.syms u.syms row.sym slot.sym g.syms h.sym;
    from = expr_grow row.from slot.from h.from;
    to = expr_grow row.to slot.to h.to;
  }

  pub case_grow : (row : CaseRow) (branch : CoreExpr × CoreSlot) → HoldsCase t row branch → HoldsCase u row branch
  case_grow row branch h = record { cond = expr_grow row.cond branch.0 h.cond; slot = slot_grow row.slot branch.1 h.slot }

  pub cases_grow : (s : RowSpan) (cases : List (CoreExpr × CoreSlot)) → StandsEach (HoldsCase t) t.cases s cases → StandsEach (HoldsCase u) u.cases s cases
  cases_grow s cases h = stand_each_grow (HoldsCase t) (HoldsCase u) t.cases u.cases cases s case_grow g.cases h

  pub term_grow : (action : Action) (term : CoreTerm) → HoldsTerm t action term → HoldsTerm u action term
  term_grow (Slot row) term h = (h.0, h.1, slot_grow row h.0 h.2)
  term_grow (Set attr value) term h = (h.0, h.1, expr_grow value h.0 h.2)
  term_grow (Test cond) term h = (h.0, h.1, expr_grow cond h.0 h.2)
  term_grow (Repeat first last item) term h =
      (h.0, h.1, h.2, h.3, expr_grow first h.0 h.4, expr_grow last h.1 h.5, slot_grow item h.2 h.6)
  term_grow (Many item) term h = (h.0, h.1, slot_grow item h.0 h.2)
  term_grow (Pick cases other) term h = (h.0, h.1, h.2, cases_grow cases h.0 h.3, slot_grow other h.1 h.4)

  pub instr_grow : (terms : List CoreTerm) (instr : Instr) (n : ℕ) → HoldsInstr t terms instr n → HoldsInstr u terms instr n
  instr_grow terms instr n h = record { number = h.number; term = h.term; is_term = h.is_term; holds = term_grow instr.action h.term h.holds }

  pub instrs_grow : (terms : List CoreTerm) (s : RowSpan) (order : List ℕ)
      → StandsEach (HoldsInstr t terms) t.instrs s order → StandsEach (HoldsInstr u terms) u.instrs s order
  instrs_grow terms s order h = stand_each_grow (HoldsInstr t terms) (HoldsInstr u terms) t.instrs u.instrs order s (instr_grow terms) g.instrs h

  pub alt_grow : (row : AltRow) (alt : CoreAlt) → HoldsAlt t row alt → HoldsAlt u row alt
  alt_grow row alt h = record {
    instrs = instrs_grow alt.terms row.instrs alt.order h.instrs;
    sets = stand_grow t.sets u.sets _ row.sets g.sets h.sets;
    terms = h.terms;
  }

  pub alts_grow : (s : RowSpan) (alts : List CoreAlt) → StandsEach (HoldsAlt t) t.alts s alts → StandsEach (HoldsAlt u) u.alts s alts
  alts_grow s alts h = stand_each_grow (HoldsAlt t) (HoldsAlt u) t.alts u.alts alts s alt_grow g.alts h

  pub rule_grow : (row : RuleRow) (rule : CoreRule) → HoldsRule t row rule → HoldsRule u row rule
  rule_grow row rule h = record {
    name = stand_grow t.bytes u.bytes rule.name row.name g.bytes h.name;
    holder = h.holder;
    alts = alts_grow row.alts rule.alts h.alts;
  }

  pub name_grow : (s : RowSpan) (name : List ℕ) → Stands t.bytes s name → Stands u.bytes s name
  name_grow s name h = stand_grow t.bytes u.bytes name s g.bytes h

pub appended : {A B C : Type 0} (R Q : A → B → Type 0) (r : Result RowSpan C) (old rows new items : List A) (bs : List B) → rows ≡ items
    → (new ≡ old ++ rows → (x : A) (y : B) → R x y → Q x y)
    → OnOk r (new ≡ old ++ rows) → IfOk r (λ s. Stands new s rows) → Each R items bs → IfOk r (λ s. StandsEach Q new s bs)
appended R Q (Ok s) old rows new items bs same grow e h each = stand_each R Q new rows bs s (grow e) h (subst (λ l. Each R l bs) (sym same) each)
appended R Q (Err x) old rows new items bs same grow e h each = tt

-- more of one table
pub more_cases : (t : Rows) (xs more : List CaseRow) → xs ≡ t.cases ++ more → Grows t (record t { cases = xs })
more_cases t xs more e = record {
  alts = begins_refl t.alts;
  instrs = begins_refl t.instrs;
  cases = (more, e);
  ops = begins_refl t.ops;
  sets = begins_refl t.sets;
  syms = begins_refl t.syms;
  bytes = begins_refl t.bytes;
  depth = le_refl t.depth;
}

pub more_instrs : (t : Rows) (xs more : List Instr) → xs ≡ t.instrs ++ more → Grows t (record t { instrs = xs })
more_instrs t xs more e = record {
  alts = begins_refl t.alts;
  instrs = (more, e);
  cases = begins_refl t.cases;
  ops = begins_refl t.ops;
  sets = begins_refl t.sets;
  syms = begins_refl t.syms;
  bytes = begins_refl t.bytes;
  depth = le_refl t.depth;
}

pub more_sets : (t : Rows) (xs more : List ℕ) → xs ≡ t.sets ++ more → Grows t (record t { sets = xs })
more_sets t xs more e = record {
  alts = begins_refl t.alts;
  instrs = begins_refl t.instrs;
  cases = begins_refl t.cases;
  ops = begins_refl t.ops;
  sets = (more, e);
  syms = begins_refl t.syms;
  bytes = begins_refl t.bytes;
  depth = le_refl t.depth;
}

pub more_alts : (t : Rows) (xs more : List AltRow) → xs ≡ t.alts ++ more → Grows t (record t { alts = xs })
more_alts t xs more e = record {
  alts = (more, e);
  instrs = begins_refl t.instrs;
  cases = begins_refl t.cases;
  ops = begins_refl t.ops;
  sets = begins_refl t.sets;
  syms = begins_refl t.syms;
  bytes = begins_refl t.bytes;
  depth = le_refl t.depth;
}

-- the rules and the names, which come last
pub finished : (t : Rows) (rules : List RuleRow) (names : List RowSpan) → Grows t (record t { rules = rules; names = names })
finished t rules names = record {
  alts = begins_refl t.alts;
  instrs = begins_refl t.instrs;
  cases = begins_refl t.cases;
  ops = begins_refl t.ops;
  sets = begins_refl t.sets;
  syms = begins_refl t.syms;
  bytes = begins_refl t.bytes;
  depth = le_refl t.depth;
}

-- a number that is there, whatever stands in for one that isn't
pub get_or_same : (xs : List ℕ) (i d e : ℕ) → i < length xs → get_or xs i d ≡ get_or xs i e
get_or_same [] i d e h = absurd (omega arith)
get_or_same (x ∷ xs) zero d e h = refl
get_or_same (x ∷ xs) (suc i) d e h = get_or_same xs i d e (omega arith)
