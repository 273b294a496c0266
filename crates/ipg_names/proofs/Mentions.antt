-- What a term with its names resolved mentions, where its names have no fault.
use Rattle.std.proofs.Common.{◌≡◌, ℕ, Bool, true, false, ◌||◌, List, [], ◌∷◌, ◌++◌, map, flat_map, Option, Some}
use Rattle.std.proofs.Common.{None, is_some, refl, sym, ap, subst, ◌∙◌, cond, bytes_eq, true≢false, ℤ, pos}
use Rattle.std.specs.List.{AllByRecursion}
use Rattle.ipg_num.specs.declared.op.Op2.{Op2}
use Rattle.ipg_ast.specs.declared.grammar.Term as written
use Rattle.ipg_ast.specs.declared.grammar.Term.TheVariants as term
use Rattle.ipg_ast.specs.declared.grammar.Case.{Case}
use Rattle.ipg_ast.specs.declared.grammar.Slot.{Slot}
use Rattle.ipg_ast.specs.declared.grammar.Place.{Place}
use Rattle.ipg_ast.specs.declared.grammar.Place.TheVariants as place
use Rattle.ipg_ast.specs.declared.grammar.Field.{Field}
use Rattle.ipg_ast.specs.declared.grammar.Field.TheVariants as field
use Rattle.ipg_ast.specs.declared.grammar.Expr.{Expr, roll-Expr, map-Expr}
use Rattle.ipg_ast.specs.declared.grammar.Expr.TheOpen.{Expr-F}
use Rattle.ipg_ast.specs.declared.grammar.Expr.TheFolds.{ind-Expr, fold-roll-Expr}
use Rattle.ipg_core.specs.declared.grammar.Sym.{Sym}
use Rattle.ipg_core.specs.declared.grammar.CoreField.{CoreField}
use Rattle.ipg_core.specs.declared.grammar.CoreExpr.{CoreExpr}
use Rattle.ipg_core.specs.declared.grammar.CoreExpr.TheVariants.{Num, Eoi, Own, Outer, Loop, Seen, Item, Neg, Not, Two, Both, Either, Cond, rolls-Num}
use Rattle.ipg_core.specs.declared.grammar.CoreExpr.TheVariants.{rolls-Eoi, rolls-Own, rolls-Outer, rolls-Loop, rolls-Seen, rolls-Item, rolls-Neg}
use Rattle.ipg_core.specs.declared.grammar.CoreExpr.TheVariants.{rolls-Not, rolls-Two, rolls-Both, rolls-Either, rolls-Cond}
use Rattle.ipg_core.specs.declared.grammar.CoreExpr.TheOpen.{CoreExpr-F}
use Rattle.ipg_core.specs.declared.grammar.CoreExpr.TheFolds.{fold-roll-CoreExpr}
use Rattle.ipg_core.specs.Mention.{Mention, SeenOf, ItemOf, OwnOf, OuterOf, FieldOf, LoopOf, field_mentions}
use Rattle.ipg_core.specs.Mention.{mentions, mentions_step, slot_mentions, case_mentions, term_mentions}
use Rattle.ipg_core.specs.Good.{HasItems}
use Rattle.ipg_names_scope.specs.Scope.{Scope, attr_number, is_var, inside}
use Rattle.ipg_names_scope.specs.Names.{NameList, names_step, field_names, expr_names, place_names, slot_names, case_names, term_names}
use Rattle.ipg_names.specs.Resolved.{resolved_step, expr_in, name_in, seen_at, item_at, symbol, sym_or_empty, field_in, place_in, slot_in, case_in, term_in}
use Rattle.ipg_names.specs.Faults.{Faults, faults_step, expr_faults, ends_faults, place_faults, slot_faults, case_faults, term_faults}
use Rattle.ipg_names.specs.Faults.{is_known, rule_fault, what_fault, occurrence_fault, unless, set_fault, var_fault}
use Rattle.ipg_names.specs.declared.fault.NameFault.{NameFault}
use Rattle.ipg_names.specs.Bare.{bare_from, bare_to, bare_slot, bare_case, bare_term}
use Rattle.ipg_names.proofs.Families.{all_append, all_left, all_right}
use Rattle.ipg_names.proofs.Within.{AllIn, IsIn}

-- ---- the mentions of each form

at_num : (z : ℤ) → mentions (Num z) ≡ []
at_num z = ap mentions (sym (rolls-Num z)) ∙ fold-roll-CoreExpr (List Mention) mentions_step (CoreExpr-F.Num z)

at_eoi : mentions Eoi ≡ []
at_eoi = ap mentions (sym rolls-Eoi) ∙ fold-roll-CoreExpr (List Mention) mentions_step CoreExpr-F.Eoi

at_own : (a : ℕ) → mentions (Own a) ≡ OwnOf a ∷ []
at_own a = ap mentions (sym (rolls-Own a)) ∙ fold-roll-CoreExpr (List Mention) mentions_step (CoreExpr-F.Own a)

at_outer : (a : ℕ) → mentions (Outer a) ≡ OuterOf a ∷ []
at_outer a = ap mentions (sym (rolls-Outer a)) ∙ fold-roll-CoreExpr (List Mention) mentions_step (CoreExpr-F.Outer a)

at_loop : mentions Loop ≡ LoopOf ∷ []
at_loop = ap mentions (sym rolls-Loop) ∙ fold-roll-CoreExpr (List Mention) mentions_step CoreExpr-F.Loop

at_seen : (u : ℕ) (s : Sym) (f : CoreField) → mentions (Seen u s f) ≡ SeenOf u s ∷ field_mentions f
at_seen u s f = ap mentions (sym (rolls-Seen u s f)) ∙ fold-roll-CoreExpr (List Mention) mentions_step (CoreExpr-F.Seen u s f)

at_item : (u : ℕ) (e : CoreExpr) (f : CoreField) → mentions (Item u e f) ≡ ItemOf u ∷ mentions e ++ field_mentions f
at_item u e f = ap mentions (sym (rolls-Item u e f)) ∙ fold-roll-CoreExpr (List Mention) mentions_step (CoreExpr-F.Item u e f)

at_neg : (e : CoreExpr) → mentions (Neg e) ≡ mentions e
at_neg e = ap mentions (sym (rolls-Neg e)) ∙ fold-roll-CoreExpr (List Mention) mentions_step (CoreExpr-F.Neg e)

at_not : (e : CoreExpr) → mentions (Not e) ≡ mentions e
at_not e = ap mentions (sym (rolls-Not e)) ∙ fold-roll-CoreExpr (List Mention) mentions_step (CoreExpr-F.Not e)

at_two : (op : Op2) (a b : CoreExpr) → mentions (Two op a b) ≡ mentions a ++ mentions b
at_two op a b = ap mentions (sym (rolls-Two op a b)) ∙ fold-roll-CoreExpr (List Mention) mentions_step (CoreExpr-F.Two op a b)

at_both : (a b : CoreExpr) → mentions (Both a b) ≡ mentions a ++ mentions b
at_both a b = ap mentions (sym (rolls-Both a b)) ∙ fold-roll-CoreExpr (List Mention) mentions_step (CoreExpr-F.Both a b)

at_either : (a b : CoreExpr) → mentions (Either a b) ≡ mentions a ++ mentions b
at_either a b = ap mentions (sym (rolls-Either a b)) ∙ fold-roll-CoreExpr (List Mention) mentions_step (CoreExpr-F.Either a b)

at_cond : (c a b : CoreExpr) → mentions (Cond c a b) ≡ mentions c ++ (mentions a ++ mentions b)
at_cond c a b = ap mentions (sym (rolls-Cond c a b)) ∙ fold-roll-CoreExpr (List Mention) mentions_step (CoreExpr-F.Cond c a b)

-- ---- no faults

pub both_none : {A : Type 0} (xs ys : List A) → xs ++ ys ≡ [] → (xs ≡ []) × (ys ≡ [])
both_none [] ys h = (refl, h)
both_none (x ∷ xs) ys h = absurd (cc)

pub unless_none : (b : Bool) (fault : NameFault) → unless b fault ≡ [] → b ≡ true
unless_none true fault h = refl
unless_none false fault h = absurd (cc)

-- ---- what the answers of a scope stand for

pub record IsSound (scope : Scope) (Q : Mention → Type 0) : Type 0 where
  pub own : (name : List ℕ) → scope.own name ≡ true → Q (OwnOf (attr_number scope name))
  pub outer : (name : List ℕ) → scope.outer name ≡ true → Q (OuterOf (attr_number scope name))
  pub loop : Q LoopOf
  pub call : (name : List ℕ) (u : ℕ) (s : Sym) → scope.call name ≡ Some u → scope.sym name ≡ Some s → Q (SeenOf u s)
  pub items : (name : List ℕ) (u : ℕ) → scope.items name ≡ Some u → Q (ItemOf u)
  pub field : (name : List ℕ) → IsIn scope.names name → Q (FieldOf (attr_number scope name))

module _ (scope : Scope) (Q : Mention → Type 0) (sound : IsSound scope Q) where
  abbrev All : List Mention → Type 0
  All ms = AllByRecursion Q ms

  same : (ms ns : List Mention) → ms ≡ ns → All ns → All ms
  same ms ns e h = subst All (sym e) h

  name_good : (name : List ℕ) → is_known scope name ≡ true → All (mentions (name_in scope name))
  name_good name h = by (scope.own name) (is_var scope.var name) (scope.outer name) refl refl h
    where
      by : (o v u : Bool) → scope.own name ≡ o → scope.outer name ≡ u → (o || (v || u)) ≡ true
          → All (mentions (cond o (Own (attr_number scope name)) (cond v Loop (cond u (Outer (attr_number scope name)) Eoi))))
      by true v u f g k = same _ _ (at_own (attr_number scope name)) (sound.own name f, tt)
      by false true u f g k = same _ _ at_loop (sound.loop, tt)
      by false false true f g k = same _ _ (at_outer (attr_number scope name)) (sound.outer name g, tt)
      by false false false f g k = absurd (true≢false (sym k))

  field_good : (f : Field) → AllIn scope.names (field_names f) → All (field_mentions (field_in scope f))
  field_good (field.Id i) h = (sound.field i.name h.0, tt)
  field_good field.Start h = tt
  field_good field.End h = tt

  seen_good : (name : List ℕ) (f : Field) → is_some (scope.sym name) ≡ true → is_some (scope.call name) ≡ true → AllIn scope.names (field_names f)
      → All (mentions (seen_at (scope.call name) (symbol scope name) (field_in scope f)))
  seen_good name f h k n = by (scope.call name) (scope.sym name) refl refl k h
    where
      by : (o : Option ℕ) (s : Option Sym) → scope.call name ≡ o → scope.sym name ≡ s → is_some o ≡ true → is_some s ≡ true
          → All (mentions (seen_at o (sym_or_empty s) (field_in scope f)))
      by None s e d p q = absurd (true≢false (sym p))
      by (Some u) None e d p q = absurd (true≢false (sym q))
      by (Some u) (Some s) e d p q = same _ _ (at_seen u s (field_in scope f)) (sound.call name u s e d, field_good f n)

  item_good : (name : List ℕ) (e : CoreExpr) (f : Field) → is_some (scope.items name) ≡ true → All (mentions e) → AllIn scope.names (field_names f)
      → All (mentions (item_at (scope.items name) e (field_in scope f)))
  item_good name e f k m n = by (scope.items name) refl k
    where
      by : (o : Option ℕ) → scope.items name ≡ o → is_some o ≡ true → All (mentions (item_at o e (field_in scope f)))
      by None d p = absurd (true≢false (sym p))
      by (Some u) d p = same _ _ (at_item u e (field_in scope f)) (
        sound.items name u d,
        all_append Q (mentions e) (field_mentions (field_in scope f)) m
            (field_good f n),
      )

  abbrev Good : Expr → Type 0
  Good e = expr_faults scope e ≡ [] → AllIn scope.names (expr_names e) → All (mentions (expr_in scope e))

  abbrev Child : Type 0
  Child = (e : Expr) × Good e

  abbrev whole : Child → Expr
  whole c = c.0

  rolled : (x : Expr-F Expr) → (faults_step scope (map-Expr Expr Faults (expr_faults scope) x) ≡ []
      → AllIn scope.names (names_step (map-Expr Expr NameList expr_names x))
      → All (mentions (resolved_step scope (map-Expr Expr CoreExpr (expr_in scope) x)))) → Good (roll-Expr x)
  rolled x h f n =
      same _ _ (ap mentions (fold-roll-Expr CoreExpr (resolved_step scope) x))
      (h (sym (fold-roll-Expr Faults (faults_step scope) x) ∙ f) (subst (AllIn scope.names) (fold-roll-Expr NameList names_step x) n))

  pair : (a b : Expr) → Good a → Good b → expr_faults scope a ++ expr_faults scope b ≡ [] → AllIn scope.names (expr_names a ++ expr_names b)
      → All (mentions (expr_in scope a) ++ mentions (expr_in scope b))
  pair a b ga gb f n =
      let none = both_none (expr_faults scope a) (expr_faults scope b) f in
      all_append Q (mentions (expr_in scope a)) (mentions (expr_in scope b)) (ga none.0 (all_left (IsIn scope.names) (expr_names a) (expr_names b) n))
      (gb none.1 (all_right (IsIn scope.names) (expr_names a) (expr_names b) n))

  layer : (y : Expr-F Child) → Good (roll-Expr (map-Expr Child Expr whole y))
  layer (Expr-F.Num n) = rolled (Expr-F.Num n) (λ f m. same _ _ (at_num n) tt)
  layer Expr-F.Eoi = rolled Expr-F.Eoi (λ f m. same _ _ at_eoi tt)
  layer (Expr-F.Id i) = rolled (Expr-F.Id i) (λ f m. name_good i.name (unless_none (is_known scope i.name) _ f))
  layer (Expr-F.Part i f) = rolled (Expr-F.Part i f) (λ h m.
      let rule = both_none (rule_fault scope i.name i.span.from) _ h in
      let rest = both_none (occurrence_fault (scope.call i.name) i.span.from) _ rule.1 in
      seen_good i.name f (unless_none (is_some (scope.sym i.name)) _ rule.0) (unless_none (is_some (scope.call i.name)) _ rest.0) m)
  layer (Expr-F.Item i c f) = rolled (Expr-F.Item i c.0 f) (λ h m.
      let index = both_none (expr_faults scope c.0) _ h in
      let rule = both_none (rule_fault scope i.name i.span.from) _ index.1 in
      let rest = both_none (occurrence_fault (scope.items i.name) i.span.from) _ rule.1 in
      item_good i.name (expr_in scope c.0) f (unless_none (is_some (scope.items i.name)) _ rest.0)
      (c.1 index.0 (all_left (IsIn scope.names) (expr_names c.0) (field_names f) m)) (all_right (IsIn scope.names) (expr_names c.0) (field_names f) m))
  layer (Expr-F.Group c) = rolled (Expr-F.Group c.0) (λ h m. c.1 h m)
  layer (Expr-F.Neg c) = rolled (Expr-F.Neg c.0) (λ h m. same _ _ (at_neg (expr_in scope c.0)) (c.1 h m))
  layer (Expr-F.Not c) = rolled (Expr-F.Not c.0) (λ h m. same _ _ (at_not (expr_in scope c.0)) (c.1 h m))
  layer (Expr-F.Two o a b) = rolled (Expr-F.Two o a.0 b.0) (λ h m. same _ _ (at_two o (expr_in scope a.0) (expr_in scope b.0)) (pair a.0 b.0 a.1 b.1 h m))
  layer (Expr-F.Both a b) = rolled (Expr-F.Both a.0 b.0) (λ h m. same _ _ (at_both (expr_in scope a.0) (expr_in scope b.0)) (pair a.0 b.0 a.1 b.1 h m))
  layer (Expr-F.Either a b) = rolled (Expr-F.Either a.0 b.0) (λ h m. same _ _ (at_either (expr_in scope a.0) (expr_in scope b.0)) (pair a.0 b.0 a.1 b.1 h m))
  layer (Expr-F.Cond c a b) = rolled (Expr-F.Cond c.0 a.0 b.0) (λ h m.
      let none = both_none (expr_faults scope c.0) (expr_faults scope a.0 ++ expr_faults scope b.0) h in
      let test = c.1 none.0 (all_left (IsIn scope.names) (expr_names c.0) (expr_names a.0 ++ expr_names b.0) m) in
      let branches = pair a.0 b.0 a.1 b.1 none.1 (all_right (IsIn scope.names) (expr_names c.0) (expr_names a.0 ++ expr_names b.0) m) in
      same _ _ (at_cond (expr_in scope c.0) (expr_in scope a.0) (expr_in scope b.0))
      (all_append Q (mentions (expr_in scope c.0)) (mentions (expr_in scope a.0) ++ mentions (expr_in scope b.0)) test branches))

  pub expr_good : (e : Expr) → expr_faults scope e ≡ [] → AllIn scope.names (expr_names e) → AllByRecursion Q (mentions (expr_in scope e))
  expr_good = ind-Expr Good (λ x y is. subst (λ z. Good (roll-Expr z)) is (layer y))

  -- ---- slots

  nothing : All (mentions (Num (pos 0)))
  nothing = same _ _ (at_num (pos 0)) tt

  ends_good : (l r : Expr) → ends_faults scope l r ≡ [] → AllIn scope.names (expr_names l ++ expr_names r)
      → All (mentions (expr_in scope l) ++ mentions (expr_in scope r))
  ends_good l r f n = pair l r (expr_good l) (expr_good r) f n

  place_good : (p : Place) → place_faults scope p ≡ [] → AllIn scope.names (place_names p)
      → All (mentions (bare_from (place_in scope p)) ++ mentions (bare_to (place_in scope p)))
  place_good place.Open f n = all_append Q (mentions (Num (pos 0))) (mentions Eoi) nothing (same _ _ at_eoi tt)
  place_good (place.Length e) f n = all_append Q (mentions (Num (pos 0))) (mentions (expr_in scope e)) nothing (expr_good e f n)
  place_good (place.Ends l r) f n = ends_good l r f n

  slot_good : (s : Slot) → slot_faults scope s ≡ [] → AllIn scope.names (slot_names s) → All (slot_mentions (bare_slot (slot_in scope s)))
  slot_good s f n = place_good s.place (both_none (what_fault scope s.what s.span.from) (place_faults scope s.place) f).1 n

  case_good : (c : Case) → case_faults scope c ≡ [] → AllIn scope.names (case_names c) → All (case_mentions (bare_case (case_in scope c)))
  case_good c f n =
      let none = both_none (expr_faults scope c.cond) (slot_faults scope c.slot) f in
      all_append Q (mentions (expr_in scope c.cond)) (slot_mentions (bare_slot (slot_in scope c.slot)))
      (expr_good c.cond none.0 (all_left (IsIn scope.names) (expr_names c.cond) (slot_names c.slot) n)) (slot_good c.slot none.1 (all_right
      (IsIn scope.names) (expr_names c.cond) (slot_names c.slot) n))

  cases_good : (cs : List Case) → flat_map (case_faults scope) cs ≡ [] → AllIn scope.names (flat_map case_names cs)
      → All (flat_map case_mentions (map bare_case (map (case_in scope) cs)))
  cases_good [] f n = tt
  cases_good (c ∷ cs) f n =
      let none = both_none (case_faults scope c) (flat_map (case_faults scope) cs) f in
      all_append Q (case_mentions (bare_case (case_in scope c))) (flat_map case_mentions (map bare_case (map (case_in scope) cs)))
      (case_good c none.0 (all_left (IsIn scope.names) (case_names c) (flat_map case_names cs) n)) (cases_good cs none.1 (all_right (IsIn scope.names)
      (case_names c) (flat_map case_names cs) n))

-- the item interval of an array
sound_inside : (scope : Scope) (Q : Mention → Type 0) → IsSound scope Q → (var item : List ℕ) → Q (ItemOf scope.term) → IsSound (inside scope var item) Q
sound_inside scope Q sound var item own = record {
  own = sound.own;
  outer = sound.outer;
  loop = sound.loop;
  call = sound.call;
  field = sound.field;
  items = λ name u e. by name u (bytes_eq name item) e;
}
  where
    by : (name : List ℕ) (u : ℕ) (b : Bool) → cond b (Some scope.term) (scope.items name) ≡ Some u → Q (ItemOf u)
    by name u true e = subst (λ n. Q (ItemOf n)) (let same : scope.term ≡ u = cc in same) own
    by name u false e = sound.items name u e

pub term_good : (scope : Scope) (Q : Mention → Type 0) → IsSound scope Q → (t : written.Term) → (HasItems (Some (bare_term (term_in scope t)))
    → Q (ItemOf scope.term))
    → term_faults scope t ≡ [] → AllIn scope.names (term_names t) → AllByRecursion Q (term_mentions (bare_term (term_in scope t)))
term_good scope Q sound (term.Slot s) own f n = slot_good scope Q sound s f n
term_good scope Q sound (term.Set name value) own f n = expr_good scope Q sound value (both_none (set_fault scope name) (expr_faults scope value) f).1 n.1
term_good scope Q sound (term.Test at cond) own f n = expr_good scope Q sound cond f n
term_good scope Q sound (term.Repeat var first last item from to) own f n =
    let s = inside scope var.name item.name in
    let a = both_none (var_fault scope var) _ f in
    let b = both_none (ends_faults scope first last) _ a.1 in
    let c = both_none (rule_fault scope item.name item.span.from) _ b.1 in
    let bounds = both_none (expr_faults scope first) (expr_faults scope last) b.0 in
    let rest = all_right (IsIn scope.names) (expr_names first) (expr_names last ++ (expr_names from ++ expr_names to)) n in
    all_append Q (mentions (expr_in scope first)) _ (expr_good scope Q sound first bounds.0 (all_left (IsIn scope.names) (expr_names first)
    (expr_names last ++ (expr_names from ++ expr_names to)) n))
    (all_append Q (mentions (expr_in scope last)) _ (expr_good scope Q sound last bounds.1 (all_left (IsIn scope.names) (expr_names last)
    (expr_names from ++ expr_names to) rest))
    (ends_good s Q (sound_inside scope Q sound var.name item.name (own tt)) from to c.1 (all_right (IsIn scope.names) (expr_names last)
    (expr_names from ++ expr_names to) rest)))
term_good scope Q sound (term.Many at item place) own f n = place_good scope Q sound place (both_none (rule_fault scope item.name item.span.from)
    (place_faults scope place) f).1 n
term_good scope Q sound (term.Pick at cases other) own f n =
    let none = both_none (flat_map (case_faults scope) cases) (slot_faults scope other) f in
    all_append Q (flat_map case_mentions (map bare_case (map (case_in scope) cases))) (slot_mentions (bare_slot (slot_in scope other)))
    (cases_good scope Q sound cases none.0 (all_left (IsIn scope.names) (flat_map case_names cases) (slot_names other) n))
    (slot_good scope Q sound other none.1 (all_right (IsIn scope.names) (flat_map case_names cases) (slot_names other) n))
