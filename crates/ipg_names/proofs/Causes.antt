-- The faults of a term are those of what stands in it.
use Rattle.std.proofs.Common.{◌≡◌, ◌↔◌, ℕ, ◌⊎◌, inl, inr, List, [], ◌∷◌, ◌++◌, flat_map, Option, Some, refl, sym, ap, subst, ◌∙◌, cond, bytes_eq, append-nil}
use Rattle.std.proofs.lemmas.Grind.{flat_map-append}
use Rattle.ipg_ast.specs.declared.grammar.Ident.{Ident}
use Rattle.ipg_ast.specs.declared.grammar.Term.{Term}
use Rattle.ipg_ast.specs.declared.grammar.Term.TheVariants as term
use Rattle.ipg_ast.specs.declared.grammar.Case.{Case}
use Rattle.ipg_ast.specs.declared.grammar.Slot.{Slot}
use Rattle.ipg_ast.specs.declared.grammar.What.{What}
use Rattle.ipg_ast.specs.declared.grammar.What.TheVariants as what
use Rattle.ipg_ast.specs.declared.grammar.Place.{Place}
use Rattle.ipg_ast.specs.declared.grammar.Place.TheVariants as place
use Rattle.ipg_ast.specs.declared.grammar.Expr.{Expr, roll-Expr, map-Expr}
use Rattle.ipg_ast.specs.declared.grammar.Expr.TheOpen.{Expr-F}
use Rattle.ipg_ast.specs.declared.grammar.Expr.TheFolds.{ind-Expr, fold-roll-Expr}
use Rattle.ipg_names.specs.declared.fault.NameFault.{NameFault}
use Rattle.ipg_names_scope.specs.Scope.{Scope, inside}
use Rattle.ipg_names.specs.Faults.{Faults, faults_step, expr_faults, ends_faults, place_faults, what_fault, slot_faults, case_faults}
use Rattle.ipg_names.specs.Faults.{term_faults, rule_fault, name_fault, reference_fault, set_fault, var_fault}
use Rattle.ipg_names.specs.Told.{Stands}
use Rattle.ipg_names.specs.Uses.{Use, Bare, Part, Item, Symbol, uses_step, expr_uses, place_exprs, slot_exprs, case_exprs, uses_in}
use Rattle.ipg_names.specs.Uses.{item_uses, what_symbols, slot_symbols, case_symbols, parsed_by, set_by, loop_of}
use Rattle.ipg_names.proofs.Stands.{left, right, either, of_either}

abbrev pub use_faults : Scope → Use → Faults
use_faults scope (Bare i) = name_fault scope i
use_faults scope (Part of f) = reference_fault scope (scope.call of.name) of f
use_faults scope (Item of f) = reference_fault scope (scope.items of.name) of f

abbrev pub symbol_fault : Scope → Symbol → Faults
symbol_fault scope s = rule_fault scope s.name s.at

-- in an array's item interval, items of its own symbol and its loop variable
abbrev pub own_items : Term → List ℕ → ℕ → Option ℕ → Option ℕ
own_items (term.Repeat var first last item from to) name u found = cond (bytes_eq name item.name) (Some u) found
own_items (term.Slot slot) name u found = found
own_items (term.Set head value) name u found = found
own_items (term.Test at test) name u found = found
own_items (term.Many at item interval) name u found = found
own_items (term.Pick at cases other) name u found = found

abbrev pub own_loop : Term → Option (List ℕ) → Option (List ℕ)
own_loop (term.Repeat var first last item from to) found = Some var.name
own_loop (term.Slot slot) found = found
own_loop (term.Set head value) found = found
own_loop (term.Test at test) found = found
own_loop (term.Many at item interval) found = found
own_loop (term.Pick at cases other) found = found

-- the scope of the item interval of a term
abbrev pub within : Scope → Term → Scope
within scope t = record {
  term = scope.term;
  names = scope.names;
  sym = scope.sym;
  some = scope.some;
  all = scope.all;
  own = scope.own;
  before = scope.before;
  outer = scope.outer;
  call = scope.call;
  items = λ name. own_items t name scope.term (scope.items name);
  var = own_loop t scope.var;
}

-- ---- expressions

module _ (scope : Scope) where
  abbrev pub read_faults : List Use → Faults
  read_faults us = flat_map (use_faults scope) us

  both : (us vs : List Use) (xs ys : Faults) → xs ≡ read_faults us → ys ≡ read_faults vs → xs ++ ys ≡ read_faults (us ++ vs)
  both us vs xs ys e f = ap (λ l. l ++ ys) e ∙ ap (λ l. read_faults us ++ l) f ∙ sym (flat_map-append (use_faults scope) us vs)

  abbrev Same : Expr → Type 0
  Same e = expr_faults scope e ≡ read_faults (expr_uses e)

  abbrev Child : Type 0
  Child = (e : Expr) × Same e

  abbrev whole : Child → Expr
  whole c = c.0

  rolled : (x : Expr-F Expr) → faults_step scope (map-Expr Expr Faults (expr_faults scope) x) ≡ read_faults (uses_step (map-Expr Expr (List Use) expr_uses x))
      → Same (roll-Expr x)
  rolled x h = fold-roll-Expr Faults (faults_step scope) x ∙ h ∙ ap read_faults (sym (fold-roll-Expr (List Use) uses_step x))

  pair : (a b : Child) → expr_faults scope a.0 ++ expr_faults scope b.0 ≡ read_faults (expr_uses a.0 ++ expr_uses b.0)
  pair a b = both (expr_uses a.0) (expr_uses b.0) (expr_faults scope a.0) (expr_faults scope b.0) a.1 b.1

  layer : (y : Expr-F Child) → Same (roll-Expr (map-Expr Child Expr whole y))
  layer (Expr-F.Num n) = rolled (Expr-F.Num n) refl
  layer Expr-F.Eoi = rolled Expr-F.Eoi refl
  layer (Expr-F.Id i) = rolled (Expr-F.Id i) (sym (append-nil (name_fault scope i)))
  layer (Expr-F.Part of f) = rolled (Expr-F.Part of f) (sym (append-nil (reference_fault scope (scope.call of.name) of f)))
  layer (Expr-F.Item of c f) = rolled (Expr-F.Item of c.0 f)
      (both (expr_uses c.0) (Item of f ∷ []) (expr_faults scope c.0) (reference_fault scope (scope.items of.name) of f) c.1
      (sym (append-nil (reference_fault scope (scope.items of.name) of f))))
  layer (Expr-F.Group c) = rolled (Expr-F.Group c.0) c.1
  layer (Expr-F.Neg c) = rolled (Expr-F.Neg c.0) c.1
  layer (Expr-F.Not c) = rolled (Expr-F.Not c.0) c.1
  layer (Expr-F.Two o a b) = rolled (Expr-F.Two o a.0 b.0) (pair a b)
  layer (Expr-F.Both a b) = rolled (Expr-F.Both a.0 b.0) (pair a b)
  layer (Expr-F.Either a b) = rolled (Expr-F.Either a.0 b.0) (pair a b)
  layer (Expr-F.Cond c a b) = rolled (Expr-F.Cond c.0 a.0 b.0)
      (both (expr_uses c.0) (expr_uses a.0 ++ expr_uses b.0) (expr_faults scope c.0) (expr_faults scope a.0 ++ expr_faults scope b.0) c.1 (pair a b))

  expr_reads : (e : Expr) → expr_faults scope e ≡ read_faults (expr_uses e)
  expr_reads = ind-Expr Same (λ x y is. subst (λ z. Same (roll-Expr z)) is (layer y))

  exprs_read : (es : List Expr) → flat_map (expr_faults scope) es ≡ read_faults (flat_map expr_uses es)
  exprs_read [] = refl
  exprs_read (e ∷ es) = both (expr_uses e) (flat_map expr_uses es) (expr_faults scope e) (flat_map (expr_faults scope) es) (expr_reads e) (exprs_read es)

  one_reads : (e : Expr) → expr_faults scope e ≡ read_faults (flat_map expr_uses (e ∷ []))
  one_reads e = sym (append-nil (expr_faults scope e)) ∙ exprs_read (e ∷ [])

  ends_read : (l r : Expr) → ends_faults scope l r ≡ read_faults (flat_map expr_uses (l ∷ r ∷ []))
  ends_read l r = ap (λ x. expr_faults scope l ++ x) (sym (append-nil (expr_faults scope r))) ∙ exprs_read (l ∷ r ∷ [])

  place_reads : (p : Place) → place_faults scope p ≡ read_faults (flat_map expr_uses (place_exprs p))
  place_reads place.Open = refl
  place_reads (place.Length e) = one_reads e
  place_reads (place.Ends l r) = ends_read l r

  -- ---- slots

  abbrev pub parse_faults : List Symbol → Faults
  parse_faults ss = flat_map (symbol_fault scope) ss

  what_parses : (w : What) (at : ℕ) → what_fault scope w at ≡ parse_faults (what_symbols w at)
  what_parses (what.Text bytes) at = refl
  what_parses (what.Call name) at = sym (append-nil (rule_fault scope name at))

  name_parses : (i : Ident) → rule_fault scope i.name i.span.from ≡ parse_faults (record { name = i.name; at = i.span.from } ∷ [])
  name_parses i = sym (append-nil (rule_fault scope i.name i.span.from))

  module _ (f : NameFault) where
    -- the faults of symbols and those of what is read
    abbrev Parted : Faults → List Symbol → List Use → Type 0
    Parted xs ss us = Stands xs f ↔ (Stands (parse_faults ss) f ⊎ Stands (read_faults us) f)

    parted : (xs ys : Faults) (ss : List Symbol) (us : List Use) → xs ≡ parse_faults ss → ys ≡ read_faults us → Parted (xs ++ ys) ss us
    parted xs ys ss us e d = (
      λ h. either (parse_faults ss) (read_faults us) f (subst (λ l. Stands l f) (ap (λ l. l ++ ys) e ∙ ap (λ l. parse_faults ss ++ l) d) h),
      λ h. subst (λ l. Stands l f) (sym (ap (λ l. l ++ ys) e ∙ ap (λ l. parse_faults ss ++ l) d)) (of_either (parse_faults ss) (read_faults us) f h),
    )

    joined : (xs ys : Faults) (ss ts : List Symbol) (us vs : List Use) → Parted xs ss us → Parted ys ts vs → Parted (xs ++ ys) (ss ++ ts) (us ++ vs)
    joined xs ys ss ts us vs a b = (λ h. go (either xs ys f h), back)
      where
        parses : Stands (parse_faults ss) f ⊎ Stands (parse_faults ts) f → Stands (parse_faults (ss ++ ts)) f
        parses h = subst (λ l. Stands l f) (sym (flat_map-append (symbol_fault scope) ss ts)) (of_either (parse_faults ss) (parse_faults ts) f h)

        reads : Stands (read_faults us) f ⊎ Stands (read_faults vs) f → Stands (read_faults (us ++ vs)) f
        reads h = subst (λ l. Stands l f) (sym (flat_map-append (use_faults scope) us vs)) (of_either (read_faults us) (read_faults vs) f h)

        first : Stands (parse_faults ss) f ⊎ Stands (read_faults us) f → Stands (parse_faults (ss ++ ts)) f ⊎ Stands (read_faults (us ++ vs)) f
        first (inl h) = inl (parses (inl h))
        first (inr h) = inr (reads (inl h))

        second : Stands (parse_faults ts) f ⊎ Stands (read_faults vs) f → Stands (parse_faults (ss ++ ts)) f ⊎ Stands (read_faults (us ++ vs)) f
        second (inl h) = inl (parses (inr h))
        second (inr h) = inr (reads (inr h))

        go : Stands xs f ⊎ Stands ys f → Stands (parse_faults (ss ++ ts)) f ⊎ Stands (read_faults (us ++ vs)) f
        go (inl h) = first (a.0 h)
        go (inr h) = second (b.0 h)

        parsed : Stands (parse_faults ss) f ⊎ Stands (parse_faults ts) f → Stands (xs ++ ys) f
        parsed (inl h) = left xs ys f (a.1 (inl h))
        parsed (inr h) = right xs ys f (b.1 (inl h))

        read : Stands (read_faults us) f ⊎ Stands (read_faults vs) f → Stands (xs ++ ys) f
        read (inl h) = left xs ys f (a.1 (inr h))
        read (inr h) = right xs ys f (b.1 (inr h))

        back : Stands (parse_faults (ss ++ ts)) f ⊎ Stands (read_faults (us ++ vs)) f → Stands (xs ++ ys) f
        back (inl h) = parsed (either (parse_faults ss) (parse_faults ts) f (subst (λ l. Stands l f) (flat_map-append (symbol_fault scope) ss ts) h))
        back (inr h) = read (either (read_faults us) (read_faults vs) f (subst (λ l. Stands l f) (flat_map-append (use_faults scope) us vs) h))

    -- the same uses, written otherwise
    again : (xs : Faults) (ss : List Symbol) (us vs : List Use) → us ≡ vs → Parted xs ss us → Parted xs ss vs
    again xs ss us vs e h = subst (Parted xs ss) e h

    slot_parted : (s : Slot) → Parted (slot_faults scope s) (slot_symbols s) (flat_map expr_uses (slot_exprs s))
    slot_parted s =
        parted (what_fault scope s.what s.span.from) (place_faults scope s.place) (slot_symbols s) (flat_map expr_uses (slot_exprs s))
        (what_parses s.what s.span.from) (place_reads s.place)

    expr_parted : (e : Expr) → Parted (expr_faults scope e) [] (expr_uses e)
    expr_parted e = parted [] (expr_faults scope e) [] (expr_uses e) refl (expr_reads e)

    case_parted : (c : Case) → Parted (case_faults scope c) (case_symbols c) (flat_map expr_uses (case_exprs c))
    case_parted c =
        joined (expr_faults scope c.cond) (slot_faults scope c.slot) [] (slot_symbols c.slot) (expr_uses c.cond) (flat_map expr_uses (slot_exprs c.slot))
        (expr_parted c.cond) (slot_parted c.slot)

    cases_parted : (cs : List Case) → Parted (flat_map (case_faults scope) cs) (flat_map case_symbols cs) (flat_map expr_uses (flat_map case_exprs cs))
    cases_parted [] = parted [] [] [] [] refl refl
    cases_parted (c ∷ cs) =
        again (case_faults scope c ++ flat_map (case_faults scope) cs) (case_symbols c ++ flat_map case_symbols cs)
        (flat_map expr_uses (case_exprs c) ++ flat_map expr_uses (flat_map case_exprs cs)) (flat_map expr_uses (case_exprs c ++ flat_map case_exprs cs))
        (sym (flat_map-append expr_uses (case_exprs c) (flat_map case_exprs cs)))
        (joined (case_faults scope c) (flat_map (case_faults scope) cs) (case_symbols c) (flat_map case_symbols cs)
        (flat_map expr_uses (case_exprs c)) (flat_map expr_uses (flat_map case_exprs cs)) (case_parted c) (cases_parted cs))

    pick_parted : (cs : List Case) (s : Slot) → Parted (flat_map (case_faults scope) cs ++ slot_faults scope s) (flat_map case_symbols cs ++ slot_symbols s)
        (flat_map expr_uses (flat_map case_exprs cs ++ slot_exprs s))
    pick_parted cs s =
        again (flat_map (case_faults scope) cs ++ slot_faults scope s) (flat_map case_symbols cs ++ slot_symbols s)
        (flat_map expr_uses (flat_map case_exprs cs) ++ flat_map expr_uses (slot_exprs s)) (flat_map expr_uses (flat_map case_exprs cs ++ slot_exprs s))
        (sym (flat_map-append expr_uses (flat_map case_exprs cs) (slot_exprs s)))
        (joined (flat_map (case_faults scope) cs) (slot_faults scope s) (flat_map case_symbols cs) (slot_symbols s)
        (flat_map expr_uses (flat_map case_exprs cs)) (flat_map expr_uses (slot_exprs s)) (cases_parted cs) (slot_parted s))

-- ---- terms

pub data Cause (scope : Scope) (t : Term) (f : NameFault) : Type 0 where
  Parses : Stands (flat_map (symbol_fault scope) (parsed_by t)) f → Cause scope t f
  Sets : Stands (flat_map (set_fault scope) (set_by t)) f → Cause scope t f
  Loops : Stands (flat_map (var_fault scope) (loop_of t)) f → Cause scope t f
  Reads : Stands (flat_map (use_faults scope) (uses_in t)) f → Cause scope t f
  Within : Stands (flat_map (use_faults (within scope t)) (item_uses t)) f → Cause scope t f

module _ (scope : Scope) (f : NameFault) where
  abbrev In : Faults → Type 0
  In xs = Stands xs f

  parts : (t : Term) → Stands (parse_faults scope (parsed_by t)) f ⊎ Stands (read_faults scope (uses_in t)) f → Cause scope t f
  parts t (inl h) = Parses h
  parts t (inr h) = Reads h

  moved : (xs ys : Faults) → xs ≡ ys → Stands xs f → Stands ys f
  moved xs ys e h = subst (λ l. Stands l f) e h

  many_parted : (at : _) (item : Ident) (p : Place) → Stands (term_faults scope (term.Many at item p)) f ↔ (Stands (parse_faults scope (parsed_by
      (term.Many at item p))) f ⊎ Stands (read_faults scope (uses_in (term.Many at item p))) f)
  many_parted at item p =
      parted scope f (rule_fault scope item.name item.span.from) (place_faults scope p) (parsed_by (term.Many at item p)) (uses_in (term.Many at item p))
      (name_parses scope item) (place_reads scope p)

  set_cause : (name : Ident) (value : Expr) → In (set_fault scope name) ⊎ In (expr_faults scope value) → Cause scope (term.Set name value) f
  set_cause name value (inl h) = Sets (left (set_fault scope name) [] f h)
  set_cause name value (inr h) = Reads (moved (expr_faults scope value) (read_faults scope (flat_map expr_uses (value ∷ []))) (one_reads scope value) h)

  module _ (var : Ident) (first last : Expr) (item : Ident) (from to : Expr) where
    abbrev array : Term
    array = term.Repeat var first last item from to

    abbrev own : Scope
    own = inside scope var.name item.name

    abbrev bounds : Faults
    bounds = ends_faults scope first last

    abbrev called : Faults
    called = rule_fault scope item.name item.span.from

    abbrev ends : Faults
    ends = ends_faults own from to

    fourth : In called ⊎ In ends → Cause scope array f
    fourth (inl h) = Parses (moved called (parse_faults scope (parsed_by array)) (name_parses scope item) h)
    fourth (inr h) = Within (moved ends (read_faults own (item_uses array)) (ends_read own from to) h)

    third : In bounds ⊎ In (called ++ ends) → Cause scope array f
    third (inl h) = Reads (moved bounds (read_faults scope (uses_in array)) (ends_read scope first last) h)
    third (inr h) = fourth (either called ends f h)

    second : In (var_fault scope var) ⊎ In (bounds ++ (called ++ ends)) → Cause scope array f
    second (inl h) = Loops (left (var_fault scope var) [] f h)
    second (inr h) = third (either bounds (called ++ ends) f h)

    of_array : Cause scope array f → In (term_faults scope array)
    of_array (Parses h) =
        right (var_fault scope var) (bounds ++ (called ++ ends)) f (right bounds (called ++ ends) f (left called ends f
        (moved (parse_faults scope (parsed_by array)) called (sym (name_parses scope item)) h)))
    of_array (Sets h) = absurd h
    of_array (Loops h) = left (var_fault scope var) (bounds ++ (called ++ ends)) f (moved (var_fault scope var ++ []) (var_fault scope var) (append-nil
        (var_fault scope var)) h)
    of_array (Reads h) =
        right (var_fault scope var) (bounds ++ (called ++ ends)) f (left bounds (called ++ ends) f
        (moved (read_faults scope (uses_in array)) bounds (sym (ends_read scope first last)) h))
    of_array (Within h) =
        right (var_fault scope var) (bounds ++ (called ++ ends)) f (right bounds (called ++ ends) f (right called ends f
        (moved (read_faults own (item_uses array)) ends (sym (ends_read own from to)) h)))

  pub cause : (t : Term) → Stands (term_faults scope t) f → Cause scope t f
  cause (term.Slot slot) h = parts (term.Slot slot) ((slot_parted scope f slot).0 h)
  cause (term.Set name value) h = set_cause name value (either (set_fault scope name) (expr_faults scope value) f h)
  cause (term.Test at test) h = Reads (moved (expr_faults scope test) (read_faults scope (flat_map expr_uses (test ∷ []))) (one_reads scope test) h)
  cause (term.Repeat var first last item from to) h =
      second var first last item from to (either (var_fault scope var) (bounds var first last item from to ++ (called var first last item from to
      ++ ends var first last item from to)) f h)
  cause (term.Many at item p) h = parts (term.Many at item p) ((many_parted at item p).0 h)
  cause (term.Pick at cases other) h = parts (term.Pick at cases other) ((pick_parted scope f cases other).0 h)

  pub caused : (t : Term) → Cause scope t f → Stands (term_faults scope t) f
  caused (term.Slot slot) (Parses h) = (slot_parted scope f slot).1 (inl h)
  caused (term.Slot slot) (Reads h) = (slot_parted scope f slot).1 (inr h)
  caused (term.Slot slot) (Sets h) = absurd h
  caused (term.Slot slot) (Loops h) = absurd h
  caused (term.Slot slot) (Within h) = absurd h
  caused (term.Set name value) (Sets h) = left (set_fault scope name) (expr_faults scope value) f
      (moved (set_fault scope name ++ []) (set_fault scope name) (append-nil (set_fault scope name)) h)
  caused (term.Set name value) (Reads h) = right (set_fault scope name) (expr_faults scope value) f
      (moved (read_faults scope (flat_map expr_uses (value ∷ []))) (expr_faults scope value) (sym (one_reads scope value)) h)
  caused (term.Set name value) (Parses h) = absurd h
  caused (term.Set name value) (Loops h) = absurd h
  caused (term.Set name value) (Within h) = absurd h
  caused (term.Test at test) (Reads h) = moved (read_faults scope (flat_map expr_uses (test ∷ []))) (expr_faults scope test) (sym (one_reads scope test)) h
  caused (term.Test at test) (Parses h) = absurd h
  caused (term.Test at test) (Sets h) = absurd h
  caused (term.Test at test) (Loops h) = absurd h
  caused (term.Test at test) (Within h) = absurd h
  caused (term.Repeat var first last item from to) c = of_array var first last item from to c
  caused (term.Many at item p) (Parses h) = (many_parted at item p).1 (inl h)
  caused (term.Many at item p) (Reads h) = (many_parted at item p).1 (inr h)
  caused (term.Many at item p) (Sets h) = absurd h
  caused (term.Many at item p) (Loops h) = absurd h
  caused (term.Many at item p) (Within h) = absurd h
  caused (term.Pick at cases other) (Parses h) = (pick_parted scope f cases other).1 (inl h)
  caused (term.Pick at cases other) (Reads h) = (pick_parted scope f cases other).1 (inr h)
  caused (term.Pick at cases other) (Sets h) = absurd h
  caused (term.Pick at cases other) (Loops h) = absurd h
  caused (term.Pick at cases other) (Within h) = absurd h
