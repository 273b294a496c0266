-- The faults of a text are those that hold of their places, and the first of them is told.
use Rattle.std.proofs.Common.{◌≡◌, ◌↔◌, ℕ, ◌≤◌, Bool, true, false, ◌||◌, ◌&&◌, ◌⊎◌, inl, inr, nat_lt, nat_eq, List, [], ◌∷◌, ◌++◌, take, map, flat_map}
use Rattle.std.proofs.Common.{Option, Some, None, is_some, slice_get, refl, sym, ap, subst, ◌∙◌, cond, bytes_eq, arith, true≢false}
use Rattle.std.specs.List.{AllByRecursion, list_any, list_all}
use Rattle.std.proofs.lemmas.Bool.Decides.{nat_tests}
use Rattle.ipg_ast.specs.declared.grammar.Grammar.{Grammar}
use Rattle.ipg_ast.specs.declared.grammar.Ident.{Ident}
use Rattle.ipg_ast.specs.declared.grammar.Term.{Term}
use Rattle.ipg_ast.specs.declared.grammar.Term.TheVariants as term
use Rattle.ipg_ast.specs.declared.grammar.Field.{Field}
use Rattle.ipg_ast.specs.declared.grammar.Field.TheVariants as field
use Rattle.ipg_core.specs.declared.grammar.Primitive.{Primitive}
use Rattle.ipg_core.specs.declared.grammar.Sym.{Sym}
use Rattle.ipg_core.specs.declared.grammar.Sym.TheVariants.{Prim, Rule}
use Rattle.ipg_names.specs.declared.fault.NameFault.{NameFault}
use Rattle.ipg_names.specs.declared.fault.NameFault.TheVariants.{DuplicateRule, UnknownRule, DuplicateAttr, UnknownAttr, PartAttr, NoOccurrence, Memory}
use Rattle.ipg_names_scope.specs.declared.marks.Family.TheVariants.{Calls, Items}
use Rattle.ipg_names_scope.specs.Roster.{ListedRule, name_of, head_at, alts_of, roster_of}
use Rattle.ipg_core.specs.Lines.{primitive_of}
use Rattle.ipg_names_scope.specs.Primitives.{primitive_has}
use Rattle.ipg_names_scope.specs.Terms.{has, sets}
use Rattle.ipg_names_scope.specs.Nearest.{nearest}
use Rattle.ipg_names_scope.specs.Names.{attr_names}
use Rattle.ipg_names_scope.specs.Scope.{Scope, is_named, is_var, sym_named, alt_sets, alts_at}
use Rattle.ipg_names.specs.Fault.{number_of, place_of, is_before, first_of}
use Rattle.ipg_names.specs.Faults.{Faults, head_faults, rules_faults, unless, rule_fault, occurrence_fault, field_fault}
use Rattle.ipg_names.specs.Faults.{attr_fault, reference_fault, is_known, set_fault, var_fault, faults_of}
use Rattle.ipg_names.specs.Told.{Stands, IsFirst}
use Rattle.ipg_names.specs.Uses.{Use, Bare, Part, Item, Symbol, symbol_of, Read, set_by, loop_of, uses_in, item_uses}
use Rattle.ipg_names.specs.Uses.{all_uses, parsed_by, referred_by, symbols_in, field_reads, read_by, reads_in}
use Rattle.ipg_names.specs.Refusals.{TermOf, terms_around, where_of, IsRuleFor, IsPrimitive, IsEarlierName, IsDuplicateRule, IsUnknownRule, IsDuplicateAttr}
use Rattle.ipg_names.specs.Refusals.{IsLoop, IsFreeName, IsUnknownName, IsPrimitiveWithout, IsRuleWithout, IsUnknownField, IsUnknownAttr, IsPartAttr}
use Rattle.ipg_names.specs.Refusals.{IsPartOfNone, IsFreeItem, IsItemOfNone, IsNoOccurrence, IsRefusal, IsFirstRefusal}
use Rattle.ipg_names.proofs.Bytes.{same_bytes, bytes_same}
use Rattle.ipg_names.proofs.Lists.{any_map}
use Rattle.ipg_names.proofs.Found.{any_found, any_at, get_take, take_get}
use Rattle.ipg_names.proofs.Stands.{left, right, either, via, of_via, only, when_is, is_when, unless_is, is_unless}
use Rattle.ipg_names.proofs.Told.{first_told, scope_at, TermFault, clash, Head, heads_which, heads_there, told_where, term_told}
use Rattle.ipg_names.proofs.Causes.{use_faults, symbol_fault, own_items, own_loop, within, Cause, Parses, Sets, Loops, Reads, Within, cause, caused}
use Rattle.ipg_names.proofs.Alone.{taken_below, alone, none_near}
use Rattle.ipg_names.proofs.Meanings.{Meant, meant, rule_meant, primitive_meant, unknown, unmeant}

or_none : (a b : Bool) → (a || b) ≡ false → (a ≡ false) × (b ≡ false)
or_none true b h = absurd (true≢false h)
or_none false b h = (refl, h)

none_or : (a b : Bool) → a ≡ false → b ≡ false → (a || b) ≡ false
none_or a b h k = ap (λ x. x || b) h ∙ k

or_some : (a b : Bool) → (a || b) ≡ true → (a ≡ true) ⊎ (b ≡ true)
or_some true b h = inl refl
or_some false b h = inr h

some_left : (a b : Bool) → a ≡ true → (a || b) ≡ true
some_left a b h = ap (λ x. x || b) h

some_right : (a b : Bool) → b ≡ true → (a || b) ≡ true
some_right true b h = refl
some_right false b h = h

or_false : (b : Bool) → (b || false) ≡ b
or_false true = refl
or_false false = refl

-- ---- the item interval of an array

loop_var : (t : Term) (name : List ℕ) → IsLoop t name → is_var (own_loop t None) name ≡ true
loop_var (term.Repeat var first last item from to) name w =
    ap (bytes_eq name) (ap (λ i. i.name) (sym (only var w.0 w.1)) ∙ sym w.2) ∙ bytes_same name
loop_var (term.Slot slot) name w = absurd w.1
loop_var (term.Set head value) name w = absurd w.1
loop_var (term.Test at test) name w = absurd w.1
loop_var (term.Many at item interval) name w = absurd w.1
loop_var (term.Pick at cases other) name w = absurd w.1

no_loop : (t : Term) (name : List ℕ) → is_var (own_loop t None) name ≡ false → IsLoop t name → ⊥
no_loop t name h w = true≢false (sym (loop_var t name w) ∙ h)

var_loop : (t : Term) (name : List ℕ) → is_var (own_loop t None) name ≡ true → IsLoop t name
var_loop (term.Repeat var first last item from to) name h = (var, inl refl, same_bytes name var.name h)
var_loop (term.Slot slot) name h = absurd (true≢false (sym h))
var_loop (term.Set head value) name h = absurd (true≢false (sym h))
var_loop (term.Test at test) name h = absurd (true≢false (sym h))
var_loop (term.Many at item interval) name h = absurd (true≢false (sym h))
var_loop (term.Pick at cases other) name h = absurd (true≢false (sym h))

not_var : (t : Term) (name : List ℕ) → (IsLoop t name → ⊥) → is_var (own_loop t None) name ≡ false
not_var t name never = by (is_var (own_loop t None) name) refl
  where
    by : (b : Bool) → is_var (own_loop t None) name ≡ b → b ≡ false
    by true e = absurd (never (var_loop t name e))
    by false e = refl

cond_none : (b : Bool) (u : ℕ) (found : Option ℕ) → is_some (cond b (Some u) found) ≡ false → (b ≡ false) × (is_some found ≡ false)
cond_none true u found h = absurd (true≢false h)
cond_none false u found h = (refl, h)

own_none : (t : Term) (x : Use) (name : List ℕ) (u : ℕ) (found : Option ℕ) → Stands (item_uses t) x → is_some (own_items t name u found) ≡ false
    → (has Items name t ≡ false) × (is_some found ≡ false)
own_none (term.Repeat var first last item from to) x name u found st h =
    let w = cond_none (bytes_eq name item.name) u found h in
    (or_false (bytes_eq name item.name) ∙ w.0, w.1)
own_none (term.Slot slot) x name u found st h = absurd st
own_none (term.Set head value) x name u found st h = absurd st
own_none (term.Test at test) x name u found st h = absurd st
own_none (term.Many at item interval) x name u found st h = absurd st
own_none (term.Pick at cases other) x name u found st h = absurd st

none_own : (t : Term) (name : List ℕ) (u : ℕ) (found : Option ℕ) → has Items name t ≡ false → is_some found ≡ false
    → is_some (own_items t name u found) ≡ false
none_own (term.Repeat var first last item from to) name u found h k =
    ap (λ b. is_some (cond b (Some u) found)) (sym (or_false (bytes_eq name item.name)) ∙ h) ∙ k
none_own (term.Slot slot) name u found h k = k
none_own (term.Set head value) name u found h k = k
none_own (term.Test at test) name u found h k = k
none_own (term.Many at item interval) name u found h k = k
none_own (term.Pick at cases other) name u found h k = k

-- ---- heads

module _ (g : Grammar) where
  abbrev roster : List ListedRule
  roster = roster_of g

  -- a name among those of the rules before
  earlier_name : (rule : ℕ) (name : List ℕ) → list_any (bytes_eq name) (map name_of (take rule roster)) ≡ true → IsEarlierName g rule name
  earlier_name rule name h =
      let w = any_found (is_named name) (take rule roster) (sym (any_map (bytes_eq name) name_of (take rule roster)) ∙ h) in
      record {
        earlier = w.0;
        before = taken_below rule roster w.0 w.1.item w.1.is;
        entry = w.1.item;
        is_rule = get_take (is_named name) rule roster w.0 w.1.item w.1.is;
        has_name = sym (same_bytes name (name_of w.1.item) w.1.passes);
      }

  name_earlier : (rule : ℕ) (name : List ℕ) → IsEarlierName g rule name → list_any (bytes_eq name) (map name_of (take rule roster)) ≡ true
  name_earlier rule name w =
      any_map (bytes_eq name) name_of (take rule roster)
      ∙ any_at (is_named name) (take rule roster) w.earlier w.entry (take_get (is_named name) rule roster w.earlier w.entry w.before w.is_rule)
      (ap (bytes_eq name) w.has_name ∙ bytes_same name)

  duplicate : (f : NameFault) (w : Head [] roster f) → IsDuplicateRule g (head_at w.entry)
  duplicate f w = record {
    rule = w.number;
    entry = w.entry;
    is_rule = w.is_entry;
    is_at = refl;
    twice = by (or_some (list_any (bytes_eq (name_of w.entry)) (map name_of (take w.number roster))) (is_some
        (primitive_of (name_of w.entry))) w.twice);
  }
    where
      by : (list_any (bytes_eq (name_of w.entry)) (map name_of (take w.number roster)) ≡ true) ⊎ (is_some (primitive_of (name_of w.entry)) ≡ true)
          → IsEarlierName g w.number (name_of w.entry) ⊎ IsPrimitive (name_of w.entry)
      by (inl h) = inl (earlier_name w.number (name_of w.entry) h)
      by (inr h) = inr h

  head_refused : (f : NameFault) → Head [] roster f → IsRefusal g f
  head_refused f w = subst (IsRefusal g) (sym w.fault_is) (duplicate f w)

  head_stands : (at : ℕ) → IsDuplicateRule g at → Stands (head_faults [] roster) (DuplicateRule at)
  head_stands at w = heads_there [] roster (DuplicateRule at) w.rule w.entry w.is_rule (by w.twice) (ap DuplicateRule (sym w.is_at))
    where
      by : IsEarlierName g w.rule (name_of w.entry) ⊎ IsPrimitive (name_of w.entry) → clash (map name_of (take w.rule roster)) w.entry ≡ true
      by (inl k) = some_left (list_any (bytes_eq (name_of w.entry)) (map name_of (take w.rule roster))) (is_some
          (primitive_of (name_of w.entry))) (name_earlier w.rule (name_of w.entry) k)
      by (inr k) = some_right (list_any (bytes_eq (name_of w.entry)) (map name_of (take w.rule roster))) (is_some (primitive_of (name_of w.entry))) k

  duplicate_stands : (at : ℕ) → IsDuplicateRule g at → Stands (faults_of g) (DuplicateRule at)
  duplicate_stands at w = left (head_faults [] roster) (rules_faults roster (attr_names g) 0 roster) (DuplicateRule at) (head_stands at w)

  -- some rule's name is taken, or none is
  decided : ((at : ℕ) → IsDuplicateRule g at → ⊥) ⊎ ((at : ℕ) × IsDuplicateRule g at)
  decided = by (head_faults [] roster) refl
    where
      by : (faults : Faults) → head_faults [] roster ≡ faults → ((at : ℕ) → IsDuplicateRule g at → ⊥) ⊎ ((at : ℕ) × IsDuplicateRule g at)
      by [] e = inl (λ at w. subst (λ l. Stands l (DuplicateRule at)) e (head_stands at w))
      by (f ∷ faults) e =
          let w = heads_which [] roster f (subst (λ l. Stands l f) (sym e) (inl refl)) in
          inr (head_at w.entry, duplicate f w)

  -- ---- a fault of a term holds of its place

  abbrev scope : TermOf g → Scope
  scope here = scope_at here

  abbrev inner : TermOf g → Scope
  inner here = within (scope_at here) here.term

  abbrev means : TermOf g → List ℕ → Option Sym
  means here name = sym_named roster (where_of here) name

  -- what is read stands in the term
  symbol_there : (here : TermOf g) (x : Use) (s : Symbol) → Stands (all_uses here.term) x → Stands (referred_by x) s → Stands (symbols_in here.term) s
  symbol_there here x s st h = right (parsed_by here.term) (flat_map referred_by (all_uses here.term)) s (of_via referred_by (all_uses here.term) x s st h)

  field_there : (here : TermOf g) (x : Use) (r : Read) → Stands (all_uses here.term) x → Stands (read_by x) r → Stands (reads_in here.term) r
  field_there here x r st h = of_via read_by (all_uses here.term) x r st h

  from_uses : (here : TermOf g) (x : Use) → Stands (uses_in here.term) x → Stands (all_uses here.term) x
  from_uses here x st = left (uses_in here.term) (item_uses here.term) x st

  from_items : (here : TermOf g) (x : Use) → Stands (item_uses here.term) x → Stands (all_uses here.term) x
  from_items here x st = right (uses_in here.term) (item_uses here.term) x st

  again_refused : (here : TermOf g) (i : Ident) (f : NameFault) → Stands (set_by here.term) i → Stands (set_fault (scope here) i) f → IsRefusal g f
  again_refused here i f st h =
      let w = when_is (sets (take here.number (terms_around here)) i.name) (DuplicateAttr i.span.from) f h in
      subst (IsRefusal g) (sym w.1) (inl (record { here = here; name = i; stands = st; is_at = refl; earlier = w.0 }))

  loop_refused : (here : TermOf g) (i : Ident) (f : NameFault) → Stands (loop_of here.term) i → Stands (var_fault (scope here) i) f → IsRefusal g f
  loop_refused here i f st h =
      let w = when_is (sets (terms_around here) i.name) (DuplicateAttr i.span.from) f h in
      subst (IsRefusal g) (sym w.1) (inr (record { here = here; name = i; stands = st; is_at = refl; own = w.0 }))

  name_refused : (here : TermOf g) (i : Ident) (f : NameFault) (loop : Bool) → (loop ≡ false → IsFreeName here.term i)
      → Stands (unless (sets (terms_around here) i.name || (loop || sets here.entry.outer i.name)) (UnknownAttr i.span.from)) f → IsRefusal g f
  name_refused here i f loop free h =
      let own = sets (terms_around here) i.name in
      let outer = sets here.entry.outer i.name in
      let w = unless_is (own || (loop || outer)) (UnknownAttr i.span.from) f h in
      let a = or_none own (loop || outer) w.0 in
      let b = or_none loop outer a.1 in
      subst (IsRefusal g) (sym w.1) (inl (record { here = here; name = i; stands = free b.0; is_at = refl; not_own = a.0; not_holders = b.1 }))

  module _ (apart : (at : ℕ) → IsDuplicateRule g at → ⊥) where
    symbol_refused : (here : TermOf g) (s : Symbol) (f : NameFault) → Stands (symbols_in here.term) s → Stands (symbol_fault (scope here) s) f → IsRefusal g f
    symbol_refused here s f st h =
        let w = unless_is (is_some (means here s.name)) (UnknownRule s.at) f h in
        let no = unknown g apart (where_of here) s.name w.0 in
        subst (IsRefusal g) (sym w.1) (record { here = here; symbol = s; stands = st; is_at = refl; no_primitive = no.0; no_rule = no.1 })

    field_refused : (here : TermOf g) (r : Read) (f : NameFault) (s : Sym) → Stands (reads_in here.term) r → means here r.of ≡ Some s
        → Stands (attr_fault (scope here) s r.attr) f → IsRefusal g f
    field_refused here r f s st e h = by (meant g apart (where_of here) r.of s e)
      where
        told : Sym → Type 0
        told t = Stands (attr_fault (scope here) t r.attr) f

        of_primitive : (p : Primitive) → primitive_of r.of ≡ Some p → (b : Bool) → primitive_has p r.attr.name ≡ b
            → Stands (cond b (unless b (PartAttr r.attr.span.from)) (UnknownAttr r.attr.span.from ∷ [])) f → IsRefusal g f
        of_primitive p is true has k = absurd k
        of_primitive p is false has k = subst (IsRefusal g) (sym (only (UnknownAttr r.attr.span.from) f k)) (inr (record {
          here = here;
          read = r;
          stands = st;
          is_at = refl;
          without = inl (record { primitive = p; is = is; without = has });
        }))

        of_rule : (entry : ListedRule) → IsRuleFor g (where_of here) r.of entry → (b c : Bool) → list_any (alt_sets r.attr.name) (alts_of entry) ≡ b
            → list_all (alt_sets r.attr.name) (alts_of entry) ≡ c
            → Stands (cond b (unless c (PartAttr r.attr.span.from)) (UnknownAttr r.attr.span.from ∷ [])) f → IsRefusal g f
        of_rule entry named false c any all k = subst (IsRefusal g) (sym (only (UnknownAttr r.attr.span.from) f k)) (inr (record {
          here = here;
          read = r;
          stands = st;
          is_at = refl;
          without = inr (record { entry = entry; named = named; none = any });
        }))
        of_rule entry named true true any all k = absurd k
        of_rule entry named true false any all k = subst (IsRefusal g) (sym (only (PartAttr r.attr.span.from) f k)) (record {
          here = here;
          read = r;
          stands = st;
          is_at = refl;
          entry = entry;
          named = named;
          some = any;
          not_all = all;
        })

        at_rule : (n : ℕ) (entry : ListedRule) → slice_get roster n ≡ Some entry → told (Rule n)
            → Stands (cond (list_any (alt_sets r.attr.name) (alts_of entry)) (unless (list_all (alt_sets r.attr.name) (alts_of entry))
            (PartAttr r.attr.span.from)) (UnknownAttr r.attr.span.from ∷ [])) f
        at_rule n entry is k =
            subst (λ o. Stands (cond (list_any (alt_sets r.attr.name) (alts_at o)) (unless (list_all (alt_sets r.attr.name) (alts_at o))
            (PartAttr r.attr.span.from)) (UnknownAttr r.attr.span.from ∷ [])) f) is k

        by : Meant g apart (where_of here) r.of s → IsRefusal g f
        by (inl w) = of_primitive w.0 w.1 (primitive_has w.0 r.attr.name) refl (subst told w.2 h)
        by (inr w) = of_rule w.1 w.3 (list_any (alt_sets r.attr.name) (alts_of w.1)) (list_all (alt_sets r.attr.name) (alts_of w.1)) refl refl
            (at_rule w.0 w.1 w.2 (subst told w.4 h))

    reference_refused : (here : TermOf g) (referred : Option ℕ) (of : Ident) (fl : Field) (f : NameFault) → Stands (symbols_in here.term) (symbol_of of)
        → ((r : Read) → Stands (field_reads of fl) r → Stands (reads_in here.term) r) → (is_some referred ≡ false → IsNoOccurrence g of.span.from)
        → Stands (reference_fault (scope here) referred of fl) f → IsRefusal g f
    reference_refused here referred of fl f symbol reads none h =
        by (either (rule_fault (scope here) of.name of.span.from) (occurrence_fault referred of.span.from
        ++ field_fault (scope here) (means here of.name) fl) f h)
      where
        of_field : (o : Option Sym) → means here of.name ≡ o → (x : Field) → ((r : Read) → Stands (field_reads of x) r → Stands (reads_in here.term) r)
            → Stands (field_fault (scope here) o x) f → IsRefusal g f
        of_field None e x st k = absurd k
        of_field (Some s) e (field.Id i) st k =
            field_refused here (record { of = of.name; attr = i }) f s (st (record { of = of.name; attr = i }) (inl refl)) e k
        of_field (Some s) e field.Start st k = absurd k
        of_field (Some s) e field.End st k = absurd k

        rest : Stands (occurrence_fault referred of.span.from) f ⊎ Stands (field_fault (scope here) (means here of.name) fl) f → IsRefusal g f
        rest (inl k) =
            let w = unless_is (is_some referred) (NoOccurrence of.span.from) f k in
            subst (IsRefusal g) (sym w.1) (none w.0)
        rest (inr k) = of_field (means here of.name) refl fl reads k

        by : Stands (rule_fault (scope here) of.name of.span.from) f ⊎ Stands (occurrence_fault referred of.span.from
            ++ field_fault (scope here) (means here of.name) fl) f → IsRefusal g f
        by (inl k) = symbol_refused here (symbol_of of) f symbol k
        by (inr k) = rest (either (occurrence_fault referred of.span.from) (field_fault (scope here) (means here of.name) fl) f k)

    part_refused : (here : TermOf g) (of : Ident) (fl : Field) (f : NameFault) → Stands (all_uses here.term) (Part of fl)
        → Stands (reference_fault (scope here) (nearest (has Calls of.name) (terms_around here) here.number) of fl) f → IsRefusal g f
    part_refused here of fl f st h =
        reference_refused here (nearest (has Calls of.name) (terms_around here) here.number) of fl f
        (symbol_there here (Part of fl) (symbol_of of) st (inl refl))
        (λ r k. field_there here (Part of fl) r st k)
        (λ none. inl (record {
          here = here;
          of = of;
          field = fl;
          stands = st;
          is_at = refl;
          alone = alone (has Calls of.name) (terms_around here) here.number none;
        }))
        h

    item_refused : (here : TermOf g) (referred : Option ℕ) (of : Ident) (fl : Field) (f : NameFault) → Stands (all_uses here.term) (Item of fl)
        → (is_some referred ≡ false → IsFreeItem here.term of fl × (is_some (nearest (has Items of.name) (terms_around here) here.number) ≡ false))
        → Stands (reference_fault (scope here) referred of fl) f → IsRefusal g f
    item_refused here referred of fl f st free h =
        reference_refused here referred of fl f (symbol_there here (Item of fl) (symbol_of of) st (inl refl)) (λ r k. field_there here (Item of fl) r st k)
        (λ none. inr (record {
          here = here;
          of = of;
          field = fl;
          stands = (free none).0;
          is_at = refl;
          alone = alone (has Items of.name) (terms_around here) here.number (free none).1;
        }))
        h

    read_refused : (here : TermOf g) (x : Use) (f : NameFault) → Stands (uses_in here.term) x → Stands (use_faults (scope here) x) f → IsRefusal g f
    read_refused here (Bare i) f st h = name_refused here i f false (λ e. inl st) h
    read_refused here (Part of fl) f st h = part_refused here of fl f (from_uses here (Part of fl) st) h
    read_refused here (Item of fl) f st h =
        item_refused here (nearest (has Items of.name) (terms_around here) here.number) of fl f (from_uses here (Item of fl) st) (λ none. (inl st, none)) h

    within_refused : (here : TermOf g) (x : Use) (f : NameFault) → Stands (item_uses here.term) x → Stands (use_faults (inner here) x) f → IsRefusal g f
    within_refused here (Bare i) f st h = name_refused here i f (is_var (own_loop here.term None) i.name) (λ e. inr (st, no_loop here.term i.name e)) h
    within_refused here (Part of fl) f st h = part_refused here of fl f (from_items here (Part of fl) st) h
    within_refused here (Item of fl) f st h =
        let near = nearest (has Items of.name) (terms_around here) here.number in
        item_refused here (own_items here.term of.name here.number near) of fl f (from_items here (Item of fl) st)
        (λ none. let w = own_none here.term (Item of fl) of.name here.number near st none in (inr (st, w.0), w.1)) h

    cause_refused : (here : TermOf g) (f : NameFault) → Cause (scope here) here.term f → IsRefusal g f
    cause_refused here f (Parses h) =
        let w = via (symbol_fault (scope here)) (parsed_by here.term) f h in
        symbol_refused here w.0 f (left (parsed_by here.term) (flat_map referred_by (all_uses here.term)) w.0 w.1) w.2
    cause_refused here f (Sets h) = let w = via (set_fault (scope here)) (set_by here.term) f h in again_refused here w.0 f w.1 w.2
    cause_refused here f (Loops h) = let w = via (var_fault (scope here)) (loop_of here.term) f h in loop_refused here w.0 f w.1 w.2
    cause_refused here f (Reads h) = let w = via (use_faults (scope here)) (uses_in here.term) f h in read_refused here w.0 f w.1 w.2
    cause_refused here f (Within h) = let w = via (use_faults (inner here)) (item_uses here.term) f h in within_refused here w.0 f w.1 w.2

    standing_refused : (f : NameFault) → Stands (faults_of g) f → IsRefusal g f
    standing_refused f h = by (told_where g f h)
      where
        by : Head [] roster f ⊎ TermFault g f → IsRefusal g f
        by (inl w) = head_refused f w
        by (inr w) = cause_refused w.here f (cause (scope w.here) f w.here.term w.stands)

  -- ---- what holds of a place is a fault of the text

  put : (here : TermOf g) (f : NameFault) → Cause (scope here) here.term f → Stands (faults_of g) f
  put here f c = term_told g f (record { here = here; stands = caused (scope here) f here.term c })

  put_read : (here : TermOf g) (x : Use) (f : NameFault) → Stands (uses_in here.term) x → Stands (use_faults (scope here) x) f → Stands (faults_of g) f
  put_read here x f st h = put here f (Reads (of_via (use_faults (scope here)) (uses_in here.term) x f st h))

  put_within : (here : TermOf g) (x : Use) (f : NameFault) → Stands (item_uses here.term) x → Stands (use_faults (inner here) x) f → Stands (faults_of g) f
  put_within here x f st h = put here f (Within (of_via (use_faults (inner here)) (item_uses here.term) x f st h))

  -- what is a fault inside of the item interval and outside of it
  put_use : (here : TermOf g) (x : Use) (f : NameFault) → Stands (all_uses here.term) x → Stands (use_faults (scope here) x) f
      → Stands (use_faults (inner here) x) f → Stands (faults_of g) f
  put_use here x f st h k = by (either (uses_in here.term) (item_uses here.term) x st)
    where
      by : Stands (uses_in here.term) x ⊎ Stands (item_uses here.term) x → Stands (faults_of g) f
      by (inl s) = put_read here x f s h
      by (inr s) = put_within here x f s k

  module _ (here : TermOf g) (referred : Option ℕ) (of : Ident) (fl : Field) (f : NameFault) where
    abbrev rest_faults : Faults
    rest_faults = occurrence_fault referred of.span.from ++ field_fault (scope here) (means here of.name) fl

    of_symbol : Stands (symbol_fault (scope here) (symbol_of of)) f → Stands (reference_fault (scope here) referred of fl) f
    of_symbol h = left (rule_fault (scope here) of.name of.span.from) rest_faults f h

    of_occurrence : is_some referred ≡ false → f ≡ NoOccurrence of.span.from → Stands (reference_fault (scope here) referred of fl) f
    of_occurrence h e =
        right (rule_fault (scope here) of.name of.span.from) rest_faults f
        (left (occurrence_fault referred of.span.from) (field_fault (scope here) (means here of.name) fl) f
        (is_unless (is_some referred) (NoOccurrence of.span.from) f h e))

    of_read : (r : Read) (s : Sym) → Stands (field_reads of fl) r → means here r.of ≡ Some s → Stands (attr_fault (scope here) s r.attr) f
        → Stands (reference_fault (scope here) referred of fl) f
    of_read r s st e h =
        right (rule_fault (scope here) of.name of.span.from) rest_faults f
        (right (occurrence_fault referred of.span.from) (field_fault (scope here) (means here of.name) fl) f (by fl st))
      where
        at : (i : Ident) → r ≡ record { of = of.name; attr = i } → Stands (field_fault (scope here) (means here of.name) (field.Id i)) f
        at i same =
            subst (λ o. Stands (field_fault (scope here) o (field.Id i)) f) (sym (ap (means here) (sym (ap (λ x. x.of) same)) ∙ e))
            (subst (λ x. Stands (attr_fault (scope here) s x.attr) f) same h)

        by : (x : Field) → Stands (field_reads of x) r → Stands (field_fault (scope here) (means here of.name) x) f
        by (field.Id i) k = at i (only (record { of = of.name; attr = i }) r k)
        by field.Start k = absurd k
        by field.End k = absurd k

  put_symbol : (here : TermOf g) (s : Symbol) (f : NameFault) → Stands (symbols_in here.term) s → Stands (symbol_fault (scope here) s) f
      → Stands (faults_of g) f
  put_symbol here s f st h = by (either (parsed_by here.term) (flat_map referred_by (all_uses here.term)) s st)
    where
      moved : (of : Ident) → Stands (symbol_of of ∷ []) s → Stands (symbol_fault (scope here) (symbol_of of)) f
      moved of k = subst (λ x. Stands (symbol_fault (scope here) x) f) (only (symbol_of of) s k) h

      of_use : (x : Use) → Stands (all_uses here.term) x → Stands (referred_by x) s → Stands (faults_of g) f
      of_use (Bare i) u k = absurd k
      of_use (Part of fl) u k =
          let near = nearest (has Calls of.name) (terms_around here) here.number in
          let t = of_symbol here near of fl f (moved of k) in
          put_use here (Part of fl) f u t t
      of_use (Item of fl) u k =
          let near = nearest (has Items of.name) (terms_around here) here.number in
          let own = own_items here.term of.name here.number near in
          put_use here (Item of fl) f u (of_symbol here near of fl f (moved of k)) (of_symbol here own of fl f (moved of k))

      by : Stands (parsed_by here.term) s ⊎ Stands (flat_map referred_by (all_uses here.term)) s → Stands (faults_of g) f
      by (inl k) = put here f (Parses (of_via (symbol_fault (scope here)) (parsed_by here.term) s f k h))
      by (inr k) = let w = via referred_by (all_uses here.term) s k in of_use w.0 w.1 w.2

  put_field : (here : TermOf g) (r : Read) (s : Sym) (f : NameFault) → Stands (reads_in here.term) r → means here r.of ≡ Some s
      → Stands (attr_fault (scope here) s r.attr) f → Stands (faults_of g) f
  put_field here r s f st e h = let w = via read_by (all_uses here.term) r st in of_use w.0 w.1 w.2
    where
      of_use : (x : Use) → Stands (all_uses here.term) x → Stands (read_by x) r → Stands (faults_of g) f
      of_use (Bare i) u k = absurd k
      of_use (Part of fl) u k =
          let near = nearest (has Calls of.name) (terms_around here) here.number in
          let t = of_read here near of fl f r s k e h in
          put_use here (Part of fl) f u t t
      of_use (Item of fl) u k =
          let near = nearest (has Items of.name) (terms_around here) here.number in
          let own = own_items here.term of.name here.number near in
          put_use here (Item of fl) f u (of_read here near of fl f r s k e h) (of_read here own of fl f r s k e h)

  put_again : (at : ℕ) → IsDuplicateAttr g at → Stands (faults_of g) (DuplicateAttr at)
  put_again at (inl w) =
      put w.here (DuplicateAttr at) (Sets (of_via (set_fault (scope w.here)) (set_by w.here.term) w.name (DuplicateAttr at) w.stands
      (is_when (sets (take w.here.number (terms_around w.here)) w.name.name) (DuplicateAttr w.name.span.from) (DuplicateAttr at) w.earlier
      (ap DuplicateAttr (sym w.is_at)))))
  put_again at (inr w) =
      put w.here (DuplicateAttr at) (Loops (of_via (var_fault (scope w.here)) (loop_of w.here.term) w.name (DuplicateAttr at) w.stands
      (is_when (sets (terms_around w.here) w.name.name) (DuplicateAttr w.name.span.from) (DuplicateAttr at) w.own (ap DuplicateAttr (sym w.is_at)))))

  put_name : (at : ℕ) → IsUnknownName g at → Stands (faults_of g) (UnknownAttr at)
  put_name at w = by w.stands
    where
      fault : (loop : Bool) → loop ≡ false
          → Stands (unless (sets (terms_around w.here) w.name.name || (loop || sets w.here.entry.outer w.name.name)) (UnknownAttr w.name.span.from))
          (UnknownAttr at)
      fault loop e =
          is_unless (sets (terms_around w.here) w.name.name || (loop || sets w.here.entry.outer w.name.name)) (UnknownAttr w.name.span.from) (UnknownAttr at)
          (none_or (sets (terms_around w.here) w.name.name) (loop || sets w.here.entry.outer w.name.name) w.not_own (none_or loop
          (sets w.here.entry.outer w.name.name) e w.not_holders)) (ap UnknownAttr (sym w.is_at))

      by : IsFreeName w.here.term w.name → Stands (faults_of g) (UnknownAttr at)
      by (inl st) = put_read w.here (Bare w.name) (UnknownAttr at) st (fault false refl)
      by (inr k) = put_within w.here (Bare w.name) (UnknownAttr at) k.0 (fault (is_var (own_loop w.here.term None) w.name.name) (not_var
          w.here.term w.name.name k.1))

  put_part : (at : ℕ) → IsPartOfNone g at → Stands (faults_of g) (NoOccurrence at)
  put_part at w =
      let near = nearest (has Calls w.of.name) (terms_around w.here) w.here.number in
      let t = of_occurrence w.here near w.of w.field (NoOccurrence at)
      (none_near (has Calls w.of.name) (terms_around w.here) w.here.number w.alone) (ap NoOccurrence (sym w.is_at)) in
      put_use w.here (Part w.of w.field) (NoOccurrence at) w.stands t t

  put_item : (at : ℕ) → IsItemOfNone g at → Stands (faults_of g) (NoOccurrence at)
  put_item at w =
      by (none_near (has Items w.of.name) (terms_around w.here) w.here.number w.alone) w.stands
    where
      by : is_some (nearest (has Items w.of.name) (terms_around w.here) w.here.number) ≡ false
          → IsFreeItem w.here.term w.of w.field → Stands (faults_of g) (NoOccurrence at)
      by none (inl st) =
          put_read w.here (Item w.of w.field) (NoOccurrence at) st
          (of_occurrence w.here (nearest (has Items w.of.name) (terms_around w.here) w.here.number) w.of w.field (NoOccurrence at) none
          (ap NoOccurrence (sym w.is_at)))
      by none (inr k) =
          let found = nearest (has Items w.of.name) (terms_around w.here) w.here.number in
          put_within w.here (Item w.of w.field) (NoOccurrence at) k.0
          (of_occurrence w.here (own_items w.here.term w.of.name w.here.number found) w.of w.field (NoOccurrence at)
          (none_own w.here.term w.of.name w.here.number found k.1 none) (ap NoOccurrence (sym w.is_at)))

  put_occurrence : (at : ℕ) → IsNoOccurrence g at → Stands (faults_of g) (NoOccurrence at)
  put_occurrence at (inl w) = put_part at w
  put_occurrence at (inr w) = put_item at w

  module _ (apart : (at : ℕ) → IsDuplicateRule g at → ⊥) where
    put_rule : (at : ℕ) → IsUnknownRule g at → Stands (faults_of g) (UnknownRule at)
    put_rule at w = put_symbol w.here w.symbol (UnknownRule at) w.stands
        (is_unless (is_some (means w.here w.symbol.name)) (UnknownRule w.symbol.at) (UnknownRule at)
        (unmeant g apart (where_of w.here) w.symbol.name w.no_primitive w.no_rule) (ap UnknownRule (sym w.is_at)))

    -- the fault of a field of a rule, by what its alternatives set
    at_rule_told : (here : TermOf g) (r : Read) (n : ℕ) (entry : ListedRule) (f : NameFault) (b c : Bool) → slice_get roster n ≡ Some entry
        → list_any (alt_sets r.attr.name) (alts_of entry) ≡ b → list_all (alt_sets r.attr.name) (alts_of entry) ≡ c
        → Stands (cond b (unless c (PartAttr r.attr.span.from)) (UnknownAttr r.attr.span.from ∷ [])) f → Stands (attr_fault (scope here) (Rule n) r.attr) f
    at_rule_told here r n entry f b c is any all h =
        subst (λ o. Stands (cond (list_any (alt_sets r.attr.name) (alts_at o)) (unless (list_all (alt_sets r.attr.name) (alts_at o))
        (PartAttr r.attr.span.from)) (UnknownAttr r.attr.span.from ∷ [])) f) (sym is)
        (subst (λ x. Stands (cond x (unless (list_all (alt_sets r.attr.name) (alts_of entry)) (PartAttr r.attr.span.from))
        (UnknownAttr r.attr.span.from ∷ [])) f) (sym any)
        (subst (λ x. Stands (cond b (unless x (PartAttr r.attr.span.from)) (UnknownAttr r.attr.span.from ∷ [])) f) (sym all) h))

    put_unknown : (at : ℕ) → IsUnknownField g at → Stands (faults_of g) (UnknownAttr at)
    put_unknown at w = by w.without
      where
        by : IsPrimitiveWithout w.read.of w.read.attr.name ⊎ IsRuleWithout g (where_of w.here) w.read.of w.read.attr.name
            → Stands (faults_of g) (UnknownAttr at)
        by (inl k) = put_field w.here w.read (Prim k.primitive) (UnknownAttr at) w.stands (primitive_meant g apart (where_of
            w.here) w.read.of k.primitive k.is) (subst (λ x. Stands (cond x (unless x (PartAttr w.read.attr.span.from)) (UnknownAttr
            w.read.attr.span.from ∷ [])) (UnknownAttr at)) (sym k.without) (inl (ap UnknownAttr w.is_at)))
        by (inr k) =
            let m = rule_meant g apart (where_of w.here) w.read.of k.entry k.named in
            put_field w.here w.read (Rule m.0) (UnknownAttr at) w.stands m.2
            (at_rule_told w.here w.read m.0 k.entry (UnknownAttr at) false (list_all (alt_sets w.read.attr.name) (alts_of k.entry)) m.1 k.none refl
            (inl (ap UnknownAttr w.is_at)))

    put_part_attr : (at : ℕ) → IsPartAttr g at → Stands (faults_of g) (PartAttr at)
    put_part_attr at w =
        let m = rule_meant g apart (where_of w.here) w.read.of w.entry w.named in
        put_field w.here w.read (Rule m.0) (PartAttr at) w.stands m.2
        (at_rule_told w.here w.read m.0 w.entry (PartAttr at) true false m.1 w.some w.not_all (inl (ap PartAttr w.is_at)))

    put_attr : (at : ℕ) → IsUnknownAttr g at → Stands (faults_of g) (UnknownAttr at)
    put_attr at (inl w) = put_name at w
    put_attr at (inr w) = put_unknown at w

    refused_stands : (f : NameFault) → IsRefusal g f → Stands (faults_of g) f
    refused_stands (DuplicateRule at) h = duplicate_stands at h
    refused_stands (UnknownRule at) h = put_rule at h
    refused_stands (DuplicateAttr at) h = put_again at h
    refused_stands (UnknownAttr at) h = put_attr at h
    refused_stands (PartAttr at) h = put_part_attr at h
    refused_stands (NoOccurrence at) h = put_occurrence at h
    refused_stands Memory h = absurd h

-- ---- the faults of terms have numbers from 7 on

late : (f fault : NameFault) → f ≡ fault → 7 ≤ number_of fault → 7 ≤ number_of f
late f fault e h = subst (λ x. 7 ≤ number_of x) (sym e) h

attr_late : (scope : Scope) (s : Sym) (i : Ident) (f : NameFault) → Stands (attr_fault scope s i) f → 7 ≤ number_of f
attr_late scope s i f h = by (scope.some s i.name) (scope.all s i.name) h
  where
    by : (b c : Bool) → Stands (cond b (unless c (PartAttr i.span.from)) (UnknownAttr i.span.from ∷ [])) f → 7 ≤ number_of f
    by true true k = absurd k
    by true false k = late f (PartAttr i.span.from) (only (PartAttr i.span.from) f k) (omega arith)
    by false c k = late f (UnknownAttr i.span.from) (only (UnknownAttr i.span.from) f k) (omega arith)

field_late : (scope : Scope) (o : Option Sym) (fl : Field) (f : NameFault) → Stands (field_fault scope o fl) f → 7 ≤ number_of f
field_late scope None fl f h = absurd h
field_late scope (Some s) (field.Id i) f h = attr_late scope s i f h
field_late scope (Some s) field.Start f h = absurd h
field_late scope (Some s) field.End f h = absurd h

rule_late : (scope : Scope) (name : List ℕ) (at : ℕ) (f : NameFault) → Stands (rule_fault scope name at) f → 7 ≤ number_of f
rule_late scope name at f h = late f (UnknownRule at) (unless_is (is_some (scope.sym name)) (UnknownRule at) f h).1 (omega arith)

reference_late : (scope : Scope) (referred : Option ℕ) (of : Ident) (fl : Field) (f : NameFault) → Stands (reference_fault scope referred of fl) f
    → 7 ≤ number_of f
reference_late scope referred of fl f h =
    by (either (rule_fault scope of.name of.span.from) (occurrence_fault referred of.span.from ++ field_fault scope (scope.sym of.name) fl) f h)
  where
    rest : Stands (occurrence_fault referred of.span.from) f ⊎ Stands (field_fault scope (scope.sym of.name) fl) f → 7 ≤ number_of f
    rest (inl k) = late f (NoOccurrence of.span.from) (unless_is (is_some referred) (NoOccurrence of.span.from) f k).1 (omega arith)
    rest (inr k) = field_late scope (scope.sym of.name) fl f k

    by : Stands (rule_fault scope of.name of.span.from) f ⊎ Stands (occurrence_fault referred of.span.from ++ field_fault scope (scope.sym of.name) fl) f
        → 7 ≤ number_of f
    by (inl k) = rule_late scope of.name of.span.from f k
    by (inr k) = rest (either (occurrence_fault referred of.span.from) (field_fault scope (scope.sym of.name) fl) f k)

use_late : (scope : Scope) (x : Use) (f : NameFault) → Stands (use_faults scope x) f → 7 ≤ number_of f
use_late scope (Bare i) f h = late f (UnknownAttr i.span.from) (unless_is (is_known scope i.name) (UnknownAttr i.span.from) f h).1 (omega arith)
use_late scope (Part of fl) f h = reference_late scope (scope.call of.name) of fl f h
use_late scope (Item of fl) f h = reference_late scope (scope.items of.name) of fl f h

cause_late : (scope : Scope) (t : Term) (f : NameFault) → Cause scope t f → 7 ≤ number_of f
cause_late scope t f (Parses h) = let w = via (symbol_fault scope) (parsed_by t) f h in rule_late scope w.0.name w.0.at f w.2
cause_late scope t f (Sets h) =
    let w = via (set_fault scope) (set_by t) f h in
    late f (DuplicateAttr w.0.span.from) (when_is (scope.before w.0.name) (DuplicateAttr w.0.span.from) f w.2).1 (omega arith)
cause_late scope t f (Loops h) =
    let w = via (var_fault scope) (loop_of t) f h in
    late f (DuplicateAttr w.0.span.from) (when_is (scope.own w.0.name) (DuplicateAttr w.0.span.from) f w.2).1 (omega arith)
cause_late scope t f (Reads h) = let w = via (use_faults scope) (uses_in t) f h in use_late scope w.0 f w.2
cause_late scope t f (Within h) = let w = via (use_faults (within scope t)) (item_uses t) f h in use_late (within scope t) w.0 f w.2

-- ---- the first

-- a fault by its number and its place
made : ℕ → ℕ → NameFault
made n at =
    cond (nat_eq n 6) (DuplicateRule at) (cond (nat_eq n 7) (UnknownRule at) (cond (nat_eq n 8) (DuplicateAttr at) (cond (nat_eq n 9) (UnknownAttr at) (cond
    (nat_eq n 10) (PartAttr at) (cond (nat_eq n 11) (NoOccurrence at) Memory)))))

made_is : (f : NameFault) → f ≡ made (number_of f) (place_of f)
unfolding made
made_is (DuplicateRule at) = refl
made_is (UnknownRule at) = refl
made_is (DuplicateAttr at) = refl
made_is (UnknownAttr at) = refl
made_is (PartAttr at) = refl
made_is (NoOccurrence at) = refl
made_is Memory = refl

same_number : (n p m q : ℕ) → (nat_lt n m || (nat_eq n m && nat_lt p q)) ≡ false → (nat_lt m n || (nat_eq m n && nat_lt q p)) ≡ false → (n ≡ m) × (p ≡ q)
same_number n p m q h k = (grind (arith, nat_tests), grind (arith, nat_tests))

same_fault : (a b : NameFault) → is_before a b ≡ false → is_before b a ≡ false → a ≡ b
same_fault a b h k =
    let w = same_number (number_of a) (place_of a) (number_of b) (place_of b) h k in
    made_is a ∙ ap (λ n. made n (place_of a)) w.0 ∙ ap (made (number_of b)) w.1 ∙ sym (made_is b)

all_stand : {A : Type 0} (P : A → Type 0) (xs : List A) (x : A) → AllByRecursion P xs → Stands xs x → P x
all_stand P [] x h st = absurd st
all_stand P (y ∷ xs) x h (inl e) = subst P e h.0
all_stand P (y ∷ xs) x h (inr st) = all_stand P xs x h.1 st

not_past : (at m q : ℕ) → (nat_lt 6 m || (nat_eq 6 m && nat_lt at q)) ≡ false → m ≤ 6
not_past at m q h = grind (arith, nat_tests)

past : (n p m q : ℕ) → 7 ≤ n → m ≤ 6 → (nat_lt n m || (nat_eq n m && nat_lt p q)) ≡ false
past n p m q h k = grind (arith, nat_tests)

module _ (g : Grammar) where
  -- a head's fault, also where others stand
  early_refused : (f : NameFault) → number_of f ≤ 6 → Stands (faults_of g) f → IsRefusal g f
  early_refused f few h = by (told_where g f h)
    where
      by : Head [] (roster_of g) f ⊎ TermFault g f → IsRefusal g f
      by (inl w) = head_refused g f w
      by (inr w) = absurd (omega (arith, few, cause_late (scope_at w.here) w.here.term f (cause (scope_at w.here) f w.here.term w.stands)))

  first_holds : (f : NameFault) → first_of (faults_of g) ≡ Some f → IsFirstRefusal g f
  first_holds f e = by (decided g) ((first_told (faults_of g)).1 f e)
    where
      least : (other : NameFault) → IsFirst (faults_of g) f → Stands (faults_of g) other → is_before other f ≡ false
      least other k st = all_stand (λ z. is_before z f ≡ false) (faults_of g) other k.least st

      late_least : (other : NameFault) → IsFirst (faults_of g) f → number_of f ≤ 6 → IsRefusal g other → is_before other f ≡ false
      late_least (DuplicateRule at) k few h = least (DuplicateRule at) k (duplicate_stands g at h)
      late_least (UnknownRule at) k few h = past 7 at (number_of f) (place_of f) (omega arith) few
      late_least (DuplicateAttr at) k few h = past 8 at (number_of f) (place_of f) (omega arith) few
      late_least (UnknownAttr at) k few h = past 9 at (number_of f) (place_of f) (omega arith) few
      late_least (PartAttr at) k few h = past 10 at (number_of f) (place_of f) (omega arith) few
      late_least (NoOccurrence at) k few h = past 11 at (number_of f) (place_of f) (omega arith) few
      late_least Memory k few h = absurd h

      by : ((at : ℕ) → IsDuplicateRule g at → ⊥) ⊎ ((at : ℕ) × IsDuplicateRule g at) → IsFirst (faults_of g) f → IsFirstRefusal g f
      by (inl apart) k = record {
        holds = standing_refused g apart f k.stands;
        least = λ other h. least other k (refused_stands g apart other h);
      }
      by (inr w) k =
          let few = not_past w.0 (number_of f) (place_of f) (least (DuplicateRule w.0) k (duplicate_stands g w.0 w.1)) in
          record { holds = early_refused f few k.stands; least = λ other h. late_least other k few h }

  none_holds : first_of (faults_of g) ≡ None → (f : NameFault) → IsRefusal g f → ⊥
  none_holds e f h =
      let none = (first_told (faults_of g)).0.0 e in
      let apart : (at : ℕ) → IsDuplicateRule g at → ⊥ = λ at w. subst (λ l. Stands l (DuplicateRule at)) none (duplicate_stands g at w) in
      subst (λ l. Stands l f) none (refused_stands g apart f h)

  holds_none : ((f : NameFault) → IsRefusal g f → ⊥) → first_of (faults_of g) ≡ None
  holds_none none = by (first_of (faults_of g)) refl
    where
      by : (o : Option NameFault) → first_of (faults_of g) ≡ o → o ≡ None
      by None e = refl
      by (Some f) e = absurd (none f (first_holds f e).holds)

  holds_first : (f : NameFault) → IsFirstRefusal g f → first_of (faults_of g) ≡ Some f
  holds_first f w = by (first_of (faults_of g)) refl
    where
      by : (o : Option NameFault) → first_of (faults_of g) ≡ o → o ≡ Some f
      by None e = absurd (none_holds e f w.holds)
      by (Some other) e =
          let k = first_holds other e in
          ap Some (same_fault other f (w.least other k.holds) (k.least f w.holds))

pub heads_stand : (g : Grammar) (at : ℕ) → Stands (faults_of g) (DuplicateRule at) ↔ IsDuplicateRule g at
heads_stand g at = (early_refused g (DuplicateRule at) (omega arith), duplicate_stands g at)

pub faults_stand : (g : Grammar) → ((at : ℕ) → IsDuplicateRule g at → ⊥) → (f : NameFault) → Stands (faults_of g) f ↔ IsRefusal g f
faults_stand g apart f = (standing_refused g apart f, refused_stands g apart f)

pub first_refused : (g : Grammar) → ((first_of (faults_of g) ≡ None) ↔ ((f : NameFault) → IsRefusal g f → ⊥)) × ((f : NameFault)
    → (first_of (faults_of g) ≡ Some f) ↔ IsFirstRefusal g f)
first_refused g = ((none_holds g, holds_none g), λ f. (first_holds g f, holds_first g f))
