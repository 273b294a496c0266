-- What holds of each atom within the limits, and of an All and of an Any with members where it does of these, holds of all
-- that conditions and gaps put.
use Rattle.std.proofs.Common.{◌≡◌, ℕ, zero, suc, Bool, true, false, List, [], ◌∷◌, ◌++◌, map, length, refl, sym, subst, ℤ, pos, negsuc}
use Rattle.std.proofs.Common.{Option, Some, None, if◌then◌else◌, replicate, arith}
use Rattle.std.specs.Prelude.{slice_get, slice_set, flat_map, nat_lt, codes, ◌+ℤ◌}
use Rattle.std.specs.List.{AllByRecursion, filter}
use Rattle.ipg_num.specs.declared.op.Op2.{Op2}
use Rattle.ipg_num.specs.declared.op.Op2.TheVariants as ops
use Rattle.ipg_core.specs.declared.grammar.Primitive.{Primitive}
use Rattle.ipg_core.specs.declared.grammar.Primitive.TheVariants.{U8, U16LE, U16BE, U32LE, U32BE, U64LE, U64BE, Bytes}
use Rattle.ipg_core.specs.declared.grammar.CoreField.{CoreField}
use Rattle.ipg_core.specs.declared.grammar.CoreField.TheVariants.{Attr, Start, End}
use Rattle.ipg_core.specs.declared.grammar.Sym.{Sym}
use Rattle.ipg_core.specs.declared.grammar.Sym.TheVariants.{Text, Prim, Rule}
use Rattle.ipg_core.specs.declared.grammar.CoreExpr.{CoreExpr, map-CoreExpr, roll-CoreExpr, fold-roll-CoreExpr}
use Rattle.ipg_core.specs.declared.grammar.CoreExpr.TheOpen.{CoreExpr-F}
use Rattle.ipg_core.specs.declared.grammar.CoreSlot.{CoreSlot}
use Rattle.ipg_core.specs.declared.grammar.CoreTerm.{CoreTerm}
use Rattle.ipg_core.specs.declared.grammar.CoreTerm.TheVariants.{Slot, Set, Test, Repeat, Many, Pick}
use Rattle.ipg_core.specs.declared.grammar.CoreAlt.{CoreAlt}
use Rattle.ipg_core.specs.declared.grammar.CoreRule.{CoreRule}
use Rattle.ipg_core.specs.Grammar.{Grammar, name_at, rule_at}
use Rattle.ipg_core.specs.Touch.{width}
use Rattle.ipg_core.specs.MustTouch.{is_marked}
use Rattle.ipg_graph.specs.declared.edge.Edge.{Edge}
use Rattle.ipg_facts_variables.specs.declared.variable.Side.{Side}
use Rattle.ipg_facts_forms.specs.declared.fact.Part.{Part}
use Rattle.ipg_facts_forms.specs.declared.fact.Form.{Form}
use Rattle.ipg_facts.specs.declared.bounds.Bounds.{Bounds}
use Rattle.ipg_facts.specs.declared.edition.Edition.{Edition}
use Rattle.ipg_facts.specs.declared.edition.Edition.TheVariants.{Earlier, Later}
use Rattle.ipg_facts_forms.specs.declared.fact.Fact.{Fact}
use Rattle.ipg_facts_forms.specs.declared.fact.Fact.TheVariants as facts
use Rattle.ipg_facts_forms.specs.declared.fact.Draft.{Draft}
use Rattle.ipg_facts_variables.specs.declared.variable.Variable.{Variable}
use Rattle.ipg_facts_variables.specs.Variable.{attribute, loop, field, named, value, caller_side, holder_side, same_variable}
use Rattle.ipg_facts_forms.specs.Form.{mention, number, add_part, add_parts, plus, minus, scaled, scaled_part, shifted, counts, is_constant, in_limits}
use Rattle.ipg_facts_forms.specs.Form.{mentioned, facts_of, bare, at_most_zero, leq, less, both_at_most_zero, equal, choice, differ}
use Rattle.ipg_facts.specs.Reading.{Scope, Reading, length_of, opaque, nought, plain, ranges, greatest, greatest_of, least_width, item_at, item_facts, inside}
use Rattle.ipg_facts.specs.Reading.{if_later, if_there, touching, after_facts, product, computed, limited, asserted, denied, reading, read, form}
use Rattle.ipg_facts.specs.Members.{arrays_with, with_bounds, attr_ranges, branches, end_of, is_valid, is_whole, members}
use Rattle.ipg_facts.specs.Members.{number_ranges, number_touches, on_interval, own_at, own_members, passed, passed_all}
use Rattle.ipg_facts.specs.Members.{primitive_touches, rule_touches, runs, slot_members, start_of, takes}
use Rattle.ipg_facts.specs.Members.{terms_members, text_touches, touches, touches_all, touches_first, touches_none, touches_some}
use Rattle.ipg_facts.specs.Keep.{opening, before, mentions_holder, alt_at, held_facts, held, holder_facts, caller_facts, rule_facts, edge_facts}
use Rattle.ipg_facts_holder.specs.Holder.{kept}
use Rattle.ipg_facts_variables.specs.Induct.{Sure, bare as bare_expr, induct}
use Rattle.ipg_facts.specs.Gap.{point, misses_first, misses_all, primitive_misses, misses, slot_gap, gap_branches, gap_members, gap_terms, is_place}
use Rattle.ipg_facts.specs.Gap.{gap_facts, rule_gap}

-- the atom that a form within the limits puts
abbrev pub drafted : Form → Draft
drafted a = record { terms = map (λ p. (p.variable, p.factor)) (mentioned a); constant = a.constant }

-- it holds of atoms within the limits, and of an All, and of an Any with members, where it does of these
pub record IsSure (Is : Fact → Type 0) : Type 0 where
  pub atom : (a : Form) → in_limits a ≡ true → Is (facts.Atom (drafted a))
  pub all : (fs : List Fact) → AllByRecursion Is fs → Is (facts.All fs)
  pub any : (f : Fact) (fs : List Fact) → AllByRecursion Is (f ∷ fs) → Is (facts.Any (f ∷ fs))

module _ (Is : Fact → Type 0) (sure : IsSure Is) where
  abbrev Are : List Fact → Type 0
  Are fs = AllByRecursion Is fs

  pub join : (xs ys : List Fact) → Are xs → Are ys → Are (xs ++ ys)
  join [] ys h k = k
  join (x ∷ xs) ys h k = (h.0, join xs ys h.1 k)

  pub either : (xs ys : List Fact) → Are xs → Are ys → Are (choice xs ys)
  unfolding choice
  either xs ys h k = (sure.any (facts.All xs) (facts.All ys ∷ []) (sure.all xs h, (sure.all ys k, tt)), tt)

  one_or : (b : Bool) (xs ys : List Fact) → Are xs → Are ys → Are (if b then xs else ys)
  one_or true xs ys h k = h
  one_or false xs ys h k = k

  -- ---- forms: the facts of their variables do

  abbrev PartsAre : List Part → Type 0
  PartsAre ps = AllByRecursion (λ p. Are p.facts) ps

  abbrev pub FormIs : Form → Type 0
  FormIs a = PartsAre a.parts

  pub of_mention : (variable : Variable) (fs : List Fact) → Are fs → FormIs (mention variable fs)
  of_mention variable fs h = (h, tt)

  chosen_part : (b : Bool) (q p : Part) (qs more : List Part) → PartsAre (q ∷ qs) → PartsAre more
      → PartsAre (if b then record q { factor = q.factor +ℤ p.factor } ∷ qs else q ∷ more)
  chosen_part true q p qs more h k = h
  chosen_part false q p qs more h k = (h.0, k)

  of_part : (ps : List Part) (p : Part) → PartsAre ps → Are p.facts → PartsAre (add_part ps p)
  unfolding add_part
  of_part [] p h k = (k, tt)
  of_part (q ∷ qs) p h k = chosen_part (same_variable q.variable p.variable) q p qs (add_part qs p) h (of_part qs p h.1 k)

  of_parts : (ps qs : List Part) → PartsAre ps → PartsAre qs → PartsAre (add_parts ps qs)
  unfolding add_parts
  of_parts ps [] h k = h
  of_parts ps (q ∷ qs) h k = of_parts (add_part ps q) qs (of_part ps q h k.0) k.1

  pub of_plus : (a b : Form) → FormIs a → FormIs b → FormIs (plus a b)
  unfolding plus
  of_plus a b h k = of_parts a.parts b.parts h k

  scaled_parts : (k : ℤ) (ps : List Part) → PartsAre ps → PartsAre (map (scaled_part k) ps)
  scaled_parts k [] h = tt
  scaled_parts k (p ∷ ps) h = (h.0, scaled_parts k ps h.1)

  pub of_scaled : (k : ℤ) (a : Form) → FormIs a → FormIs (scaled k a)
  unfolding scaled
  of_scaled k a h = scaled_parts k a.parts h

  pub of_minus : (a b : Form) → FormIs a → FormIs b → FormIs (minus a b)
  unfolding minus
  of_minus a b h k = of_plus a (scaled (negsuc 0) b) h (of_scaled (negsuc 0) b k)

  pub of_shifted : (a : Form) (k : ℤ) → FormIs a → FormIs (shifted a k)
  unfolding shifted
  of_shifted a k h = h

  chosen_facts : (b : Bool) (p : Part) (ps : List Part) → Are p.facts → Are (flat_map (λ p. p.facts) ps)
      → Are (flat_map (λ p. p.facts) (if b then p ∷ ps else ps))
  chosen_facts true p ps h k = join p.facts _ h k
  chosen_facts false p ps h k = k

  counted_facts : (ps : List Part) → PartsAre ps → Are (flat_map (λ p. p.facts) (filter counts ps))
  counted_facts [] h = tt
  counted_facts (p ∷ ps) h = chosen_facts (counts p) p (filter counts ps) h.0 (counted_facts ps h.1)

  of_facts : (a : Form) → FormIs a → Are (facts_of a)
  unfolding facts_of mentioned
  of_facts a h = counted_facts a.parts h

  atom_or_none : (a : Form) (b : Bool) → in_limits a ≡ b → Are (if b then facts.Atom (drafted a) ∷ [] else [])
  atom_or_none a true e = (sure.atom a e, tt)
  atom_or_none a false e = tt

  of_bare : (a : Form) → Are (bare a)
  unfolding bare
  of_bare a = atom_or_none a (in_limits a) refl

  of_at_most : (a : Form) → FormIs a → Are (at_most_zero a)
  unfolding at_most_zero
  of_at_most a h = one_or (in_limits a) _ [] (join (facts_of a) (bare a) (of_facts a h) (of_bare a)) tt

  pub of_leq : (a b : Form) → FormIs a → FormIs b → Are (leq a b)
  unfolding leq
  of_leq a b h k = of_at_most (minus a b) (of_minus a b h k)

  pub of_less : (a b : Form) → FormIs a → FormIs b → Are (less a b)
  unfolding less
  of_less a b h k = of_at_most (shifted (minus a b) (pos 1)) (of_shifted (minus a b) (pos 1) (of_minus a b h k))

  of_both : (d n : Form) → FormIs d → FormIs n → Are (both_at_most_zero d n)
  unfolding both_at_most_zero
  of_both d n h k = one_or (in_limits d) _ _ (join (at_most_zero d) (bare n) (of_at_most d h) (of_bare n)) (of_at_most n k)

  pub of_equal : (a b : Form) → FormIs a → FormIs b → Are (equal a b)
  unfolding equal
  of_equal a b h k = of_both (minus a b) (minus b a) (of_minus a b h k) (of_minus b a k h)

  pub of_differ : (a b : Form) → FormIs a → FormIs b → Are (differ a b)
  unfolding differ
  of_differ a b h k = either (less a b) (less b a) (of_less a b h k) (of_less b a k h)

  -- ---- expressions

  pub record ReadingIs (r : Reading) : Type 0 where
    pub form : FormIs r.form
    pub holds : Are r.holds
    pub fails : Are r.fails

  of_plain : (said : CoreExpr) (a : Form) → FormIs a → ReadingIs (plain said a)
  unfolding plain
  of_plain said a h = record { form = h; holds = of_differ a nought h tt; fails = of_equal a nought h tt }

  of_ranges : (v : Form) (most : Option ℕ) → FormIs v → Are (ranges v most)
  unfolding ranges
  of_ranges v None h = tt
  of_ranges v (Some n) h = join (leq nought v) (leq v (number (pos n))) (of_leq nought v tt h) (of_leq v (number (pos n)) h tt)

  abbrev OptionIs : Option Form → Type 0
  OptionIs None = Unit {0}
  OptionIs (Some a) = FormIs a

  product_chosen : (p q : Bool) (a b : Form) → FormIs a → FormIs b
      → OptionIs (if p then Some (plus (scaled (pos 0) a) (scaled a.constant b))
      else if q then Some (plus (scaled b.constant a) (scaled (pos 0) b)) else None)
  product_chosen true q a b h k = of_plus (scaled (pos 0) a) (scaled a.constant b) (of_scaled (pos 0) a h) (of_scaled a.constant b k)
  product_chosen false true a b h k = of_plus (scaled b.constant a) (scaled (pos 0) b) (of_scaled b.constant a h) (of_scaled (pos 0) b k)
  product_chosen false false a b h k = tt

  of_product : (a b : Form) → FormIs a → FormIs b → OptionIs (product a b)
  unfolding product
  of_product a b h k = product_chosen (is_constant a) (is_constant b) a b h k

  of_computed : (op : Op2) (a b : Form) → FormIs a → FormIs b → OptionIs (computed op a b)
  unfolding computed
  of_computed ops.Add a b h k = of_plus a b h k
  of_computed ops.Sub a b h k = of_minus a b h k
  of_computed ops.Mul a b h k = of_product a b h k
  of_computed _ a b h k = tt

  of_asserted : (op : Op2) (a b e : Form) → FormIs a → FormIs b → FormIs e → Are (asserted op a b e)
  unfolding asserted
  of_asserted ops.Eq a b e h k l = of_equal a b h k
  of_asserted ops.Ne a b e h k l = of_differ a b h k
  of_asserted ops.Lt a b e h k l = of_less a b h k
  of_asserted ops.Le a b e h k l = of_leq a b h k
  of_asserted ops.Gt a b e h k l = of_less b a k h
  of_asserted ops.Ge a b e h k l = of_leq b a k h
  of_asserted _ a b e h k l = of_differ e nought l tt

  of_denied : (op : Op2) (a b e : Form) → FormIs a → FormIs b → FormIs e → Are (denied op a b e)
  unfolding denied
  of_denied ops.Eq a b e h k l = of_differ a b h k
  of_denied ops.Ne a b e h k l = of_equal a b h k
  of_denied ops.Lt a b e h k l = of_leq b a k h
  of_denied ops.Le a b e h k l = of_less b a k h
  of_denied ops.Gt a b e h k l = of_leq a b h k
  of_denied ops.Ge a b e h k l = of_less a b h k
  of_denied _ a b e h k l = of_equal e nought l tt

  abbrev BoundsAre : Option Bounds → Type 0
  BoundsAre None = Unit {0}
  BoundsAre (Some bounds) = FormIs bounds.first × FormIs bounds.last

  abbrev pub ScopeIs : Scope → Type 0
  ScopeIs scope = AllByRecursion BoundsAre scope.arrays

  bounds_at : (arrays : List (Option Bounds)) (n : ℕ) → AllByRecursion BoundsAre arrays → BoundsAre (if_there (slice_get arrays n))
  bounds_at [] zero h = tt
  bounds_at [] (suc n) h = tt
  bounds_at (b ∷ arrays) zero h = h.0
  bounds_at (b ∷ arrays) (suc n) h = bounds_at arrays n h.1

  bounds_or_none : (b : Bool) (bounds : Option Bounds) → BoundsAre bounds → BoundsAre (if b then bounds else None)
  bounds_or_none true bounds h = h
  bounds_or_none false bounds h = tt

  form_or : (b : Bool) (x y : Form) → FormIs x → FormIs y → FormIs (if b then x else y)
  form_or true x y h k = h
  form_or false x y h k = k

  of_later : (edition : Edition) (fs : List Fact) → Are fs → Are (if_later edition fs)
  of_later Earlier fs h = tt
  of_later Later fs h = h

  module _ (scope : Scope) (known : ScopeIs scope) where
    of_opaque : (said : CoreExpr) → FormIs (opaque scope said)
    of_opaque said = of_mention (value scope.side said) [] tt

    of_limited : (said : CoreExpr) (a : Option Form) → OptionIs a → FormIs (limited scope said a)
    unfolding limited
    of_limited said None h = of_opaque said
    of_limited said (Some a) h = form_or (in_limits a) a _ h (of_opaque said)

    of_item : (item : Option Sym) (f : CoreField) (v : Form) → FormIs v → Are (item_facts scope item f v)
    unfolding item_facts
    of_item item (Attr a) v h = of_ranges v (greatest_of item (name_at scope.names a)) h
    of_item item Start v h =
        join (leq nought v) (leq (shifted v (pos (least_width scope.marks item))) (length_of scope)) (of_leq nought v tt h)
        (of_leq (shifted v (pos (least_width scope.marks item))) (length_of scope) (of_shifted v (pos (least_width scope.marks item)) h) (tt, tt))
    of_item item End v h =
        join (leq (number (pos (least_width scope.marks item))) v) (leq v (length_of scope)) (of_leq (number (pos (least_width scope.marks item))) v tt h)
        (of_leq v (length_of scope) h (tt, tt))

    of_inside : (v : Form) → FormIs v → Are (inside scope v)
    unfolding inside
    of_inside v h = join (leq (number (pos 1)) v) (leq v (length_of scope)) (of_leq (number (pos 1)) v tt h) (of_leq v (length_of scope) h (tt, tt))

    of_after : (bounds : Option Bounds) (v left : Form) → BoundsAre bounds → FormIs v → FormIs left → Are (after_facts scope bounds v left)
    unfolding after_facts
    of_after None v left b h k = either (inside scope v) (equal v left) (of_inside v h) (of_equal v left h k)
    of_after (Some bounds) v left b h k =
        either (less bounds.first bounds.last ++ inside scope v) (leq bounds.last bounds.first ++ equal v left)
        (join (less bounds.first bounds.last) (inside scope v) (of_less bounds.first bounds.last b.0 b.1) (of_inside v h))
        (join (leq bounds.last bounds.first) (equal v left) (of_leq bounds.last bounds.first b.1 b.0) (of_equal v left h k))

    of_touching : (term : ℕ) → BoundsAre (touching scope term)
    of_touching term =
        bounds_or_none (nat_lt 0 (least_width scope.marks (item_at scope term))) (if_there (slice_get scope.arrays term)) (bounds_at scope.arrays term known)

    of_seen : (said : CoreExpr) (term : ℕ) (f : CoreField)
        → ReadingIs (plain said (mention (value scope.side said) (if_later scope.edition (item_facts scope (item_at scope term) f (opaque scope said)))))
    of_seen said term f =
        let known : List Fact = item_facts scope (item_at scope term) f (opaque scope said) in
        let facts : List Fact = if_later scope.edition known in
        of_plain said (mention (value scope.side said) facts)
        (of_mention (value scope.side said) facts (of_later scope.edition known (of_item (item_at scope term) f (opaque scope said) (of_opaque said))))

    of_behind : (said : CoreExpr) (term : ℕ) (left : Form) → FormIs left
        → ReadingIs (plain said (mention (value scope.side said) (after_facts scope (touching scope term) (opaque scope said) left)))
    of_behind said term left h =
        let facts : List Fact = after_facts scope (touching scope term) (opaque scope said) left in
        of_plain said (mention (value scope.side said) facts)
        (of_mention (value scope.side said) facts (of_after (touching scope term) (opaque scope said) left (of_touching term) (of_opaque said) h))

    of_not : (a : Reading) (said : CoreExpr) → ReadingIs a
        → ReadingIs (record { said = said; form = opaque scope said; holds = a.fails; fails = a.holds })
    of_not a said h = record { form = of_opaque said; holds = h.fails; fails = h.holds }

    of_two : (op : Op2) (a b : Reading) (said : CoreExpr) → ReadingIs a → ReadingIs b
        → (let form = limited scope said (computed op a.form b.form) in
        ReadingIs (record { said = said; form = form; holds = asserted op a.form b.form form; fails = denied op a.form b.form form }))
    of_two op a b said h k =
        let form : Form = limited scope said (computed op a.form b.form) in
        let made : FormIs form = of_limited said (computed op a.form b.form) (of_computed op a.form b.form h.form k.form) in
        record { form = made; holds = of_asserted op a.form b.form form h.form k.form made; fails = of_denied op a.form b.form form h.form k.form made }

    of_and : (a b : Reading) (said : CoreExpr) → ReadingIs a → ReadingIs b
        → ReadingIs (record { said = said; form = opaque scope said; holds = a.holds ++ b.holds; fails = choice a.fails (a.holds ++ b.fails) })
    of_and a b said h k = record {
      form = of_opaque said;
      holds = join a.holds b.holds h.holds k.holds;
      fails = either a.fails (a.holds ++ b.fails) h.fails (join a.holds b.fails h.holds k.fails);
    }

    of_or : (a b : Reading) (said : CoreExpr) → ReadingIs a → ReadingIs b
        → ReadingIs (record { said = said; form = opaque scope said; holds = choice a.holds (a.fails ++ b.holds); fails = a.fails ++ b.fails })
    of_or a b said h k = record {
      form = of_opaque said;
      holds = either a.holds (a.fails ++ b.holds) h.holds (join a.fails b.holds h.fails k.holds);
      fails = join a.fails b.fails h.fails k.fails;
    }

    abbrev conditional : CoreExpr → Reading → Reading → Reading → Reading
    conditional said c a b = record {
      said = said;
      form = mention (value scope.side said) (choice (c.holds ++ equal (opaque scope said) a.form) (c.fails ++ equal (opaque scope said) b.form));
      holds = choice (c.holds ++ a.holds) (c.fails ++ b.holds);
      fails = choice (c.holds ++ a.fails) (c.fails ++ b.fails);
    }

    of_cond : (c a b : Reading) (said : CoreExpr) → ReadingIs c → ReadingIs a → ReadingIs b → ReadingIs (conditional said c a b)
    of_cond c a b said h k l =
        let v : Form = opaque scope said in
        record {
          form = of_mention (value scope.side said) _ (either (c.holds ++ equal v a.form) (c.fails ++ equal v b.form)
              (join c.holds (equal v a.form) h.holds (of_equal v a.form (of_opaque said) k.form))
              (join c.fails (equal v b.form) h.fails (of_equal v b.form (of_opaque said) l.form)));
          holds = either (c.holds ++ a.holds) (c.fails ++ b.holds) (join c.holds a.holds h.holds k.holds) (join c.fails b.holds h.fails l.holds);
          fails = either (c.holds ++ a.fails) (c.fails ++ b.fails) (join c.holds a.fails h.holds k.fails) (join c.fails b.fails h.fails l.fails);
        }

    abbrev IsSo : CoreExpr → Type 0
    IsSo e = ReadingIs (read scope e)

    abbrev readings : CoreExpr-F (Sure IsSo) → CoreExpr-F Reading
    readings y = map-CoreExpr CoreExpr Reading (read scope) (bare_expr y)

    layer : (y : CoreExpr-F (Sure IsSo)) → ReadingIs (reading scope (readings y))
    unfolding reading
    layer (CoreExpr-F.Num n) = of_plain _ (number n) tt
    layer CoreExpr-F.Eoi = of_plain _ (length_of scope) (tt, tt)
    layer (CoreExpr-F.Own a) = of_plain _ (mention (attribute scope.side a) []) (tt, tt)
    layer (CoreExpr-F.Outer a) = of_plain _ (mention (attribute holder_side a) []) (tt, tt)
    layer CoreExpr-F.Loop = of_plain _ (mention (loop scope.side) []) (tt, tt)
    layer (CoreExpr-F.Seen term sym f) = of_plain _ (mention (field scope.names scope.side term f) []) (tt, tt)
    layer (CoreExpr-F.Item term index f) = of_seen _ term f
    layer (CoreExpr-F.After term left) = of_behind _ term (read scope left.0).form left.1.form
    layer (CoreExpr-F.Neg a) =
        of_plain _ _ (of_limited _ (Some (scaled (negsuc 0) (read scope a.0).form)) (of_scaled (negsuc 0) (read scope a.0).form a.1.form))
    layer (CoreExpr-F.Not a) = of_not (read scope a.0) _ a.1
    layer (CoreExpr-F.Two op a b) = of_two op (read scope a.0) (read scope b.0) _ a.1 b.1
    layer (CoreExpr-F.Both a b) = of_and (read scope a.0) (read scope b.0) _ a.1 b.1
    layer (CoreExpr-F.Either a b) = of_or (read scope a.0) (read scope b.0) _ a.1 b.1
    layer (CoreExpr-F.Cond c a b) = of_cond (read scope c.0) (read scope a.0) (read scope b.0) _ c.1 a.1 b.1

    rolled : (y : CoreExpr-F (Sure IsSo)) → IsSo (roll-CoreExpr (bare_expr y))
    unfolding read
    rolled y = subst ReadingIs (sym (fold-roll-CoreExpr Reading (reading scope) (bare_expr y))) (layer y)

    pub of_read : (e : CoreExpr) → ReadingIs (read scope e)
    of_read = induct IsSo rolled

    pub of_form : (e : CoreExpr) → FormIs (form scope e)
    of_form e = (of_read e).form

    -- ---- what a term puts

    of_valid : (l r : Form) → FormIs l → FormIs r → Are (is_valid scope l r)
    unfolding is_valid
    of_valid l r h k =
        join (leq nought l) (leq l r ++ leq r (length_of scope)) (of_leq nought l tt h)
        (join (leq l r) (leq r (length_of scope)) (of_leq l r h k) (of_leq r (length_of scope) k (tt, tt)))

    of_none : (term : ℕ) (l r : Form) → FormIs l → FormIs r → Are (touches_none scope term l r)
    unfolding touches_none
    of_none term l r h k =
        join (equal (start_of scope term) r) (equal (end_of scope term) l) (of_equal (start_of scope term) r (tt, tt) k)
        (of_equal (end_of scope term) l (tt, tt) h)

    of_some : (term : ℕ) (l r : Form) → FormIs l → FormIs r → Are (touches_some scope term l r)
    unfolding touches_some
    of_some term l r h k =
        let s : Form = start_of scope term in
        let e : Form = end_of scope term in
        join (leq l s) (less s e ++ leq e r) (of_leq l s h (tt, tt)) (join (less s e) (leq e r) (of_less s e (tt, tt) (tt, tt)) (of_leq e r (tt, tt) k))

    of_first : (term : ℕ) (l r : Form) (w : ℕ) → FormIs l → FormIs r → Are (touches_first scope term l r w)
    unfolding touches_first
    of_first term l r w h k =
        let s : Form = start_of scope term in
        let e : Form = end_of scope term in
        join (equal s l) (equal e (shifted l (pos w)) ++ leq e r) (of_equal s l (tt, tt) h)
        (join (equal e (shifted l (pos w))) (leq e r) (of_equal e (shifted l (pos w)) (tt, tt) (of_shifted l (pos w) h)) (of_leq e r (tt, tt) k))

    of_all : (term : ℕ) (l r : Form) → FormIs l → FormIs r → Are (touches_all scope term l r)
    unfolding touches_all
    of_all term l r h k =
        join (equal (start_of scope term) l) (equal (end_of scope term) r) (of_equal (start_of scope term) l (tt, tt) h)
        (of_equal (end_of scope term) r (tt, tt) k)

    of_attr : (term : ℕ) (prim : Primitive) (name : List ℕ) → Are (attr_ranges scope term prim name)
    unfolding attr_ranges
    of_attr term prim name = of_ranges (mention (named scope.side term name) []) (greatest prim name) (tt, tt)

    of_number : (term : ℕ) (l r : Form) (prim : Primitive) → FormIs l → FormIs r → Are (number_touches scope term l r prim)
    unfolding number_touches number_ranges
    of_number term l r prim h k =
        join (touches_first scope term l r (width prim)) _ (of_first term l r (width prim) h k)
        (join (attr_ranges scope term prim (codes "hi")) _ (of_attr term prim (codes "hi"))
        (join (attr_ranges scope term prim (codes "lo")) (attr_ranges scope term prim (codes "val")) (of_attr term prim (codes "lo"))
        (of_attr term prim (codes "val"))))

    of_primitive : (term : ℕ) (l r : Form) (prim : Primitive) → FormIs l → FormIs r → Are (primitive_touches scope term l r prim)
    unfolding primitive_touches
    of_primitive term l r Bytes h k = of_all term l r h k
    of_primitive term l r U8 h k = of_number term l r U8 h k
    of_primitive term l r U16LE h k = of_number term l r U16LE h k
    of_primitive term l r U16BE h k = of_number term l r U16BE h k
    of_primitive term l r U32LE h k = of_number term l r U32LE h k
    of_primitive term l r U32BE h k = of_number term l r U32BE h k
    of_primitive term l r U64LE h k = of_number term l r U64LE h k
    of_primitive term l r U64BE h k = of_number term l r U64BE h k

    of_text : (term : ℕ) (l r : Form) (w : ℕ) → FormIs l → FormIs r → Are (text_touches scope term l r w)
    unfolding text_touches
    of_text term l r zero h k = of_none term l r h k
    of_text term l r (suc w) h k = of_first term l r (suc w) h k

    of_rule : (term : ℕ) (l r : Form) (must : Bool) → FormIs l → FormIs r → Are (rule_touches scope term l r must)
    unfolding rule_touches
    of_rule term l r must h k =
        one_or must _ _ (of_some term l r h k)
        (either (touches_some scope term l r) (touches_none scope term l r) (of_some term l r h k) (of_none term l r h k))

    of_touches : (term : ℕ) (sym : Sym) (l r : Form) → FormIs l → FormIs r → Are (touches scope term sym l r)
    unfolding touches
    of_touches term (Text bytes) l r h k = of_text term l r (length bytes) h k
    of_touches term (Prim prim) l r h k = of_primitive term l r prim h k
    of_touches term (Rule callee) l r h k = of_rule term l r (is_marked scope.marks callee) h k

    of_slot : (term : ℕ) (slot : CoreSlot) → Are (slot_members scope term slot)
    unfolding on_interval
    of_slot term slot =
        let l : Form = form scope slot.from in
        let r : Form = form scope slot.to in
        join (is_valid scope l r) (touches scope term slot.sym l r) (of_valid l r (of_form slot.from) (of_form slot.to))
        (of_touches term slot.sym l r (of_form slot.from) (of_form slot.to))

    of_branches : (term : ℕ) (earlier : List Fact) (cases : List (CoreExpr × CoreSlot)) (other : CoreSlot) → Are earlier
        → Are (branches scope term earlier cases other)
    unfolding branches
    of_branches term earlier [] other h = (sure.all _ (join earlier (slot_members scope term other) h (of_slot term other)), tt)
    of_branches term earlier (c ∷ cases) other h =
        let r : Reading = read scope c.0 in (
          sure.all _ (join earlier (r.holds ++ slot_members scope term c.1) h
              (join r.holds (slot_members scope term c.1) (of_read c.0).holds (of_slot term c.1))),
          of_branches term (earlier ++ r.fails) cases other (join earlier r.fails h (of_read c.0).fails),
        )

    of_any : (fs : List Fact) (n : ℕ) → length fs ≡ suc n → Are fs → Is (facts.Any fs)
    of_any [] n e h = absurd (omega (arith, e))
    of_any (f ∷ fs) n e h = sure.any f fs h

    some_branch : (term : ℕ) (earlier : List Fact) (cases : List (CoreExpr × CoreSlot)) (other : CoreSlot)
        → (n : ℕ) × (length (branches scope term earlier cases other) ≡ suc n)
    unfolding branches
    some_branch term earlier [] other = (0, refl)
    some_branch term earlier (c ∷ cases) other = (length (branches scope term (earlier ++ (read scope c.0).fails) cases other), refl)

    pub of_members : (term : ℕ) (at : Option CoreTerm) → Are (members scope term at)
    unfolding members
    of_members term None = tt
    of_members term (Some (Slot slot)) = of_slot term slot
    of_members term (Some (Set attr e)) = of_equal (mention (attribute scope.side attr) []) (form scope e) (tt, tt) (of_form e)
    of_members term (Some (Test e)) = (of_read e).holds
    of_members term (Some (Repeat first last item from to)) = tt
    of_members term (Some (Many item from to)) = of_valid (form scope from) (form scope to) (of_form from) (of_form to)
    of_members term (Some (Pick cases other)) =
        let some = some_branch term [] cases other in
        (of_any (branches scope term [] cases other) some.0 some.1 (of_branches term [] cases other tt), tt)

    of_whole : (from to : CoreExpr) → Are (is_whole scope from to)
    unfolding is_whole
    of_whole from to =
        join (equal (form scope from) nought) (equal (form scope to) (length_of scope)) (of_equal (form scope from) nought (of_form from) tt)
        (of_equal (form scope to) (length_of scope) (of_form to) (tt, tt))

    of_takes : (cases : List (CoreExpr × CoreSlot)) (other : CoreSlot) (b : ℕ) → Are (takes scope cases other b)
    unfolding takes
    of_takes [] other b = of_whole other.from other.to
    of_takes (c ∷ cases) other zero = join (read scope c.0).holds (is_whole scope c.1.from c.1.to) (of_read c.0).holds (of_whole c.1.from c.1.to)
    of_takes (c ∷ cases) other (suc b) = join (read scope c.0).fails (takes scope cases other b) (of_read c.0).fails (of_takes cases other b)

    of_runs : (first last : CoreExpr) → Are (runs scope first last)
    unfolding runs
    of_runs first last =
        let i : Form = mention (loop scope.side) [] in
        join (leq (form scope first) i) (less i (form scope last)) (of_leq (form scope first) i (of_form first) (tt, tt))
        (of_less i (form scope last) (tt, tt) (of_form last))

    pub of_own : (branch : ℕ) (at : Option CoreTerm) → Are (own_members scope branch at)
    unfolding own_members
    of_own branch None = tt
    of_own branch (Some (Slot slot)) = of_whole slot.from slot.to
    of_own branch (Some (Set attr e)) = tt
    of_own branch (Some (Test e)) = tt
    of_own branch (Some (Repeat first last item from to)) = join (runs scope first last) (is_whole scope from to) (of_runs first last) (of_whole from to)
    of_own branch (Some (Many item from to)) = of_whole from to
    of_own branch (Some (Pick cases other)) = of_takes cases other branch

    set_bounds : (arrays : List (Option Bounds)) (n : ℕ) (b : Option Bounds) → AllByRecursion BoundsAre arrays → BoundsAre b
        → AllByRecursion BoundsAre (slice_set arrays n b)
    set_bounds [] zero b h k = tt
    set_bounds [] (suc n) b h k = tt
    set_bounds (a ∷ arrays) zero b h k = (k, h.1)
    set_bounds (a ∷ arrays) (suc n) b h k = (h.0, set_bounds arrays n b h.1 k)

    of_bounds : (edition : Edition) (term : ℕ) (first last : CoreExpr) → AllByRecursion BoundsAre (with_bounds edition scope term first last)
    of_bounds Earlier term first last = known
    of_bounds Later term first last = set_bounds scope.arrays term _ known (of_form first, of_form last)

    of_arrays : (term : ℕ) (at : Option CoreTerm) → AllByRecursion BoundsAre (arrays_with scope term at)
    unfolding arrays_with
    of_arrays term None = known
    of_arrays term (Some (Slot slot)) = known
    of_arrays term (Some (Set attr e)) = known
    of_arrays term (Some (Test e)) = known
    of_arrays term (Some (Repeat first last item from to)) = of_bounds scope.edition term first last
    of_arrays term (Some (Many item from to)) = known
    of_arrays term (Some (Pick cases other)) = known

    pub of_passed : (term : ℕ) → ScopeIs (passed scope term)
    unfolding passed
    of_passed term = of_arrays term (slice_get scope.terms term)

  pub of_passed_all : (scope : Scope) → ScopeIs scope → (order : List ℕ) → ScopeIs (passed_all scope order)
  unfolding passed_all
  of_passed_all scope known [] = known
  of_passed_all scope known (term ∷ order) = of_passed_all (passed scope term) (of_passed scope known term) order

  pub of_terms : (scope : Scope) → ScopeIs scope → (order : List ℕ) → Are (terms_members scope order)
  unfolding terms_members
  of_terms scope known [] = tt
  of_terms scope known (term ∷ order) =
      join (members scope term (slice_get scope.terms term)) (terms_members (passed scope term) order)
      (of_members scope known term (slice_get scope.terms term)) (of_terms (passed scope term) (of_passed scope known term) order)

  -- ---- the members of an edge's conditions

  no_bounds : (n : ℕ) → AllByRecursion BoundsAre (replicate n None)
  no_bounds zero = tt
  no_bounds (suc n) = (tt, no_bounds n)

  of_opening : (g : Grammar) (marks : List Bool) (edition : Edition) (side : Side) (alt : CoreAlt) → ScopeIs (opening g marks edition side alt)
  unfolding opening
  of_opening g marks edition side alt = no_bounds (length alt.terms)

  of_held_facts : (g : Grammar) (marks : List Bool) (holder caller : CoreAlt) (terms : List ℕ) → Are (held_facts g marks holder caller terms)
  unfolding held_facts
  of_held_facts g marks holder caller terms =
      join (leq (length_of (opening g marks Later caller_side caller)) (length_of (opening g marks Later holder_side holder)))
      (terms_members (opening g marks Later holder_side holder) terms)
      (of_leq (length_of (opening g marks Later caller_side caller)) (length_of (opening g marks Later holder_side holder)) (tt, tt) (tt, tt))
      (of_terms (opening g marks Later holder_side holder) (of_opening g marks Later holder_side holder) terms)

  of_held : (g : Grammar) (marks : List Bool) (at : ℕ × ℕ) (holder : Option CoreAlt) (caller : CoreAlt) → Are (held g marks at holder caller)
  unfolding held
  of_held g marks at None caller = tt
  of_held g marks at (Some holder) caller = of_held_facts g marks holder caller (kept g at holder.terms caller.terms holder.order)

  of_holder : (g : Grammar) (marks : List Bool) (at : Option (ℕ × ℕ)) (caller : CoreAlt) → Are (holder_facts g marks at caller)
  unfolding holder_facts
  of_holder g marks None caller = tt
  of_holder g marks (Some at) caller = one_or (mentions_holder caller) _ [] (of_held g marks at (alt_at g at) caller) tt

  of_caller : (g : Grammar) (marks : List Bool) (edition : Edition) (e : Edge) (caller : CoreAlt) → Are (caller_facts g marks edition e caller)
  unfolding caller_facts
  of_caller g marks edition e caller =
      let scope : Scope = opening g marks edition caller_side caller in
      let known : ScopeIs scope = of_opening g marks edition caller_side caller in
      let order : List ℕ = before e.term caller.order in
      let all : Scope = passed_all scope order in
      join (terms_members scope order) (own_at all e.term e.branch) (of_terms scope known order)
      (of_own all (of_passed_all scope known order) e.branch (slice_get all.terms e.term))

  of_rule_facts : (g : Grammar) (marks : List Bool) (edition : Edition) (e : Edge) (rule : Option CoreRule) (alt : Option CoreAlt)
      → Are (rule_facts g marks edition e rule alt)
  unfolding rule_facts
  of_rule_facts g marks edition e (Some rule) (Some caller) =
      join (if_later edition (holder_facts g marks rule.holder caller)) (caller_facts g marks edition e caller)
      (of_later edition _ (of_holder g marks rule.holder caller)) (of_caller g marks edition e caller)
  of_rule_facts g marks edition e (Some rule) None = tt
  of_rule_facts g marks edition e None alt = tt

  pub of_edge : (g : Grammar) (marks : List Bool) (edition : Edition) (e : Edge) → Are (edge_facts g marks edition e)
  unfolding edge_facts
  of_edge g marks edition e = of_rule_facts g marks edition e (rule_at g e.caller) (alt_at g (e.caller, e.alt))

  -- ---- gaps

  of_misses_first : (l : Form) (w : ℕ) → FormIs l → Are (misses_first l w)
  unfolding misses_first
  of_misses_first l zero h = tt
  of_misses_first l (suc w) h =
      either (less point l) (leq (shifted l (pos (suc w))) point) (of_less point l (tt, tt) h)
      (of_leq (shifted l (pos (suc w))) point (of_shifted l (pos (suc w)) h) (tt, tt))

  of_misses_all : (l r : Form) → FormIs l → FormIs r → Are (misses_all l r)
  unfolding misses_all
  of_misses_all l r h k = either (less point l) (leq r point) (of_less point l (tt, tt) h) (of_leq r point k (tt, tt))

  of_primitive_misses : (prim : Primitive) (l r : Form) → FormIs l → FormIs r → Are (primitive_misses prim l r)
  unfolding primitive_misses
  of_primitive_misses Bytes l r h k = of_misses_all l r h k
  of_primitive_misses U8 l r h k = of_misses_first l (width U8) h
  of_primitive_misses U16LE l r h k = of_misses_first l (width U16LE) h
  of_primitive_misses U16BE l r h k = of_misses_first l (width U16BE) h
  of_primitive_misses U32LE l r h k = of_misses_first l (width U32LE) h
  of_primitive_misses U32BE l r h k = of_misses_first l (width U32BE) h
  of_primitive_misses U64LE l r h k = of_misses_first l (width U64LE) h
  of_primitive_misses U64BE l r h k = of_misses_first l (width U64BE) h

  of_misses : (sym : Sym) (l r : Form) → FormIs l → FormIs r → Are (misses sym l r)
  unfolding misses
  of_misses (Text bytes) l r h k = of_misses_first l (length bytes) h
  of_misses (Prim prim) l r h k = of_primitive_misses prim l r h k
  of_misses (Rule callee) l r h k = of_misses_all l r h k

  module _ (scope : Scope) (known : ScopeIs scope) where
    of_slot_gap : (term : ℕ) (slot : CoreSlot) → Are (slot_gap scope term slot)
    of_slot_gap term slot =
        join (slot_members scope term slot) (misses slot.sym (form scope slot.from) (form scope slot.to)) (of_slot scope known term slot)
        (of_misses slot.sym (form scope slot.from) (form scope slot.to) (of_form scope known slot.from) (of_form scope known slot.to))

    of_gap_branches : (term : ℕ) (earlier : List Fact) (cases : List (CoreExpr × CoreSlot)) (other : CoreSlot) → Are earlier
        → Are (gap_branches scope term earlier cases other)
    unfolding gap_branches
    of_gap_branches term earlier [] other h = (sure.all _ (join earlier (slot_gap scope term other) h (of_slot_gap term other)), tt)
    of_gap_branches term earlier (c ∷ cases) other h =
        let r : Reading = read scope c.0 in (
          sure.all _ (join earlier (r.holds ++ slot_gap scope term c.1) h
              (join r.holds (slot_gap scope term c.1) (of_read scope known c.0).holds (of_slot_gap term c.1))),
          of_gap_branches term (earlier ++ r.fails) cases other (join earlier r.fails h (of_read scope known c.0).fails),
        )

    some_gap_branch : (term : ℕ) (earlier : List Fact) (cases : List (CoreExpr × CoreSlot)) (other : CoreSlot)
        → (n : ℕ) × (length (gap_branches scope term earlier cases other) ≡ suc n)
    unfolding gap_branches
    some_gap_branch term earlier [] other = (0, refl)
    some_gap_branch term earlier (c ∷ cases) other = (length (gap_branches scope term (earlier ++ (read scope c.0).fails) cases other), refl)

    of_gap_members : (term : ℕ) (at : Option CoreTerm) → Are (gap_members scope term at)
    unfolding gap_members
    of_gap_members term None = of_members scope known term None
    of_gap_members term (Some (Slot slot)) = of_slot_gap term slot
    of_gap_members term (Some (Set attr e)) = of_members scope known term (Some (Set attr e))
    of_gap_members term (Some (Test e)) = of_members scope known term (Some (Test e))
    of_gap_members term (Some (Repeat first last item from to)) = of_members scope known term (Some (Repeat first last item from to))
    of_gap_members term (Some (Many item from to)) = of_members scope known term (Some (Many item from to))
    of_gap_members term (Some (Pick cases other)) =
        let some = some_gap_branch term [] cases other in
        (of_any scope known (gap_branches scope term [] cases other) some.0 some.1 (of_gap_branches term [] cases other tt), tt)

  of_gap_terms : (scope : Scope) → ScopeIs scope → (order : List ℕ) → Are (gap_terms scope order)
  unfolding gap_terms
  of_gap_terms scope known [] = tt
  of_gap_terms scope known (term ∷ order) =
      join (gap_members scope term (slice_get scope.terms term)) (gap_terms (passed scope term) order)
      (of_gap_members scope known term (slice_get scope.terms term)) (of_gap_terms (passed scope term) (of_passed scope known term) order)

  of_place : (scope : Scope) → Are (is_place scope)
  unfolding is_place
  of_place scope = join (leq nought point) (less point (length_of scope)) (of_leq nought point tt (tt, tt)) (of_less point (length_of scope) (tt, tt) (tt, tt))

  of_gap_facts : (g : Grammar) (marks : List Bool) (holder : Option (ℕ × ℕ)) (alt : CoreAlt) → Are (gap_facts g marks holder alt)
  unfolding gap_facts
  of_gap_facts g marks holder alt =
      let scope : Scope = opening g marks Later caller_side alt in
      join (is_place scope) (holder_facts g marks holder alt ++ gap_terms scope alt.order) (of_place scope)
      (join (holder_facts g marks holder alt) (gap_terms scope alt.order) (of_holder g marks holder alt)
      (of_gap_terms scope (of_opening g marks Later caller_side alt) alt.order))

  pub of_rule_gap : (g : Grammar) (marks : List Bool) (rule : Option CoreRule) (alt : Option CoreAlt) → Are (rule_gap g marks rule alt)
  unfolding rule_gap
  of_rule_gap g marks (Some rule) (Some alt) = of_gap_facts g marks rule.holder alt
  of_rule_gap g marks (Some rule) None = tt
  of_rule_gap g marks None alt = tt
