-- What terms and edges put for the earlier conditions follows from what they put for the later ones, at each value of the variables.
use Rattle.std.proofs.Common.{◌≡◌, ℕ, zero, suc, Bool, true, false, ◌&&◌, ◌||◌, List, [], ◌∷◌, ◌++◌, map, length, refl, sym, ap, ◌∙◌}
use Rattle.std.proofs.Common.{Option, Some, None, pos}
use Rattle.std.specs.Prelude.{slice_get, replicate}
use Rattle.ipg_lin.specs.Formula.{some}
use Rattle.ipg_core.specs.declared.grammar.Primitive.{Primitive}
use Rattle.ipg_core.specs.declared.grammar.Primitive.TheVariants.{U8, U16LE, U16BE, U32LE, U32BE, U64LE, U64BE, Bytes}
use Rattle.ipg_core.specs.declared.grammar.Sym.{Sym}
use Rattle.ipg_core.specs.declared.grammar.Sym.TheVariants.{Text, Prim, Rule}
use Rattle.ipg_core.specs.declared.grammar.CoreExpr.{CoreExpr}
use Rattle.ipg_core.specs.declared.grammar.CoreSlot.{CoreSlot}
use Rattle.ipg_core.specs.declared.grammar.CoreTerm.{CoreTerm}
use Rattle.ipg_core.specs.declared.grammar.CoreTerm.TheVariants.{Slot, Set, Test, Repeat, Many, Pick}
use Rattle.ipg_core.specs.declared.grammar.CoreAlt.{CoreAlt}
use Rattle.ipg_core.specs.declared.grammar.CoreRule.{CoreRule}
use Rattle.ipg_core.specs.Grammar.{Grammar, rule_at}
use Rattle.ipg_core.specs.MustTouch.{is_marked}
use Rattle.ipg_core.specs.Touch.{width}
use Rattle.ipg_graph.specs.declared.edge.Edge.{Edge}
use Rattle.ipg_facts.specs.declared.edition.Edition.TheVariants.{Earlier, Later}
use Rattle.ipg_facts_forms.specs.declared.fact.Form.{Form}
use Rattle.ipg_facts_forms.specs.declared.fact.Fact.{Fact}
use Rattle.ipg_facts_forms.specs.declared.fact.Fact.TheVariants as facts
use Rattle.ipg_facts.specs.declared.bounds.Bounds.{Bounds}
use Rattle.ipg_facts_variables.specs.Variable.{attribute, loop, caller_side}
use Rattle.ipg_facts_forms.specs.Form.{mention, shifted, leq, less, equal}
use Rattle.ipg_facts.specs.Reading.{Scope, length_of, nought, read, form}
use Rattle.ipg_facts.specs.Members.{is_valid, start_of, end_of, touches_none, touches_some, touches_first, touches_all, attr_ranges, number_ranges}
use Rattle.ipg_facts.specs.Members.{text_touches, number_touches, primitive_touches, rule_touches, touches, on_interval, slot_members, branches, members}
use Rattle.ipg_facts.specs.Members.{arrays_with, passed, passed_all, terms_members, is_whole, takes, runs, own_members, own_at}
use Rattle.ipg_facts.specs.Keep.{opening, before, holder_facts, caller_facts, rule_facts, alt_at, edge_facts}
use Rattle.ipg_facts_laws.specs.Valued.{Valuation, is_so}
use Rattle.ipg_facts_laws.proofs.Forms.{any_is, all_is}
use Rattle.ipg_facts_laws.proofs.Weaker.{Gives, FormGives, so_right, gives_append, gives_choice, form_self, gives_shifted}
use Rattle.ipg_facts_laws.proofs.Weaker.{gives_leq, gives_equal, gives_less}
use Rattle.ipg_facts_laws.proofs.Before.{NoneKnown, weaker}
use Rattle.ipg_facts_laws.proofs.Works.{none_there}

left : (a b : Bool) → a && b ≡ true → a ≡ true
left true b e = refl
left false b e = cc

both : (a b : Bool) → a ≡ true → b ≡ true → a && b ≡ true
both a b e f = rw (e, f) refl

or_gives : (a b a' b' : Bool) → (a ≡ true → a' ≡ true) → (b ≡ true → b' ≡ true) → a || b ≡ true → a' || b' ≡ true
or_gives true b a' b' f g e = ap (λ x. x || b') (f refl)
or_gives false true true b' f g e = refl
or_gives false true false b' f g e = g refl
or_gives false false a' b' f g e = absurd (cc)

module _ (v : Valuation) where
  all_gives : (xs ys : List Fact) → Gives v xs ys → is_so v (facts.All xs) ≡ true → is_so v (facts.All ys) ≡ true
  all_gives xs ys f h = all_is v ys ∙ f (sym (all_is v xs) ∙ h)

  any_gives : (xs ys : List Fact) → (some (map (is_so v) xs) ≡ true → some (map (is_so v) ys) ≡ true) → Gives v (facts.Any xs ∷ []) (facts.Any ys ∷ [])
  any_gives xs ys f h = both _ _ (any_is v ys ∙ f (sym (any_is v xs) ∙ left _ _ h)) refl

  module _ (scope : Scope) (arrays : List (Option Bounds)) (none : NoneKnown arrays) where
    abbrev late : Scope
    late = record scope { edition = Later }

    abbrev early : Scope
    early = record scope { edition = Earlier; arrays = arrays }

    of_form : (e : CoreExpr) → FormGives v (form late e) (form early e)
    of_form e = (weaker v scope arrays none e).form

    -- ---- a slot

    module _ (term : ℕ) (l l' r r' : Form) (h : FormGives v l l') (k : FormGives v r r') where
      start_self : FormGives v (start_of late term) (start_of early term)
      start_self = form_self v (start_of late term)

      end_self : FormGives v (end_of late term) (end_of early term)
      end_self = form_self v (end_of late term)

      valid_gives : Gives v (is_valid late l r) (is_valid early l' r')
      unfolding is_valid
      valid_gives =
          gives_append v (leq nought l) (leq l r ++ leq r (length_of late)) (leq nought l') (leq l' r' ++ leq r' (length_of early))
          (gives_leq v nought nought l l' (form_self v nought) h)
          (gives_append v (leq l r) (leq r (length_of late)) (leq l' r') (leq r' (length_of early)) (gives_leq v l l' r r' h k)
          (gives_leq v r r' (length_of late) (length_of early) k (form_self v (length_of late))))

      none_gives : Gives v (touches_none late term l r) (touches_none early term l' r')
      unfolding touches_none
      none_gives =
          gives_append v (equal (start_of late term) r) (equal (end_of late term) l) (equal (start_of early term) r') (equal (end_of early term) l')
          (gives_equal v _ _ r r' start_self k) (gives_equal v _ _ l l' end_self h)

      some_gives : Gives v (touches_some late term l r) (touches_some early term l' r')
      unfolding touches_some
      some_gives =
          gives_append v _ _ (leq l' (start_of early term)) (less (start_of early term) (end_of early term) ++ leq (end_of early term) r')
          (gives_leq v l l' _ _ h start_self)
          (gives_append v _ _ (less (start_of early term) (end_of early term)) (leq (end_of early term) r') (gives_less v _ _ _ _ start_self end_self)
          (gives_leq v _ _ r r' end_self k))

      first_gives : (w : ℕ) → Gives v (touches_first late term l r w) (touches_first early term l' r' w)
      unfolding touches_first
      first_gives w =
          gives_append v _ _ (equal (start_of early term) l') (equal (end_of early term) (shifted l' (pos w)) ++ leq (end_of early term) r')
          (gives_equal v _ _ l l' start_self h)
          (gives_append v _ _ (equal (end_of early term) (shifted l' (pos w))) (leq (end_of early term) r')
          (gives_equal v _ _ (shifted l (pos w)) (shifted l' (pos w)) end_self (gives_shifted v l l' (pos w) h)) (gives_leq v _ _ r r' end_self k))

      all_give : Gives v (touches_all late term l r) (touches_all early term l' r')
      unfolding touches_all
      all_give =
          gives_append v _ _ (equal (start_of early term) l') (equal (end_of early term) r') (gives_equal v _ _ l l' start_self h)
          (gives_equal v _ _ r r' end_self k)

      ranges_give : (prim : Primitive) → Gives v (number_ranges late term prim) (number_ranges early term prim)
      unfolding number_ranges attr_ranges
      ranges_give prim so = so

      text_gives : (w : ℕ) → Gives v (text_touches late term l r w) (text_touches early term l' r' w)
      unfolding text_touches
      text_gives zero = none_gives
      text_gives (suc w) = first_gives (suc w)

      number_gives : (prim : Primitive) → Gives v (number_touches late term l r prim) (number_touches early term l' r' prim)
      unfolding number_touches
      number_gives prim =
          gives_append v (touches_first late term l r (width prim)) (number_ranges late term prim) (touches_first early term l' r' (width prim))
          (number_ranges early term prim) (first_gives (width prim)) (ranges_give prim)

      primitive_gives : (prim : Primitive) → Gives v (primitive_touches late term l r prim) (primitive_touches early term l' r' prim)
      unfolding primitive_touches
      primitive_gives U8 = number_gives U8
      primitive_gives U16LE = number_gives U16LE
      primitive_gives U16BE = number_gives U16BE
      primitive_gives U32LE = number_gives U32LE
      primitive_gives U32BE = number_gives U32BE
      primitive_gives U64LE = number_gives U64LE
      primitive_gives U64BE = number_gives U64BE
      primitive_gives Bytes = all_give

      rule_gives : (must : Bool) → Gives v (rule_touches late term l r must) (rule_touches early term l' r' must)
      unfolding rule_touches
      rule_gives true = some_gives
      rule_gives false =
          gives_choice v (touches_some late term l r) (touches_none late term l r) (touches_some early term l' r') (touches_none early term l' r')
          some_gives none_gives

      touches_give : (sym : Sym) → Gives v (touches late term sym l r) (touches early term sym l' r')
      unfolding touches
      touches_give (Text bytes) = text_gives (length bytes)
      touches_give (Prim prim) = primitive_gives prim
      touches_give (Rule callee) = rule_gives (is_marked scope.marks callee)

      interval_gives : (sym : Sym) → Gives v (on_interval late term sym l r) (on_interval early term sym l' r')
      unfolding on_interval
      interval_gives sym =
          gives_append v (is_valid late l r) (touches late term sym l r) (is_valid early l' r') (touches early term sym l' r') valid_gives (touches_give sym)

    slot_gives : (term : ℕ) (slot : CoreSlot) → Gives v (slot_members late term slot) (slot_members early term slot)
    slot_gives term slot = interval_gives term _ _ _ _ (of_form slot.from) (of_form slot.to) slot.sym

    -- ---- terms

    branches_give : (term : ℕ) (xs ys : List Fact) (cases : List (CoreExpr × CoreSlot)) (other : CoreSlot) → Gives v xs ys
        → some (map (is_so v) (branches late term xs cases other)) ≡ true → some (map (is_so v) (branches early term ys cases other)) ≡ true
    unfolding branches
    branches_give term xs ys [] other f =
        or_gives _ false _ false
        (all_gives (xs ++ slot_members late term other) (ys ++ slot_members early term other)
        (gives_append v xs (slot_members late term other) ys (slot_members early term other) f (slot_gives term other))) (λ e. e)
    branches_give term xs ys (c ∷ cases) other f =
        let w = weaker v scope arrays none c.0 in
        or_gives _ _ _ _
        (all_gives (xs ++ ((read late c.0).holds ++ slot_members late term c.1)) (ys ++ ((read early c.0).holds ++ slot_members early term c.1))
        (gives_append v xs ((read late c.0).holds ++ slot_members late term c.1) ys ((read early c.0).holds ++ slot_members early term c.1) f
        (gives_append v (read late c.0).holds (slot_members late term c.1) (read early c.0).holds (slot_members early term c.1) w.holds (slot_gives term c.1))))
        (branches_give term (xs ++ (read late c.0).fails) (ys ++ (read early c.0).fails) cases other
        (gives_append v xs (read late c.0).fails ys (read early c.0).fails f w.fails))

    members_give : (term : ℕ) (at : Option CoreTerm) → Gives v (members late term at) (members early term at)
    unfolding members
    members_give term None = λ so. so
    members_give term (Some (Slot slot)) = slot_gives term slot
    members_give term (Some (Set attr e)) =
        gives_equal v (mention (attribute scope.side attr) []) (mention (attribute scope.side attr) []) (form late e) (form early e)
        (form_self v (mention (attribute scope.side attr) [])) (of_form e)
    members_give term (Some (Test e)) = (weaker v scope arrays none e).holds
    members_give term (Some (Repeat first last item from to)) = λ so. so
    members_give term (Some (Many item from to)) = valid_gives term _ _ _ _ (of_form from) (of_form to)
    members_give term (Some (Pick cases other)) =
        any_gives (branches late term [] cases other) (branches early term [] cases other) (branches_give term [] [] cases other (λ so. so))

    -- ---- the edge's own term

    whole_gives : (from to : CoreExpr) → Gives v (is_whole late from to) (is_whole early from to)
    unfolding is_whole
    whole_gives from to =
        gives_append v (equal (form late from) nought) (equal (form late to) (length_of late)) (equal (form early from) nought)
        (equal (form early to) (length_of early)) (gives_equal v _ _ nought nought (of_form from) (form_self v nought))
        (gives_equal v _ _ (length_of late) (length_of early) (of_form to) (form_self v (length_of late)))

    takes_give : (cases : List (CoreExpr × CoreSlot)) (other : CoreSlot) (b : ℕ) → Gives v (takes late cases other b) (takes early cases other b)
    unfolding takes
    takes_give [] other b = whole_gives other.from other.to
    takes_give (c ∷ cases) other zero =
        gives_append v (read late c.0).holds (is_whole late c.1.from c.1.to) (read early c.0).holds (is_whole early c.1.from c.1.to)
        (weaker v scope arrays none c.0).holds (whole_gives c.1.from c.1.to)
    takes_give (c ∷ cases) other (suc b) =
        gives_append v (read late c.0).fails (takes late cases other b) (read early c.0).fails (takes early cases other b)
        (weaker v scope arrays none c.0).fails (takes_give cases other b)

    runs_give : (first last : CoreExpr) → Gives v (runs late first last) (runs early first last)
    unfolding runs
    runs_give first last =
        let turn : Form = mention (loop scope.side) [] in
        gives_append v (leq (form late first) turn) (less turn (form late last)) (leq (form early first) turn) (less turn (form early last))
        (gives_leq v _ _ turn turn (of_form first) (form_self v turn)) (gives_less v turn turn _ _ (form_self v turn) (of_form last))

    own_gives : (branch : ℕ) (at : Option CoreTerm) → Gives v (own_members late branch at) (own_members early branch at)
    unfolding own_members
    own_gives branch None = λ so. so
    own_gives branch (Some (Slot slot)) = whole_gives slot.from slot.to
    own_gives branch (Some (Set attr e)) = λ so. so
    own_gives branch (Some (Test e)) = λ so. so
    own_gives branch (Some (Repeat first last item from to)) =
        gives_append v (runs late first last) (is_whole late from to) (runs early first last) (is_whole early from to) (runs_give first last)
        (whole_gives from to)
    own_gives branch (Some (Many item from to)) = whole_gives from to
    own_gives branch (Some (Pick cases other)) = takes_give cases other branch

    none_still : (term : ℕ) (at : Option CoreTerm) → NoneKnown (arrays_with early term at)
    unfolding arrays_with
    none_still term None = none
    none_still term (Some (Slot slot)) = none
    none_still term (Some (Set attr e)) = none
    none_still term (Some (Test e)) = none
    none_still term (Some (Repeat first last item from to)) = none
    none_still term (Some (Many item from to)) = none
    none_still term (Some (Pick cases other)) = none

    abbrev late_with : ℕ → Scope
    late_with term = record scope { arrays = arrays_with late term (slice_get scope.terms term) }

    abbrev early_with : ℕ → List (Option Bounds)
    early_with term = arrays_with early term (slice_get scope.terms term)

  -- ---- terms one after another

  terms_give : (scope : Scope) (arrays : List (Option Bounds)) → NoneKnown arrays → (order : List ℕ)
      → Gives v (terms_members (record scope { edition = Later }) order) (terms_members (record scope { edition = Earlier; arrays = arrays }) order)
  unfolding terms_members passed
  terms_give scope arrays none [] = λ so. so
  terms_give scope arrays none (term ∷ order) =
      let late : Scope = record scope { edition = Later } in
      let early : Scope = record scope { edition = Earlier; arrays = arrays } in
      gives_append v (members late term (slice_get scope.terms term)) (terms_members (passed late term) order)
      (members early term (slice_get scope.terms term)) (terms_members (passed early term) order)
      (members_give scope arrays none term (slice_get scope.terms term))
      (terms_give (record scope { arrays = arrays_with late term (slice_get scope.terms term) }) (arrays_with early term (slice_get scope.terms term))
      (none_still scope arrays none term (slice_get scope.terms term)) order)

  own_behind : (scope : Scope) (arrays : List (Option Bounds)) → NoneKnown arrays → (order : List ℕ) (term branch : ℕ)
      → Gives v (own_at (passed_all (record scope { edition = Later }) order) term branch)
      (own_at (passed_all (record scope { edition = Earlier; arrays = arrays }) order) term branch)
  unfolding passed_all passed
  own_behind scope arrays none [] term branch = own_gives scope arrays none branch (slice_get scope.terms term)
  own_behind scope arrays none (u ∷ order) term branch =
      own_behind (record scope { arrays = arrays_with (record scope { edition = Later }) u (slice_get scope.terms u) })
      (arrays_with (record scope { edition = Earlier; arrays = arrays }) u (slice_get scope.terms u))
      (none_still scope arrays none u (slice_get scope.terms u)) order term branch

  -- ---- an edge

  caller_gives : (g : Grammar) (marks : List Bool) (e : Edge) (caller : CoreAlt)
      → Gives v (caller_facts g marks Later e caller) (caller_facts g marks Earlier e caller)
  unfolding caller_facts opening
  caller_gives g marks e caller =
      let scope : Scope = opening g marks Later caller_side caller in
      let arrays : List (Option Bounds) = replicate (length caller.terms) None in
      let order : List ℕ = before e.term caller.order in
      gives_append v (terms_members scope order) (own_at (passed_all scope order) e.term e.branch)
      (terms_members (opening g marks Earlier caller_side caller) order)
      (own_at (passed_all (opening g marks Earlier caller_side caller) order) e.term e.branch)
      (terms_give scope arrays (none_there (length caller.terms)) order) (own_behind scope arrays (none_there (length caller.terms)) order e.term e.branch)

  rule_gives_all : (g : Grammar) (marks : List Bool) (e : Edge) (rule : Option CoreRule) (alt : Option CoreAlt)
      → Gives v (rule_facts g marks Later e rule alt) (rule_facts g marks Earlier e rule alt)
  unfolding rule_facts
  rule_gives_all g marks e (Some rule) (Some caller) =
      λ so. caller_gives g marks e caller (so_right v (holder_facts g marks rule.holder caller) (caller_facts g marks Later e caller) so)
  rule_gives_all g marks e (Some rule) None = λ so. so
  rule_gives_all g marks e None alt = λ so. so

  pub edges_give : (g : Grammar) (marks : List Bool) (e : Edge) → Gives v (edge_facts g marks Later e) (edge_facts g marks Earlier e)
  unfolding edge_facts
  edges_give g marks e = rule_gives_all g marks e (rule_at g e.caller) (alt_at g (e.caller, e.alt))
