-- The attributes of the holder that are mentioned: put one behind another, and looked for among those that were put.
use Rattle.std.proofs.Common.{◌≡◌, refl, ap, ◌∙◌, sym, List, [], ◌∷◌, ◌++◌, append_assoc, append-nil, Bool, ◌||◌, ℕ, Option, Some, None}
use Rattle.std.proofs.Common.{drop, length, arith, suc, ◌-◌, ◌<◌}
use Rattle.std.specs.Prelude.{nat_eq, slice_get, get_or, Result, Ok, Err, OnOk}
use Rattle.std.proofs.Math.Seq.{drop-cons, drop-length}
use Rattle.std.specs.List.{list_any}
use Rattle.std.proofs.lemmas.Grind.{flat_map-append}
use Rattle.ipg_core.specs.declared.grammar.CoreField.{CoreField}
use Rattle.ipg_core.specs.declared.grammar.CoreField.TheVariants.{Attr, Start, End}
use Rattle.ipg_core.specs.declared.grammar.CoreTerm.{CoreTerm}
use Rattle.ipg_core.specs.declared.grammar.Sym.{Sym}
use Rattle.ipg_core.specs.Grammar.{Grammar}
use Rattle.ipg_core.specs.Mention.{Mention, SeenOf, ItemOf, AfterOf, OwnOf, OuterOf, FieldOf, LoopOf, field_mentions, term_mentions}
use Rattle.ipg_facts_holder.specs.declared.mention.Ask.TheVariants.{Outer}
use Rattle.ipg_facts_holder.specs.Holder.{answers, mentions_some, is_wanted, matters, set_by, provides, kept, with_term}
use Rattle.ipg_facts_holder.specs.Outers.{outer_of, outers_in, term_outers, outers, is_among, matters_by}
use Rattle.ipg_facts_holder.proofs.Mentions.{or_false, any_flat}
use Rattle.ipg_facts_holder.proofs.Marking.{any_same}

-- ---- putting

pub joined : (xs ys : List Mention) → outers_in (xs ++ ys) ≡ outers_in xs ++ outers_in ys
joined xs ys = flat_map-append outer_of xs ys

pub then : {E : Type 0} (r : Result Unit E) (old one two : List ℕ) (xs ys : List Mention) → one ≡ old ++ outers_in xs → OnOk r (two ≡ one ++ outers_in ys)
    → OnOk r (two ≡ old ++ outers_in (xs ++ ys))
then (Ok a) old one two xs ys e f =
    f ∙ ap (λ zs. zs ++ outers_in ys) e ∙ append_assoc old (outers_in xs) (outers_in ys) ∙ ap (λ zs. old ++ zs) (sym (joined xs ys))
then (Err a) old one two xs ys e f = tt

no_fields : (field : CoreField) → outers_in (field_mentions field) ≡ []
no_fields (Attr a) = refl
no_fields Start = refl
no_fields End = refl

-- an item's field is of no holder
pub item : {E : Type 0} (r : Result Unit E) (old new : List ℕ) (term : ℕ) (index : List Mention) (field : CoreField) → OnOk r (new ≡ old ++ outers_in index)
    → OnOk r (new ≡ old ++ outers_in (ItemOf term ∷ index ++ field_mentions field))
item (Ok a) old new term index field e =
    e ∙ ap (λ zs. old ++ zs) (sym (joined index (field_mentions field) ∙ ap (λ zs. outers_in index ++ zs) (no_fields field) ∙ append-nil (outers_in index)))
item (Err a) old new term index field e = tt

-- what names no attribute of the holder puts none
pub none : (old : List ℕ) (ms : List Mention) → outers_in ms ≡ [] → old ≡ old ++ outers_in ms
none old ms e = sym (ap (λ zs. old ++ zs) e ∙ append-nil old)

pub seen : (old : List ℕ) (term : ℕ) (symbol : Sym) (field : CoreField) → old ≡ old ++ outers_in (SeenOf term symbol ∷ field_mentions field)
seen old term symbol field = sym (ap (λ zs. old ++ zs) (no_fields field) ∙ append-nil old)

-- ---- looking

one_outer : (attr : ℕ) (m : Mention) → list_any (λ a. nat_eq a attr) (outer_of m) ≡ answers (Outer attr) m
one_outer attr (SeenOf term sym) = refl
one_outer attr (ItemOf term) = refl
one_outer attr (AfterOf term) = refl
one_outer attr (OwnOf a) = refl
one_outer attr (OuterOf a) = or_false (nat_eq a attr)
one_outer attr (FieldOf a) = refl
one_outer attr LoopOf = refl

in_term : (attr : ℕ) (term : CoreTerm) → list_any (λ a. nat_eq a attr) (term_outers term) ≡ mentions_some (Outer attr) term
unfolding mentions_some
in_term attr term =
    any_flat (λ a. nat_eq a attr) outer_of (term_mentions term)
    ∙ any_same (λ m. list_any (λ a. nat_eq a attr) (outer_of m)) (answers (Outer attr)) (one_outer attr) (term_mentions term)

wanted_same : (caller : List CoreTerm) (sets : Option ℕ) → is_among (outers caller) sets ≡ is_wanted caller sets
wanted_same caller None = refl
wanted_same caller (Some attr) =
    any_flat (λ a. nat_eq a attr) term_outers caller
    ∙ any_same (λ t. list_any (λ a. nat_eq a attr) (term_outers t)) (mentions_some (Outer attr)) (in_term attr) caller

pub matters_same : (g : Grammar) (at : ℕ × ℕ) (terms caller : List CoreTerm) (v : ℕ) (behind : List ℕ)
    → matters_by g at terms (outers caller) v behind ≡ matters g at terms caller v behind
unfolding matters_by matters
matters_same g at terms caller v behind =
    ap (λ b. b || list_any (λ w. provides g at v (set_by (slice_get terms v)) (slice_get terms w)) behind)
    (wanted_same caller (set_by (slice_get terms v)))

pub kept_none : (g : Grammar) (at : ℕ × ℕ) (terms caller : List CoreTerm) (order : List ℕ) → [] ≡ kept g at terms caller (drop (length order) order)
unfolding kept
kept_none g at terms caller order = sym (ap (kept g at terms caller) (drop-length order))

-- a term more at the front
kept_step : (g : Grammar) (at : ℕ × ℕ) (terms caller : List CoreTerm) (wanted : List ℕ) (order behind : List ℕ) (v : ℕ) (matter : Bool)
    → wanted ≡ outers caller → behind ≡ kept g at terms caller order → matter ≡ matters_by g at terms wanted v behind
    → with_term matter v behind ≡ kept g at terms caller (v ∷ order)
unfolding kept
kept_step g at terms caller wanted order behind v matter e f h =
    ap (λ m. with_term m v behind) (h ∙ ap (λ ws. matters_by g at terms ws v behind) e ∙ matters_same g at terms caller v behind)
    ∙ ap (λ bs. with_term (matters g at terms caller v bs) v bs) f

-- the terms from one before a place on
at_front : (order : List ℕ) (place : ℕ) → 0 < place → place - 1 < length order → get_or order (place - 1) 0 ∷ drop place order ≡ drop (place - 1) order
at_front order place more less =
    let next : suc (place - 1) ≡ place = omega (arith, more) in
    sym (drop-cons order (place - 1) 0 less ∙ ap (λ n. get_or order (place - 1) 0 ∷ drop n order) next)

-- the term before a place
pub kept_more : (g : Grammar) (at : ℕ × ℕ) (terms caller : List CoreTerm) (wanted : List ℕ) (order behind : List ℕ) (place : ℕ) (matter : Bool)
    → 0 < place → place - 1 < length order → wanted ≡ outers caller → behind ≡ kept g at terms caller (drop place order)
    → matter ≡ matters_by g at terms wanted (get_or order (place - 1) 0) behind
    → with_term matter (get_or order (place - 1) 0) behind ≡ kept g at terms caller (drop (place - 1) order)
kept_more g at terms caller wanted order behind place matter more less e f h =
    kept_step g at terms caller wanted (drop place order) behind (get_or order (place - 1) 0) matter e f h
    ∙ ap (kept g at terms caller) (at_front order place more less)
