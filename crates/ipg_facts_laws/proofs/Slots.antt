-- What a slot puts holds where it has a result.
use Rattle.std.proofs.Common.{◌≡◌, ℕ, zero, suc, ◌+◌, ◌-◌, ◌<◌, ◌≤◌, ◌^◌, Bool, true, false, not, ◌||◌, List, [], ◌++◌, length, refl, sym, ap, subst}
use Rattle.std.proofs.Common.{◌∙◌, arith, ℤ, pos, negsuc, ◌+ℤ◌, Option, Some, None, if◌then◌else◌, nat_lt, nat_eq}
use Rattle.std.specs.Prelude.{◌≤ℤ◌, bytes_eq, codes}
use Rattle.std.proofs.lemmas.Int.{ints}
use Rattle.std.proofs.lemmas.Bool.Decides.{nat_tests}
use Rattle.std.proofs.lemmas.Slice.Eq.{bytes_eq-Decides}
use Rattle.ipg_num.specs.Number.{limited}
use Rattle.ipg_num.specs.declared.op.Answer.TheVariants.{Val, Range}
use Rattle.ipg_core.specs.declared.grammar.Primitive.{Primitive}
use Rattle.ipg_core.specs.declared.grammar.Primitive.TheVariants.{U8, U16LE, U16BE, U32LE, U32BE, U64LE, U64BE, Bytes}
use Rattle.ipg_core.specs.declared.grammar.CoreField.TheVariants.{Start, End}
use Rattle.ipg_core.specs.declared.grammar.Sym.{Sym}
use Rattle.ipg_core.specs.declared.grammar.Sym.TheVariants.{Text, Prim, Rule}
use Rattle.ipg_core.specs.declared.grammar.CoreSlot.{CoreSlot}
use Rattle.ipg_core.specs.Grammar.{same_sym, is_text, primitive_number}
use Rattle.ipg_core.specs.Tree.{Tree, Kid, Sub, Token, Number, Raw, sym_of}
use Rattle.ipg_core.specs.Touch.{Ends, width, untouched, moved, first_of, tree_ends, ends_of}
use Rattle.ipg_core.specs.Environment.{Environment, Done, done_at, seen, field_of, number_attr}
use Rattle.ipg_core.specs.MustTouch.{is_marked}
use Rattle.ipg_facts_forms.specs.declared.fact.Form.{Form}
use Rattle.ipg_facts_variables.specs.Variable.{start, end, named}
use Rattle.ipg_facts_forms.specs.Form.{mention, leq, less, equal, shifted}
use Rattle.ipg_facts.specs.Reading.{Scope, length_of, nought, greatest, ranges, form}
use Rattle.ipg_facts.specs.Members.{is_valid, start_of, end_of, touches_none, touches_some, touches_first, touches_all, attr_ranges, number_ranges}
use Rattle.ipg_facts.specs.Members.{text_touches, number_touches, primitive_touches, rule_touches, touches, on_interval, slot_members}
use Rattle.ipg_facts_laws.specs.Valued.{Valuation}
use Rattle.ipg_facts_laws.specs.Known.{AreSo, Stands, Fits, IsRanged, AreRanged, IsTreeOf, IsResult}
use Rattle.ipg_facts_laws.specs.Ran.{SlotRan}
use Rattle.ipg_facts_laws.proofs.Forms.{stands_shifted, so_append, so_leq, so_less, so_equal, so_first, so_second}
use Rattle.ipg_facts_laws.proofs.Relate.{stands_nought, stands_variable, stands_length, so_ranges, known}

same_nat : (n : ℕ) → nat_eq n n ≡ true
same_nat n = grind (arith, nat_tests)

same_is : (s : Sym) → same_sym s s ≡ true
same_is (Text a) = (bytes_eq-Decides a a).1 refl
same_is (Prim p) = same_nat (primitive_number p)
same_is (Rule r) = same_nat r

or_true : (a b : Bool) → b ≡ true → a || b ≡ true
or_true true b e = refl
or_true false b e = e

small : (n : ℕ) → n ≤ 2 ^ 30 → nat_lt n (2 ^ 63) ≡ true
small n h = grind (arith, nat_tests)

is_number : (n : ℕ) → n ≤ 2 ^ 30 → limited (pos n) ≡ Val (pos n)
is_number n h = ap (λ b. if b then Val (pos n) else Range) (small n h)

sub_start : (from to : ℕ) (tree : Tree) → (ends_of (Sub from to tree)).start ≡ from + (tree_ends tree).start
unfolding moved
sub_start from to tree = refl

sub_end : (from to : ℕ) (tree : Tree) → (ends_of (Sub from to tree)).end ≡ from + (tree_ends tree).end
unfolding moved
sub_end from to tree = refl

less_of : (n m : ℕ) → nat_lt n m ≡ true → n < m
less_of n m h = grind (arith, nat_tests)

no : false ≡ true → ⊥
no e = cc

suc_is : (w : ℕ) → nat_eq (suc w) 0 ≡ false
suc_is w = grind (arith, nat_tests)

starts_at : (w a b : ℕ) → nat_eq w 0 ≡ false → (moved a (first_of (b - a) w)).start ≡ a
unfolding moved first_of
starts_at w a b e =
    ap (λ t. a + (if t then untouched (b - a) else (let ends : Ends = record { start = 0; end = w } in ends)).start) e ∙ (let q : a + 0 ≡ a = omega arith in q)

ends_at : (w a b : ℕ) → nat_eq w 0 ≡ false → (moved a (first_of (b - a) w)).end ≡ a + w
unfolding moved first_of
ends_at w a b e = ap (λ t. a + (if t then untouched (b - a) else (let ends : Ends = record { start = 0; end = w } in ends)).end) e

-- the first w bytes of a part lie in it
first_within : (w a b : ℕ) → a ≤ b → w ≤ b - a → ((moved a (first_of (b - a) w)).start ≤ b) × ((moved a (first_of (b - a) w)).end ≤ b)
unfolding moved first_of untouched
first_within zero a b h k = (omega arith, omega arith)
first_within (suc w) a b h k = (
  let e : (moved a (first_of (b - a) (suc w))).start ≡ a = starts_at (suc w) a b (suc_is w) in omega arith,
  let e : (moved a (first_of (b - a) (suc w))).end ≡ a + suc w = ends_at (suc w) a b (suc_is w) in omega arith,
)

whole_there : (test : Bool) (most low n : ℕ) → (if test then Some most else None) ≡ Some n → (z : ℤ) × ((if test then Some (pos low) else None) ≡ Some z)
whole_there true most low n e = (pos low, refl)
whole_there false most low n e = cc

half_there : (one two : Bool) (high low n : ℕ) → (if one then Some 4294967295 else if two then Some 4294967295 else None) ≡ Some n
    → (z : ℤ) × ((if one then Some (pos high) else if two then Some (pos low) else None) ≡ Some z)
half_there true two high low n e = (pos high, refl)
half_there false true high low n e = (pos low, refl)
half_there false false high low n e = cc

whole_most : (test : Bool) (most n : ℕ) → (if test then Some most else None) ≡ Some n → most < 2 ^ 63 → n < 2 ^ 63
whole_most true most n e h = let f : most ≡ n = cc in omega arith
whole_most false most n e h = cc

half_most : (one two : Bool) (n : ℕ) → (if one then Some 4294967295 else if two then Some 4294967295 else None) ≡ Some n → n < 2 ^ 63
half_most true two n e = let f : 4294967295 ≡ n = cc in omega arith
half_most false true n e = let f : 4294967295 ≡ n = cc in omega arith
half_most false false n e = cc

most_of : (prim : Primitive) (name : List ℕ) (n : ℕ) → greatest prim name ≡ Some n → n < 2 ^ 63
most_of U8 name n e = whole_most (bytes_eq name (codes "val")) 255 n e (omega arith)
most_of U16LE name n e = whole_most (bytes_eq name (codes "val")) 65535 n e (omega arith)
most_of U16BE name n e = whole_most (bytes_eq name (codes "val")) 65535 n e (omega arith)
most_of U32LE name n e = whole_most (bytes_eq name (codes "val")) 4294967295 n e (omega arith)
most_of U32BE name n e = whole_most (bytes_eq name (codes "val")) 4294967295 n e (omega arith)
most_of U64LE name n e = half_most (bytes_eq name (codes "hi")) (bytes_eq name (codes "lo")) n e
most_of U64BE name n e = half_most (bytes_eq name (codes "hi")) (bytes_eq name (codes "lo")) n e
most_of Bytes name n e = cc

below : (m n : ℕ) → m ≤ n → n < 2 ^ 63 → nat_lt m (2 ^ 63) ≡ true
below m n h k = grind (arith, nat_tests)

in_range : (n : ℕ) (z : ℤ) → n < 2 ^ 63 → IsRanged (Some n) z → limited z ≡ Val z
in_range n (pos m) h k = ap (λ b. if b then Val (pos m) else Range) (below m n (let q : pos m ≤ℤ pos n = k.1 in omega (arith, ints)) h)
in_range n (negsuc m) h k = absurd (let q : pos 0 ≤ℤ negsuc m = k.0 in omega (arith, ints))

module _ (v : Valuation) (scope : Scope) (env : Environment) (fits : Fits v scope env) (size : env.eoi ≤ 2 ^ 30) where
  pub so_valid : (l r : Form) (a b : ℕ) → Stands v l (pos a) → Stands v r (pos b) → a ≤ b → b ≤ env.eoi → AreSo v (is_valid scope l r)
  unfolding is_valid
  so_valid l r a b s t h k =
      so_append v (leq nought l) (leq l r ++ leq r (length_of scope)) (so_leq v nought l (pos 0) (pos a) (stands_nought v) s (omega (arith, ints)))
      (so_append v (leq l r) (leq r (length_of scope)) (so_leq v l r (pos a) (pos b) s t (omega (arith, ints)))
      (so_leq v r (length_of scope) (pos b) (pos env.eoi) t (stands_length v scope env fits) (omega (arith, ints))))

  -- a result of the term, on [a, b], with these ends
  module _ (term : ℕ) (l r : Form) (a b x y : ℕ) (s : Stands v l (pos a)) (t : Stands v r (pos b))
      (begins : Stands v (start_of scope term) (pos x)) (ends : Stands v (end_of scope term) (pos y)) where
    so_none : x ≡ b → y ≡ a → AreSo v (touches_none scope term l r)
    unfolding touches_none
    so_none e f =
        so_append v (equal (start_of scope term) r) (equal (end_of scope term) l) (so_equal v (start_of scope term) r (pos x) (pos b) begins t (ap pos e))
        (so_equal v (end_of scope term) l (pos y) (pos a) ends s (ap pos f))

    so_some : a ≤ x → x < y → y ≤ b → AreSo v (touches_some scope term l r)
    unfolding touches_some
    so_some h k m =
        so_append v (leq l (start_of scope term)) (less (start_of scope term) (end_of scope term) ++ leq (end_of scope term) r)
        (so_leq v l (start_of scope term) (pos a) (pos x) s begins (omega (arith, ints)))
        (so_append v (less (start_of scope term) (end_of scope term)) (leq (end_of scope term) r)
        (so_less v (start_of scope term) (end_of scope term) (pos x) (pos y) begins ends (omega (arith, ints)))
        (so_leq v (end_of scope term) r (pos y) (pos b) ends t (omega (arith, ints))))

    so_width : (w : ℕ) → x ≡ a → y ≡ a + w → a + w ≤ b → AreSo v (touches_first scope term l r w)
    unfolding touches_first
    so_width w e f h =
        so_append v (equal (start_of scope term) l) (equal (end_of scope term) (shifted l (pos w)) ++ leq (end_of scope term) r)
        (so_equal v (start_of scope term) l (pos x) (pos a) begins s (ap pos e))
        (so_append v (equal (end_of scope term) (shifted l (pos w))) (leq (end_of scope term) r)
        (so_equal v (end_of scope term) (shifted l (pos w)) (pos y) (pos a +ℤ pos w) ends (stands_shifted v l (pos w) (pos a) s) (ap pos f))
        (so_leq v (end_of scope term) r (pos y) (pos b) ends t (omega (arith, ints))))

    so_all : x ≡ a → y ≡ b → AreSo v (touches_all scope term l r)
    unfolding touches_all
    so_all e f =
        so_append v (equal (start_of scope term) l) (equal (end_of scope term) r) (so_equal v (start_of scope term) l (pos x) (pos a) begins s (ap pos e))
        (so_equal v (end_of scope term) r (pos y) (pos b) ends t (ap pos f))

    -- a terminal of w bytes
    so_text : (w : ℕ) → a ≤ b → w ≤ b - a → x ≡ (moved a (first_of (b - a) w)).start → y ≡ (moved a (first_of (b - a) w)).end
        → AreSo v (text_touches scope term l r w)
    unfolding text_touches moved first_of untouched
    so_text zero h k e f = so_none (e ∙ (let q : a + (b - a) ≡ b = omega arith in q)) (f ∙ (let q : a + 0 ≡ a = omega arith in q))
    so_text (suc w) h k e f = so_width (suc w) (e ∙ starts_at (suc w) a b (suc_is w)) (f ∙ ends_at (suc w) a b (suc_is w)) (omega arith)

    -- a tree
    touching_so : a ≤ b → (n m : ℕ) → n ≤ b - a → m ≤ b - a → x ≡ a + n → y ≡ a + m → n < m → AreSo v (touches_some scope term l r)
    touching_so h n m p q e f k = so_some (omega arith) (omega arith) (omega arith)

    untouched_so : a ≤ b → (n m : ℕ) → x ≡ a + n → y ≡ a + m → (n ≡ b - a) × (m ≡ 0) → AreSo v (touches_none scope term l r)
    untouched_so h n m e f z = let p : n ≡ b - a = z.0 in let q : m ≡ 0 = z.1 in so_none (omega arith) (omega arith)

    so_rule : (must : Bool) → a ≤ b → (n m : ℕ) → n ≤ b - a → m ≤ b - a → x ≡ a + n → y ≡ a + m → (touch : Bool) → nat_lt n m ≡ touch
        → (must ≡ true → touch ≡ true)
        → (touch ≡ false → (n ≡ b - a) × (m ≡ 0)) → AreSo v (rule_touches scope term l r must)
    unfolding rule_touches
    so_rule true h n m p q e f true k must none = touching_so h n m p q e f (less_of n m k)
    so_rule true h n m p q e f false k must none = absurd (no (must refl))
    so_rule false h n m p q e f true k must none =
        so_first v (touches_some scope term l r) (touches_none scope term l r) (touching_so h n m p q e f (less_of n m k))
    so_rule false h n m p q e f false k must none = so_second v (touches_some scope term l r) (touches_none scope term l r) (untouched_so h n m e f (none refl))

  -- the attributes of a number
  attr_there : (prim : Primitive) (name : List ℕ) (high low n : ℕ) → greatest prim name ≡ Some n → (z : ℤ) × (number_attr prim name high low ≡ Some z)
  attr_there U8 name high low n e = whole_there (bytes_eq name (codes "val")) 255 low n e
  attr_there U16LE name high low n e = whole_there (bytes_eq name (codes "val")) 65535 low n e
  attr_there U16BE name high low n e = whole_there (bytes_eq name (codes "val")) 65535 low n e
  attr_there U32LE name high low n e = whole_there (bytes_eq name (codes "val")) 4294967295 low n e
  attr_there U32BE name high low n e = whole_there (bytes_eq name (codes "val")) 4294967295 low n e
  attr_there U64LE name high low n e = half_there (bytes_eq name (codes "hi")) (bytes_eq name (codes "lo")) high low n e
  attr_there U64BE name high low n e = half_there (bytes_eq name (codes "hi")) (bytes_eq name (codes "lo")) high low n e
  attr_there Bytes name high low n e = cc

  so_most : (most : Option ℕ) (term : ℕ) (d : Done) (from to : ℕ) (prim : Primitive) (high low : ℕ) (name : List ℕ) → greatest prim name ≡ most
      → done_at env.done term ≡ Some d → d.kid ≡ Number from to prim high low → AreRanged prim high low
      → AreSo v (ranges (mention (named scope.side term name) []) most)
  so_most None term d from to prim high low name g e f ranged =
      so_ranges v (mention (named scope.side term name) []) None (v (named scope.side term name))
      (stands_variable v (named scope.side term name) [] _ refl refl) tt
  so_most (Some n) term d from to prim high low name g e f ranged =
      let z = attr_there prim name high low n g in
      let within : IsRanged (Some n) z.0 = subst (λ o. IsRanged o z.0) g (ranged name z.0 z.1) in
      so_ranges v (mention (named scope.side term name) []) (Some n) z.0
      (stands_variable v (named scope.side term name) [] z.0 refl
      (fits.numbers term d from to prim high low name z.0 e f z.1 (in_range n z.0 (most_of prim name n g) within))) within

  so_attr : (term : ℕ) (d : Done) (from to : ℕ) (prim : Primitive) (high low : ℕ) (name : List ℕ) → done_at env.done term ≡ Some d
      → d.kid ≡ Number from to prim high low → AreRanged prim high low
      → AreSo v (attr_ranges scope term prim name)
  unfolding attr_ranges
  so_attr term d from to prim high low name e f ranged = so_most (greatest prim name) term d from to prim high low name refl e f ranged

  so_numbers : (term : ℕ) (d : Done) (from to : ℕ) (prim : Primitive) (high low : ℕ) → done_at env.done term ≡ Some d → d.kid ≡ Number from to prim high low
      → AreRanged prim high low
      → AreSo v (number_ranges scope term prim)
  unfolding number_ranges
  so_numbers term d from to prim high low e f ranged =
      so_append v (attr_ranges scope term prim (codes "hi")) _ (so_attr term d from to prim high low (codes "hi") e f ranged)
      (so_append v (attr_ranges scope term prim (codes "lo")) (attr_ranges scope term prim (codes "val"))
      (so_attr term d from to prim high low (codes "lo") e f ranged)
      (so_attr term d from to prim high low (codes "val") e f ranged))

  -- the ends of a result are the values of its fields
  read_is : (term : ℕ) (d : Done) (z : Option ℤ) → done_at env.done term ≡ Some d
      → seen env.names (sym_of d.kid) Start (done_at env.done term) ≡ field_of env.names Start d.kid
  read_is term d z e =
      ap (seen env.names (sym_of d.kid) Start) e
      ∙ ap (λ t. if t then field_of env.names Start d.kid else None) (or_true (not d.is_switch || is_text (sym_of d.kid)) _ (same_is (sym_of d.kid)))

  read_end : (term : ℕ) (d : Done) → done_at env.done term ≡ Some d → seen env.names (sym_of d.kid) End (done_at env.done term) ≡ field_of env.names End d.kid
  read_end term d e =
      ap (seen env.names (sym_of d.kid) End) e ∙ ap (λ t. if t then field_of env.names End d.kid else None)
      (or_true (not d.is_switch || is_text (sym_of d.kid)) _ (same_is (sym_of d.kid)))

  begins_at : (term : ℕ) (d : Done) (x : ℕ) → done_at env.done term ≡ Some d → field_of env.names Start d.kid ≡ Some (pos x) → x ≤ env.eoi
      → Stands v (start_of scope term) (pos x)
  begins_at term d x e f h =
      stands_variable v (start scope.side term) [] (pos x) refl
      (fits.results term (sym_of d.kid) Start (pos x) (read_is term d None e ∙ f) (is_number x (let q : env.eoi ≤ 2 ^ 30 = size in omega arith)))

  ends_at_place : (term : ℕ) (d : Done) (x : ℕ) → done_at env.done term ≡ Some d → field_of env.names End d.kid ≡ Some (pos x) → x ≤ env.eoi
      → Stands v (end_of scope term) (pos x)
  ends_at_place term d x e f h =
      stands_variable v (end scope.side term) [] (pos x) refl
      (fits.results term (sym_of d.kid) End (pos x) (read_end term d e ∙ f) (is_number x (let q : env.eoi ≤ 2 ^ 30 = size in omega arith)))

  module _ (term : ℕ) (l r : Form) (a b : ℕ) (s : Stands v l (pos a)) (t : Stands v r (pos b)) (valid : a ≤ b) (inside : b ≤ env.eoi) where
    text_so : (d : Done) (from to : ℕ) (bytes token : List ℕ) → done_at env.done term ≡ Some d → d.kid ≡ Token from to token → from ≡ a → to ≡ b
        → token ≡ bytes → length bytes ≤ b - a
        → AreSo v (text_touches scope term l r (length bytes))
    text_so d from to bytes token e f p q same h =
        let ends : Ends = moved a (first_of (b - a) (length bytes)) in
        let is : ends_of d.kid ≡ ends = ap ends_of f ∙ ap (λ n. moved n (first_of (to - n) (length token))) p
        ∙ ap (λ n. moved a (first_of (n - a) (length token))) q ∙ ap (λ bs. moved a (first_of (b - a) (length bs))) same in
        let in_part : (ends.start ≤ b) × (ends.end ≤ b) = first_within (length bytes) a b valid h in
        so_text term l r a b ends.start ends.end s t
        (begins_at term d ends.start e (ap (field_of env.names Start) f ∙ ap (λ (k : Ends). Some (pos k.start)) (sym (ap ends_of f) ∙ is)) (omega arith))
        (ends_at_place term d ends.end e (ap (field_of env.names End) f ∙ ap (λ (k : Ends). Some (pos k.end)) (sym (ap ends_of f) ∙ is)) (omega arith))
        (length bytes) valid h refl refl

    number_so : (d : Done) (from to : ℕ) (p prim : Primitive) (high low : ℕ) → done_at env.done term ≡ Some d → d.kid ≡ Number from to p high low → from ≡ a
        → to ≡ b → p ≡ prim
        → width prim ≤ b - a → nat_eq (width prim) 0 ≡ false → AreRanged prim high low → AreSo v (number_touches scope term l r prim)
    unfolding number_touches
    number_so d from to p prim high low e f g q same h some ranged =
        let ends : Ends = moved a (first_of (b - a) (width prim)) in
        let is : ends_of d.kid ≡ ends = ap ends_of f ∙ ap (λ n. moved n (first_of (to - n) (width p))) g ∙ ap (λ n. moved a (first_of (n - a) (width p))) q
        ∙ ap (λ m. moved a (first_of (b - a) (width m))) same in
        let in_part : (ends.start ≤ b) × (ends.end ≤ b) = first_within (width prim) a b valid h in
        so_append v (touches_first scope term l r (width prim)) (number_ranges scope term prim)
        (so_width term l r a b ends.start ends.end s t
        (begins_at term d ends.start e (ap (field_of env.names Start) f ∙ ap (λ (k : Ends). Some (pos k.start)) (sym (ap ends_of f) ∙ is)) (omega arith))
        (ends_at_place term d ends.end e (ap (field_of env.names End) f ∙ ap (λ (k : Ends). Some (pos k.end)) (sym (ap ends_of f) ∙ is)) (omega arith))
        (width prim) (starts_at (width prim) a b some) (ends_at (width prim) a b some) (omega arith))
        (so_numbers term d from to prim high low e (f ∙ ap (λ m. Number from to m high low) same) ranged)

    raw_so : (d : Done) (from to : ℕ) (bytes : List ℕ) → done_at env.done term ≡ Some d → d.kid ≡ Raw from to bytes → from ≡ a → to ≡ b
        → AreSo v (touches_all scope term l r)
    raw_so d from to bytes e f g q =
        so_all term l r a b a b s t
        (begins_at term d a e (ap (field_of env.names Start) f ∙ ap (λ n. Some (pos n)) g) (omega arith))
        (ends_at_place term d b e (ap (field_of env.names End) f ∙ ap (λ n. Some (pos n)) q) (omega arith)) refl refl

    tree_so : (d : Done) (from to callee : ℕ) (tree : Tree) → done_at env.done term ≡ Some d → d.kid ≡ Sub from to tree → from ≡ a
        → IsTreeOf scope.marks callee (b - a) tree
        → AreSo v (rule_touches scope term l r (is_marked scope.marks callee))
    tree_so d from to callee tree e f g is =
        let n : ℕ = (tree_ends tree).start in
        let m : ℕ = (tree_ends tree).end in
        let p : n ≤ b - a = is.starts in
        let q : m ≤ b - a = is.ends in
        so_rule term l r a b (a + n) (a + m) s t
        (begins_at term d (a + n) e (ap (field_of env.names Start) f ∙ ap (λ k. Some (pos k)) (sub_start from to tree ∙ ap (λ k. k + n) g)) (omega arith))
        (ends_at_place term d (a + m) e (ap (field_of env.names End) f ∙ ap (λ k. Some (pos k)) (sub_end from to tree ∙ ap (λ k. k + m) g)) (omega arith))
        (is_marked scope.marks callee) valid n m p q refl refl (nat_lt n m) refl is.must is.none

    result_so : (sym : Sym) (d : Done) (k : Kid) → done_at env.done term ≡ Some d → d.kid ≡ k → IsResult scope.marks sym a b k
        → AreSo v (touches scope term sym l r)
    unfolding touches primitive_touches
    result_so (Text bytes) d (Token from to token) e f h = text_so d from to bytes token e f h.0 h.1 h.2 h.3
    result_so (Prim U8) d (Number from to p high low) e f h = number_so d from to p U8 high low e f h.0 h.1 h.2 h.3 refl h.4
    result_so (Prim U16LE) d (Number from to p high low) e f h = number_so d from to p U16LE high low e f h.0 h.1 h.2 h.3 refl h.4
    result_so (Prim U16BE) d (Number from to p high low) e f h = number_so d from to p U16BE high low e f h.0 h.1 h.2 h.3 refl h.4
    result_so (Prim U32LE) d (Number from to p high low) e f h = number_so d from to p U32LE high low e f h.0 h.1 h.2 h.3 refl h.4
    result_so (Prim U32BE) d (Number from to p high low) e f h = number_so d from to p U32BE high low e f h.0 h.1 h.2 h.3 refl h.4
    result_so (Prim U64LE) d (Number from to p high low) e f h = number_so d from to p U64LE high low e f h.0 h.1 h.2 h.3 refl h.4
    result_so (Prim U64BE) d (Number from to p high low) e f h = number_so d from to p U64BE high low e f h.0 h.1 h.2 h.3 refl h.4
    result_so (Prim Bytes) d (Raw from to bytes) e f h = raw_so d from to bytes e f h.0 h.1
    result_so (Rule callee) d (Sub from to tree) e f h = tree_so d from to callee tree e f h.0 h.2
    result_so _ d _ e f h = absurd h

pub so_slot : (v : Valuation) (scope : Scope) (env : Environment) → Fits v scope env → env.eoi ≤ 2 ^ 30 → (term : ℕ) (slot : CoreSlot)
    → SlotRan scope.marks env term slot → AreSo v (slot_members scope term slot)
unfolding on_interval
so_slot v scope env fits size term slot ran =
    let l : ℕ = ran.valid.l in
    let r : ℕ = ran.valid.r in
    let left : Stands v (form scope slot.from) (pos l) = (known v scope env fits slot.from (pos l) ran.valid.is_left).form in
    let right : Stands v (form scope slot.to) (pos r) = (known v scope env fits slot.to (pos r) ran.valid.is_right).form in
    so_append v (is_valid scope (form scope slot.from) (form scope slot.to)) (touches scope term slot.sym (form scope slot.from) (form scope slot.to))
    (so_valid v scope env fits size (form scope slot.from) (form scope slot.to) l r left right ran.valid.order ran.valid.inside)
    (result_so v scope env fits size term (form scope slot.from)
    (form scope slot.to) l r left right ran.valid.order ran.valid.inside slot.sym ran.done ran.done.kid ran.there refl ran.result)
