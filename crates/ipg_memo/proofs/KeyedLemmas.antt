-- The map that a hash map's entries make, in the keys' order.
use Rattle.std.proofs.Common.{◌≡◌, ℕ, ◌+◌, false, cond, ◌&&◌, List, [], ◌∷◌, length, refl, ap, ◌∙◌, arith}
use Rattle.std.specs.Prelude.{Option, None, Some, is_some}
use Rattle.std.specs.declared.cmp.Ordering.{Ordering}
use Rattle.std.specs.declared.cmp.Ordering.TheVariants.{Less, Equal, Greater}
use Rattle.std.specs.Ordering.{nat_cmp, ordering_then, is_eq, eq_by_cmp}
use Rattle.std.specs.Cmp.{IsTotalOrder, nat_cmp_total, unsigned_tied}
use Rattle.std.specs.List.{AllByRecursion, IsDistinct}
use Rattle.std.specs.Map.{lookup, keys_of}
use Rattle.std.specs.FinMap.{find, get, len, from_entries, get-from_entries, len-insert, len-empty}
use Rattle.std.proofs.lemmas.Cmp.{on_total, then_total}
use Rattle.std.proofs.lemmas.Map.Lookups.{CmpEqualImpliesEq, exact_pairs, exact_unsigned}
use Rattle.ipg_memo.specs.declared.memo.Key.{Key}
use Rattle.ipg_memo.specs.declared.memo.Entry.{Entry}
use Rattle.ipg_memo.specs.Keyed.{key_cmp}
use Rattle.ipg_memo.specs.Ways.{same_key}

-- keys that compare alike are one
pub exact_keys : CmpEqualImpliesEq key_cmp
exact_keys a b h =
    ap (λ (p : ℕ × (ℕ × ℕ)). record { rule = p.0; from = p.1.0; to = p.1.1 })
    (exact_pairs nat_cmp (λ (x y : ℕ × ℕ). ordering_then (nat_cmp x.0 y.0) (nat_cmp x.1 y.1)) exact_unsigned
    (exact_pairs nat_cmp nat_cmp exact_unsigned exact_unsigned)
    (a.rule, (a.from, a.to)) (b.rule, (b.from, b.to)) h)

pub keys_total : IsTotalOrder key_cmp
keys_total = then_total (on_total (λ k. k.rule) nat_cmp_total) (then_total (on_total (λ k. k.from) nat_cmp_total) (on_total (λ k. k.to) nat_cmp_total))

is_eq-then : (r s : Ordering) → is_eq (ordering_then r s) ≡ (is_eq r && is_eq s)
is_eq-then Less s = refl
is_eq-then Equal s = refl
is_eq-then Greater s = refl

pub same_test : (a b : Key) → eq_by_cmp key_cmp a b ≡ same_key a b
same_test a b =
    is_eq-then (nat_cmp a.rule b.rule) (ordering_then (nat_cmp a.from b.from) (nat_cmp a.to b.to))
    ∙ ap (λ t. is_eq (nat_cmp a.rule b.rule) && t) (is_eq-then (nat_cmp a.from b.from) (nat_cmp a.to b.to))
    ∙ (λ i. unsigned_tied a.rule b.rule i && (unsigned_tied a.from b.from i && unsigned_tied a.to b.to i))

pub find_key : (es : List (Key × Entry)) (q : Key) → find key_cmp q es ≡ lookup (same_key q) es
find_key [] q = refl
find_key (e ∷ es) q = ap (cond (eq_by_cmp key_cmp q e.0) (Some e.1)) (find_key es q) ∙ ap (λ b. cond b (Some e.1) (lookup (same_key q) es)) (same_test q e.0)

-- what the map that the entries make has at a key
pub get_key : (es : List (Key × Entry)) (q : Key) → get (from_entries {R = key_cmp} es) q ≡ lookup (same_key q) es
get_key es q = get-from_entries keys_total es q ∙ find_key es q

-- no key of distinct ones is among those after it
not_among : (es : List (Key × Entry)) (k : Key) → AllByRecursion (λ y. same_key k y ≡ false) (keys_of es) → lookup (same_key k) es ≡ None
not_among [] k h = refl
not_among (e ∷ es) k h = ap (λ b. cond b (Some e.1) (lookup (same_key k) es)) h.0 ∙ not_among es k h.1

-- entries at distinct keys are as many as the map has
pub len_distinct : (es : List (Key × Entry)) → IsDistinct same_key (keys_of es) → len (from_entries {R = key_cmp} es) ≡ length es
unfolding IsDistinct
len_distinct [] h = len-empty key_cmp Entry
len_distinct (e ∷ es) h =
    len-insert keys_total (from_entries es) e.0 e.1
    ∙ ap (λ (o : Option Entry). cond (is_some o) (len (from_entries {R = key_cmp} es)) (len (from_entries {R = key_cmp} es) + 1))
    (get_key es e.0 ∙ not_among es e.0 h.0)
    ∙ omega (arith, len_distinct es h.1)
