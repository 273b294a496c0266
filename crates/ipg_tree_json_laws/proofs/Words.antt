-- Equal texts of parts make equal words of lines.
use Rattle.std.proofs.Common.{◌≡◌, ◌≢◌, ℕ, zero, suc, ◌-◌, ◌/◌, ◌%◌, ◌≤◌, Bool, true, false, cond, List, [], ◌∷◌, ◌++◌}
use Rattle.std.proofs.Common.{length, take, codes, refl, ap, ◌∙◌, sym, arith, get_or, decimal, take_all, true≢false}
use Rattle.std.specs.Prelude.{slice_get, slice_index, nat_le}
use Rattle.std.specs.List.{AllByRecursion}
use Rattle.std.proofs.lemmas.Bool.{leb-true, le-leb}
use Rattle.ipg_core.specs.declared.grammar.Primitive.{Primitive}
use Rattle.ipg_core.specs.declared.grammar.Primitive.TheVariants.{U8, U16LE, U16BE, U32LE, U32BE, U64LE, U64BE, Bytes}
use Rattle.ipg_core.specs.declared.grammar.Sym.{Sym}
use Rattle.ipg_core.specs.declared.grammar.Sym.TheVariants.{Text, Prim, Rule}
use Rattle.ipg_core.specs.declared.grammar.CoreRule.{CoreRule}
use Rattle.ipg_core.specs.Grammar.{Grammar, name_at, or_empty}
use Rattle.hex.specs.Hex.{encode_lower, encode_with, lower_digits}
use Rattle.ipg_core.specs.Lines.{hex, short_hex, primitive_name, name_of, rule_name, sym_name}
use Rattle.ipg_tree_json_laws.specs.Laws.{IsUnquoted, HasPlainNames}
use Rattle.ipg_tree_json_laws.proofs.Texts.{spelled, zero_alone}

-- ---- names and bytes have no quotation mark

named : (names : List (List ℕ)) (n : ℕ) → AllByRecursion IsUnquoted names → IsUnquoted (or_empty (slice_get names n))
named [] n all = tt
named (name ∷ names) zero all = all.0
named (name ∷ names) (suc n) all = named names n all.1

ruled : (rules : List CoreRule) (r : ℕ) → AllByRecursion (λ (rule : CoreRule). IsUnquoted rule.name) rules → IsUnquoted (name_of (slice_get rules r))
ruled [] r all = tt
ruled (rule ∷ rules) zero all = all.0
ruled (rule ∷ rules) (suc r) all = ruled rules r all.1

pub name_is : (g : Grammar) → HasPlainNames g → (n : ℕ) → IsUnquoted (name_at g.names n)
name_is g plain n = named g.names n plain.names

pub rule_is : (g : Grammar) → HasPlainNames g → (r : ℕ) → IsUnquoted (rule_name g r)
rule_is g plain r = ruled g.rules r plain.rules

pub primitive_is : (prim : Primitive) → IsUnquoted (primitive_name prim)
primitive_is U8 = spelled (codes "U8") refl
primitive_is U16LE = spelled (codes "U16LE") refl
primitive_is U16BE = spelled (codes "U16BE") refl
primitive_is U32LE = spelled (codes "U32LE") refl
primitive_is U32BE = spelled (codes "U32BE") refl
primitive_is U64LE = spelled (codes "U64LE") refl
primitive_is U64BE = spelled (codes "U64BE") refl
primitive_is Bytes = spelled (codes "Bytes") refl

pub sym_is : (g : Grammar) → HasPlainNames g → (sym : Sym) → IsUnquoted (sym_name g sym)
sym_is g plain (Text bytes) = tt
sym_is g plain (Prim prim) = primitive_is prim
sym_is g plain (Rule r) = rule_is g plain r

-- one of a text's bytes, or 0
one_of : (text : List ℕ) (d : ℕ) → IsUnquoted text → get_or text d 0 ≢ 34
one_of [] d all = λ e. absurd (omega (arith, e))
one_of (b ∷ text) zero all = all.0
one_of (b ∷ text) (suc d) all = one_of text d all.1

digit_is : (d : ℕ) → slice_index lower_digits d ≢ 34
digit_is d = one_of lower_digits d (spelled lower_digits refl)

pub hex_is : (bytes : List ℕ) → IsUnquoted (encode_lower bytes)
unfolding encode_with
hex_is [] = tt
hex_is (b ∷ bytes) = (digit_is (b / 16), (digit_is (b % 16), hex_is bytes))

-- ---- bytes as lines show them

pub same_hex : (a b : List ℕ) → encode_lower a ≡ encode_lower b → hex a ≡ hex b
unfolding encode_with
same_hex [] [] e = refl
same_hex [] (d ∷ b) e = absurd (cc)
same_hex (c ∷ a) [] e = absurd (cc)
same_hex (c ∷ a) (d ∷ b) e = e

-- as `short_hex`, once it is known whether that is all
abbrev shown : Bool → List ℕ → List ℕ
shown all bytes = cond all (hex bytes) (hex (take 32 bytes) ++ codes "+" ++ decimal (length bytes - 32))

-- none are left out of one, so none of the other
none_more : (a b : List ℕ) → length a ≤ 32 → decimal (length a - 32) ≡ decimal (length b - 32) → length b ≤ 32
none_more a b few e =
    let none : length a - 32 ≡ 0 = omega (arith, few) in
    let other = zero_alone (length b - 32) (sym e ∙ ap decimal none) in
    omega (arith, other)

few_hex : (a b : List ℕ) → length a ≤ 32 → length b ≤ 32 → encode_lower (take 32 a) ≡ encode_lower (take 32 b) → hex a ≡ hex b
few_hex a b few other e =
    same_hex a b (ap encode_lower (sym (take_all 32 a few)) ∙ e ∙ ap encode_lower (take_all 32 b other))

same_shown : (t u : Bool) (a b : List ℕ) → nat_le (length a) 32 ≡ t → nat_le (length b) 32 ≡ u
    → encode_lower (take 32 a) ≡ encode_lower (take 32 b) → decimal (length a - 32) ≡ decimal (length b - 32) → shown t a ≡ shown u b
same_shown true true a b is other e more = few_hex a b (leb-true _ _ is) (leb-true _ _ other) e
same_shown true false a b is other e more =
    let few = sym (le-leb _ _ (none_more a b (leb-true _ _ is) more)) ∙ other in absurd (true≢false few)
same_shown false true a b is other e more =
    let few = sym (le-leb _ _ (none_more b a (leb-true _ _ other) (sym more))) ∙ is in absurd (true≢false few)
same_shown false false a b is other e more = λ i. same_hex (take 32 a) (take 32 b) e i ++ codes "+" ++ more i

pub same_short : (a b : List ℕ) → encode_lower (take 32 a) ≡ encode_lower (take 32 b) → decimal (length a - 32) ≡ decimal (length b - 32)
    → short_hex a ≡ short_hex b
same_short a b e more = same_shown (nat_le (length a) 32) (nat_le (length b) 32) a b refl refl e more
