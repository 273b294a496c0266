-- The text of an expression, by its outermost form.
use Rattle.std.proofs.Common.{◌≡◌, ◌∷◌, ◌++◌, [], List, ℕ, ap, refl, ◌∙◌, sym, codes}
use Rattle.ipg_num.specs.declared.op.Op2.{Op2}
use Rattle.ipg_num.specs.declared.op.Op2.TheVariants.{Add, Sub, Mul, Div, Mod, Shl, Shr, BitAnd, BitOr, BitXor, Eq, Ne, Lt, Le, Gt, Ge}
use Rattle.ipg_ast.specs.Spelling.{expr_step, expr_tokens, field_tokens, sign_of}
use Rattle.ipg_ast.specs.Canonical.{tokens_text, gap}
use Rattle.ipg_ast.specs.declared.token.TokenKind.TheVariants.{Symbol}
use Rattle.ipg_ast.specs.declared.grammar.Ident.{Ident}
use Rattle.ipg_ast.specs.declared.grammar.Field.{Field}
use Rattle.ipg_ast.specs.declared.grammar.Expr.{Expr}
use Rattle.ipg_ast.specs.declared.grammar.Expr.TheVariants.{Item, Group, Neg, Not, Two, Both, Either, Cond}
use Rattle.std.proofs.lemmas.List.{append_assoc}
use Rattle.ipg_ast.proofs.Texts.{text_append}
use Rattle.ipg_ast.specs.Folds.{at_both, at_cond, at_either, at_group, at_item, at_neg, at_not, at_two}

abbrev pub text : Expr → List ℕ
text e = tokens_text (expr_tokens e)

sign_gap : (op : Op2) → gap (Symbol (sign_of op)) ≡ 32
sign_gap Add = refl
sign_gap Sub = refl
sign_gap Mul = refl
sign_gap Div = refl
sign_gap Mod = refl
sign_gap Shl = refl
sign_gap Shr = refl
sign_gap BitAnd = refl
sign_gap BitOr = refl
sign_gap BitXor = refl
sign_gap Eq = refl
sign_gap Ne = refl
sign_gap Lt = refl
sign_gap Le = refl
sign_gap Gt = refl
sign_gap Ge = refl

-- each form as it is written, piece after piece
pub neg_text : (e : Expr) → 45 ∷ 32 ∷ text e ≡ text (Neg e)
neg_text e = sym (ap tokens_text (at_neg expr_step e))

pub not_text : (e : Expr) → 33 ∷ 32 ∷ text e ≡ text (Not e)
not_text e = sym (ap tokens_text (at_not expr_step e))

pub group_text : (e : Expr) → 40 ∷ 32 ∷ (text e ++ (41 ∷ 32 ∷ [])) ≡ text (Group e)
group_text e = sym (
    ap tokens_text (at_group expr_step e)
    ∙ ap (λ t. 40 ∷ 32 ∷ t) (text_append (expr_tokens e) (Symbol (codes ")") ∷ [])))

pub item_text : (of : Ident) (e : Expr) (f : Field)
    → ((((of.name ++ (32 ∷ [])) ++ (40 ∷ 32 ∷ [])) ++ text e) ++ (41 ∷ 32 ∷ [])) ++ (46 ∷ 32 ∷ []) ++ tokens_text (field_tokens f) ≡ text (Item of e f)
item_text of e f =
    let flat : ((((of.name ++ (32 ∷ [])) ++ (40 ∷ 32 ∷ [])) ++ text e) ++ (41 ∷ 32 ∷ [])) ++ (46 ∷ 32 ∷ []) ++ tokens_text (field_tokens f)
    ≡ of.name ++ (32 ∷ 40 ∷ 32 ∷ (text e ++ (41 ∷ 32 ∷ 46 ∷ 32 ∷ tokens_text (field_tokens f)))) = simp append_assoc refl in
    flat ∙ sym (
    ap tokens_text (at_item expr_step of e f)
    ∙ ap (λ t. of.name ++ (32 ∷ 40 ∷ 32 ∷ t)) (text_append (expr_tokens e) (Symbol (codes ")") ∷ Symbol (codes ".") ∷ field_tokens f)))

pub two_text : (op : Op2) (a b : Expr) → (text a ++ (sign_of op ++ (32 ∷ []))) ++ text b ≡ text (Two op a b)
two_text op a b =
    let flat : (text a ++ (sign_of op ++ (32 ∷ []))) ++ text b ≡ text a ++ (sign_of op ++ (32 ∷ text b)) = simp append_assoc refl in
    flat ∙ sym (
    ap tokens_text (at_two expr_step op a b)
    ∙ text_append (expr_tokens a) (Symbol (sign_of op) ∷ expr_tokens b)
    ∙ ap (λ g. text a ++ (sign_of op ++ (g ∷ text b))) (sign_gap op))

pub both_text : (a b : Expr) → (text a ++ (38 ∷ 38 ∷ 32 ∷ [])) ++ text b ≡ text (Both a b)
both_text a b = append_assoc (text a) (38 ∷ 38 ∷ 32 ∷ []) (text b) ∙ sym (
    ap tokens_text (at_both expr_step a b)
    ∙ text_append (expr_tokens a) (Symbol (codes "&&") ∷ expr_tokens b))

pub either_text : (a b : Expr) → (text a ++ (124 ∷ 124 ∷ 32 ∷ [])) ++ text b ≡ text (Either a b)
either_text a b = append_assoc (text a) (124 ∷ 124 ∷ 32 ∷ []) (text b) ∙ sym (
    ap tokens_text (at_either expr_step a b)
    ∙ text_append (expr_tokens a) (Symbol (codes "||") ∷ expr_tokens b))

pub cond_text : (c a b : Expr) → (((text c ++ (63 ∷ 32 ∷ [])) ++ text a) ++ (58 ∷ 32 ∷ [])) ++ text b ≡ text (Cond c a b)
cond_text c a b =
    let flat : (((text c ++ (63 ∷ 32 ∷ [])) ++ text a) ++ (58 ∷ 32 ∷ [])) ++ text b ≡ text c ++ (63 ∷ 32 ∷ (text a ++ (58 ∷ 32 ∷ text b))) =
    simp append_assoc refl in
    flat ∙ sym (
    ap tokens_text (at_cond expr_step c a b)
    ∙ text_append (expr_tokens c) (Symbol (codes "?") ∷ (expr_tokens a ++ (Symbol (codes ":") ∷ expr_tokens b)))
    ∙ ap (λ t. text c ++ (63 ∷ 32 ∷ t)) (text_append (expr_tokens a) (Symbol (codes ":") ∷ expr_tokens b)))
