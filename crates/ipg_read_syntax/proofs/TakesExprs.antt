-- The machine takes each expression that stands at its level.
use Rattle.std.proofs.Common.{◌≡◌, ℕ, ◌+◌, ◌≤◌, List, [], ◌∷◌, ◌++◌, refl, ap, ◌∙◌, sym, arith, append_assoc, le_refl, le_trans, lit≤}
use Rattle.ipg_ast.specs.declared.grammar.Ident.{Ident}
use Rattle.ipg_ast.specs.declared.grammar.Field.{Field}
use Rattle.ipg_ast.specs.declared.grammar.Field.TheVariants.{Id as Attribute, Start, End}
use Rattle.ipg_read_syntax.specs.Classes.{level, Tok, name, sign, question, colon, dot, right_paren}
use Rattle.ipg_read_syntax.specs.Levels.{level_high}
use Rattle.ipg_read_syntax.specs.Written.{Toks, ExprTree, num, eoi, own, part, item, group, neg, isnt, two, choose, field_tok, spell_expr, Stands, prefix_level}
use Rattle.ipg_read_syntax.specs.Limits.{past}
use Rattle.ipg_read_syntax.specs.Machine
use Rattle.ipg_read_syntax.specs.Machine.{Acts, Frame, Inner, want, have, Base, Site, State, in_term, expr, turned, onward, close, verdict}
use Rattle.ipg_read_syntax.specs.Making.{expr_by}
use Rattle.ipg_read_syntax.proofs.Frames.{need, close_none, close_left, close_else, level_low, Ends, tightness, name_ends, same_close}

pub past_append : (at : ℕ) (xs ys : Toks) → past at (xs ++ ys) ≡ past (past at xs) ys
past_append at [] ys = refl
past_append at (x ∷ xs) ys = past_append (at + 1) xs ys

module _ (A : Acts) (log : A.Log) (site : Site A) (before : A.Terms) (base : Base A) (first : ℕ) where
  abbrev pub inside : Inner A → State A
  inside inner = record { log = log; pos = in_term site before (expr base first inner) }

  pub alike : (at : ℕ) (fs gs : List (Frame A)) (e f : A.Expr) (t : Tok) (rest : Toks)
      → close A (tightness t) fs e ≡ close A (tightness t) gs f
      → verdict A at (inside (have fs e)) (t ∷ rest) ≡ verdict A at (inside (have gs f)) (t ∷ rest)
  alike at fs gs e f t rest same =
      ap (λ turn. onward at (turned A at site before t turn) (λ next. verdict A (at + 1) next rest)) (same_close A at log base first fs gs e f t same)

  part_end : (at : ℕ) (fs : List (Frame A)) (i : Ident) (f : Field) (rest : Toks)
      → verdict A at (inside (want fs)) (name i ∷ dot ∷ field_tok f ∷ rest) ≡ verdict A (at + 1 + 1 + 1) (inside (have fs (A.part i f))) rest
  part_end at fs i (Attribute n) rest = refl
  part_end at fs i Start rest = refl
  part_end at fs i End rest = refl

  item_end : (at : ℕ) (fs : List (Frame A)) (i : Ident) (e : A.Expr) (f : Field) (rest : Toks)
      → verdict A at (inside (have (Machine.index i ∷ fs) e)) (right_paren ∷ dot ∷ field_tok f ∷ rest)
      ≡ verdict A (at + 1 + 1 + 1) (inside (have fs (A.item i e f))) rest
  item_end at fs i e (Attribute n) rest = refl
  item_end at fs i e Start rest = refl
  item_end at fs i e End rest = refl

  pub takes_expr : (e : ExprTree) (l at : ℕ) (fs : List (Frame A)) (t : Tok) (rest : Toks) → Stands l e → need fs ≤ l → Ends l t
      → verdict A at (inside (want fs)) (spell_expr e ++ (t ∷ rest)) ≡ verdict A (past at (spell_expr e)) (inside (have fs (expr_by A e))) (t ∷ rest)
  takes_expr (num z) l at fs t rest stands due ends = refl
  takes_expr eoi l at fs t rest stands due ends = refl
  takes_expr (own i) l at fs t rest stands due ends =
      ap (λ turn. onward (at + 1) (turned A (at + 1) site before t turn) (λ next. verdict A (at + 1 + 1) next rest))
      (name_ends A (at + 1) log base first fs i t ends.1)
  takes_expr (part i f) l at fs t rest stands due ends = part_end at fs i f (t ∷ rest)
  takes_expr (item i e f) l at fs t rest stands due ends =
      ap (λ toks. verdict A (at + 1 + 1) (inside (want (Machine.index i ∷ fs))) toks)
      (append_assoc (spell_expr e) (right_paren ∷ dot ∷ field_tok f ∷ []) (t ∷ rest))
      ∙ takes_expr e 0 (at + 1 + 1) (Machine.index i ∷ fs) right_paren (dot ∷ field_tok f ∷ t ∷ rest) stands (le_refl 0) (le_refl 0, refl)
      ∙ item_end (past (at + 1 + 1) (spell_expr e)) fs i (expr_by A e) f (t ∷ rest)
      ∙ ap (λ n. verdict A n (inside (have fs (A.item i (expr_by A e) f))) (t ∷ rest))
      (sym (past_append (at + 1 + 1) (spell_expr e) (right_paren ∷ dot ∷ field_tok f ∷ [])))
  takes_expr (group e) l at fs t rest stands due ends =
      ap (λ toks. verdict A (at + 1) (inside (want (Machine.group ∷ fs))) toks) (append_assoc (spell_expr e) (right_paren ∷ []) (t ∷ rest))
      ∙ takes_expr e 0 (at + 1) (Machine.group ∷ fs) right_paren (t ∷ rest) stands (le_refl 0) (le_refl 0, refl)
      ∙ ap (λ n. verdict A n (inside (have fs (A.group (expr_by A e)))) (t ∷ rest)) (sym (past_append (at + 1) (spell_expr e) (right_paren ∷ [])))
  takes_expr (neg e) l at fs t rest stands due ends =
      takes_expr e prefix_level (at + 1) (Machine.neg ∷ fs) t rest stands.1 (le_refl prefix_level) (le_trans ends.0 stands.0, ends.1)
      ∙ alike (past (at + 1) (spell_expr e)) (Machine.neg ∷ fs) fs (expr_by A e) (A.neg (expr_by A e)) t rest refl
  takes_expr (isnt e) l at fs t rest stands due ends =
      takes_expr e prefix_level (at + 1) (Machine.isnt ∷ fs) t rest stands.1 (le_refl prefix_level) (le_trans ends.0 stands.0, ends.1)
      ∙ alike (past (at + 1) (spell_expr e)) (Machine.isnt ∷ fs) fs (expr_by A e) (A.isnt (expr_by A e)) t rest refl
  takes_expr (two i a b) l at fs t rest stands due ends =
      let a' : A.Expr = expr_by A a in
      let b' : A.Expr = expr_by A b in
      let mid : ℕ = past at (spell_expr a) in
      let fits : need fs ≤ level i = le_trans due stands.0 in
      let tight : tightness t ≤ level i = le_trans ends.0 stands.0 in
      ap (λ toks. verdict A at (inside (want fs)) toks) (append_assoc (spell_expr a) (sign i ∷ spell_expr b) (t ∷ rest))
      ∙ takes_expr a (level i) at fs (sign i) (spell_expr b ++ (t ∷ rest)) stands.1 fits (le_refl (level i), refl)
      ∙ ap (λ c. verdict A (mid + 1) (inside (Machine.with_left i c)) (spell_expr b ++ (t ∷ rest)))
      (close_none A (level i) fs a' fits (level_low i) (level_high i))
      ∙ takes_expr b (level i + 1) (mid + 1) (Machine.left i a' ∷ fs) t rest stands.2 (le_refl (level i + 1))
      (let up : tightness t ≤ level i + 1 = omega arith in up, ends.1)
      ∙ alike (past (mid + 1) (spell_expr b)) (Machine.left i a' ∷ fs) fs b' (A.two i a' b') t rest (close_left A (tightness t) fs i a' b' tight)
      ∙ ap (λ n. verdict A n (inside (have fs (A.two i a' b'))) (t ∷ rest)) (sym (past_append at (spell_expr a) (sign i ∷ spell_expr b)))
  takes_expr (choose c span a b) l at fs t rest stands due ends =
      let c' : A.Expr = expr_by A c in
      let a' : A.Expr = expr_by A a in
      let b' : A.Expr = expr_by A b in
      let mid : ℕ = past at (spell_expr c) in
      let late : ℕ = past (mid + 1) (spell_expr a) in
      let loose : need fs ≤ 0 = le_trans due stands.0 in
      let whole : Ends 0 t = (le_trans ends.0 stands.0, ends.1) in
      ap (λ toks. verdict A at (inside (want fs)) toks) (append_assoc (spell_expr c) (question span ∷ (spell_expr a ++ (colon ∷ spell_expr b))) (t ∷ rest))
      ∙ takes_expr c 1 at fs (question span) ((spell_expr a ++ (colon ∷ spell_expr b)) ++ (t ∷ rest)) stands.1 (let up : need fs ≤ 1 = omega arith in up)
      (le_refl 1, refl)
      ∙ ap (λ d. verdict A (mid + 1) (inside (Machine.with_test span d)) ((spell_expr a ++ (colon ∷ spell_expr b)) ++ (t ∷ rest)))
      (close_none A 1 fs c' (let up : need fs ≤ 1 = omega arith in up) (le_refl 1) (lit≤ tt))
      ∙ ap (λ toks. verdict A (mid + 1) (inside (want (Machine.then_of c' span ∷ fs))) toks) (append_assoc (spell_expr a) (colon ∷ spell_expr b) (t ∷ rest))
      ∙ takes_expr a 0 (mid + 1) (Machine.then_of c' span ∷ fs) colon (spell_expr b ++ (t ∷ rest)) stands.2 (le_refl 0) (le_refl 0, refl)
      ∙ takes_expr b 0 (late + 1) (Machine.else_of c' span a' ∷ fs) t rest stands.3 (le_refl 0) whole
      ∙ alike (past (late + 1) (spell_expr b)) (Machine.else_of c' span a' ∷ fs) fs b' (A.choose c' span a' b') t rest
      (close_else A (tightness t) fs c' span a' b' whole.0)
      ∙ ap (λ n. verdict A n (inside (have fs (A.choose c' span a' b'))) (t ∷ rest))
      (sym (past_append at (spell_expr c) (question span ∷ (spell_expr a ++ (colon ∷ spell_expr b)))
      ∙ past_append (mid + 1) (spell_expr a) (colon ∷ spell_expr b)))
