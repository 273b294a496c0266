-- Within an expression each step keeps the levels, and stands for one token more.
use Rattle.std.proofs.Common.{◌≡◌, ℕ, ◌+◌, ◌≤◌, ◌<◌, List, [], ◌∷◌, ◌++◌, Bool, true, false, cond, nat_le}
use Rattle.std.proofs.Common.{refl, ap, ◌∙◌, sym, arith, append_assoc, le_refl, le_trans, lit≤}
use Rattle.std.proofs.lemmas.Bool.{leb-true, leb-false}
use Rattle.ipg_ast.specs.declared.grammar.Ident.{Ident}
use Rattle.ipg_ast.specs.declared.grammar.Field.{Field}
use Rattle.ipg_ast.specs.declared.grammar.Field.TheVariants.{Id as Attribute, Start, End}
use Rattle.ipg_num.specs.declared.op.Op2.TheVariants.{Sub}
use Rattle.ipg_read_syntax.specs.Classes.{op, level, Tok, name, number, sign, bang, question, colon, dot, left_paren, right_paren, start_word}
use Rattle.ipg_read_syntax.specs.Classes.{end_word, eoi_word}
use Rattle.ipg_read_syntax.specs.Levels.{level_high}
use Rattle.ipg_read_syntax.specs.Written
use Rattle.ipg_read_syntax.specs.Written.{Toks, ExprTree, field_tok, spell_expr, Stands, prefix_level}
use Rattle.ipg_read_syntax.specs.Machine
use Rattle.ipg_read_syntax.specs.Machine.{Frame, neg, isnt, left, group, index, then_of, else_of, Closing, close}
use Rattle.ipg_read_syntax.specs.Machine.{Inner, want, have, named, dotted, indexed, index_dotted}
use Rattle.ipg_read_syntax.specs.Making.{trees}
use Rattle.ipg_read_syntax.proofs.Frames.{need, level_low}
use Rattle.ipg_read_syntax.proofs.Taken.{frames_before, KeptFrames, Next, InnerNext}

-- where a tighter level is met, a looser one is
pub weaker : (e : ExprTree) (l m : ℕ) → l ≤ m → Stands m e → Stands l e
weaker (Written.num z) l m less stands = tt
weaker Written.eoi l m less stands = tt
weaker (Written.own i) l m less stands = tt
weaker (Written.part i f) l m less stands = tt
weaker (Written.item i e f) l m less stands = stands
weaker (Written.group e) l m less stands = stands
weaker (Written.neg e) l m less stands = (le_trans less stands.0, stands.1)
weaker (Written.isnt e) l m less stands = (le_trans less stands.0, stands.1)
weaker (Written.two i a b) l m less stands = (le_trans less stands.0, stands.1, stands.2)
weaker (Written.choose c at a b) l m less stands = (le_trans less stands.0, stands.1, stands.2, stands.3)

pub need_high : (fs : List (Frame trees)) → need fs ≤ prefix_level
need_high [] = lit≤ tt
need_high (neg ∷ fs) = le_refl prefix_level
need_high (isnt ∷ fs) = le_refl prefix_level
need_high (left i a ∷ fs) = let h : level i < prefix_level = level_high i in omega arith
need_high (group ∷ fs) = lit≤ tt
need_high (index i ∷ fs) = lit≤ tt
need_high (then_of c at ∷ fs) = lit≤ tt
need_high (else_of c at a ∷ fs) = lit≤ tt

-- no level is 1 but that of `||`, whose right operand needs 2
pub need_none : (fs : List (Frame trees)) → need fs ≤ 1 → need fs ≤ 0
need_none [] due = le_refl 0
need_none (neg ∷ fs) due = absurd (let no : ⊥ = omega arith in no)
need_none (isnt ∷ fs) due = absurd (let no : ⊥ = omega arith in no)
need_none (left i a ∷ fs) due = absurd (let low : 1 ≤ level i = level_low i in let no : ⊥ = omega arith in no)
need_none (group ∷ fs) due = le_refl 0
need_none (index i ∷ fs) due = le_refl 0
need_none (then_of c at ∷ fs) due = le_refl 0
need_none (else_of c at a ∷ fs) due = le_refl 0

-- what closing gives
pub record Closed (p : ℕ) (before : Toks → Toks) (c : Closing trees) : Type 0 where
  pub kept : KeptFrames c.frames
  pub stands : Stands p c.operand
  pub due : need c.frames ≤ p
  pub same : (r : Toks) → before r ≡ frames_before c.frames (spell_expr c.operand ++ r)

abbrev above : List (Frame trees) → ExprTree → Toks → Toks
above fs e r = frames_before fs (spell_expr e ++ r)

least : (p : ℕ) → 0 ≤ p
least p = omega arith

either_way : (p q : ℕ) (before : Toks → Toks) (x y : Closing trees) → (p ≤ q → Closed p before x) → (q < p → Closed p before y)
    → Closed p before (cond (nat_le p q) x y)
either_way p q before x y tight loose = go (nat_le p q) refl
  where
    go : (b : Bool) → nat_le p q ≡ b → Closed p before (cond b x y)
    go true is = tight (leb-true p q is)
    go false is = loose (leb-false p q is)

pub closes : (p m : ℕ) (fs : List (Frame trees)) (e : ExprTree) (before : Toks → Toks) → p ≤ prefix_level → p ≤ m → need fs ≤ m → KeptFrames fs → Stands m e
    → ((r : Toks) → before r ≡ above fs e r) → Closed p before (close trees p fs e)
closes p m [] e before high below due kept stands same = record { kept = tt; stands = weaker e p m below stands; due = least p; same = same }
closes p m (neg ∷ fs) e before high below due kept stands same =
    closes p prefix_level fs (Written.neg e) before high high (need_high fs) kept (le_refl prefix_level, weaker e prefix_level m due stands) same
closes p m (isnt ∷ fs) e before high below due kept stands same =
    closes p prefix_level fs (Written.isnt e) before high high (need_high fs) kept (le_refl prefix_level, weaker e prefix_level m due stands) same
closes p m (left i a ∷ fs) e before high below due kept stands same =
    either_way p (level i) before (close trees p fs (Written.two i a e)) (record { frames = left i a ∷ fs; operand = e })
    (λ tight. closes p (level i) fs (Written.two i a e) before high tight kept.2 kept.0
    (le_refl (level i), kept.1, weaker e (level i + 1) m due stands)
    (λ r. same r ∙ ap (frames_before fs) (sym (append_assoc (spell_expr a) (sign i ∷ spell_expr e) r))))
    (λ loose. record { kept = kept; stands = weaker e p m below stands; due = omega arith; same = same })
closes p m (group ∷ fs) e before high below due kept stands same = record { kept = kept; stands = weaker e p m below stands; due = least p; same = same }
closes p m (index i ∷ fs) e before high below due kept stands same = record { kept = kept; stands = weaker e p m below stands; due = least p; same = same }
closes p m (then_of c at ∷ fs) e before high below due kept stands same = record { kept = kept; stands = weaker e p m below stands; due = least p; same = same }
closes p m (else_of c at a ∷ fs) e before high below due kept stands same =
    either_way p 0 before (close trees p fs (Written.choose c at a e)) (record { frames = else_of c at a ∷ fs; operand = e })
    (λ loose. closes p 0 fs (Written.choose c at a e) before high loose kept.2 kept.0
    (le_refl 0, kept.1, kept.3, weaker e 0 m (least m) stands)
    (λ r. same r ∙ ap (frames_before fs) (sym (append_assoc (spell_expr c) (question at ∷ (spell_expr a ++ (colon ∷ spell_expr e))) r
    ∙ ap (λ toks. spell_expr c ++ (question at ∷ toks)) (append_assoc (spell_expr a) (colon ∷ spell_expr e) r)))))
    (λ tight. record { kept = kept; stands = weaker e p m below stands; due = least p; same = same })

-- ---- steps

-- an operand is due
pub want_keeps : (fs : List (Frame trees)) (t : Tok) (before : Toks → Toks) → KeptFrames fs → ((r : Toks) → before r ≡ frames_before fs r)
    → Next (InnerNext before t) (Machine.want_move trees fs t)
want_keeps fs (number z) before kept same = record { kept = (kept, tt); same = λ r. same (number z ∷ r) }
want_keeps fs eoi_word before kept same = record { kept = (kept, tt); same = λ r. same (eoi_word ∷ r) }
want_keeps fs (name i) before kept same = record { kept = kept; same = λ r. same (name i ∷ r) }
want_keeps fs left_paren before kept same = record { kept = kept; same = λ r. same (left_paren ∷ r) }
want_keeps fs (sign (op Sub)) before kept same = record { kept = kept; same = λ r. same (sign (op Sub) ∷ r) }
want_keeps fs bang before kept same = record { kept = kept; same = λ r. same (bang ∷ r) }
want_keeps fs t before kept same = tt

pub part_keeps : (fs : List (Frame trees)) (i : Ident) (t : Tok) (before : Toks → Toks) → KeptFrames fs
    → ((r : Toks) → before r ≡ frames_before fs (name i ∷ dot ∷ r))
    → Next (InnerNext before t) (Machine.part_made trees fs i (Machine.field_of t))
part_keeps fs i (name n) before kept same = record { kept = (kept, tt); same = λ r. same (name n ∷ r) }
part_keeps fs i start_word before kept same = record { kept = (kept, tt); same = λ r. same (start_word ∷ r) }
part_keeps fs i end_word before kept same = record { kept = (kept, tt); same = λ r. same (end_word ∷ r) }
part_keeps fs i t before kept same = tt

item_spelled : (fs : List (Frame trees)) (i : Ident) (e : ExprTree) (f : Field) (t : Tok) (before : Toks → Toks) → field_tok f ≡ t → KeptFrames fs → Stands 0 e
    → ((r : Toks) → before r ≡ frames_before fs (name i ∷ left_paren ∷ (spell_expr e ++ (right_paren ∷ dot ∷ r))))
    → InnerNext before t (have fs (Written.item i e f))
item_spelled fs i e f t before is kept stands same = record {
  kept = (kept, stands);
  same = λ r. same (t ∷ r) ∙ ap (λ u. frames_before fs (name i ∷ left_paren ∷ (spell_expr e ++ (right_paren ∷ dot ∷ u ∷ r)))) (sym is)
      ∙ ap (λ toks. frames_before fs (name i ∷ left_paren ∷ toks)) (sym (append_assoc (spell_expr e) (right_paren ∷ dot ∷ field_tok f ∷ []) r));
}

pub item_keeps : (fs : List (Frame trees)) (i : Ident) (e : ExprTree) (t : Tok) (before : Toks → Toks) → KeptFrames fs → Stands 0 e
    → ((r : Toks) → before r ≡ frames_before fs (name i ∷ left_paren ∷ (spell_expr e ++ (right_paren ∷ dot ∷ r))))
    → Next (InnerNext before t) (Machine.item_made trees fs i e (Machine.field_of t))
item_keeps fs i e (name n) before kept stands same = item_spelled fs i e (Attribute n) (name n) before refl kept stands same
item_keeps fs i e start_word before kept stands same = item_spelled fs i e Start start_word before refl kept stands same
item_keeps fs i e end_word before kept stands same = item_spelled fs i e End end_word before refl kept stands same
item_keeps fs i e t before kept stands same = tt

pub dot_keeps : (fs : List (Frame trees)) (i : Ident) (e : ExprTree) (t : Tok) (before : Toks → Toks) → KeptFrames fs → Stands 0 e
    → ((r : Toks) → before r ≡ frames_before fs (name i ∷ left_paren ∷ (spell_expr e ++ (right_paren ∷ r))))
    → Next (InnerNext before t) (Machine.dot_move trees fs i e t)
dot_keeps fs i e dot before kept stands same = record { kept = (kept, stands); same = λ r. same (dot ∷ r) }
dot_keeps fs i e t before kept stands same = tt
