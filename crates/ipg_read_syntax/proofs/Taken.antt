-- The tokens that a position stands for, before those that are left, and what it keeps.
use Rattle.std.proofs.Common.{◌≡◌, ◌≤◌, List, [], ◌∷◌, ◌++◌, Option, Some, None}
use Rattle.ipg_read_syntax.specs.Classes.{level, Tok, name, sign, bang, question, colon, dot, comma, equals, arrow, left_paren, right_paren, left_bracket}
use Rattle.ipg_read_syntax.specs.Classes.{left_brace, for_word, to_word, do_word, switch_word, case_word, else_word, where_word, many_word, minus, slash}
use Rattle.ipg_read_syntax.specs.Written.{Toks, TermTree, what_tok, spell_expr, spell_slot, spell_cases, spell_term, spell_terms}
use Rattle.ipg_read_syntax.specs.Written.{spell_local_alts, spell_locals, spell_alts, spell, Stands, prefix_level, Each, SomeEach}
use Rattle.ipg_read_syntax.specs.Written.{SlotFits, CaseFits, TermFits, TermsFit, LocalFits, AltFits, RuleFits, Fits}
use Rattle.ipg_read_syntax.specs.Machine.{Frame, neg, isnt, left, group, index, then_of, else_of, Inner, want, have, named, dotted, indexed}
use Rattle.ipg_read_syntax.specs.Machine.{index_dotted, SlotUse}
use Rattle.ipg_read_syntax.specs.Machine.{alone, chosen, other, Base, length_or_left, right_of, value_of, test_of, first_bound, last_bound, item_left}
use Rattle.ipg_read_syntax.specs.Machine.{item_right}
use Rattle.ipg_read_syntax.specs.Machine.{many_length_or_left, many_right, case_of, Part, slot_named, expr, set_open, set_named, test_open, repeat_open}
use Rattle.ipg_read_syntax.specs.Machine.{repeat_named, item_due, item_named, many_open, many_named, pick_open, first_case, next_case, case_open, slot_due}
use Rattle.ipg_read_syntax.specs.Machine.{pick_close, Head, Site, global, local, Pos, start, between, rule_named, local_named, before_term, in_term, after_term}
use Rattle.ipg_read_syntax.specs.Machine.{where_named, before_local, after_local, after_where, State, Turn, still, done, passed}
use Rattle.ipg_read_syntax.specs.Making.{trees}
use Rattle.ipg_read_syntax.proofs.Frames.{need}

-- ---- tokens

abbrev pub frames_before : List (Frame trees) → Toks → Toks
frames_before [] r = r
frames_before (neg ∷ fs) r = frames_before fs (minus ∷ r)
frames_before (isnt ∷ fs) r = frames_before fs (bang ∷ r)
frames_before (left i a ∷ fs) r = frames_before fs (spell_expr a ++ (sign i ∷ r))
frames_before (group ∷ fs) r = frames_before fs (left_paren ∷ r)
frames_before (index i ∷ fs) r = frames_before fs (name i ∷ left_paren ∷ r)
frames_before (then_of c at ∷ fs) r = frames_before fs (spell_expr c ++ (question at ∷ r))
frames_before (else_of c at a ∷ fs) r = frames_before fs (spell_expr c ++ (question at ∷ (spell_expr a ++ (colon ∷ r))))

abbrev pub inner_before : Inner trees → Toks → Toks
inner_before (want fs) r = frames_before fs r
inner_before (have fs e) r = frames_before fs (spell_expr e ++ r)
inner_before (named fs i) r = frames_before fs (name i ∷ r)
inner_before (dotted fs i) r = frames_before fs (name i ∷ dot ∷ r)
inner_before (indexed fs i e) r = frames_before fs (name i ∷ left_paren ∷ (spell_expr e ++ (right_paren ∷ r)))
inner_before (index_dotted fs i e) r = frames_before fs (name i ∷ left_paren ∷ (spell_expr e ++ (right_paren ∷ dot ∷ r)))

abbrev pub use_before : SlotUse trees → Toks → Toks
use_before alone r = r
use_before (chosen at cs c) r = switch_word at ∷ left_brace ∷ (spell_cases cs ++ (case_word ∷ left_paren ∷ (spell_expr c ++ (right_paren ∷ r))))
use_before (other at cs) r = switch_word at ∷ left_brace ∷ (spell_cases cs ++ (else_word ∷ r))

abbrev pub base_before : Base trees → Toks → Toks
base_before (length_or_left u w at) r = use_before u (what_tok w at ∷ left_bracket ∷ r)
base_before (right_of u w at l) r = use_before u (what_tok w at ∷ left_bracket ∷ (spell_expr l ++ (comma ∷ r)))
base_before (value_of x) r = left_brace ∷ name x ∷ equals ∷ r
base_before (test_of at) r = question at ∷ left_paren ∷ r
base_before (first_bound x) r = for_word ∷ name x ∷ equals ∷ r
base_before (last_bound x a) r = for_word ∷ name x ∷ equals ∷ (spell_expr a ++ (to_word ∷ r))
base_before (item_left x a b i) r = for_word ∷ name x ∷ equals ∷ (spell_expr a ++ (to_word ∷ (spell_expr b ++ (do_word ∷ name i ∷ left_bracket ∷ r))))
base_before (item_right x a b i l) r =
    for_word ∷ name x ∷ equals ∷ (spell_expr a ++ (to_word ∷ (spell_expr b ++ (do_word ∷ name i ∷ left_bracket ∷ (spell_expr l ++ (comma ∷ r))))))
base_before (many_length_or_left at i) r = many_word at ∷ name i ∷ left_bracket ∷ r
base_before (many_right at i l) r = many_word at ∷ name i ∷ left_bracket ∷ (spell_expr l ++ (comma ∷ r))
base_before (case_of at cs) r = switch_word at ∷ left_brace ∷ (spell_cases cs ++ (case_word ∷ left_paren ∷ r))

abbrev pub part_before : Part trees → Toks → Toks
part_before (slot_named u w at) r = use_before u (what_tok w at ∷ r)
part_before (expr base first inner) r = base_before base (inner_before inner r)
part_before set_open r = left_brace ∷ r
part_before (set_named x) r = left_brace ∷ name x ∷ r
part_before (test_open at) r = question at ∷ r
part_before repeat_open r = for_word ∷ r
part_before (repeat_named x) r = for_word ∷ name x ∷ r
part_before (item_due x a b) r = for_word ∷ name x ∷ equals ∷ (spell_expr a ++ (to_word ∷ (spell_expr b ++ (do_word ∷ r))))
part_before (item_named x a b i) r = for_word ∷ name x ∷ equals ∷ (spell_expr a ++ (to_word ∷ (spell_expr b ++ (do_word ∷ name i ∷ r))))
part_before (many_open at) r = many_word at ∷ r
part_before (many_named at i) r = many_word at ∷ name i ∷ r
part_before (pick_open at) r = switch_word at ∷ r
part_before (first_case at) r = switch_word at ∷ left_brace ∷ r
part_before (next_case at cs) r = switch_word at ∷ left_brace ∷ (spell_cases cs ++ r)
part_before (case_open at cs) r = switch_word at ∷ left_brace ∷ (spell_cases cs ++ (case_word ∷ r))
part_before (slot_due u) r = use_before u r
part_before (pick_close at cs s) r = switch_word at ∷ left_brace ∷ (spell_cases cs ++ (else_word ∷ (spell_slot s ++ r)))

-- the mark of the next alternative
abbrev pub mark : {A : Type 0} → List A → Tok
mark [] = arrow
mark (x ∷ xs) = slash

abbrev pub head_before : Head trees → Toks → Toks
head_before h r = spell h.rules ++ (name h.name ∷ (spell_alts arrow h.alts ++ r))

abbrev pub where_before : Head trees → List TermTree → Toks → Toks
where_before h ts r = head_before h (mark h.alts ∷ (spell_terms ts ++ (where_word ∷ r)))

abbrev pub site_before : Site trees → Toks → Toks
site_before (global h) r = head_before h (mark h.alts ∷ r)
site_before (local h ts ls n las) r = where_before h ts (left_brace ∷ (spell_locals ls ++ (name n ∷ (spell_local_alts arrow las ++ (mark las ∷ r)))))

abbrev pub pos_before : Pos trees → Toks → Toks
pos_before start r = r
pos_before (between rs) r = spell rs ++ r
pos_before (rule_named rs i) r = spell rs ++ (name i ∷ r)
pos_before (local_named h ts ls i) r = where_before h ts (left_brace ∷ (spell_locals ls ++ (name i ∷ r)))
pos_before (before_term site) r = site_before site r
pos_before (in_term site ts p) r = site_before site (spell_terms ts ++ part_before p r)
pos_before (after_term site ts) r = site_before site (spell_terms ts ++ r)
pos_before (where_named h ts) r = where_before h ts r
pos_before (before_local h ts) r = where_before h ts (left_brace ∷ r)
pos_before (after_local h ts ls) r = where_before h ts (left_brace ∷ (spell_locals ls ++ r))
pos_before (after_where h) r = head_before h r

-- ---- what stands at its level

abbrev pub KeptFrames : List (Frame trees) → Type 0
KeptFrames [] = Unit {0}
KeptFrames (neg ∷ fs) = KeptFrames fs
KeptFrames (isnt ∷ fs) = KeptFrames fs
KeptFrames (left i a ∷ fs) = KeptFrames fs × Stands (level i) a × (need fs ≤ level i)
KeptFrames (group ∷ fs) = KeptFrames fs
KeptFrames (index i ∷ fs) = KeptFrames fs
KeptFrames (then_of c at ∷ fs) = KeptFrames fs × Stands 1 c × (need fs ≤ 0)
KeptFrames (else_of c at a ∷ fs) = KeptFrames fs × Stands 1 c × (need fs ≤ 0) × Stands 0 a

abbrev pub KeptInner : Inner trees → Type 0
KeptInner (want fs) = KeptFrames fs
KeptInner (have fs e) = KeptFrames fs × Stands prefix_level e
KeptInner (named fs i) = KeptFrames fs
KeptInner (dotted fs i) = KeptFrames fs
KeptInner (indexed fs i e) = KeptFrames fs × Stands 0 e
KeptInner (index_dotted fs i e) = KeptFrames fs × Stands 0 e

abbrev pub KeptUse : SlotUse trees → Type 0
KeptUse alone = Unit {0}
KeptUse (chosen at cs c) = Each CaseFits cs × Stands 0 c
KeptUse (other at cs) = SomeEach CaseFits cs

abbrev pub KeptBase : Base trees → Type 0
KeptBase (length_or_left u w at) = KeptUse u
KeptBase (right_of u w at l) = KeptUse u × Stands 0 l
KeptBase (value_of x) = Unit {0}
KeptBase (test_of at) = Unit {0}
KeptBase (first_bound x) = Unit {0}
KeptBase (last_bound x a) = Stands 0 a
KeptBase (item_left x a b i) = Stands 0 a × Stands 0 b
KeptBase (item_right x a b i l) = Stands 0 a × Stands 0 b × Stands 0 l
KeptBase (many_length_or_left at i) = Unit {0}
KeptBase (many_right at i l) = Stands 0 l
KeptBase (case_of at cs) = Each CaseFits cs

abbrev pub KeptPart : Part trees → Type 0
KeptPart (slot_named u w at) = KeptUse u
KeptPart (expr base first inner) = KeptBase base × KeptInner inner
KeptPart set_open = Unit {0}
KeptPart (set_named x) = Unit {0}
KeptPart (test_open at) = Unit {0}
KeptPart repeat_open = Unit {0}
KeptPart (repeat_named x) = Unit {0}
KeptPart (item_due x a b) = Stands 0 a × Stands 0 b
KeptPart (item_named x a b i) = Stands 0 a × Stands 0 b
KeptPart (many_open at) = Unit {0}
KeptPart (many_named at i) = Unit {0}
KeptPart (pick_open at) = Unit {0}
KeptPart (first_case at) = Unit {0}
KeptPart (next_case at cs) = SomeEach CaseFits cs
KeptPart (case_open at cs) = Each CaseFits cs
KeptPart (slot_due u) = KeptUse u
KeptPart (pick_close at cs s) = SomeEach CaseFits cs × SlotFits s

abbrev pub KeptHead : Head trees → Type 0
KeptHead h = Each RuleFits h.rules × Each AltFits h.alts

abbrev pub KeptSite : Site trees → Type 0
KeptSite (global h) = KeptHead h
KeptSite (local h ts ls n las) = KeptHead h × TermsFit ts × Each LocalFits ls × Each TermsFit las

abbrev pub KeptPos : Pos trees → Type 0
KeptPos start = Unit {0}
KeptPos (between rs) = Fits rs
KeptPos (rule_named rs i) = Each RuleFits rs
KeptPos (local_named h ts ls i) = KeptHead h × TermsFit ts × Each LocalFits ls
KeptPos (before_term site) = KeptSite site
KeptPos (in_term site ts p) = KeptSite site × Each TermFits ts × KeptPart p
KeptPos (after_term site ts) = KeptSite site × TermsFit ts
KeptPos (where_named h ts) = KeptHead h × TermsFit ts
KeptPos (before_local h ts) = KeptHead h × TermsFit ts
KeptPos (after_local h ts ls) = KeptHead h × TermsFit ts × SomeEach LocalFits ls
KeptPos (after_where h) = Each RuleFits h.rules × SomeEach AltFits h.alts

-- ---- after a step, if there is one

abbrev pub Next : {X : Type 0} → (X → Type 0) → Option X → Type 0
Next P None = Unit {0}
Next P (Some x) = P x

-- it keeps what has to be kept, and stands for the tokens before and the one taken
pub record InnerNext (before : Toks → Toks) (t : Tok) (inner : Inner trees) : Type 0 where
  pub kept : KeptInner inner
  pub same : (r : Toks) → before (t ∷ r) ≡ inner_before inner r

pub record PartNext (before : Toks → Toks) (t : Tok) (p : Part trees) : Type 0 where
  pub kept : KeptPart p
  pub same : (r : Toks) → before (t ∷ r) ≡ part_before p r

pub record TermDone (before : Toks → Toks) (t : Tok) (x : TermTree) : Type 0 where
  pub fits : TermFits x
  pub same : (r : Toks) → before (t ∷ r) ≡ spell_term x ++ r

pub record TermPassed (before : Toks → Toks) (x : TermTree) : Type 0 where
  pub fits : TermFits x
  pub same : (r : Toks) → before r ≡ spell_term x ++ r

abbrev pub TurnNext : (Toks → Toks) → Tok → Turn trees → Type 0
TurnNext before t (still log p) = PartNext before t p
TurnNext before t (done log x) = TermDone before t x
TurnNext before t (passed log x) = TermPassed before x

pub record StateNext (before : Toks → Toks) (t : Tok) (s : State trees) : Type 0 where
  pub kept : KeptPos s.pos
  pub same : (r : Toks) → before (t ∷ r) ≡ pos_before s.pos r
