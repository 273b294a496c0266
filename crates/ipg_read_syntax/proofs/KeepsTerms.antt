-- Within a term each step keeps the levels, and stands for one token more.
use Rattle.std.proofs.Common.{◌≡◌, ℕ, ◌≤◌, List, [], ◌∷◌, ◌++◌, Option, Some, None, refl, ap, ◌∙◌, sym, append_assoc, le_of_lt, lit≤}
use Rattle.ipg_ast.specs.declared.grammar.Ident.{Ident}
use Rattle.ipg_ast.specs.declared.grammar.Span.{Span}
use Rattle.ipg_ast.specs.declared.grammar.What.{What}
use Rattle.ipg_read_syntax.specs.Classes.{level, Tok, name, text, sign, question, colon, dot, comma, equals, left_paren, right_paren, left_bracket}
use Rattle.ipg_read_syntax.specs.Classes.{right_bracket}
use Rattle.ipg_read_syntax.specs.Classes.{left_brace, right_brace, for_word, to_word, do_word, switch_word, case_word, else_word, many_word}
use Rattle.ipg_read_syntax.specs.Levels.{level_high}
use Rattle.ipg_read_syntax.specs.Written
use Rattle.ipg_read_syntax.specs.Written.{Toks, ExprTree, SlotTree, CaseTree, TermTree, what_tok, spell_expr, spell_slot, spell_case, spell_cases}
use Rattle.ipg_read_syntax.specs.Written.{spell_term, Stands, prefix_level, SlotFits, CaseFits, TermFits, Each, SomeEach}
use Rattle.ipg_read_syntax.specs.Machine
use Rattle.ipg_read_syntax.specs.Machine.{Frame, group, index, then_of, close, Closing, Inner, want, have, Base, SlotUse, alone, chosen, other, Part}
use Rattle.ipg_read_syntax.specs.Machine.{Turn, still}
use Rattle.ipg_read_syntax.specs.Making.{trees, last}
use Rattle.ipg_read_syntax.proofs.Taken.{frames_before, inner_before, use_before, base_before, part_before, KeptFrames}
use Rattle.ipg_read_syntax.proofs.Taken.{KeptInner, KeptUse, KeptBase, KeptPart, Next, InnerNext, PartNext, TurnNext}
use Rattle.ipg_read_syntax.proofs.KeepsExprs.{Closed, closes, need_high, need_none, want_keeps, part_keeps, item_keeps, dot_keeps}
use Rattle.ipg_read_syntax.proofs.Lasts.{some_last, some_each, cases_last}

-- ---- slots and switches

abbrev pick_before : Span → List CaseTree → Toks → Toks
pick_before at cs r = switch_word at ∷ left_brace ∷ (spell_cases cs ++ r)

case_added : (at : Span) (cs : List CaseTree) (c : ExprTree) (s : SlotTree) (r : Toks)
    → use_before (chosen at cs c) (spell_slot s ++ r) ≡ pick_before at (last cs (record { test = c; slot = s })) r
case_added at cs c s r = ap (λ toks. switch_word at ∷ left_brace ∷ toks)
    (ap (λ toks. spell_cases cs ++ (case_word ∷ left_paren ∷ toks)) (sym (append_assoc (spell_expr c) (right_paren ∷ spell_slot s) r))
    ∙ sym (cases_last cs (record { test = c; slot = s }) r))

slot_done_keeps : (log : _) (u : SlotUse trees) (s : SlotTree) (t : Tok) (before : Toks → Toks) → KeptUse u → SlotFits s
    → ((r : Toks) → before (t ∷ r) ≡ use_before u (spell_slot s ++ r)) → TurnNext before t (Machine.slot_done trees log u s)
slot_done_keeps log alone s t before kept fits same = record { fits = fits; same = same }
slot_done_keeps log (chosen at cs c) s t before kept fits same = record {
  kept = some_last CaseFits cs (record { test = c; slot = s }) kept.0 (kept.1, fits);
  same = λ r. same r ∙ case_added at cs c s r;
}
slot_done_keeps log (other at cs) s t before kept fits same = record { kept = (kept, fits); same = same }

case_keeps : (log : _) (at : Span) (cs : List CaseTree) (t : Tok) (before : Toks → Toks) → SomeEach CaseFits cs → ((r : Toks) → before r ≡ pick_before at cs r)
    → Next (TurnNext before t) (Machine.case_move trees log at cs t)
case_keeps log at cs case_word before kept same = record { kept = some_each CaseFits cs kept; same = λ r. same (case_word ∷ r) }
case_keeps log at cs else_word before kept same = record { kept = kept; same = λ r. same (else_word ∷ r) }
case_keeps log at cs t before kept same = tt

pick_done : (at : Span) (cs : List CaseTree) (s : SlotTree) (r : Toks)
    → pick_before at cs (else_word ∷ (spell_slot s ++ (right_brace ∷ r))) ≡ spell_term (Written.pick_term at cs s) ++ r
pick_done at cs s r = ap (λ toks. switch_word at ∷ left_brace ∷ toks)
    (ap (λ toks. spell_cases cs ++ (else_word ∷ toks)) (sym (append_assoc (spell_slot s) (right_brace ∷ []) r))
    ∙ sym (append_assoc (spell_cases cs) (else_word ∷ (spell_slot s ++ (right_brace ∷ []))) r))

pick_keeps : (log : _) (at : Span) (cs : List CaseTree) (s : SlotTree) (t : Tok) (before : Toks → Toks) → SomeEach CaseFits cs → SlotFits s
    → ((r : Toks) → before r ≡ pick_before at cs (else_word ∷ (spell_slot s ++ r))) → Next (TurnNext before t) (Machine.close_move trees log at cs s t)
pick_keeps log at cs s right_brace before kept fits same = record { fits = (kept, fits); same = λ r. same (right_brace ∷ r) ∙ pick_done at cs s r }
pick_keeps log at cs s t before kept fits same = tt

slot_passed_keeps : (log : _) (u : SlotUse trees) (s : SlotTree) (t : Tok) (before : Toks → Toks) → KeptUse u → SlotFits s
    → ((r : Toks) → before r ≡ use_before u (spell_slot s ++ r)) → Next (TurnNext before t) (Machine.slot_passed trees log u s t)
slot_passed_keeps log alone s t before kept fits same = record { fits = fits; same = same }
slot_passed_keeps log (chosen at cs c) s t before kept fits same =
    case_keeps log at (last cs (record { test = c; slot = s })) t before (some_last CaseFits cs (record { test = c; slot = s }) kept.0 (kept.1, fits))
    (λ r. same r ∙ case_added at cs c s r)
slot_passed_keeps log (other at cs) s t before kept fits same = pick_keeps log at cs s t before kept fits same

slot_keeps : (at : ℕ) (log : _) (u : SlotUse trees) (w : What) (span : Span) (t : Tok) (before : Toks → Toks) → KeptUse u
    → ((r : Toks) → before r ≡ use_before u (what_tok w span ∷ r)) → Next (TurnNext before t) (Machine.slot_move trees at log u w span t)
slot_keeps at log u w span left_bracket before kept same = record { kept = (kept, tt); same = λ r. same (left_bracket ∷ r) }
slot_keeps at log u w span t before kept same = slot_passed_keeps log u (record { what = w; span = span; place = Written.anywhere }) t before kept tt same

slot_opening_keeps : (log : _) (u : SlotUse trees) (t : Tok) (before : Toks → Toks) → KeptUse u → ((r : Toks) → before r ≡ use_before u r)
    → Next (TurnNext before t) (Machine.stays trees log (Machine.slot_opening trees u t))
slot_opening_keeps log u (text bs at) before kept same = record { kept = kept; same = λ r. same (text bs at ∷ r) }
slot_opening_keeps log u (name i) before kept same = record { kept = kept; same = λ r. same (name i ∷ r) }
slot_opening_keeps log u t before kept same = tt

-- ---- whole expressions

long_done : (u : SlotUse trees) (w : What) (span : Span) (e : ExprTree) (r : Toks)
    → base_before (Machine.length_or_left u w span) (spell_expr e ++ (right_bracket ∷ r))
    ≡ use_before u (spell_slot (record { what = w; span = span; place = Written.long e }) ++ r)
long_done u w span e r = ap (λ toks. use_before u (what_tok w span ∷ left_bracket ∷ toks)) (sym (append_assoc (spell_expr e) (right_bracket ∷ []) r))

ends_done : (u : SlotUse trees) (w : What) (span : Span) (l e : ExprTree) (r : Toks)
    → base_before (Machine.right_of u w span l) (spell_expr e ++ (right_bracket ∷ r))
    ≡ use_before u (spell_slot (record { what = w; span = span; place = Written.ends l e }) ++ r)
ends_done u w span l e r = ap (λ toks. use_before u (what_tok w span ∷ left_bracket ∷ toks))
    (ap (λ toks. spell_expr l ++ (comma ∷ toks)) (sym (append_assoc (spell_expr e) (right_bracket ∷ []) r))
    ∙ sym (append_assoc (spell_expr l) (comma ∷ (spell_expr e ++ (right_bracket ∷ []))) r))

repeat_done : (x i : Ident) (a b l e : ExprTree) (r : Toks)
    → base_before (Machine.item_right x a b i l) (spell_expr e ++ (right_bracket ∷ r)) ≡ spell_term (Written.repeat_term x a b i l e) ++ r
repeat_done x i a b l e r = simp append_assoc refl

many_long_done : (span : Span) (i : Ident) (e : ExprTree) (r : Toks)
    → base_before (Machine.many_length_or_left span i) (spell_expr e ++ (right_bracket ∷ r)) ≡ spell_term (Written.many_term span i (Written.long e)) ++ r
many_long_done span i e r = ap (λ toks. many_word span ∷ name i ∷ left_bracket ∷ toks) (sym (append_assoc (spell_expr e) (right_bracket ∷ []) r))

many_ends_done : (span : Span) (i : Ident) (l e : ExprTree) (r : Toks)
    → base_before (Machine.many_right span i l) (spell_expr e ++ (right_bracket ∷ r)) ≡ spell_term (Written.many_term span i (Written.ends l e)) ++ r
many_ends_done span i l e r = simp append_assoc refl

ended_keeps : (at : ℕ) (log : _) (base : Base trees) (e : ExprTree) (t : Tok) (before : Toks → Toks) → KeptBase base → Stands 0 e
    → ((r : Toks) → before r ≡ base_before base (spell_expr e ++ r)) → Next (TurnNext before t) (Machine.ended trees at log base e t)
ended_keeps at log (Machine.length_or_left u w span) e right_bracket before kept stands same =
    slot_done_keeps log u (record { what = w; span = span; place = Written.long e }) right_bracket before kept stands
    (λ r. same (right_bracket ∷ r) ∙ long_done u w span e r)
ended_keeps at log (Machine.length_or_left u w span) e comma before kept stands same = record { kept = ((kept, stands), tt); same = λ r. same (comma ∷ r) }
ended_keeps at log (Machine.length_or_left u w span) e t before kept stands same = tt
ended_keeps at log (Machine.right_of u w span l) e right_bracket before kept stands same =
    slot_done_keeps log u (record { what = w; span = span; place = Written.ends l e }) right_bracket before kept.0 (kept.1, stands)
    (λ r. same (right_bracket ∷ r) ∙ ends_done u w span l e r)
ended_keeps at log (Machine.right_of u w span l) e t before kept stands same = tt
ended_keeps at log (Machine.value_of x) e right_brace before kept stands same = record {
  fits = stands;
  same = λ r. same (right_brace ∷ r) ∙ ap (λ toks. left_brace ∷ name x ∷ equals ∷ toks) (sym (append_assoc (spell_expr e) (right_brace ∷ []) r));
}
ended_keeps at log (Machine.value_of x) e t before kept stands same = tt
ended_keeps at log (Machine.test_of span) e right_paren before kept stands same = record {
  fits = stands;
  same = λ r. same (right_paren ∷ r) ∙ ap (λ toks. question span ∷ left_paren ∷ toks) (sym (append_assoc (spell_expr e) (right_paren ∷ []) r));
}
ended_keeps at log (Machine.test_of span) e t before kept stands same = tt
ended_keeps at log (Machine.first_bound x) e to_word before kept stands same = record { kept = (stands, tt); same = λ r. same (to_word ∷ r) }
ended_keeps at log (Machine.first_bound x) e t before kept stands same = tt
ended_keeps at log (Machine.last_bound x a) e do_word before kept stands same = record { kept = (kept, stands); same = λ r. same (do_word ∷ r) }
ended_keeps at log (Machine.last_bound x a) e t before kept stands same = tt
ended_keeps at log (Machine.item_left x a b i) e comma before kept stands same = record { kept = ((kept.0, kept.1, stands), tt); same = λ r. same (comma ∷ r) }
ended_keeps at log (Machine.item_left x a b i) e t before kept stands same = tt
ended_keeps at log (Machine.item_right x a b i l) e right_bracket before kept stands same = record {
  fits = (kept.0, kept.1, kept.2, stands);
  same = λ r. same (right_bracket ∷ r) ∙ repeat_done x i a b l e r;
}
ended_keeps at log (Machine.item_right x a b i l) e t before kept stands same = tt
ended_keeps at log (Machine.many_length_or_left span i) e right_bracket before kept stands same = record {
  fits = stands;
  same = λ r. same (right_bracket ∷ r) ∙ many_long_done span i e r;
}
ended_keeps at log (Machine.many_length_or_left span i) e comma before kept stands same = record { kept = (stands, tt); same = λ r. same (comma ∷ r) }
ended_keeps at log (Machine.many_length_or_left span i) e t before kept stands same = tt
ended_keeps at log (Machine.many_right span i l) e right_bracket before kept stands same = record {
  fits = (kept, stands);
  same = λ r. same (right_bracket ∷ r) ∙ many_ends_done span i l e r;
}
ended_keeps at log (Machine.many_right span i l) e t before kept stands same = tt
ended_keeps at log (Machine.case_of span cs) e right_paren before kept stands same = record { kept = (kept, stands); same = λ r. same (right_paren ∷ r) }
ended_keeps at log (Machine.case_of span cs) e t before kept stands same = tt

-- ---- expressions

finish_keeps : (at : ℕ) (log : _) (base : Base trees) (first : ℕ) (fs : List (Frame trees)) (e : ExprTree) (t : Tok) (before : Toks → Toks)
    → KeptBase base → KeptFrames fs → Stands 0 e → ((r : Toks) → before r ≡ base_before base (frames_before fs (spell_expr e ++ r)))
    → Next (TurnNext before t) (Machine.finish trees at log base first fs e t)
finish_keeps at log base first [] e t before base_kept kept stands same = ended_keeps at tt base e t before base_kept stands same
finish_keeps at log base first (group ∷ fs) e right_paren before base_kept kept stands same = record {
  kept = (base_kept, (kept, stands));
  same = λ r. same (right_paren ∷ r) ∙ ap (λ toks. base_before base (frames_before fs (left_paren ∷ toks)))
      (sym (append_assoc (spell_expr e) (right_paren ∷ []) r));
}
finish_keeps at log base first (group ∷ fs) e t before base_kept kept stands same = tt
finish_keeps at log base first (index i ∷ fs) e right_paren before base_kept kept stands same =
    record { kept = (base_kept, (kept, stands)); same = λ r. same (right_paren ∷ r) }
finish_keeps at log base first (index i ∷ fs) e t before base_kept kept stands same = tt
finish_keeps at log base first (then_of c span ∷ fs) e colon before base_kept kept stands same = record {
  kept = (base_kept, (kept.0, kept.1, kept.2, stands));
  same = λ r. same (colon ∷ r);
}
finish_keeps at log base first (then_of c span ∷ fs) e t before base_kept kept stands same = tt
finish_keeps at log base first (Machine.neg ∷ fs) e t before base_kept kept stands same = tt
finish_keeps at log base first (Machine.isnt ∷ fs) e t before base_kept kept stands same = tt
finish_keeps at log base first (Machine.left i a ∷ fs) e t before base_kept kept stands same = tt
finish_keeps at log base first (Machine.else_of c span a ∷ fs) e t before base_kept kept stands same = tt

abbrev above : List (Frame trees) → ExprTree → Toks → Toks
above fs e r = frames_before fs (spell_expr e ++ r)

have_keeps : (at : ℕ) (log : _) (base : Base trees) (first : ℕ) (fs : List (Frame trees)) (e : ExprTree) (t : Tok) (before : Toks → Toks)
    → KeptBase base → KeptFrames fs → Stands prefix_level e → ((r : Toks) → before r ≡ base_before base (above fs e r))
    → Next (TurnNext before t) (Machine.have_move trees at log base first fs e t)
have_keeps at log base first fs e (sign i) before base_kept kept stands same =
    let high : level i ≤ prefix_level = le_of_lt (level_high i) in
    let c : Closed (level i) (above fs e) (close trees (level i) fs e) =
    closes (level i) prefix_level fs e (above fs e) high high (need_high fs) kept stands (λ r. refl) in
    record { kept = (base_kept, (c.kept, c.stands, c.due)); same = λ r. same (sign i ∷ r) ∙ ap (base_before base) (c.same (sign i ∷ r)) }
have_keeps at log base first fs e (question span) before base_kept kept stands same =
    let c : Closed 1 (above fs e) (close trees 1 fs e) = closes 1 prefix_level fs e (above fs e) (lit≤ tt) (lit≤ tt) (need_high fs) kept stands (λ r. refl) in
    record {
      kept = (base_kept, (c.kept, c.stands, need_none (close trees 1 fs e).frames c.due));
      same = λ r. same (question span ∷ r)
          ∙ ap (base_before base) (c.same (question span ∷ r));
    }
have_keeps at log base first fs e t before base_kept kept stands same =
    let c : Closed 0 (above fs e) (close trees 0 fs e) = closes 0 prefix_level fs e (above fs e) (lit≤ tt) (lit≤ tt) (need_high fs) kept stands (λ r. refl) in
    finish_keeps at log base first (close trees 0 fs e).frames (close trees 0 fs e).operand t before base_kept c.kept c.stands
    (λ r. same r ∙ ap (base_before base) (c.same r))

name_keeps : (at : ℕ) (log : _) (base : Base trees) (first : ℕ) (fs : List (Frame trees)) (i : Ident) (t : Tok) (before : Toks → Toks)
    → KeptBase base → KeptFrames fs → ((r : Toks) → before r ≡ base_before base (frames_before fs (name i ∷ r)))
    → Next (TurnNext before t) (Machine.name_move trees at log base first fs i t)
name_keeps at log base first fs i dot before base_kept kept same = record { kept = (base_kept, kept); same = λ r. same (dot ∷ r) }
name_keeps at log base first fs i left_paren before base_kept kept same = record { kept = (base_kept, kept); same = λ r. same (left_paren ∷ r) }
name_keeps at log base first fs i t before base_kept kept same = have_keeps at tt base first fs (Written.own i) t before base_kept kept tt same

within_keeps : (log : _) (base : Base trees) (first : ℕ) (o : Option (Inner trees)) (t : Tok) (before ib : Toks → Toks)
    → KeptBase base → ((r : Toks) → before r ≡ base_before base (ib r)) → Next (InnerNext ib t) o
    → Next (TurnNext before t) (Machine.within trees log base first o)
within_keeps log base first (Some inner) t before ib kept same next = record {
  kept = (kept, next.kept);
  same = λ r. same (t ∷ r) ∙ ap (base_before base) (next.same r);
}
within_keeps log base first None t before ib kept same next = tt

expr_keeps : (at : ℕ) (log : _) (base : Base trees) (first : ℕ) (inner : Inner trees) (t : Tok) (before : Toks → Toks)
    → KeptBase base → KeptInner inner → ((r : Toks) → before r ≡ base_before base (inner_before inner r))
    → Next (TurnNext before t) (Machine.expr_move trees at log base first inner t)
expr_keeps at log base first (want fs) t before base_kept kept same =
    within_keeps log base first (Machine.want_move trees fs t) t before (inner_before (want fs)) base_kept same
    (want_keeps fs t (inner_before (want fs)) kept (λ r. refl))
expr_keeps at log base first (have fs e) t before base_kept kept same = have_keeps at log base first fs e t before base_kept kept.0 kept.1 same
expr_keeps at log base first (Machine.named fs i) t before base_kept kept same = name_keeps at log base first fs i t before base_kept kept same
expr_keeps at log base first (Machine.dotted fs i) t before base_kept kept same =
    within_keeps log base first (Machine.part_made trees fs i (Machine.field_of t)) t before (inner_before (Machine.dotted fs i)) base_kept same
    (part_keeps fs i t (inner_before (Machine.dotted fs i)) kept (λ r. refl))
expr_keeps at log base first (Machine.indexed fs i e) t before base_kept kept same =
    within_keeps log base first (Machine.dot_move trees fs i e t) t before (inner_before (Machine.indexed fs i e)) base_kept same
    (dot_keeps fs i e t (inner_before (Machine.indexed fs i e)) kept.0 kept.1 (λ r. refl))
expr_keeps at log base first (Machine.index_dotted fs i e) t before base_kept kept same =
    within_keeps log base first (Machine.item_made trees fs i e (Machine.field_of t)) t before (inner_before (Machine.index_dotted fs i e)) base_kept same
    (item_keeps fs i e t (inner_before (Machine.index_dotted fs i e)) kept.0 kept.1 (λ r. refl))

-- ---- terms

pub opening_keeps : (t : Tok) → Next (PartNext (λ r. r) t) (Machine.opening trees t)
opening_keeps left_brace = record { kept = tt; same = λ r. refl }
opening_keeps (question at) = record { kept = tt; same = λ r. refl }
opening_keeps for_word = record { kept = tt; same = λ r. refl }
opening_keeps (many_word at) = record { kept = tt; same = λ r. refl }
opening_keeps (switch_word at) = record { kept = tt; same = λ r. refl }
opening_keeps (text bs at) = record { kept = tt; same = λ r. refl }
opening_keeps (name i) = record { kept = tt; same = λ r. refl }
opening_keeps t = tt

many_keeps : (at : ℕ) (log : _) (span : Span) (i : Ident) (t : Tok) (before : Toks → Toks)
    → ((r : Toks) → before r ≡ part_before (Machine.many_named span i) r) → Next (TurnNext before t) (Machine.many_move trees at log span i t)
many_keeps at log span i left_bracket before same = record { kept = (tt, tt); same = λ r. same (left_bracket ∷ r) }
many_keeps at log span i t before same = record { fits = tt; same = same }

pub part_move_keeps : (at : ℕ) (log : _) (p : Part trees) (t : Tok) (before : Toks → Toks) → KeptPart p → ((r : Toks) → before r ≡ part_before p r)
    → Next (TurnNext before t) (Machine.part_move trees at log p t)
part_move_keeps at log (Machine.slot_named u w span) t before kept same = slot_keeps at log u w span t before kept same
part_move_keeps at log (Machine.expr base first inner) t before kept same = expr_keeps at log base first inner t before kept.0 kept.1 same
part_move_keeps at log Machine.set_open (name x) before kept same = record { kept = tt; same = λ r. same (name x ∷ r) }
part_move_keeps at log Machine.set_open t before kept same = tt
part_move_keeps at log (Machine.set_named x) equals before kept same = record { kept = (tt, tt); same = λ r. same (equals ∷ r) }
part_move_keeps at log (Machine.set_named x) t before kept same = tt
part_move_keeps at log (Machine.test_open span) left_paren before kept same = record { kept = (tt, tt); same = λ r. same (left_paren ∷ r) }
part_move_keeps at log (Machine.test_open span) t before kept same = tt
part_move_keeps at log Machine.repeat_open (name x) before kept same = record { kept = tt; same = λ r. same (name x ∷ r) }
part_move_keeps at log Machine.repeat_open t before kept same = tt
part_move_keeps at log (Machine.repeat_named x) equals before kept same = record { kept = (tt, tt); same = λ r. same (equals ∷ r) }
part_move_keeps at log (Machine.repeat_named x) t before kept same = tt
part_move_keeps at log (Machine.item_due x a b) (name i) before kept same = record { kept = kept; same = λ r. same (name i ∷ r) }
part_move_keeps at log (Machine.item_due x a b) t before kept same = tt
part_move_keeps at log (Machine.item_named x a b i) left_bracket before kept same = record { kept = (kept, tt); same = λ r. same (left_bracket ∷ r) }
part_move_keeps at log (Machine.item_named x a b i) t before kept same = tt
part_move_keeps at log (Machine.many_open span) (name i) before kept same = record { kept = tt; same = λ r. same (name i ∷ r) }
part_move_keeps at log (Machine.many_open span) t before kept same = tt
part_move_keeps at log (Machine.many_named span i) t before kept same = many_keeps at log span i t before same
part_move_keeps at log (Machine.pick_open span) left_brace before kept same = record { kept = tt; same = λ r. same (left_brace ∷ r) }
part_move_keeps at log (Machine.pick_open span) t before kept same = tt
part_move_keeps at log (Machine.first_case span) case_word before kept same = record { kept = tt; same = λ r. same (case_word ∷ r) }
part_move_keeps at log (Machine.first_case span) t before kept same = tt
part_move_keeps at log (Machine.next_case span cs) t before kept same = case_keeps log span cs t before kept same
part_move_keeps at log (Machine.case_open span cs) left_paren before kept same = record { kept = (kept, tt); same = λ r. same (left_paren ∷ r) }
part_move_keeps at log (Machine.case_open span cs) t before kept same = tt
part_move_keeps at log (Machine.slot_due u) t before kept same = slot_opening_keeps log u t before kept same
part_move_keeps at log (Machine.pick_close span cs s) t before kept same = pick_keeps log span cs s t before kept.0 kept.1 same
