-- Each position has closing tokens that, put after the tokens taken, give a grammar.
use Rattle.std.proofs.Common.{◌≡◌, ℕ, ◌+◌, ◌≤◌, List, [], ◌∷◌, Result, Ok, Err, refl, ap, sym, subst, codes, arith, le_refl}
use Rattle.ipg_ast.specs.declared.grammar.Ident.{Ident}
use Rattle.ipg_ast.specs.declared.grammar.Span.{Span}
use Rattle.ipg_ast.specs.declared.grammar.What.{What}
use Rattle.ipg_ast.specs.declared.token.Reserved.{Reserved}
use Rattle.ipg_ast.specs.declared.token.Reserved.TheVariants as reserved
use Rattle.ipg_ast.specs.declared.token.TokenKind.{TokenKind}
use Rattle.ipg_ast.specs.declared.token.TokenKind.TheVariants.{Name, Word, Text, Symbol}
use Rattle.ipg_read_tokens.specs.declared.token.Token.{Token}
use Rattle.ipg_read_syntax.specs.Classes.{classes}
use Rattle.ipg_read_syntax.specs.Written
use Rattle.ipg_read_syntax.specs.Written.{Toks, ExprTree, TermTree}
use Rattle.ipg_read_syntax.specs.Machine
use Rattle.ipg_read_syntax.specs.Machine.{Frame, neg, isnt, left, group, index, then_of, else_of, Inner, want, have, named, dotted, indexed, index_dotted, Base}
use Rattle.ipg_read_syntax.specs.Machine.{SlotUse, alone, chosen, other, Part, Site, global, local, Pos, State, in_term, after_term, expr, close}
use Rattle.ipg_read_syntax.specs.Machine.{onward, verdict}
use Rattle.ipg_read_syntax.specs.Making.{trees}
use Rattle.ipg_ast.specs.declared.grammar.Field.TheVariants.{Start}
use Rattle.ipg_read_syntax.proofs.Frames.{Ends, tightness, close_left, close_else, name_ends}
use Rattle.ipg_read_syntax.proofs.TakesExprs.{inside, alike}

abbrev token : TokenKind → Token
token kind = record { kind = kind; span = record { from = 0; to = 0 } }

abbrev symbol : List ℕ → Token
symbol bs = token (Symbol bs)

abbrev word : Reserved → Token
word w = token (Word w)

abbrev eoi : Token
eoi = word reserved.Eoi

abbrev some_name : Token
some_name = token (Name (codes "a"))

abbrev no_text : Token
no_text = token (Text [])

abbrev Tokens : Type 0
Tokens = List Token

abbrev close_frames : List (Frame trees) → Tokens → Tokens
close_frames [] rest = rest
close_frames (neg ∷ fs) rest = close_frames fs rest
close_frames (isnt ∷ fs) rest = close_frames fs rest
close_frames (left i a ∷ fs) rest = close_frames fs rest
close_frames (group ∷ fs) rest = symbol (codes ")") ∷ close_frames fs rest
close_frames (index i ∷ fs) rest = symbol (codes ")") ∷ symbol (codes ".") ∷ word reserved.Start ∷ close_frames fs rest
close_frames (then_of c at ∷ fs) rest = symbol (codes ":") ∷ eoi ∷ close_frames fs rest
close_frames (else_of c at a ∷ fs) rest = close_frames fs rest

abbrev close_inner : Inner trees → Tokens → Tokens
close_inner (want fs) rest = eoi ∷ close_frames fs rest
close_inner (have fs e) rest = close_frames fs rest
close_inner (named fs i) rest = close_frames fs rest
close_inner (dotted fs i) rest = word reserved.Start ∷ close_frames fs rest
close_inner (indexed fs i e) rest = symbol (codes ".") ∷ word reserved.Start ∷ close_frames fs rest
close_inner (index_dotted fs i e) rest = word reserved.Start ∷ close_frames fs rest

-- after a slot
abbrev close_use : SlotUse trees → Tokens → Tokens
close_use alone rest = rest
close_use (chosen at cs c) rest = word reserved.Else ∷ no_text ∷ symbol (codes "}") ∷ rest
close_use (other at cs) rest = symbol (codes "}") ∷ rest

abbrev last_case : Tokens → Tokens
last_case rest = no_text ∷ word reserved.Else ∷ no_text ∷ symbol (codes "}") ∷ rest

abbrev repeated : Tokens → Tokens
repeated rest = symbol (codes "[") ∷ eoi ∷ symbol (codes ",") ∷ eoi ∷ symbol (codes "]") ∷ rest

abbrev close_base : Base trees → Tokens → Tokens
close_base (Machine.length_or_left u w at) rest = symbol (codes "]") ∷ close_use u rest
close_base (Machine.right_of u w at l) rest = symbol (codes "]") ∷ close_use u rest
close_base (Machine.value_of x) rest = symbol (codes "}") ∷ rest
close_base (Machine.test_of at) rest = symbol (codes ")") ∷ rest
close_base (Machine.first_bound x) rest = word reserved.To ∷ eoi ∷ word reserved.Do ∷ some_name ∷ repeated rest
close_base (Machine.last_bound x a) rest = word reserved.Do ∷ some_name ∷ repeated rest
close_base (Machine.item_left x a b i) rest = symbol (codes ",") ∷ eoi ∷ symbol (codes "]") ∷ rest
close_base (Machine.item_right x a b i l) rest = symbol (codes "]") ∷ rest
close_base (Machine.many_length_or_left at i) rest = symbol (codes "]") ∷ rest
close_base (Machine.many_right at i l) rest = symbol (codes "]") ∷ rest
close_base (Machine.case_of at cs) rest = symbol (codes ")") ∷ last_case rest

abbrev close_part : Part trees → Tokens → Tokens
close_part (Machine.slot_named u w at) rest = close_use u rest
close_part (Machine.expr base first inner) rest = close_inner inner (close_base base rest)
close_part Machine.set_open rest = some_name ∷ symbol (codes "=") ∷ eoi ∷ symbol (codes "}") ∷ rest
close_part (Machine.set_named x) rest = symbol (codes "=") ∷ eoi ∷ symbol (codes "}") ∷ rest
close_part (Machine.test_open at) rest = symbol (codes "(") ∷ eoi ∷ symbol (codes ")") ∷ rest
close_part Machine.repeat_open rest = some_name ∷ symbol (codes "=") ∷ eoi ∷ word reserved.To ∷ eoi ∷ word reserved.Do ∷ some_name ∷ repeated rest
close_part (Machine.repeat_named x) rest = symbol (codes "=") ∷ eoi ∷ word reserved.To ∷ eoi ∷ word reserved.Do ∷ some_name ∷ repeated rest
close_part (Machine.item_due x a b) rest = some_name ∷ repeated rest
close_part (Machine.item_named x a b i) rest = repeated rest
close_part (Machine.many_open at) rest = some_name ∷ rest
close_part (Machine.many_named at i) rest = rest
close_part (Machine.pick_open at) rest = symbol (codes "{") ∷ word reserved.Case ∷ symbol (codes "(") ∷ eoi ∷ symbol (codes ")") ∷ last_case rest
close_part (Machine.first_case at) rest = word reserved.Case ∷ symbol (codes "(") ∷ eoi ∷ symbol (codes ")") ∷ last_case rest
close_part (Machine.next_case at cs) rest = word reserved.Else ∷ no_text ∷ symbol (codes "}") ∷ rest
close_part (Machine.case_open at cs) rest = symbol (codes "(") ∷ eoi ∷ symbol (codes ")") ∷ last_case rest
close_part (Machine.slot_due u) rest = no_text ∷ close_use u rest
close_part (Machine.pick_close at cs s) rest = symbol (codes "}") ∷ rest

-- after the `;` of a rule: that of a local rule stands in a `where`
abbrev close_outer : Site trees → Tokens
close_outer (global h) = []
close_outer (local h outer ls n las) = symbol (codes "}") ∷ symbol (codes ";") ∷ []

abbrev close_site : Site trees → Tokens
close_site site = symbol (codes ";") ∷ close_outer site

abbrev close_local : Tokens
close_local = symbol (codes "->") ∷ no_text ∷ symbol (codes ";") ∷ symbol (codes "}") ∷ symbol (codes ";") ∷ []

abbrev pub close_pos : Pos trees → Tokens
close_pos Machine.start = some_name ∷ symbol (codes "->") ∷ no_text ∷ symbol (codes ";") ∷ []
close_pos (Machine.between rs) = []
close_pos (Machine.rule_named rs i) = symbol (codes "->") ∷ no_text ∷ symbol (codes ";") ∷ []
close_pos (Machine.local_named h ts ls i) = close_local
close_pos (Machine.before_term site) = no_text ∷ close_site site
close_pos (Machine.in_term site ts p) = close_part p (close_site site)
close_pos (Machine.after_term site ts) = close_site site
close_pos (Machine.where_named h ts) = symbol (codes "{") ∷ some_name ∷ close_local
close_pos (Machine.before_local h ts) = some_name ∷ close_local
close_pos (Machine.after_local h ts ls) = symbol (codes "}") ∷ symbol (codes ";") ∷ []
close_pos (Machine.after_where h) = symbol (codes ";") ∷ []

-- ---- the machine takes them

abbrev pub IsGood : {R : Type 0} → Result R ℕ → Type 0
IsGood (Ok r) = Unit {0}
IsGood (Err n) = ⊥

abbrev GoodFrom : ℕ → Pos trees → Tokens → Type 0
GoodFrom at pos ts = IsGood (verdict trees at (record { log = tt; pos = pos }) (classes ts))

site_good : (at : ℕ) (site : Site trees) (ts : List TermTree) → GoodFrom at (after_term site ts) (close_site site)
site_good at (global h) ts = tt
site_good at (local h outer ls n las) ts = tt

use_good : (at : ℕ) (site : Site trees) (ts : List TermTree) (u : SlotUse trees) (w : What) (span : Span)
    → GoodFrom at (in_term site ts (Machine.slot_named u w span)) (close_use u (close_site site))
use_good at (global h) ts alone w span = tt
use_good at (local h outer ls n las) ts alone w span = tt
use_good at (global h) ts (chosen x cs c) w span = tt
use_good at (local h outer ls n las) ts (chosen x cs c) w span = tt
use_good at (global h) ts (other x cs) w span = tt
use_good at (local h outer ls n las) ts (other x cs) w span = tt

base_good : (at : ℕ) (site : Site trees) (ts : List TermTree) (first : ℕ) (base : Base trees) (e : ExprTree)
    → GoodFrom at (in_term site ts (expr base first (have [] e))) (close_base base (close_site site))
base_good at (global h) ts first (Machine.length_or_left alone w span) e = tt
base_good at (local h outer ls n las) ts first (Machine.length_or_left alone w span) e = tt
base_good at (global h) ts first (Machine.length_or_left (chosen x cs c) w span) e = tt
base_good at (local h outer ls n las) ts first (Machine.length_or_left (chosen x cs c) w span) e = tt
base_good at (global h) ts first (Machine.length_or_left (other x cs) w span) e = tt
base_good at (local h outer ls n las) ts first (Machine.length_or_left (other x cs) w span) e = tt
base_good at (global h) ts first (Machine.right_of alone w span l) e = tt
base_good at (local h outer ls n las) ts first (Machine.right_of alone w span l) e = tt
base_good at (global h) ts first (Machine.right_of (chosen x cs c) w span l) e = tt
base_good at (local h outer ls n las) ts first (Machine.right_of (chosen x cs c) w span l) e = tt
base_good at (global h) ts first (Machine.right_of (other x cs) w span l) e = tt
base_good at (local h outer ls n las) ts first (Machine.right_of (other x cs) w span l) e = tt
base_good at (global h) ts first (Machine.value_of x) e = tt
base_good at (local h outer ls n las) ts first (Machine.value_of x) e = tt
base_good at (global h) ts first (Machine.test_of span) e = tt
base_good at (local h outer ls n las) ts first (Machine.test_of span) e = tt
base_good at (global h) ts first (Machine.first_bound x) e = tt
base_good at (local h outer ls n las) ts first (Machine.first_bound x) e = tt
base_good at (global h) ts first (Machine.last_bound x a) e = tt
base_good at (local h outer ls n las) ts first (Machine.last_bound x a) e = tt
base_good at (global h) ts first (Machine.item_left x a b i) e = tt
base_good at (local h outer ls n las) ts first (Machine.item_left x a b i) e = tt
base_good at (global h) ts first (Machine.item_right x a b i l) e = tt
base_good at (local h outer ls n las) ts first (Machine.item_right x a b i l) e = tt
base_good at (global h) ts first (Machine.many_length_or_left span i) e = tt
base_good at (local h outer ls n las) ts first (Machine.many_length_or_left span i) e = tt
base_good at (global h) ts first (Machine.many_right span i l) e = tt
base_good at (local h outer ls n las) ts first (Machine.many_right span i l) e = tt
base_good at (global h) ts first (Machine.case_of x cs) e = tt
base_good at (local h outer ls n las) ts first (Machine.case_of x cs) e = tt

-- what may follow an expression and closes it
abbrev Closes : Toks → Type 0
Closes [] = Unit {0}
Closes (t ∷ ts) = Ends 0 t

base_closes : (base : Base trees) (rest : Tokens) → Closes (classes (close_base base rest))
base_closes (Machine.length_or_left u w span) rest = (le_refl 0, refl)
base_closes (Machine.right_of u w span l) rest = (le_refl 0, refl)
base_closes (Machine.value_of x) rest = (le_refl 0, refl)
base_closes (Machine.test_of span) rest = (le_refl 0, refl)
base_closes (Machine.first_bound x) rest = (le_refl 0, refl)
base_closes (Machine.last_bound x a) rest = (le_refl 0, refl)
base_closes (Machine.item_left x a b i) rest = (le_refl 0, refl)
base_closes (Machine.item_right x a b i l) rest = (le_refl 0, refl)
base_closes (Machine.many_length_or_left span i) rest = (le_refl 0, refl)
base_closes (Machine.many_right span i l) rest = (le_refl 0, refl)
base_closes (Machine.case_of x cs) rest = (le_refl 0, refl)

frames_close : (fs : List (Frame trees)) (rest : Tokens) → Closes (classes rest) → Closes (classes (close_frames fs rest))
frames_close [] rest closes = closes
frames_close (neg ∷ fs) rest closes = frames_close fs rest closes
frames_close (isnt ∷ fs) rest closes = frames_close fs rest closes
frames_close (left i a ∷ fs) rest closes = frames_close fs rest closes
frames_close (group ∷ fs) rest closes = (le_refl 0, refl)
frames_close (index i ∷ fs) rest closes = (le_refl 0, refl)
frames_close (then_of c span ∷ fs) rest closes = (le_refl 0, refl)
frames_close (else_of c span a ∷ fs) rest closes = frames_close fs rest closes

module _ (site : Site trees) (ts : List TermTree) (first : ℕ) (base : Base trees) where
  abbrev at_inner : Inner trees → State trees
  at_inner inner = inside trees tt site ts base first inner

  alike_closed : (at : ℕ) (fs gs : List (Frame trees)) (e f : ExprTree) (toks : Toks) → Closes toks
      → ((p : ℕ) → p ≤ 0 → close trees p fs e ≡ close trees p gs f)
      → verdict trees at (at_inner (have fs e)) toks ≡ verdict trees at (at_inner (have gs f)) toks
  alike_closed at fs gs e f [] closes same = refl
  alike_closed at fs gs e f (t ∷ toks) closes same = alike trees tt site ts base first at fs gs e f t toks (same (tightness t) closes.0)

  named_closed : (at : ℕ) (fs : List (Frame trees)) (i : Ident) (toks : Toks) → Closes toks
      → verdict trees at (at_inner (named fs i)) toks ≡ verdict trees at (at_inner (have fs (Written.own i))) toks
  named_closed at fs i [] closes = refl
  named_closed at fs i (t ∷ toks) closes =
      ap (λ turn. onward at (Machine.turned trees at site ts t turn) (λ next. verdict trees (at + 1) next toks))
      (name_ends trees at tt base first fs i t closes.1)

  good_by : {v w : Result (Machine.Read trees) ℕ} → v ≡ w → IsGood w → IsGood v
  good_by same good = subst IsGood (sym same) good

  frames_good : (fs : List (Frame trees)) (at : ℕ) (e : ExprTree) (rest : Tokens) → Closes (classes rest)
      → ((n : ℕ) (f : ExprTree) → IsGood (verdict trees n (at_inner (have [] f)) (classes rest)))
      → IsGood (verdict trees at (at_inner (have fs e)) (classes (close_frames fs rest)))
  frames_good [] at e rest closes good = good at e
  frames_good (neg ∷ fs) at e rest closes good =
      good_by (alike_closed at (neg ∷ fs) fs e (Written.neg e) (classes (close_frames fs rest)) (frames_close fs rest closes) (λ p low. refl))
      (frames_good fs at (Written.neg e) rest closes good)
  frames_good (isnt ∷ fs) at e rest closes good =
      good_by (alike_closed at (isnt ∷ fs) fs e (Written.isnt e) (classes (close_frames fs rest)) (frames_close fs rest closes) (λ p low. refl))
      (frames_good fs at (Written.isnt e) rest closes good)
  frames_good (left i a ∷ fs) at e rest closes good =
      good_by (alike_closed at (left i a ∷ fs) fs e (Written.two i a e) (classes (close_frames fs rest)) (frames_close fs rest closes)
      (λ p low. close_left trees p fs i a e (omega arith)))
      (frames_good fs at (Written.two i a e) rest closes good)
  frames_good (group ∷ fs) at e rest closes good = frames_good fs (at + 1) (Written.group e) rest closes good
  frames_good (index i ∷ fs) at e rest closes good = frames_good fs (at + 1 + 1 + 1) (Written.item i e Start) rest closes good
  frames_good (then_of c span ∷ fs) at e rest closes good =
      good_by (alike_closed (at + 1 + 1) (else_of c span e ∷ fs) fs Written.eoi (Written.choose c span e Written.eoi) (classes (close_frames fs rest))
      (frames_close fs rest closes)
      (λ p low. close_else trees p fs c span e Written.eoi low))
      (frames_good fs (at + 1 + 1) (Written.choose c span e Written.eoi) rest closes good)
  frames_good (else_of c span a ∷ fs) at e rest closes good =
      good_by (alike_closed at (else_of c span a ∷ fs) fs e (Written.choose c span a e) (classes (close_frames fs rest)) (frames_close fs rest closes)
      (λ p low. close_else trees p fs c span a e low))
      (frames_good fs at (Written.choose c span a e) rest closes good)

  inner_good : (inner : Inner trees) (at : ℕ) (rest : Tokens) → Closes (classes rest)
      → ((n : ℕ) (f : ExprTree) → IsGood (verdict trees n (at_inner (have [] f)) (classes rest)))
      → IsGood (verdict trees at (at_inner inner) (classes (close_inner inner rest)))
  inner_good (want fs) at rest closes good = frames_good fs (at + 1) Written.eoi rest closes good
  inner_good (have fs e) at rest closes good = frames_good fs at e rest closes good
  inner_good (named fs i) at rest closes good =
      good_by (named_closed at fs i (classes (close_frames fs rest)) (frames_close fs rest closes)) (frames_good fs at (Written.own i) rest closes good)
  inner_good (dotted fs i) at rest closes good = frames_good fs (at + 1) (Written.part i Start) rest closes good
  inner_good (indexed fs i e) at rest closes good = frames_good fs (at + 1 + 1) (Written.item i e Start) rest closes good
  inner_good (index_dotted fs i e) at rest closes good = frames_good fs (at + 1) (Written.item i e Start) rest closes good

part_good : (at : ℕ) (site : Site trees) (ts : List TermTree) (p : Part trees) → GoodFrom at (in_term site ts p) (close_part p (close_site site))
part_good at site ts (Machine.slot_named u w span) = use_good at site ts u w span
part_good at site ts (Machine.expr base first inner) =
    inner_good site ts first base inner at (close_base base (close_site site)) (base_closes base (close_site site)) (λ n f. base_good n site ts first base f)
part_good at (global h) ts Machine.set_open = tt
part_good at (local h outer ls n las) ts Machine.set_open = tt
part_good at (global h) ts (Machine.set_named x) = tt
part_good at (local h outer ls n las) ts (Machine.set_named x) = tt
part_good at (global h) ts (Machine.test_open span) = tt
part_good at (local h outer ls n las) ts (Machine.test_open span) = tt
part_good at (global h) ts Machine.repeat_open = tt
part_good at (local h outer ls n las) ts Machine.repeat_open = tt
part_good at (global h) ts (Machine.repeat_named x) = tt
part_good at (local h outer ls n las) ts (Machine.repeat_named x) = tt
part_good at (global h) ts (Machine.item_due x a b) = tt
part_good at (local h outer ls n las) ts (Machine.item_due x a b) = tt
part_good at (global h) ts (Machine.item_named x a b i) = tt
part_good at (local h outer ls n las) ts (Machine.item_named x a b i) = tt
part_good at (global h) ts (Machine.many_open span) = tt
part_good at (local h outer ls n las) ts (Machine.many_open span) = tt
part_good at (global h) ts (Machine.many_named span i) = tt
part_good at (local h outer ls n las) ts (Machine.many_named span i) = tt
part_good at (global h) ts (Machine.pick_open span) = tt
part_good at (local h outer ls n las) ts (Machine.pick_open span) = tt
part_good at (global h) ts (Machine.first_case span) = tt
part_good at (local h outer ls n las) ts (Machine.first_case span) = tt
part_good at (global h) ts (Machine.next_case span cs) = tt
part_good at (local h outer ls n las) ts (Machine.next_case span cs) = tt
part_good at (global h) ts (Machine.case_open span cs) = tt
part_good at (local h outer ls n las) ts (Machine.case_open span cs) = tt
part_good at (global h) ts (Machine.slot_due alone) = tt
part_good at (local h outer ls n las) ts (Machine.slot_due alone) = tt
part_good at (global h) ts (Machine.slot_due (chosen x cs c)) = tt
part_good at (local h outer ls n las) ts (Machine.slot_due (chosen x cs c)) = tt
part_good at (global h) ts (Machine.slot_due (other x cs)) = tt
part_good at (local h outer ls n las) ts (Machine.slot_due (other x cs)) = tt
part_good at (global h) ts (Machine.pick_close span cs s) = tt
part_good at (local h outer ls n las) ts (Machine.pick_close span cs s) = tt

-- whatever the machine took, closing tokens make a grammar of it
pub closers_good : (at : ℕ) (pos : Pos trees) → IsGood (verdict trees at (record { log = tt; pos = pos }) (classes (close_pos pos)))
closers_good at Machine.start = tt
closers_good at (Machine.between rs) = tt
closers_good at (Machine.rule_named rs i) = tt
closers_good at (Machine.local_named h ts ls i) = tt
closers_good at (Machine.before_term (global h)) = tt
closers_good at (Machine.before_term (local h outer ls n las)) = tt
closers_good at (Machine.in_term site ts p) = part_good at site ts p
closers_good at (Machine.after_term site ts) = site_good at site ts
closers_good at (Machine.where_named h ts) = tt
closers_good at (Machine.before_local h ts) = tt
closers_good at (Machine.after_local h ts ls) = tt
closers_good at (Machine.after_where h) = tt
