-- The grammar of grammars as a stack of what is due: what a token makes of the entry on top, and a whole run.
use Rattle.std.specs.Prelude.{ℕ, ◌+◌, List, [], ◌∷◌, ◌++◌, Option, Some, None, Result, Ok, Err, nat_le, ◌==◌, if◌then◌else◌}
use Rattle.ipg_num.specs.declared.op.Op2.TheVariants.{Sub, Div}
use Rattle.ipg_ast.specs.declared.grammar.Span.{Span}
use Rattle.ipg_ast.specs.declared.grammar.Field.{Field}
use Rattle.ipg_read_syntax.specs.Classes as C
use Rattle.ipg_read_syntax.specs.Classes.{Infix, level, Tok}
use Rattle.ipg_read_syntax.specs.Machine.{field_of}
use Rattle.ipg_read_scan.specs.Lexemes.{infix_of, coded_infix}
use Rattle.ipg_read_scan.specs.declared.row.Site.{Site}
use Rattle.ipg_read_scan.specs.declared.row.Site.TheVariants.{Global, Local}
use Rattle.ipg_read_scan.specs.declared.row.Role.{Role}
use Rattle.ipg_read_scan.specs.declared.row.Role.TheVariants as Use
use Rattle.ipg_read_scan.specs.declared.row.Extent.TheVariants as Extent
use Rattle.ipg_read_scan.specs.declared.due.Due.{Due}
use Rattle.ipg_read_scan.specs.declared.due.Due.TheVariants as D
use Rattle.ipg_read_scan.specs.Rowed.{Row}
use Rattle.ipg_read_scan.specs.Rowed as R

-- the entry has ended before the token; or it takes it, and others take its place; or no grammar goes on so
pub data Answer : Type 0 where
  stuck : Answer
  passed : List Row → Answer
  taken : List Row → List Due → Answer

abbrev pub onward : List Due → Answer
onward next = taken [] next

abbrev pub made : Row → Answer
made row = taken (row ∷ []) []

-- an expression after the token `at`, and what is due after it
abbrev pub expr : ℕ → Due → Answer
expr at then_due = onward (D.Operand ∷ D.Rest 0 ∷ D.Whole (at + 1) ∷ then_due ∷ [])

-- ---- terms

pub record Opening : Type 0 where
  pub rows : List Row
  pub due : List Due

abbrev pub opened : List Due → Option Opening
opened due = Some (record { rows = []; due = due })

abbrev pub led : Row → Option Opening
led row = Some (record { rows = row ∷ []; due = D.Place Use.Term ∷ [] })

-- a term by its first token
abbrev pub opening : Tok → Option Opening
opening (C.text bs at) = led (R.text (record { name = bs; span = at }))
opening (C.name i) = led (R.call i)
opening C.left_brace = opened (D.Naming ∷ D.SetEquals ∷ [])
opening (C.question at) = opened (D.TestOpen at ∷ [])
opening C.for_word = opened (D.Naming ∷ D.ForEquals ∷ [])
opening (C.many_word at) = opened (D.Naming ∷ D.Place (Use.Many at) ∷ [])
opening (C.switch_word at) = opened (D.PickOpen at ∷ [])
opening t = None

abbrev pub slot : Role → Tok → Answer
slot role (C.text bs at) = taken (R.text (record { name = bs; span = at }) ∷ []) (D.Place role ∷ [])
slot role (C.name i) = taken (R.call i ∷ []) (D.Place role ∷ [])
slot role t = stuck

abbrev pub place : ℕ → Role → Tok → Answer
place at role C.left_bracket = expr at (D.Length role)
place at role t = passed (R.placed Extent.Open role ∷ [])

abbrev pub length : ℕ → Role → Tok → Answer
length at role C.right_bracket = made (R.placed Extent.Length role)
length at role C.comma = expr at (D.Right role)
length at role t = stuck

abbrev pub right : Role → Tok → Answer
right role C.right_bracket = made (R.placed Extent.Ends role)
right role t = stuck

abbrev pub equals : ℕ → Due → Tok → Answer
equals at then_due C.equals = expr at then_due
equals at then_due t = stuck

abbrev pub left_paren : ℕ → Due → Tok → Answer
left_paren at then_due C.left_paren = expr at then_due
left_paren at then_due t = stuck

abbrev pub set_end : Tok → Answer
set_end C.right_brace = made R.set
set_end t = stuck

abbrev pub test_end : Span → Tok → Answer
test_end span C.right_paren = made (R.test span)
test_end span t = stuck

abbrev pub for_to : ℕ → Tok → Answer
for_to at C.to_word = expr at D.ForDo
for_to at t = stuck

abbrev pub for_do : Tok → Answer
for_do C.do_word = onward (D.Naming ∷ D.ForOpen ∷ [])
for_do t = stuck

abbrev pub for_open : ℕ → Tok → Answer
for_open at C.left_bracket = expr at D.ForComma
for_open at t = stuck

abbrev pub for_comma : ℕ → Tok → Answer
for_comma at C.comma = expr at D.ForEnd
for_comma at t = stuck

abbrev pub for_end : Tok → Answer
for_end C.right_bracket = made R.repeat
for_end t = stuck

abbrev pub pick_open : Span → Tok → Answer
pick_open span C.left_brace = onward (D.FirstCase span ∷ [])
pick_open span t = stuck

abbrev pub first_case : Span → Tok → Answer
first_case span C.case_word = onward (D.CaseOpen ∷ D.Cases span ∷ [])
first_case span t = stuck

abbrev pub cases : Span → Tok → Answer
cases span C.case_word = onward (D.CaseOpen ∷ D.Cases span ∷ [])
cases span C.else_word = onward (D.Slot Use.Other ∷ D.PickEnd span ∷ [])
cases span t = stuck

abbrev pub case_end : Tok → Answer
case_end C.right_paren = onward (D.Slot Use.Case ∷ [])
case_end t = stuck

abbrev pub pick_end : Span → Tok → Answer
pick_end span C.right_brace = made (R.pick span)
pick_end span t = stuck

-- ---- expressions

abbrev pub operand : Tok → Answer
operand (C.number z) = made (R.num z)
operand C.eoi_word = made R.eoi
operand (C.name i) = taken (R.name i ∷ []) (D.AfterName ∷ [])
operand C.left_paren = onward (D.Operand ∷ D.Rest 0 ∷ D.GroupEnd ∷ [])
operand (C.sign (C.op Sub)) = onward (D.Operand ∷ D.Neg ∷ [])
operand C.bang = onward (D.Operand ∷ D.Not ∷ [])
operand t = stuck

-- what binds more tightly than an operator is its right operand, and all else of the level goes on after it
abbrev pub operator : ℕ → Infix → Answer
operator l i = if nat_le l (level i) then onward (D.Operand ∷ D.Rest (level i + 1) ∷ D.Two (coded_infix i) ∷ D.Rest l ∷ []) else passed []

-- a conditional binds loosest
abbrev pub question : ℕ → Answer
question l = if l == 0 then onward (D.Operand ∷ D.Rest 0 ∷ D.CondColon ∷ D.Rest 0 ∷ []) else passed []

abbrev pub rest : ℕ → Tok → Answer
rest l (C.sign i) = operator l i
rest l (C.question at) = question l
rest l t = passed []

abbrev pub after_name : Tok → Answer
after_name C.dot = onward (D.PartField ∷ [])
after_name C.left_paren = onward (D.Operand ∷ D.Rest 0 ∷ D.IndexEnd ∷ [])
after_name t = passed (R.own ∷ [])

abbrev pub part_field : Option Field → Answer
part_field (Some f) = made (R.part f)
part_field None = stuck

abbrev pub item_field : Option Field → Answer
item_field (Some f) = made (R.item f)
item_field None = stuck

abbrev pub index_end : Tok → Answer
index_end C.right_paren = onward (D.IndexDot ∷ [])
index_end t = stuck

abbrev pub index_dot : Tok → Answer
index_dot C.dot = onward (D.ItemField ∷ [])
index_dot t = stuck

abbrev pub group_end : Tok → Answer
group_end C.right_paren = made R.group
group_end t = stuck

abbrev pub cond_colon : Tok → Answer
cond_colon C.colon = onward (D.Operand ∷ D.Rest 0 ∷ D.Cond ∷ [])
cond_colon t = stuck

-- ---- rules

abbrev pub rules : ℕ → Tok → Answer
rules at (C.name i) = taken (R.rule at ∷ R.name i ∷ []) (D.Arrow Global ∷ D.Rules ∷ [])
rules at t = stuck

abbrev pub rule : ℕ → Site → Tok → Answer
rule at site (C.name i) = taken (R.rule at ∷ R.name i ∷ []) (D.Arrow site ∷ [])
rule at site t = stuck

abbrev pub naming : Tok → Answer
naming (C.name i) = made (R.name i)
naming t = stuck

abbrev pub arrow : Site → Tok → Answer
arrow site C.arrow = onward (D.First site ∷ D.Tail site ∷ [])
arrow site t = stuck

abbrev pub first_of : ℕ → Site → Option Opening → Answer
first_of at site (Some o) = taken (R.first site at ∷ o.rows) o.due
first_of at site None = stuck

abbrev pub first : ℕ → Site → Tok → Answer
first at site t = first_of at site (opening t)

-- a local rule has no `where`
abbrev pub wherein : Site → Answer
wherein Global = taken (R.locals ∷ []) (D.WhereOpen ∷ D.After ∷ [])
wherein Local = stuck

-- a token that begins no term
abbrev pub closing : Site → Tok → Answer
closing site (C.sign (C.op Div)) = taken (R.next_alt site ∷ []) (D.First site ∷ D.Tail site ∷ [])
closing site C.semicolon = made (R.end_rule site)
closing site C.where_word = wherein site
closing site t = stuck

abbrev pub tail_of : ℕ → Site → Tok → Option Opening → Answer
tail_of at site t (Some o) = taken (R.term at ∷ o.rows) (o.due ++ (D.Tail site ∷ []))
tail_of at site t None = closing site t

abbrev pub tail : ℕ → Site → Tok → Answer
tail at site t = tail_of at site t (opening t)

abbrev pub where_open : Tok → Answer
where_open C.left_brace = onward (D.Rule Local ∷ D.Locals ∷ [])
where_open t = stuck

abbrev pub locals : ℕ → Tok → Answer
locals at (C.name i) = taken (R.rule at ∷ R.name i ∷ []) (D.Arrow Local ∷ D.Locals ∷ [])
locals at C.right_brace = made R.end_locals
locals at t = stuck

abbrev pub after : Tok → Answer
after (C.sign (C.op Div)) = onward (D.First Global ∷ D.Tail Global ∷ [])
after C.semicolon = made R.close
after t = stuck

-- ---- one entry

abbrev pub ask : ℕ → Due → Tok → Answer
ask at D.Rules t = rules at t
ask at (D.Rule site) t = rule at site t
ask at D.Naming t = naming t
ask at (D.Arrow site) t = arrow site t
ask at (D.First site) t = first at site t
ask at (D.Tail site) t = tail at site t
ask at D.WhereOpen t = where_open t
ask at D.Locals t = locals at t
ask at D.After t = after t
ask at (D.Slot role) t = slot role t
ask at (D.Place role) t = place at role t
ask at (D.Length role) t = length at role t
ask at (D.Right role) t = right role t
ask at D.SetEquals t = equals at D.SetEnd t
ask at D.SetEnd t = set_end t
ask at (D.TestOpen span) t = left_paren at (D.TestEnd span) t
ask at (D.TestEnd span) t = test_end span t
ask at D.ForEquals t = equals at D.ForTo t
ask at D.ForTo t = for_to at t
ask at D.ForDo t = for_do t
ask at D.ForOpen t = for_open at t
ask at D.ForComma t = for_comma at t
ask at D.ForEnd t = for_end t
ask at (D.PickOpen span) t = pick_open span t
ask at (D.FirstCase span) t = first_case span t
ask at (D.Cases span) t = cases span t
ask at D.CaseOpen t = left_paren at D.CaseEnd t
ask at D.CaseEnd t = case_end t
ask at (D.PickEnd span) t = pick_end span t
ask at D.Operand t = operand t
ask at (D.Rest l) t = rest l t
ask at D.AfterName t = after_name t
ask at D.PartField t = part_field (field_of t)
ask at D.IndexEnd t = index_end t
ask at D.IndexDot t = index_dot t
ask at D.ItemField t = item_field (field_of t)
ask at D.GroupEnd t = group_end t
ask at D.CondColon t = cond_colon t
ask at D.Neg t = passed (R.neg ∷ [])
ask at D.Not t = passed (R.isnt ∷ [])
ask at (D.Two i) t = passed (R.two (infix_of i) ∷ [])
ask at D.Cond t = passed (R.choose ∷ [])
ask at (D.Whole from) t = passed (R.whole from ∷ [])

-- ---- a token, and all tokens

-- no grammar goes on; or the rows made, and what is due next
pub data Step : Type 0 where
  lost : Step
  moved : List Row → List Due → Step

abbrev pub after_rows : List Row → Step → Step
after_rows rows lost = lost
after_rows rows (moved more due) = moved (rows ++ more) due

abbrev pub settled : Answer → List Due → Step → Step
settled stuck due later = lost
settled (passed rows) due later = after_rows rows later
settled (taken rows next) due later = moved rows (next ++ due)

-- entries that have ended are dropped, up to the one that takes the token
abbrev pub advance : ℕ → Tok → List Due → Step
advance at t [] = lost
advance at t (d ∷ due) = settled (ask at d t) due (advance at t due)

abbrev pub rows_then : List Row → Result (List Row) ℕ → Result (List Row) ℕ
rows_then rows (Ok more) = Ok (rows ++ more)
rows_then rows (Err n) = Err n

abbrev pub ended : ℕ → List Due → Result (List Row) ℕ
ended at (D.Rules ∷ []) = Ok []
ended at due = Err at

abbrev pub proceed : ℕ → Step → (List Due → Result (List Row) ℕ) → Result (List Row) ℕ
proceed at lost later = Err at
proceed at (moved rows due) later = rows_then rows (later due)

-- the rows of all tokens from the `at`-th on, or the number of the first that no grammar goes on with
abbrev pub run : ℕ → List Due → List Tok → Result (List Row) ℕ
run at due [] = ended at due
run at due (t ∷ ts) = proceed at (advance at t due) (λ next. run (at + 1) next ts)

abbrev pub start : List Due
start = D.Rule Global ∷ D.Rules ∷ []
