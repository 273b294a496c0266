-- What rows lead to with one number in hand.
use Rattle.std.proofs.Common.{◌≡◌, ℕ, zero, suc, ◌+◌, ◌<◌, ◌≤◌, List, [], ◌∷◌, length, drop, get_or, refl, sym, ap, ◌∙◌, arith, ℤ, pos}
use Rattle.std.proofs.Common.{Option, Some, None, option_map, IfSome}
use Rattle.std.proofs.lemmas.Option.{none-some}
use Rattle.ipg_num.specs.Number.{limited, apply_of}
use Rattle.ipg_num.specs.declared.op.Op2.{Op2}
use Rattle.ipg_num.specs.declared.op.Answer.{Answer}
use Rattle.ipg_num.specs.declared.op.Answer.TheVariants.{Val}
use Rattle.ipg_core.specs.Environment.{Environment}
use Rattle.ipg_core.specs.Eval.{found, on_value}
use Rattle.ipg_table.specs.declared.in_hand.Holding.{Holding}
use Rattle.ipg_table.specs.declared.row.Op.{Op}
use Rattle.ipg_table.specs.declared.row.Op.TheVariants.{Two}
use Rattle.ipg_table.specs.Hand.{LeadOn, LeadsOn, handed}
use Rattle.ipg_table.specs.Running.{Next, computed, put, put_end, run}
use Rattle.ipg_table.specs.Stack.{Puts}
use Rattle.ipg_table.proofs.Runs.{put_is}
use Rattle.ipg_table.proofs.Turning.{turn_on}

-- what leads on where something else does the same
pub led_alike : (o : Option Holding) (f g : Next → Answer) → ((next : Next) → g next ≡ f next)
    → IfSome o (λ h. (next : Next) → f next ≡ next h.skip (handed h.number)) → IfSome o (λ h. (next : Next) → g next ≡ next h.skip (handed h.number))
led_alike None f g same is = is
led_alike (Some h) f g same is = λ next. same next ∙ is next

-- a row leads on from the rows that begin with it
pub row_leads : (env : Environment) (room : ℕ) (ops : List Op) (op : Op) (stack : List ℤ) (o : Option Holding) → op ≡ get_or ops 0 op → 0 < length ops
    → IfSome o (LeadsOn env room op stack) → IfSome o (LeadOn env room ops stack)
row_leads env room ops op stack None is within leads = leads
row_leads env room ops op stack (Some h) is within leads =
    turn_on env room ops (drop (h.skip + 1) ops) op stack (handed h.number) h.skip is within leads refl

-- a number and the operator behind it
pub two_lead : (env : Environment) (room : ℕ) (ops : List Op) (b c : Op) (op : Op2) (x y z : ℤ) (h : Holding) → 2 ≤ length ops → b ≡ get_or ops 0 b
    → c ≡ get_or ops 1 c → c ≡ Two op → 2 ≤ room → Puts env room b y → on_value (apply_of op x y) limited ≡ Val z
    → h.number ≡ Some z → h.skip ≡ 1 → LeadOn env room ops (x ∷ []) h
two_lead env room [] b c op x y z h two is_b is_c is within puts gives number skip = absurd (omega arith)
two_lead env room (k ∷ []) b c op x y z h two is_b is_c is within puts gives number skip = absurd (omega arith)
two_lead env room (k ∷ l ∷ ops) b c op x y z h two is_b is_c is within puts gives number skip =
    ap (λ o. run env room 0 (o ∷ l ∷ ops) (x ∷ [])) (sym is_b)
    ∙ puts (x ∷ []) (λ k s. run env room k (l ∷ ops) s) (omega arith)
    ∙ ap (λ o. run env room 0 (o ∷ ops) (y ∷ x ∷ [])) (sym is_c ∙ is)
    ∙ put_is room (apply_of op x y) 0 [] (λ k s. run env room k ops s) (omega arith)
    ∙ ap (λ a. on_value a (λ z. run env room 0 ops (z ∷ []))) gives
    ∙ ap (λ o. run env room 0 ops (handed o)) (sym number)
    ∙ ap (λ n. run env room 0 (drop (n + 1) (k ∷ l ∷ ops)) (handed h.number)) (sym skip)

-- an end is put whether it is read as a place or as a number
pub an_end : (room : ℕ) (end : Option ℕ) (o : Option ℤ) (z : ℤ) (answer : Answer) (skip : ℕ) (stack : List ℤ)
    → o ≡ option_map pos end → o ≡ Some z → answer ≡ found o → put_end room end skip stack ≡ put room answer skip stack
an_end room None o z answer skip stack e is h = absurd (none-some z (sym e ∙ is))
an_end room (Some n) o z answer skip stack e is h = ap (λ a. put room a skip stack) (sym (h ∙ ap found e))

-- no number, no place: the next row follows
pub no_end : (room : ℕ) (end : Option ℕ) (o : Option ℤ) (skip : ℕ) (stack : List ℤ) → o ≡ option_map pos end → o ≡ None
    → (next : Next) → put_end room end skip stack next ≡ next 0 stack
no_end room None o skip stack e is next = refl
no_end room (Some n) o skip stack e is next = absurd (none-some (pos n) (sym is ∙ e))
