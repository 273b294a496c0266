-- What a scene says of its call.
use Rattle.std.proofs.Common.{◌≡◌, ◌⊎◌, inl, inr, ℕ, suc, ◌+◌, refl, sym, ap, ◌∙◌, List, [], ◌∷◌, length, Option, Some, None, ℤ}
use Rattle.ipg_core.specs.declared.grammar.CoreTerm.{CoreTerm}
use Rattle.ipg_core.specs.Tree as tree
use Rattle.ipg_core.specs.Tree.{kids_of}
use Rattle.ipg_mach_moves.specs.Moves as moves
use Rattle.ipg_mach_moves.specs.Moves.{OpenCall, Highest, Works, Holds}
use Rattle.ipg_mach_nodes.specs.declared.kid.Kid.{Kid}
use Rattle.ipg_mach_nodes.specs.Stored.{Stored, Source, StandKids}
use Rattle.ipg_mach_term.specs.declared.entry.TermEntry.TheVariants as entries
use Rattle.ipg_mach_term.specs.Advance.{IsEntry}
use Rattle.ipg_mach.specs.Calls.{items_in}
use Rattle.ipg_mach.specs.Scene.{IsScene, IsSceneOf}
use Rattle.ipg_mach.specs.declared.scene.Scene.{Scene}
use Rattle.ipg_mach_failures.specs.declared.failure.Cause.{Cause}
use Rattle.ipg_mach_failures.specs.declared.failure.Cause.TheVariants.{NoInterval, IsZero, NoValue}
use Rattle.ipg_mach_failures.specs.declared.failure.Miss.{Miss}
use Rattle.ipg_mach_failures.specs.declared.failure.Failure.{Failure}
use Rattle.ipg_mach_failures.specs.declared.values.Valued.{Valued}
use Rattle.ipg_mach_failures.specs.Chain.{first_left, call_of}
use Rattle.ipg_mach_failures.specs.Values.{if_asked}
use Rattle.ipg_mach_failures.specs.Failing.{items_so_far, term_fails, given_fails, item_at_hand, place_of, failure_at, first_fails, call_fails}

pub same_items : (e : moves.Entry) → items_in e ≡ items_so_far e
same_items moves.Outside = refl
same_items (moves.Items n i items) = refl
same_items (moves.Turns p r items) = refl

pub count : (src : Source) (st : Stored) (at : ℕ) (rows : List Kid) (items : List tree.Kid) → StandKids src st at rows (kids_of items)
    → length rows ≡ length items
count src st at [] [] stand = refl
count src st at [] (item ∷ items) stand = absurd stand
count src st at (row ∷ rows) [] stand = absurd stand
count src st at (row ∷ rows) (item ∷ items) stand = ap suc (count src st at rows items stand.1)

-- ---- the item at hand

module _ (n : ℕ) (items : List tree.Kid) (e : moves.Entry) where
  pub outside : IsEntry n entries.Outside items e → None ≡ item_at_hand e
  outside is = sym (ap item_at_hand is.1)

  pub in_array : (left : ℕ) (item : ℤ) (count : ℕ) → IsEntry n (entries.Items left item) items e → count ≡ length items → Some count ≡ item_at_hand e
  in_array left item count is same = ap (λ k. Some k) same ∙ sym (ap item_at_hand is.2)

  pub in_turns : (at to count : ℕ) → IsEntry n (entries.Turns at to) items e → count ≡ length items → Some count ≡ item_at_hand e
  in_turns at to count is same = ap (λ k. Some k) same ∙ sym (ap item_at_hand is.0)

-- ---- the call, and its term at hand

first_is : (left : List ℕ) (u : ℕ) (rest : List ℕ) → left ≡ u ∷ rest → first_left left ≡ u
first_is left u rest is = ap first_left is

module _ {A : Type 0} (src : Source) (s : Scene A) (c : OpenCall) (q : IsScene src s c) where
  pub term_is : first_left c.left ≡ s.instr.term
  term_is = first_is c.left q.number q.rest q.left ∙ sym q.is_number

  pub call_is : call_of c ≡ record { rule = s.rule; alt = s.alt; term = s.instr.term; from = s.from; to = s.to }
  call_is = λ i. record { rule = q.rule i; alt = q.alt i; term = term_is i; from = q.begins i; to = q.ends i }

  fails_so : call_fails c ≡ failure_at c q.number (term_fails c.frame c.state q.number c.entry q.term)
  fails_so =
      ap (first_fails c) q.left
      ∙ ap (λ (t : Option CoreTerm). failure_at c q.number (given_fails c.frame c.state q.number c.entry t)) q.is_term

  -- by what is found of the term
  pub fails_by : (found : Option Miss) → found ≡ term_fails c.frame c.state q.number c.entry q.term → failure_at c s.instr.term found ≡ call_fails c
  fails_by found is =
      ap (λ u. failure_at c u found) q.is_number ∙ ap (failure_at c q.number) is ∙ sym fails_so

  pub failure_is : (m : Miss) (place : ℕ) (item : Option ℕ) → item ≡ item_at_hand c.entry → place ≡ s.from + place_of c m.place
      → ◌≡◌ {A = Option Failure} (Some (record {
        rule = s.rule;
        alt = s.alt;
        from = s.from;
        to = s.to;
        term = s.instr.term;
        branch = m.branch;
        item = item;
        cause = m.cause;
        place = place;
      })) (failure_at c s.instr.term (Some m))
  failure_is m place item same at =
      let there : place ≡ c.from + place_of c m.place = at ∙ ap (λ n. n + place_of c m.place) (sym q.begins) in
      let rule = sym q.rule in let alt = sym q.alt in let from = sym q.begins in let to = sym q.ends in
      (λ i. Some (record {
        rule = rule i;
        alt = alt i;
        from = from i;
        to = to i;
        term = s.instr.term;
        branch = m.branch;
        item = same i;
        cause = m.cause;
        place = there i;
      }))

-- ---- what it reads

-- where no bytes are to blame, it is told
pub asked : (cause : Cause) (read : List Valued)
    → ((x : ℤ) × (y : ℤ) × (cause ≡ NoInterval x y)) ⊎ ((cause ≡ IsZero) ⊎ (cause ≡ NoValue)) → if_asked cause read ≡ read
asked cause read (inl ends) = ap (λ (c : Cause). if_asked c read) ends.2
asked cause read (inr (inl is)) = ap (λ (c : Cause). if_asked c read) is
asked cause read (inr (inr is)) = ap (λ (c : Cause). if_asked c read) is

-- ---- the highest call

pub record Working {A : Type 0} (src : Source) (s : Scene A) (highest : Highest) : Type 0 where
  pub call : OpenCall
  pub is : highest ≡ Works call
  pub scene : IsScene src s call

-- a scene is of a call that works
pub works_in : {A : Type 0} (src : Source) (s : Scene A) (highest : Highest) → IsSceneOf src (Some s) highest → Working src s highest
works_in src s (Works c) h = record { call = c; is = refl; scene = h }
works_in src s (Holds key answer) h = absurd h
