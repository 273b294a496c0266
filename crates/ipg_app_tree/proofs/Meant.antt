-- What an accepted grammar means, and what is told of a parse.
use Rattle.std.proofs.Common.{◌≡◌, ◌≢◌, ℕ, suc, ◌<◌, ◌≤◌, ◌-◌, ◌^◌, List, length, [], ◌∷◌, min, get_or, Option, Some, Result, Ok, Err, IfOk}
use Rattle.std.proofs.Common.{Fits as IsBelow, w8, refl, sym, ap, ◌∙◌, subst, arith}
use Rattle.std.proofs.lemmas.Option.{slice_get_within}
use Rattle.std.specs.List.{AllByRecursion}
use Rattle.ipg_core.specs.Grammar.{Grammar, holder_of}
use Rattle.ipg_core.specs.Good.{Good}
use Rattle.ipg_core.specs.Grown.{IsInput, GrownUnder, max_input}
use Rattle.ipg_core.specs.Meaning.{Means, den}
use Rattle.ipg_core.specs.Lines.{tree_lines}
use Rattle.ipg_core.specs.Run.{Stop, Deep}
use Rattle.ipg_core.specs.Total.{Total, Fits, height_for}
use Rattle.ipg_core.specs.Tree.{Tree}
use Rattle.ipg_core.specs.Within.{TreeWithin}
use Rattle.ipg_mach_count_laws.specs.Laws.{CountsWithMemo}
use Rattle.ipg_mach.specs.Counted.{IsTally}
use Rattle.ipg_mach.specs.Outcome.{IsParse, Evaluates}
use Rattle.ipg_mach.specs.Stage.{source}
use Rattle.ipg_mach_moves.specs.Moves.{Tally}
use Rattle.ipg_outside.specs.Sink.{Output}
use Rattle.ipg_tree_walk.specs.Parse.{Parse, Walked}
use Rattle.ipg_tree_walk.specs.declared.parsed.Counts.{Counts}
use Rattle.ipg_table.specs.Rows.{Rows, StandFor}
use Rattle.ipg_mach_nodes.specs.Stored.{Source}
use Rattle.ipg_query.specs.Hits.{IsTree}
use Rattle.ipg_tree.specs.Shares as printed
use Rattle.ipg_app_tree.specs.declared.show.Show.{Show}
use Rattle.ipg_cover_leaves.specs.Leaves as leaves
use Rattle.ipg_app_tree.specs.Shown.{Shows}
use Rattle.ipg_app_tree.specs.Answered.{Answers, Fails, PutsText, PutsTree}
use Rattle.ipg_app_tree.specs.Measured.{IsSize}
use Rattle.ipg_app_tree.specs.declared.answering.Given.{Given}
use Rattle.ipg_app_tree.specs.declared.answering.Given.TheVariants as given
use Rattle.ipg_app_tree.specs.declared.answering.AnswerFault.{AnswerFault}
use Rattle.ipg_app_tree.specs.declared.answering.AnswerFault.TheVariants as fault
use Rattle.ipg_app_tree.specs.declared.measuring.Size.{Size}
use Rattle.std.specs.Prelude.{IfErr}

first_fits : (g : Grammar) (s : List ℕ) → Good g → IsInput s → Fits g 0 s []
first_fits g s good input =
    let first = good.well_formed.first in
    record {
      rule = slice_get_within g.rules 0 first.0 first.1;
      input = input;
      grown = subst (λ h. GrownUnder g h 0 s []) (sym (ap holder_of first.1 ∙ first.2)) refl;
    }

are_bytes : (s : List ℕ) → ((i : ℕ) → IsBelow w8 (get_or s i 0)) → AllByRecursion (λ b. b < 256) s
are_bytes [] h = tt
are_bytes (b ∷ s) h = (let below = h 0 in omega arith, are_bytes s (λ i. h (suc i)))

-- the input that a slice holds
pub input_of : (s : List ℕ) → length s ≤ max_input → ((i : ℕ) → IsBelow w8 (get_or s i 0)) → IsInput s
input_of s size h = record { size = size; bytes = are_bytes s h }

-- an accepted grammar has an answer for each input
pub meant : (g : Grammar) (s : List ℕ) → Good g → Total g → IsInput s → (answer : Result Tree Stop) × Means g s answer
meant g s good total input = (
  den g (height_for g s) 0 s [],
  record {
    height = height_for g s;
    is = refl;
    settled = total 0 s [] (first_fits g s good input);
  },
)

-- the tree of a parse is one that can be shown by the grammar
pub showable : (t : Rows) (g : Grammar) (input : List ℕ) (p : Walked) (one : Tree) → StandFor t g → length input ≤ 2 ^ 30 → IsParse t input p one
    → IsTree p.parse (source t input) g one
showable t g input p one stands small h = record {
  shares = record {
    tables = subst (λ t. StandFor t g) (sym h.tables) stands;
    syms = ap (λ (t : Rows). t.syms) (sym h.tables);
    input = sym h.bytes;
  };
  stands = h.stands;
  within = subst (λ bytes. TreeWithin (length bytes) one) (sym h.bytes) h.within;
  small = subst (λ bytes. length bytes ≤ 2 ^ 30) (sym h.bytes) small;
}

-- it is one whose lines can be printed
pub printable : (parse : Parse) (src : Source) (g : Grammar) (one : Tree) → IsTree parse src g one → printed.IsTree parse src g one
printable parse src g one h = record {
  shares = record { tables = h.shares.tables; syms = h.shares.syms; input = h.shares.input };
  stands = h.stands;
}

-- ---- what becomes of what is shown of a tree

module _ (show : Show) (g : Grammar) (input : List ℕ) (answer : Result Tree Stop) (means : Means g input answer) (one : Tree) (is_one : answer ≡ Ok one)
    (before : Option Output) (counted : ℕ) (after : Option Output) (counts : ℕ) where
  pub given_of : (r : Result Given AnswerFault) → PutsTree show g input one r before counted after counts
      → IfOk r (λ x. Answers show g input x before counted after counts)
  given_of (Ok x) h = record { answer = Ok one; means = subst (Means g input) is_one means; is = h }
  given_of (Err x) h = tt

  pub fault_of : (r : Result Given AnswerFault) → PutsTree show g input one r before counted after counts
      → IfErr r (λ x. Fails show g input x before counted after counts)
  fault_of (Ok x) h = tt
  fault_of (Err fault.Memory) h = h
  fault_of (Err fault.Write) h = record { tree = one; means = subst (Means g input) is_one means; text = h.0; shows = h.1; part = h.2 }

-- a text that is what is shown of a tree
pub puts_of : (show : Show) (g : Grammar) (input : List ℕ) (one : Tree) (text : List ℕ) (r : Result Given AnswerFault) (before : Option Output) (counted : ℕ)
    (after : Option Output) (counts : ℕ) → Shows show g input one text → PutsText r text before counted after counts
    → PutsTree show g input one r before counted after counts
puts_of show g input one text (Ok given.Tree) before counted after counts shows h = (one, refl, text, shows, h.1)
puts_of show g input one text (Ok given.NoTree) before counted after counts shows h = absurd (let e = h.0 in cc)
puts_of show g input one text (Ok given.Range) before counted after counts shows h = absurd (let e = h.0 in cc)
puts_of show g input one text (Ok (given.Gap at)) before counted after counts shows h = absurd (let e = h.0 in cc)
puts_of show g input one text (Err fault.Memory) before counted after counts shows h = h
puts_of show g input one text (Err fault.Write) before counted after counts shows h = (text, shows, h)

-- its leaves can be listed
pub leafy : (parse : Parse) (src : Source) (g : Grammar) (one : Tree) → IsTree parse src g one → leaves.IsTree parse src one
leafy parse src g one h = record {
  source = record { syms = h.shares.syms; input = h.shares.input };
  stands = h.stands;
  within = h.within;
  small = h.small;
}

-- ---- how large a tree is

pub size_is : (counts_with_memo : CountsWithMemo) (g : Grammar) (input : List ℕ) (answer : Result Tree Stop) (m : Means g input answer) (one : Tree)
    (tally : Tally)
    (counts : Counts) (size : Size) → answer ≡ Ok one → Evaluates g input (Some []) answer tally → IsTally counts tally
    → size.lines ≡ min (length (tree_lines g 0 0 one)) (2 ^ 64 - 1) → size.bodies ≡ counts.bodies → IsSize g input one size
size_is counts_with_memo g input answer m one tally counts size is_one e is_tally lines bodies =
    let settled : den g m.height 0 input [] ≢ Err Deep = subst (λ a. a ≢ Err Deep) (sym m.is) m.settled in
    let all = counts_with_memo g input m.height e.moved answer settled e.ends in
    record {
      lines = lines;
      height = m.height;
      settled = settled;
      keys = all.0;
      reach = all.1;
      bodies = bodies ∙ is_tally.bodies ∙ ap (λ n. min n (2 ^ 64 - 1)) (sym (ap (λ (t : Tally). t.bodies) e.counts) ∙ all.2);
    }
