-- Of a trial something is said, and of an input that `explain` tells of.
use Rattle.std.proofs.Common.{ℕ, ◌≤◌, ◌-◌, ◌^◌, refl, sym, ◌∙◌, List, [], length, Result, Ok, Err}
use Rattle.std.specs.Prelude.{min}
use Rattle.ipg_core.specs.Grammar.{Grammar}
use Rattle.ipg_core.specs.Good.{Good}
use Rattle.ipg_core.specs.Grown.{IsInput}
use Rattle.ipg_core.specs.Lines.{tree_lines}
use Rattle.ipg_core.specs.Meaning.{Means}
use Rattle.ipg_core.specs.Run.{Stop, NoTree, OutOfRange, Deep}
use Rattle.ipg_core.specs.Total.{Total}
use Rattle.ipg_core.specs.Tree.{Tree}
use Rattle.ipg_formats.specs.declared.Kind.{Kind}
use Rattle.ipg_formats.specs.Sample.{sample_of}
use Rattle.ipg_mach_moves.specs.Laws.{EndsAsMeant}
use Rattle.ipg_mach_count_laws.specs.Laws.{AllWhereNoneKept, CountsOver, KeysAreKnown, NoneWhereFirstKept}
use Rattle.ipg_app_explain.specs.Furthest.{Subject}
use Rattle.ipg_app_tree.specs.declared.measuring.Size.{Size}
use Rattle.ipg_app_grammar.specs.Followed.{Follows, found_said}
use Rattle.ipg_app_tree.specs.Measured.{IsSize}
use Rattle.ipg_app_text.specs.Said.{Said, done_line, no_parse, range}
use Rattle.ipg_app.specs.Trial.{IsTried, Tries, size_words}
use Rattle.ipg_app_reply_laws.proofs.Classical.{Somehow, some, ◌>>=◌}
use Rattle.ipg_app_reply_laws.proofs.Editing.{no_keys}
use Rattle.ipg_app_reply_laws.proofs.Findings.{findings}
use Rattle.ipg_app_reply_laws.proofs.Fresh.{fresh}
use Rattle.ipg_app_reply_laws.proofs.Meanings.{means}
use Rattle.ipg_app_reply_laws.proofs.Samples.{sample_input}

module _ (ends : EndsAsMeant) (are_known : KeysAreKnown) (over : CountsOver) (none_run : NoneWhereFirstKept) (all_run : AllWhereNoneKept)
    (g : Grammar) (good : Good g) (total : Total g) where
  -- how large a tree is
  size : (s : List ℕ) → IsInput s → (tree : Tree) → Means g s (Ok tree) → Somehow ((size : Size) × IsSize g s tree size)
  size s is tree m = do
    keys ← fresh g good total s is ends are_known over none_run (Ok tree) m [] (no_keys g)
    some (
      record { lines = min (length (tree_lines g 0 0 tree)) (2 ^ 64 - 1); bodies = min (length keys.0) (2 ^ 64 - 1) },
      record {
        lines = refl;
        height = m.height;
        settled = λ deep. m.settled (sym m.is ∙ deep);
        keys = keys.0;
        reach = (all_run g s m.height keys.0).1 keys.1;
        bodies = refl;
      },
    )

  tried : (name : List ℕ) (kind : Kind) (n : ℕ) → n ≤ 10000 → (answer : Result Tree Stop) → Means g (sample_of kind n) answer
      → Somehow ((said : Said) × IsTried name kind n g answer said)
  tried name kind n few (Ok tree) m = do
    s ← size (sample_of kind n) (sample_input kind n few) tree m
    some (done_line (size_words name n (length (sample_of kind n)) s.0), (s.0, s.1, refl))
  tried name kind n few (Err NoTree) m = some (no_parse, refl)
  tried name kind n few (Err OutOfRange) m = some (range, refl)
  tried name kind n few (Err Deep) m = absurd (m.settled refl)

  pub tries : (name : List ℕ) (kind : Kind) (n : ℕ) → n ≤ 10000 → Somehow ((said : Said) × Tries name kind n g said)
  tries name kind n few = do
    let m = means g good total (sample_of kind n) (sample_input kind n few)
    said ← tried name kind n few m.0 m.1
    some (said.0, record { answer = m.0; means = m.1; is = said.1 })

  pub follows : (s : Subject) → IsInput s.input → Somehow ((said : Said) × Follows s g said)
  follows s is =
      let m = means g good total s.input is in
      let f = findings ends g good s.input m.0 m.1 in
      some (found_said s g f.0, record { found = f.0; are = f.1; is = refl })
