-- A text that goes out behind another.
use Rattle.std.proofs.Common.{ℕ, ◌≤◌, List, [], ◌++◌, Option, Result, Ok, Err, sym, ◌∙◌, subst, append-nil, arith}
use Rattle.ipg_outside.specs.Faults.{Rose}
use Rattle.ipg_outside.specs.Sink.{Output, Takes, Breaks, Tells}
use Rattle.ipg_outside.specs.declared.sink.SinkFault.{SinkFault}
use Rattle.ipg_tree.specs.Puts.{Puts, Whole, Part}
use Rattle.ipg_app_tree.proofs.Written.{Progress, begun, one-more, broken, later}

-- all of a text that was taken
all_of : (text : List ℕ) (before after : Option Output) → Progress before after text [] → Tells before after (Takes text)
all_of text before after p = subst (λ t. Tells before after (Takes t)) (sym (p.is ∙ append-nil p.done)) p.told

module _ (lines tree : List ℕ) (before : Option Output) (counted : ℕ) where
  module _ (mid : Option Output) (m : ℕ) (w : Whole lines before counted mid m) where
    so_far : Progress before mid (lines ++ tree) (tree ++ [])
    so_far =
        subst (Progress before mid (lines ++ tree)) (sym (append-nil tree))
        (one-more before before mid (lines ++ tree) lines tree (begun before (lines ++ tree)) w.told)

    pub both : (after : Option Output) (counts : ℕ) (r : Result (Unit {0}) SinkFault) → Puts r tree mid m after counts
        → Puts r (lines ++ tree) before counted after counts
    both after counts (Ok u) v = record {
      told = all_of (lines ++ tree) before after (one-more before mid after (lines ++ tree) tree [] so_far v.told);
      counts = let x = w.counts in let y = v.counts in omega (arith, x, y);
    }
    both after counts (Err x) v = record {
      told = broken before mid after (lines ++ tree) tree [] so_far v.told;
      failed = later counted m counts w.counts v.failed;
      counts = let x = w.counts in let y = v.counts in omega (arith, x, y);
    }

  pub cut : (after : Option Output) (counts : ℕ) → Tells before after (Breaks lines) → Rose counted counts → counted ≤ counts
      → Part (lines ++ tree) before counted after counts
  cut after counts off rose less = record {
    told = broken before before after (lines ++ tree) lines tree (begun before (lines ++ tree)) off;
    failed = rose;
    counts = less;
  }
