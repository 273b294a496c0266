use Rattle.std.proofs.Common.{rules, ℕ, List, Bor}
use Rattle.std.proofs.lemmas.Result.{IfOk-at_ok}
use Rattle.std.proofs.lemmas.Iterator.{YieldsList-from_slice, YieldsList-from_map_by}
use Rattle.ipg_store_adopt.proofs.Names.{told, read_from_collect}
use Rattle.ipg_store_adopt.proofs.whole.all_differ.Goals as goal

pub returns : goal.returns
returns c =
    told (λ (b : Bor (List ℕ)). b.now) c.in_ok-distinct.distinct c.len.result c.args.names.now c.len.ensures.len
    (IfOk-at_ok _ c.in_ok-distinct.was (read_from_collect (λ (b : Bor (List ℕ)). b.now) _ c.collect.result c.collect.ensures.ran
    (YieldsList-from_map_by _ (λ (b : Bor (List ℕ)). b.now) (λ (name : List ℕ). name) (YieldsList-from_slice c.args.names.now cc) c.map.ensures.closure
    (λ x r q k. search rules))))
