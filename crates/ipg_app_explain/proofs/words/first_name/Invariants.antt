use Rattle.std.proofs.Common.{◌≡◌, ◌++◌, take, drop}
use Rattle.ipg_app_explain.specs.Word.{first_name}
use Rattle.ipg_app_explain.proofs.words.first_name.Given as goal

-- the bytes gone over, and what the name goes on with
abbrev pub invariant-loop-n : goal.invariant-loop-n
invariant-loop-n l = first_name l.bytes ≡ take l.n l.bytes ++ first_name (drop l.n l.bytes)
