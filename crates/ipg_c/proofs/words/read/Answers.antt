use Rattle.std.proofs.Common.{◌≡◌, refl, sym, ap, ◌∙◌, arith, map, List, ◌∷◌, [], ◌++◌, ◌+◌, ℕ, drop}
use Rattle.std.specs.String.{string_bytes}
use Rattle.std.proofs.lemmas.List.{map-append}
use Rattle.ipg_c.specs.Handed.{words_of}
use Rattle.ipg_c.proofs.Texts.{err_step, ok_step, read_rest}
use Rattle.ipg_c.proofs.words.read.Goals as goal

pub returns-in-Err : goal.returns-in-Err
returns-in-Err c =
    ap (map string_bytes) c.new.ensures.items ∙ err_step _ _ _ _ (omega (arith, c.loop-word-test.true)) c.in-Err.ensures.cases.0 c.loop-word.invariant

pub loop-word-preserved : goal.loop-word-preserved
loop-word-preserved c =
    let text : List ℕ = string_bytes c.in_ok-from_str-in-Ok.field-0 in
    let done : List (List ℕ) = map string_bytes c.loop-word.read.items in
    let grown : map string_bytes c.push.new.self.items ≡ done ++ text ∷ [] =
    ap (map string_bytes) c.in_ok-push-in-Ok.ensures.items ∙ map-append string_bytes c.loop-word.read.items (c.in_ok-from_str-in-Ok.field-0 ∷ []) in
    ap (λ (words : List (List ℕ)). read_rest words (words_of (drop (c.loop-word.word-index + 1) c.args.words.now))) grown
    ∙ ok_step _ _ _ done text (omega (arith, c.loop-word-test.true)) c.in-Ok.ensures.cases.1 (c.in_ok-from_str-in-Ok.ensures.ok ∙ c.in-Ok.ensures.cases.0)
    c.loop-word.invariant
