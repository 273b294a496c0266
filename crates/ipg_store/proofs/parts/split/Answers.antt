use Rattle.std.proofs.Common.{◌≡◌, ◌≤◌, ◌++◌, length, take, drop, refl, sym, ap, ◌∙◌, arith}
use Rattle.std.proofs.lemmas.List.{take-append-drop}
use Rattle.std.specs.Int.{w64, from_le_bytes}
use Rattle.ipg_store.specs.File.{magic}
use Rattle.ipg_store.proofs.Opened.{put_together}
use Rattle.ipg_store.proofs.parts.split.Goals as goal

pub returns-in-Some-split_at_checked : goal.returns-in-Some-split_at_checked
returns-in-Some-split_at_checked c =
    let first = c.in-Some.ensures.cases in
    let second = c.in-Some-split_first_chunk.ensures.cases in
    let third = c.in-Some-split_at_checked.ensures.cases in
    let whole = c.args.file.now in
    let begins : take 8 whole ≡ magic = sym first.0 ∙ sym c.as_slice.ensures ∙ c.if-not-is_magic.ensures.0 refl in
    let count : c.in-Some-split_first_chunk.count.now ≡ take 8 (drop 8 whole) = second.0 ∙ ap (take 8) first.1 in
    let behind = ap length first.1 in
    let long = second.2 in
    let size : 8 ≤ length (drop 8 whole) = omega arith in
    let number : c.from_le_bytes.result ≡ from_le_bytes w64 c.in-Some-split_first_chunk.count.now = c.from_le_bytes.ensures in
    let many : length c.in-Some-split_at_checked.body.now ≡ c.from_le_bytes.result = third.3 in
    let parts : drop 8 (drop 8 whole) ≡ c.in-Some-split_at_checked.body.now ++ c.in-Some-split_at_checked.proof.now =
    ap (drop 8) (sym first.1) ∙ sym second.1 ∙ sym (take-append-drop c.from_le_bytes.result c.in-Some-split_first_chunk.behind.now)
    ∙ ap (λ xs. xs ++ drop c.from_le_bytes.result c.in-Some-split_first_chunk.behind.now) (sym third.1)
    ∙ ap (λ xs. c.in-Some-split_at_checked.body.now ++ xs) (sym third.2) in (
      put_together whole c.in-Some-split_first_chunk.count.now c.in-Some-split_at_checked.body.now c.in-Some-split_at_checked.proof.now c.from_le_bytes.result
          (λ i. omega (arith, c.type_inv.file i)) begins count size number many parts,
      omega arith,
    )
