use Rattle.std.proofs.Common.{◌≡◌, ◌+◌, [], ◌∷◌, ◌++◌, length, IfOk, OnOk, sym, ap, subst, ◌∙◌, append_assoc}
use Rattle.ipg_table.specs.declared.row.Op.TheVariants.{After, Neg, Not, Two, Both, Either, Truth, Close}
use Rattle.ipg_table.specs.Code.{code, choice_code}
use Rattle.ipg_table.proofs.Opened.{code-opened, depth-opened, after_rows, neg_rows, not_rows, two_rows, both_rows, either_rows, cond_rows}
use Rattle.ipg_table.proofs.Patch.{on_ok, always_ok, patch, patch_behind, patch_choice}
use Rattle.ipg_table.proofs.emit.+emit.Goals as goal

pub expr-returns-clause-ops : goal.expr-returns-clause-ops
expr-returns-clause-ops t c =
    subst (λ rows. OnOk c.level.result (c.level.new.ops.items ≡ c.args.ops.now.items ++ rows)) (sym (code-opened c.args.e.now)) c.level.ensures.ops

pub expr-returns-clause-depth : goal.expr-returns-clause-depth
expr-returns-clause-depth t c =
    subst (λ n. IfOk c.level.result (λ d. d ≡ n)) (sym (depth-opened c.args.e.now)) c.level.ensures.depth

pub level-returns-in_ok-skip-in-After-clause-ops : goal.level-returns-in_ok-skip-in-After-clause-ops
level-returns-in_ok-skip-in-After-clause-ops t c =
    let old = c.args.ops.now.items in
    let at = c.in_ok-at-in-After.ensures in
    let skip = c.in_ok-skip-in-After.ensures in
    always_ok c.deeper.result
    (patch (After c.in-After.term) old _ _ _ (code c.get-in-After.result.now) Close Close _ _ at.at at.ops c.in_ok-depth-in-After.ensures.ops
    skip.behind skip.ops
    ∙ ap (λ l. old ++ After c.in-After.term (length (code l) + 1) ∷ (code l ++ Close ∷ [])) c.get-in-After.ensures
    ∙ ap (λ rows. old ++ rows) (sym (after_rows c.args.e.now c.in-After.left c.in-After.term c.in-After.is)))

pub level-returns-in_ok-depth-in-Neg-clause-ops : goal.level-returns-in_ok-depth-in-Neg-clause-ops
level-returns-in_ok-depth-in-Neg-clause-ops t c =
    let old = c.args.ops.now.items in
    on_ok c.at_depth-in-Neg.result
    (λ h. h
    ∙ ap (λ l. l ++ Neg ∷ []) c.in_ok-depth-in-Neg.ensures.ops
    ∙ append_assoc old (code c.get-in-Neg.result.now) (Neg ∷ [])
    ∙ ap (λ a. old ++ (code a ++ Neg ∷ [])) c.get-in-Neg.ensures
    ∙ ap (λ rows. old ++ rows) (sym (neg_rows c.args.e.now c.in-Neg.a c.in-Neg.is)))
    c.at_depth-in-Neg.ensures.ops

pub level-returns-in_ok-depth-in-Not-clause-ops : goal.level-returns-in_ok-depth-in-Not-clause-ops
level-returns-in_ok-depth-in-Not-clause-ops t c =
    let old = c.args.ops.now.items in
    on_ok c.at_depth-in-Not.result
    (λ h. h
    ∙ ap (λ l. l ++ Not ∷ []) c.in_ok-depth-in-Not.ensures.ops
    ∙ append_assoc old (code c.get-in-Not.result.now) (Not ∷ [])
    ∙ ap (λ a. old ++ (code a ++ Not ∷ [])) c.get-in-Not.ensures
    ∙ ap (λ rows. old ++ rows) (sym (not_rows c.args.e.now c.in-Not.a c.in-Not.is)))
    c.at_depth-in-Not.ensures.ops

pub level-returns-in_ok-right-in-Two-clause-ops : goal.level-returns-in_ok-right-in-Two-clause-ops
level-returns-in_ok-right-in-Two-clause-ops t c =
    let old = c.args.ops.now.items in
    let op = Two c.in-Two.op in
    let left = code c.get-in-Two.result.now in
    let right = code c.get-in-Two-2.result.now in
    on_ok c.at_depth-in-Two.result
    (λ h. h
    ∙ ap (λ l. l ++ op ∷ []) (c.in_ok-right-in-Two.ensures.ops ∙ ap (λ l. l ++ right) c.in_ok-left-in-Two.ensures.ops)
    ∙ append_assoc (old ++ left) right (op ∷ [])
    ∙ append_assoc old left (right ++ op ∷ [])
    ∙ ap (λ a. old ++ (code a ++ (right ++ op ∷ []))) c.get-in-Two.ensures
    ∙ ap (λ b. old ++ (code c.in-Two.a ++ (code b ++ op ∷ []))) c.get-in-Two-2.ensures
    ∙ ap (λ rows. old ++ rows) (sym (two_rows c.args.e.now c.in-Two.a c.in-Two.b c.in-Two.op c.in-Two.is)))
    c.at_depth-in-Two.ensures.ops

pub level-returns-in_ok-skip-in-Both-clause-ops : goal.level-returns-in_ok-skip-in-Both-clause-ops
level-returns-in_ok-skip-in-Both-clause-ops t c =
    let old = c.args.ops.now.items in
    let at = c.in_ok-at-in-Both.ensures in
    let skip = c.in_ok-skip-in-Both.ensures in
    let right = code c.get-in-Both-2.result.now in
    always_ok c.deeper-in-Both.result
    (patch_behind Both old (code c.get-in-Both.result.now) _ _ _ _ right Close Truth _ _ c.in_ok-left-in-Both.ensures.ops at.at at.ops
    c.in_ok-right-in-Both.ensures.ops skip.behind skip.ops
    ∙ ap (λ a. old ++ (code a ++ Both (length right + 1) ∷ (right ++ Truth ∷ []))) c.get-in-Both.ensures
    ∙ ap (λ b. old ++ (code c.in-Both.a ++ Both (length (code b) + 1) ∷ (code b ++ Truth ∷ []))) c.get-in-Both-2.ensures
    ∙ ap (λ rows. old ++ rows) (sym (both_rows c.args.e.now c.in-Both.a c.in-Both.b c.in-Both.is)))

pub level-returns-in_ok-skip-in-Either-clause-ops : goal.level-returns-in_ok-skip-in-Either-clause-ops
level-returns-in_ok-skip-in-Either-clause-ops t c =
    let old = c.args.ops.now.items in
    let at = c.in_ok-at-in-Either.ensures in
    let skip = c.in_ok-skip-in-Either.ensures in
    let right = code c.get-in-Either-2.result.now in
    always_ok c.deeper-in-Either.result
    (patch_behind Either old (code c.get-in-Either.result.now) _ _ _ _ right Close Truth _ _ c.in_ok-left-in-Either.ensures.ops at.at at.ops
    c.in_ok-right-in-Either.ensures.ops skip.behind skip.ops
    ∙ ap (λ a. old ++ (code a ++ Either (length right + 1) ∷ (right ++ Truth ∷ []))) c.get-in-Either.ensures
    ∙ ap (λ b. old ++ (code c.in-Either.a ++ Either (length (code b) + 1) ∷ (code b ++ Truth ∷ []))) c.get-in-Either-2.ensures
    ∙ ap (λ rows. old ++ rows) (sym (either_rows c.args.e.now c.in-Either.a c.in-Either.b c.in-Either.is)))

pub level-returns-in_ok-skip-in-Cond-2-clause-ops : goal.level-returns-in_ok-skip-in-Cond-2-clause-ops
level-returns-in_ok-skip-in-Cond-2-clause-ops t c =
    let old = c.args.ops.now.items in
    let first = c.in_ok-first-in-Cond.ensures in
    let skip = c.in_ok-skip-in-Cond.ensures in
    let other = c.in_ok-skip-in-Cond-2.ensures in
    let tested = code c.get-in-Cond.result.now in
    let left = code c.get-in-Cond-2.result.now in
    let right = code c.get-in-Cond-3.result.now in
    always_ok c.deeper-in-Cond.result
    (patch_choice old _ _ _ _ _ _ tested left right _ _ _ _ c.in_ok-tested-in-Cond.ensures.ops first.at first.ops c.in_ok-left-in-Cond.ensures.ops
    (c.len-second.ensures ∙ c.expr-in-Cond-2.new.ops.ok.0) skip.behind skip.ops c.in_ok-right-in-Cond.ensures.ops other.behind other.ops
    ∙ ap (λ c. old ++ choice_code (code c) left right) c.get-in-Cond.ensures
    ∙ ap (λ a. old ++ choice_code (code c.in-Cond.c) (code a) right) c.get-in-Cond-2.ensures
    ∙ ap (λ b. old ++ choice_code (code c.in-Cond.c) (code c.in-Cond.a) (code b)) c.get-in-Cond-3.ensures
    ∙ ap (λ rows. old ++ rows) (sym (cond_rows c.args.e.now c.in-Cond.c c.in-Cond.a c.in-Cond.b c.in-Cond.is)))
